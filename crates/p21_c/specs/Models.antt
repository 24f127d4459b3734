-- What the calls of C over the model in hand answer.
use Rattle.std.specs.Prelude.{◌≡◌, ◌⊎◌, ◌↔◌, ◌≤◌, ◌<◌, ℕ, ℤ, Bool, IsTrue, cond, List, Option, None, Some, Contains, filter, length, nat_eq}
use denote.Ref.{Bor}
use Rattle.std.specs.Float.{Float}
use Rattle.p21_c.specs.Contents.{schema_in, users_in}
use Rattle.p21_c.specs.Reports.{done, refused, misused, failed}
use Rattle.p21_c.specs.Filled.{AreFirst, IsToldNumber, IsToldRow, IsToldUse}
use Rattle.p21_c.specs.Spans.{IsSpanOf, ShowsSpan, span_of}
use Rattle.p21_c.specs.declared.contents.Content.{Content}
use Rattle.p21_c.specs.declared.model_instances.AttributeValue.{AttributeValue}
use Rattle.p21_c.specs.declared.model_instances.InstanceLine.{InstanceLine}
use Rattle.p21_c.specs.declared.model_users.UseOf.{UseOf}
use Rattle.p21_c.specs.Types.{declared_told, item_in, member_in, member_told, place_told, renamed_told}
use Rattle.p21_c.specs.declared.model_types.Declared.{Declared}
use Rattle.p21_c.specs.declared.model_types.Member.{Member as ToldMember}
use Rattle.p21_c.specs.declared.model_types.TypeParts.{TypeParts}
use Rattle.p21_c.specs.declared.model_values.NumberDigits.{NumberDigits}
use Rattle.p21_c.specs.declared.spans.Span.{Span}
use Rattle.p21_model.specs.Kept.{AreStated, HaveOneLine, IsKeptLine}
use Rattle.p21_model.specs.Rows.{Row}
use Rattle.p21_model.specs.Told.{AreTold, TellsValue}
use Rattle.p21_model.specs.Uses.{AreUsesIn, HasManyUses}
use Rattle.p21_model.specs.declared.instance.Instance.{Instance}
use Rattle.p21_model_uses.specs.UseRows.{AreInOrder, UseRow}
use Rattle.p21_model_values.specs.Written.{AreLeft, IsTextOf}
use Rattle.p21_model_values.specs.declared.digits.Digits.{Digits}
use Rattle.p21_model_values.specs.declared.value.Value.{Value}
use Rattle.p21_spec_exchange.specs.Parameter.{Params, no_params, param}
use Rattle.p21_spec_exchange.specs.Record.{Record}
use Rattle.p21_spec_file.specs.CanonicalTexts.{IsInstanceText}
use Rattle.p21_express_graph.specs.Resolved.{IsEntity, IsPlace, IsType}
use Rattle.p21_spec_schema.specs.Schema.{EntityNamed, IsAbstract, Kind, Member, Place, PlaceNamed, Schema, TypeNamed, attributes_of, kind_of}
use Rattle.p21_spec_schema.specs.Order.{order}
use Rattle.p21_spec_schema.specs.PlaceType.{PlaceType, TypeAt}
use Rattle.p21_spec_schema.specs.Select.{Offers}
use Rattle.p21_spec_schema.specs.Supertype.{IsA}
use Rattle.p21_stream_output.specs.Output.{Output, IsSectionLine}
use Rattle.p21_stream_store.specs.StoredInstance.{instance_names}

-- ---- instances

-- no instance has this name
abbrev pub HasNoInstance : Output → ℕ → Type 0
HasNoInstance output name = Contains (instance_names output.kept) name → ⊥

-- an instance is told by its name and where its line lies
abbrev pub IsToldAt : InstanceLine → ℕ → Bor (List ℕ) → Type 0
IsToldAt told name line = (told.name ≡ name) × (told.line ≡ span_of line)

-- the instance of this name, if there is one
abbrev pub TellsInstanceOf : Option (Output × Schema) → ℕ → ℕ → InstanceLine → InstanceLine → Type 0
TellsInstanceOf None name status old new = (status ≡ misused) × (new ≡ old)
TellsInstanceOf (Some model) name status old new =
    ((line : Bor (List ℕ)) × IsKeptLine model.0.kept name line.now × IsToldAt new name line × (status ≡ done))
    ⊎ (HasNoInstance model.0 name × (new ≡ old) × (status ≡ refused))

-- the first one from this name on, if there is one
abbrev pub TellsInstanceFrom : Option (Output × Schema) → ℕ → ℕ → InstanceLine → InstanceLine → Type 0
TellsInstanceFrom None least status old new = (status ≡ misused) × (new ≡ old)
TellsInstanceFrom (Some model) least status old new =
    ((line : Bor (List ℕ)) × IsKeptLine model.0.kept new.name line.now × IsToldAt new new.name line × (least ≤ new.name)
    × ((other : ℕ) → least ≤ other → other < new.name → HasNoInstance model.0 other) × (status ≡ done))
    ⊎ (((other : ℕ) → least ≤ other → HasNoInstance model.0 other) × (new ≡ old) × (status ≡ refused))

-- the line with which its data section begins
abbrev pub TellsSection : Option (Output × Schema) → ℕ → ℕ → Span → Span → Type 0
TellsSection None name status old new = (status ≡ misused) × (new ≡ old)
TellsSection (Some model) name status old new = ShowsSpan (IsSectionLine model.0 name) (HasNoInstance model.0 name) status old new

-- a value, if there is one
abbrev pub ShowsValue : Option Value → ℕ → Span → Span → Type 0
ShowsValue None status old new = (new ≡ old) × (status ≡ refused)
ShowsValue (Some value) status old new = (new ≡ span_of value.text) × (status ≡ done)

-- what its line states at a place
pub record StatesAt (model : Output × Schema) (name : ℕ) (place : Place) (value : Option Value) : Type 0 where
  pub found : Instance
  pub is_named : found.name ≡ name
  pub under : found.schema.now ≡ model.1
  pub is_kept : IsKeptLine model.0.kept found.name found.line.now
  pub tells : (record_ : Record) (stated : IsInstanceText found.schema.now found.name record_ found.line.now)
      → TellsValue stated place value

-- the value of an instance at a place, if there are both
abbrev pub TellsValueAt : Option (Output × Schema) → ℕ → Place → ℕ → Span → Span → Type 0
TellsValueAt None name place status old new = (status ≡ misused) × (new ≡ old)
TellsValueAt (Some model) name place status old new =
    ((value : Option Value) × StatesAt model name place value × ShowsValue value status old new)
    ⊎ (HasNoInstance model.0 name × (new ≡ old) × (status ≡ refused))

-- what the line of an instance states is told, in the room for it and with its count
abbrev pub TellsSome : {Y : Type 0} → ((found : Instance) → List Y → ℕ → Type 0) → Option (Output × Schema) → ℕ → List Y → ℕ → ℕ → ℕ
    → Type 0
TellsSome Says None name room status old count = (status ≡ misused) × (count ≡ old)
TellsSome Says (Some model) name room status old count =
    ((found : Instance) × (found.name ≡ name) × (found.schema.now ≡ model.1) × IsKeptLine model.0.kept found.name found.line.now
    × Says found room count × (status ≡ done))
    ⊎ (HasNoInstance model.0 name × (count ≡ old) × (status ≡ refused))

-- the entities of its set, first those that there is room for
abbrev pub SaysEntities : Instance → List ℕ → ℕ → Type 0
SaysEntities found room count =
    (record_ : Record) (stated : IsInstanceText found.schema.now found.name record_ found.line.now) → (set : List ℕ)
    × ((f : ℕ) → Contains set f ↔ Contains stated.canonical_meaning.entities f) × AreFirst IsToldNumber set room count

-- its parameters with their places, first those that there is room for
abbrev pub SaysValues : Instance → List AttributeValue → ℕ → Type 0
SaysValues found room count =
    (record_ : Record) (stated : IsInstanceText found.schema.now found.name record_ found.line.now)
    → (rows : List Row) × AreTold stated rows × AreFirst IsToldRow rows room count

-- ---- values

-- the digits of a number, as C has them
abbrev pub TellsDigits : (Digits → Type 0) → NumberDigits → Type 0
TellsDigits Are told =
    (found : Digits) × Are found × (told ≡ record {
      negative = cond found.negative 1 0;
      exponent = found.exponent;
      whole =
          span_of found.whole;
      fraction = span_of found.fraction;
    })

-- the double that is read from a text, if one is
abbrev pub TellsDouble : Option Float → ℕ → Float → Float → Type 0
TellsDouble None status old new = (new ≡ old) × (status ≡ refused)
TellsDouble (Some nearest) status old new = (new ≡ nearest) × (status ≡ done)

-- the next of these values is handed out, and the others are left
abbrev pub HandsOutElement : Params → List ℕ → ℕ → Span → Span → Span → Span → Type 0
HandsOutElement no_params after status element_old element rest_old rest = (element ≡ element_old) × (rest ≡ rest_old) × (status ≡ refused)
HandsOutElement (param p ps) after status element_old element rest_old rest =
    (text : Bor (List ℕ)) × (left : Bor (List ℕ)) × IsTextOf text.now p × AreLeft ps after left.now × (element ≡ span_of text)
    × (rest ≡ span_of left) × (status ≡ done)

-- ---- users

-- who refers to whom in an accepted file; or nothing, since there are too many uses or there is no memory
abbrev pub MakesUsers : Option (Output × Schema) → ℕ → Option Content → Type 0
MakesUsers None status made = (made ≡ None) × (status ≡ misused)
MakesUsers (Some model) status made =
    ((users : List UseRow) × (users_in made ≡ Some users) × AreInOrder users
    × (AreStated model.1 model.0.kept → HaveOneLine model.0.kept → AreUsesIn model.1 model.0.kept users) × (status ≡ done))
    ⊎ ((made ≡ None) × (AreStated model.1 model.0.kept → HaveOneLine model.0.kept → HasManyUses model.1 model.0.kept) × (status ≡ refused))
    ⊎ ((made ≡ None) × (status ≡ failed))

-- who refers to an instance: how many, and first those that there is room for
abbrev pub TellsUsers : Option (List UseRow) → ℕ → List UseOf → List UseOf → ℕ → ℕ → ℕ → Type 0
TellsUsers None name old room status count_old count = (status ≡ misused) × (room ≡ old) × (count ≡ count_old)
TellsUsers (Some users) name old room status count_old count = (written : ℕ)
    × AreFirst IsToldUse (filter (λ (u : UseRow). nat_eq u.0 name) users) room written
    × (count ≡ length (filter (λ (u : UseRow). nat_eq u.0 name) users)) × (status ≡ done)

-- ---- schemas

-- another handle of the schema of an accepted file
abbrev pub SharesFileSchema : Option (Output × Schema) → ℕ → Option Content → Type 0
SharesFileSchema None status made = (made ≡ None) × (status ≡ misused)
SharesFileSchema (Some model) status made = ((schema_in made ≡ Some model.1) × (status ≡ done)) ⊎ ((made ≡ None) × (status ≡ failed))

-- of the schema that is held this is told; with none nothing changes
abbrev pub OfSchema : Option Schema → ℕ → Type 0 → (Schema → Type 0) → Type 0
OfSchema None status same told = (status ≡ misused) × same
OfSchema (Some s) status same told = told s

-- what is asked for is there, and told; or nothing changes
abbrev pub IfThere : Type 0 → ℕ → Type 0 → Type 0 → Type 0
IfThere there status same told = (there × told × (status ≡ done)) ⊎ ((there → ⊥) × same × (status ≡ refused))

-- the number of what has a name, if something has it
abbrev pub FindsNumber : (Schema → ℕ → Type 0) → Option Schema → ℕ → ℕ → ℕ → Type 0
FindsNumber Is None status old new = (status ≡ misused) × (new ≡ old)
FindsNumber Is (Some s) status old new = (Is s new × (status ≡ done)) ⊎ (((n : ℕ) → Is s n → ⊥) × (new ≡ old) × (status ≡ refused))

-- whether something holds, by 1 and 0
abbrev pub TellsTruth : Type 0 → ℕ → Type 0
TellsTruth Is told = (yes : Bool) × (IsTrue yes ↔ Is) × (told ≡ cond yes 1 0)

-- the name of a schema, and how many entities and types it declares
abbrev pub TellsSchema : Option Schema → ℕ → Span → Span → ℕ → ℕ → ℕ → ℕ → Type 0
TellsSchema held status name_old name entities_old entities types_old types =
    OfSchema held status ((name ≡ name_old) × (entities ≡ entities_old) × (types ≡ types_old))
    (λ s. IsSpanOf (λ text. text ≡ s.name) name × (entities ≡ length s.entities) × (types ≡ length s.types) × (status ≡ done))

-- the name of an entity, whether it is abstract, and how many attributes it declares itself
abbrev pub TellsEntity : Option Schema → ℕ → ℕ → Span → Span → ℕ → ℕ → ℕ → ℕ → Type 0
TellsEntity held entity status name_old name abstract_old is_abstract attributes_old attributes =
    OfSchema held status ((name ≡ name_old) × (is_abstract ≡ abstract_old) × (attributes ≡ attributes_old))
    (λ s. IfThere (IsEntity s entity) status ((name ≡ name_old) × (is_abstract ≡ abstract_old) × (attributes ≡ attributes_old))
    (IsSpanOf (EntityNamed s entity) name × TellsTruth (IsAbstract s entity) is_abstract × (attributes ≡ length (attributes_of s entity))))

-- entities that an entity has: how many, and first those that there is room for
abbrev pub TellsEntityList : (Schema → ℕ → List ℕ) → Option Schema → ℕ → List ℕ → List ℕ → ℕ → ℕ → ℕ → Type 0
TellsEntityList of held entity old room status count_old count =
    OfSchema held status ((room ≡ old) × (count ≡ count_old)) (λ s. IfThere (IsEntity s entity) status ((room ≡ old) × (count ≡ count_old))
    ((written : ℕ) × AreFirst IsToldNumber (of s entity) room written × (count ≡ length (of s entity))))

-- whether an entity is another one or below it
abbrev pub TellsAscent : Option Schema → ℕ → ℕ → ℕ → ℕ → ℕ → Type 0
TellsAscent held entity other status old new =
    OfSchema held status (new ≡ old) (λ s. IfThere (IsEntity s entity × IsEntity s other) status (new ≡ old)
    (TellsTruth (IsA s entity other) new))

-- the name of an attribute
abbrev pub TellsAttribute : Option Schema → Place → ℕ → Span → Span → Type 0
TellsAttribute held place status old new =
    OfSchema held status (new ≡ old) (λ s. IfThere (IsEntity s place.entity × IsPlace s place) status (new ≡ old)
    (IsSpanOf (PlaceNamed s place) new))

-- a type, if there is one
abbrev pub ShowsType : Option TypeParts → ℕ → TypeParts → TypeParts → Type 0
ShowsType None status old new = (new ≡ old) × (status ≡ refused)
ShowsType (Some told) status old new = (new ≡ told) × (status ≡ done)

-- what may stand at an attribute of an instance of an entity, so many aggregates deep
abbrev pub TellsPlaceType : Option Schema → ℕ → Place → ℕ → ℕ → TypeParts → TypeParts → Type 0
TellsPlaceType held of place depth status old new =
    OfSchema held status (new ≡ old) (λ s. ((t : PlaceType) × TypeAt s (order s of) place t × ShowsType (place_told depth t) status old new)
    ⊎ ((IsEntity s of × IsEntity s place.entity × IsPlace s place → ⊥) × (new ≡ old) × (status ≡ refused)))

-- the name of a type, and what it is
abbrev pub TellsType : Option Schema → ℕ → ℕ → Span → Span → Declared → Declared → Type 0
TellsType held number status name_old name declared_old declared =
    OfSchema held status ((name ≡ name_old) × (declared ≡ declared_old))
    (λ s. IfThere (IsType s number) status ((name ≡ name_old) × (declared ≡ declared_old))
    (IsSpanOf (TypeNamed s number) name × (kind : Kind) × (kind_of s number ≡ Some kind) × (declared ≡ declared_told kind)))

-- the type that a type renames, so many aggregates deep
abbrev pub TellsRenamed : Option Schema → ℕ → ℕ → ℕ → TypeParts → TypeParts → Type 0
TellsRenamed held number depth status old new = OfSchema held status (new ≡ old)
    (λ s. ShowsType (renamed_told depth (kind_of s number)) status old new)

-- an item of an enumeration
abbrev pub TellsItem : Option Schema → ℕ → ℕ → ℕ → Span → Span → Type 0
TellsItem held number at status old new =
    OfSchema held status (new ≡ old) (λ s. ShowsSpan (λ text. item_in (kind_of s number) at ≡ Some text)
    (item_in (kind_of s number) at ≡ None) status old new)

-- a member of a select
abbrev pub ShowsMember : Option Member → ℕ → ToldMember → ToldMember → Type 0
ShowsMember None status old new = (new ≡ old) × (status ≡ refused)
ShowsMember (Some member) status old new = (new ≡ member_told member) × (status ≡ done)

abbrev pub TellsMember : Option Schema → ℕ → ℕ → ℕ → ToldMember → ToldMember → Type 0
TellsMember held number at status old new = OfSchema held status (new ≡ old)
    (λ s. ShowsMember (member_in (kind_of s number) at) status old new)

-- whether a select offers a member
abbrev pub TellsOffer : Option Schema → ℕ → Member → ℕ → ℕ → ℕ → Type 0
TellsOffer held number member status old new =
    OfSchema held status (new ≡ old) (λ s. IfThere (IsType s number) status (new ≡ old) (TellsTruth (Offers s number member) new))
