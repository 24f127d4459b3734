-- The needs of a record: what it wants of the instances that it refers to, apart from what these are.
use Rattle.std.specs.Prelude.{◌≡◌, ℕ, ◌+◌, ℤ, Bool, true, false, List, [], ◌∷◌, ◌++◌, length, Option, Some, Contains}
use Rattle.p21_spec_file.specs.Fits.{IsWithinWidth, IsWithinBounds, IfUnique, boolean_items, logical_items}
use Rattle.p21_spec_file.specs.Meaning.{Typed, HasValueAt, NamesEntity, RecordMeans}
use Rattle.p21_spec_exchange.specs.Number.{Decimal, ratio_of, SameRatio, IsReduced, IsInRange, whole_ratio}
use Rattle.p21_spec_schema.specs.Order.{places, own_places}
use Rattle.p21_spec_exchange.specs.Parameter as parameter
use Rattle.p21_spec_exchange.specs.Parameter.{Param, Params, no_params, param, key_of}
use Rattle.p21_spec_schema.specs.PlaceType.{PlaceType, derived_place, stored_place, TypeAt}
use Rattle.p21_spec_exchange.specs.Record.{Part, Record, simple, complex}
use Rattle.p21_spec_file.specs.Reference.{EntitySets, Need}
use Rattle.p21_spec_file.specs.SameValue.{AreDistinct}
use Rattle.p21_spec_schema.specs.Schema as schema
use Rattle.p21_spec_schema.specs.Schema.{Schema, Place, TypeUse, entity_member, type_member, alias, items, Width, TypeNamed, kind_of}
use Rattle.p21_spec_schema.specs.Select.{Offers}
use Rattle.p21_spec_file.specs.Value.{Value, whole, real, number, text, bits, item, reference, derived, missing, list, array, set, bag, typed, Values, no_values, value, count}

-- A parameter at a type, the value that it stands for there, and the needs that have to be served for that
mutual
  pub data FitsWithNeeds (s : Schema) : TypeUse → Param → Value → List Need → Type 0 where
    with_whole : (z : ℤ) → FitsWithNeeds s schema.whole (parameter.whole z) (whole z) []
    with_real : (d : Decimal) → FitsWithNeeds s schema.real (parameter.real d) (real d) []
    with_number : (d : Decimal) → FitsWithNeeds s schema.number (parameter.real d) (number d) []
    with_whole_number : (z : ℤ) (d : Decimal) → IsReduced d → IsInRange (ratio_of d) → SameRatio (ratio_of d) (whole_ratio z) → FitsWithNeeds s schema.number (parameter.whole z) (number d) []
    with_boolean : (word : List ℕ) → Contains boolean_items word → FitsWithNeeds s schema.boolean (parameter.item word) (item word) []
    with_logical : (word : List ℕ) → Contains logical_items word → FitsWithNeeds s schema.logical (parameter.item word) (item word) []
    with_text : (width : Option Width) (chars : List ℕ) → IsWithinWidth width (length chars) → FitsWithNeeds s (schema.text width) (parameter.text chars) (text chars) []
    with_binary : (width : Option Width) (bs : List Bool) → IsWithinWidth width (length bs) → FitsWithNeeds s (schema.bits width) (parameter.bits bs) (bits bs) []
    -- an instance that is of the entity
    with_instance : (e n : ℕ) → FitsWithNeeds s (schema.entity e) (parameter.name n) (reference n) (record { target = n; wanted = entity_member e } ∷ [])
    with_underlying : (t : ℕ) (type : TypeUse) (p : Param) (v : Value) (needs : List Need) → kind_of s t ≡ Some (alias type) → FitsWithNeeds s type p v needs → FitsWithNeeds s (schema.defined t) p v needs
    with_item : (t : ℕ) (words : List (List ℕ)) (word : List ℕ) → kind_of s t ≡ Some (items words) → Contains words word → FitsWithNeeds s (schema.defined t) (parameter.item word) (item word) []
    -- an instance that is of an entity that the select offers, of which there is one
    with_chosen_instance : (t n e : ℕ) → Offers s t (entity_member e) → FitsWithNeeds s (schema.defined t) (parameter.name n) (reference n) (record { target = n; wanted = type_member t } ∷ [])
    with_chosen_type : (t u : ℕ) (name : List ℕ) (p : Param) (v : Value) (needs : List Need) → Offers s t (type_member u) → TypeNamed s u name → FitsWithNeeds s (schema.defined u) p v needs
        → FitsWithNeeds s (schema.defined t) (parameter.typed (key_of name) p) (typed u v) needs
    with_array : (low high : ℕ) (optional unique : Bool) (type : TypeUse) (ps : Params) (vs : Values) (needs : List Need) → FitEachWithNeeds s optional type ps vs needs → count vs + low ≡ high + 1 → IfUnique unique (AreDistinct vs)
        → FitsWithNeeds s (schema.array low high optional unique type) (parameter.list ps) (array vs) needs
    with_list : (low : ℕ) (high : Option ℕ) (unique : Bool) (type : TypeUse) (ps : Params) (vs : Values) (needs : List Need) → FitEachWithNeeds s false type ps vs needs → IsWithinBounds low high (count vs) → IfUnique unique (AreDistinct vs)
        → FitsWithNeeds s (schema.list low high unique type) (parameter.list ps) (list vs) needs
    with_set : (low : ℕ) (high : Option ℕ) (type : TypeUse) (ps : Params) (vs : Values) (needs : List Need) → FitEachWithNeeds s false type ps vs needs → IsWithinBounds low high (count vs) → AreDistinct vs
        → FitsWithNeeds s (schema.set low high type) (parameter.list ps) (set vs) needs
    with_bag : (low : ℕ) (high : Option ℕ) (type : TypeUse) (ps : Params) (vs : Values) (needs : List Need) → FitEachWithNeeds s false type ps vs needs → IsWithinBounds low high (count vs)
        → FitsWithNeeds s (schema.bag low high type) (parameter.list ps) (bag vs) needs

  -- the elements of a list, with the needs of each in their order
  pub data FitEachWithNeeds (s : Schema) : Bool → TypeUse → Params → Values → List Need → Type 0 where
    with_none : (optional : Bool) (type : TypeUse) → FitEachWithNeeds s optional type no_params no_values []
    with_next : (optional : Bool) (type : TypeUse) (p : Param) (v : Value) (ps : Params) (vs : Values) (needs more : List Need) → FitsWithNeeds s type p v needs → FitEachWithNeeds s optional type ps vs more
        → FitEachWithNeeds s optional type (param p ps) (value v vs) (needs ++ more)
    with_empty : (type : TypeUse) (ps : Params) (vs : Values) (needs : List Need) → FitEachWithNeeds s true type ps vs needs → FitEachWithNeeds s true type (param parameter.dollar ps) (value missing vs) needs

-- A parameter at a place
pub data FitsAtWithNeeds (s : Schema) : PlaceType → Param → Value → List Need → Type 0 where
  with_star : FitsAtWithNeeds s derived_place parameter.star derived []
  with_dollar : (type : TypeUse) → FitsAtWithNeeds s (stored_place true type) parameter.dollar missing []
  with_fit : (optional : Bool) (type : TypeUse) (p : Param) (v : Value) (needs : List Need) → FitsWithNeeds s type p v needs → FitsAtWithNeeds s (stored_place optional type) p v needs

abbrev pub FitsPlaceWithNeeds : Schema → Typed → Place → Param → List Need → Type 0
FitsPlaceWithNeeds s meaning place p needs = (at : PlaceType) × (v : Value) × TypeAt s meaning.entities place at × FitsAtWithNeeds s at p v needs × HasValueAt meaning place v

-- the parameters at places one by one
abbrev pub FitPlacesWithNeeds : Schema → Typed → List Place → Params → List Need → Type 0
FitPlacesWithNeeds s meaning [] no_params needs = needs ≡ []
FitPlacesWithNeeds s meaning [] (param p ps) needs = ⊥
FitPlacesWithNeeds s meaning (place ∷ rest) no_params needs = ⊥
FitPlacesWithNeeds s meaning (place ∷ rest) (param p ps) needs = (first more : List Need) × (needs ≡ first ++ more) × FitsPlaceWithNeeds s meaning place p first × FitPlacesWithNeeds s meaning rest ps more

-- a simple record at the places of the entity that its keyword names: those of its order, or its own
abbrev pub AreNeedsOfPart : Schema → Typed → (ℕ → List Place) → Part → List Need → Type 0
AreNeedsOfPart s meaning places_of part needs = (e : ℕ) × NamesEntity s part.key e × FitPlacesWithNeeds s meaning (places_of e) part.params needs

abbrev pub AreNeedsOfParts : Schema → Typed → List Part → List Need → Type 0
AreNeedsOfParts s meaning [] needs = needs ≡ []
AreNeedsOfParts s meaning (part ∷ parts) needs = (first more : List Need) × (needs ≡ first ++ more) × AreNeedsOfPart s meaning (own_places s) part first × AreNeedsOfParts s meaning parts more

-- the needs of a record that means this, in their order
abbrev pub AreNeedsOfRecord : Schema → Record → Typed → List Need → Type 0
AreNeedsOfRecord s (simple part) meaning needs = AreNeedsOfPart s meaning (places s) part needs
AreNeedsOfRecord s (complex parts) meaning needs = AreNeedsOfParts s meaning parts needs

-- the record means this under some sets of the instances, and has these needs
pub record MeansWithNeeds (s : Schema) (record_ : Record) (meaning : Typed) (needs : List Need) : Type 0 where
  pub kinds : EntitySets
  pub means : RecordMeans s kinds record_ meaning
  pub needs_are : AreNeedsOfRecord s record_ meaning needs
