-- What an outline has, and what all schemas of a text have in common with it.
use Rattle.std.specs.Prelude.{◌≡◌, ◌≢◌, ℕ, ◌+◌, ◌<◌, ◌≤◌, List, [], ◌∷◌, length, map, Option, Some, None, slice_get, Contains, Result, Ok, Err, refl}
use Rattle.std.specs.Result.{IsErr, IsErrAnd}
use Rattle.std.proofs.Common.{arith, ap, sym, ◌∙◌, subst, inl, inr}
use Rattle.std.proofs.lemmas.List.{length-map}
use Rattle.std.proofs.lemmas.Option.{slice_get_within}
use Rattle.std.proofs.lemmas.Slice.Zip.{AllZip-long}
use Rattle.p21_spec_basics.proofs.Members.{Contains-none, Contains-found, AllZip-member, AllZip-second_member}
use Rattle.p21_spec_schema.specs.Schema as schema
use Rattle.p21_spec_schema.specs.Schema.{Schema, TypeUse, Kind, Entity, Defined}
use Rattle.p21_spec_schema.specs.Declared.{Declares, HasNoCircle, HasSupertype, Renames, HasSelect, most_declarations}
use Rattle.p21_spec_schema.specs.SchemaDeclaration.{SchemaDeclaration, entities_of, types_of}
use Rattle.p21_spec_schema.specs.Supertype.{supertypes_of}
use Rattle.p21_spec_schema.specs.WellFormed.{AreEntities}
use Rattle.p21_express.specs.ReadSchema.{AreOfText, DeclareNoSchema, OutlineChecked, PartsChecked, SchemaRead}
use Rattle.p21_express_outline.specs.Chains.{AreTypes}
use Rattle.p21_express_lexemes.specs.declared.fault.SyntaxFault.{SyntaxFault}
use Rattle.p21_express_lexemes.specs.declared.fault.SyntaxFault.TheVariants as syntax
use Rattle.p21_express_outline.specs.Fault.{of_syntax}
use Rattle.p21_express_syntax.specs.Views.{schema_view, entity_view, defined_view}
use Rattle.p21_express_syntax.specs.declared.schema.Declarations.{Declarations}
use Rattle.p21_express_graph.specs.SchemaContents.{schema_of, entity, defined}
use Rattle.p21_express_graph.specs.declared.schema_contents.SchemaContents.{SchemaContents}
use Rattle.p21_express_outline.specs.Finding.{RefusalShows}
use Rattle.p21_express_outline.specs.declared.fault.SchemaFault.{SchemaFault}
use Rattle.p21_express_outline.specs.DeclaredBy.{DeclaredBy, RenamesNoSelect}
use Rattle.p21_express_outline.specs.Outline.{Named, digest_names, IsNamed, SimpleIs, DigestKindIs, EntityOutline, TypeOutline, IsOutline, aggregates_of}
use Rattle.p21_express_outline.proofs.Agreeing.{supertypes-bare}
use Rattle.p21_express_outline.proofs.SchemaDigests.{declared-text, text-declared}
use Rattle.p21_express_outline.proofs.OneOutline.{outline-one}
use Rattle.p21_express_syntax.specs.Digest.{SchemaDigest, BodyDigest, enumeration, select, underlying}
use Rattle.p21_express_syntax.specs.Digesting.{schema_digest, entity_digest, defined_type_digest}
use Rattle.p21_express_syntax.specs.ReadDeclarations.{IsTextOf}
use Rattle.p21_express_syntax.specs.declared.types.Aggregate.{Aggregate}
use Rattle.p21_express_syntax.specs.declared.types.Aggregate.TheVariants as aggregate
use Rattle.p21_express_syntax.specs.declared.types.SimpleType.{SimpleType}
use Rattle.p21_express_syntax.specs.declared.types.SimpleType.TheVariants as simple
use Rattle.p21_express_syntax.proofs.SchemasRead.{one_digest}

-- ---- numbers are those of the schema

pub outline-entities : (k : SchemaDigest) (s : Schema) → IsOutline k s → AreEntities s
outline-entities k s outline e f up = by (slice_get s.entities e) refl up
  where
    count : length s.entities ≡ length (digest_names k).entities
    count = AllZip-long (EntityOutline (digest_names k)) k.entities s.entities outline.entities_are
        ∙ sym (length-map k.entities (λ x. x.name))

    by : (o : Option Entity) → slice_get s.entities e ≡ o → Contains (elim o [ Some x ↦ x.supertypes | None ↦ [] ]) f
        → f < length s.entities
    by None at among = absurd (Contains-none f among)
    by (Some x) at among =
        let (d, d_among, is) = AllZip-second_member (EntityOutline (digest_names k)) k.entities s.entities x outline.entities_are
        (Contains-found s.entities e x at) in
        let (name, name_among, named) = AllZip-member (IsNamed (digest_names k).entities) x.supertypes d.supertypes f is.supertypes_are
        among in
        let below = slice_get_within (digest_names k).entities f name named in omega (arith, below, count)

named-defined : (n : Named) (kept : SimpleType) (u : ℕ) → SimpleIs n kept (schema.defined u) → u < length n.types
named-defined n simple.Integer u is = cc
named-defined n simple.Real u is = cc
named-defined n simple.Number u is = cc
named-defined n simple.Boolean u is = cc
named-defined n simple.Logical u is = cc
named-defined n (simple.String width) u is = cc
named-defined n (simple.Binary width) u is = cc
named-defined n (simple.Named name) u (inl h) = let same : schema.defined u ≡ schema.entity h.0 = h.2 in cc
named-defined n (simple.Named name) u (inr h) = let same : schema.defined u ≡ schema.defined h.0 = h.2 in let one : u ≡ h.0 = cc in
    let below = slice_get_within n.types h.0 name h.1 in omega (arith, one, below)

type-defined : (n : Named) (aggregates : List Aggregate) (simple_ : SimpleType) (element : TypeUse) (u : ℕ) → SimpleIs n simple_ element
    → schema.defined u ≡ aggregates_of aggregates element → u < length n.types
type-defined n [] simple_ element u is same = named-defined n simple_ u (subst (SimpleIs n simple_) (sym same) is)
type-defined n (aggregate.Array low high optional unique ∷ aggregates) simple_ element u is same = cc
type-defined n (aggregate.List range unique ∷ aggregates) simple_ element u is same = cc
type-defined n (aggregate.Set range ∷ aggregates) simple_ element u is same = cc
type-defined n (aggregate.Bag range ∷ aggregates) simple_ element u is same = cc

kind-defined : (n : Named) (body : BodyDigest) (u : ℕ) → DigestKindIs n body (schema.alias (schema.defined u)) → u < length n.types
kind-defined n (underlying kept) u (type, (element, is, type_is), alone, same) =
    let one : schema.defined u ≡ type = (let h : schema.alias (schema.defined u) ≡ schema.alias type = same in cc) in
    type-defined n kept.aggregates kept.element element u is (one ∙ type_is)
kind-defined n (enumeration names) u is = let h : schema.alias (schema.defined u) ≡ schema.items names = is.0 in cc
kind-defined n (select names) u (members, are, distinct, same) = cc

pub outline-types : (k : SchemaDigest) (s : Schema) → IsOutline k s → AreTypes s
outline-types k s outline t u renames = by (slice_get s.types t) refl renames
  where
    count : length s.types ≡ length (digest_names k).types
    count = AllZip-long (TypeOutline (digest_names k)) k.types s.types outline.types_are ∙ sym (length-map k.types (λ x. x.name))

    by : (o : Option Defined) → slice_get s.types t ≡ o
        → ◌≡◌ {A = Option Kind} (elim o [ Some x ↦ Some x.kind | None ↦ None ]) (Some (schema.alias (schema.defined u)))
        → u < length s.types
    by None at is = cc
    by (Some x) at is =
        let (d, d_among, holds) = AllZip-second_member (TypeOutline (digest_names k)) k.types s.types x outline.types_are
        (Contains-found s.types t x at) in
        let same : x.kind ≡ schema.alias (schema.defined u) = cc in
        let below = kind-defined (digest_names k) d.body u (subst (DigestKindIs (digest_names k) d.body) same holds.kind_is) in
        omega (arith, below, count)

-- ---- how many there are

pub outline-few : (tree : SchemaDeclaration) (s : Schema) (text : List ℕ) → IsTextOf tree text → IsOutline (schema_digest tree) s
    → length s.entities + length s.types ≤ most_declarations
outline-few tree s text is outline =
    let e : length s.entities ≡ length (map entity_digest (entities_of tree.declarations)) =
    AllZip-long (EntityOutline (digest_names (schema_digest tree))) (map entity_digest (entities_of tree.declarations)) s.entities
    outline.entities_are in
    let t : length s.types ≡ length (map defined_type_digest (types_of tree.declarations)) =
    AllZip-long (TypeOutline (digest_names (schema_digest tree))) (map defined_type_digest (types_of tree.declarations)) s.types
    outline.types_are in
    omega (
      arith,
      e,
      t,
      length-map (entities_of tree.declarations) entity_digest,
      length-map (types_of tree.declarations)
          defined_type_digest,
      is.is_within.count_within,
    )

-- ---- refusals

-- each schema of the text is declared by what is kept
pub declared-of : (text : List ℕ) (tree : SchemaDeclaration) (s : Schema) → IsTextOf tree text → Declares text s
    → DeclaredBy (schema_digest tree) s
declared-of text tree s is declares =
    let (x, x_text, by) = declared-text text s declares in
    let P : SchemaDigest → Type 0 = λ k. DeclaredBy k s in
    subst P (one_digest text x tree x_text is) by

-- and has the supertypes of its outline
pub supertypes-same : (k : SchemaDigest) (s t : Schema) → IsOutline k s → IsOutline k t → HasNoCircle (HasSupertype t)
    → HasNoCircle (HasSupertype s)
supertypes-same k s t is is_ ends = (
  ends.0,
  λ e f up.
      let P : List ℕ → Type 0 = λ fs. Contains fs f in
      let Q : Schema → Type 0 = λ v. Contains (supertypes_of v e) f in
      ends.1 e f (subst P (supertypes-bare t e) (subst Q (outline-one k s t is is_) (subst P (sym (supertypes-bare s e)) up))),
)

types-same : (k : SchemaDigest) (s t : Schema) → IsOutline k s → IsOutline k t → s.types ≡ t.types
types-same k s t is is_ = let f : Schema → List Defined = λ v. v.types in ap f (outline-one k s t is is_)

pub renaming-same : (k : SchemaDigest) (s t : Schema) → IsOutline k s → IsOutline k t → HasNoCircle (Renames t) → HasNoCircle (Renames s)
renaming-same k s t is is_ ends = (
  ends.0,
  λ x y renames.
      let P : List Defined → Type 0 = λ ts. ◌≡◌ {A = Option Kind} (elim (slice_get ts x) [ Some z ↦ Some z.kind | None ↦ None ])
      (Some (schema.alias (schema.defined y))) in
      ends.1 x y (subst P (types-same k s t is is_) renames),
)

pub no_select-same : (k : SchemaDigest) (s t : Schema) → IsOutline k s → IsOutline k t → RenamesNoSelect t → RenamesNoSelect s
no_select-same k s t is is_ none = λ x y renames (members, select_is).
    let P : List Defined → Type 0 = λ ts. ◌≡◌ {A = Option Kind} (elim (slice_get ts x) [ Some z ↦ Some z.kind | None ↦ None ])
    (Some (schema.alias (schema.defined y))) in
    let Q : List Defined → Type 0 = λ ts. ◌≡◌ {A = Option Kind} (elim (slice_get ts y) [ Some z ↦ Some z.kind | None ↦ None ])
    (Some (schema.choice members)) in
    none x y (subst P (types-same k s t is is_) renames) (members, subst Q (types-same k s t is is_) select_is)

pub selects-same : (k : SchemaDigest) (s t : Schema) → IsOutline k s → IsOutline k t → HasNoCircle (HasSelect t) → HasNoCircle (HasSelect s)
selects-same k s t is is_ ends = (
  ends.0,
  λ x y ((members, choice_is, among), (others, select_is)).
      let P : List Defined → Type 0 = λ ts. ◌≡◌ {A = Option Kind} (elim (slice_get ts x) [ Some z ↦ Some z.kind | None ↦ None ])
      (Some (schema.choice members)) in
      let Q : List Defined → Type 0 = λ ts. ◌≡◌ {A = Option Kind} (elim (slice_get ts y) [ Some z ↦ Some z.kind | None ↦ None ])
      (Some (schema.choice others)) in
      ends.1 x y ((members, subst P (types-same k s t is is_) choice_is, among), (others, subst Q (types-same k s t is is_) select_is)),
)

-- where a test of the outline fails no schema is declared
pub supertypes-refused : (k : SchemaDigest) (s t : Schema) → IsOutline k s → DeclaredBy k t → HasNoCircle (HasSupertype s)
supertypes-refused k s t outline by = supertypes-same k s t outline by.outline by.supertypes_end

pub renaming-refused : (k : SchemaDigest) (s t : Schema) → IsOutline k s → DeclaredBy k t → HasNoCircle (Renames s)
renaming-refused k s t outline by = renaming-same k s t outline by.outline by.renaming_ends

pub no_select-refused : (k : SchemaDigest) (s t : Schema) → IsOutline k s → DeclaredBy k t → RenamesNoSelect s
no_select-refused k s t outline by = no_select-same k s t outline by.outline by.no_select

pub selects-refused : (k : SchemaDigest) (s t : Schema) → IsOutline k s → DeclaredBy k t → HasNoCircle (HasSelect s)
selects-refused k s t outline by = selects-same k s t outline by.outline by.selects_end

-- ---- the steps of the outline

pub few-of : (d : Declarations) → AreOfText (schema_view d) → length d.entities.items + length d.types.items ≤ most_declarations
few-of d (tree, text, is, same) =
    let e : length (map entity_view d.entities.items) ≡ length (map entity_digest (entities_of tree.declarations)) =
    ap (λ k. length k.entities) same in
    let t : length (map defined_view d.types.items) ≡ length (map defined_type_digest (types_of tree.declarations)) =
    ap (λ k. length k.types) same in
    omega (
      arith,
      e,
      t,
      length-map d.entities.items entity_view,
      length-map d.types.items defined_view,
      length-map
          (entities_of tree.declarations) entity_digest,
      length-map (types_of tree.declarations) defined_type_digest,
      is.is_within.count_within,
    )

pub few-outline : (k : SchemaDigest) (s : Schema) → AreOfText k → IsOutline k s → length s.entities + length s.types ≤ most_declarations
few-outline k s (tree, text, is, same) outline = let P : SchemaDigest
    → Type 0 = λ v. IsOutline v s in outline-few tree s text is (subst P same outline)

pub few-entities : (k : SchemaDigest) (parts : SchemaContents) → AreOfText k → IsOutline k (schema_of parts)
    → length parts.entities.items ≤ most_declarations
few-entities k parts of_text outline = let few = few-outline k (schema_of parts) of_text outline in
    omega (arith, few, length-map parts.entities.items entity)

pub few-types : (k : SchemaDigest) (parts : SchemaContents) → AreOfText k → IsOutline k (schema_of parts)
    → length parts.types.items ≤ most_declarations
few-types k parts of_text outline = let few = few-outline k (schema_of parts) of_text outline in
    omega (arith, few, length-map parts.types.items defined)

pub outline-refused : (k : SchemaDigest) (fault : SchemaFault) (result : Result SchemaContents SchemaFault) → IsErr result
    → IsErrAnd result (λ found. found ≡ fault) → RefusalShows fault ((s : Schema) → IsOutline k s → ⊥) → OutlineChecked k result
outline-refused k fault (Ok parts) is_err is refused = cc
outline-refused k fault (Err found) is_err is refused = λ other s by. refused (λ e. other (is ∙ e)) s by.outline

pub test-refused : (k : SchemaDigest) (parts : SchemaContents) (claim : Type 0) (fault : SchemaFault)
    (result : Result (Unit {0}) SchemaFault) → IsErr result → IsErrAnd result (λ found. found ≡ fault)
    → ((s : Schema) → DeclaredBy k s → claim) → RefusalShows fault (claim → ⊥)
    → PartsChecked k parts result
test-refused k parts claim fault (Ok _) is_err is so refused = cc
test-refused k parts claim fault (Err found) is_err is so refused = λ other s by. refused (λ e. other (is ∙ e)) (so s by)

pub parts-refused : (k : SchemaDigest) (parts : SchemaContents) (fault : SchemaFault) (result : Result SchemaContents SchemaFault)
    → IsErr result → IsErrAnd result (λ found. found ≡ fault) → PartsChecked k parts (Err fault) → OutlineChecked k result
parts-refused k parts fault (Ok other) is_err is refused = cc
parts-refused k parts fault (Err found) is_err is refused = λ other s by. refused (λ e. other (is ∙ e)) s by

-- ---- texts

pub syntax-refused : (text : List ℕ) (fault : SyntaxFault) (result : Result Schema SchemaFault) → IsErr result
    → IsErrAnd result (λ found. found ≡ of_syntax fault) → (fault ≢ syntax.NoMemory → (x : SchemaDeclaration) → IsTextOf x text → ⊥)
    → SchemaRead text result
syntax-refused text fault (Ok s) is_err is refused = cc
syntax-refused text fault (Err found) is_err is refused = λ other s declares. let (x, x_text, by) = declared-text text s declares in
    refused (λ e. other (is ∙ ap of_syntax e)) x x_text

-- what the declarations of a text declare, the text declares
pub declared-read : (text : List ℕ) (k : SchemaDigest) (s : Schema) → ((x : SchemaDeclaration) × IsTextOf x text × (k ≡ schema_digest x))
    → DeclaredBy k s → Declares text s
declared-read text k s (tree, is, same) by = let P : SchemaDigest
    → Type 0 = λ v. DeclaredBy v s in text-declared text tree s is (subst P same by)

pub none-read : (text : List ℕ) (k : SchemaDigest) → ((x : SchemaDeclaration) × IsTextOf x text × (k ≡ schema_digest x)) → DeclareNoSchema k
    → (s : Schema) → Declares text s → ⊥
none-read text k (tree, is, same) none s declares = let P : SchemaDigest
    → Type 0 = λ v. DeclaredBy v s in none s (subst P (sym same) (declared-of text tree s is declares))
