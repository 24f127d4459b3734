-- What entities redeclare, put into them.
use Rattle.std.specs.Prelude.{◌≡◌, ℕ, ◌+◌, ◌<◌, ◌≤◌, List, [], ◌∷◌, ◌++◌, length, map, take, Result, Ok, Err, Vec, refl}
use Rattle.std.specs.List.{AllZip, IsDistinct, enumerate_from}
use Rattle.std.specs.Result.{IsErr, IsErrAnd}
use Rattle.std.specs.Str.{bytes_eq}
use Rattle.std.proofs.Common.{arith, ap, sym, ◌∙◌, subst, get_or}
use Rattle.std.proofs.Math.ListN.{get_or-map}
use Rattle.std.proofs.lemmas.List.{length-map}
use Rattle.std.proofs.lemmas.List.FromFn.{length-enumerate_from, get_or-enumerate_from}
use Rattle.std.proofs.lemmas.Slice.Zip.{AllZip-long}
use Rattle.p21_spec_schema.specs.Schema.{Schema, Entity}
use Rattle.p21_express.specs.ReadSchema.{IsBareSchema, DeclareNoSchema, BareRead, SchemaDeclared}
use Rattle.p21_express.proofs.Outlines.{supertypes-same, renaming-same, no_select-same, selects-same}
use Rattle.p21_express_outline.proofs.Finding.{each-refused, take-all, zip-more}
use Rattle.p21_express_outline.specs.Finding.{RefusalShows, FindsEach}
use Rattle.p21_express_outline.specs.declared.fault.SchemaFault.{SchemaFault}
use Rattle.p21_express_outline.specs.declared.fault.SchemaFault.TheVariants as fault
use Rattle.p21_express_outline.specs.Bare.{bare, bare_entity}
use Rattle.p21_express_outline.specs.DeclaredBy.{DeclaredBy}
use Rattle.p21_express_outline.specs.Known.{AreFew, names_of}
use Rattle.p21_express_outline.specs.Outline.{Named, digest_names, EntityOutline, TypeOutline, IsOutline}
use Rattle.p21_express_outline.specs.Redeclarations.{RedeclarationsAre}
use Rattle.p21_express_outline.proofs.Agreeing.{Agree, bare-agrees, agrees-bare, redeclarations-agree}
use Rattle.p21_express_outline.proofs.OneOutline.{outline-one}
use Rattle.p21_express_outline.proofs.Zips.{AllZip-same, numbered-weaker}
use Rattle.p21_express_syntax.specs.Digest.{EntityDigest, SchemaDigest}
use Rattle.p21_express_syntax.specs.Views.{entity_view, schema_view}
use Rattle.p21_express_syntax.specs.declared.schema.Declarations.{Declarations}
use Rattle.p21_express_syntax.specs.declared.entity.Entity as syntax
use Rattle.p21_express_graph.specs.Resolved.{HoldsTogether}
use Rattle.p21_express_graph.specs.SchemaContents.{redeclared}
use Rattle.p21_express_graph.specs.Redeclaring.{redeclaring, redeclaring_as, redeclaring_each, redeclaring_schema}
use Rattle.p21_express_graph.specs.declared.schema_contents.KnownNames.{KnownNames}
use Rattle.p21_express_graph.specs.declared.schema_contents.Redeclarations.{Redeclarations}
use Rattle.p21_express_graph.proofs.SameEntities.{each-same}
use Rattle.p21_express_graph.specs.Meaning.{place}

-- ---- entities, each with what another one redeclares

-- what holds without regard to redeclarations
each-first : {X : Type 0} (R : X → Entity → Type 0) → ((w : X) (x y : Entity) → R w x → R w (redeclaring_as x y))
    → (ws : List X) (xs ys : List Entity) → length xs ≡ length ys → AllZip R ws xs → AllZip R ws (redeclaring_each xs ys)
each-first R so [] [] ys long all = tt
each-first R so [] (x ∷ xs) ys long all = absurd all
each-first R so (w ∷ ws) [] ys long all = absurd all
each-first R so (w ∷ ws) (x ∷ xs) [] long all = absurd (omega (arith, long))
each-first R so (w ∷ ws) (x ∷ xs) (y ∷ ys) long all = (so w x y all.0, each-first R so ws xs ys (omega (arith, long)) all.1)

-- and what holds by these alone
each-second : {X : Type 0} (R : X → Entity → Type 0) → ((w : X) (x y : Entity) → R w y → R w (redeclaring_as x y))
    → (ws : List X) (xs ys : List Entity) → length xs ≡ length ys → AllZip R ws ys → AllZip R ws (redeclaring_each xs ys)
each-second R so [] [] [] long all = tt
each-second R so [] [] (y ∷ ys) long all = absurd all
each-second R so [] (x ∷ xs) [] long all = absurd (omega (arith, long))
each-second R so [] (x ∷ xs) (y ∷ ys) long all = absurd all
each-second R so (w ∷ ws) xs [] long all = absurd all
each-second R so (w ∷ ws) [] (y ∷ ys) long all = absurd (omega (arith, long))
each-second R so (w ∷ ws) (x ∷ xs) (y ∷ ys) long all = (so w x y all.0, each-second R so ws xs ys (omega (arith, long)) all.1)

outline-as : (n : Named) (w : EntityDigest) (x y : Entity) → EntityOutline n w x → EntityOutline n w (redeclaring_as x y)
outline-as n w x y is = record {
  name_is = is.name_is;
  abstract_is = is.abstract_is;
  supertypes_are = is.supertypes_are;
  attributes_are =
      is.attributes_are;
  supertypes_distinct = is.supertypes_distinct;
  names_distinct = is.names_distinct;
}

redeclared-as : (s : Schema) (n : Named) (entities : List EntityDigest) (e : ℕ) (w : EntityDigest) (x y : Entity)
    → RedeclarationsAre s n entities e w y → RedeclarationsAre s n entities e w (redeclaring_as x y)
redeclared-as s n entities e w x y is = record {
  redeclared_are = is.redeclared_are;
  derived_are = is.derived_are;
  places_distinct =
      is.places_distinct;
}

-- ---- a schema with its redeclarations

-- what each entity redeclares, in the order of the declarations
abbrev AreIn : Schema → SchemaDigest → List Entity → Type 0
AreIn s k ys = AllZip (λ own found. RedeclarationsAre s (digest_names k) k.entities own.0 own.1 found) (enumerate_from 0 k.entities) ys

pub found-length : (k : SchemaDigest) (s : Schema) (ys : List Entity) → IsBareSchema k s → AreIn s k ys → length s.entities ≡ length ys
found-length k s ys is are =
    let x : length s.entities ≡ length k.entities = AllZip-long (EntityOutline (digest_names k)) k.entities s.entities
    is.outline.entities_are in
    let y : length ys ≡ length (enumerate_from 0 k.entities) =
    AllZip-long (λ own found. RedeclarationsAre s (digest_names k) k.entities own.0 own.1 found) (enumerate_from 0 k.entities) ys are in
    let z : length (enumerate_from 0 k.entities) ≡ length k.entities = length-enumerate_from 0 k.entities in
    omega (arith, x, y, z)

whole-bare : (k : SchemaDigest) (s : Schema) (ys : List Entity) → IsBareSchema k s → AreIn s k ys → bare (redeclaring_schema s ys) ≡ s
whole-bare k s ys is are =
    let f : List Entity → Schema = λ es. record { name = s.name; entities = es; types = s.types; one_of_lists = s.one_of_lists } in
    ap f (each-same bare_entity (λ x y. refl) s.entities ys (found-length k s ys is are)) ∙ is.is_bare

whole-outline : (k : SchemaDigest) (s : Schema) (ys : List Entity) → IsBareSchema k s → AreIn s k ys → IsOutline k (redeclaring_schema s ys)
whole-outline k s ys is are = record {
  name_is = is.outline.name_is;
  entities_are = each-first (EntityOutline (digest_names k)) (outline-as (digest_names k)) k.entities s.entities ys
      (found-length k s ys is are) is.outline.entities_are;
  types_are = is.outline.types_are;
  one_of_are = is.outline.one_of_are;
  names_distinct = is.outline.names_distinct;
}

-- the schema is declared
pub whole-declared : (k : SchemaDigest) (s : Schema) (ys : List Entity) → IsBareSchema k s → AreIn s k ys
    → DeclaredBy k (redeclaring_schema s ys)
whole-declared k s ys is are =
    let t : Schema = redeclaring_schema s ys in
    let outline : IsOutline k t = whole-outline k s ys is are in
    let P : Schema → Type 0 = λ v. Agree v t in
    let agree : Agree s t = subst P (whole-bare k s ys is are) (bare-agrees t) in
    record {
      outline = outline;
      redeclared = numbered-weaker (RedeclarationsAre s (digest_names k) k.entities) (RedeclarationsAre t (digest_names k) k.entities) 0
          k.entities t.entities
          (λ e w found h. redeclarations-agree s t agree (digest_names k) k.entities e w found h)
          (each-second (λ own found. RedeclarationsAre s (digest_names k) k.entities own.0 own.1 found)
          (λ own x y h. redeclared-as s (digest_names k) k.entities own.0 own.1 x y h) (enumerate_from 0 k.entities) s.entities ys
          (found-length k s ys is are) are);
      no_select = no_select-same k t s outline is.outline is.no_select;
      supertypes_end = supertypes-same k t s outline is.outline is.supertypes_end;
      renaming_ends = renaming-same k t s outline is.outline is.renaming_ends;
      selects_end = selects-same k t s outline is.outline is.selects_end;
    }

-- what a declared schema redeclares is so in the bare one
pub declared-redeclares : (k : SchemaDigest) (s t : Schema) → IsBareSchema k s → DeclaredBy k t → AreIn s k t.entities
declared-redeclares k s t is by =
    let P : Schema → Type 0 = λ v. Agree t v in
    let agree : Agree t s = subst P (outline-one k t s by.outline is.outline ∙ is.is_bare) (agrees-bare t) in
    numbered-weaker (RedeclarationsAre t (digest_names k) k.entities) (RedeclarationsAre s (digest_names k) k.entities) 0 k.entities
    t.entities (λ e w found h. redeclarations-agree t s agree (digest_names k) k.entities e w found h) by.redeclared

-- ---- the steps

-- there are as many entities as declarations
pub declared-length : (d : Declarations) (s : Schema) → IsBareSchema (schema_view d) s → length d.entities.items ≡ length s.entities
declared-length d s is =
    let x : length s.entities ≡ length (map entity_view d.entities.items) =
    AllZip-long (EntityOutline (digest_names (schema_view d))) (map entity_view d.entities.items) s.entities is.outline.entities_are in
    sym (x ∙ length-map d.entities.items entity_view)

-- the names of the schema are those of the declarations
pub known-names : (k : SchemaDigest) (s : Schema) (known : KnownNames) → IsOutline k s → known.entities ≡ map (λ x. x.name) s.entities
    → known.types ≡ map (λ x. x.name) s.types → names_of known ≡ digest_names k
known-names k s known is entities_are types_are =
    let n = digest_names k in
    let f : List (List ℕ) → Named = λ v. record { entities = v; types = known.types } in
    let g : List (List ℕ) → Named = λ v. record { entities = n.entities; types = v } in
    ap f (entities_are ∙ AllZip-same (EntityOutline n) (λ x. x.name) (λ x. x.name) (λ x y h. h.name_is) k.entities s.entities
    is.entities_are)
    ∙ ap g (types_are ∙ AllZip-same (TypeOutline n) (λ x. x.name) (λ x. x.name) (λ x y h. h.name_is) k.types s.types is.types_are)

-- and they are few
pub known-few : (s : Schema) (known : KnownNames) → known.entities ≡ map (λ x. x.name) s.entities → known.types ≡ map (λ x. x.name) s.types
    → HoldsTogether s → AreFew known
known-few s known entities_are types_are holds =
    let few = holds.few in
    let entities : length known.entities ≡ length s.entities = ap length entities_are ∙ length-map s.entities (λ x. x.name) in
    let types : length known.types ≡ length s.types = ap length types_are ∙ length-map s.types (λ x. x.name) in
    omega (arith, few, entities, types)

-- the number of a declaration, and itself
pub numbered-at : {X Y : Type 0} (f : X → Y) (xs : List X) (k : ℕ) (x : X) → k < length xs → x ≡ get_or xs k x
    → ◌≡◌ {A = ℕ × Y} (k, f x) (get_or (enumerate_from 0 (map f xs)) k (k, f x))
numbered-at {X} {Y} f xs k x below is =
    let zero_ : 0 + k ≡ k = omega arith in
    let under : k < length (map f xs) = omega (arith, below, length-map xs f) in
    let pair : ℕ → ℕ × Y = λ j. (j, get_or (map f xs) k (f x)) in
    let at : Y → ℕ × Y = λ y. (k, y) in
    sym (get_or-enumerate_from 0 (map f xs) k (k, f x) under ∙ ap pair zero_ ∙ ap at (get_or-map f xs k x ∙ ap f (sym is)))

-- declarations and entities as the code has them
abbrev Declared : Type 0
Declared = syntax.Entity

-- what the entities redeclare whose declarations these are
abbrev AreOf : Schema → Named → List Declared → ℕ × EntityDigest → Entity → Type 0
AreOf s n declared own found = RedeclarationsAre s n (map entity_view declared) own.0 own.1 found

pub one-more : (s : Schema) (n : Named) (declared : List Declared) (k number : ℕ) (own : Declared) (found new : List Redeclarations)
    (item : Redeclarations) → k < length declared → own ≡ get_or declared k own → number ≡ k
    → AllZip (AreOf s n declared) (take k (enumerate_from 0 (map entity_view declared))) (map redeclaring found)
    → ((y : Entity) → y.redeclared ≡ map redeclared item.redeclared.items → y.derived ≡ map place item.derived.items
    → RedeclarationsAre s n (map entity_view declared) number (entity_view own) y)
    → new ≡ found ++ item ∷ [] → AllZip (AreOf s n declared) (take (k + 1) (enumerate_from 0 (map entity_view declared)))
    (map redeclaring new)
one-more s n declared k number own found new item below at same so_far is new_is =
    let all = enumerate_from 0 (map entity_view declared) in
    let under : k < length all = omega (
      arith,
      below,
      length-enumerate_from 0 (map entity_view declared),
      length-map declared
          entity_view,
    ) in
    let P : ℕ → Type 0 = λ j. RedeclarationsAre s n (map entity_view declared) j (entity_view own) (redeclaring item) in
    zip-more redeclaring (AreOf s n declared) all k (k, entity_view own) found new item under
    (numbered-at entity_view declared k own below at) so_far (subst P same (is (redeclaring item) refl refl)) new_is

pub one-refused : {Z : Type 0} (s : Schema) (n : Named) (declared : List Declared) (k number : ℕ) (own : Declared) (fault : SchemaFault)
    (result : Result (Vec Redeclarations Z) SchemaFault) → IsErr result → IsErrAnd result (λ found. found ≡ fault) → k < length declared
    → own ≡ get_or declared k own → number ≡ k
    → RefusalShows fault ((y : Entity) → RedeclarationsAre s n (map entity_view declared) number (entity_view own) y → ⊥)
    → FindsEach redeclaring (AreOf s n declared) (enumerate_from 0 (map entity_view declared)) result
one-refused s n declared k number own fault result is_err is below at same refused =
    let all = enumerate_from 0 (map entity_view declared) in
    let under : k < length all = omega (
      arith,
      below,
      length-enumerate_from 0 (map entity_view declared),
      length-map declared
          entity_view,
    ) in
    let P : ℕ → Type 0 = λ j. RefusalShows fault ((y : Entity) → RedeclarationsAre s n (map entity_view declared) j (entity_view own) y
    → ⊥) in
    each-refused redeclaring (AreOf s n declared) all k (k, entity_view own) fault result is_err is under
    (numbered-at entity_view declared k own below at) (subst P same refused)

pub all-found : (s : Schema) (n : Named) (declared : List Declared) (k : ℕ) (found : List Redeclarations) → length declared ≤ k
    → AllZip (AreOf s n declared) (take k (enumerate_from 0 (map entity_view declared))) (map redeclaring found)
    → AllZip (AreOf s n declared) (enumerate_from 0 (map entity_view declared)) (map redeclaring found)
all-found s n declared k found le all =
    let P : List (ℕ × EntityDigest) → Type 0 = λ xs. AllZip (AreOf s n declared) xs (map redeclaring found) in
    let over : length (enumerate_from 0 (map entity_view declared)) ≤ k =
    omega (arith, le, length-enumerate_from 0 (map entity_view declared), length-map declared entity_view) in
    subst P (take-all (enumerate_from 0 (map entity_view declared)) k over) all

-- ---- refusals

-- names that aren't different are those of no schema
pub names-refused : {A B X Z : Type 0} (view : A → B) (R : X → B → Type 0) (xs : List X) (names : List (List ℕ)) (fault : SchemaFault)
    (result : Result (Vec A Z) SchemaFault) → IsErr result → IsErrAnd result (λ found. found ≡ fault) → IsDistinct bytes_eq names
    → RefusalShows fault (IsDistinct bytes_eq names → ⊥) → FindsEach view R xs result
names-refused view R xs names fault (Ok u) is_err is distinct refused = cc
names-refused view R xs names fault (Err found) is_err is distinct refused = λ other ys all. refused (λ e. other (is ∙ e)) distinct

pub bare-refused : (k : SchemaDigest) (fault : SchemaFault) (result : Result Schema SchemaFault) → IsErr result
    → IsErrAnd result (λ found. found ≡ fault) → RefusalShows fault (DeclareNoSchema k) → SchemaDeclared k result
bare-refused k fault (Ok s) is_err is refused = cc
bare-refused k fault (Err found) is_err is refused = λ other. refused (λ e. other (is ∙ e))

pub found-refused : (k : SchemaDigest) (s : Schema) (fault : SchemaFault) (result : Result Schema SchemaFault) → IsErr result
    → IsErrAnd result (λ found. found ≡ fault) → IsBareSchema k s → RefusalShows fault ((ys : List Entity) → AreIn s k ys → ⊥)
    → SchemaDeclared k result
found-refused k s fault (Ok t) is_err is is_bare refused = cc
found-refused k s fault (Err found) is_err is is_bare refused =
    λ other t by. refused (λ e. other (is ∙ e)) t.entities (declared-redeclares k s t is_bare by)

pub memory-bare : (k : SchemaDigest) (result : Result Schema SchemaFault) → IsErr result → IsErrAnd result (λ found. found ≡ fault.NoMemory)
    → BareRead k result
memory-bare k (Ok s) is_err is = cc
memory-bare k (Err found) is_err is = λ other. absurd (other is)
