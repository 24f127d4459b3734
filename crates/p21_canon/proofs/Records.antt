-- The canonical record of a meaning means it, and is canonical.
use Rattle.std.proofs.Common.{◌≡◌, ℕ, ◌<◌, List, [], ◌∷◌, length, Option, Some, None, Contains, arith, refl, ap, sym, subst, ◌∙◌, inl, inr}
use Rattle.std.specs.List.{AllZip, zip, AllByRecursion as Each}
use Rattle.p21_spec_basics.proofs.Members.{AllZip-member, Contains-cases, Contains-first, Contains-later, Contains-none}
use Rattle.p21_spec_basics.proofs.Shuffles.{none_twice-distinct}
use Rattle.p21_spec_laws.proofs.CanonicalParam.{canonical_params}
use Rattle.p21_spec_laws.proofs.Leaves.{closure-leaf}
use Rattle.p21_spec_laws.proofs.Printing.{canonical_typed, means-with}
use Rattle.p21_spec_laws.proofs.RecordOnce.{words}
use Rattle.p21_spec_laws.proofs.PrintingParts.{first-entity}
use Rattle.p21_spec_laws.proofs.RisingTexts.{strict-rises}
use Rattle.p21_spec_exchange.specs.Parameter.{key_of, params_of}
use Rattle.p21_spec_exchange.specs.Record.{Part, Record, simple, complex}
use Rattle.p21_spec_file.proofs.OneMeaning.{rising-none_twice}
use Rattle.p21_spec_file.specs.CanonicalRecord.{AreTextsRising, HasOneLeaf, IsCanonicalPart, IsCanonicalRecord}
use Rattle.p21_spec_file.specs.Meaning.{HasOwnCount, NamesEntity, PartMeans, RecordMeans, Typed}
use Rattle.p21_spec_file.specs.Reference.{EntitySets}
use Rattle.p21_spec_file.specs.Value.{Values}
use Rattle.p21_spec_schema.proofs.Orders.{order_within-only}
use Rattle.p21_spec_schema.specs.Order.{order}
use Rattle.p21_spec_schema.specs.Schema.{Entity, EntityNamed, Schema}
use Rattle.p21_spec_schema.specs.Supertype.{InClosure, itself}
use Rattle.p21_spec_schema.specs.WellFormed.{IsWellFormed}
use Rattle.p21_canon.proofs.Places.{row-stands, rows_params, rows-stand}
use Rattle.p21_canon.specs.StatementTexts.{IsClosedSet, IsClosureOf, entity_name}
use Rattle.p21_spec_schema.proofs.PlaceTypes.{IsA-transitive}

-- ---- names

pub name-is : (s : Schema) (e : ℕ) (name : List ℕ) → EntityNamed s e name → entity_name s e ≡ name
name-is s e name (x, at, is) = ap (λ (o : Option Entity). elim o [ Some y ↦ y.name | None ↦ [] ]) at ∙ is

names-entity : (s : Schema) (e : ℕ) (name : List ℕ) → EntityNamed s e name → NamesEntity s (key_of (entity_name s e)) e
names-entity s e name named = (
  entity_name s e,
  (let P : List ℕ
      → Type 0 = λ n. EntityNamed s e n in subst P (sym (name-is s e name named)) named),
  refl,
)

member-named : (s : Schema) (kinds : EntitySets) (r : Record) (m : Typed) → RecordMeans s kinds r m → (e : ℕ) → Contains m.entities e
    → NamesEntity s (key_of (entity_name s e)) e
member-named s kinds r m means e among =
    let (name, at, named) = AllZip-member (EntityNamed s) m.entities means.rising.0 e means.rising.1 among in
    names-entity s e name named

-- ---- the set

subset-closed : (s : Schema) (kinds : EntitySets) (r : Record) (m : Typed) → RecordMeans s kinds r m → (f : ℕ) → InClosure s m.entities f
    → Contains m.entities f
subset-closed s kinds (simple part) m means f (e, among, is) =
    (means.means.closure f).1 (IsA-transitive s means.means.entity e f ((means.means.closure e).0 among) is)
subset-closed s kinds (complex parts) m means f (e, among, is) =
    (means.means.same_entities f).0 (means.means.closed f (e, (means.means.same_entities e).1 among, is))

pub closed-set : (s : Schema) (kinds : EntitySets) (r : Record) (m : Typed) → RecordMeans s kinds r m → IsClosedSet s m.entities
closed-set s kinds r m means = record {
  distinct = none_twice-distinct m.entities (rising-none_twice s m.entities means.rising.0 means.rising.1 means.rising.2);
  closed = subset-closed s kinds r m means;
}

some-entity : (s : Schema) (kinds : EntitySets) (r : Record) (m : Typed) → RecordMeans s kinds r m → (e : ℕ) × Contains m.entities e
some-entity s kinds (simple part) m means = (means.means.entity, (means.means.closure means.means.entity).1 (itself means.means.entity))
some-entity s kinds (complex parts) m means =
    let (e, among) = first-entity s kinds m parts means.means.entities means.means.parts_mean means.means.some_parts in
    (e, (means.means.same_entities e).0 among)

-- ---- in internal mapping

abbrev pub internal : Schema → Typed → ℕ → Record
internal s m leaf = simple (record { key = key_of (entity_name s leaf); params = params_of (rows_params s m (order s leaf)) })

order-within : (s : Schema) (m : Typed) (leaf : ℕ) → IsClosureOf s m.entities leaf → (e : ℕ) → Contains (order s leaf) e
    → Contains m.entities e
order-within s m leaf closure e among = (closure e).1 (order_within-only s (length s.entities) leaf e among)

leaf-member : (s : Schema) (m : Typed) (leaf : ℕ) → IsClosureOf s m.entities leaf → Contains m.entities leaf
leaf-member s m leaf closure = (closure leaf).1 (itself leaf)

pub internal-means : (s : Schema) → IsWellFormed s → (kinds : EntitySets) (r : Record) (m : Typed) (leaf : ℕ) → RecordMeans s kinds r m
    → IsClosureOf s m.entities leaf → RecordMeans s kinds (internal s m leaf) (canonical_typed s m)
internal-means s formed kinds r m leaf means closure = means-with s kinds r (internal s m leaf) m means (record {
  entity = leaf;
  named = member-named s kinds r m means leaf (leaf-member s m leaf closure);
  closure = closure;
  fit = (rows-stand s formed kinds r m means (order s leaf) (order-within s m leaf closure)).0;
})

pub internal-canonical : (s : Schema) → IsWellFormed s → (kinds : EntitySets) (r : Record) (m : Typed) (leaf : ℕ) → RecordMeans s kinds r m
    → IsClosureOf s m.entities leaf → IsCanonicalRecord s (internal s m leaf) (canonical_typed s m)
internal-canonical s formed kinds r m leaf means closure = record {
  form = closure-leaf s formed m.entities leaf closure;
  params = (
    leaf,
    member-named s kinds r m means leaf (leaf-member s m leaf closure),
    (rows-stand s formed kinds r m means (order s leaf) (order-within s m leaf closure)).1,
  );
}

-- ---- in external mapping

abbrev pub part_for : Schema → ℕ → Values → Part
part_for s e vs = record { key = key_of (entity_name s e); params = params_of (canonical_params s vs) }

abbrev pub parts_for : Schema → List ℕ → List Values → List Part
parts_for s [] rows = []
parts_for s (e ∷ es) [] = []
parts_for s (e ∷ es) (vs ∷ rows) = part_for s e vs ∷ parts_for s es rows

abbrev pub external : Schema → Typed → Record
external s m = complex (parts_for s m.entities m.values)

-- what holds of each entity with its row
each-part : (s : Schema) (R : ℕ → Values → Type 0) (P : Part → ℕ → Type 0) (es : List ℕ) (rows : List Values) → AllZip R es rows
    → ((e : ℕ) (vs : Values) → Contains (zip es rows) (e, vs) → P (part_for s e vs) e) → AllZip P (parts_for s es rows) es
each-part s R P [] [] all each = tt
each-part s R P [] (vs ∷ rows) all each = absurd all
each-part s R P (e ∷ es) [] all each = absurd all
each-part s R P (e ∷ es) (vs ∷ rows) all each = (
  each e vs (Contains-first (e, vs) (zip es rows)),
  each-part s R P es rows all.1
      (λ f ws among. each f ws (Contains-later (e, vs) (zip es rows) (f, ws) among)),
)

each-first : (P : Part → Type 0) (Q : Part → ℕ → Type 0) (parts : List Part) (es : List ℕ) → ((part : Part) (e : ℕ) → Q part e → P part)
    → AllZip Q parts es → Each P parts
each-first P Q [] es weaker all = tt
each-first P Q (part ∷ parts) [] weaker all = absurd all
each-first P Q (part ∷ parts) (e ∷ es) weaker all = (weaker part e all.0, each-first P Q parts es weaker all.1)

zip-first : (es : List ℕ) (rows : List Values) (e : ℕ) (vs : Values) → Contains (zip es rows) (e, vs) → Contains es e
zip-first [] rows e vs among = absurd (Contains-none (e, vs) among)
zip-first (f ∷ es) [] e vs among = absurd (Contains-none (e, vs) among)
zip-first (f ∷ es) (ws ∷ rows) e vs among = elim (Contains-cases (f, ws) (zip es rows) (e, vs) among) [
  | inl h ↦ (0, omega arith, ap (λ (x : ℕ × Values). x.0) h)
  | inr h ↦ Contains-later f es e (zip-first es rows e vs h)
]

some-parts : (s : Schema) (R : ℕ → Values → Type 0) (es : List ℕ) (rows : List Values) (e : ℕ) → AllZip R es rows → Contains es e
    → 0 < length (parts_for s es rows)
some-parts s R [] rows e all among = absurd (Contains-none e among)
some-parts s R (f ∷ es) [] e all among = absurd all
some-parts s R (f ∷ es) (vs ∷ rows) e all among = omega arith

parts-mean : (s : Schema) → IsWellFormed s → (kinds : EntitySets) (r : Record) (m : Typed) → RecordMeans s kinds r m
    → AllZip (PartMeans s kinds (canonical_typed s m)) (parts_for s m.entities m.values) m.entities
parts-mean s formed kinds r m means = each-part s (HasOwnCount s) (PartMeans s kinds (canonical_typed s m)) m.entities m.values
    means.own_counts (λ e vs has.
    let among : Contains m.entities e = zip-first m.entities m.values e vs has in
    (member-named s kinds r m means e among, (row-stands s formed kinds r m means e vs among has).0))

parts-canonical : (s : Schema) → IsWellFormed s → (kinds : EntitySets) (r : Record) (m : Typed) → RecordMeans s kinds r m
    → Each (IsCanonicalPart s (canonical_typed s m)) (parts_for s m.entities m.values)
parts-canonical s formed kinds r m means =
    let P : Part → ℕ → Type 0 = λ part e. IsCanonicalPart s (canonical_typed s m) part in
    each-first (IsCanonicalPart s (canonical_typed s m)) P (parts_for s m.entities m.values) m.entities (λ part e is. is)
    (each-part s (HasOwnCount s) P m.entities m.values means.own_counts (λ e vs has.
    let among : Contains m.entities e = zip-first m.entities m.values e vs has in
    (e, member-named s kinds r m means e among, (row-stands s formed kinds r m means e vs among has).1)))

pub external-means : (s : Schema) → IsWellFormed s → (kinds : EntitySets) (r : Record) (m : Typed) → RecordMeans s kinds r m
    → RecordMeans s kinds (external s m) (canonical_typed s m)
external-means s formed kinds r m means =
    let (e, among) = some-entity s kinds r m means in
    let set = closed-set s kinds r m means in
    means-with s kinds r (external s m) m means (record {
      some_parts = some-parts s (HasOwnCount s) m.entities m.values e means.own_counts among;
      entities = m.entities;
      distinct = set.distinct;
      same_entities = λ f. (λ found. found, λ found. found);
      closed = set.closed;
      parts_mean = parts-mean s formed kinds r m means;
    })

words-are : (s : Schema) (es : List ℕ) (rows : List Values) (names : List (List ℕ)) → AllZip (HasOwnCount s) es rows
    → AllZip (EntityNamed s) es names → words (parts_for s es rows) ≡ names
words-are s [] rows [] all named = refl
words-are s [] rows (n ∷ ns) all named = absurd named
words-are s (e ∷ es) [] names all named = absurd all
words-are s (e ∷ es) (vs ∷ rows) [] all named = absurd named
words-are s (e ∷ es) (vs ∷ rows) (n ∷ ns) all named = ap (λ (w : List ℕ). w ∷ words (parts_for s es rows)) (name-is s e n named.0)
    ∙ ap (λ (ws : List (List ℕ)). n ∷ ws) (words-are s es rows ns all.1 named.1)

pub external-canonical : (s : Schema) → IsWellFormed s → (kinds : EntitySets) (r : Record) (m : Typed) → RecordMeans s kinds r m
    → ¬ HasOneLeaf s m.entities → IsCanonicalRecord s (external s m) (canonical_typed s m)
external-canonical s formed kinds r m means none = record {
  form = (
    none,
    subst AreTextsRising (sym (words-are s m.entities m.values means.rising.0 means.own_counts means.rising.1))
        (strict-rises means.rising.0 means.rising.2),
  );
  params = parts-canonical s formed kinds r m means;
}
