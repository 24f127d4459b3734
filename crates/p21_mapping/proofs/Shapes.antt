-- The rules that a record breaks by its keywords and by the numbers of its parameters, and what is known where it breaks none.
use Rattle.std.specs.Prelude.{◌≡◌, ℕ, zero, suc, ◌+◌, ◌<◌, Bool, true, false, List, [], ◌∷◌, length, nat_eq, slice_get, Option, Some, None, Contains, MatchBool, MatchOption, refl}
use Rattle.std.specs.List.{AllByRecursion as Each, AllZip, IsDistinct, flat_map}
use Rattle.std.proofs.lemmas.Option.{slice_get_within}
use Rattle.std.proofs.Common.{arith, ap, sym, ◌∙◌, subst, inl, inr}
use Rattle.p21_spec_basics.proofs.Members.{AllZip-member, AllZip-second_member, Contains-cases, Contains-none, Contains-first, Contains-later, Contains-found, Each-member}
use Rattle.p21_spec_exchange.specs.Parameter.{Key, key_of, listed}
use Rattle.p21_spec_exchange.specs.Record.{Part, Record, simple, complex}
use Rattle.p21_express_graph.specs.Lookups.{AreEntities, places_from}
use Rattle.p21_express_graph.specs.Orders.{numbers}
use Rattle.p21_express_graph.specs.declared.number.EntityId.{EntityId}
use Rattle.p21_express_graph.specs.Resolved.{HoldsTogether, IsEntity}
use Rattle.p21_express_graph.proofs.Lookups.{map-option, own-places-are, leaves-all}
use Rattle.p21_express_graph.proofs.OrderTables.{order-tells, IsA-within, are-entities}
use Rattle.p21_spec_file.proofs.OneMeaning.{EntityNamed-one, NamesEntity-one}
use Rattle.p21_spec_file.proofs.RecordSets.{internal-set, external-set}
use Rattle.p21_spec_file.specs.BrokenRule.{Breaks, part_twice, part_missing, abstract_leaf, one_of, open_place, wrong_count}
use Rattle.p21_spec_file.specs.Meaning.{NamesEntity}
use Rattle.p21_spec_file.specs.RecordPlaces.{IsEntitySetOf}
use Rattle.p21_grammar_tree.specs.declared.param.Param.{Param as Parameter}
use Rattle.p21_grammar_tree.specs.declared.record.Part as tree
use Rattle.p21_grammar_tree.specs.View.{items_of, part_view, part_views, views}
use Rattle.p21_grammar_tree.specs.declared.fault.CheckFault.{CheckFault}
use Rattle.p21_grammar_tree.specs.declared.fault.CheckFault.TheVariants.{PartTwice, PartMissing, OneOf, TwoRedeclarations, NoMemory}
use Rattle.p21_express_graph.specs.Rising.{HaveSame}
use Rattle.p21_mapping.specs.Shape.{Refuses, AreNamed, HasTwice, IsClosed, LacksSupertype, HasSomeAbstractLeaf, HasNoAbstractLeaf, PassesSet, RefusesMembers, RefusesSet, HasCount, HasOtherCount, HasCounts, HasShape}
use Rattle.p21_mapping.proofs.GrownLists.{AllZip-at_second, AllZip-at_both}
use Rattle.p21_spec_schema.proofs.PlaceTypes.{IsA-antisymmetric}
use Rattle.p21_spec_schema.specs.Order.{order, places, own_places}
use Rattle.p21_spec_schema.specs.PlaceType.{TypeAt, stored_place, two_redeclarations}
use Rattle.p21_spec_schema.specs.Schema.{Schema, Place, TypeUse, Member, Kind, Defined, EntityNamed, IsAbstract, attributes_of, kind_of, AreRisingByName}
use Rattle.p21_spec_schema.specs.Select.{Offers, offered, offered_within}
use Rattle.p21_spec_schema.specs.Supertype.{itself, IsLeaf, AreLeaves, LeavesAmong, no_more, leaf_next, other_next}
use Rattle.p21_spec_schema.specs.WellFormed.{HasDistinctEntities}

-- ---- keywords

twice-breaks : (s : Schema) (parts : List Part) (es : List ℕ) → AreNamed s parts es → HasTwice es → Breaks s (complex parts) 44
twice-breaks s parts es named (i, j, e, differ, at, at_) =
    let (part, part_at, (name, is_named, key_is)) = AllZip-at_second (λ (part : Part) x. NamesEntity s part.key x) parts es i e named at in
    let (other, other_at, (name_, is_named_, key_is_)) =
    AllZip-at_second (λ (part : Part) x. NamesEntity s part.key x) parts es j e named at_ in
    part_twice (
      i,
      j,
      part,
      other,
      differ,
      part_at,
      other_at,
      key_is ∙ ap key_of (EntityNamed-one s e name name_ is_named is_named_)
          ∙ sym key_is_,
    )

missing-breaks : (s : Schema) → HasDistinctEntities s → (parts : List Part) (es : List ℕ) → AreNamed s parts es → LacksSupertype s es
    → Breaks s (complex parts) 43
missing-breaks s distinct parts es named (f, (e, among, up), none) =
    let R : Part → ℕ → Type 0 = λ part x. NamesEntity s part.key x in
    let (part, among_, is) = AllZip-second_member R parts es e named among in
    part_missing (
      f,
      (part, e, (among_, is), up),
      λ other has. let (x, x_among, x_is) = AllZip-member R parts es other named has.0 in
          none (let P : ℕ → Type 0 = λ y. Contains es y in subst P (NamesEntity-one s distinct other.key x f x_is has.1) x_among),
    )

pub members-refuse : (s : Schema) → HasDistinctEntities s → (parts : List Part) (es : List ℕ) → AreNamed s parts es → (fault : CheckFault)
    → RefusesMembers s es fault → Refuses s (complex parts) fault
members-refuse s distinct parts es named PartTwice twice _ = twice-breaks s parts es named twice
members-refuse s distinct parts es named PartMissing lacks _ = missing-breaks s distinct parts es named lacks
members-refuse s distinct parts es named NoMemory _ other = absurd (other refl)
members-refuse s distinct parts es named other none _ = absurd none

-- ---- the set

pub simple-set : (s : Schema) → HoldsTogether s → HasDistinctEntities s → (part : Part) (e : ℕ) (entities : List ℕ)
    → NamesEntity s part.key e → HaveSame (order s e) entities → IsEntitySetOf s (simple part) entities
simple-set s holds distinct part e entities named same =
    internal-set s distinct part e entities named (λ f.
    (λ among. (order-tells s holds e f).0 ((same f).1 among), λ is. (same f).0 ((order-tells s holds e f).1 is)))

pub complex-set : (s : Schema) → HasDistinctEntities s → (parts : List Part) (es entities : List ℕ) → AreNamed s parts es → IsClosed s es
    → HaveSame es entities → IsEntitySetOf s (complex parts) entities
complex-set s distinct parts es entities named closed same =
    external-set s distinct parts es entities named (λ f.
    (λ among. (f, (same f).1 among, itself f), λ inside. (same f).0 (closed f inside)))

-- ---- leaves

-- in internal mapping the named entity is the only leaf
pub simple-no_leaf : (s : Schema) → HoldsTogether s → (e : ℕ) (entities : List ℕ) → HaveSame (order s e) entities → ¬ IsAbstract s e
    → HasNoAbstractLeaf s entities
simple-no_leaf s holds e entities same concrete f leaf is_abstract =
    let own : e ≡ f = leaf.1 e ((same e).0 ((order-tells s holds e e).1 (itself e))) ((order-tells s holds e f).0 ((same f).1 leaf.0)) in
    concrete (let P : ℕ → Type 0 = λ x. IsAbstract s x in subst P (sym own) is_abstract)

pub simple-leaf : (s : Schema) → HoldsTogether s → (e : ℕ) (entities : List ℕ) → HaveSame (order s e) entities → IsAbstract s e
    → HasSomeAbstractLeaf s entities
simple-leaf s holds e entities same is_abstract = (
  e,
  (
    (same e).0 ((order-tells s holds e e).1 (itself e)),
    λ f among up. sym
        (IsA-antisymmetric s holds.supertypes_end e f ((order-tells s holds e f).0 ((same f).1 among)) up),
  ),
  is_abstract,
)

-- ---- refusals

pub leaf-breaks : (s : Schema) (r : Record) (entities : List ℕ) → IsEntitySetOf s r entities → HasSomeAbstractLeaf s entities
    → Breaks s r 42
leaf-breaks s r entities set_is (e, leaf, is_abstract) = abstract_leaf (entities, e, set_is, leaf, is_abstract)

pub set-refuses : (s : Schema) (r : Record) (entities : List ℕ) → IsEntitySetOf s r entities → (fault : CheckFault)
    → RefusesSet s entities fault → Refuses s r fault
set-refuses s r entities set_is OneOf clash _ = one_of (entities, set_is, clash)
set-refuses s r entities set_is TwoRedeclarations (e, among, (place, of_e, two)) _ =
    open_place (entities, e, place, set_is, among, of_e, two)
set-refuses s r entities set_is NoMemory _ other = absurd (other refl)
set-refuses s r entities set_is other none _ = absurd none

-- ---- counts

pub simple-counts : (s : Schema) → HasDistinctEntities s → (part : Part) (e : ℕ) → NamesEntity s part.key e
    → length (listed part.params) ≡ length (places s e) → HasCounts s (simple part)
simple-counts s distinct part e named count other f (among, named_) =
    let same : part ≡ other = Each-member (λ x. part ≡ x) (part ∷ []) other (refl, tt) among in
    let P : Part → Type 0 = λ x. NamesEntity s x.key f in
    let one : e ≡ f = NamesEntity-one s distinct part.key e f named (subst P (sym same) named_) in
    ap (λ (x : Part). length (listed x.params)) (sym same) ∙ count ∙ ap (λ x. length (places s x)) one

pub simple-miscount : (s : Schema) (part : Part) (e : ℕ) → NamesEntity s part.key e → ¬ (length (listed part.params) ≡ length (places s e))
    → Breaks s (simple part) 45
simple-miscount s part e named differ = wrong_count (part, e, (Contains-first part [], named), differ)

pub complex-counts : (s : Schema) → HasDistinctEntities s → (parts : List Part) (es : List ℕ) → AreNamed s parts es
    → AllZip (HasCount s) parts es → HasCounts s (complex parts)
complex-counts s distinct parts es named counts part e (among, named_) = by_member parts es named counts among
  where
    by_member : (ps : List Part) (fs : List ℕ) → AreNamed s ps fs → AllZip (HasCount s) ps fs → Contains ps part
        → length (listed part.params) ≡ length (own_places s e)
    by_member [] fs named counts among = absurd (Contains-none part among)
    by_member (p ∷ ps) [] named counts among = absurd named
    by_member (p ∷ ps) (f ∷ fs) named counts among = elim (Contains-cases p ps part among) [
      | inl h ↦
          let P : Part → Type 0 = λ x. NamesEntity s x.key f in
          let one : f ≡ e = NamesEntity-one s distinct part.key f e (subst P h named.0) named_ in
          ap (λ (x : Part). length (listed x.params)) (sym h) ∙ counts.0 ∙ ap (λ x. length (own_places s x)) one
      | inr h ↦ by_member ps fs named.1 counts.1 h
    ]

pub complex-miscount : (s : Schema) (parts : List Part) (es : List ℕ) → AreNamed s parts es → HasOtherCount s parts es
    → Breaks s (complex parts) 45
complex-miscount s parts es named (at, e, part, part_at, e_at, differ) =
    wrong_count (
      part,
      e,
      (
        Contains-found parts at part part_at,
        AllZip-at_both (λ (x : Part) y. NamesEntity s x.key y) parts es at part e
            named part_at e_at,
      ),
      differ,
    )

-- ---- keywords and their entities

key-is : (key : Key) (word : List ℕ) → key.user ≡ false → word ≡ key.word → key ≡ key_of word
key-is key word plain is = ap (λ u. record { user = u; word = key.word }) plain ∙ ap key_of (sym is)

-- the entity of a keyword that is no user keyword
pub named-is : {A : Type 0} (number : A → ℕ) (s : Schema) (key : Key) (word : List ℕ) (o : Option A) → key.user ≡ false → word ≡ key.word
    → MatchOption o ((e : ℕ) → EntityNamed s e word → ⊥) (λ a. EntityNamed s (number a) word)
    → MatchOption o ((e : ℕ) → NamesEntity s key e → ⊥) (λ a. NamesEntity s key (number a))
named-is number s key word o plain is = map-option o _ _ _ _ none (λ a named. (word, named, key-is key word plain is))
  where
    none : ((e : ℕ) → EntityNamed s e word → ⊥) → (e : ℕ) → NamesEntity s key e → ⊥
    none unnamed e (name, named, same) = unnamed e (let P : List ℕ
        → Type 0 = λ n. EntityNamed s e n in subst P (sym (is ∙ ap (λ k. k.word) same)) named)

-- named entities are those of the schema
pub named-within : (s : Schema) (key : Key) (e : ℕ) → NamesEntity s key e → IsEntity s e
named-within s key e (name, (x, at, is), same) = slice_get_within s.entities e x at

pub order-within : (s : Schema) → HoldsTogether s → (e : ℕ) (es : List ℕ) → es ≡ order s e → IsEntity s e → AreEntities s es
order-within s holds e es is within f among = IsA-within s (are-entities s holds) e f
    ((order-tells s holds e f).0 (let P : List ℕ → Type 0 = λ xs. Contains xs f in subst P is among)) within

pub named-entities : (s : Schema) (parts : List Part) (es : List ℕ) → AreNamed s parts es → AreEntities s es
named-entities s parts es named e among = let (part, among_, is) =
    AllZip-second_member (λ (x : Part) y. NamesEntity s x.key y) parts es e named among in named-within s part.key e is

pub same-entities : (s : Schema) (es fs : List ℕ) → HaveSame es fs → AreEntities s es → AreEntities s fs
same-entities s es fs same within f among = within f ((same f).1 among)

-- ---- open places

from-each : (P : Place → Type 0) (e k n : ℕ) → ((i : ℕ) → i < n → P (record { entity = e; index = k + i })) → Each P (places_from e k n)
from-each P e k zero each = tt
from-each P e k (suc n) each = (
  let same : k + 0 ≡ k = omega arith in let Q : ℕ → Type 0 = λ m. P (record { entity = e; index = m }) in
      subst Q same (each 0 (omega arith)),
  from-each P e (k + 1) n (λ i below. let same : k + suc i ≡ k + 1 + i = omega arith in let Q : ℕ
      → Type 0 = λ m. P (record { entity = e; index = m }) in subst Q same (each (suc i) (omega (arith, below)))),
)

-- each own place
pub own-each : (s : Schema) (P : Place → Type 0) (e : ℕ) → ((i : ℕ) → i < length (attributes_of s e) → P (record { entity = e; index = i }))
    → Each P (own_places s e)
own-each s P e each =
    let Q : List Place → Type 0 = λ ps. Each P ps in
    subst Q (own-places-are s e) (from-each P e 0 (length (attributes_of s e))
    (λ i below. let same : i ≡ 0 + i = omega arith in let R : ℕ
    → Type 0 = λ m. P (record { entity = e; index = m }) in subst R same (each i below)))

pub own-count : (s : Schema) (e : ℕ) → length (own_places s e) ≡ length (attributes_of s e)
own-count s e = ap length (sym (own-places-are s e)) ∙ from-length e 0 (length (attributes_of s e))
  where
    from-length : (e k n : ℕ) → length (places_from e k n) ≡ n
    from-length e k zero = refl
    from-length e k (suc n) = ap suc (from-length e (k + 1) n)

pub stored-not_open : (s : Schema) (es : List ℕ) (place : Place) (optional : Bool) (type : TypeUse)
    → TypeAt s es place (stored_place optional type) → TypeAt s es place two_redeclarations → ⊥
stored-not_open s es place optional type (underived, inl (r, decides, _, _)) two = two.2 r decides
stored-not_open s es place optional type (underived, inr (none, _)) two = none two.1

-- ---- all that is known

pub simple-shape : (s : Schema) → HoldsTogether s → HasDistinctEntities s → (part : Part) (e : ℕ) (es entities : List ℕ)
    → NamesEntity s part.key e → es ≡ order s e → HaveSame es entities → AreRisingByName s entities → ¬ IsAbstract s e
    → PassesSet s entities → length (listed part.params) ≡ length (flat_map (own_places s) es) → HasShape s (simple part) es entities
simple-shape s holds distinct part e es entities named is same rising concrete passes count =
    let P : List ℕ → Type 0 = λ xs. HaveSame xs entities in
    let same_ : HaveSame (order s e) entities = subst P is same in
    record {
      listed_are = (e, named, is);
      same = same;
      set_is = simple-set s holds distinct part e entities named same_;
      rising = rising;
      no_abstract_leaf = simple-no_leaf s holds e entities same_ concrete;
      no_clash = passes.0;
      place_types = passes.1;
      counts = simple-counts s distinct part e named (count ∙ ap (λ xs. length (flat_map (own_places s) xs)) is);
    }

pub complex-shape : (s : Schema) → HasDistinctEntities s → (parts : List Part) (es entities : List ℕ) → AreNamed s parts es
    → IsDistinct nat_eq es → IsClosed s es → HaveSame es entities → AreRisingByName s entities → HasNoAbstractLeaf s entities
    → PassesSet s entities → AllZip (HasCount s) parts es → HasShape s (complex parts) es entities
complex-shape s distinct parts es entities named differ closed same rising concrete passes counts = record {
  listed_are = (named, differ, closed);
  same = same;
  set_is = complex-set s distinct parts es entities named closed same;
  rising = rising;
  no_abstract_leaf = concrete;
  no_clash = passes.0;
  place_types = passes.1;
  counts = complex-counts s distinct parts es named counts;
}

leaves-has : (s : Schema) (entities among leaves : List ℕ) → LeavesAmong s entities among leaves → (e : ℕ) → Contains among e
    → IsLeaf s entities e → Contains leaves e
leaves-has s entities among leaves no_more e there leaf = there
leaves-has s entities among leaves (leaf_next f es ls is_leaf rest) e there leaf = elim (Contains-cases f es e there) [
  | inl h ↦ (0, omega arith, h)
  | inr h ↦ Contains-later f ls e (leaves-has s entities es ls rest e h leaf)
]
leaves-has s entities among leaves (other_next f es ls other rest) e there leaf = elim (Contains-cases f es e there) [
  | inl h ↦ let P : ℕ → Type 0 = λ x. IsLeaf s entities x in absurd (other (subst P (sym h) leaf))
  | inr h ↦ leaves-has s entities es leaves rest e h leaf
]

pub leaves-within : (s : Schema) (entities leaves : List ℕ) → AreLeaves s entities leaves → AreEntities s entities → AreEntities s leaves
leaves-within s entities leaves are within e among = within e (leaves-all s entities entities leaves are e among).0

pub leaves-tell : (s : Schema) (entities leaves : List ℕ) (found : Bool) → AreLeaves s entities leaves
    → MatchBool found ((e : ℕ) × Contains leaves e × IsAbstract s e) ((e : ℕ) → Contains leaves e → IsAbstract s e → ⊥)
    → MatchBool found (HasSomeAbstractLeaf s entities) (HasNoAbstractLeaf s entities)
leaves-tell s entities leaves true are (e, among, is) = (e, leaves-all s entities entities leaves are e among, is)
leaves-tell s entities leaves false are none = λ e leaf is. none e (leaves-has s entities entities leaves are e leaf.0 leaf) is

-- as many parameters as there are items
pub part-length : (part : tree.Part) → length (listed (part_view part).params) ≡ length (items_of part.params)
part-length part = listed-views (items_of part.params)
  where
    listed-views : (ps : List Parameter) → length (listed (views ps)) ≡ length ps
    listed-views [] = refl
    listed-views (p ∷ ps) = ap suc (listed-views ps)

pub views-length : (parts : List tree.Part) → length (part_views parts) ≡ length parts
views-length [] = refl
views-length (part ∷ parts) = ap suc (views-length parts)

pub numbers-length : (es : List EntityId) → length (numbers es) ≡ length es
numbers-length [] = refl
numbers-length (e ∷ es) = ap suc (numbers-length es)

kind-within : (s : Schema) (t : ℕ) (k : Kind) → kind_of s t ≡ Some k → t < length s.types
kind-within s t k is = by (slice_get s.types t) refl
  where
    by : (o : Option Defined) → slice_get s.types t ≡ o → t < length s.types
    by (Some x) at = slice_get_within s.types t x at
    by None at = let none : kind_of s t ≡ None = ap (λ (o : Option Defined). elim o [ Some x ↦ Some x.kind | None ↦ None ]) at in
        let h : Some k ≡ None = sym is ∙ none in cc

-- only a type of the schema offers something
pub offers-within : (s : Schema) (t : ℕ) (m : Member) → Offers s t m → t < length s.types
offers-within s t m (offered _ members _ is among _) = kind-within s t _ is
offers-within s t m (offered_within _ u members _ is among within) = kind-within s t _ is
