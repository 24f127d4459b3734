-- Sets of entities by number.
use Rattle.std.proofs.Common.{◌≡◌, ◌≤◌, ◌==◌, arith, ℕ, Bool, List, [], ◌∷◌, ◌++◌, length, map, slice_get, Some, None, Result, Ok, Err, inl, inr, refl, sym, ap, subst, ◌∙◌}
use Rattle.std.proofs.lemmas.List.{length-map, map-append}
use Rattle.std.proofs.lemmas.Map.Lookups.{CmpEqualImpliesEq, exact_unsigned}
use Rattle.std.proofs.lemmas.Bool.Decides.{Decides-eqb}
use Rattle.std.proofs.lemmas.Slice.Eq.{slice_eq-Decides}
use Rattle.std.specs.Arc.{arc_slice_items}
use Rattle.std.specs.Bool.{Decides, IsTrue}
use Rattle.std.specs.BTreeMap.{BTreeMap, IsEmpty, Updates, get_by}
use Rattle.std.specs.Cmp.Lexicographic.{pointwise, slice_cmp}
use Rattle.std.specs.List.{Contains}
use Rattle.std.specs.Prelude.{IfOk, OnErr}
use Rattle.std.specs.Ordering.{nat_cmp, ordering_then}
use Rattle.std.specs.declared.alloc.Global.{Global}
use Rattle.std.specs.declared.cmp.Ordering.{Ordering}
use Rattle.std.specs.declared.cmp.Ordering.TheVariants.{Equal, Greater, Less}
use Rattle.std.specs.declared.sync.ArcSlice.{ArcSlice}
use Rattle.p21_spec_basics.proofs.Members.{Contains-unmapped, Each-append, Each-member, Each-weaker}
use Rattle.p21_express_graph.specs.declared.number.EntityId.{EntityId}
use Rattle.p21_mapping_values.specs.TypedView.{ids_view}
use Rattle.p21_stream_store.proofs.Numbering.{are-once, behind, is-absent, known, mapped-at, none-numbered, one-more, unmapped-at}
use Rattle.p21_stream_store.specs.EntitySets.{AreNumberedSets, HaveRoom, key_items, lists_of, sets_of}
use Rattle.p21_stream_store.specs.Numbering.{AreNumbered, AreOnce, Interns}
use Rattle.p21_stream_store.specs.SetOrder.{by_entities, by_size}
use Rattle.p21_stream_store.specs.declared.set_key.SetKey.{SetKey}

abbrev Shared : Type 0
Shared = ArcSlice EntityId Global

exact-lists : {X : Type 0} (order : X → X → Ordering) → CmpEqualImpliesEq order → CmpEqualImpliesEq (slice_cmp order)
exact-lists order exact [] [] e = refl
exact-lists order exact [] (y ∷ ys) e = cc
exact-lists order exact (x ∷ xs) [] e = cc
exact-lists order exact (x ∷ xs) (y ∷ ys) e = by (order x y) refl (exact-lists order exact xs ys) where
  now : (r : Ordering) → order x y ≡ r → ordering_then r (slice_cmp order xs ys) ≡ Equal
  now r is = sym (ap (λ (o : Ordering). ordering_then o (slice_cmp order xs ys)) is) ∙ e

  by : (r : Ordering) → order x y ≡ r → (slice_cmp order xs ys ≡ Equal → xs ≡ ys) → x ∷ xs ≡ y ∷ ys
  by Less is behind_ = let no : Less ≡ Equal = now Less is in cc
  by Equal is behind_ =
      let first : x ≡ y = exact x y is in
      let rest : xs ≡ ys = behind_ (now Equal is) in
      cc
  by Greater is behind_ = let no : Greater ≡ Equal = now Greater is in cc

same-entity : (a b : EntityId) → a.0 ≡ b.0 → a ≡ b
same-entity a b same = λ i. record { 0 = same i }

exact-entities : CmpEqualImpliesEq by_entities
exact-entities = exact-lists (λ (a b : EntityId). nat_cmp a.0 b.0) (λ a b e. same-entity a b (exact_unsigned a.0 b.0 e))

exact-sizes : CmpEqualImpliesEq by_size
exact-sizes xs ys e = by (nat_cmp (length xs) (length ys)) refl where
  now : (r : Ordering) → nat_cmp (length xs) (length ys) ≡ r → ordering_then r (by_entities xs ys) ≡ Equal
  now r is = sym (ap (λ (o : Ordering). ordering_then o (by_entities xs ys)) is) ∙ e

  by : (r : Ordering) → nat_cmp (length xs) (length ys) ≡ r → xs ≡ ys
  by Less is = let no : Less ≡ Equal = now Less is in cc
  by Equal is = exact-entities xs ys (now Equal is)
  by Greater is = let no : Greater ≡ Equal = now Greater is in cc

entity-told : (a b : EntityId) → Decides (a.0 == b.0) (a ≡ b)
entity-told a b = (λ e. same-entity a b ((Decides-eqb a.0 b.0).0 e), λ e. (Decides-eqb a.0 b.0).1 (ap (λ (x : EntityId). x.0) e))

-- entities that are equal one by one are the same
pub same-listed : (entities others : List EntityId) (r : Bool) → r ≡ pointwise (λ (a b : EntityId). a.0 == b.0) entities others → IsTrue r
    → entities ≡ others
same-listed entities others r is equal = (slice_eq-Decides entity-told entities others r is).0 equal

pub same-entities : (xs ys : List EntityId) → ids_view xs ≡ ids_view ys → xs ≡ ys
same-entities [] [] e = refl
same-entities [] (y ∷ ys) e = cc
same-entities (x ∷ xs) [] e = cc
same-entities (x ∷ xs) (y ∷ ys) e =
    let number : x.0 ≡ y.0 = cc in
    let others : ids_view xs ≡ ids_view ys = cc in
    let first : x ≡ y = same-entity x y number in
    let rest : xs ≡ ys = same-entities xs ys others in
    cc

pub no-sets : (sets : List Shared) (numbers : BTreeMap SetKey ℕ) → sets ≡ [] → IsEmpty numbers → AreNumberedSets sets numbers
no-sets sets numbers no_set empty = none-numbered key_items by_size exact-sizes (lists_of sets) numbers (ap lists_of no_set) empty

pub count-sets : (sets : List Shared) → length (sets_of sets) ≡ length sets
count-sets sets = length-map (lists_of sets) ids_view ∙ length-map sets (λ (s : Shared). arc_slice_items s)

-- the set that stands at a position
pub set-at : (sets : List Shared) (number : ℕ) (set : Shared) (entities : List EntityId) → slice_get sets number ≡ Some set
    → entities ≡ arc_slice_items set → slice_get (sets_of sets) number ≡ Some (ids_view entities)
set-at sets number set entities at is =
    mapped-at ids_view (lists_of sets) number (arc_slice_items set) (mapped-at (λ (s : Shared). arc_slice_items s) sets number set at)
    ∙ ap (λ (es : List EntityId). Some (ids_view es)) (sym is)

pub sets-once : (sets : List Shared) (numbers : BTreeMap SetKey ℕ) → AreNumberedSets sets numbers → AreOnce (sets_of sets)
sets-once sets numbers are set number other at at_ =
    let (entities, first, is) = listed number at in
    let (others, second, is_) = listed other at_ in
    let same : others ≡ entities = same-entities others entities (is_ ∙ sym is) in
    are-once key_items by_size exact-sizes (lists_of sets) numbers are entities number other first
    (second ∙ ap (λ (es : List EntityId). Some es) same)
  where
    listed : (k : ℕ) → slice_get (sets_of sets) k ≡ Some set
        → (entities : List EntityId) × (slice_get (lists_of sets) k ≡ Some entities) × (ids_view entities ≡ set)
    listed k here = unmapped-at ids_view (lists_of sets) k set here

-- a set that a tree finds has the number, and one that it doesn't find isn't there
pub set-found : (sets : List Shared) (numbers : BTreeMap SetKey ℕ) (entities : List EntityId) (number : ℕ) → AreNumberedSets sets numbers
    → get_by (λ (k : SetKey). by_size entities (key_items k)) numbers ≡ Some number
    → Interns (sets_of sets) (ids_view entities) number (sets_of sets)
set-found sets numbers entities number are at = known (sets_of sets) (ids_view entities) number
    (mapped-at ids_view (lists_of sets) number entities (are.found entities number at))

pub set-absent : (sets : List Shared) (numbers : BTreeMap SetKey ℕ) (entities : List EntityId) → AreNumberedSets sets numbers
    → get_by (λ (k : SetKey). by_size entities (key_items k)) numbers ≡ None → Contains (sets_of sets) (ids_view entities) → ⊥
set-absent sets numbers entities are none there =
    let (found, among, same) = Contains-unmapped ids_view (lists_of sets) (ids_view entities) there in
    is-absent key_items by_size exact-sizes (lists_of sets) numbers entities are none
    (subst (λ (es : List EntityId). Contains (lists_of sets) es) (same-entities found entities same) among)

lists-behind : (sets after : List Shared) (set : Shared) → after ≡ sets ++ set ∷ []
    → lists_of after ≡ lists_of sets ++ arc_slice_items set ∷ []
lists-behind sets after set is = ap lists_of is ∙ map-append (λ (s : Shared). arc_slice_items s) sets (set ∷ [])

-- a set that isn't found stands behind the others
module _ (sets after : List Shared) (numbers : BTreeMap SetKey ℕ) (key : SetKey) (copy : Shared) (are : AreNumberedSets sets numbers)
    (none : get_by (λ (k : SetKey). by_size (key_items key) (key_items k)) numbers ≡ None) (is : after ≡ sets ++ copy ∷ [])
    (copied : arc_slice_items copy ≡ key_items key) where
  lists-are : lists_of after ≡ lists_of sets ++ key_items key ∷ []
  lists-are = lists-behind sets after copy is ∙ ap (λ (es : List EntityId). lists_of sets ++ es ∷ []) copied

  pub set-added : (number : ℕ) → number ≡ length sets → Interns (sets_of sets) (ids_view (key_items key)) number (sets_of after)
  set-added number last = behind (sets_of sets) (sets_of after) (ids_view (key_items key)) number (last ∙ sym (count-sets sets))
      (ap (map ids_view) lists-are ∙ map-append ids_view (lists_of sets) (key_items key ∷ []))
      (set-absent sets numbers (key_items key) are none)

  pub sets-numbered : (new : BTreeMap SetKey ℕ) (number : ℕ) → number ≡ length sets
      → Updates (λ (a b : SetKey). by_size (key_items a) (key_items b)) numbers new key (Some number) → AreNumberedSets after new
  sets-numbered new number last updates =
      let P : ℕ → Type 0 = λ n. Updates (λ (a b : SetKey). by_size (key_items a) (key_items b)) numbers new key (Some n) in
      let more = one-more key_items by_size exact-sizes (lists_of sets) numbers new key are none
      (subst P (last ∙ sym (length-map sets (λ (s : Shared). arc_slice_items s))) updates) in
      subst (λ (ls : List (List EntityId)). AreNumbered key_items by_size ls new) (sym lists-are) more

-- ---- room

-- more room is room for them too
pub room-wider : (less more : ℕ) (sets : List (List ℕ)) → less ≤ more → HaveRoom less sets → HaveRoom more sets
room-wider less more sets wider have = Each-weaker (λ (set : List ℕ). length set ≤ less) (λ (set : List ℕ). length set ≤ more)
    (λ set within. omega (arith, within, wider)) sets have

-- there is room for one that is there
pub room-of : (room : ℕ) (sets : List (List ℕ)) (entities : List EntityId) → HaveRoom room sets → Contains sets (ids_view entities)
    → length entities ≤ room
room-of room sets entities have there =
    let within : length (ids_view entities) ≤ room = Each-member (λ (set : List ℕ). length set ≤ room) sets (ids_view entities) have
    there in
    omega (arith, within, length-map entities (λ (e : EntityId). e.0))

-- and for those with one more for which there is room
pub room-interned : {F : Type 0} (room : ℕ) (sets after : List Shared) (entities : List EntityId) (r : Result ℕ F)
    → HaveRoom room (sets_of sets) → length entities ≤ room
    → IfOk r (λ number. Interns (sets_of sets) (ids_view entities) number (sets_of after)) → OnErr r (after ≡ sets)
    → HaveRoom room (sets_of after)
room-interned room sets after entities (Err fault) have within ok same =
    subst (λ (all : List Shared). HaveRoom room (sets_of all)) (sym same) have
room-interned room sets after entities (Ok number) have within ok err = elim ok.1 [
  | inl same ↦ subst (HaveRoom room) (sym same) have
  | inr more ↦
      let one : length (ids_view entities) ≤ room = omega (arith, within, length-map entities (λ (e : EntityId). e.0)) in
      subst (HaveRoom room) (sym more.0) (Each-append (λ (set : List ℕ). length set ≤ room) (sets_of sets) (ids_view entities ∷ []) have
      (one, tt))
]
