-- Entities and their supertypes, in tables.
use Rattle.std.specs.Prelude.{◌≡◌, ◌↔◌, ◌⊎◌, ℕ, suc, ◌+◌, ◌<◌, List, [], ◌∷◌, ◌++◌, Some, None, length, map, slice_get, take, Contains, refl}
use Rattle.std.specs.List.Sorted.{IsStrictlyIncreasing}
use Rattle.std.proofs.Common.{arith, ap, sym, ◌∙◌, subst, inl, inr, get_or, length-append}
use Rattle.std.proofs.lemmas.List.{map-append}
use Rattle.std.proofs.lemmas.Option.{slice_get_read}
use Rattle.p21_spec_schema.specs.Order.{order}
use Rattle.p21_spec_schema.specs.Schema.{Schema}
use Rattle.p21_spec_schema.specs.Supertype.{IsA}
use Rattle.p21_express_graph.specs.Above.{AreAbove}
use Rattle.p21_express_graph.specs.CollectedLists.{IsRisingOf, AreRisingOf}
use Rattle.p21_express_graph.specs.Prefixes.{list_of, lists_in}
use Rattle.p21_express_graph.specs.Indexes.{AreIndexes, IsIndex}
use Rattle.p21_express_graph.specs.Orders.{AreOrders, number_lists, numbers}
use Rattle.p21_express_graph.specs.Resolved.{HoldsTogether, IsEntity}
use Rattle.p21_express_graph.specs.SettledOrder.{nexts_of}
use Rattle.p21_express_graph.specs.declared.above.Above.{Above}
use Rattle.p21_express_graph.specs.declared.prefixes.PrefixLists.{PrefixLists}
use Rattle.p21_express_graph.specs.declared.indexes.Index.{Index}
use Rattle.p21_express_graph.proofs.SharedRuns.{snoc-at}
use Rattle.p21_express_graph.proofs.Gatherings.{mapped-length}
use Rattle.p21_express_graph.proofs.Lookups.{take-snoc}
use Rattle.p21_express_graph.proofs.OrderTables.{order-tells}

rising-more : (tables lists : List (List ℕ)) (numbers list : List ℕ) → AreRisingOf tables lists → IsRisingOf numbers list → AreRisingOf (tables ++ numbers ∷ []) (lists ++ list ∷ [])
rising-more tables lists numbers list are is = record {
  size = (let a = length-append lists (list ∷ []) in let b = length-append tables (numbers ∷ []) in omega (arith, a, b, are.size));
  each = λ x. elim (snoc-at tables numbers x) [
    | inl h ↦ elim (snoc-at lists list x) [
      | inl k ↦ let P : List ℕ → Type 0 = λ ns. IsRisingOf ns (nexts_of (lists ++ list ∷ []) x) in let Q : List ℕ → Type 0 = λ ns. IsRisingOf numbers ns in subst P (sym h.1) (subst Q (sym k.1) is)
      | inr k ↦ absurd (k.0 (h.0 ∙ sym are.size))
    ]
    | inr h ↦ elim (snoc-at lists list x) [
      | inl k ↦ absurd (h.0 (k.0 ∙ are.size))
      | inr k ↦ let P : List ℕ → Type 0 = λ ns. IsRisingOf ns (nexts_of (lists ++ list ∷ []) x) in let Q : List ℕ → Type 0 = λ ns. IsRisingOf (nexts_of tables x) ns in subst P (sym h.1) (subst Q (sym k.1) (are.each x))
    ]
  ];
}

-- one stored list more
pub stored-rising : {X Y : Type 0} (table : X → List ℕ) (list : Y → List ℕ) (xs : List X) (k : ℕ) (x : X) (ys after : List Y) (y : Y) → k < length xs → x ≡ get_or xs k x → after ≡ ys ++ y ∷ [] → AreRisingOf (map table (take k xs)) (map list ys) → IsRisingOf (table x) (list y) → AreRisingOf (map table (take (k + 1) xs)) (map list after)
stored-rising {X} {Y} table list xs k x ys after y below x_is after_is are is =
    let next : k + 1 ≡ suc k = omega arith in
    let tables : map table (take k xs) ++ table x ∷ [] ≡ map table (take (k + 1) xs) =
    ap (λ z. map table (take k xs) ++ table z ∷ []) x_is ∙ sym (map-append table (take k xs) (get_or xs k x ∷ [])) ∙ ap (map table) (sym (take-snoc xs k x below)) ∙ ap (λ n. map table (take n xs)) (sym next) in
    let lists : map list ys ++ list y ∷ [] ≡ map list after = sym (map-append list ys (y ∷ [])) ∙ ap (map list) (sym after_is) in
    let P : List (List ℕ) → Type 0 = λ ts. AreRisingOf ts (map list after) in
    let Q : List (List ℕ) → Type 0 = λ ls. AreRisingOf (map table (take k xs) ++ table x ∷ []) ls in
    subst P tables (subst Q lists (rising-more (map table (take k xs)) (map list ys) (table x) (list y) are is))

-- the order that a table has for an entity
pub order-listed : (inside s : Schema) (lists : List (List ℕ)) (e : ℕ) → inside ≡ s → AreOrders inside lists → IsEntity s e → nexts_of lists e ≡ order s e
order-listed inside s lists e same are is_entity =
    let P : Schema → Type 0 = λ z. AreOrders z lists in
    ap (λ o. elim o [ Some nexts ↦ nexts | None ↦ [] ]) ((subst P same are).each e is_entity)

module _ (inside s : Schema) (all : PrefixLists) (listed : List Above) (indexes : List Index) (e : ℕ) (same : inside ≡ s) (are : AreOrders inside (lists_in all)) (listed_are : AreAbove all listed) (indexed : AreIndexes (number_lists all.runs.items) listed indexes) (is_entity : IsEntity s e) where
  are_in : AreOrders s (lists_in all)
  are_in = let P : Schema → Type 0 = λ z. AreOrders z (lists_in all) in subst P same are

  pub entity-has_prefix : e < length all.prefixes.items
  entity-has_prefix = omega (arith, is_entity, are_in.size, mapped-length (list_of (number_lists all.runs.items)) all.prefixes.items)

  pub entity-has_above : e < length listed
  entity-has_above = omega (arith, entity-has_prefix, listed_are.size)

  module _ (above : Above) (above_at : slice_get listed e ≡ Some above) where
    pub index-within : above.front.run < length indexes
    index-within = omega (arith, (listed_are.each e above above_at).within.0, indexed.size)

    pub others-rising : IsStrictlyIncreasing above.others.items
    others-rising = (listed_are.each e above above_at).rising

    -- the front, the others and the entity are just the entity and its supertypes
    pub above-tells : HoldsTogether s → (f : ℕ) → (Contains (take above.front.size (nexts_of (number_lists all.runs.items) above.front.run)) f ⊎ (Contains above.others.items f ⊎ (f ≡ e))) ↔ IsA s e f
    above-tells holds f =
        let (has, got) = (listed_are.each e above above_at).same f in
        let P : List ℕ → Type 0 = λ fs. Contains fs f in
        let is_order : nexts_of (lists_in all) e ≡ order s e = order-listed s s (lists_in all) e refl are_in is_entity in
        let (is, among) = order-tells s holds e f in
        (λ either. is (subst P is_order (got either)), λ is_a. has (subst P (sym is_order) (among is_a)))

    pub index-known : (index : Index) → index ≡ get_or indexes above.front.run index → IsIndex (nexts_of (number_lists all.runs.items) above.front.run) index.numbers.items index.places.items
    index-known index index_is = indexed.each e above index above_at (slice_get_read indexes (length indexes) above.front.run index refl index-within index_is)
