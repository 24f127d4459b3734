-- Orders that are fronts of one run.
use Rattle.std.specs.Prelude.{◌≡◌, ℕ, zero, suc, ◌≤◌, List, [], ◌∷◌, Some, take, slice_get, Contains}
use Rattle.std.specs.Option.{option_map}
use Rattle.std.proofs.Common.{arith, ap, sym, subst, ◌∙◌, inl, inr}
use Rattle.std.proofs.lemmas.Option.{slice_get-map}
use Rattle.p21_spec_basics.proofs.Members.{Contains-cases, Contains-first, Contains-later, Contains-none, some_is}
use Rattle.p21_spec_schema.specs.Order.{order}
use Rattle.p21_spec_schema.specs.Schema.{Schema}
use Rattle.p21_spec_schema.specs.Supertype.{IsA, itself}
use Rattle.p21_express_graph.specs.Orders.{AreOrders, number_lists}
use Rattle.p21_express_graph.specs.Prefixes.{list_of, lists_in}
use Rattle.p21_express_graph.specs.Resolved.{HoldsTogether, IsEntity}
use Rattle.p21_express_graph.specs.SettledOrder.{nexts_of}
use Rattle.p21_express_graph.specs.declared.prefixes.PrefixLists.{PrefixLists}
use Rattle.p21_express_graph.specs.declared.prefixes.RunPrefix.{RunPrefix}
use Rattle.p21_express_graph.proofs.OrderTables.{order-tells}

longer : (xs : List ℕ) (m n x : ℕ) → m ≤ n → Contains (take m xs) x → Contains (take n xs) x
longer xs zero n x least among = absurd (Contains-none x among)
longer [] (suc m) n x least among = absurd (Contains-none x among)
longer (y ∷ xs) (suc m) zero x least among = absurd (omega (arith, least))
longer (y ∷ xs) (suc m) (suc n) x least among = elim (Contains-cases y (take m xs) x among) [
  | inl same ↦ let P : ℕ → Type 0 = λ z. Contains (y ∷ take n xs) z in subst P same (Contains-first y (take n xs))
  | inr h ↦ Contains-later y (take n xs) x (longer xs m n x (omega (arith, least)) h)
]

-- the order of an entity is its front
front-is : (s : Schema) (all : PrefixLists) (e : ℕ) (front : RunPrefix) → AreOrders s (lists_in all) → IsEntity s e
    → slice_get all.prefixes.items e ≡ Some front → list_of (number_lists all.runs.items) front ≡ order s e
front-is s all e front are is_entity at =
    some_is (list_of (number_lists all.runs.items) front) (order s e)
    (sym (slice_get-map (list_of (number_lists all.runs.items)) all.prefixes.items e
    ∙ ap (option_map (list_of (number_lists all.runs.items))) at) ∙ are.each e is_entity)

-- so where the front of one entity is that of another one or longer, it is below that
pub front-below : (s : Schema) → HoldsTogether s → (inside : Schema) (all : PrefixLists) (e f : ℕ) (whole front : RunPrefix) → inside ≡ s
    → AreOrders inside (lists_in all) → IsEntity s e → IsEntity s f → slice_get all.prefixes.items e ≡ Some whole
    → slice_get all.prefixes.items f ≡ Some front
    → front.run ≡ whole.run → front.size ≤ whole.size → IsA s e f
front-below s holds inside all e f whole front same inside_are e_is f_is e_at f_at one_run least =
    let P : Schema → Type 0 = λ z. AreOrders z (lists_in all) in
    let Q : List ℕ → Type 0 = λ xs. Contains xs f in
    let R : ℕ → Type 0 = λ r. Contains (take front.size (nexts_of (number_lists all.runs.items) r)) f in
    let are = subst P same inside_are in
    let own = subst Q (sym (front-is s all f front are f_is f_at)) ((order-tells s holds f f).1 (itself f)) in
    (order-tells s holds e f).0 (subst Q (front-is s all e whole are e_is e_at)
    (longer (nexts_of (number_lists all.runs.items) whole.run) front.size whole.size f least (subst R one_run own)))
