-- What has the proper supertypes of entities: fronts of runs, and others.
use Rattle.std.specs.Prelude.{◌≡◌, ◌↔◌, ◌⊎◌, ℕ, suc, ◌+◌, ◌-◌, ◌<◌, ◌≤◌, List, [], ◌∷◌, ◌++◌, Some, length, map, take, slice_get, slice_set, Contains}
use Rattle.std.proofs.Common.{arith, ap, sym, ◌∙◌, subst, inl, inr, get_or, length-append}
use Rattle.std.proofs.lemmas.List.{length-set, length-take, length-take-le, map-append, take-append-le, take_all}
use Rattle.std.proofs.lemmas.List.Elements.{Contains-append_cases, Contains-append_left, Contains-append_right}
use Rattle.p21_spec_basics.proofs.Members.{Contains-cases, Contains-none}
use Rattle.p21_express_graph.specs.Above.{AreAbove, EndsFront, HasAbove}
use Rattle.p21_express_graph.specs.Orders.{number_lists}
use Rattle.p21_express_graph.specs.Prefixes.{AreRunPrefixes, BeginsWith, list_of, lists_in}
use Rattle.p21_express_graph.specs.SettledOrder.{nexts_of}
use Rattle.p21_express_graph.specs.declared.above.Above.{Above}
use Rattle.p21_express_graph.specs.declared.prefixes.RunPrefix.{RunPrefix}
use Rattle.p21_express_graph.specs.declared.prefixes.PrefixLists.{PrefixLists}
use Rattle.p21_express_graph.proofs.Gatherings.{mapped-length}
use Rattle.p21_express_graph.proofs.Lookups.{take-snoc}
use Rattle.p21_express_graph.proofs.Pairs.{snoc-get}
use Rattle.p21_express_graph.proofs.SharedRuns.{prefix-list, set-get}

-- a list whose last is the number, and with whose others a run begins
pub ends-front : {X : Type 0} (number : X → ℕ) (list : List X) (run : List ℕ) (d : X) (last : ℕ) → 0 < length list → number (get_or list (length list - 1) d) ≡ last → BeginsWith run (map number (take (length list - 1) list)) → EndsFront (map number list) run last
ends-front number list run d last some last_is begins_with =
    let (left, begins) = begins_with in
    let size : ℕ = length list - 1 in
    let init : List ℕ = map number (take size list) in
    let whole : list ≡ take size list ++ get_or list size d ∷ [] = sym (take_all (suc size) list (omega (arith, some))) ∙ take-snoc list size d (omega (arith, some)) in
    let split : map number list ≡ init ++ last ∷ [] = ap (map number) whole ∙ map-append number (take size list) (get_or list size d ∷ []) ∙ ap (λ x. init ++ x ∷ []) last_is in
    let front : take (length init) run ≡ init = ap (take (length init)) begins ∙ take-append-le (length init) init left (omega arith) ∙ take_all (length init) init (omega arith) in
    (length init, ap length split ∙ length-append init (last ∷ []), split ∙ ap (λ xs. xs ++ last ∷ []) (sym front))

-- a number is in such a list just where it is in the front, or the last
ends-tells : (list run : List ℕ) (size last : ℕ) → list ≡ take size run ++ last ∷ [] → (f : ℕ) → Contains list f ↔ (Contains (take size run) f ⊎ (f ≡ last))
ends-tells list run size last is f =
    let P : List ℕ → Type 0 = λ xs. Contains xs f in (
      λ among. elim (Contains-append_cases (take size run) (last ∷ []) f (subst P is among)) [
        | inl h ↦ inl h
        | inr h ↦ elim (Contains-cases last [] f h) [ inl same ↦ inr (sym same) | inr none ↦ absurd (Contains-none f none) ]
      ],
      λ either. elim either [
        | inl h ↦ subst P (sym is) (Contains-append_left (take size run) (last ∷ []) f h)
        | inr same ↦ subst P (sym is) (Contains-append_right (take size run) (last ∷ []) f (0, omega arith, sym same))
      ],
    )

module _ (all : PrefixLists) (e : ℕ) (own : RunPrefix) (prefixes : AreRunPrefixes all) (own_at : slice_get all.prefixes.items e ≡ Some own) where
  abbrev runs : List (List ℕ)
  runs = number_lists all.runs.items

  list_is : nexts_of (lists_in all) e ≡ list_of runs own
  list_is = prefix-list runs all.prefixes.items e own own_at

  -- the front of the whole list
  pub own-above : Contains (nexts_of (lists_in all) e) e → HasAbove all e own []
  own-above itself = record {
    within = prefixes e own own_at;
    rising = λ k below. absurd (omega (arith, below));
    same = λ f.
        let P : List ℕ → Type 0 = λ xs. Contains xs f in
        let Q : ℕ → Type 0 = λ x. Contains (nexts_of (lists_in all) e) x in
        (λ among. inl (subst P list_is among), λ either. elim either [ inl h ↦ subst P (sym list_is) h | inr rest ↦ elim rest [ inl none ↦ absurd (Contains-none f none) | inr same ↦ subst Q (sym same) itself ] ]);
  }

  module _ (run : ℕ) (ends : EndsFront (nexts_of (lists_in all) e) (nexts_of runs run) e) where
    own-size : own.size ≡ ends.0 + 1
    own-size =
        let within = prefixes e own own_at in
        sym (length-take-le own.size (nexts_of runs own.run) within.1) ∙ sym (ap length list_is) ∙ ends.1

    pub own-some : 1 ≤ own.size
    own-some = omega (arith, own-size)

    -- so many numbers are there
    size-within : ends.0 ≤ length (nexts_of runs run)
    size-within = omega (arith, ends.1, ap length ends.2, length-append (take ends.0 (nexts_of runs run)) (e ∷ []), length-take ends.0 (nexts_of runs run))

    -- the front of another run
    pub shared-above : run < length all.runs.items → HasAbove all e (record { run = run; size = own.size - 1 }) []
    shared-above below = record {
      within = (omega (arith, below, mapped-length (λ x. map (λ y. y.0) x.items) all.runs.items), omega (arith, own-size, size-within));
      rising = λ k low. absurd (omega (arith, low));
      same = λ f.
          let size : ends.0 ≡ own.size - 1 = omega (arith, own-size) in
          let P : ℕ → Type 0 = λ n. Contains (nexts_of (lists_in all) e) f ↔ (Contains (take n (nexts_of runs run)) f ⊎ (f ≡ e)) in
          let (has, got) = subst P size (ends-tells (nexts_of (lists_in all) e) (nexts_of runs run) ends.0 e ends.2 f) in
          (λ among. elim (has among) [ inl h ↦ inl h | inr same ↦ inr (inr same) ], λ either. elim either [ inl h ↦ got (inl h) | inr rest ↦ elim rest [ inl none ↦ absurd (Contains-none f none) | inr same ↦ got (inr same) ] ]);
    }

-- what is above an entity, one more
pub above-more : (all : PrefixLists) (listed after : List Above) (above : Above) → after ≡ listed ++ above ∷ [] → ((e : ℕ) (x : Above) → slice_get listed e ≡ Some x → HasAbove all e x.front x.others.items) → HasAbove all (length listed) above.front above.others.items
    → (e : ℕ) (x : Above) → slice_get after e ≡ Some x → HasAbove all e x.front x.others.items
above-more all listed after above after_is are is e x at = elim (snoc-get listed above e x (ap (λ xs. slice_get xs e) (sym after_is) ∙ at)) [
  | inl old ↦ are e x old
  | inr new ↦
      let P : ℕ → Type 0 = λ n. HasAbove all n x.front x.others.items in
      let Q : Above → Type 0 = λ y. HasAbove all (length listed) y.front y.others.items in
      subst P (sym new.0) (subst Q (sym new.1) is)
]

-- another one in its place
pub above-set : (all : PrefixLists) (listed : List Above) (number : ℕ) (above : Above) → AreAbove all listed → HasAbove all number above.front above.others.items → AreAbove all (slice_set listed number above)
above-set all listed number above are is = record {
  size = omega (arith, are.size, length-set listed number above);
  each = λ e x at. elim (set-get listed number e above x at) [
    | inl new ↦
        let P : ℕ → Type 0 = λ n. HasAbove all n x.front x.others.items in
        let Q : Above → Type 0 = λ y. HasAbove all number y.front y.others.items in
        subst P (sym new.0) (subst Q (sym new.1) is)
    | inr old ↦ are.each e x old
  ];
}
