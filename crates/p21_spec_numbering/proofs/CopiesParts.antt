-- What hangs together makes parts, where instances of one rank say the same by ranks.
use Rattle.std.specs.Prelude.{◌≡◌, ◌≤◌, ℕ, List, map, filter, length, Contains, nat_eq}
use Rattle.std.proofs.Common.{arith, sym, subst, ◌∙◌}
use Rattle.std.proofs.lemmas.Bool.{eqb-true, eq-eqb}
use Rattle.std.proofs.lemmas.List.{length-map}
use Rattle.p21_spec_basics.proofs.Members.{Contains-mapped, Contains-unmapped, Contains-filter, Contains-unfiltered}
use Rattle.p21_spec_basics.proofs.Shuffles.{AreMembers, NoneTwice}
use Rattle.p21_spec_file.specs.Meaning.{Typed}
use Rattle.p21_spec_numbering.proofs.Copies.{shares-along}
use Rattle.p21_spec_numbering.proofs.CopiesOrders.{none_twice-filter, count-filter}
use Rattle.p21_spec_numbering.proofs.CopiesRules.{all-taken}
use Rattle.p21_spec_numbering.proofs.Moved.{names-none_twice, none_twice-mapped, rows-targets_renamed}
use Rattle.p21_spec_numbering.proofs.Targets.{typed_targets, targets-same}
use Rattle.p21_spec_numbering.proofs.Uses.{passes}
use Rattle.p21_spec_numbering.specs.Copies.{Shares, RefersTo}
use Rattle.p21_spec_numbering.specs.Laws.{AlikeGivesParts}
use Rattle.p21_spec_numbering.specs.Renamed.{renamed_typed, names, IsInjectiveOn}

pub alike-gives_parts : AlikeGivesParts
alike-gives_parts ranking m proper alike part one_of_each hangs as_many =
    record { one_of_each = one_of_each; hangs = hangs; onto = onto; back = back }
  where
    onto : (n t : ℕ) → RefersTo m n t → Shares ranking m n → Shares ranking m t → (j : ℕ) → Contains (names m) j
        → ranking m j ≡ ranking m n → (k : ℕ) × Contains (names m) k × (ranking m k ≡ ranking m t) × (part k ≡ part j)
    onto n t (x, at, target) shares shares_t j among one =
        let (i, at_i, is_j) = Contains-unmapped (λ (i : ℕ × Typed). i.0) m.instances j among in
        let P : ℕ → Type 0 = λ z. Contains m.instances (z, i.1) in
        let at_j : Contains m.instances (j, i.1) = subst P is_j at_i in
        let Q : List ℕ → Type 0 = λ ts. Contains ts (ranking m t) in
        let leads : Contains (typed_targets (renamed_typed (ranking m) i.1)) (ranking m t) =
        targets-same (renamed_typed (ranking m) x) (renamed_typed (ranking m) i.1) (alike n j x i.1 at at_j (sym one)) (ranking m t) (subst Q (sym (rows-targets_renamed (ranking m) x.values)) (Contains-mapped (ranking m) (typed_targets x) t target)) in
        let (k, target_, is_rank) = Contains-unmapped (ranking m) (typed_targets i.1) (ranking m t) (subst Q (rows-targets_renamed (ranking m) i.1.values) leads) in
        let among_n : Contains (names m) n = Contains-mapped (λ (z : ℕ × Typed). z.0) m.instances (n, x) at in
        let among_t : Contains (names m) t = proper.0.closed n x at t target in
        let shares_j : Shares ranking m j = shares-along ranking m n j among_n (sym one) shares in
        let shares_k : Shares ranking m k = shares-along ranking m t k among_t (sym is_rank) shares_t in
        (k, proper.0.closed j i.1 at_j k target_, is_rank, sym (hangs j k (i.1, at_j, target_) shares_j shares_k))

    ranked : (n j : ℕ) → Contains (filter (λ i. nat_eq (ranking m i) (ranking m n)) (names m)) j → ranking m j ≡ ranking m n
    ranked n j at = eqb-true (ranking m j) (ranking m n) (passes (λ i. nat_eq (ranking m i) (ranking m n)) (names m) j at)

    back : (n t : ℕ) → RefersTo m n t → Shares ranking m n → Shares ranking m t → (k : ℕ) → Contains (names m) k
        → ranking m k ≡ ranking m t → (j : ℕ) × Contains (names m) j × (ranking m j ≡ ranking m n) × (part j ≡ part k)
    back n t refers shares shares_t k among one =
        let first : List ℕ = filter (λ i. nat_eq (ranking m i) (ranking m n)) (names m) in
        let second : List ℕ = filter (λ i. nat_eq (ranking m i) (ranking m t)) (names m) in
        let long : length (map part first) ≡ length first = length-map first part in
        let long_ : length (map part second) ≡ length second = length-map second part in
        let counted = count-filter (λ i. nat_eq (ranking m i) (ranking m n)) (names m) in
        let counted_ = count-filter (λ i. nat_eq (ranking m i) (ranking m t)) (names m) in
        let many = as_many n t refers shares shares_t in
        let short : length (map part second) ≤ length (map part first) = omega (arith, long, long_, counted, counted_, many) in
        let injective : IsInjectiveOn first part = λ i j at at_ same.
        one_of_each i j (Contains-unfiltered (λ z. nat_eq (ranking m z) (ranking m n)) (names m) i at) (Contains-unfiltered (λ z. nat_eq (ranking m z) (ranking m n)) (names m) j at_) (ranked n i at ∙ sym (ranked n j at_)) same in
        let none : NoneTwice (map part first) = none_twice-mapped part first injective (none_twice-filter (λ i. nat_eq (ranking m i) (ranking m n)) (names m) (names-none_twice m proper.0)) in
        let at_k : Contains (map part second) (part k) = Contains-mapped part second k (Contains-filter (λ i. nat_eq (ranking m i) (ranking m t)) (names m) k (eq-eqb (ranking m k) (ranking m t) one) among) in
        let (j, at_j, same) = Contains-unmapped part first (part k) (all-taken (map part first) (map part second) none to short (part k) at_k) in
        (j, Contains-unfiltered (λ i. nat_eq (ranking m i) (ranking m n)) (names m) j at_j, ranked n j at_j, same)
      where
        to : AreMembers (map part (filter (λ i. nat_eq (ranking m i) (ranking m n)) (names m))) (map part (filter (λ i. nat_eq (ranking m i) (ranking m t)) (names m)))
        to z at =
            let (j, at_j, is_z) = Contains-unmapped part (filter (λ i. nat_eq (ranking m i) (ranking m n)) (names m)) z at in
            let (u, among_u, one_u, same) = onto n t refers shares shares_t j (Contains-unfiltered (λ i. nat_eq (ranking m i) (ranking m n)) (names m) j at_j) (ranked n j at_j) in
            let P : ℕ → Type 0 = λ w. Contains (map part (filter (λ i. nat_eq (ranking m i) (ranking m t)) (names m))) w in
            subst P (same ∙ is_z) (Contains-mapped part (filter (λ i. nat_eq (ranking m i) (ranking m t)) (names m)) u (Contains-filter (λ i. nat_eq (ranking m i) (ranking m t)) (names m) u (eq-eqb (ranking m u) (ranking m t) one_u) among_u))
