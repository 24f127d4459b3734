-- Chains of steps and ranks: where things have ranks that fall with each step, no chain comes back; and where no chain comes
-- back in a relation on finitely many numbers, given by lists, there are such ranks.
use Rattle.std.specs.Prelude.{◌≡◌, ℕ, zero, suc, ◌+◌, ◌*◌, ◌<◌, ◌≤◌, max, Bool, List, [], ◌∷◌, if◌then◌else◌, nat_eq, Contains, refl}
use Rattle.std.specs.List.{flat_map}
use Rattle.std.proofs.Common.{arith, inl, inr, sym, subst, ap}
use Rattle.std.proofs.lemmas.Bool.{cases_eq, eq-eqb, ne_eqb}
use Rattle.p21_spec_schema.specs.Declared.{HasNoCircle}
use Rattle.p21_spec_basics.proofs.Members.{Contains-none, Contains-first, Contains-later, Contains-cases, Contains-flat_map, Contains-one_of}

-- one step or more lead from one to the other
pub data Leads (Step : ℕ → ℕ → Type 0) : ℕ → ℕ → Type 0 where
  one_step : (x y : ℕ) → Step x y → Leads Step x y
  more_steps : (x y z : ℕ) → Step x y → Leads Step y z → Leads Step x z

leads-down : (Step : ℕ → ℕ → Type 0) (ends : HasNoCircle Step) (x y : ℕ) → Leads Step x y → ends.0 y < ends.0 x
leads-down Step ends x y (one_step _ _ step) = ends.1 x y step
leads-down Step ends x y (more_steps _ z _ step more) = omega (arith, ends.1 x z step, leads-down Step ends z y more)

-- where there are ranks no chain comes back
pub ranks-end : (Step : ℕ → ℕ → Type 0) → HasNoCircle Step → (x : ℕ) → Leads Step x x → ⊥
ranks-end Step ends x back = omega (arith, leads-down Step ends x x back)

-- nor are there things of which each leads to another of them
pub none-stuck : (Step : ℕ → ℕ → Type 0) → HasNoCircle Step → (Stuck : ℕ → Type 0) → ((x : ℕ) → Stuck x → (y : ℕ) × Stuck y × Step x y) → (x : ℕ) → Stuck x → ⊥
none-stuck Step ends Stuck goes_on x stuck = by (suc (ends.0 x)) x (omega arith) stuck
  where
    by : (n x : ℕ) → ends.0 x < n → Stuck x → ⊥
    by zero x below stuck = omega (arith, below)
    by (suc n) x below stuck = let (y, stuck_, step) = goes_on x stuck in by n y (omega (arith, below, ends.1 x y step)) stuck_

-- the relation that lists give: each number leads to those of its list
abbrev pub Listed : (ℕ → List ℕ) → ℕ → ℕ → Type 0
Listed next x y = Contains (next x) y

-- without v: a step to v goes on to where v leads
abbrev past : (ℕ → List ℕ) → ℕ → ℕ → List ℕ
past next v y = if nat_eq y v then next v else y ∷ []

abbrev without : (ℕ → List ℕ) → ℕ → ℕ → List ℕ
without next v x = if nat_eq x v then [] else flat_map (past next v) (next x)

-- above all of doubled ranks
abbrev top : (ℕ → ℕ) → List ℕ → ℕ
top rank [] = 0
top rank (y ∷ ys) = max (2 * rank y + 2) (top rank ys)

top-above : (rank : ℕ → ℕ) (ys : List ℕ) (y : ℕ) → Contains ys y → 2 * rank y + 2 ≤ top rank ys
top-above rank [] y among = absurd (Contains-none y among)
top-above rank (z ∷ ys) y among = elim (Contains-cases z ys y among) [
  | inl h ↦ let P : ℕ → Type 0 = λ w. 2 * rank w + 2 ≤ max (2 * rank z + 2) (top rank ys) in subst P h (omega arith)
  | inr h ↦ omega (arith, top-above rank ys y h)
]

top-below : (rank : ℕ → ℕ) (ys : List ℕ) (n : ℕ) → ((y : ℕ) → Contains ys y → rank y < n) → top rank ys ≤ 2 * n
top-below rank [] n below = omega arith
top-below rank (y ∷ ys) n below = omega (arith, below y (Contains-first y ys), top-below rank ys n (λ z among. below z (Contains-later y ys z among)))

-- and v between those that lead to it and those to which it leads
abbrev ranked : (ℕ → List ℕ) → ℕ → (ℕ → ℕ) → ℕ → ℕ
ranked next v rank x = if nat_eq x v then suc (top rank (next v)) else 2 * rank x + 2

other : (next : ℕ → List ℕ) (v x : ℕ) → (x ≡ v → ⊥) → without next v x ≡ flat_map (past next v) (next x)
other next v x differ = ap (λ (b : Bool). if b then [] else flat_map (past next v) (next x)) (ne_eqb x v differ)

past-other : (next : ℕ → List ℕ) (v y : ℕ) → (y ≡ v → ⊥) → past next v y ≡ y ∷ []
past-other next v y differ = ap (λ (b : Bool). if b then next v else y ∷ []) (ne_eqb y v differ)

past-same : (next : ℕ → List ℕ) (v : ℕ) → past next v v ≡ next v
past-same next v = ap (λ (b : Bool). if b then next v else v ∷ []) (eq-eqb v v refl)

-- its steps are chains of the whole relation
without-leads : (next : ℕ → List ℕ) (v x y : ℕ) → Listed (without next v) x y → Leads (Listed next) x y
without-leads next v x y step = elim (cases_eq x v) [
  | inl h ↦ let P : List ℕ → Type 0 = λ ys. Contains ys y in absurd (Contains-none y (subst P (ap (λ (b : Bool). if b then [] else flat_map (past next v) (next x)) (eq-eqb x v h)) step))
  | inr h ↦
      let P : List ℕ → Type 0 = λ ys. Contains ys y in
      let (z, among, has) = Contains-one_of (past next v) (next x) y (subst P (other next v x h) step) in
      through z among has
]
  where
    through : (z : ℕ) → Contains (next x) z → Contains (past next v z) y → Leads (Listed next) x y
    through z among has = elim (cases_eq z v) [
      | inl h ↦
          let P : List ℕ → Type 0 = λ ys. Contains ys y in
          let Q : ℕ → Type 0 = λ w. Contains (past next v w) y in
          let R : ℕ → Type 0 = λ w. Contains (next x) w in
          more_steps x v y (subst R h among) (one_step v y (subst P (past-same next v) (subst Q h has)))
      | inr h ↦
          let P : List ℕ → Type 0 = λ ys. Contains ys y in
          let R : ℕ → Type 0 = λ w. Contains (next x) w in
          elim (Contains-cases z [] y (subst P (past-other next v z h) has)) [ inl same ↦ one_step x y (subst R same among) | inr k ↦ absurd (Contains-none y k) ]
    ]

joined : (Step : ℕ → ℕ → Type 0) (x y z : ℕ) → Leads Step x y → Leads Step y z → Leads Step x z
joined Step x y z (one_step _ _ step) more = more_steps x y z step more
joined Step x y z (more_steps _ w _ step first) more = more_steps x w z step (joined Step w y z first more)

chain-leads : (next : ℕ → List ℕ) (v x y : ℕ) → Leads (Listed (without next v)) x y → Leads (Listed next) x y
chain-leads next v x y (one_step _ _ step) = without-leads next v x y step
chain-leads next v x y (more_steps _ z _ step more) = joined (Listed next) x z y (without-leads next v x z step) (chain-leads next v z y more)

without-few : (next : ℕ → List ℕ) (v x y : ℕ) → ((x y : ℕ) → Listed next x y → x < suc v) → Listed (without next v) x y → x < v
without-few next v x y few step = elim (cases_eq x v) [
  | inl h ↦ let P : List ℕ → Type 0 = λ ys. Contains ys y in absurd (Contains-none y (subst P (ap (λ (b : Bool). if b then [] else flat_map (past next v) (next x)) (eq-eqb x v h)) step))
  | inr h ↦ elim (without-leads next v x y step) [ one_step _ _ first ↦ omega (arith, few x _ first, h) | more_steps _ z _ first more ↦ omega (arith, few x z first, h) ]
]

ranked-v : (next : ℕ → List ℕ) (v : ℕ) (rank : ℕ → ℕ) → ranked next v rank v ≡ suc (top rank (next v))
ranked-v next v rank = ap (λ (b : Bool). if b then suc (top rank (next v)) else 2 * rank v + 2) (eq-eqb v v refl)

ranked-other : (next : ℕ → List ℕ) (v : ℕ) (rank : ℕ → ℕ) (x : ℕ) → (x ≡ v → ⊥) → ranked next v rank x ≡ 2 * rank x + 2
ranked-other next v rank x differ = ap (λ (b : Bool). if b then suc (top rank (next v)) else 2 * rank x + 2) (ne_eqb x v differ)

-- the ranks without v are ranks with it
with-v : (next : ℕ → List ℕ) (v : ℕ) → ((x : ℕ) → Leads (Listed next) x x → ⊥) → HasNoCircle (Listed (without next v)) → HasNoCircle (Listed next)
with-v next v none smaller = (ranked next v smaller.0, falls)
  where
    from_v : (x y : ℕ) → x ≡ v → Listed next x y → ranked next v smaller.0 y < ranked next v smaller.0 x
    from_v x y is step =
        let P : ℕ → Type 0 = λ w. Contains (next w) y in
        let among : Contains (next v) y = subst P is step in
        let Q : ℕ → Type 0 = λ w. Listed next v w in
        let differ : y ≡ v → ⊥ = λ h. none v (one_step v v (subst Q h among)) in
        let R : ℕ → Type 0 = λ w. ranked next v smaller.0 y < ranked next v smaller.0 w in
        subst R (sym is) (omega (arith, ranked-v next v smaller.0, ranked-other next v smaller.0 y differ, top-above smaller.0 (next v) y among))

    -- without v, x leads to all to which v leads
    to_v : (x y : ℕ) → (x ≡ v → ⊥) → y ≡ v → Listed next x y → ranked next v smaller.0 y < ranked next v smaller.0 x
    to_v x y differ is step =
        let P : ℕ → Type 0 = λ w. Contains (next x) w in
        let among : Contains (next x) v = subst P is step in
        let below : top smaller.0 (next v) ≤ 2 * smaller.0 x = top-below smaller.0 (next v) (smaller.0 x) (λ z has. smaller.1 x z (
        let S : List ℕ → Type 0 = λ ys. Contains ys z in
        subst S (sym (other next v x differ)) (Contains-flat_map (past next v) (next x) v z among (subst S (sym (past-same next v)) has))
        )) in
        let R : ℕ → Type 0 = λ w. ranked next v smaller.0 w < ranked next v smaller.0 x in
        subst R (sym is) (omega (arith, ranked-v next v smaller.0, ranked-other next v smaller.0 x differ, below))

    past_v : (x y : ℕ) → (x ≡ v → ⊥) → (y ≡ v → ⊥) → Listed next x y → ranked next v smaller.0 y < ranked next v smaller.0 x
    past_v x y differ differ_ step =
        let S : List ℕ → Type 0 = λ ys. Contains ys y in
        let lower : smaller.0 y < smaller.0 x = smaller.1 x y (subst S (sym (other next v x differ)) (Contains-flat_map (past next v) (next x) y y step (subst S (sym (past-other next v y differ_)) (Contains-first y [])))) in
        omega (arith, ranked-other next v smaller.0 x differ, ranked-other next v smaller.0 y differ_, lower)

    falls : (x y : ℕ) → Listed next x y → ranked next v smaller.0 y < ranked next v smaller.0 x
    falls x y step = elim (cases_eq x v) [ inl h ↦ from_v x y h step | inr h ↦ elim (cases_eq y v) [ inl k ↦ to_v x y h k step | inr k ↦ past_v x y h k step ] ]

-- where no chain comes back there are ranks
pub chains-end : (n : ℕ) (next : ℕ → List ℕ) → ((x y : ℕ) → Listed next x y → x < n) → ((x : ℕ) → Leads (Listed next) x x → ⊥) → HasNoCircle (Listed next)
chains-end zero next few none = (λ x. 0, λ x y step. absurd (omega (arith, few x y step)))
chains-end (suc v) next few none = with-v next v none (chains-end v (without next v) (λ x y step. without-few next v x y few step) (λ x back. none x (chain-leads next v x x back)))
