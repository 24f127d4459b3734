-- The first places of numbers in a list.
use Rattle.std.specs.Prelude.{◌≡◌, ◌≢◌, ℕ, suc, ◌<◌, ◌≤◌, List, Option, Some, None, length, map, take, slice_get, Contains}
use Rattle.std.specs.BTreeMap.{BTreeMap, Updates, get}
use Rattle.std.specs.Ordering.{nat_cmp}
use Rattle.std.proofs.Common.{arith, ap, sym, ◌∙◌, subst, inl, inr}
use Rattle.std.proofs.lemmas.Bool.Decides.{eqb_tells, leb_tells}
use Rattle.std.proofs.lemmas.Option.{slice_get_within}
use Rattle.p21_spec_basics.proofs.Members.{Contains-at}
use Rattle.p21_mapping.specs.Positions.{AreFirstPositions, FindsFirst}
use Rattle.p21_mapping.proofs.GrownLists.{map-take, take-at}
use Rattle.p21_spec_basics.proofs.Comparing.{is_at-other}

-- the first place of a number from a place on, if it stands at one
abbrev pub FindsFrom : List ℕ → ℕ → ℕ → Option ℕ → Type 0
FindsFrom es n e None = (k : ℕ) → n ≤ k → ¬ (slice_get es k ≡ Some e)
FindsFrom es n e (Some at) = (slice_get es at ≡ Some e) × ((k : ℕ) → n ≤ k → k < at → ¬ (slice_get es k ≡ Some e))

-- of each number
abbrev pub ArePlacedFrom : List ℕ → ℕ → (ℕ → Option ℕ) → Type 0
ArePlacedFrom es n find = (e : ℕ) → FindsFrom es n e (find e)

-- none stands behind the last
pub placed-none : (es : List ℕ) (n : ℕ) (find : ℕ → Option ℕ) → length es ≤ n → ((k : ℕ) → find k ≡ None) → ArePlacedFrom es n find
placed-none es n find long none e = let P : Option ℕ
    → Type 0 = λ o. FindsFrom es n e o in subst P (sym (none e))
    (λ k past at. absurd (omega (arith, long, past, slice_get_within es k e at)))

-- another number doesn't stand at this place
other-there : (es : List ℕ) (n e f k : ℕ) → slice_get es n ≡ Some e → f ≢ e → n ≤ k → (suc n ≤ k → ¬ (slice_get es k ≡ Some f))
    → ¬ (slice_get es k ≡ Some f)
other-there es n e f k at differ low none is = elim (leb_tells (suc n) k) [
  | inl past ↦ none past.1 is
  | inr here ↦ (
      let same : n ≡ k = omega (arith, low, here.1) in
      let both : Some e ≡ Some f = sym at ∙ ap (slice_get es) same ∙ is in
      let inner : e ≡ f = cc in
      differ (sym inner))
]

other-before : (es : List ℕ) (n e f : ℕ) → slice_get es n ≡ Some e → f ≢ e → (o : Option ℕ) → FindsFrom es (suc n) f o → FindsFrom es n f o
other-before es n e f at differ None none = λ k low. other-there es n e f k at differ low (none k)
other-before es n e f at differ (Some place) (there, none) =
    (there, λ k low before. other-there es n e f k at differ low (λ past. none k past before))

-- one place more in front
pub placed-more : (es : List ℕ) (n e : ℕ) (find new : ℕ → Option ℕ) → ArePlacedFrom es (suc n) find → slice_get es n ≡ Some e
    → new e ≡ Some n → ((other : ℕ) → other ≢ e → new other ≡ find other) → ArePlacedFrom es n new
placed-more es n e find new so_far at here others f = elim (eqb_tells f e) [
  | inl same ↦ (
      let P : ℕ → Type 0 = λ x. FindsFrom es n x (new x) in
      let Q : Option ℕ → Type 0 = λ o. FindsFrom es n e o in
      subst P (sym same.1) (subst Q (sym here) (at, λ k low before is. absurd (omega (arith, low, before)))))
  | inr differ ↦ (let Q : Option ℕ → Type 0 = λ o. FindsFrom es n f o in
      subst Q (sym (others f differ.1)) (other-before es n e f at differ.1 (find f) (so_far f)))
]

pub placed-next : (es : List ℕ) (n e : ℕ) (now after : BTreeMap ℕ ℕ) → ArePlacedFrom es (suc n) (get nat_cmp now) → slice_get es n ≡ Some e
    → Updates nat_cmp now after e (Some n) → ArePlacedFrom es n (get nat_cmp after)
placed-next es n e now after so_far at updates = placed-more es n e (get nat_cmp now) (get nat_cmp after) so_far at updates.1
    (λ other differs. updates.2 other (is_at-other e other differs))

-- from the first place on
pub placed-all : (es : List ℕ) (find : ℕ → Option ℕ) → ArePlacedFrom es 0 find → AreFirstPositions es find
placed-all es find placed e = by (find e) (placed e)
  where
    by : (o : Option ℕ) → FindsFrom es 0 e o → FindsFirst es e o
    by None none = λ among. let (k, at) = Contains-at es e among in none k (omega arith) at
    by (Some at) (there, none) = (there, λ k before. none k (omega arith) before)

-- a number that stands first here stands at no earlier place
pub not-earlier : {X : Type 0} (number : X → ℕ) (xs : List X) (n e : ℕ) → ((k : ℕ) → k < n → ¬ (slice_get (map number xs) k ≡ Some e))
    → ¬ Contains (map number (take n xs)) e
not-earlier number xs n e none among =
    let (k, at) = Contains-at (map number (take n xs)) e among in
    let (below, there) = take-at (map number xs) n k e (ap (λ ys. slice_get ys k) (sym (map-take number n xs)) ∙ at) in
    none k below there
