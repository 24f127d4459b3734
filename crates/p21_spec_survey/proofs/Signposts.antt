-- The first signpost stands at one place.
use Rattle.std.proofs.Common.{◌≡◌, ◌⊎◌, inl, inr, ℕ, List, [], ◌∷◌, ◌++◌, length, length-append, refl, sym, ap, subst, ◌∙◌, arith}
use Rattle.p21_spec_basics.proofs.Members.{head_is, tail_is}
use Rattle.p21_spec_survey.specs.Landmark.{IsFirstSignpost, Signpost, StandsAt, signpost_bytes}
use Rattle.p21_spec_survey.specs.Laws.{FirstSignpostAtOnePlace, GoesByOnePlace}
use Rattle.p21_spec_survey.specs.Resuming.{further_on, within_text}

-- the front `xs` is longer than `ys`
pub record IsLonger (xs xs_rest ys ys_rest : List ℕ) : Type 0 where
  pub byte : ℕ
  pub more : List ℕ
  pub front_is : xs ≡ ys ++ byte ∷ more
  pub rest_is : ys_rest ≡ byte ∷ (more ++ xs_rest)

-- two fronts of one list are the same, or one is longer
fronts : (xs ys us vs : List ℕ) → xs ++ us ≡ ys ++ vs → (xs ≡ ys) ⊎ (IsLonger xs us ys vs ⊎ IsLonger ys vs xs us)
fronts [] [] us vs same = inl refl
fronts [] (y ∷ ys) us vs same = inr (inr (record { byte = y; more = ys; front_is = refl; rest_is = same }))
fronts (x ∷ xs) [] us vs same = inr (inl (record { byte = x; more = xs; front_is = refl; rest_is = sym same }))
fronts (x ∷ xs) (y ∷ ys) us vs same =
    let first : x ≡ y = head_is x y (xs ++ us) (ys ++ vs) same in
    elim (fronts xs ys us vs (tail_is x y (xs ++ us) (ys ++ vs) same)) [
      | inl e ↦ inl (ap (λ (z : ℕ). z ∷ xs) first ∙ ap (λ (zs : List ℕ). y ∷ zs) e)
      | inr (inl longer) ↦ inr (inl (record {
        byte = longer.byte;
        more = longer.more;
        front_is = ap (λ (z : ℕ). z ∷ xs) first
            ∙ ap (λ (zs : List ℕ). y ∷ zs) longer.front_is;
        rest_is = longer.rest_is;
      }))
      | inr (inr longer) ↦ inr (inr (record {
        byte = longer.byte;
        more = longer.more;
        front_is = ap (λ (z : ℕ). z ∷ ys) (sym first)
            ∙ ap (λ (zs : List ℕ). x ∷ zs) longer.front_is;
        rest_is = longer.rest_is;
      }))
    ]

-- no signpost stands within what is passed in front of the first
not-longer : (before bytes passed other_passed rest other_rest : List ℕ) (signpost other : Signpost)
    → IsFirstSignpost before bytes passed signpost rest → IsFirstSignpost before bytes other_passed other other_rest
    → IsLonger passed (signpost_bytes signpost ++ rest) other_passed (signpost_bytes other ++ other_rest) → ⊥
not-longer before bytes passed other_passed rest other_rest signpost other is is_ longer =
    is.none_before other_passed longer.more longer.byte other longer.front_is
    (subst (λ (bs : List ℕ). StandsAt (before ++ other_passed) bs other) longer.rest_is is_.stands)

pub first-at_one_place : FirstSignpostAtOnePlace
first-at_one_place before bytes passed other_passed rest other_rest signpost other is is_ =
    elim (fronts passed other_passed (signpost_bytes signpost ++ rest) (signpost_bytes other ++ other_rest) (sym is.bytes_are ∙ is_.bytes_are)) [
      | inl e ↦ e
      | inr (inl longer) ↦ absurd (not-longer before bytes passed other_passed rest other_rest signpost other is is_ longer)
      | inr (inr longer) ↦ absurd (not-longer before bytes other_passed passed other_rest rest other signpost is_ is longer)
    ]

-- fronts that are equally long are the same
same-length : (xs ys us vs : List ℕ) → xs ++ us ≡ ys ++ vs → length xs ≡ length ys → xs ≡ ys
same-length xs ys us vs same lengths = elim (fronts xs ys us vs same) [
  | inl e ↦ e
  | inr (inl longer) ↦ let size = ap (λ (zs : List ℕ). length zs) longer.front_is in let parts =
      length-append ys (longer.byte ∷ longer.more) in absurd (omega (arith, lengths, size, parts))
  | inr (inr longer) ↦ let size = ap (λ (zs : List ℕ). length zs) longer.front_is in let parts =
      length-append xs (longer.byte ∷ longer.more) in absurd (omega (arith, lengths, size, parts))
]

pub goes_by-one_place : GoesByOnePlace
goes_by-one_place before statement behind passed other_passed _ _ signpost other (within_text _ _ left is first) (within_text _ _ other_left is_ first_) =
    let low = first other_passed other other_left is_ in
    let high = first_ passed signpost left is in
    same-length passed other_passed (signpost_bytes signpost ++ left) (signpost_bytes other ++ other_left) (sym is.bytes_are
    ∙ is_.bytes_are) (omega (arith, low, high))
goes_by-one_place before statement behind passed other_passed _ other_rest signpost other (within_text _ _ left is first) (further_on _ _ _ none is_) =
    absurd (none passed signpost left is)
goes_by-one_place before statement behind passed other_passed rest _ signpost other (further_on _ _ _ none is) (within_text _ _ other_left is_ first) =
    absurd (none other_passed other other_left is_)
goes_by-one_place before statement behind _ _ rest other_rest signpost other (further_on passed _ _ none is) (further_on other_passed _ _ none_ is_) =
    ap (λ (bs : List ℕ). statement ++ bs) (first-at_one_place (before ++ statement) behind passed other_passed rest other_rest signpost other is is_)
