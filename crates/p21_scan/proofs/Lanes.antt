-- A mask that is computed lane by lane is held to a test at each of the 256 bytes.
use Rattle.std.proofs.Common.{◌≡◌, ℕ, zero, suc, ◌+◌, ◌-◌, ◌%◌, ◌^◌, ◌<◌, ◌≤◌, ltb, leb, eqb, Bool, true, false, ◌&&◌, cond, T, inl, inr, List, [], ◌∷◌, map, length, refl, sym, ap, ap₂, ◌∙◌, subst, arith, w8, Fits}
use Rattle.std.proofs.lemmas.Bool.{cases_order}
use Rattle.std.proofs.lemmas.List.{length-map, map-id}
use Rattle.std.proofs.lemmas.Simd.{mask_l-mod}
use lib.Lanes.{mask_l, top, Each1}
use Rattle.p21_spec_basics.proofs.Comparing.{both}

-- the lanes of a comparison
abbrev pub equal : ℕ → ℕ → ℕ
equal a b = cond (eqb a b) 255 0

abbrev pub below : ℕ → ℕ → ℕ
below a b = cond (ltb a b) 255 0

abbrev pub at_most : ℕ → ℕ → ℕ
at_most a b = cond (leb a b) 255 0

-- the lanes of a difference
abbrev pub minus : ℕ → ℕ → ℕ
minus a b = (a + (256 - b)) % 256

pub itself : (lanes : List ℕ) → lanes ≡ map (λ x. x) lanes
itself lanes = sym (map-id lanes)

-- ---- what holds at each number below another, by computation

abbrev pub each_below : (ℕ → Bool) → ℕ → Bool
each_below p zero = true
each_below p (suc n) = p n && each_below p n

at-below : (p : ℕ → Bool) (n : ℕ) → T (each_below p n) → (k : ℕ) → k < n → T (p k)
at-below p zero h k l = absurd (omega arith)
at-below p (suc n) h k l =
    elim (cases_order k n) [
      | inl e ↦ subst (λ x. T (p x)) (sym e) (both (p n) (each_below p n) h).0
      | inr other ↦ elim other [
        | inl less ↦ at-below p n (both (p n) (each_below p n) h).1 k less
        | inr more ↦ absurd (omega arith)
      ]
    ]

abbrev pub alike : Bool → Bool → Bool
alike true b = b
alike false true = false
alike false false = true

alike-equal : (a b : Bool) → T (alike a b) → a ≡ b
alike-equal true true h = refl
alike-equal true false h = absurd h
alike-equal false true h = absurd h
alike-equal false false h = refl

each-alike : (lane : ℕ → ℕ) (test : ℕ → Bool) → T (each_below (λ x. alike (top 7 (lane x)) (test x)) 256) → (bytes : List ℕ) → Each1 (Fits w8) bytes → map (top 7) (map lane bytes) ≡ map test bytes
each-alike lane test all [] fits = refl
each-alike lane test all (b ∷ bytes) fits =
    ap₂ (λ x y. x ∷ y) (alike-equal _ _ (at-below (λ x. alike (top 7 (lane x)) (test x)) 256 all b fits.0.fits)) (each-alike lane test all bytes fits.1)

pub mask-tests : (lane : ℕ → ℕ) (test : ℕ → Bool) (bytes lanes : List ℕ) → length bytes ≤ 64 → Each1 (Fits w8) bytes → lanes ≡ map lane bytes → T (each_below (λ x. alike (top 7 (lane x)) (test x)) 256)
    → mask_l (map (top 7) lanes) % 2 ^ 64 ≡ mask_l (map test bytes)
mask-tests lane test bytes lanes short fits e all =
    ap (λ l. mask_l l % 2 ^ 64) (ap (map (top 7)) e ∙ each-alike lane test all bytes fits) ∙ mask_l-mod (map test bytes) 64 (omega (arith, length-map bytes test))
