-- With each value that is handed out fewer bytes are left.
use Rattle.std.proofs.Common.{◌≡◌, ℕ, suc, ◌-◌, ◌<◌, ◌≤◌, Bool, true, false, cond, eqb, List, [], ◌∷◌, length, drop, refl, ap, ◌∙◌, arith, length-drop}
use Rattle.std.proofs.lemmas.Bool.{eqb-true, true≢false}
use Rattle.p21_model_values.specs.Ends.{behind_comma, is_at_end, size_within}

behind-short : (xs : List ℕ) → length (behind_comma xs) ≤ length xs
behind-short [] = omega arith
behind-short (x ∷ xs) = by_test (eqb x 44)
  where
    by_test : (b : Bool) → length (cond b xs (x ∷ xs)) ≤ length (x ∷ xs)
    by_test true = omega arith
    by_test false = omega arith

-- where neither a comma nor a closing parenthesis stands first, a value has a byte
some-size : (byte : ℕ) (more : List ℕ) → eqb byte 41 ≡ false → eqb byte 44 ≡ false → (k : ℕ) × (size_within (byte ∷ more) false 0 ≡ suc k)
some-size byte more closing comma = by_quote (eqb byte 39) refl
  where
    by_left : (b : Bool) → eqb byte 40 ≡ b → eqb byte 39 ≡ false → (k : ℕ) × (size_within (byte ∷ more) false 0 ≡ suc k)
    by_left true e q = (size_within more false 1, rw (q, e) refl)
    by_left false e q = (size_within more false 0, rw (q, e, closing, comma) refl)

    by_quote : (b : Bool) → eqb byte 39 ≡ b → (k : ℕ) × (size_within (byte ∷ more) false 0 ≡ suc k)
    by_quote true e = (size_within more true 0, rw e refl)
    by_quote false e = by_left (eqb byte 40) refl e

comma-size : (byte : ℕ) (more : List ℕ) → byte ≡ 44 → size_within (byte ∷ more) false 0 ≡ 0
comma-size byte more is = rw is refl

pub shortened : (bytes rest : List ℕ) (size : ℕ) → is_at_end bytes ≡ false → size ≡ size_within bytes false 0
    → rest ≡ behind_comma (drop size bytes) → length rest < length bytes
shortened [] rest size ends is rest_is = absurd (true≢false ends)
shortened (byte ∷ more) rest size ends is rest_is = by_comma (eqb byte 44) refl
  where
    by_comma : (b : Bool) → eqb byte 44 ≡ b → length rest < length (byte ∷ more)
    by_comma true e =
        let none : size ≡ 0 = is ∙ comma-size byte more (eqb-true byte 44 e) in
        let left : length rest ≡ length more = ap length (rest_is ∙ ap (λ n. behind_comma (drop n (byte ∷ more))) none) ∙ rw e refl in
        omega (arith, left)
    by_comma false e =
        let (k, some) = some-size byte more ends e in
        let left : length rest ≡ length (behind_comma (drop k more)) =
        ap length (rest_is ∙ ap (λ n. behind_comma (drop n (byte ∷ more))) (is ∙ some)) in
        let short = behind-short (drop k more) in
        let long : length (drop k more) ≡ length more - k = length-drop k more in
        omega (arith, left, short, long)
