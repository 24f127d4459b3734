-- The names of instances in a text of parameters: those that stand behind a `#` outside of strings.
use Rattle.std.specs.Prelude.{◌≡◌, ℕ, Bool, true, false, cond, nat_eq, List, [], ◌∷◌, Option, None, Some}
use Rattle.p21_spec_basics.specs.Digits.{is_digit, number}

-- the digits at the front
abbrev pub leading_digits : List ℕ → List ℕ
leading_digits [] = []
leading_digits (byte ∷ bytes) = cond (is_digit byte) (byte ∷ leading_digits bytes) []

-- the number that they stand for
abbrev pub leading_number : List ℕ → ℕ
leading_number bytes = number (leading_digits bytes)

-- the names in bytes that stand inside a string or not
abbrev pub names_in : List ℕ → Bool → List ℕ
names_in [] quoted = []
names_in (byte ∷ bytes) true = cond (nat_eq byte 39) (names_in bytes false) (names_in bytes true)
names_in (byte ∷ bytes) false =
    cond (nat_eq byte 39) (names_in bytes true) (cond (nat_eq byte 35) (leading_number bytes ∷ names_in bytes false) (names_in bytes false))

-- the next of the names is handed out, and the others are left
abbrev pub HandsOutName : List ℕ → Option ℕ → List ℕ → Type 0
HandsOutName [] None left = left ≡ []
HandsOutName [] (Some found) left = ⊥
HandsOutName (n ∷ names) None left = ⊥
HandsOutName (n ∷ names) (Some found) left = (found ≡ n) × (left ≡ names)
