-- What is told of values by the bytes alone.
use Rattle.std.specs.Prelude.{ℕ, zero, suc, Bool, true, false, cond, nat_eq, ◌||◌, List, [], ◌∷◌}
use Rattle.std.specs.List.{list_any}
use Rattle.p21_spec_basics.specs.Digits.{is_digit}
use Rattle.p21_model_values.specs.declared.kind.Kind.{Kind}
use Rattle.p21_model_values.specs.declared.kind.Kind.TheVariants as kind

-- how many bytes stand before a comma or a closing parenthesis that is outside of strings and of parentheses that open
-- here: of bytes inside a string or not, and inside so many parentheses
abbrev pub size_within : List ℕ → Bool → ℕ → ℕ
size_within [] quoted depth = 0
size_within (byte ∷ bytes) true depth = cond (nat_eq byte 39) (suc (size_within bytes false depth)) (suc (size_within bytes true depth))
size_within (byte ∷ bytes) false depth =
    cond (nat_eq byte 39) (suc (size_within bytes true depth)) (cond (nat_eq byte 40) (suc (size_within bytes false (suc depth)))
    (cond (nat_eq byte 41) (elim depth [ zero ↦ 0 | suc k ↦ suc (size_within bytes false k) ])
    (cond (nat_eq byte 44) (elim depth [ zero ↦ 0 | suc k ↦ suc (size_within bytes false (suc k)) ])
    (suc (size_within bytes false depth)))))

-- the values in parentheses are at their end
abbrev pub is_at_end : List ℕ → Bool
is_at_end [] = true
is_at_end (byte ∷ bytes) = nat_eq byte 41

-- what stands behind a first comma
abbrev pub behind_comma : List ℕ → List ℕ
behind_comma [] = []
behind_comma (byte ∷ bytes) = cond (nat_eq byte 44) bytes (byte ∷ bytes)

abbrev pub has_point : List ℕ → Bool
has_point bytes = list_any (λ byte. nat_eq byte 46) bytes

-- what a value is by the first byte of its text, and by whether a point stands in it
abbrev pub kind_by : ℕ → Bool → Kind
kind_by byte point =
    cond (nat_eq byte 36) kind.Missing (cond (nat_eq byte 42) kind.Derived
    (cond (nat_eq byte 39) kind.Text (cond (nat_eq byte 46) kind.Item (cond (nat_eq byte 34) kind.Bits
    (cond (nat_eq byte 35) kind.Reference (cond (nat_eq byte 40) kind.Aggregate
    (cond (nat_eq byte 45 || is_digit byte) (cond point kind.Real kind.Whole) kind.Typed)))))))
