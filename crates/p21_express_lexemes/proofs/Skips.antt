-- What marks and bytes do to a reader of separators.
use Rattle.std.proofs.Common.{◌≡◌, ℕ, zero, suc, ◌+◌, ◌-◌, ◌<◌, ◌≤◌, true, false, inl, inr, List, [], ◌∷◌, ◌==◌, length, drop, Some, None, refl, ap, arith}
use Rattle.std.proofs.lemmas.Bool.{cases_Bool}
use Rattle.std.proofs.lemmas.Bool.Decides.{nat_tests}
use Rattle.p21_express_lexemes.specs.Bytes.{is_of, begins_of, begins_both, behind}
use Rattle.p21_express_lexemes.specs.Skipping.{between, line, remark, skip}
use Rattle.p21_express_lexemes.specs.declared.bytes.Class.TheVariants.{Blank, LineByte}

-- two bytes that are a mark are two tests
pub both : (first second b c : ℕ) (bytes : List ℕ) → begins_both first second (b ∷ c ∷ bytes) ≡ true → (b == first ≡ true) × (c == second ≡ true)
both first second b c bytes h = (grind (arith, nat_tests), grind (arith, nat_tests))

pub opens_remark : (bytes : List ℕ) → begins_both 40 42 bytes ≡ true → skip between bytes ≡ skip (remark 0) (drop 2 bytes)
unfolding skip
opens_remark [] h = cc
opens_remark (b ∷ []) h = grind (arith, nat_tests)
opens_remark (b ∷ c ∷ bytes) h = rw h refl

pub opens_inner : (inner : ℕ) (bytes : List ℕ) → begins_both 40 42 bytes ≡ true → skip (remark inner) bytes ≡ skip (remark (inner + 1)) (drop 2 bytes)
unfolding skip
opens_inner inner [] h = cc
opens_inner inner (b ∷ []) h = grind (arith, nat_tests)
opens_inner inner (b ∷ c ∷ bytes) h = rw h (ap (λ (i : ℕ). skip (remark i) bytes) (let e : suc inner ≡ inner + 1 = omega arith in e))

pub closes_outer : (bytes : List ℕ) → begins_both 40 42 bytes ≡ false → begins_both 42 41 bytes ≡ true → skip (remark 0) bytes ≡ skip between (drop 2 bytes)
unfolding skip
closes_outer [] n h = cc
closes_outer (b ∷ []) n h = grind (arith, nat_tests)
closes_outer (b ∷ c ∷ bytes) n h = rw (n, h) refl

pub closes_inner : (inner : ℕ) (bytes : List ℕ) → 0 < inner → begins_both 40 42 bytes ≡ false → begins_both 42 41 bytes ≡ true → skip (remark inner) bytes ≡ skip (remark (inner - 1)) (drop 2 bytes)
unfolding skip
closes_inner zero bytes some n h = absurd (omega arith)
closes_inner (suc inner) [] some n h = cc
closes_inner (suc inner) (b ∷ []) some n h = grind (arith, nat_tests)
closes_inner (suc inner) (b ∷ c ∷ bytes) some n h = rw (n, h) (ap (λ (i : ℕ). skip (remark i) bytes) (let e : inner ≡ suc inner - 1 = omega arith in e))

pub no_mark : (inner : ℕ) (bytes : List ℕ) → (length bytes == 0) ≡ false → begins_both 40 42 bytes ≡ false → begins_both 42 41 bytes ≡ false → skip (remark inner) bytes ≡ skip (remark inner) (drop 1 bytes)
unfolding skip
no_mark inner [] some n h = cc
no_mark inner (b ∷ bytes) some n h = rw (n, h) refl

pub no_close : (inner : ℕ) (bytes : List ℕ) → (length bytes == 0) ≡ true → skip (remark inner) bytes ≡ None
unfolding skip
no_close inner [] none = refl
no_close inner (b ∷ bytes) none = grind (arith, nat_tests)

pub opens_line : (bytes : List ℕ) → begins_both 40 42 bytes ≡ false → begins_both 45 45 bytes ≡ true → skip between bytes ≡ skip line (drop 2 bytes)
unfolding skip
opens_line [] n h = cc
opens_line (b ∷ []) n h = grind (arith, nat_tests)
opens_line (b ∷ c ∷ bytes) n h = rw (n, h) refl

pub passes_blank : (bytes : List ℕ) → begins_both 40 42 bytes ≡ false → begins_both 45 45 bytes ≡ false → begins_of Blank bytes ≡ true → skip between bytes ≡ skip between (drop 1 bytes)
unfolding skip
passes_blank [] n m h = cc
passes_blank (b ∷ bytes) n m h = rw (n, m, h) refl

pub stops : (bytes : List ℕ) → begins_both 40 42 bytes ≡ false → begins_both 45 45 bytes ≡ false → begins_of Blank bytes ≡ false → skip between bytes ≡ Some bytes
unfolding skip
stops [] n m h = refl
stops (b ∷ bytes) n m h = rw (n, m, h) refl

-- a tail remark ends behind its line
pub line_ends : (bytes : List ℕ) → skip line bytes ≡ skip between (drop 1 (behind LineByte bytes))
unfolding skip is_of
line_ends [] = refl
line_ends (b ∷ bytes) = elim (cases_Bool (b == 10)) [ inl h ↦ rw h refl | inr h ↦ rw h (line_ends bytes) ]

pub both_long : (first second : ℕ) (bytes : List ℕ) → begins_both first second bytes ≡ true → 2 ≤ length bytes
both_long first second [] h = cc
both_long first second (b ∷ []) h = grind (arith, nat_tests)
both_long first second (b ∷ c ∷ bytes) h = omega arith

pub of_long : (bytes : List ℕ) → begins_of Blank bytes ≡ true → 1 ≤ length bytes
of_long [] h = cc
of_long (b ∷ bytes) h = omega arith
