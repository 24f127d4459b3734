-- Numbers and lists of bytes that are compared.
use Rattle.std.specs.Prelude.{◌≡◌, ◌≢◌, ℕ, Bool, true, false, List, refl, nat_eq}
use Rattle.std.specs.BTreeMap.{is_at}
use Rattle.std.specs.Cmp.Lexicographic.{slice_cmp}
use Rattle.std.specs.Ordering.{nat_cmp, is_eq, is_lt, ordering_reverse}
use Rattle.std.specs.Str.{bytes_eq}
use Rattle.std.proofs.Common.{◌&&◌, T, Ordering, Less, Equal, Greater, arith, ap, sym, ◌∙◌, true≢false}
use Rattle.std.proofs.lemmas.Bool.{both_ways}
use Rattle.std.proofs.lemmas.Bool.Decides.{nat_tests}
use Rattle.std.proofs.lemmas.Cmp.{nat_list_cmp_total}
use Rattle.std.proofs.lemmas.Map.Lookups.{exact_bytes}
use Rattle.std.proofs.lemmas.Slice.Eq.{bytes_eq-Decides}

pub nat_eq-turned : (m n : ℕ) → nat_eq m n ≡ nat_eq n m
nat_eq-turned m n = by (nat_eq m n) (nat_eq n m) refl refl
  where
    by : (b c : Bool) → nat_eq m n ≡ b → nat_eq n m ≡ c → nat_eq m n ≡ nat_eq n m
    by true true is is_ = is ∙ sym is_
    by true false is is_ = absurd (grind (arith, nat_tests))
    by false true is is_ = absurd (grind (arith, nat_tests))
    by false false is is_ = is ∙ sym is_

-- of two tests at once, each holds
pub both : (x y : Bool) → T (x && y) → T x × T y
both true y holds = (tt, holds)
both false y holds = absurd holds

-- a look-up of a number doesn't stop at another one
pub is_at-other : (m n : ℕ) → n ≢ m → is_at (nat_cmp m) n ≡ false
is_at-other m n other = by (is_eq (nat_cmp m n)) refl
  where
    by : (b : Bool) → is_eq (nat_cmp m n) ≡ b → is_eq (nat_cmp m n) ≡ false
    by false is = is
    by true is = let same : m ≡ n = grind (arith, nat_tests) in absurd (other (sym same))

pub bytes_eq-itself : (xs : List ℕ) → bytes_eq xs xs ≡ true
bytes_eq-itself xs = (bytes_eq-Decides xs xs).1 refl

pub bytes_eq-apart : (xs ys : List ℕ) → bytes_eq xs ys ≡ false → xs ≡ ys → ⊥
bytes_eq-apart xs ys differ same = both_ways (bytes_eq xs ys) differ ((bytes_eq-Decides xs ys).1 same)

pub bytes_eq-turned : (xs ys : List ℕ) → bytes_eq xs ys ≡ bytes_eq ys xs
bytes_eq-turned xs ys = by (bytes_eq xs ys) (bytes_eq ys xs) refl refl
  where
    by : (b c : Bool) → bytes_eq xs ys ≡ b → bytes_eq ys xs ≡ c → b ≡ c
    by true true is is_ = refl
    by true false is is_ = absurd (bytes_eq-apart ys xs is_ (sym ((bytes_eq-Decides xs ys).0 is)))
    by false true is is_ = absurd (bytes_eq-apart xs ys is (sym ((bytes_eq-Decides ys xs).0 is_)))
    by false false is is_ = refl

-- lists of bytes of which none is below the other are equal
pub level-equal : (xs ys : List ℕ) → is_lt (slice_cmp nat_cmp xs ys) ≡ false → is_lt (slice_cmp nat_cmp ys xs) ≡ false → xs ≡ ys
level-equal xs ys low high = exact_bytes xs ys (equal_is (slice_cmp nat_cmp xs ys) low (ap is_lt (sym (nat_list_cmp_total.antisymm ys xs)) ∙ high))
  where
    equal_is : (r : Ordering) → is_lt r ≡ false → is_lt (ordering_reverse r) ≡ false → r ≡ Equal
    equal_is Less low high = absurd (true≢false low)
    equal_is Equal low high = refl
    equal_is Greater low high = absurd (true≢false high)
