-- The longest prefix of letters, digits and `_`.
use Rattle.std.proofs.Common.{◌≡◌, ◌<◌, ◌↔◌, ℕ, zero, suc, List, [], ◌∷◌, ◌++◌, length, take, drop, get_or, map, refl, sym, ap, subst, ◌∙◌, arith}
use Rattle.std.specs.List.{AllByRecursion as Each}
use Rattle.p21_spec_schema.specs.Express.{IsIdentifierByte, upper}
use Rattle.p21_spec_schema.specs.SchemaName.{NamesSchema}
use Rattle.p21_stream_kept.specs.Prefix.{IsLongestPrefix}

-- the prefix of that length, and what stands behind it
front-each : (chars : List ℕ) (n : ℕ) → IsLongestPrefix chars n → Each IsIdentifierByte (take n chars)
front-each [] zero is = tt
front-each [] (suc n) is = absurd is
front-each (c ∷ chars) zero is = tt
front-each (c ∷ chars) (suc n) is = (is.0, front-each chars n is.1)

front-back : (chars : List ℕ) (n : ℕ) → IsLongestPrefix chars n → chars ≡ take n chars ++ drop n chars
front-back [] zero is = refl
front-back [] (suc n) is = absurd is
front-back (c ∷ chars) zero is = refl
front-back (c ∷ chars) (suc n) is = ap (λ (l : List ℕ). c ∷ l) (front-back chars n is.1)

back-first : (chars : List ℕ) (n : ℕ) → IsLongestPrefix chars n → (char : ℕ) (more : List ℕ) → drop n chars ≡ char ∷ more
    → IsIdentifierByte char → ⊥
back-first [] zero is char more same of = cc
back-first [] (suc n) is char more same of = absurd is
back-first (c ∷ chars) zero is char more same of = let first : char ≡ c = cc in is (subst IsIdentifierByte first of)
back-first (c ∷ chars) (suc n) is char more same of = back-first chars n is.1 char more same of

-- there is one such prefix
one-prefix : (chars prefix rest : List ℕ) (n : ℕ) → IsLongestPrefix chars n → chars ≡ prefix ++ rest → Each IsIdentifierByte prefix
    → ((char : ℕ) (more : List ℕ) → rest ≡ char ∷ more → IsIdentifierByte char → ⊥) → take n chars ≡ prefix
one-prefix [] [] rest zero is same each longest = refl
one-prefix [] (p ∷ prefix) rest zero is same each longest = cc
one-prefix [] prefix rest (suc n) is same each longest = absurd is
one-prefix (c ∷ chars) [] rest zero is same each longest = refl
one-prefix (c ∷ chars) (p ∷ prefix) rest zero is same each longest = let first : p ≡ c = cc in
    absurd (is (subst IsIdentifierByte first each.0))
one-prefix (c ∷ chars) [] rest (suc n) is same each longest = absurd (longest c chars (sym same) is.0)
one-prefix (c ∷ chars) (p ∷ prefix) rest (suc n) is same each longest =
    let first : c ≡ p = cc in
    let later : chars ≡ prefix ++ rest = cc in
    ap (λ (l : List ℕ). c ∷ l) (one-prefix chars prefix rest n is.1 later each.1 longest) ∙ ap (λ (x : ℕ). x ∷ prefix) first

pub names : (chars name : List ℕ) (n : ℕ) → IsLongestPrefix chars n → (map upper (take n chars) ≡ name) ↔ NamesSchema chars name
names chars name n is = (
  λ same. record {
    prefix = take n chars;
    rest = drop n chars;
    chars_are = front-back chars n is;
    prefix_is =
        front-each chars n is;
    longest = back-first chars n is;
    name_is = same;
  },
  λ named. ap (map upper) (one-prefix chars named.prefix named.rest n is named.chars_are named.prefix_is named.longest) ∙ named.name_is,
)

-- ---- as the code reads it

pub longest-at : (chars : List ℕ) (n : ℕ) → n < length chars → ((k : ℕ) → k < n → IsIdentifierByte (get_or chars k 0))
    → (IsIdentifierByte (get_or chars n 0) → ⊥) → IsLongestPrefix chars n
longest-at [] n below front stop = absurd (omega (arith, below))
longest-at (c ∷ chars) zero below front stop = stop
longest-at (c ∷ chars) (suc n) below front stop = (
  front zero (omega arith),
  longest-at chars n (omega (arith, below))
      (λ k h. front (suc k) (omega (arith, h))) stop,
)

pub longest-all : (chars : List ℕ) → ((k : ℕ) → k < length chars → IsIdentifierByte (get_or chars k 0))
    → IsLongestPrefix chars (length chars)
longest-all [] front = tt
longest-all (c ∷ chars) front = (front zero (omega arith), longest-all chars (λ k h. front (suc k) (omega (arith, h))))
