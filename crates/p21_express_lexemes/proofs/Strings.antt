-- What apostrophes do to a reader of a simple string.
use Rattle.std.proofs.Common.{◌≡◌, ℕ, true, false, List, [], ◌∷◌, ◌++◌, ◌==◌, length, take, drop, refl, ap, sym, ◌∙◌, append_assoc, append-nil, arith}
use Rattle.std.proofs.lemmas.Bool.Decides.{nat_tests}
use Rattle.p21_express_lexemes.specs.Bytes.{begins, begins_both}
use Rattle.p21_express_lexemes.specs.FirstLexeme.{Quoted, quoted, unquoted, after, unquote}

-- what is left of a string leads on as the bytes do
pub record Leads (bytes rest : List ℕ) : Type 0 where
  pub inside : List ℕ
  pub is : unquote false bytes ≡ after inside (unquote false rest)

pub after_nothing : (q : Quoted) → after [] q ≡ q
after_nothing (quoted inside rest) = refl
after_nothing unquoted = refl

pub after_twice : (a b : List ℕ) (q : Quoted) → after a (after b q) ≡ after (a ++ b) q
after_twice a b (quoted inside rest) = ap (λ (x : List ℕ). quoted x rest) (sym (append_assoc a b inside))
after_twice a b unquoted = refl

pub leads_start : (bytes : List ℕ) → Leads bytes bytes
leads_start bytes = record { inside = []; is = sym (after_nothing (unquote false bytes)) }

leads_by : (bytes rest next more : List ℕ) → Leads bytes rest → unquote false rest ≡ after more (unquote false next) → Leads bytes next
leads_by bytes rest next more l e = record { inside = l.inside ++ more; is = l.is ∙ (ap (after l.inside) e ∙ after_twice l.inside more (unquote false next)) }

doubles : (rest : List ℕ) → begins_both 39 39 rest ≡ true → unquote false rest ≡ after (39 ∷ []) (unquote false (drop 2 rest))
unfolding unquote
doubles [] h = cc
doubles (b ∷ []) h = grind (arith, nat_tests)
doubles (b ∷ c ∷ rest) h =
    let first : (b == 39) ≡ true = grind (arith, nat_tests) in
    let second : (c == 39) ≡ true = grind (arith, nat_tests) in
    rw (first, second) refl

passes : (rest : List ℕ) → (length rest == 0) ≡ false → begins 39 rest ≡ false → unquote false rest ≡ after (take 1 rest) (unquote false (drop 1 rest))
unfolding unquote
passes [] some h = cc
passes (b ∷ rest) some h = rw h refl

closes : (rest : List ℕ) → begins_both 39 39 rest ≡ false → begins 39 rest ≡ true → unquote false rest ≡ quoted [] (drop 1 rest)
unfolding unquote
closes [] n h = cc
closes (b ∷ []) n h = rw h refl
closes (b ∷ c ∷ rest) n h =
    let second : (c == 39) ≡ false = grind (arith, nat_tests) in
    rw (h, second) refl

opens : (rest : List ℕ) → (length rest == 0) ≡ true → unquote false rest ≡ unquoted
unfolding unquote
opens [] none = refl
opens (b ∷ rest) none = grind (arith, nat_tests)

pub leads_double : (bytes rest : List ℕ) → Leads bytes rest → begins_both 39 39 rest ≡ true → Leads bytes (drop 2 rest)
leads_double bytes rest l h = leads_by bytes rest (drop 2 rest) (39 ∷ []) l (doubles rest h)

pub leads_pass : (bytes rest : List ℕ) → Leads bytes rest → (length rest == 0) ≡ false → begins 39 rest ≡ false → Leads bytes (drop 1 rest)
leads_pass bytes rest l some h = leads_by bytes rest (drop 1 rest) (take 1 rest) l (passes rest some h)

pub leads_close : (bytes rest : List ℕ) → Leads bytes rest → begins_both 39 39 rest ≡ false → begins 39 rest ≡ true → (inside : List ℕ) × (unquote false bytes ≡ quoted inside (drop 1 rest))
leads_close bytes rest l n h = (l.inside, l.is ∙ (ap (after l.inside) (closes rest n h) ∙ ap (λ (x : List ℕ). quoted x (drop 1 rest)) (append-nil l.inside)))

pub leads_open : (bytes rest : List ℕ) → Leads bytes rest → (length rest == 0) ≡ true → unquote false bytes ≡ unquoted
leads_open bytes rest l none = l.is ∙ ap (after l.inside) (opens rest none)
