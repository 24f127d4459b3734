-- A parenthesis that ends the open row.
use Rattle.std.proofs.Common.{◌≡◌, ℕ, suc, Bool, true, false, List, [], ◌∷◌, length, refl, sym, ap, ◌∙◌, subst, arith}
use Rattle.std.proofs.lemmas.Bool.Decides.{nat_tests}
use Rattle.std.specs.Prelude.{◌&&◌, ◌==◌, not}
use Rattle.p21_spec_exchange.specs.Parameter.{no_params, param}
use Rattle.p21_grammar.specs.Begins.{closes, closes_empty, count}
use Rattle.p21_grammar.specs.Expected.{goes_on}
use Rattle.p21_grammar.specs.Machine.{Open, RefusesMove, close, close_empty, list_row, open_at, part_row, refuse, typed_row}
use Rattle.p21_grammar.specs.declared.fault.GrammarFault.{GrammarFault}
use Rattle.p21_grammar.specs.declared.fault.GrammarFault.TheVariants.{Unexpected}
use Rattle.p21_grammar.specs.declared.stage.Stage.{Stage}

and-false : (a : Bool) → false ≡ (a && false)
and-false true = refl
and-false false = refl

pub more : {A : Type 0} (x : A) (xs : List A) → true ≡ not (length (x ∷ xs) == 0)
more x xs = grind (arith, nat_tests)

suc-zero : (n : ℕ) → (suc n == 0) ≡ false
suc-zero n = grind (arith, nat_tests)

suc-one : (n : ℕ) → (suc (suc n) == 1) ≡ false
suc-one n = grind (arith, nat_tests)

pub close-right : (p : Stage) (row : Open) (st : List Open) → goes_on (close p row st) ≡ closes row st
close-right p (open_at (part_row h k) ps) st = refl
close-right p (open_at list_row ps) [] = refl
close-right p (open_at list_row ps) (r ∷ st) = more r st
close-right p (open_at (typed_row k) no_params) st = and-false (not (length st == 0))
close-right p (open_at (typed_row k) (param q no_params)) [] = refl
close-right p (open_at (typed_row k) (param q no_params)) (r ∷ st) = ap (λ b. b && true) (more r st)
close-right p (open_at (typed_row k) (param q (param r rs))) st = and-false (not (length st == 0)) ∙ ap (λ b. not (length st == 0) && b) (sym (suc-one (count rs)))

pub close_empty-right : (p : Stage) (row : Open) (st : List Open) → goes_on (close_empty p row st) ≡ closes_empty row st
close_empty-right p (open_at o no_params) st = close-right p (open_at o no_params) st
close_empty-right p (open_at o (param q qs)) st = ap (λ b. b && closes (open_at o (param q qs)) st) (sym (suc-zero (count qs)))

-- where it ends the row it is not unexpected
pub closed-expected : (p : Stage) (row : Open) (st : List Open) (why : GrammarFault) → true ≡ closes row st → RefusesMove (close p row st) why → why ≡ Unexpected → ⊥
closed-expected p row st why can refused same =
    let off : goes_on (close p row st) ≡ false = ap goes_on (subst (λ f. close p row st ≡ refuse f) same (refused (λ none. cc))) in
    let on : true ≡ false = can ∙ sym (close-right p row st) ∙ off in
    cc
