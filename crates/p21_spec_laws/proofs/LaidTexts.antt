-- Parameters of one text are equal, and so are records.
use Rattle.std.proofs.Common.{◌≡◌, ℕ, List, subst}
use Rattle.p21_spec_laws.proofs.CanonicalLaid.{param_laid}
use Rattle.p21_spec_laws.specs.Written.{IsWritten}
use Rattle.p21_spec_exchange.proofs.OneTree.{one_param}
use Rattle.p21_spec_exchange.specs.CanonicalText.{param_text}
use Rattle.p21_spec_exchange.specs.Laying.{Laid}
use Rattle.p21_spec_exchange.specs.Parameter.{Param, param_tokens}
use Rattle.p21_tokens_automaton.proofs.Theorems.{one-laying}

pub one-text : (p q : Param) → IsWritten p → IsWritten q → param_text p ≡ param_text q → p ≡ q
one-text p q written written_ same =
    let P : List ℕ → Type 0 = λ bytes. Laid bytes (param_tokens p) in
    one_param p q (one-laying (param_text q) (param_tokens p) (param_tokens q) (subst P same (param_laid p written)) (param_laid q written_))
