use Rattle.std.proofs.Common.{ap, subst, sym, ℕ}
use Rattle.p21_tokens.specs.Held.{pending_of}
use Rattle.p21_tokens.specs.Histories.{IsPendingBehind}
use Rattle.p21_tokens.proofs.Extending.{stands-pending}
use Rattle.p21_tokens.proofs.lexer.Lexer.pending.Goals as goal

pub returns-clause-pending : goal.returns-clause-pending
returns-clause-pending c history stands = subst (λ (n : ℕ). IsPendingBehind history n) (ap pending_of (sym c.self.view_is)) (stands-pending c.args.self.now history stands)
