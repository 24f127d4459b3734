use Rattle.std.proofs.Common.{[], ◌∷◌, List, ℕ, arith, subst, sym}
use Rattle.p21_spec_basics.proofs.Members.{rest_is}
use Rattle.p21_spec_exchange.specs.Token.{right, semicolon}
use Rattle.p21_shorter_instances.proofs.LaidRuns.{end-joined}
use Rattle.p21_shorter_instances.specs.TakenParameters.{TakesTokens}
use Rattle.p21_shorter_instances.proofs.end.append_joined_end.Goals as goal

pub returns-clause-some : goal.returns-clause-some
returns-clause-some c =
    let bytes = c.args.bytes.now in
    subst (λ (rest : List ℕ). TakesTokens (right ∷ semicolon ∷ []) (41 ∷ 59 ∷ []) bytes rest c.args.draft.now c.append_prefix.new.self)
    (sym (rest_is bytes 2)) (end-joined bytes c.args.draft.now c.append_prefix.new.self (omega arith) (omega arith) (omega arith)
    (c.if-not-append_prefix.ensures {u = tt}))
