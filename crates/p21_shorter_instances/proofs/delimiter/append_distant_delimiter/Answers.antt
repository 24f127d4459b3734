use Rattle.p21_shorter_tokens.proofs.Found.{some_to}
use Rattle.p21_shorter_instances.proofs.Laid.{mark-passed}
use Rattle.p21_shorter_instances.proofs.delimiter.append_distant_delimiter.Goals as goal

pub returns-clause-some : goal.returns-clause-some
returns-clause-some c = some_to _ (λ rest. mark-passed c.args.mark c.args.bytes.now _ rest.now _ _ c.behind_separators.ensures)
    c.append_delimiter.ensures.some
