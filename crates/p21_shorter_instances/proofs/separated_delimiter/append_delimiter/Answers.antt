use Rattle.p21_shorter_tokens.proofs.Found.{some_to}
use Rattle.p21_shorter_instances.proofs.LaidRuns.{mark-behind}
use Rattle.p21_shorter_instances.proofs.separated_delimiter.append_delimiter.Goals as goal

pub returns-clause-some : goal.returns-clause-some
returns-clause-some c = some_to _ (λ rest. mark-behind c.args.mark c.args.bytes.now rest.now _ _) c.append_next_delimiter.ensures.some
