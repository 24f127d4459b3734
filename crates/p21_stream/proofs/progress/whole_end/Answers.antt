use Rattle.std.proofs.Common.{ap}
use Rattle.p21_spec_laws.specs.Keeping.{Kept}
use Rattle.p21_stream.proofs.Counts.{end-whole}
use Rattle.p21_stream.proofs.progress.whole_end.Goals as goal

pub returns-in-Ok-clause-gives : goal.returns-in-Ok-clause-gives
returns-in-Ok-clause-gives c = end-whole c.args.schema.now c.args.statements c.args.kept c.check_end.new.kept c.in-Ok.ensures.ok
    c.check_end.ensures.kept

pub returns-in-Ok-clause-lines : goal.returns-in-Ok-clause-lines
returns-in-Ok-clause-lines c = ap (λ (k : Kept). k.lines) c.check_end.ensures.kept
