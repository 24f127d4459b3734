use Rattle.std.proofs.Common.{◌∙◌, ◌+◌, ap, length}
use Rattle.p21_spec_laws.specs.Keeping.{Kept}
use Rattle.p21_stream.proofs.Counts.{end-counted}
use Rattle.p21_stream.proofs.progress.count_end.Goals as goal

pub returns-clause-gives : goal.returns-clause-gives
returns-clause-gives c =
    end-counted c.args.schema.now c.well_formed-2.ensures c.args.statements c.args.kept c.in-Ok.ensures.ok
    (record { instances = c.count.result; bytes = c.len.result })
    (c.count.ensures ∙ ap (λ (k : Kept). length k.stored) c.check_end.ensures.kept)
    (c.len.ensures ∙ ap (λ (k : Kept). k.bytes + k.framing) c.check_end.ensures.kept)
