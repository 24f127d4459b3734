use Rattle.std.proofs.Common.{[], ◌∷◌, refl}
use Rattle.p21_commands.specs.Failures.{failures_of}
use Rattle.p21_commands.specs.Streams.{stream_of}
use Rattle.p21_commands.proofs.Reporting.{ends-unanswered}
use Rattle.p21_commands.proofs.Surveys.{listing-ends, schema-unlisted}
use Rattle.p21_commands.proofs.check_all.check_all_command.Goals as goal

pub returns-in-Err-clause-ends : goal.returns-in-Err-clause-ends
returns-in-Err-clause-ends g c =
    listing-ends _ _ _
    (ends-unanswered _ _ (failures_of c.args.schema.now c.load_schema.new.reader ∷ []) g.W.Write.contents c.args.output.now _ c.in-Err.fault
    _ (schema-unlisted _ _ _ c.in-Err.fault c.in-Err.ensures.err) c.in-Err.ensures.failed c.report.ensures) (refl, tt)

pub returns-in-Ok-clause-ends : goal.returns-in-Ok-clause-ends
returns-in-Ok-clause-ends g c =
    c.list_refusals.ensures.ends (stream_of g.S.Read.remaining c.args.schema.now c.load_schema.new.reader)
    (record { declares = c.in-Ok.ensures.ok; unfailed = (c.in-Ok.ensures.read, tt) })
