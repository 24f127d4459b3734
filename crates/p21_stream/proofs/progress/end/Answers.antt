use Rattle.std.proofs.Common.{List, subst, sym}
use Rattle.p21_spec_basics.specs.Limits.{Limits}
use Rattle.p21_spec_laws.specs.Keeping.{Keeps, Kept}
use Rattle.p21_spec_exchange.specs.Statement.{Statement}
use Rattle.p21_spec_schema.specs.Schema.{Schema}
use Rattle.p21_stream_kept.specs.Taking.{IsKeptOfFile}
use Rattle.p21_stream_output.specs.Ending.{IsFileOfKept}
use Rattle.p21_stream.proofs.Ending.{end-accepted, whole-kept}
use Rattle.p21_stream.proofs.progress.end.Goals as goal

pub into_accepted-requires : goal.into_accepted-requires
into_accepted-requires c = subst IsKeptOfFile (sym c.check_end.ensures.kept)
    (whole-kept c.args.schema.now c.args.statements c.args.kept c.in-Ok.ensures.ok.0 c.requires.between c.requires.lines)

pub returns-clause-gives : goal.returns-clause-gives
returns-clause-gives c =
    end-accepted c.args.schema.now c.well_formed-2.ensures c.args.statements c.args.kept c.in-Ok-into_accepted.accepted c.in-Ok.ensures.ok.0
    c.in-Ok.ensures.ok.1 c.requires.lines
    (subst (λ (k : Kept). (s : Schema) (limits : Limits) (given : List Statement) → Keeps s limits given k
    → IsFileOfKept k c.in-Ok-into_accepted.accepted) c.check_end.ensures.kept c.in-Ok-into_accepted.ensures.kept)
