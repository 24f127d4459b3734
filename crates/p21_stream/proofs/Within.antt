-- What the limits bound of the references of a file.
use Rattle.std.proofs.Common.{◌≡◌, ◌≤◌, ap, arith}
use Rattle.p21_spec_basics.specs.Limits.{Limits}
use Rattle.p21_spec_laws.proofs.Keeps.{keeps-few}
use Rattle.p21_spec_laws.specs.Keeping.{Kept}
use Rattle.p21_spec_schema.specs.Schema.{Schema}
use Rattle.p21_stream_statements.proofs.Within.{source-within, statements-few}
use Rattle.p21_stream_statements.specs.StatementReader.{Held, StatementHistory, limits_of}
use Rattle.p21_stream.specs.Session.{IsLive}

-- there are no more references than bytes
pub references-within : (s : Schema) (limits : Limits) (held : Held) (kept : Kept) (reading : StatementHistory)
    → IsLive s limits held kept reading → kept.references ≤ limits.file_source
references-within s limits held kept reading live =
    let few = keeps-few s limits reading.given kept live.keeps in
    let statements_few = statements-few held reading live.reads in
    let within = source-within held reading live.reads in
    let limit : (limits_of held).1 ≡ limits.file_source = ap (λ p. p.1) live.limits_are in
    omega (arith, few, statements_few, within, limit)
