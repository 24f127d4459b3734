use Rattle.std.proofs.Common.{[], ◌∷◌, inl, refl}
use Rattle.p21_commands.specs.Failures.{failures_of}
use Rattle.p21_commands.specs.Files.{IsRefusedUnder}
use Rattle.p21_commands.specs.Numbered.{IsUnnumberedUnder}
use Rattle.p21_commands.specs.Streams.{stream_of}
use Rattle.p21_commands.proofs.Failing.{before_reading}
use Rattle.p21_commands.proofs.FileFailing.{schema-refused}
use Rattle.p21_commands.proofs.Reporting.{ends-unanswered, refuses-weaker}
use Rattle.p21_commands.proofs.check_numbered.check_numbered_command.Goals as goal

pub returns-in-Err-clause-ends : goal.returns-in-Err-clause-ends
returns-in-Err-clause-ends g c =
    let schema = failures_of c.args.schema.now c.load_schema.new.reader in
    let file = failures_of c.args.file.now c.args.file.now in
    let text = g.S.Read.remaining c.args.schema.now.inner in
    let unread = g.R.Read.remaining c.args.file.now.inner in
    let refuses = refuses-weaker (IsRefusedUnder text unread unread) (IsUnnumberedUnder text unread unread) (λ line is. inl is)
    c.in-Err.fault (schema-refused text unread c.in-Err.fault c.in-Err.ensures.err) in
    ends-unanswered _ _ (schema ∷ file ∷ []) g.W.Write.contents c.args.output.now _ c.in-Err.fault _ refuses
    (before_reading schema (file ∷ []) [] c.in-Err.fault c.in-Err.ensures.failed (refl, tt)) c.report.ensures

pub returns-in-Ok-clause-ends : goal.returns-in-Ok-clause-ends
returns-in-Ok-clause-ends g c =
    c.check_file_numbered.ensures.ends (stream_of g.S.Read.remaining c.args.schema.now c.load_schema.new.reader)
    (record { declares = c.in-Ok.ensures.ok; unfailed = (c.in-Ok.ensures.read, tt) })
