use Rattle.std.proofs.Common.{◌≡◌, ap, arith}
use Rattle.p21_stream_log.proofs.Boundless.{begins-unended}
use Rattle.p21_stream_log.proofs.Openings.{begins-in}
use Rattle.p21_stream_log.specs.Log.{Held}
use Rattle.p21_stream_log.proofs.log.Log.begins_in.Goals as goal

pub returns-clause-begins : goal.returns-clause-begins
returns-clause-begins c =
    let start_is : c.self.inside.start ≡ c.args.self.now.start = ap (λ (h : Held). h.start) c.self.view_is in
    begins-in c.args.self.now c.args.bytes.now c.behind_separators-statement.result.now c.saturating_add.result
    c.behind_separators-statement.ensures
    (λ low. omega (arith, c.saturating_add.ensures, c.saturating_sub-gap.ensures, start_is, low))

pub returns-clause-unended : goal.returns-clause-unended
returns-clause-unended c =
    let start_is : c.self.inside.start ≡ c.args.self.now.start = ap (λ (h : Held). h.start) c.self.view_is in
    begins-unended c.args.self.now c.args.bytes.now c.behind_separators-statement.result.now c.saturating_add.result
    c.behind_separators-statement.ensures
    (λ low. omega (arith, c.saturating_add.ensures, c.saturating_sub-gap.ensures, start_is, low))
