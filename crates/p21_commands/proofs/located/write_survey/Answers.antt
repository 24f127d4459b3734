use Rattle.std.proofs.Common.{ℕ, length, subst, sym}
use Rattle.p21_commands.specs.Streams.{stream_of}
use Rattle.p21_commands.specs.Tells.{TellsAccepted, TellsSurvey}
use Rattle.p21_stream.specs.declared.listing.Surveyed.{Surveyed}
use Rattle.p21_commands.proofs.located.write_survey.Goals as goal

pub returns-in-Accepted-clause-tells : goal.returns-in-Accepted-clause-tells
returns-in-Accepted-clause-tells g c =
    let output = stream_of g.W.Write.contents c.args.output.now c.write_accepted.new.output in
    let faults = stream_of g.F.Write.contents c.args.faults.now c.write_accepted.new.faults in
    let status = c.write_accepted.result in
    let kept = c.in-Accepted.accepted.kept in
    let counted = subst (λ (n : ℕ). TellsAccepted n c.len.result output faults status) c.count.ensures c.write_accepted.ensures.tells in
    let told = subst (λ (n : ℕ). TellsAccepted (length kept) n output faults status) c.len.ensures counted in
    subst (λ (found : Surveyed). TellsSurvey c.args.telling.now.form found output faults status) (sym c.in-Accepted.is) told
