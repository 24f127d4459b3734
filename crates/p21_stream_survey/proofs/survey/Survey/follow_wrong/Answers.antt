use Rattle.std.proofs.Common.{Bool, subst}
use Rattle.p21_stream_survey.proofs.Behind.{left-follows}
use Rattle.p21_stream_survey.proofs.Refusals.{not-left}
use Rattle.p21_stream_survey.specs.Following.{LeavesOut}
use Rattle.p21_stream_survey.specs.Keeping.{kept_by, sifted_of}
use Rattle.p21_stream_survey.proofs.survey.Survey.follow_wrong.Goals as goal

pub returns-then-not-left : goal.returns-then-not-left
returns-then-not-left c =
    not-left (λ again. again.items) c.args.self.now c.leave_out.new.log c.leave_out.new.self c.leave_out.new.listing c.args.name
    c.args.fault c.pass_wrong.new.self c.in-Ok.left c.pass_wrong.result c.if-not-left.true c.in-Ok.ensures.leaves
    (c.in-Ok.ensures.same c.if-not-left.true) c.pass_wrong.ensures

pub returns : goal.returns
returns c =
    let old = c.args.self.now in
    left-follows old c.args.name c.args.fault c.leave_out.new.log c.leave_out.new.self c.leave_out.new.listing c.end_where_full.new.self
    c.new.result.items c.new.ensures.items
    (subst (λ (b : Bool). LeavesOut old.log (kept_by old) old.listing c.args.name c.args.fault b c.leave_out.new.log
    (sifted_of c.leave_out.new.self) c.leave_out.new.listing) c.if-not-left.false c.in-Ok.ensures.leaves) c.in-Ok.ensures.stays
    (c.in-Ok.ensures.closes c.if-not-left.false).buffer c.end_where_full.ensures
