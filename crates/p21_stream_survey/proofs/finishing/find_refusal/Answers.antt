use Rattle.std.proofs.Common.{subst, sym}
use Rattle.p21_stream_survey.proofs.Numbers.{are-more}
use Rattle.p21_stream_survey.specs.Kinds.{AreOfFile}
use Rattle.p21_stream_survey.proofs.finishing.find_refusal.Goals as goal

pub returns-in-Ok-clause-of_file : goal.returns-in-Ok-clause-of_file
returns-in-Ok-clause-of_file c = λ of are.
    subst AreOfFile (sym c.found.ensures.list) (are-more c.args.listing.list.items c.end_by.new.listing.list.items _ c.in-Ok.ensures.list
    are of)
