use Rattle.p21_stream_survey.proofs.AtEnd.{short-by, unread-ends}
use Rattle.p21_stream_survey.proofs.finishing.end_unread.Goals as goal

pub returns-in-Ok-clause-ends : goal.returns-in-Ok-clause-ends
returns-in-Ok-clause-ends c =
    unread-ends c.args.limits c.args.log.now c.args.listing.now c.end_by.new.listing c.args.bytes.now _ c.in-Ok.extent
    (short-by c.args.limits _ c.file_source-most.ensures c.file_source-most.type_inv) c.begins_in-begins.ensures.begins
    c.in-Ok.ensures.ends
