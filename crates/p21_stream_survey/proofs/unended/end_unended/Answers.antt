use Rattle.std.proofs.Common.{subst}
use Rattle.p21_stream_log.specs.Passage.{GoesOnAt}
use Rattle.p21_stream_log.specs.declared.passage.Passage.{Passage}
use Rattle.p21_stream_survey.proofs.AtEnd.{in-data, short-by}
use Rattle.p21_stream_survey.proofs.Numbers.{are-more, far-number}
use Rattle.p21_stream_survey.proofs.OpenRemarks.{long-ends, mark-ends, passes-on, remark-number, sought-ends, stretch-ends, unended-at}
use Rattle.p21_stream_survey.specs.Unended.{PassesUnended}
use Rattle.p21_stream_survey.proofs.unended.end_unended.Goals as goal

pub returns-in-Ok-end_at_stretch-clause-ends : goal.returns-in-Ok-end_at_stretch-clause-ends
returns-in-Ok-end_at_stretch-clause-ends c =
    stretch-ends c.args.limits c.args.log.now c.args.log.now c.args.listing.now c.end_at_stretch.new.listing c.args.front.now
    c.args.statement.now c.in-Ok.fault _ c.in-Ok-end_at_stretch.extent
    (unended-at c.args.limits c.args.log.now c.args.front.now c.args.statement.now c.in-Ok.fault _ c.log_laws.ensures.unended
    c.log_laws.ensures.unended_on c.log_laws.ensures.unended_no_end
    (short-by c.args.limits _ c.file_source-most.ensures c.file_source-most.type_inv)
    (in-data c.args.log.now c.is_in_data.result c.is_in_data.ensures c.if-not-is_in_data.false) c.requires.none c.requires.front
    (c.begins_unended.ensures c.if-not-begins_unended.false) c.in-Ok.ensures
    (c.is_open_remark.ensures c.if-not-is_open_remark.false) c.begins_in-begins.ensures.unended)
    c.in-Ok-end_at_stretch.ensures.ends

pub returns-in-Ok-GoesOn-clause-ends : goal.returns-in-Ok-GoesOn-clause-ends
returns-in-Ok-GoesOn-clause-ends c =
    passes-on c.args.limits c.args.log.now c.list_unended.new.log c.args.listing.now c.list_unended.new.listing c.args.front.now
    c.args.statement.now c.in-Ok.fault _ c.in-Ok-GoesOn.count
    (unended-at c.args.limits c.args.log.now c.args.front.now c.args.statement.now c.in-Ok.fault _ c.log_laws.ensures.unended
    c.log_laws.ensures.unended_on c.log_laws.ensures.unended_no_end
    (short-by c.args.limits _ c.file_source-most.ensures c.file_source-most.type_inv)
    (in-data c.args.log.now c.is_in_data.result c.is_in_data.ensures c.if-not-is_in_data.false) c.requires.none c.requires.front
    (c.begins_unended.ensures c.if-not-begins_unended.false) c.in-Ok.ensures
    (c.is_open_remark.ensures c.if-not-is_open_remark.false) c.begins_in-begins.ensures.unended)
    (subst (λ (p : Passage). PassesUnended c.args.log.now c.args.listing.now c.in-Ok.fault c.begins_in-begins.result
    c.args.statement.now p c.list_unended.new.log c.list_unended.new.listing)
    c.in-Ok-GoesOn.field-0-is c.in-Ok-GoesOn.ensures.passes)
    (subst (λ (p : Passage). GoesOnAt c.args.log.now p c.list_unended.new.log) c.in-Ok-GoesOn.field-0-is
    c.in-Ok-GoesOn.ensures.begins).buffer

pub returns-in-Ok-AtFileMark-clause-ends : goal.returns-in-Ok-AtFileMark-clause-ends
returns-in-Ok-AtFileMark-clause-ends c =
    mark-ends c.args.limits c.args.log.now c.list_unended.new.log c.list_unended.new.log c.args.listing.now c.list_unended.new.listing
    c.end_with.new.listing c.args.front.now c.args.statement.now c.in-Ok.fault _ c.end_with.result
    (unended-at c.args.limits c.args.log.now c.args.front.now c.args.statement.now c.in-Ok.fault _ c.log_laws.ensures.unended
    c.log_laws.ensures.unended_on c.log_laws.ensures.unended_no_end
    (short-by c.args.limits _ c.file_source-most.ensures c.file_source-most.type_inv)
    (in-data c.args.log.now c.is_in_data.result c.is_in_data.ensures c.if-not-is_in_data.false) c.requires.none c.requires.front
    (c.begins_unended.ensures c.if-not-begins_unended.false) c.in-Ok.ensures
    (c.is_open_remark.ensures c.if-not-is_open_remark.false) c.begins_in-begins.ensures.unended)
    (subst (λ (p : Passage). PassesUnended c.args.log.now c.args.listing.now c.in-Ok.fault c.begins_in-begins.result
    c.args.statement.now p c.list_unended.new.log c.list_unended.new.listing)
    c.in-Ok-AtFileMark.field-0-is c.in-Ok-AtFileMark.ensures.passes) c.end_with.ensures.ends

pub returns-in-Ok-TooLong-clause-ends : goal.returns-in-Ok-TooLong-clause-ends
returns-in-Ok-TooLong-clause-ends c =
    long-ends c.log_laws.ensures.too_far c.args.limits c.args.log.now c.list_unended.new.log c.list_unended.new.log c.args.listing.now
    c.list_unended.new.listing c.end_with-in-Ok-TooLong.new.listing c.args.front.now c.args.statement.now c.in-Ok.fault _
    c.end_with-in-Ok-TooLong.result
    (short-by c.args.limits _ c.file_source-most.ensures c.file_source-most.type_inv)
    (unended-at c.args.limits c.args.log.now c.args.front.now c.args.statement.now c.in-Ok.fault _ c.log_laws.ensures.unended
    c.log_laws.ensures.unended_on c.log_laws.ensures.unended_no_end
    (short-by c.args.limits _ c.file_source-most.ensures c.file_source-most.type_inv)
    (in-data c.args.log.now c.is_in_data.result c.is_in_data.ensures c.if-not-is_in_data.false) c.requires.none c.requires.front
    (c.begins_unended.ensures c.if-not-begins_unended.false) c.in-Ok.ensures
    (c.is_open_remark.ensures c.if-not-is_open_remark.false) c.begins_in-begins.ensures.unended)
    (subst (λ (p : Passage). PassesUnended c.args.log.now c.args.listing.now c.in-Ok.fault c.begins_in-begins.result
    c.args.statement.now p c.list_unended.new.log c.list_unended.new.listing)
    c.in-Ok-TooLong.field-0-is c.in-Ok-TooLong.ensures.passes) c.end_with-in-Ok-TooLong.ensures.ends

pub returns-in-Ok-Sought-clause-ends : goal.returns-in-Ok-Sought-clause-ends
returns-in-Ok-Sought-clause-ends c =
    sought-ends c.log_laws.ensures.sought c.args.limits c.args.log.now c.list_unended.new.log c.list_unended.new.log c.args.listing.now
    c.list_unended.new.listing c.end_with-in-Ok-Sought.new.listing c.args.front.now c.args.statement.now c.in-Ok.fault _
    c.end_with-in-Ok-Sought.result c.in-Ok-Sought.field-0-0
    (unended-at c.args.limits c.args.log.now c.args.front.now c.args.statement.now c.in-Ok.fault _ c.log_laws.ensures.unended
    c.log_laws.ensures.unended_on c.log_laws.ensures.unended_no_end
    (short-by c.args.limits _ c.file_source-most.ensures c.file_source-most.type_inv)
    (in-data c.args.log.now c.is_in_data.result c.is_in_data.ensures c.if-not-is_in_data.false) c.requires.none c.requires.front
    (c.begins_unended.ensures c.if-not-begins_unended.false) c.in-Ok.ensures
    (c.is_open_remark.ensures c.if-not-is_open_remark.false) c.begins_in-begins.ensures.unended)
    (subst (λ (p : Passage). PassesUnended c.args.log.now c.args.listing.now c.in-Ok.fault c.begins_in-begins.result
    c.args.statement.now p c.list_unended.new.log c.list_unended.new.listing)
    c.in-Ok-Sought.field-0-is c.in-Ok-Sought.ensures.passes) c.end_with-in-Ok-Sought.ensures.ends

pub returns-in-Ok-end_at_stretch-clause-of_file : goal.returns-in-Ok-end_at_stretch-clause-of_file
returns-in-Ok-end_at_stretch-clause-of_file c = λ are.
    let number = remark-number _ (c.is_open_remark.ensures c.if-not-is_open_remark.false) in
    are-more c.args.listing.now.list.items c.end_at_stretch.new.listing.list.items _ c.in-Ok-end_at_stretch.ensures.list are number

pub returns-in-Ok-GoesOn-clause-of_file : goal.returns-in-Ok-GoesOn-clause-of_file
returns-in-Ok-GoesOn-clause-of_file c = λ are.
    let number = remark-number _ (c.is_open_remark.ensures c.if-not-is_open_remark.false) in
    c.in-Ok-GoesOn.ensures.of_file number are

pub returns-in-Ok-AtFileMark-clause-of_file : goal.returns-in-Ok-AtFileMark-clause-of_file
returns-in-Ok-AtFileMark-clause-of_file c = λ are.
    let number = remark-number _ (c.is_open_remark.ensures c.if-not-is_open_remark.false) in
    c.end_with.ensures.of_file number (c.in-Ok-AtFileMark.ensures.of_file number are)

pub returns-in-Ok-TooLong-clause-of_file : goal.returns-in-Ok-TooLong-clause-of_file
returns-in-Ok-TooLong-clause-of_file c = λ are.
    let number = remark-number _ (c.is_open_remark.ensures c.if-not-is_open_remark.false) in
    c.end_with-in-Ok-TooLong.ensures.of_file far-number (c.in-Ok-TooLong.ensures.of_file number are)

pub returns-in-Ok-Sought-clause-of_file : goal.returns-in-Ok-Sought-clause-of_file
returns-in-Ok-Sought-clause-of_file c = λ are.
    let number = remark-number _ (c.is_open_remark.ensures c.if-not-is_open_remark.false) in
    c.end_with-in-Ok-Sought.ensures.of_file number (c.in-Ok-Sought.ensures.of_file number are)
