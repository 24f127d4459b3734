use Rattle.std.proofs.Common.{subst}
use Rattle.p21_stream_log.specs.Passage.{GoesOnAt}
use Rattle.p21_stream_log.specs.declared.passage.Passage.{Passage}
use Rattle.p21_stream_survey.proofs.AtEnd.{ends-at, gone-on, in-data, long-ends, mark-ends, passes-on, short-by, sought-ends, stretch-ends}
use Rattle.p21_stream_survey.specs.Finishing.{PassesEnded}
use Rattle.p21_stream_survey.proofs.Numbers.{are-more, far-number, gone-on-number}
use Rattle.p21_stream_survey.proofs.finishing.end_statement.Goals as goal

pub returns-in-Ok-end_at_stretch-clause-ends : goal.returns-in-Ok-end_at_stretch-clause-ends
returns-in-Ok-end_at_stretch-clause-ends c =
    stretch-ends c.log_laws.ensures.ended c.args.limits c.args.log.now c.args.log.now c.args.listing.now c.end_at_stretch.new.listing
    c.args.bytes.now c.in-Ok.fault _ c.in-Ok-end_at_stretch.extent
    (ends-at c.args.limits c.args.log.now c.args.bytes.now c.in-Ok.fault _
    (short-by c.args.limits _ c.file_source-most.ensures c.file_source-most.type_inv)
    (in-data c.args.log.now c.is_in_data.result c.is_in_data.ensures c.if-not-is_in_data.false)
    (c.begins_with_end.ensures.no c.if-begins_with_end.false) c.in-Ok.ensures
    (gone-on _ c.is_gone_on_behind.result c.is_gone_on_behind.ensures c.if-not-is_gone_on_behind.false) c.begins_in-begins.ensures.begins)
    c.in-Ok-end_at_stretch.ensures.ends

pub returns-in-Ok-GoesOn-clause-ends : goal.returns-in-Ok-GoesOn-clause-ends
returns-in-Ok-GoesOn-clause-ends c =
    passes-on c.args.limits c.args.log.now c.pass_ended.new.log c.args.listing.now c.pass_ended.new.listing c.args.bytes.now c.in-Ok.fault _
    c.in-Ok-GoesOn.count
    (ends-at c.args.limits c.args.log.now c.args.bytes.now c.in-Ok.fault _
    (short-by c.args.limits _ c.file_source-most.ensures c.file_source-most.type_inv)
    (in-data c.args.log.now c.is_in_data.result c.is_in_data.ensures c.if-not-is_in_data.false)
    (c.begins_with_end.ensures.no c.if-begins_with_end.false) c.in-Ok.ensures
    (gone-on _ c.is_gone_on_behind.result c.is_gone_on_behind.ensures c.if-not-is_gone_on_behind.false) c.begins_in-begins.ensures.begins)
    (subst (λ (p : Passage). PassesEnded c.args.log.now c.args.listing.now c.in-Ok.fault c.begins_in-begins.result c.args.bytes.now p
    c.pass_ended.new.log c.pass_ended.new.listing) c.in-Ok-GoesOn.field-0-is c.in-Ok-GoesOn.ensures.passes)
    (subst (λ (p : Passage). GoesOnAt c.args.log.now p c.pass_ended.new.log) c.in-Ok-GoesOn.field-0-is c.in-Ok-GoesOn.ensures.begins).buffer

pub returns-in-Ok-AtFileMark-clause-ends : goal.returns-in-Ok-AtFileMark-clause-ends
returns-in-Ok-AtFileMark-clause-ends c =
    mark-ends c.args.limits c.args.log.now c.pass_ended.new.log c.pass_ended.new.log c.args.listing.now c.pass_ended.new.listing
    c.end_with.new.listing c.args.bytes.now c.in-Ok.fault _ c.end_with.result
    (ends-at c.args.limits c.args.log.now c.args.bytes.now c.in-Ok.fault _
    (short-by c.args.limits _ c.file_source-most.ensures c.file_source-most.type_inv)
    (in-data c.args.log.now c.is_in_data.result c.is_in_data.ensures c.if-not-is_in_data.false)
    (c.begins_with_end.ensures.no c.if-begins_with_end.false) c.in-Ok.ensures
    (gone-on _ c.is_gone_on_behind.result c.is_gone_on_behind.ensures c.if-not-is_gone_on_behind.false) c.begins_in-begins.ensures.begins)
    (subst (λ (p : Passage). PassesEnded c.args.log.now c.args.listing.now c.in-Ok.fault c.begins_in-begins.result c.args.bytes.now p
    c.pass_ended.new.log c.pass_ended.new.listing) c.in-Ok-AtFileMark.field-0-is c.in-Ok-AtFileMark.ensures.passes)
    c.end_with.ensures.ends

pub returns-in-Ok-TooLong-clause-ends : goal.returns-in-Ok-TooLong-clause-ends
returns-in-Ok-TooLong-clause-ends c =
    long-ends c.log_laws.ensures.too_far c.args.limits c.args.log.now c.pass_ended.new.log c.pass_ended.new.log c.args.listing.now
    c.pass_ended.new.listing c.end_with-in-Ok-TooLong.new.listing c.args.bytes.now c.in-Ok.fault _ c.end_with-in-Ok-TooLong.result
    (short-by c.args.limits _ c.file_source-most.ensures c.file_source-most.type_inv)
    (ends-at c.args.limits c.args.log.now c.args.bytes.now c.in-Ok.fault _
    (short-by c.args.limits _ c.file_source-most.ensures c.file_source-most.type_inv)
    (in-data c.args.log.now c.is_in_data.result c.is_in_data.ensures c.if-not-is_in_data.false)
    (c.begins_with_end.ensures.no c.if-begins_with_end.false) c.in-Ok.ensures
    (gone-on _ c.is_gone_on_behind.result c.is_gone_on_behind.ensures c.if-not-is_gone_on_behind.false) c.begins_in-begins.ensures.begins)
    (subst (λ (p : Passage). PassesEnded c.args.log.now c.args.listing.now c.in-Ok.fault c.begins_in-begins.result c.args.bytes.now p
    c.pass_ended.new.log c.pass_ended.new.listing) c.in-Ok-TooLong.field-0-is c.in-Ok-TooLong.ensures.passes)
    c.end_with-in-Ok-TooLong.ensures.ends

pub returns-in-Ok-Sought-clause-ends : goal.returns-in-Ok-Sought-clause-ends
returns-in-Ok-Sought-clause-ends c =
    sought-ends c.log_laws.ensures.ended c.log_laws.ensures.sought c.args.limits c.args.log.now c.pass_ended.new.log c.pass_ended.new.log
    c.args.listing.now c.pass_ended.new.listing c.end_with-in-Ok-Sought.new.listing c.args.bytes.now c.in-Ok.fault _
    c.end_with-in-Ok-Sought.result c.in-Ok-Sought.field-0-0
    (ends-at c.args.limits c.args.log.now c.args.bytes.now c.in-Ok.fault _
    (short-by c.args.limits _ c.file_source-most.ensures c.file_source-most.type_inv)
    (in-data c.args.log.now c.is_in_data.result c.is_in_data.ensures c.if-not-is_in_data.false)
    (c.begins_with_end.ensures.no c.if-begins_with_end.false) c.in-Ok.ensures
    (gone-on _ c.is_gone_on_behind.result c.is_gone_on_behind.ensures c.if-not-is_gone_on_behind.false) c.begins_in-begins.ensures.begins)
    (subst (λ (p : Passage). PassesEnded c.args.log.now c.args.listing.now c.in-Ok.fault c.begins_in-begins.result c.args.bytes.now p
    c.pass_ended.new.log c.pass_ended.new.listing) c.in-Ok-Sought.field-0-is c.in-Ok-Sought.ensures.passes)
    c.end_with-in-Ok-Sought.ensures.ends

pub returns-in-Ok-end_at_stretch-clause-of_file : goal.returns-in-Ok-end_at_stretch-clause-of_file
returns-in-Ok-end_at_stretch-clause-of_file c = λ are.
    let number = gone-on-number _ (gone-on _ c.is_gone_on_behind.result c.is_gone_on_behind.ensures c.if-not-is_gone_on_behind.false) in
    are-more c.args.listing.now.list.items c.end_at_stretch.new.listing.list.items _ c.in-Ok-end_at_stretch.ensures.list are number

pub returns-in-Ok-GoesOn-clause-of_file : goal.returns-in-Ok-GoesOn-clause-of_file
returns-in-Ok-GoesOn-clause-of_file c = λ are.
    let number = gone-on-number _ (gone-on _ c.is_gone_on_behind.result c.is_gone_on_behind.ensures c.if-not-is_gone_on_behind.false) in
    c.in-Ok-GoesOn.ensures.of_file number are

pub returns-in-Ok-AtFileMark-clause-of_file : goal.returns-in-Ok-AtFileMark-clause-of_file
returns-in-Ok-AtFileMark-clause-of_file c = λ are.
    let number = gone-on-number _ (gone-on _ c.is_gone_on_behind.result c.is_gone_on_behind.ensures c.if-not-is_gone_on_behind.false) in
    c.end_with.ensures.of_file number (c.in-Ok-AtFileMark.ensures.of_file number are)

pub returns-in-Ok-TooLong-clause-of_file : goal.returns-in-Ok-TooLong-clause-of_file
returns-in-Ok-TooLong-clause-of_file c = λ are.
    let number = gone-on-number _ (gone-on _ c.is_gone_on_behind.result c.is_gone_on_behind.ensures c.if-not-is_gone_on_behind.false) in
    c.end_with-in-Ok-TooLong.ensures.of_file far-number (c.in-Ok-TooLong.ensures.of_file number are)

pub returns-in-Ok-Sought-clause-of_file : goal.returns-in-Ok-Sought-clause-of_file
returns-in-Ok-Sought-clause-of_file c = λ are.
    let number = gone-on-number _ (gone-on _ c.is_gone_on_behind.result c.is_gone_on_behind.ensures c.if-not-is_gone_on_behind.false) in
    c.end_with-in-Ok-Sought.ensures.of_file number (c.in-Ok-Sought.ensures.of_file number are)
