use Rattle.p21_stream_survey.proofs.Onward.{by-landmark, by-length, by-mark}
use Rattle.p21_stream_survey.proofs.survey.Survey.go_by.Goals as goal

pub returns-in-GoesOn-clause-goes : goal.returns-in-GoesOn-clause-goes
returns-in-GoesOn-clause-goes c = by-landmark c.args.self.now c.args.refusal c.args.bytes.now c.args.count c.in-GoesOn.passed c.args.passage
    c.next_behind.result c.in-GoesOn.is c.next_behind.ensures.reads

pub returns-in-AtFileMark-clause-goes : goal.returns-in-AtFileMark-clause-goes
returns-in-AtFileMark-clause-goes c = by-mark c.args.self.now c.end_behind.new.self c.args.refusal c.args.bytes.now c.args.count
    c.args.passage c.end_behind.result c.in-AtFileMark.is c.end_behind.ensures.ends

pub returns-in-TooLong-clause-goes : goal.returns-in-TooLong-clause-goes
returns-in-TooLong-clause-goes c =
    by-length c.args.self.now c.end_behind-in-TooLong.new.self c.args.refusal c.too_long.result c.args.bytes.now c.args.count c.args.passage
    c.end_behind-in-TooLong.result c.in-TooLong.is c.too_long.ensures c.end_behind-in-TooLong.ensures.ends
