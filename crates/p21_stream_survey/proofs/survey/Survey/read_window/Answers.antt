use Rattle.std.proofs.Common.{refl}
use Rattle.p21_stream_survey.proofs.Tokens.{ended-follows, judged-goes, refused-goes, statement-follows, statement-judged, token-goes}
use Rattle.p21_stream_survey.proofs.survey.Survey.read_window.Goals as goal

pub returns-in-Err-clause-goes : goal.returns-in-Err-clause-goes
returns-in-Err-clause-goes c =
    refused-goes c.args.self.now c.take_token.new.log c.args.window.now c.requires.some c.requires.reading c.in-Err.fault
    c.break_off.new.self c.break_off.result c.in-Err.ensures.kind c.in-Err.ensures.gives c.in-Err.ensures.keeps
    c.break_off.ensures.other c.break_off.ensures.goes

pub returns-in_default-clause-goes : goal.returns-in_default-clause-goes
returns-in_default-clause-goes c =
    token-goes c.args.self.now c.take_token.new.log c.args.window.now c.requires.some c.requires.reading c.in-Ok.taken.0 c.in-Ok.taken.1
    c.on.result c.in_default.is c.in-Ok.ensures.gives c.in-Ok.ensures.keeps c.in-Ok.ensures.within c.on.ensures.count c.on.ensures.again

pub judge-judgement-requires-clause-follows : goal.judge-judgement-requires-clause-follows
judge-judgement-requires-clause-follows c =
    let (known, ahead, has) = ended-follows c.args.self.now c.take_token.new.log c.args.window.now c.requires.some c.requires.reading
    c.in-Ok.taken.0 c.in-Ok.taken.1 c.in-Some.event c.in-Some.is c.in-Ok.ensures.gives c.in-Ok.ensures.keeps c.requires.under_way in
    statement-follows known _ _ ahead has

pub follow-requires : goal.follow-requires
follow-requires c =
    let (known, ahead, has) = ended-follows c.args.self.now c.take_token.new.log c.args.window.now c.requires.some c.requires.reading
    c.in-Ok.taken.0 c.in-Ok.taken.1 c.in-Some.event c.in-Some.is c.in-Ok.ensures.gives c.in-Ok.ensures.keeps c.requires.under_way in (
      known,
      ahead,
      statement-judged known _ c.judge-judgement.new.self _ c.judge-judgement.result ahead has c.judge-judgement.ensures.gives
          c.judge-judgement.ensures.stays,
    )

pub returns-in-Ok-follow-clause-goes : goal.returns-in-Ok-follow-clause-goes
returns-in-Ok-follow-clause-goes c =
    judged-goes c.args.self.now c.take_token.new.log c.args.window.now c.requires.some c.requires.reading c.judge-judgement.new.self
    c.in-Ok.taken.0 c.in-Ok.taken.1 c.in-Some.event c.judge-judgement.result c.in-Ok-follow.again.items
    (record { count = c.in-Ok.taken.0; again = c.in-Ok-follow.again }) c.follow.new.self c.in-Some.is
    c.in-Ok.ensures.gives c.in-Ok.ensures.keeps c.in-Ok.ensures.within c.judge-judgement.ensures.gives c.judge-judgement.ensures.stays
    c.in-Ok-follow.ensures refl refl
