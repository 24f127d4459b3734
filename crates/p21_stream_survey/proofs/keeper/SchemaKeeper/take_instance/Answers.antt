use Rattle.std.proofs.Common.{Bool, subst, take}
use Rattle.p21_stream_log.specs.Log.{PassGives}
use Rattle.p21_stream_survey.proofs.Keepers.{found-follows, takes-one}
use Rattle.p21_stream_survey.proofs.keeper.SchemaKeeper.take_instance.Goals as goal

pub judge_found-judgement-requires : goal.judge_found-judgement-requires
judge_found-judgement-requires c =
    let rest = c.args.rest.now in
    let held = c.pass_over.new.self in
    let count = c.in-Ok.found.count in
    let passed = c.if-not-passed.false in
    let gives = subst (λ (b : Bool). PassGives c.args.log.now (take count rest) b held) passed c.in-Ok-pass_over.ensures.gives in
    let keeps = c.in-Ok-pass_over.ensures.keeps passed in
    record {
      follows = found-follows c.args.self.now c.args.limits c.args.log.now held rest count c.in-Ok.found.number _ _ _ c.in-Ok.ensures.takes
          gives keeps c.requires.follows;
    }

pub returns-clause-takes : goal.returns-clause-takes
returns-clause-takes c =
    let rest = c.args.rest.now in
    let held = c.pass_over.new.self in
    let count = c.in-Ok.found.count in
    let passed = c.if-not-passed.false in
    let gives = subst (λ (b : Bool). PassGives c.args.log.now (take count rest) b held) passed c.in-Ok-pass_over.ensures.gives in
    let keeps = c.in-Ok-pass_over.ensures.keeps passed in
    takes-one c.args.self.now c.args.limits c.args.log.now held rest count c.in-Ok.found.number _ _ _ c.in-Ok.ensures.takes gives keeps _
    c.judge_found-judgement.result c.judge_found-judgement.ensures.gives
