use Rattle.std.proofs.Common.{refl}
use Rattle.p21_shorter_tokens.proofs.Gaps.{blank_passes, none_passed, one_more}
use Rattle.p21_shorter_tokens.proofs.gap.behind_separators.Goals as goal

pub returns-then-not-may_separate-2 : goal.returns-then-not-may_separate-2
returns-then-not-may_separate-2 c =
    one_more c.args.bytes.now c.in-Some.rest.now c.in-Some.rest.now (blank_passes c.args.bytes.now c.in-Some.rest.now c.in-Some.ensures.some) (none_passed c.in-Some.rest.now (c.if-not-may_separate-2.ensures refl))

pub returns : goal.returns
returns c = one_more c.args.bytes.now c.in-Some.rest.now c.behind_many-2.result.now (blank_passes c.args.bytes.now c.in-Some.rest.now c.in-Some.ensures.some) c.behind_many-2.ensures
