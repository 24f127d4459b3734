use Rattle.p21_shorter_tokens.proofs.Found.{none_to, some_to}
use Rattle.p21_shorter_tokens.proofs.Gaps.{blank_passes, comment_passes, no_blank_or_comment}
use Rattle.p21_shorter_tokens.proofs.gap.behind_separator.Goals as goal

pub returns-in-Some-clause-some : goal.returns-in-Some-clause-some
returns-in-Some-clause-some c = blank_passes c.args.bytes.now c.in-Some.rest.now c.in-Some.ensures.some

pub returns-in-None-clause-none : goal.returns-in-None-clause-none
returns-in-None-clause-none c = none_to _ (no_blank_or_comment c.args.bytes.now c.in-None.ensures.none) c.behind_comment.ensures.none

pub returns-in-None-clause-some : goal.returns-in-None-clause-some
returns-in-None-clause-some c = some_to _ (λ rest. comment_passes c.args.bytes.now rest.now) c.behind_comment.ensures.some
