use Rattle.p21_shorter_tokens.proofs.Found.{none_to, some_to}
use Rattle.p21_shorter_tokens.proofs.Gaps.{comment_begins, not_ended}
use Rattle.p21_shorter_tokens.proofs.gap.behind_comment.Goals as goal

pub returns-clause-none : goal.returns-clause-none
returns-clause-none c = none_to _ (not_ended c.args.bytes.now c.in_ok-star.star.now c.in_ok-inside.inside.now c.in_ok-star.ensures.some c.in_ok-inside.ensures.some) c.behind_end.ensures.none

pub returns-clause-some : goal.returns-clause-some
returns-clause-some c = some_to _ (λ rest. comment_begins c.args.bytes.now c.in_ok-star.star.now c.in_ok-inside.inside.now rest.now c.in_ok-star.ensures.some c.in_ok-inside.ensures.some) c.behind_end.ensures.some
