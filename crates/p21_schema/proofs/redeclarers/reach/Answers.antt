use Rattle.std.proofs.Common.{ap, ◌∙◌, refl}
use Rattle.p21_schema.specs.Redeclarers.{items_at}
use Rattle.p21_schema.proofs.ListsAt.{items-more}
use Rattle.p21_schema.proofs.redeclarers.reach.Goals as goal

pub loop-alloc-init : goal.loop-alloc-init
loop-alloc-init g c = λ k. refl

pub loop-alloc-preserved : goal.loop-alloc-preserved
loop-alloc-preserved g c = λ k. ap (λ lists. items_at lists k) c.in_ok-push.ensures.items
    ∙ items-more c.loop-alloc.lists.items c.new.result c.new.ensures.items k ∙ c.loop-alloc.invariant k

pub returns-clause-same : goal.returns-clause-same
returns-clause-same g c = c.loop-alloc.invariant
