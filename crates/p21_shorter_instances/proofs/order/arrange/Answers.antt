use Rattle.std.proofs.Common.{refl, sym}
use Rattle.p21_shorter_instances.proofs.Leaving.{ok-to}
use Rattle.p21_express_graph.specs.Meaning.{type_use}
use Rattle.p21_shorter_instances.proofs.ArrangedElements.{elements-joined, front-stays, order-kept, order-made, rising-kept, texts-within}
use Rattle.p21_shorter_instances.proofs.order.arrange.Goals as goal

pub returns-in_default-clause-none : goal.returns-in_default-clause-none
returns-in_default-clause-none c = front-stays c.args.start c.args.draft.now

pub returns-in_default-joined-clause-none : goal.returns-in_default-joined-clause-none
returns-in_default-joined-clause-none c = front-stays c.args.start c.args.draft.now

pub returns-in_default-keeps_unique-clause-none : goal.returns-in_default-keeps_unique-clause-none
returns-in_default-keeps_unique-clause-none c = front-stays c.args.start c.args.draft.now

pub keeps_unique-requires : goal.keeps_unique-requires
keeps_unique-requires c =
    texts-within _ c.args.lengths.now _ (elements-joined _ _ _ _ _ c.text_behind-text.ensures c.deref-all.ensures.value
    (rw c.in-Some.is at c.in-Ok.ensures)) c.requires.holds

pub rewrite_in_order-requires-clause-within : goal.rewrite_in_order-requires-clause-within
rewrite_in_order-requires-clause-within c =
    texts-within _ c.args.lengths.now _ (elements-joined _ _ _ _ _ c.text_behind-text.ensures c.deref-all.ensures.value
    (rw c.in-Some.is at c.in-Ok.ensures)) c.requires.holds

pub returns-then-not-unique-clause-none : goal.returns-then-not-unique-clause-none
returns-then-not-unique-clause-none c = front-stays c.args.start c.args.draft.now

pub returns-then-not-is_unordered-clause-some : goal.returns-then-not-is_unordered-clause-some
returns-then-not-is_unordered-clause-some c =
    order-kept (type_use c.args.of.now) c.args.start c.args.draft.now c.args.lengths.now _ (sym c.if-not-is_unordered.ensures)
    (c.in-Ok-keeps_unique.ensures c.if-not-unique.false)
    (elements-joined _ _ _ _ _ c.text_behind-text.ensures c.deref-all.ensures.value (rw c.in-Some.is at c.in-Ok.ensures))

pub returns-clause-some : goal.returns-clause-some
returns-clause-some c =
    ok-to _ (λ done. order-made (type_use c.args.of.now) c.args.start c.args.draft.now c.args.lengths.now _ _
    (sym c.if-not-is_unordered.ensures) (c.in-Ok-keeps_unique.ensures c.if-not-unique.false)
    (elements-joined _ _ _ _ _ c.text_behind-text.ensures c.deref-all.ensures.value (rw c.in-Some.is at c.in-Ok.ensures)))
    c.rewrite_in_order.ensures.some

pub returns-then-are_rising-clause-some : goal.returns-then-are_rising-clause-some
returns-then-are_rising-clause-some c =
    rising-kept (type_use c.args.of.now) c.args.start c.args.draft.now c.args.lengths.now _ c.text_behind-text.ensures
    (c.if-are_rising.ensures refl)
