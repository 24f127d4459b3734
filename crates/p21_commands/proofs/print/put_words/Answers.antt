use Rattle.std.specs.Prelude.{ℕ, List, map, Contains, length, false, ◌++◌}
use Rattle.std.specs.List.{flat_map}
use Rattle.std.proofs.Common.{ap, subst, get_or, ◌∙◌}
use Rattle.std.proofs.lemmas.List.{take_all}
use Rattle.p21_commands.specs.SchemaText.{joined, words_of}
use Rattle.p21_commands.proofs.SchemaTexts.{owner-next, owner-part, owner-some}
use Rattle.p21_express_graph.specs.declared.number.EntityId.{EntityId}
use Rattle.p21_express_graph.proofs.Gatherings.{numbered-at}
use Rattle.p21_express_graph.proofs.OrderTables.{IsA-within, are-entities}
use Rattle.p21_spec_schema.specs.Order.{own_places}
use Rattle.p21_spec_schema.proofs.Orders.{order_within-only}
use Rattle.p21_stream_io.specs.Transfer.{AppendsAllBut, AppendsPartOf}
use Rattle.p21_commands.proofs.print.put_words.Goals as goal

abbrev first : EntityId
first = record { 0 = 0 }

pub put_owner-requires-clause-owner : goal.put_owner-requires-clause-owner
put_owner-requires-clause-owner g c =
    let s = c.args.schema.now in
    let e : ℕ = (get_or c.order_of-owner-items.result.now c.loop-owner.owner-index first).0 in
    let P : List ℕ → Type 0 = λ xs. Contains xs e in
    IsA-within s (are-entities s c.holds_together.ensures) c.args.entity.0 e
    (order_within-only s (length s.entities) c.args.entity.0 e
    (subst P c.order_of-owner-items.ensures (numbered-at (λ x. x.0) c.order_of-owner-items.result.now c.loop-owner.owner-index first
    c.loop-owner-test.true)))
    c.requires.entity

pub returns-in_default-clause-err : goal.returns-in_default-clause-err
returns-in_default-clause-err g c =
    let s = c.args.schema.now in
    let P : List ℕ → Type 0 = λ es. AppendsPartOf (g.W.Write.contents c.args.writer.now.inner)
    (g.W.Write.contents c.put_owner.new.writer.inner) (c.args.waiting.now
    ++ joined false (words_of s c.args.entity.0 (flat_map (own_places s) es))) in
    subst P c.order_of-owner-items.ensures
    (owner-part _ _ _ c.args.waiting.now c.loop-owner.waiting s c.args.entity.0 (λ (e : EntityId). e.0) c.order_of-owner-items.result.now
    c.loop-owner.owner-index first c.loop-owner-test.true c.loop-owner.invariant.puts c.loop-owner.some c.loop-owner.invariant.stand
    c.in_default.ensures.err)

pub loop-owner-preserved : goal.loop-owner-preserved
loop-owner-preserved g c = record {
  puts = owner-next _ _ _ c.args.waiting.now c.loop-owner.waiting c.args.schema.now c.args.entity.0 (λ (e : EntityId). e.0)
      c.order_of-owner-items.result.now c.loop-owner.owner-index first c.loop-owner-test.true c.loop-owner.invariant.puts c.loop-owner.some
      c.loop-owner.invariant.stand _ c.in-Ok.ensures.ok;
  stand = owner-some (g.W.Write.contents c.args.writer.now.inner) (g.W.Write.contents c.loop-owner.writer.inner)
      (g.W.Write.contents c.put_owner.new.writer.inner) c.args.waiting.now c.loop-owner.waiting c.args.schema.now c.args.entity.0
      (λ (e : EntityId). e.0) c.order_of-owner-items.result.now c.loop-owner.owner-index first c.loop-owner-test.true
      c.loop-owner.invariant.puts c.loop-owner.some c.loop-owner.invariant.stand c.in-Ok.after c.in-Ok.ensures.some;
  failures = c.in-Ok.ensures.written ∙ c.loop-owner.invariant.failures;
}

pub returns-clause-ok : goal.returns-clause-ok
returns-clause-ok g c =
    let s = c.args.schema.now in
    let items = c.order_of-owner-items.result.now in
    let P : List ℕ → Type 0 = λ es. AppendsAllBut (g.W.Write.contents c.args.writer.now.inner)
    (g.W.Write.contents c.loop-owner.writer.inner) (c.args.waiting.now
    ++ joined false (words_of s c.args.entity.0 (flat_map (own_places s) es))) c.loop-owner.waiting in
    subst P (ap (map (λ (e : EntityId). e.0)) (take_all c.loop-owner.owner-index items c.loop-owner-test.false)
    ∙ c.order_of-owner-items.ensures) c.loop-owner.invariant.puts
