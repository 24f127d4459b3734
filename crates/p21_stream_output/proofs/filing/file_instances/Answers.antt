use Rattle.std.proofs.Common.{arith, ◌∙◌}
use Rattle.p21_stream_output.proofs.Rows.{one-filed}
use Rattle.p21_stream_output.proofs.filing.file_instances.Goals as goal

pub returns-then-len-eq1-clause-rows : goal.returns-then-len-eq1-clause-rows
returns-then-len-eq1-clause-rows c = record {
  order = c.in_ok-order.order;
  instance_positions = c.in_ok-order.ensures.places;
  rises = c.in_ok-order.ensures.rises;
  filed_ = c.hand_over.ensures.rows ∙ one-filed c.args.memberships.now c.args.instances.now c.in_ok-order.order c.args.parts.now.items
      c.requires.sections c.requires.empty (omega (arith, c.len.ensures, c.if-len-eq1.true, c.args.parts.now.ok.0));
}
