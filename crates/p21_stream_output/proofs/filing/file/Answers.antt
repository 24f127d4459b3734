use Rattle.std.proofs.Common.{ℕ, List, ap, arith, ◌∙◌}
use Rattle.std.proofs.lemmas.List.{take_all}
use Rattle.p21_stream_output.proofs.Rows.{more-filed}
use Rattle.p21_stream_output.specs.Filing.{filed_rows, section_positions, section_at}
use Rattle.p21_stream_output.proofs.filing.file.Goals as goal

pub loop-index-preserved : goal.loop-index-preserved
loop-index-preserved c = record {
  heads = c.put.ensures.heads ∙ c.loop-index.invariant.heads;
  rows = more-filed (section_at c.args.memberships.now c.args.instances.now) c.args.order.now c.loop-index.index c.get-place.result _
      (section_positions c.args.parts.now.items) (section_positions c.loop-index.parts.items) (section_positions c.put.new.parts.items)
      c.get-place.ensures c.loop-index.invariant.rows c.section_of-section.ensures c.in_ok-put.ensures.rows;
}

pub returns-clause-rows : goal.returns-clause-rows
returns-clause-rows c =
    c.loop-index.invariant.rows
    ∙ ap (λ (order : List ℕ). filed_rows (section_at c.args.memberships.now c.args.instances.now) order
    (section_positions c.args.parts.now.items)) (take_all c.loop-index.index c.args.order.now
    (omega (arith, c.loop-index-test.false, c.len-index-end.ensures)))
