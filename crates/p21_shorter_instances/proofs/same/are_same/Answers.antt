use Rattle.std.proofs.Common.{ap, arith, length, sym, ◌-◌, ◌∙◌, ℕ}
use Rattle.std.specs.Int.{to_le_bytes, w64}
use Rattle.p21_shorter_instances.proofs.Words.{all-same, more-same, same-number}
use Rattle.p21_shorter_instances.proofs.same.are_same.Goals as goal

pub loop-count-preserved : goal.loop-count-preserved
loop-count-preserved c =
    more-same c.args.bytes.now c.args.others.now c.loop-count.count c.loop-count.invariant
    (sym c.word_at.ensures ∙ ap (to_le_bytes w64) c.if-word_at.false ∙ c.word_at-in-loop-count.ensures)

pub returns : goal.returns
returns c = λ same.
    let last : ℕ = length c.args.bytes.now - 8 in
    all-same c.args.bytes.now c.args.others.now last c.loop-count.count c.if-size-others.false (omega (arith, c.if-size-lt8.false))
    c.loop-count-test.false c.loop-count.invariant
    (sym c.word_at-2.ensures ∙ ap (to_le_bytes w64) (same-number c.word_at-2.result c.word_at-3.result same) ∙ c.word_at-3.ensures)
