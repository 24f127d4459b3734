use Rattle.std.proofs.Common.{arith, refl}
use Rattle.p21_stream_output.proofs.Rows.{heads-put, row-given}
use Rattle.p21_stream_output.proofs.filing.hand_over.Goals as goal

pub returns-in-Some-clause-heads : goal.returns-in-Some-clause-heads
returns-in-Some-clause-heads c = let (test, at, some, none, within) = c.in-Some.ensures.item in
    heads-put c.args.parts.now.items 0 c.in-Some.part.now _ (λ d. within (omega arith) d) refl refl

pub returns-in-Some-clause-rows : goal.returns-in-Some-clause-rows
returns-in-Some-clause-rows c = row-given c.args.parts.now.items _ c.args.order c.requires refl

pub returns-in_default-clause-rows : goal.returns-in_default-clause-rows
returns-in_default-clause-rows c =
    let (test, at, some, none, within) = c.in_default.ensures.item in
    absurd (omega (arith, none, c.requires))
