use Rattle.std.proofs.Common.{ℕ, Ok, Option, arith, subst}
use Rattle.p21_numbered_file.specs.Reading.{Advances}
use Rattle.p21_numbered_file.proofs.reading.read_statements.Goals as goal

pub loop-next-init : goal.loop-next-init
loop-next-init c = record { way = c.requires; low = omega arith }

pub advance-requires-clause-way : goal.advance-requires-clause-way
advance-requires-clause-way c = (c.loop-next.rounds, c.loop-next.invariant.way)

pub returns-in_default : goal.returns-in_default
returns-in_default c =
    let A : Option ℕ → Type 0 = λ a. Advances c.args.schema.now c.args.text.now c.loop-next.reader c.loop-next.read c.loop-next.from (Ok a)
    c.advance.new.reader c.advance.new.read in
    (subst A c.in_default.is c.in_ok-next.ensures.gives) c.loop-next.rounds c.loop-next.invariant.way
