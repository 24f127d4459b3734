-- What the fields of a parser stand for.
use Rattle.std.specs.Prelude.{◌≡◌, ◌≤◌, [], Some, None}
use Rattle.p21_grammar.specs.Held.{Held}
use Rattle.p21_grammar.specs.Runs.{run, run_outcome, pending}
use Rattle.p21_grammar.specs.declared.parser.Parser.TheInside.{Inside}
use Rattle.p21_grammar.specs.Machine.{idle, depth_of, spot_of}

abbrev pub held_of : Inside → Held
held_of parser = record {
  stage = parser.machine.stage;
  pending = pending (spot_of parser.machine);
  depth = parser.depth;
  refused = parser.refused;
}

-- the machine is where the tokens that are held lead
pub record IsReached (parser : Inside) : Type 0 where
  pub ran : run (pending (spot_of parser.machine)) parser.machine.stage idle ≡ Some (run_outcome [] parser.machine.stage (spot_of parser.machine))
  pub depth_is : parser.refused ≡ None → parser.depth ≡ depth_of (spot_of parser.machine)
  pub within : parser.depth ≤ 64
