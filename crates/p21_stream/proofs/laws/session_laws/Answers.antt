-- The laws, from the theorems.
use Rattle.p21_stream.proofs.Going.{dead-by_statement, dead-by_step, held-while_live, live-at_start, live-by_piece, live-by_statement, live-by_token}
use Rattle.p21_stream.proofs.laws.session_laws.Goals as goal

pub returns : goal.returns
returns c = record {
  at_start = live-at_start;
  by_token = live-by_token;
  by_piece = live-by_piece;
  by_statement = live-by_statement;
  dead_statement = dead-by_statement;
  dead_step = dead-by_step;
  held = held-while_live;
}
