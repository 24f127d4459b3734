use Rattle.p21_stream_store.proofs.RunLemmas.{run_by_ones}
use Rattle.p21_stream_store.proofs.runs.Run.below.Goals as goal

pub returns : goal.returns
returns c = run_by_ones 0 c.args.count
