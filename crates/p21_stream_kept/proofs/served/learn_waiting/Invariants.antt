use Rattle.p21_stream_kept.proofs.served.learn_waiting.Given as goal

abbrev pub invariant-loop-waits : goal.invariant-loop-waits
invariant-loop-waits l = Unit {0}
