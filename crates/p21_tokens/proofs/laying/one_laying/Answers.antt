use Rattle.p21_tokens_automaton.proofs.Theorems.{one-laying}
use Rattle.p21_tokens.proofs.laying.one_laying.Goals as goal

pub returns : goal.returns
returns c = one-laying
