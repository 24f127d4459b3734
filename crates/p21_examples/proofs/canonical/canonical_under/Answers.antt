use Rattle.p21_examples.proofs.canonical.canonical_under.Goals as goal

pub returns-clause-refused : goal.returns-clause-refused
returns-clause-refused c other = record { schema = c.in-Ok.schema; declared = c.in-Ok.ensures; not_accepted = c.in-Err-canonical.ensures.err other }
