-- The laws, from the theorems.
use Rattle.p21_spec_laws.proofs.files.reading_laws.Goals as goal
use Rattle.p21_spec_laws.proofs.FileTheorems.{one-lexemes, one-tree, one-meaning, one-meaning_within, each-reading}

pub returns : goal.returns
returns c = record { one_list_of_lexemes = one-lexemes; one_tree = one-tree; one_meaning = one-meaning; one_meaning_within = one-meaning_within; each_reading = each-reading }
