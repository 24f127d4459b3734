-- The laws, from the theorems.
use Rattle.p21_spec_syntax.proofs.laws.no_file_laws.Goals as goal
use Rattle.p21_spec_syntax.proofs.NoFiles.{ill_formed-further, no_file-begins, no_file-dead, no_file-ill_formed, no_file-refused}

pub returns : goal.returns
returns c = record { dead = no_file-dead; refused = no_file-refused; begins_ill_formed = no_file-begins; ill_formed = no_file-ill_formed; stays = ill_formed-further }
