-- The laws, from the theorems.
use Rattle.p21_spec_laws.proofs.files.canonical_laws.Goals as goal
use Rattle.p21_spec_laws.proofs.FileTheorems.{bytes-exist, bytes-tell, bytes-graphic, files-tell, one-meaning_within, file-exists, one-file, is-accepted, means-the_same, is-own, bytes-own, short-accepted}

pub returns : goal.returns
returns c = record { bytes_exist = bytes-exist; bytes_tell = bytes-tell; bytes_are_graphic = bytes-graphic; files_tell = files-tell; one_meaning = one-meaning_within; file_exists = file-exists; one_file = one-file; is_accepted = is-accepted; means_the_same = means-the_same; is_its_own = is-own; bytes_are_their_own = bytes-own; short_is_accepted = short-accepted }
