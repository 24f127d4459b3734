-- The laws, from the theorems.
use Rattle.p21_spec_laws.proofs.records.record_laws.Goals as goal
use Rattle.p21_spec_laws.proofs.RecordTheorems.{one-meaning, instance-has_text, one-text, texts-tell, one-canonical_size}

pub returns : goal.returns
returns c = record { one_meaning = one-meaning; has_text = instance-has_text; one_text = one-text; texts_tell = texts-tell; one_canonical_size = one-canonical_size }
