-- The laws, from the theorems.
use Rattle.p21_spec_laws.proofs.records.value_laws.Goals as goal
use Rattle.p21_spec_laws.proofs.ValueTheorems.{one-value, one-value_at, texts-tell, canonical-has_text, one-canonical}

pub returns : goal.returns
returns c = record { one = one-value; one_at_place = one-value_at; texts_tell = texts-tell; canonical_has_text = canonical-has_text; one_canonical = one-canonical }
