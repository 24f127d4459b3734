-- The laws, from the theorems.
use Rattle.p21_spec_laws.proofs.sessions.counting_laws.Goals as goal
use Rattle.p21_spec_laws.proofs.Growing.{framing-append, canonical_size-append, numbered-by_entry, numbered-by_line}
use Rattle.p21_spec_laws.proofs.Growth.{size-by_header, size-by_instance, size-by_line}

pub returns : goal.returns
returns c = record { kept = canonical_size-append; framing = framing-append; numbered_by_entry = numbered-by_entry; numbered_by_line = numbered-by_line; size_by_line = size-by_line; size_by_header = size-by_header; size_by_instance = size-by_instance }
