-- Accepted bytes have one meaning, and one canonical file serves one meaning.
use Rattle.std.proofs.Common.{◌≡◌, ℕ, List}
use Rattle.p21_spec_schema.specs.WellFormed.{IsWellFormed}
use Rattle.p21_spec_file.specs.Accepted.{Means}
use Rattle.p21_spec_file.specs.File.{FileMeaning, Reads}
use Rattle.p21_spec_exchange.specs.Laying.{AreStatementsWithin}
use Rattle.p21_spec_basics.specs.Limits.{Limits}
use Rattle.p21_spec_schema.specs.Schema.{Schema}
use Rattle.p21_spec_exchange.specs.Structure.{tokens_of}
use Rattle.p21_spec_laws.proofs.OneReading.{Reads-one, within-one}

-- within limits bytes mean one thing at most, also where the limits are different
pub Means-one : (s : Schema) → IsWellFormed s → (limits others : Limits) (bytes : List ℕ) (m n : FileMeaning) → Means s limits bytes m → Means s others bytes n → m ≡ n
Means-one s formed limits others bytes m n means means_ = Reads-one s formed bytes m n means.reads means_.reads

-- the limit on statements holds for each reading of the bytes
pub Means-any_reading : (s : Schema) (limits : Limits) (bytes : List ℕ) (m n : FileMeaning) → Means s limits bytes m → (reads : Reads s bytes n) → AreStatementsWithin limits.record_source 0 reads.in_grammar.laid.lexemes
Means-any_reading s limits bytes m n means reads =
    within-one bytes (tokens_of means.reads.structure) (tokens_of reads.structure) means.reads.in_grammar.laid reads.in_grammar.laid limits.record_source 0 means.statements_within
