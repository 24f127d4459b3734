-- The lines of an accepted file tell what its text means, and what means the same.
use Rattle.std.specs.Prelude.{ℕ, List}
use Rattle.std.proofs.Common.{subst}
use Rattle.p21_differences.proofs.FileLines.{lines-are_of_meaning}
use Rattle.p21_differences.specs.Laws.{AreKept}
use Rattle.p21_differences.specs.Lines.{AreLinesOf}
use Rattle.p21_spec_basics.specs.Limits.{Limits}
use Rattle.p21_spec_file.proofs.SameFiles.{SameFileMeaning-symmetric, SameTyped-symmetric, SameTyped-transitive}
use Rattle.p21_spec_file.specs.Accepted.{IsCanonicalOf}
use Rattle.p21_spec_file.specs.File.{FileMeaning, Reads}
use Rattle.p21_spec_file.specs.SameFile.{SameFileMeaning}
use Rattle.p21_spec_laws.proofs.FileTheorems.{one-meaning}
use Rattle.p21_spec_numbering.proofs.Renaming.{names-among}
use Rattle.p21_spec_schema.specs.Schema.{Schema}
use Rattle.p21_spec_schema.specs.WellFormed.{IsWellFormed}
use Rattle.p21_stream.specs.Canonical.{IsCanonicalOutput}
use Rattle.p21_stream_output.specs.Output.{Output, output_text}
use Rattle.p21_stream_store.specs.StoredInstance.{StoredInstance}

-- the lines of a file are those of each one that means the same
lines-of_same : (s : Schema) (m n : FileMeaning) (kept : List StoredInstance) → SameFileMeaning m n → AreLinesOf s m kept
    → AreLinesOf s n kept
lines-of_same s m n kept same are = record {
  names_are = λ name. (
    λ is. (are.names_are name).0 (names-among n m (SameFileMeaning-symmetric m n same) name is),
    λ is. names-among m n same name ((are.names_are name).1 is),
  );
  lines_are = λ name line y is_kept at.
      let (x, among, alike) = same.back name y at in
      let own = are.lines_are name line x is_kept among in
      record {
        record_ = own.record_;
        stated = own.stated;
        same =
            SameTyped-transitive own.stated.canonical_meaning x y own.same (SameTyped-symmetric y x alike);
      };
}

module _ (s : Schema) (formed : IsWellFormed s) (limits : Limits) where
  -- a canonical text means what it is the text of
  pub text-same : (meaning own : FileMeaning) (text : List ℕ) → IsCanonicalOf s limits meaning text → Reads s text own
      → SameFileMeaning own meaning
  text-same meaning own text is reads =
      let P : FileMeaning → Type 0 = λ m. SameFileMeaning m meaning in
      subst P (one-meaning s formed text is.canonical.meaning own is.canonical.reads reads) is.same

  module _ (bytes : List ℕ) (output : Output) (is : IsCanonicalOutput s limits bytes output) where
    are-kept : AreKept s bytes output.kept
    are-kept =
        let are = is.instances_are in
        record {
          structure = are.structure;
          schema_text = are.schema_text;
          in_grammar = are.in_grammar;
          names_are =
              are.names_are;
          texts_are = are.texts_are;
        }

    abbrev own : FileMeaning
    own = is.is_canonical.0

    own-lines : AreLinesOf s own output.kept
    own-lines = lines-are_of_meaning s formed bytes own is.is_canonical.1.reads output.kept are-kept

    -- those of an accepted file are those of what its canonical text means
    pub text-lines : (m : FileMeaning) → Reads s (output_text output) m → AreLinesOf s m output.kept
    text-lines m reads =
        lines-of_same s own m output.kept (SameFileMeaning-symmetric m own (text-same own m (output_text output) is.is_canonical.2 reads))
        own-lines
