-- The only canonical file, and two compared.
use Rattle.std.proofs.Common.{◌≡◌, ◌↔◌, ℕ, Bool, IsTrue, List, length, Option, refl, sym, subst, ◌∙◌}
use Rattle.std.proofs.KnownBytes.{Keeps-refl}
use Rattle.std.specs.Io.KnownBytes.{Appends}
use Rattle.p21_spec_basics.specs.Limits.{AreLimits, Limits}
use Rattle.p21_spec_laws.proofs.FileOnce.{file-once}
use Rattle.p21_spec_laws.proofs.OneAccepted.{Means-one}
use Rattle.p21_spec_laws.proofs.Beside.{keeps-tell_same}
use Rattle.p21_spec_laws.proofs.Keeps.{keeps-file}
use Rattle.p21_spec_laws.proofs.FileTheorems.{files-tell, is-accepted, is-own, means-the_same, one-file, one-lexemes, one-meaning, one-tree}
use Rattle.p21_spec_laws.specs.Beside.{IsSameAs, earlier_of}
use Rattle.p21_spec_laws.specs.Keeping.{Kept, text_with_header}
use Rattle.p21_spec_laws.specs.Stored.{beside, with_lines}
use Rattle.p21_spec_exchange.specs.Structure.{tokens_of}
use Rattle.p21_spec_file.proofs.SameFiles.{SameFileMeaning-symmetric, SameFileMeaning-transitive}
use Rattle.p21_spec_file.specs.Accepted.{IsCanonicalFile}
use Rattle.p21_spec_file.specs.SameFile.{SameFileMeaning}
use Rattle.p21_spec_schema.specs.Schema.{Schema}
use Rattle.p21_spec_schema.specs.WellFormed.{IsWellFormed}
use Rattle.p21_stream.specs.Answers.{AreReadInOneWay, Compares, FailsToWrite, IsCanonicalOfRead, IsOnlyCanonicalFile, IsPartWritten, IsWritten}
use Rattle.p21_stream.specs.ReaderInput.{IsAcceptedInput, IsWholeInput, RefusesRead, write_failures}
use Rattle.p21_stream_output.specs.Output.{Output, output_text}
use Rattle.p21_stream_statements.specs.declared.fault.Fault.{Fault}
use Rattle.p21_stream_statements.specs.declared.fault.Fault.TheVariants.{Token, Grammar, Check, SchemaName, SectionTwice, DuplicateName, CanonicalTooLong, Dangling, WrongTarget, NoMemory, Read, Write}
use Rattle.p21_stream_io.specs.Transfer.{AppendsPartOf}

pub only-canonical : (s : Schema) → IsWellFormed s → (limits : Limits) → AreLimits limits → (bytes text : List ℕ)
    → IsCanonicalFile s limits bytes text → IsOnlyCanonicalFile s limits bytes text
only-canonical s formed limits are bytes text is = record {
  is_canonical = is;
  is_accepted = is-accepted s limits are bytes text is;
  means_the_same = means-the_same s formed limits are bytes text is;
  is_its_own = is-own s limits are bytes text is;
  only = λ meaning means other c same.
      let one : is.0 ≡ meaning = Means-one s formed limits limits bytes is.0 meaning is.1 means in
      let of = is.2 in
      let back : SameFileMeaning meaning of.canonical.meaning =
      SameFileMeaning-symmetric of.canonical.meaning meaning (subst (SameFileMeaning of.canonical.meaning) one of.same) in
      file-once s formed other text c of.canonical (SameFileMeaning-transitive c.meaning meaning of.canonical.meaning same back);
}

pub in-one_way : (s : Schema) → IsWellFormed s → (bytes : List ℕ) → AreReadInOneWay s bytes
in-one_way s formed bytes = record {
  one_laying = one-lexemes bytes;
  one_tree = one-tree bytes;
  one_meaning = one-meaning s formed bytes;
}

-- ---- of what a reader gave

pub canonical-of_read : (s : Schema) → IsWellFormed s → (limits : Limits) → AreLimits limits → (old new : Option (List ℕ)) (output : Output)
    → IsAcceptedInput s limits old new output → IsCanonicalOfRead s limits old new (output_text output)
canonical-of_read s formed limits are old new output is = record {
  bytes = is.bytes;
  read = is.read;
  canonical = only-canonical s formed limits are is.bytes (output_text output) is.accepted.is_canonical;
  in_one_way = in-one_way s formed is.bytes;
}

-- ---- written

pub all-written : (s : Schema) → IsWellFormed s → (limits : Limits) → AreLimits limits
    → (old new writer_old writer_new : Option (List ℕ)) (output : Output) (size : ℕ) → IsAcceptedInput s limits old new output
    → Appends writer_old writer_new (output_text output) → size ≡ length (output_text output)
    → IsWritten s limits old new writer_old writer_new size
all-written s formed limits are old new writer_old writer_new output size is written size_is = record {
  text = output_text output;
  canonical = canonical-of_read s formed limits are old new output is;
  written = written;
  size_is = size_is;
}

pub part-written : (s : Schema) → IsWellFormed s → (limits : Limits) → AreLimits limits
    → (old new writer_old writer_new : Option (List ℕ)) (output : Output) → IsAcceptedInput s limits old new output
    → AppendsPartOf writer_old writer_new (output_text output)
    → IsPartWritten s limits old new writer_old writer_new
part-written s formed limits are old new writer_old writer_new output is part =
    record { text = output_text output; canonical = canonical-of_read s formed limits are old new output is; part = part }

-- what is refused is not written
pub read-fails : (s : Schema) (limits : Limits) (old new writer : Option (List ℕ)) (fault : Fault) → RefusesRead s limits old new fault
    → FailsToWrite s limits old new writer writer fault
read-fails s limits old new writer Write refuses = absurd refuses
read-fails s limits old new writer NoMemory refuses = (refuses, Keeps-refl writer)
read-fails s limits old new writer Read refuses = (refuses, Keeps-refl writer)
read-fails s limits old new writer (Token fault) refuses = (refuses, Keeps-refl writer)
read-fails s limits old new writer (Grammar fault) refuses = (refuses, Keeps-refl writer)
read-fails s limits old new writer (Check fault) refuses = (refuses, Keeps-refl writer)
read-fails s limits old new writer SchemaName refuses = (refuses, Keeps-refl writer)
read-fails s limits old new writer SectionTwice refuses = (refuses, Keeps-refl writer)
read-fails s limits old new writer DuplicateName refuses = (refuses, Keeps-refl writer)
read-fails s limits old new writer CanonicalTooLong refuses = (refuses, Keeps-refl writer)
read-fails s limits old new writer Dangling refuses = (refuses, Keeps-refl writer)
read-fails s limits old new writer WrongTarget refuses = (refuses, Keeps-refl writer)

pub read-no_write : (s : Schema) (limits : Limits) (old new : Option (List ℕ)) (fault : Fault) (count : ℕ)
    → RefusesRead s limits old new fault → count ≡ write_failures count fault
read-no_write s limits old new Write count refuses = absurd refuses
read-no_write s limits old new NoMemory count refuses = refl
read-no_write s limits old new Read count refuses = refl
read-no_write s limits old new (Token fault) count refuses = refl
read-no_write s limits old new (Grammar fault) count refuses = refl
read-no_write s limits old new (Check fault) count refuses = refl
read-no_write s limits old new SchemaName count refuses = refl
read-no_write s limits old new SectionTwice count refuses = refl
read-no_write s limits old new DuplicateName count refuses = refl
read-no_write s limits old new CanonicalTooLong count refuses = refl
read-no_write s limits old new Dangling count refuses = refl
read-no_write s limits old new WrongTarget count refuses = refl

-- ---- compared

-- a whole file has a canonical file, which is the only one
pub of-whole : (s : Schema) → IsWellFormed s → (limits : Limits) → AreLimits limits
    → (old new : Option (List ℕ)) (kept : Kept) (input : IsWholeInput s limits old new kept)
    → (text : List ℕ) × IsCanonicalOfRead s limits old new text × IsCanonicalFile s limits input.bytes text
of-whole s formed limits are old new kept input =
    let w = input.whole in
    let (blocks, canonical, size) = keeps-file s formed limits input.bytes w.given kept w.keeps w.structure w.text w.is_file
    w.statements_are (tokens_of w.structure) refl w.laid w.statements_within w.source_within w.served in
    let text : List ℕ = text_with_header kept.header blocks in (
      text,
      record {
        bytes = input.bytes;
        read = input.read;
        canonical =
            only-canonical s formed limits are input.bytes text canonical;
        in_one_way = in-one_way s formed input.bytes;
      },
      canonical,
    )

pub both-compared : (s : Schema) → IsWellFormed s → (limits : Limits) → AreLimits limits
    → (first_old first_new second_old second_new : Option (List ℕ)) (first second : Kept) (same : Bool)
    → IsWholeInput s limits first_old first_new first → IsWholeInput s limits second_old second_new second
    → first.lines ≡ with_lines → second.lines ≡ beside (earlier_of first) → IsTrue same ↔ IsSameAs (earlier_of first) second
    → Compares s limits first_old first_new second_old second_new same
both-compared s formed limits are first_old first_new second_old second_new first second same one two full later is =
    let (text, of_first, canonical) = of-whole s formed limits are first_old first_new first one in
    let (other, of_second, canonical_) = of-whole s formed limits are second_old second_new second two in
    let law = keeps-tell_same s formed limits one.bytes two.bytes first second one.whole two.whole full later in
    let equal : IsTrue same → text ≡ other = λ yes.
    let (shared, of_one, of_two) = law.0 (is.0 yes) in
    one-file s formed limits one.bytes text shared canonical of_one ∙ one-file s formed limits two.bytes shared other of_two canonical_ in
    let told : text ≡ other → IsTrue same = λ alike. is.1
    (law.1 (text, canonical, subst (λ (x : List ℕ). IsCanonicalFile s limits two.bytes x) (sym alike) canonical_)) in
    let tell = files-tell s formed limits of_first.bytes of_second.bytes text other of_first.canonical.is_canonical
    of_second.canonical.is_canonical in
    record {
      first_text = text;
      second_text = other;
      first = of_first;
      second = of_second;
      if_same = (λ yes. tell.1 (equal yes), λ means. told (tell.0 means));
      if_equal = (equal, told);
    }
