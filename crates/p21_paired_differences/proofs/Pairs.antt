-- What is listed by pairs.
use Rattle.std.specs.BTreeMap.{BTreeMap, get}
use Rattle.std.specs.Ordering.{nat_cmp}
use Rattle.std.specs.Prelude.{◌≡◌, ◌↔◌, ℕ, Bool, false, IsTrue, List, Option, Some, None}
use Rattle.std.proofs.Common.{ap, sym, subst, inl, inr, ◌∙◌}
use Rattle.p21_difference_rows.specs.Listed.{IsList}
use Rattle.p21_difference_rows.specs.Pairs.{ArePairRows}
use Rattle.p21_difference_rows.specs.RealNames.{by_map}
use Rattle.p21_difference_rows.specs.declared.row.RowForm.{RowForm}
use Rattle.p21_differences.specs.Lines.{AreLinesOf}
use Rattle.p21_numbered_file.specs.Pairing.{IsPairedFile}
use Rattle.p21_spec_basics.specs.Limits.{AreLimits, Limits}
use Rattle.p21_spec_differences.specs.LeftOut.{LeftOut}
use Rattle.p21_spec_file.proofs.SameFiles.{SameFileMeaning-symmetric, SameFileMeaning-transitive}
use Rattle.p21_spec_file.specs.Accepted.{IsAccepted, IsCanonicalOf}
use Rattle.p21_spec_file.specs.File.{FileMeaning}
use Rattle.p21_spec_file.specs.SameFile.{SameFileMeaning}
use Rattle.p21_spec_numbering.proofs.OwnOrders.{proper-means}
use Rattle.p21_spec_numbering.proofs.Theorems.{ranks-are_invariant}
use Rattle.p21_spec_numbering.specs.Laws.{IsProper, ranking_of}
use Rattle.p21_spec_numbering.specs.Renamed.{names, renamed}
use Rattle.p21_spec_pairing.specs.Laws.{PairsAreOneToOne, SameIfNothingDiffers, TheSameArePaired}
use Rattle.p21_spec_pairing.specs.Pairing.{NothingDiffers}
use Rattle.p21_spec_schema.specs.Schema.{Schema}
use Rattle.p21_spec_schema.specs.WellFormed.{IsWellFormed}
use Rattle.p21_stream.proofs.Canonicals.{only-canonical}
use Rattle.p21_stream_output.specs.Output.{Output, output_text}
use Rattle.p21_paired_differences.proofs.KeptLines.{text-lines, text-same}
use Rattle.p21_paired_differences.proofs.RenamedLines.{named-new, new-named, renamed-lines}
use Rattle.p21_paired_differences.specs.ByPairs.{ArePairs, IsAcceptedFile, IsBehindPairs, IsListOrUndecided, ListsOfFiles, undecided_line}
use Rattle.p21_paired_differences.specs.Shown.{IsBehindRows}
use Rattle.p21_paired_differences.specs.declared.by_pairs.PairRows.{PairRows}
use Rattle.p21_paired_differences.specs.declared.by_pairs.PairRows.TheVariants.{Hidden, Shown}

-- the text of an accepted file is accepted
pub text-accepted : (s : Schema) → IsWellFormed s → (limits : Limits) → AreLimits limits → (output : Output)
    → IsAcceptedFile s limits output → IsAccepted s limits (output_text output)
text-accepted s formed limits are output is = (only-canonical s formed limits are is.0 (output_text output) is.1.is_canonical).is_accepted

-- a name that a map has
named-by_map : (names : BTreeMap ℕ ℕ) (m n : ℕ) → get nat_cmp names m ≡ Some n → by_map names m ≡ n
named-by_map names m n is = ap (λ (o : Option ℕ). elim o [ Some real ↦ real | None ↦ m ]) is

module _ (form : RowForm) (left : LeftOut) (shown : PairRows) (s : Schema) (formed : IsWellFormed s) (limits : Limits)
    (pairs : PairsAreOneToOne)
    (none : SameIfNothingDiffers) (told : TheSameArePaired)
    (first second file : Output) (old_names : BTreeMap ℕ ℕ)
    (paired : IsPairedFile s limits (output_text first) (output_text second) file old_names)
    (is_second : IsAcceptedFile s limits second) where
  abbrev a : FileMeaning
  a = paired.paired.first

  abbrev b : FileMeaning
  b = paired.paired.second

  abbrev new : ℕ → ℕ
  new = paired.new

  proper : IsProper a
  proper = proper-means s formed limits (output_text first) a paired.paired.means

  proper_ : IsProper b
  proper_ = proper-means s formed limits (output_text second) b paired.paired.other_means

  second-same : SameFileMeaning b is_second.1.is_canonical.0
  second-same = text-same s formed limits is_second.1.is_canonical.0 b (output_text second) is_second.1.is_canonical.2
      paired.paired.other_means.reads

  -- the text of the second is canonical
  second-canonical : IsCanonicalOf s limits b (output_text second)
  second-canonical =
      let own = is_second.1.is_canonical.0 in
      let canonical = is_second.1.is_canonical.2 in record {
        canonical = canonical.canonical;
        same = SameFileMeaning-transitive canonical.canonical.meaning own b canonical.same (SameFileMeaning-symmetric b own second-same);
        file_within = canonical.file_within;
        lines_within = canonical.lines_within;
      }

  -- so both texts are equal exactly if nothing differs
  equal : (output_text file ≡ output_text second) ↔ NothingDiffers new a b
  equal = paired.equal second-canonical

  -- the lines of both
  first-lines : AreLinesOf s (renamed new a) file.kept
  first-lines = renamed-lines s formed (output_text first) a paired.paired.means.reads new paired.paired.pairing.injective file.kept
      paired.lines

  second-lines : AreLinesOf s b second.kept
  second-lines = text-lines s formed limits is_second.0 second is_second.1 b paired.paired.other_means.reads

  -- the names that both files have are those of partners
  are-pairs : (text : List ℕ) → ArePairRows form (by_map old_names) (names (renamed new a)) (names b) text
      → ArePairs form new (by_map old_names) a b text
  are-pairs text rows = record {
    seconds = rows.common;
    all = λ m. (
      λ among.
          (let (in_first, in_second) = (rows.all m).0 among in
          let (n, has, is) = named-new new a m in_first in
          (n, (has, in_second, is))),
      λ (n, (has, in_second, is)). (rows.all m).1 (new-named new a n m has is, in_second),
    );
    rise = rows.rise;
    text_is = rows.text_is;
  }

  behind-pairs : (which : PairRows) (list text : List ℕ)
      → IsBehindRows which form (by_map old_names) (names (renamed new a)) (names b) list text
      → IsBehindPairs which form new (by_map old_names) a b list text
  behind-pairs Hidden list text is = is
  behind-pairs Shown list text (rows, are, is) = (rows, are-pairs rows are, is)

  listed : (same empty : Bool) (text : List ℕ) → IsTrue same ↔ (output_text file ≡ output_text second)
      → IsListOrUndecided form left shown s new (by_map old_names) a b same empty text
      → ListsOfFiles form left shown s limits first second same empty text
  listed same empty text if_equal list = record {
    a = a;
    first_means = paired.paired.means;
    b = b;
    second_means = paired.paired.other_means;
    lists = record {
      new = new;
      pairing = paired.paired.pairing;
      one_to_one = pairs new a b paired.paired.pairing.injective;
      real = by_map old_names;
      gives_back = λ n among. named-by_map old_names (new n) n (paired.gives_back n among);
      list = list;
      if_same = (λ is. equal.0 (if_equal.0 is), λ differs. if_equal.1 (equal.1 differs));
      same_but_for_names = λ is. (none new a b proper proper_ paired.paired.pairing.injective (equal.0 (if_equal.0 is))).1;
      told_apart = λ apart same_. if_equal.1 (equal.1 (told (ranking_of s) (ranks-are_invariant s) a b proper proper_ apart same_ new
          paired.paired.pairing));
    };
  }

  -- the list is made
  pub decided : (same told empty empty_ : Bool) (list text : List ℕ) → IsTrue same ↔ (output_text file ≡ output_text second)
      → ((m n : FileMeaning) → AreLinesOf s m file.kept → AreLinesOf s n second.kept
      → IsList form s (by_map old_names) left m n same empty list)
      → told ≡ same → empty_ ≡ empty
      → ((m n : FileMeaning) → AreLinesOf s m file.kept → AreLinesOf s n second.kept
      → IsBehindRows shown form (by_map old_names) (names m) (names n) list text)
      → ListsOfFiles form left shown s limits first second told empty_ text
  decided same told empty empty_ list text if_equal is_list is is_ behind =
      let P : Bool → Type 0 = λ e. ListsOfFiles form left shown s limits first second e empty_ text in
      let Q : Bool → Type 0 = λ e. ListsOfFiles form left shown s limits first second same e text in
      subst P (sym is) (subst Q (sym is_) (listed same empty text if_equal (inl (record {
        list = list;
        is_list = is_list (renamed new a) b first-lines second-lines;
        behind = behind-pairs shown list text (behind (renamed new a) b first-lines second-lines);
      }))))

  -- it isn't
  pub not-decided : (equal same empty : Bool) (text : List ℕ) → IsTrue equal ↔ (output_text file ≡ output_text second) → equal ≡ false
      → same ≡ false → empty ≡ false → text ≡ undecided_line form
      → ListsOfFiles form left shown s limits first second same empty text
  not-decided equal same empty text if_equal is_other is none line_is =
      let P : Bool → Type 0 = λ e. IsTrue e ↔ (output_text file ≡ output_text second) in
      listed same empty text (subst P (is_other ∙ sym is) if_equal) (inr (is, none, line_is))
