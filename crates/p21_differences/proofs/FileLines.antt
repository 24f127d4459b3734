-- The lines of the instances of a file tell what it means.
use Rattle.std.specs.Prelude.{◌≡◌, ℕ, List, map, Contains}
use Rattle.std.specs.List.Sorted.{IsPermutation}
use Rattle.std.proofs.Common.{ap, sym, subst, ◌∙◌}
use Rattle.std.proofs.lemmas.List.Sorted.{Contains-permutation, IsPermutation-sym}
use Rattle.p21_differences.specs.Laws.{AreKept, LinesAreOfMeaning}
use Rattle.p21_differences.specs.Lines.{AreLinesOf, IsLineOf}
use Rattle.p21_model.specs.Kept.{IsKeptLine}
use Rattle.p21_spec_basics.proofs.Members.{AllZip-member}
use Rattle.p21_spec_basics.proofs.Shuffles.{distinct-none_twice}
use Rattle.p21_spec_exchange.specs.DataSection.{instances_in}
use Rattle.p21_spec_exchange.specs.Record.{Record}
use Rattle.p21_spec_exchange.specs.Structure.{Structure}
use Rattle.p21_spec_file.proofs.OneMeaning.{RecordMeans-one}
use Rattle.p21_spec_file.specs.File.{FileMeaning, InstanceMeans, Reads, entity_sets_of}
use Rattle.p21_spec_file.specs.Meaning.{Typed}
use Rattle.p21_spec_file.specs.SameFile.{SameTyped}
use Rattle.p21_spec_laws.proofs.FileOnce.{meant-named, one-meant}
use Rattle.p21_spec_laws.proofs.FileTheorems.{one-tree}
use Rattle.p21_spec_numbering.proofs.Reading.{reads-whole}
use Rattle.p21_spec_numbering.specs.Renamed.{names}
use Rattle.p21_spec_schema.specs.Schema.{Schema}
use Rattle.p21_spec_schema.specs.WellFormed.{IsWellFormed}
use Rattle.p21_stream_store.specs.StoredInstance.{StoredInstance, instance_names}

module _ (s : Schema) (formed : IsWellFormed s) (bytes : List ℕ) (m : FileMeaning) (reads : Reads s bytes m) (kept : List StoredInstance)
    (are : AreKept s bytes kept) where
  tree : are.structure ≡ reads.structure
  tree = (one-tree bytes are.structure reads.structure are.schema_text reads.schema_text are.in_grammar reads.in_grammar).0

  same-names : names m ≡ map (λ (i : ℕ × Record). i.0) (instances_in reads.structure.sections)
  same-names = meant-named s (entity_sets_of m.instances) (instances_in reads.structure.sections) m.instances reads.means

  names-shuffled : IsPermutation (names m) (instance_names kept)
  names-shuffled =
      let P : List ℕ → Type 0 = λ ns. IsPermutation ns (instance_names kept) in
      subst P (ap (λ (t : Structure). map (λ (i : ℕ × Record). i.0) (instances_in t.sections)) tree ∙ sym same-names) are.names_are

  line-of : (name : ℕ) (line : List ℕ) (meaning : Typed) → IsKeptLine kept name line → Contains m.instances (name, meaning)
      → IsLineOf s name line meaning
  line-of name line meaning (membership, among) at =
      let (record_, in_tree, stated) = are.texts_are (record { name = name; membership = membership; text = line }) among in
      let In : Structure → Type 0 = λ t. Contains (instances_in t.sections) (name, record_) in
      let (other, at_, means) = AllZip-member (InstanceMeans s (entity_sets_of m.instances)) (instances_in reads.structure.sections)
      m.instances (name, record_) reads.means (subst In tree in_tree) in
      let At : ℕ → Type 0 = λ n. Contains m.instances (n, other.1) in
      let once = distinct-none_twice (names m) (reads-whole s formed bytes m reads).0.names_differ in
      let is : other.1 ≡ meaning = one-meant m.instances once name other.1 meaning (subst At means.0 at_) at in
      let own : stated.meaning ≡ other.1 = RecordMeans-one s formed stated.kinds (entity_sets_of m.instances) record_ stated.meaning other.1
      stated.means means.1 in
      record { record_ = record_; stated = stated; same = subst (SameTyped stated.canonical_meaning) (own ∙ is) stated.same }

  lines-of : AreLinesOf s m kept
  lines-of = record {
    names_are = λ name. (
      Contains-permutation (names m) (instance_names kept) name names-shuffled,
      Contains-permutation (instance_names kept) (names m) name (IsPermutation-sym (names m) (instance_names kept) names-shuffled),
    );
    lines_are = line-of;
  }

pub lines-are_of_meaning : LinesAreOfMeaning
lines-are_of_meaning s formed bytes m reads kept are = lines-of s formed bytes m reads kept are
