-- The lines of a file under new names tell what it means under these.
use Rattle.std.specs.Prelude.{◌≡◌, ◌<◌, ◌^◌, ℕ, List, Contains}
use Rattle.std.specs.List.{AllByRecursion as Each}
use Rattle.std.proofs.Common.{ap, sym, subst, ◌∙◌}
use Rattle.p21_differences.specs.Lines.{AreLinesOf, IsLineOf}
use Rattle.p21_numbered_file.specs.Pairing.{AreLinesOfRenamed}
use Rattle.p21_canon.specs.Statement.{IsCanonicalStatement}
use Rattle.p21_spec_basics.proofs.Members.{AllZip-second_member, Contains-mapped, Contains-unmapped}
use Rattle.p21_spec_exchange.specs.DataSection.{instances_in}
use Rattle.p21_spec_exchange.specs.Statement.{instance, statement_tokens}
use Rattle.p21_spec_exchange.specs.Token.{IsSpelled}
use Rattle.p21_spec_file.specs.File.{FileMeaning, InstanceMeans, Reads, entity_sets_of}
use Rattle.p21_spec_file.specs.Meaning.{Typed}
use Rattle.p21_spec_file.specs.Reference.{EntitySets}
use Rattle.p21_spec_laws.proofs.CanonicalLaid.{laid-each_spelled}
use Rattle.p21_spec_numbering.proofs.Existence.{reads-written}
use Rattle.p21_spec_numbering.proofs.Reading.{reads-whole}
use Rattle.p21_spec_numbering.proofs.Renaming.{names-renamed}
use Rattle.p21_spec_numbering.proofs.Targets.{one-typed}
use Rattle.p21_spec_numbering.specs.Renamed.{IsInjectiveOn, IsWhole, names, renamed, renamed_instance, renamed_typed}
use Rattle.p21_spec_schema.specs.Schema.{Schema}
use Rattle.p21_spec_schema.specs.WellFormed.{IsWellFormed}
use Rattle.p21_stream_store.specs.StoredInstance.{StoredInstance, instance_names}

-- a new name is that of an instance
pub named-new : (f : ℕ → ℕ) (m : FileMeaning) (k : ℕ) → Contains (names (renamed f m)) k → (n : ℕ) × Contains (names m) n × (f n ≡ k)
named-new f m k among = let P : List ℕ → Type 0 = λ ns. Contains ns k in Contains-unmapped f (names m) k (subst P (names-renamed f m) among)

pub new-named : (f : ℕ → ℕ) (m : FileMeaning) (n k : ℕ) → Contains (names m) n → f n ≡ k → Contains (names (renamed f m)) k
new-named f m n k among is =
    let P : List ℕ → Type 0 = λ ns. Contains ns (f n) in
    let Q : ℕ → Type 0 = λ x. Contains (names (renamed f m)) x in
    subst Q is (subst P (sym (names-renamed f m)) (Contains-mapped f (names m) n among))

module _ (s : Schema) (formed : IsWellFormed s) (bytes : List ℕ) (m : FileMeaning) (reads : Reads s bytes m) (f : ℕ → ℕ)
    (once : IsInjectiveOn (names m) f) (kept : List StoredInstance) (are : AreLinesOfRenamed s f m kept) where
  whole_file : IsWhole m
  whole_file = (reads-whole s formed bytes m reads).0

  -- a new name stands in a line, and so has 64 bits
  written : (n : ℕ) → Contains (names m) n → f n < 2 ^ 64
  written n among =
      let (i, at, same) = Contains-unmapped (λ (j : ℕ × Typed). j.0) m.instances n among in
      let (line, at_line, (named, stated)) = are.onto i at in
      let spelled : Each IsSpelled (statement_tokens (instance (f i.0) stated.canonical)) =
      laid-each_spelled line.text (statement_tokens (instance (f i.0) stated.canonical)) stated.laid in
      let P : ℕ → Type 0 = λ k. f k < 2 ^ 64 in
      subst P same spelled.0.1.in_range

  renamed_file : (out : List ℕ) × Reads s out (renamed f m)
  renamed_file = reads-written s formed bytes m reads f once written

  new_reads : Reads s renamed_file.0 (renamed f m)
  new_reads = renamed_file.1

  -- a canonical statement of what an instance means under its new name is a line of it
  line-of : (name : ℕ) (text : List ℕ) (meaning : Typed) → Contains (renamed f m).instances (name, meaning)
      → IsCanonicalStatement s name meaning text → IsLineOf s name text meaning
  line-of name text meaning at stated =
      let kinds : EntitySets = entity_sets_of (renamed f m).instances in
      let (i, at_i, holds) = AllZip-second_member (InstanceMeans s kinds) (instances_in new_reads.structure.sections)
      (renamed f m).instances (name, meaning) new_reads.means at in
      record {
        record_ = i.1;
        stated = record {
          kinds = kinds;
          meaning = meaning;
          means = holds.1;
          canonical = stated.canonical;
          canonical_meaning = stated.canonical_meaning;
          canonical_means = stated.means kinds i.1 holds.1;
          same = stated.same;
          is_canonical = stated.is_canonical;
          text_is = stated.text_is;
          laid = stated.laid;
        };
        same = stated.same;
      }

  pub renamed-lines : AreLinesOf s (renamed f m) kept
  renamed-lines = record { names_are = λ name. (there name, back name); lines_are = lines_are }
    where
      there : (name : ℕ) → Contains (names (renamed f m)) name → Contains (instance_names kept) name
      there name among =
          let (n, has, is) = named-new f m name among in
          let (i, at, same) = Contains-unmapped (λ (j : ℕ × Typed). j.0) m.instances n has in
          let (line, at_line, (named_, stated)) = are.onto i at in
          let P : ℕ → Type 0 = λ k. Contains (instance_names kept) k in
          subst P (named_ ∙ ap f same ∙ is) (Contains-mapped (λ (x : StoredInstance). x.name) kept line at_line)

      back : (name : ℕ) → Contains (instance_names kept) name → Contains (names (renamed f m)) name
      back name among =
          let (line, at_line, same) = Contains-unmapped (λ (x : StoredInstance). x.name) kept name among in
          let (i, at, (named_, stated)) = are.back line at_line in
          new-named f m i.0 name (Contains-mapped (λ (j : ℕ × Typed). j.0) m.instances i at) (sym named_ ∙ same)

      lines_are : (name : ℕ) (line : List ℕ) (meaning : Typed)
          → (membership : ℕ) × Contains kept (record { name = name; membership = membership; text = line })
          → Contains (renamed f m).instances (name, meaning) → IsLineOf s name line meaning
      lines_are name line meaning (membership, at_line) at =
          let (i, at_i, (named_, stated)) = are.back (record { name = name; membership = membership; text = line }) at_line in
          let (j, at_j, same) = Contains-unmapped (renamed_instance f) m.instances (name, meaning) at in
          let one : i.0 ≡ j.0 = once i.0 j.0 (Contains-mapped (λ (k : ℕ × Typed). k.0) m.instances i at_i)
          (Contains-mapped (λ (k : ℕ × Typed). k.0) m.instances j at_j)
          (sym named_ ∙ sym (ap (λ (k : ℕ × Typed). k.0) same)) in
          let N : ℕ → Type 0 = λ n. Contains m.instances (n, i.1) in
          let typed_ : i.1 ≡ j.1 = one-typed m whole_file j.0 i.1 j.1 (subst N one at_i) at_j in
          let M : Typed → Type 0 = λ x. IsCanonicalStatement s (f i.0) x line in
          let K : ℕ → Type 0 = λ n. IsCanonicalStatement s n meaning line in
          line-of name line meaning at (subst K (sym named_)
          (subst M (ap (renamed_typed f) typed_ ∙ ap (λ (k : ℕ × Typed). k.1) same) stated))
