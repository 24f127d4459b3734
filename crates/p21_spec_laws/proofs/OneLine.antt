-- Each instance and each header record of a file has its canonical line in the canonical file.
use Rattle.std.specs.Prelude.{◌≡◌, ℕ, List, [], ◌∷◌, Contains}
use Rattle.std.specs.List.{AllZip, AllByRecursion as Each}
use Rattle.std.proofs.Common.{ap, sym, subst, ◌∙◌}
use Rattle.p21_spec_schema.specs.WellFormed.{IsWellFormed}
use Rattle.p21_spec_basics.proofs.Members.{AllZip-member, AllZip-second_member, Each-member, Each-front, AllZip-both}
use Rattle.p21_spec_file.proofs.SameFiles.{SameTyped-transitive}
use Rattle.p21_spec_file.specs.Canonical.{Canonical}
use Rattle.p21_spec_file.specs.CanonicalRecord.{IsCanonicalRecord}
use Rattle.p21_spec_exchange.specs.DataSection.{instances_in}
use Rattle.p21_spec_file.specs.File.{FileMeaning, InstanceMeans, Reads, entity_sets_of}
use Rattle.p21_spec_file.specs.CanonicalTexts.{IsInstanceText}
use Rattle.p21_spec_exchange.specs.Record.{Part, Record, record_tokens}
use Rattle.p21_spec_file.specs.Reference.{EntitySets}
use Rattle.p21_spec_file.specs.SameFile.{SameFileMeaning, SamePart, SameTyped}
use Rattle.p21_spec_schema.specs.Schema.{Schema}
use Rattle.p21_spec_exchange.specs.Statement.{instance, statement_tokens}
use Rattle.p21_spec_exchange.specs.Structure.{Structure, tokens_of}
use Rattle.p21_spec_exchange.specs.Token as token
use Rattle.p21_spec_laws.proofs.CanonicalLaid.{laid-each_spelled}
use Rattle.p21_spec_laws.proofs.SaidFiles.{Instance, header-said, instances-said}
use Rattle.p21_spec_laws.proofs.FileOnce.{Meant}
use Rattle.p21_spec_laws.proofs.HeaderOnce.{header-once}
use Rattle.p21_spec_laws.proofs.RecordOnce.{record-once}
use Rattle.p21_spec_file.proofs.OneMeaning.{RecordMeans-one}
use Rattle.p21_spec_exchange.specs.Token.{IsSpelled}

abbrev pub IsCanonicalInstance : Schema → Instance → Meant → Type 0
IsCanonicalInstance s written meant = IsCanonicalRecord s written.1 meant.1

-- the record of the instance's canonical text is that of the canonical file
pub instance-in_canonical : (s : Schema) → IsWellFormed s → (bytes : List ℕ) (m : FileMeaning) (reads : Reads s bytes m) (out : List ℕ) (c : Canonical s out) → SameFileMeaning c.meaning m
    → (n : ℕ) (r : Record) (text : List ℕ) → Contains (instances_in reads.structure.sections) (n, r) → (is : IsInstanceText s n r text) → Contains (instances_in c.reads.structure.sections) (n, is.canonical)
instance-in_canonical s formed bytes m reads out c same n r text among is =
    let kinds : EntitySets = entity_sets_of m.instances in
    let others : EntitySets = entity_sets_of c.meaning.instances in
    let (x, at, holds) = AllZip-member (InstanceMeans s kinds) (instances_in reads.structure.sections) m.instances (n, r) reads.means among in
    let A : ℕ → Type 0 = λ k. Contains m.instances (k, x.1) in
    let (y, at_y, alike) = same.back n x.1 (subst A holds.0 at) in
    let (i, at_i, found) = AllZip-second_member (λ (written : Instance) (meant : Meant). InstanceMeans s others written meant × IsCanonicalInstance s written meant) (instances_in c.reads.structure.sections) c.meaning.instances (n, y)
    (AllZip-both (InstanceMeans s others) (IsCanonicalInstance s) (instances_in c.reads.structure.sections) c.meaning.instances c.reads.means c.canonical_records) at_y in
    let one : is.meaning ≡ x.1 = RecordMeans-one s formed is.kinds kinds r is.meaning x.1 is.means holds.1 in
    let typed : SameTyped is.canonical_meaning y = SameTyped-transitive is.canonical_meaning x.1 y (subst (SameTyped is.canonical_meaning) one is.same) alike in
    let spelled : Each IsSpelled (statement_tokens (instance n is.canonical)) = laid-each_spelled text (statement_tokens (instance n is.canonical)) is.laid in
    let spelled_ : Each IsSpelled (record_tokens i.1) =
    Each-member (λ (j : Instance). Each IsSpelled (record_tokens j.1)) (instances_in c.reads.structure.sections) i
    (instances-said c.reads.structure (laid-each_spelled out (tokens_of c.reads.structure) c.reads.in_grammar.laid)) at_i in
    let record_ : is.canonical ≡ i.1 = record-once s formed is.kinds others is.canonical i.1 is.canonical_meaning y is.canonical_means found.0.1 typed is.is_canonical found.1
    (Each-front IsSpelled (record_tokens is.canonical) (token.semicolon ∷ []) spelled.1.1) spelled_ in
    let P : Instance → Type 0 = λ j. Contains (instances_in c.reads.structure.sections) j in
    subst P (ap (λ (k : ℕ). (k, i.1)) (sym found.0.0) ∙ ap (λ (q : Record). (n, q)) (sym record_)) at_i

-- the header of the canonical file is that of the source
pub header-in_canonical : (s : Schema) (bytes : List ℕ) (m : FileMeaning) (reads : Reads s bytes m) (out : List ℕ) (c : Canonical s out) → SameFileMeaning c.meaning m → c.reads.structure.header ≡ reads.structure.header
header-in_canonical s bytes m reads out c same =
    let t : Structure = reads.structure in
    let u : Structure = c.reads.structure in
    let P : List Part → List Part → Type 0 = λ xs ys. AllZip SamePart xs ys in
    header-once u.header t.header (subst (λ xs. P xs t.header) c.reads.header_is (subst (P c.meaning.header) reads.header_is same.header))
    (header-said u (laid-each_spelled out (tokens_of u) c.reads.in_grammar.laid)) (header-said t (laid-each_spelled bytes (tokens_of t) reads.in_grammar.laid))
