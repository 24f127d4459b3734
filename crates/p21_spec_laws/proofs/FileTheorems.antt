-- The laws of readings and of canonical files, and the claim, as the contracts have them.
use Rattle.std.proofs.Common.{◌≡◌, ℕ, List, [], ◌∷◌, sym, subst, inl, inr, refl, ◌⊎◌}
use Rattle.std.specs.List.{flat_map, AllByRecursion as Each}
use Rattle.p21_spec_basics.proofs.Members.{Each-append, Each-weaker}
use Rattle.p21_spec_laws.proofs.FileOnce.{file-once, files-same, canonical-same}
use Rattle.p21_spec_laws.proofs.OneAccepted.{Means-any_reading, Means-one}
use Rattle.p21_spec_laws.proofs.OneReading.{one_lexemes, one_schema_text_of, one_structure_of, Reads-one}
use Rattle.p21_spec_laws.proofs.OwnCanonical.{accepted-has_file, canonical-means, file-accepted, file-is_own, file-means_same, own-means}
use Rattle.p21_spec_laws.proofs.PrintingFiles.{has-canonical_file}
use Rattle.p21_spec_laws.proofs.SaidFiles.{said}
use Rattle.p21_spec_laws.specs.CanonicalLaws.{CanonicalBytesAreGraphic, CanonicalBytesAreTheirOwn, CanonicalBytesExist, CanonicalBytesTellMeaning, CanonicalFileExists, CanonicalFileIsAccepted, CanonicalFileIsItsOwn, CanonicalFileMeansTheSame, CanonicalFilesTellMeaning, OneCanonicalFile, CanonicalWithinLimitsIsAccepted}
use Rattle.p21_spec_laws.specs.Headline.{Headline}
use Rattle.p21_spec_laws.specs.ReadingLaws.{LimitHoldsForEachReading, OneListOfLexemes, OneMeaningOfBytes, OneMeaningWithinLimits, OneTreeOfBytes}
use Rattle.p21_spec_laws.proofs.CanonicalLaid.{laid-each_spelled}
use Rattle.p21_spec_laws.proofs.GraphicTexts.{lines-graphic}
use Rattle.p21_spec_laws.specs.Written.{IsWrittenStatement}
use Rattle.p21_spec_exchange.specs.CanonicalText.{line, statement_text}
use Rattle.p21_spec_exchange.specs.Statement.{Statement}
use Rattle.p21_spec_exchange.specs.Structure.{statements, tokens_of}
use Rattle.p21_spec_exchange.specs.Text.{IsGraphic}
use Rattle.p21_spec_file.proofs.SameFiles.{SameFileMeaning-reflexive, SameFileMeaning-symmetric}
use Rattle.p21_spec_file.specs.Accepted.{IsCanonicalFile, IsCanonicalOf}
use Rattle.p21_spec_file.specs.File.{FileMeaning}
use Rattle.p21_spec_file.specs.SameFile.{SameFileMeaning}
use Rattle.p21_spec_schema.proofs.DeclaredSchemas.{declared-well_formed}
use Rattle.p21_spec_schema.specs.WellFormed.{IsWellFormed}

-- ---- readings

pub one-lexemes : OneListOfLexemes
one-lexemes = one_lexemes

pub one-tree : OneTreeOfBytes
one-tree bytes structure other text other_text in_ also = (one_structure_of bytes structure other text other_text in_ also, one_schema_text_of bytes structure other text other_text in_ also)

pub one-meaning : OneMeaningOfBytes
one-meaning s formed = Reads-one s formed

pub one-meaning_within : OneMeaningWithinLimits
one-meaning_within s formed = Means-one s formed

pub each-reading : LimitHoldsForEachReading
each-reading = Means-any_reading

-- ---- canonical files

pub bytes-exist : CanonicalBytesExist
bytes-exist s formed bytes m reads = let has = has-canonical_file s formed bytes m reads in (has.bytes, has.canonical, has.same)

pub bytes-tell : CanonicalBytesTellMeaning
bytes-tell s formed a b c d = (
  λ same. file-once s formed a b c d same,
  λ equal. canonical-same s formed a b c d equal,
)

line-bytes : (sts : List Statement) → Each IsWrittenStatement sts → Each (λ byte. IsGraphic byte ⊎ (byte ≡ 10)) (flat_map line sts)
line-bytes [] written = tt
line-bytes (st ∷ sts) written =
    Each-append (λ byte. IsGraphic byte ⊎ (byte ≡ 10)) (line st) (flat_map line sts)
    (Each-append (λ byte. IsGraphic byte ⊎ (byte ≡ 10)) (statement_text st) (10 ∷ [])
    (Each-weaker IsGraphic (λ byte. IsGraphic byte ⊎ (byte ≡ 10)) (λ byte graphic. inl graphic) (statement_text st) (lines-graphic st written.0)) (inr refl, tt))
    (line-bytes sts written.1)

pub bytes-graphic : CanonicalBytesAreGraphic
bytes-graphic s a c =
    subst (Each (λ byte. IsGraphic byte ⊎ (byte ≡ 10))) (sym c.lines)
    (line-bytes (statements c.reads.structure) (said c.reads.structure (laid-each_spelled a (tokens_of c.reads.structure) c.reads.in_grammar.laid)))

pub files-tell : CanonicalFilesTellMeaning
files-tell s formed limits bytes others a b (m, means, is) (n, means_, is_) =
    let law = files-same s formed limits m n a b is is_ in (
      λ (x, y, of_x, of_y, same).
          let first : x ≡ m = Means-one s formed limits limits bytes x m of_x means in
          let second : y ≡ n = Means-one s formed limits limits others y n of_y means_ in
          law.0 (subst (λ (z : FileMeaning). SameFileMeaning z n) first (subst (SameFileMeaning x) second same)),
      λ equal. (m, n, means, means_, law.1 equal),
    )

pub file-exists : CanonicalFileExists
file-exists = accepted-has_file

pub one-file : OneCanonicalFile
one-file s formed limits bytes a b (m, means, is) (n, means_, is_) =
    let one : m ≡ n = Means-one s formed limits limits bytes m n means means_ in
    (files-same s formed limits m n a b is is_).0 (subst (SameFileMeaning m) one (SameFileMeaning-reflexive m))

pub is-accepted : CanonicalFileIsAccepted
is-accepted = file-accepted

pub means-the_same : CanonicalFileMeansTheSame
means-the_same s formed limits are bytes a (m, means, is) = (is.canonical.meaning, m, canonical-means s limits are m a is, means, is.same)

pub is-own : CanonicalFileIsItsOwn
is-own = file-is_own

pub bytes-own : CanonicalBytesAreTheirOwn
bytes-own s formed limits bytes c (m, means) =
    let is = means.is_canonical in
    let one : c.meaning ≡ m = Reads-one s formed bytes c.meaning m c.reads means.reads in
    let equal : means.canonical ≡ bytes = file-once s formed means.canonical bytes is.canonical c (subst (SameFileMeaning is.canonical.meaning) (sym one) is.same) in
    subst (λ (x : List ℕ). IsCanonicalFile s limits bytes x) equal (m, means, is)

pub short-accepted : CanonicalWithinLimitsIsAccepted
short-accepted s limits are bytes c short within = (c.meaning, own-means s limits are bytes c short within)

-- ---- the claim

pub headline : Headline
headline text s declares limits are =
    let formed : IsWellFormed s = declared-well_formed declares.tree s declares.declares in
    record {
      one_meaning = Means-one s formed limits limits;
      has_canonical_file = file-exists s limits;
      one_canonical_file = one-file s formed limits;
      same_exactly_if_equal = λ bytes others m n a b means means_ (x, of_x, is) (y, of_y, is_).
          let first : x ≡ m = Means-one s formed limits limits bytes x m of_x means in
          let second : y ≡ n = Means-one s formed limits limits others y n of_y means_ in
          files-same s formed limits m n a b (subst (λ (z : FileMeaning). IsCanonicalOf s limits z a) first is) (subst (λ (z : FileMeaning). IsCanonicalOf s limits z b) second is_);
      is_accepted = file-accepted s limits are;
      means_the_same = λ bytes a m n is means means_. SameFileMeaning-symmetric n m (file-means_same s formed limits are bytes a is n m means_ means);
      is_its_own = file-is_own s limits are;
    }
