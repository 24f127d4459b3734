-- A canonical file within limits is accepted, and is its own canonical file.
use Rattle.std.proofs.Common.{◌≡◌, ℕ, ◌≤◌, List, [], ◌∷◌, length, sym, subst, arith}
use Rattle.std.specs.List.{flat_map, AllByRecursion as Each}
use Rattle.p21_spec_schema.specs.WellFormed.{IsWellFormed}
use Rattle.p21_spec_file.proofs.SameFiles.{SameFileMeaning-reflexive}
use Rattle.p21_spec_file.specs.Accepted.{IsAccepted, IsCanonicalFile, IsCanonicalOf, IsLineWithin, Means}
use Rattle.p21_spec_file.specs.Canonical.{Canonical}
use Rattle.p21_spec_exchange.specs.CanonicalText.{statement_text}
use Rattle.p21_spec_file.specs.File.{FileMeaning}
use Rattle.p21_spec_exchange.specs.Laying.{Lexeme, LaidAs, AreStatementsWithin}
use Rattle.p21_spec_basics.specs.Limits.{AreLimits, Limits}
use Rattle.p21_spec_file.specs.SameFile.{SameFileMeaning}
use Rattle.p21_spec_schema.specs.Schema.{Schema}
use Rattle.p21_spec_exchange.specs.Statement.{Statement}
use Rattle.p21_spec_exchange.specs.Structure.{statements, tokens_of}
use Rattle.p21_spec_exchange.specs.Token.{Token, IsSpelled}
use Rattle.p21_spec_laws.proofs.CanonicalLaid.{laid-spelled, statement_lexemes, lines_laid, statements_within}
use Rattle.p21_spec_laws.proofs.OneAccepted.{Means-one}
use Rattle.p21_spec_laws.proofs.OneReading.{one_lexemes}

-- the lexemes of canonical bytes are those of their lines, whatever laying is taken
pub lexemes-are : (s : Schema) (bytes : List ℕ) (c : Canonical s bytes) → c.reads.in_grammar.laid.lexemes ≡ flat_map statement_lexemes (statements c.reads.structure)
lexemes-are s bytes c =
    let laid = c.reads.in_grammar.laid in
    let sts : List Statement = statements c.reads.structure in
    let spelled : Each IsSpelled (tokens_of c.reads.structure) = subst (λ (x : List Token). Each IsSpelled x) laid.tokens_are (laid-spelled bytes laid.lexemes laid.laid) in
    one_lexemes bytes laid.lexemes (flat_map statement_lexemes sts) laid.laid (subst (λ (x : List ℕ). LaidAs x (flat_map statement_lexemes sts)) (sym c.lines) (lines_laid sts spelled))

-- lines within a limit are statements within each limit that is no narrower
wider : (limits : Limits) (most : ℕ) → limits.record_canonical ≤ most → (sts : List Statement) → Each (IsLineWithin limits) sts → Each (λ (st : Statement). length (statement_text st) ≤ most) sts
wider limits most below [] within = tt
wider limits most below (st ∷ sts) within = (let h = within.0 in omega (arith, h, below), wider limits most below sts within.1)

pub canonical-within : (s : Schema) (limits : Limits) → AreLimits limits → (bytes : List ℕ) (c : Canonical s bytes) → Each (IsLineWithin limits) (statements c.reads.structure) → AreStatementsWithin limits.record_source 0 c.reads.in_grammar.laid.lexemes
canonical-within s limits are bytes c within =
    subst (λ (x : List Lexeme). AreStatementsWithin limits.record_source 0 x) (sym (lexemes-are s bytes c))
    (statements_within limits.record_source (statements c.reads.structure) (wider limits limits.record_source are.0 (statements c.reads.structure) within))

-- canonical bytes within the limits are a canonical file of what they mean
pub own-canonical : (s : Schema) (limits : Limits) (bytes : List ℕ) (c : Canonical s bytes) → length bytes ≤ limits.file_canonical → Each (IsLineWithin limits) (statements c.reads.structure) → IsCanonicalOf s limits c.meaning bytes
own-canonical s limits bytes c short within = record {
  canonical = c;
  same = SameFileMeaning-reflexive c.meaning;
  file_within = short;
  lines_within = within;
}

-- so they mean it within the limits, and are accepted
pub own-means : (s : Schema) (limits : Limits) → AreLimits limits → (bytes : List ℕ) (c : Canonical s bytes) → length bytes ≤ limits.file_canonical → Each (IsLineWithin limits) (statements c.reads.structure) → Means s limits bytes c.meaning
own-means s limits are bytes c short within = record {
  reads = c.reads;
  file_within = let wide = are.1 in omega (arith, short, wide);
  statements_within = canonical-within s limits are bytes c within;
  canonical = bytes;
  is_canonical = own-canonical s limits bytes c short within;
}

-- a canonical file of some meaning means the same as it, within the limits, and is its own canonical file
pub canonical-means : (s : Schema) (limits : Limits) → AreLimits limits → (m : FileMeaning) (bytes : List ℕ) (is : IsCanonicalOf s limits m bytes) → Means s limits bytes is.canonical.meaning
canonical-means s limits are m bytes is = own-means s limits are bytes is.canonical is.file_within is.lines_within

pub canonical-is_own : (s : Schema) (limits : Limits) → AreLimits limits → (m : FileMeaning) (bytes : List ℕ) → IsCanonicalOf s limits m bytes → IsCanonicalFile s limits bytes bytes
canonical-is_own s limits are m bytes is = (is.canonical.meaning, canonical-means s limits are m bytes is, own-canonical s limits bytes is.canonical is.file_within is.lines_within)

pub file-is_own : (s : Schema) (limits : Limits) → AreLimits limits → (bytes canonical : List ℕ) → IsCanonicalFile s limits bytes canonical → IsCanonicalFile s limits canonical canonical
file-is_own s limits are bytes canonical (m, means, is) = canonical-is_own s limits are m canonical is

pub file-accepted : (s : Schema) (limits : Limits) → AreLimits limits → (bytes canonical : List ℕ) → IsCanonicalFile s limits bytes canonical → IsAccepted s limits canonical
file-accepted s limits are bytes canonical (m, means, is) = (is.canonical.meaning, canonical-means s limits are m canonical is)

-- and means what its source means, whatever either is said to mean
pub file-means_same : (s : Schema) → IsWellFormed s → (limits : Limits) → AreLimits limits → (bytes canonical : List ℕ) → IsCanonicalFile s limits bytes canonical
    → (m n : FileMeaning) → Means s limits canonical m → Means s limits bytes n → SameFileMeaning m n
file-means_same s formed limits are bytes canonical (x, means, is) m n of_m of_n =
    let first : is.canonical.meaning ≡ m = Means-one s formed limits limits canonical is.canonical.meaning m (canonical-means s limits are x canonical is) of_m in
    let second : x ≡ n = Means-one s formed limits limits bytes x n means of_n in
    subst (λ (z : FileMeaning). SameFileMeaning z n) first (subst (SameFileMeaning is.canonical.meaning) second is.same)

-- accepted bytes have such a file
pub accepted-has_file : (s : Schema) (limits : Limits) (bytes : List ℕ) → IsAccepted s limits bytes → (canonical : List ℕ) × IsCanonicalFile s limits bytes canonical
accepted-has_file s limits bytes (m, means) = (means.canonical, (m, means, means.is_canonical))
