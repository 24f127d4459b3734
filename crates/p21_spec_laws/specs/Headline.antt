-- What is claimed, as far as the definitions alone carry it: of bytes that are accepted, whatever the code that reads them.
use Rattle.std.specs.Prelude.{◌≡◌, ◌↔◌, ℕ, List}
use Rattle.p21_spec_basics.specs.Limits.{AreLimits, Limits}
use Rattle.p21_spec_file.specs.Accepted.{IsAccepted, IsCanonicalFile, Means}
use Rattle.p21_spec_file.specs.File.{FileMeaning}
use Rattle.p21_spec_file.specs.SameFile.{SameFileMeaning}
use Rattle.p21_spec_schema.specs.Declared.{Declares}
use Rattle.p21_spec_schema.specs.Schema.{Schema}

-- the claim, of one schema and within one choice of limits
pub record Claim (s : Schema) (limits : Limits) : Type 0 where
  -- bytes mean one thing at most
  pub one_meaning : (bytes : List ℕ) (m n : FileMeaning) → Means s limits bytes m → Means s limits bytes n → m ≡ n
  -- accepted bytes have a canonical file
  pub has_canonical_file : (bytes : List ℕ) → IsAccepted s limits bytes → (a : List ℕ) × IsCanonicalFile s limits bytes a
  -- and one only
  pub one_canonical_file : (bytes a b : List ℕ) → IsCanonicalFile s limits bytes a → IsCanonicalFile s limits bytes b → a ≡ b
  -- two files mean the same exactly if their canonical files are equal byte for byte
  pub same_exactly_if_equal : (bytes others : List ℕ) (m n : FileMeaning) (a b : List ℕ) → Means s limits bytes m → Means s limits others n → IsCanonicalFile s limits bytes a → IsCanonicalFile s limits others b → SameFileMeaning m n ↔ (a ≡ b)
  -- a canonical file is itself accepted
  pub is_accepted : (bytes a : List ℕ) → IsCanonicalFile s limits bytes a → IsAccepted s limits a
  -- means what its source meant
  pub means_the_same : (bytes a : List ℕ) (m n : FileMeaning) → IsCanonicalFile s limits bytes a → Means s limits bytes m → Means s limits a n → SameFileMeaning m n
  -- and is its own canonical file
  pub is_its_own : (bytes a : List ℕ) → IsCanonicalFile s limits bytes a → IsCanonicalFile s limits a a

-- it holds for each schema that a text declares, and all limits whose canonical ones are no wider than those of the source
abbrev pub Headline : Type 0
Headline = (text : List ℕ) (s : Schema) → Declares text s → (limits : Limits) → AreLimits limits → Claim s limits
