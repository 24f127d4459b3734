-- The laws of canonical files.
use Rattle.std.specs.Prelude.{◌≡◌, ◌↔◌, ◌⊎◌, ℕ, ◌≤◌, List, length}
use Rattle.std.specs.List.{AllByRecursion as Each}
use Rattle.p21_spec_basics.specs.Limits.{AreLimits, Limits}
use Rattle.p21_spec_schema.specs.WellFormed.{IsWellFormed}
use Rattle.p21_spec_exchange.specs.Structure.{statements}
use Rattle.p21_spec_exchange.specs.Text.{IsGraphic}
use Rattle.p21_spec_file.specs.Accepted.{IsAccepted, IsCanonicalFile, IsLineWithin, Means}
use Rattle.p21_spec_file.specs.Canonical.{Canonical}
use Rattle.p21_spec_file.specs.File.{FileMeaning, Reads}
use Rattle.p21_spec_file.specs.SameFile.{SameFileMeaning}
use Rattle.p21_spec_schema.specs.Schema.{Schema}

-- ---- whatever the limits

-- bytes that read have canonical bytes of the same meaning
abbrev pub CanonicalBytesExist : Type 0
CanonicalBytesExist = (s : Schema) → IsWellFormed s → (bytes : List ℕ) (m : FileMeaning) → Reads s bytes m → (a : List ℕ) × (c : Canonical s a) × SameFileMeaning c.meaning m

-- canonical bytes mean the same exactly if they are equal
abbrev pub CanonicalBytesTellMeaning : Type 0
CanonicalBytesTellMeaning = (s : Schema) → IsWellFormed s → (a b : List ℕ) (c : Canonical s a) (d : Canonical s b) → SameFileMeaning c.meaning d.meaning ↔ (a ≡ b)

-- they hold bytes 20 to 7E, and LF at the end of each line
abbrev pub CanonicalBytesAreGraphic : Type 0
CanonicalBytesAreGraphic = (s : Schema) (a : List ℕ) → Canonical s a → Each (λ byte. IsGraphic byte ⊎ (byte ≡ 10)) a

-- ---- within limits

-- both byte lists are accepted, and mean the same
abbrev pub MeanTheSame : Schema → Limits → List ℕ → List ℕ → Type 0
MeanTheSame s limits bytes others = (m n : FileMeaning) × Means s limits bytes m × Means s limits others n × SameFileMeaning m n

-- accepted bytes mean the same exactly if their canonical files are equal
abbrev pub CanonicalFilesTellMeaning : Type 0
CanonicalFilesTellMeaning = (s : Schema) → IsWellFormed s → (limits : Limits) (bytes others a b : List ℕ) → IsCanonicalFile s limits bytes a → IsCanonicalFile s limits others b → MeanTheSame s limits bytes others ↔ (a ≡ b)

-- accepted bytes have a canonical file
abbrev pub CanonicalFileExists : Type 0
CanonicalFileExists = (s : Schema) (limits : Limits) (bytes : List ℕ) → IsAccepted s limits bytes → (a : List ℕ) × IsCanonicalFile s limits bytes a

-- and one only
abbrev pub OneCanonicalFile : Type 0
OneCanonicalFile = (s : Schema) → IsWellFormed s → (limits : Limits) (bytes a b : List ℕ) → IsCanonicalFile s limits bytes a → IsCanonicalFile s limits bytes b → a ≡ b

-- it is accepted
abbrev pub CanonicalFileIsAccepted : Type 0
CanonicalFileIsAccepted = (s : Schema) (limits : Limits) → AreLimits limits → (bytes a : List ℕ) → IsCanonicalFile s limits bytes a → IsAccepted s limits a

-- it means what its source means
abbrev pub CanonicalFileMeansTheSame : Type 0
CanonicalFileMeansTheSame = (s : Schema) → IsWellFormed s → (limits : Limits) → AreLimits limits → (bytes a : List ℕ) → IsCanonicalFile s limits bytes a → MeanTheSame s limits a bytes

-- and it is its own canonical file
abbrev pub CanonicalFileIsItsOwn : Type 0
CanonicalFileIsItsOwn = (s : Schema) (limits : Limits) → AreLimits limits → (bytes a : List ℕ) → IsCanonicalFile s limits bytes a → IsCanonicalFile s limits a a

-- accepted bytes that are canonical are their own canonical file
abbrev pub CanonicalBytesAreTheirOwn : Type 0
CanonicalBytesAreTheirOwn = (s : Schema) → IsWellFormed s → (limits : Limits) (bytes : List ℕ) → Canonical s bytes → IsAccepted s limits bytes → IsCanonicalFile s limits bytes bytes

-- canonical bytes within the limits are accepted
abbrev pub CanonicalWithinLimitsIsAccepted : Type 0
CanonicalWithinLimitsIsAccepted = (s : Schema) (limits : Limits) → AreLimits limits → (bytes : List ℕ) (c : Canonical s bytes) → length bytes ≤ limits.file_canonical → Each (IsLineWithin limits) (statements c.reads.structure) → IsAccepted s limits bytes
