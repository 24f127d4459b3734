-- Pairs of instances of two files, and what differs by them. A pairing gives each instance of the first file a name: that of its partner
-- in the second file, or else one that no instance there has.
use Rattle.std.specs.Prelude.{◌≡◌, ◌≢◌, ℕ, Contains}
use Rattle.std.specs.List.{AllZip}
use Rattle.p21_spec_exchange.specs.DataSection.{Heading}
use Rattle.p21_spec_file.specs.File.{FileMeaning}
use Rattle.p21_spec_file.specs.Meaning.{Typed}
use Rattle.p21_spec_file.specs.SameFile.{HaveSameMembers, SamePart, SameTyped}
use Rattle.p21_spec_numbering.specs.Ordered.{Ranking}
use Rattle.p21_spec_numbering.specs.Renamed.{renamed_typed, names, IsInjectiveOn}
use Rattle.p21_spec_pairing.specs.Joined.{joined, of_first, of_second}

-- the instance of the first file and the one of the second are partners
abbrev pub ArePartners : (ℕ → ℕ) → FileMeaning → FileMeaning → ℕ → ℕ → Type 0
ArePartners f a b n m = Contains (names a) n × Contains (names b) m × (f n ≡ m)

-- an instance of the first file, and one of the second, without a partner
abbrev pub Went : (ℕ → ℕ) → FileMeaning → FileMeaning → ℕ → Type 0
Went f a b n = Contains (names a) n × ¬ Contains (names b) (f n)

abbrev pub Came : (ℕ → ℕ) → FileMeaning → FileMeaning → ℕ → Type 0
Came f a b m = Contains (names b) m × ((n : ℕ) → Contains (names a) n → f n ≢ m)

-- ---- what differs

-- the two have one set of entities, the same values, where partners stand for one another in references, and one section
pub record SayTheSame (f : ℕ → ℕ) (a b : FileMeaning) (n m : ℕ) : Type 0 where
  pub same : (x y : Typed) → Contains a.instances (n, x) → Contains b.instances (m, y) → SameTyped (renamed_typed f x) y
  pub section : (g h : Heading) → Contains a.instance_sections (n, g) → Contains b.instance_sections (m, h) → g ≡ h

-- no instance went or came, partners say the same, and so do the header sections and the beginnings of the data sections
pub record NothingDiffers (f : ℕ → ℕ) (a b : FileMeaning) : Type 0 where
  pub header : AllZip SamePart a.header b.header
  pub schema : a.schema ≡ b.schema
  pub sections : HaveSameMembers a.sections b.sections
  pub none_went : (n : ℕ) → ¬ Went f a b n
  pub none_came : (m : ℕ) → ¬ Came f a b m
  pub partners : (n m : ℕ) → ArePartners f a b n m → SayTheSame f a b n m

-- ---- what is paired

abbrev pub HaveOneSet : FileMeaning → FileMeaning → ℕ → ℕ → Type 0
HaveOneSet a b n m = (x y : Typed) → Contains a.instances (n, x) → Contains b.instances (m, y) → x.entities ≡ y.entities

-- the two have one rank among the instances of both files, which no other one has
pub record AreAlone (ranking : Ranking) (a b : FileMeaning) (n m : ℕ) : Type 0 where
  pub first : Contains (names a) n
  pub second : Contains (names b) m
  pub one_rank : ranking (joined a b) (of_first n) ≡ ranking (joined a b) (of_second m)
  pub alone_in_first : (k : ℕ) → Contains (names a) k
      → ranking (joined a b) (of_first k) ≡ ranking (joined a b) (of_first n) → k ≡ n
  pub alone_in_second : (k : ℕ) → Contains (names b) k
      → ranking (joined a b) (of_second k) ≡ ranking (joined a b) (of_second m) → k ≡ m

-- no instance of the second file is the partner of two; partners have one set of entities; of what went and what came no two have; and
-- the two that are alone in a rank are partners, if they have
pub record IsPairing (ranking : Ranking) (a b : FileMeaning) (f : ℕ → ℕ) : Type 0 where
  pub injective : IsInjectiveOn (names a) f
  pub one_set : (n m : ℕ) → ArePartners f a b n m → HaveOneSet a b n m
  pub none_left : (n m : ℕ) → Went f a b n → Came f a b m → ¬ HaveOneSet a b n m
  pub alone : (n m : ℕ) → AreAlone ranking a b n m → HaveOneSet a b n m → f n ≡ m

-- the ranks of both files together tell the instances of the first one from another
abbrev pub AreToldApart : Ranking → FileMeaning → FileMeaning → Type 0
AreToldApart ranking a b = IsInjectiveOn (names a) (λ n. ranking (joined a b) (of_first n))
