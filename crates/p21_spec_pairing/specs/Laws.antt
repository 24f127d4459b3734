-- The laws of pairings.
use Rattle.std.specs.Prelude.{◌≡◌, ◌⊎◌, ℕ, Contains}
use Rattle.p21_spec_file.specs.File.{FileMeaning}
use Rattle.p21_spec_file.specs.SameFile.{SameFileMeaning}
use Rattle.p21_spec_numbering.specs.Laws.{IsInvariant, IsProper}
use Rattle.p21_spec_numbering.specs.Ordered.{Ranking}
use Rattle.p21_spec_numbering.specs.Renamed.{names, renamed, IsInjectiveOn, SameButForNames}
use Rattle.p21_spec_pairing.specs.Pairing.{ArePartners, AreToldApart, Came, IsPairing, NothingDiffers, Went}

-- each instance has one partner, or went, or came
pub record IsOneToOne (f : ℕ → ℕ) (a b : FileMeaning) : Type 0 where
  pub of_first : (n : ℕ) → Contains (names a) n → ((m : ℕ) × ArePartners f a b n m) ⊎ Went f a b n
  pub of_second : (m : ℕ) → Contains (names b) m → ((n : ℕ) × ArePartners f a b n m) ⊎ Came f a b m
  pub one_partner : (n m k : ℕ) → ArePartners f a b n m → ArePartners f a b n k → m ≡ k
  pub one_owner : (n m k : ℕ) → ArePartners f a b n m → ArePartners f a b k m → n ≡ k
  pub not_went : (n m : ℕ) → ArePartners f a b n m → ¬ Went f a b n
  pub not_came : (n m : ℕ) → ArePartners f a b n m → ¬ Came f a b m

abbrev pub PairsAreOneToOne : Type 0
PairsAreOneToOne = (f : ℕ → ℕ) (a b : FileMeaning) → IsInjectiveOn (names a) f → IsOneToOne f a b

-- where nothing differs by a pairing, the files mean the same but for names: the pairs are the new names
abbrev pub SameIfNothingDiffers : Type 0
SameIfNothingDiffers =
    (f : ℕ → ℕ) (a b : FileMeaning) → IsProper a → IsProper b → IsInjectiveOn (names a) f → NothingDiffers f a b
    → SameFileMeaning (renamed f a) b × SameButForNames a b

-- and where they do by new names, nothing differs by these
abbrev pub NothingDiffersInTheSame : Type 0
NothingDiffersInTheSame =
    (f : ℕ → ℕ) (a b : FileMeaning) → IsProper a → IsProper b → IsInjectiveOn (names a) f → SameFileMeaning (renamed f a) b
    → NothingDiffers f a b

-- where ranks tell the instances apart, nothing differs by a pairing of two files that mean the same but for names
abbrev pub TheSameArePaired : Type 0
TheSameArePaired =
    (ranking : Ranking) → IsInvariant ranking → (a b : FileMeaning) → IsProper a → IsProper b → AreToldApart ranking a b
    → SameButForNames a b → (f : ℕ → ℕ) → IsPairing ranking a b f → NothingDiffers f a b
