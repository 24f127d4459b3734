-- What is answered of two files: partners, and the names that the first one's instances get by them.
use Rattle.std.specs.BTreeMap.{BTreeMap}
use Rattle.std.specs.Prelude.{◌≡◌, ◌<◌, ℕ, List, Option, Some, None, length, Contains}
use Rattle.p21_spec_basics.proofs.Shuffles.{NoneTwice}
use Rattle.p21_spec_file.specs.File.{FileMeaning, Reads}
use Rattle.p21_spec_numbering.specs.Laws.{ranking_of}
use Rattle.p21_spec_pairing.specs.Pairing.{IsPairing}
use Rattle.p21_spec_schema.specs.Schema.{Schema}
use Rattle.p21_numbering.specs.Instances.{AreInstancesOf, Instance, instance_at, names_of}
use Rattle.p21_numbering.specs.NewNames.{new_name}
use Rattle.p21_pairing.specs.Pairs.{partner_at}

-- each instance of the first file that has a partner gets its name; those without one get names of their own, which no instance of
-- the second file has
pub record AreNamesBy (partners : List (Option ℕ)) (first second : List Instance) (f : ℕ → ℕ) : Type 0 where
  pub with_partner : (i j : ℕ) → i < length first → partner_at partners i ≡ Some j
      → f (instance_at first i).name ≡ (instance_at second j).name
  pub without : (i : ℕ) → i < length first → partner_at partners i ≡ None
      → ¬ Contains (names_of second) (f (instance_at first i).name)
  pub apart : (i k : ℕ) → i < length first → k < length first → partner_at partners i ≡ None → partner_at partners k ≡ None
      → f (instance_at first i).name ≡ f (instance_at first k).name → i ≡ k

-- where no two instances of the first file have one name, the map has such names
abbrev pub NamesByPartners : List (Option ℕ) → List Instance → List Instance → BTreeMap ℕ ℕ → Type 0
NamesByPartners partners first second found = NoneTwice (names_of first) → AreNamesBy partners first second (new_name found)

-- whatever two files have these instances, such names are a pairing of the two
abbrev pub LeadToPairing : Schema → List Instance → List Instance → List (Option ℕ) → Type 0
LeadToPairing s first second partners =
    (bytes others : List ℕ) (a b : FileMeaning) → Reads s bytes a → Reads s others b → AreInstancesOf a first
    → AreInstancesOf b second → (f : ℕ → ℕ) → AreNamesBy partners first second f → IsPairing (ranking_of s) a b f
