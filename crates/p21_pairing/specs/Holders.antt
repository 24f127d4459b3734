-- Which instances without a partner have a key.
use Rattle.std.specs.Prelude.{◌≡◌, ◌≢◌, ◌<◌, ◌+◌, ℕ, List, Option, length, slice_index_or}
use Rattle.p21_numbering.specs.Arrays.{rank_at}
use Rattle.p21_pairing.specs.declared.alone.Holder.{Holder}
use Rattle.p21_pairing.specs.declared.alone.Holder.TheVariants.{Nobody, One, Several}
use Rattle.p21_pairing.specs.Pairs.{IsFree}

-- one of the first instances of a file, without a partner, has this key; the keys of the file begin at a position
pub record HasKey (keys : List ℕ) (start : ℕ) (partners : List (Option ℕ)) (count key n : ℕ) : Type 0 where
  pub below : n < count
  pub free : IsFree partners n
  pub key_is : rank_at keys (start + n) ≡ key

-- of the first instances none, one alone, or several have this key
abbrev pub Holds : List ℕ → ℕ → List (Option ℕ) → ℕ → ℕ → Holder → Type 0
Holds keys start partners count key Nobody = (n : ℕ) → HasKey keys start partners count key n → ⊥
Holds keys start partners count key (One n) =
    HasKey keys start partners count key n × ((k : ℕ) → HasKey keys start partners count key k → k ≡ n)
Holds keys start partners count key Several =
    (m : ℕ) × (n : ℕ) × (m ≢ n) × HasKey keys start partners count key m × HasKey keys start partners count key n

abbrev pub holder_at : List Holder → ℕ → Holder
holder_at holders key = slice_index_or holders key Nobody

abbrev pub AreHolders : List ℕ → ℕ → List (Option ℕ) → ℕ → List Holder → Type 0
AreHolders keys start partners count holders =
    (key : ℕ) → key < length keys → Holds keys start partners count key (holder_at holders key)

abbrev pub more_held : Holder → ℕ → Holder
more_held Nobody n = One n
more_held other n = Several

-- the two that hold one key alone
abbrev pub Hold : Holder → Holder → ℕ → ℕ → Type 0
Hold first second i j = (first ≡ One i) × (second ≡ One j)
