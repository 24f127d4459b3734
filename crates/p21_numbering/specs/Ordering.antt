-- Instances in the order of their ranks and parts, and what is answered of this order.
use Rattle.std.specs.Prelude.{◌≡◌, ◌≢◌, ◌<◌, ◌+◌, ℕ, List, [], ◌∷◌, map, length, slice_index_or, Option, Some, None, Result, Ok, Err, Contains}
use Rattle.std.specs.BTreeMap.{BTreeMap, get}
use Rattle.std.specs.Global.{Vec}
use Rattle.std.specs.List.{flat_map, range_with_len}
use Rattle.std.specs.Ordering.{nat_cmp}
use Rattle.p21_spec_file.specs.File.{FileMeaning}
use Rattle.p21_spec_numbering.specs.Copies.{IsAligned, IsDecided}
use Rattle.p21_spec_numbering.specs.Ordered.{Ranking}
use Rattle.p21_spec_numbering.specs.Renamed.{names}
use Rattle.p21_numbering.specs.declared.orders.Unordered.{Unordered}
use Rattle.p21_numbering.specs.declared.orders.Unordered.TheVariants.{Alike, NoMemory}
use Rattle.p21_numbering.specs.Arrays.{Entry}
use Rattle.p21_numbering.specs.Joining.{number_at}
use Rattle.p21_numbering.specs.Nodes.{Node}
use Rattle.p21_numbering.specs.Ranked.{Ranked, name_of, ranked_at}

-- two names of one rank, and the file isn't decided
pub record AreAlike (ranking : Ranking) (m : FileMeaning) (j k : ℕ) : Type 0 where
  pub first : Contains (names m) j
  pub second : Contains (names m) k
  pub differ : j ≢ k
  pub one_rank : ranking m j ≡ ranking m k
  pub not_decided : ¬ IsDecided ranking m

-- an order that counts copies in one sequence, and the file is decided; or why there is none
abbrev pub Orders : Ranking → FileMeaning → Result (Vec ℕ) Unordered → Type 0
Orders ranking m (Ok order) = IsDecided ranking m × IsAligned ranking m order.items
Orders ranking m (Err (Alike j k)) = AreAlike ranking m j k
Orders ranking m (Err NoMemory) = Unit {0}

-- ---- pairs of positions

-- the names alone
abbrev pub named_node : Ranked → Node
named_node r = record { name = r.name; label = []; uses = [] }

abbrev pub pair_to : ℕ → Option ℕ → List (ℕ × ℕ)
pair_to at None = []
pair_to at (Some other) = (at, other) ∷ []

-- the pair of what is at a position and what has this name
abbrev pub pair_of : BTreeMap ℕ ℕ → ℕ → ℕ → List (ℕ × ℕ)
pair_of found at name = pair_to at (get nat_cmp found name)

abbrev pub pairs_from : BTreeMap ℕ ℕ → List Ranked → ℕ → List (ℕ × ℕ)
pairs_from found all k = flat_map (pair_of found k) (ranked_at all k).beside

-- ---- entries

-- the rank, the part and the position
abbrev pub entry_of : List Ranked → List ℕ → ℕ → Entry
entry_of all parts k = ((ranked_at all k).rank, number_at parts k, k)

abbrev pub entries_of : List Ranked → List ℕ → List Entry
entries_of all parts = map (entry_of all parts) (range_with_len 0 (length all))

abbrev pub entry_at : List Entry → ℕ → Entry
entry_at entries k = slice_index_or entries k (0, 0, 0)

-- of one rank they are in two parts, and say the same
abbrev pub NoClash : List Ranked → Entry → Entry → Type 0
NoClash all e f = e.0 ≡ f.0 → (e.1 ≢ f.1) × ((ranked_at all e.2).said ≡ (ranked_at all f.2).said)

-- two neighbours that clash, by their positions, if there are any
abbrev pub FindsClash : List Ranked → List Entry → Option (ℕ × ℕ) → Type 0
FindsClash all sorted None = (k : ℕ) → k + 1 < length sorted → NoClash all (entry_at sorted k) (entry_at sorted (k + 1))
FindsClash all sorted (Some found) =
    (k : ℕ) × (k + 1 < length sorted) × (found ≡ ((entry_at sorted k).2, (entry_at sorted (k + 1)).2))
    × ¬ NoClash all (entry_at sorted k) (entry_at sorted (k + 1))

-- the first that is loose, if there is one
abbrev pub FindsLoose : List Ranked → Option (ℕ × ℕ) → Type 0
FindsLoose all None = (k : ℕ) → k < length all → (ranked_at all k).loose ≡ None
FindsLoose all (Some found) = (k : ℕ) × (k < length all) × ((ranked_at all k).loose ≡ Some found)

-- another name of this rank, if there is one
abbrev pub FindsOther : List Ranked → ℕ → ℕ → ℕ → Type 0
FindsOther all name rank found =
    (k : ℕ) → k < length all → (ranked_at all k).rank ≡ rank → name_of all k ≢ name
    → (i : ℕ) × (i < length all) × (name_of all i ≡ found) × ((ranked_at all i).rank ≡ rank) × (found ≢ name)
