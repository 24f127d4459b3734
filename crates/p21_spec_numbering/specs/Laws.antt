-- The laws of ranks and numbers.
use Rattle.std.specs.Prelude.{◌≡◌, ◌↔◌, ◌+◌, ℕ, true, List, Contains}
use Rattle.std.specs.List.{AllByRecursion as Each}
use Rattle.p21_spec_file.specs.File.{FileMeaning, Reads}
use Rattle.p21_spec_file.specs.Meaning.{Typed}
use Rattle.p21_spec_file.specs.SameFile.{SameFileMeaning, SameTyped}
use Rattle.p21_spec_schema.specs.Schema.{Schema}
use Rattle.p21_spec_schema.specs.WellFormed.{IsWellFormed}
use Rattle.p21_spec_numbering.specs.Copies.{Shares, many, RefersTo, HangTogether, RisesByPart, AreParts, IsAligned, IsExchange, NoChoiceCounts, AllSpread, IsDecided}
use Rattle.p21_spec_numbering.specs.Fresh.{is_told, told, final_rank}
use Rattle.p21_spec_numbering.specs.Graph.{Graph}
use Rattle.p21_spec_numbering.specs.Numbered.{graph_of}
use Rattle.p21_spec_numbering.specs.Ordered.{Ranking, IsOrder, ordered}
use Rattle.p21_spec_numbering.specs.Renamed.{renamed_typed, renamed, names, IsInjectiveOn, SameButForNames, IsWhole}
use Rattle.p21_spec_numbering.specs.Settled.{HasSettledValues}

-- names differ, references lead to instances, and values are settled
abbrev pub IsProper : FileMeaning → Type 0
IsProper m = IsWhole m × HasSettledValues m

-- what bytes mean is proper
abbrev pub MeaningsAreProper : Type 0
MeaningsAreProper = (s : Schema) → IsWellFormed s → (bytes : List ℕ) (m : FileMeaning) → Reads s bytes m → IsProper m

-- to be the same but for names is an equivalence of proper meanings
pub record IsEquivalence : Type 0 where
  pub reflexive : (a : FileMeaning) → SameButForNames a a
  pub symmetric : (a b : FileMeaning) → IsProper a → SameButForNames a b → SameButForNames b a
  pub transitive : (a b c : FileMeaning) → IsProper a → SameButForNames a b → SameButForNames b c → SameButForNames a c
  pub coarser : (a b : FileMeaning) → SameFileMeaning a b → SameButForNames a b

-- ---- whatever the ranks, as long as names and orders don't count for them

-- an instance has the rank of the one that it is in a file that is the same but for names
abbrev pub IsInvariant : Ranking → Type 0
IsInvariant ranking =
    (f : ℕ → ℕ) (a b : FileMeaning) → IsProper a → IsProper b → IsInjectiveOn (names a) f → SameFileMeaning (renamed f a) b → (n : ℕ)
    → Contains (names a) n → ranking b (f n) ≡ ranking a n

-- ---- ranks by rounds over fresh instances

abbrev pub ranking_of : Schema → Ranking
ranking_of s m = final_rank (graph_of s m)

abbrev pub RanksAreInvariant : Type 0
RanksAreInvariant = (s : Schema) → IsInvariant (ranking_of s)

-- once nothing is fresh, the ranks stay
abbrev pub RanksStandStill : Type 0
RanksStandStill = (g : Graph) (rounds : ℕ) → is_told g (told g rounds) ≡ true → (more : ℕ) → told g (more + rounds) ≡ told g rounds

-- ---- copies

-- orders of a file that count copies in one sequence give one meaning
abbrev pub AlignedOrdersAreSame : Type 0
AlignedOrdersAreSame =
    (ranking : Ranking) (m : FileMeaning) → IsProper m → NoChoiceCounts ranking m → (xs ys : List ℕ) → IsAligned ranking m xs
    → IsAligned ranking m ys → SameFileMeaning (ordered xs m) (ordered ys m)

-- where no choice counts, none does in what is the same but for names
abbrev pub SameHaveAsFewChoices : Type 0
SameHaveAsFewChoices =
    (ranking : Ranking) → IsInvariant ranking → (a b : FileMeaning) → IsProper a → IsProper b → SameButForNames a b
    → NoChoiceCounts ranking a → NoChoiceCounts ranking b

-- in whatever orders that count copies in one sequence, the two are the same but for names exactly if they mean the same with
-- the positions for names
abbrev pub AlignedOrdersTellSameness : Type 0
AlignedOrdersTellSameness =
    (ranking : Ranking) → IsInvariant ranking → (a b : FileMeaning) → IsProper a → IsProper b → NoChoiceCounts ranking a
    → NoChoiceCounts ranking b → (xs ys : List ℕ) → IsAligned ranking a xs → IsAligned ranking b ys
    → SameButForNames a b ↔ SameFileMeaning (ordered xs a) (ordered ys b)

-- an instance whose values spread says the same however those that share ranks are exchanged
abbrev pub SpreadIsKept : Type 0
SpreadIsKept =
    (ranking : Ranking) (m : FileMeaning) → IsProper m → (n : ℕ) (x : Typed) → Contains m.instances (n, x)
    → Each (AllSpread ranking m) x.values → (f : ℕ → ℕ) → IsExchange ranking m f → SameTyped (renamed_typed f x) x

-- what hangs together is the same copy; so where two instances of one rank do, the file is not decided
abbrev pub OneOfEachRankHangsTogether : Type 0
OneOfEachRankHangsTogether =
    (ranking : Ranking) (m : FileMeaning) → NoChoiceCounts ranking m → (j k : ℕ) → Contains (names m) j → Contains (names m) k
    → HangTogether ranking m j k → ranking m j ≡ ranking m k → j ≡ k

-- an order by rank, and in each rank by the numbers of the parts, counts copies in one sequence
abbrev pub PartsGiveOrders : Type 0
PartsGiveOrders =
    (ranking : Ranking) (m : FileMeaning) → IsProper m → (part : ℕ → ℕ) → AreParts ranking m part → (order : List ℕ)
    → IsOrder ranking m order → RisesByPart (ranking m) part order → IsAligned ranking m order

-- what code decides is decided, and what is the same but for names is so alike
abbrev pub NoChoiceOfDecidedCounts : Type 0
NoChoiceOfDecidedCounts = (ranking : Ranking) (m : FileMeaning) → IsProper m → IsDecided ranking m → NoChoiceCounts ranking m

abbrev pub SameAreDecidedAlike : Type 0
SameAreDecidedAlike =
    (ranking : Ranking) → IsInvariant ranking → (a b : FileMeaning) → IsProper a → IsProper b → SameButForNames a b
    → IsDecided ranking a → IsDecided ranking b

-- numbers of what hangs together, no two of one rank with one number, are those of parts if instances of one rank say the same by
-- ranks, and ranks that refer to one another have equally many
abbrev pub AlikeGivesParts : Type 0
AlikeGivesParts = (ranking : Ranking) (m : FileMeaning) → IsProper m
    → ((j k : ℕ) (x y : Typed) → Contains m.instances (j, x) → Contains m.instances (k, y) → ranking m j ≡ ranking m k
    → SameTyped (renamed_typed (ranking m) x) (renamed_typed (ranking m) y))
    → (part : ℕ → ℕ) → ((j k : ℕ) → Contains (names m) j → Contains (names m) k → ranking m j ≡ ranking m k → part j ≡ part k → j ≡ k)
    → ((n t : ℕ) → RefersTo m n t → Shares ranking m n → Shares ranking m t → part n ≡ part t)
    → ((n t : ℕ) → RefersTo m n t → Shares ranking m n → Shares ranking m t → many ranking m n ≡ many ranking m t)
    → AreParts ranking m part
