-- Instances that share ranks: which orders count copies in one sequence, and when no choice of copies counts.
use Rattle.std.specs.Prelude.{◌≡◌, ◌≢◌, ◌⊎◌, ◌<◌, ◌+◌, ℕ, cond, List, [], ◌∷◌, Contains, nat_eq, if◌then◌else◌}
use Rattle.std.specs.List.{flat_map, AllByRecursion as Each}
use Rattle.p21_spec_exchange.specs.DataSection.{Heading}
use Rattle.p21_spec_file.specs.File.{FileMeaning}
use Rattle.p21_spec_file.specs.Meaning.{Typed}
use Rattle.p21_spec_file.specs.SameFile.{SameTyped}
use Rattle.p21_spec_file.specs.SameValue.{Among}
use Rattle.p21_spec_file.specs.Value.{Value, reference, list, array, set, bag, typed, Values, no_values, value}
use Rattle.p21_spec_numbering.specs.Graph.{how_many}
use Rattle.p21_spec_numbering.specs.Ordered.{Ranking, IsOrder}
use Rattle.p21_spec_numbering.specs.Renamed.{renamed_typed, names, IsInjectiveOn, targets_in}

-- another instance has the rank of this one
abbrev pub Shares : Ranking → FileMeaning → ℕ → Type 0
Shares ranking m n = (k : ℕ) × Contains (names m) k × (k ≢ n) × (ranking m k ≡ ranking m n)

-- how many instances have the rank of this one
abbrev pub many : Ranking → FileMeaning → ℕ → ℕ
many ranking m n = how_many (λ k. nat_eq (ranking m k) (ranking m n)) (names m)

-- the instance of this name refers to that one
abbrev pub RefersTo : FileMeaning → ℕ → ℕ → Type 0
RefersTo m n t = (x : Typed) × Contains m.instances (n, x) × Contains (flat_map targets_in x.values) t

-- how many of its rank stand before it: the number of the copy, counted from 0
abbrev pub copy : (ℕ → ℕ) → List ℕ → ℕ → ℕ
copy rank_of [] n = 0
copy rank_of (m ∷ ns) n = if nat_eq m n then 0 else (cond (nat_eq (rank_of m) (rank_of n)) 1 0 + copy rank_of ns n)

-- an order by rank that counts copies in one sequence: of two that share ranks with others, where one refers to the other, both
-- are the same copy
pub record IsAligned (ranking : Ranking) (m : FileMeaning) (order : List ℕ) : Type 0 where
  pub is_order : IsOrder ranking m order
  pub aligned : (n t : ℕ) → RefersTo m n t → Shares ranking m n → Shares ranking m t → copy (ranking m) order n ≡ copy (ranking m) order t

-- the two hang together by references among instances that share ranks
pub data HangTogether (ranking : Ranking) (m : FileMeaning) : ℕ → ℕ → Type 0 where
  at_once : (n : ℕ) → HangTogether ranking m n n
  by_use : (n t k : ℕ) → RefersTo m n t → Shares ranking m n → Shares ranking m t → HangTogether ranking m t k → HangTogether ranking m n k
  by_user : (t n k : ℕ) → RefersTo m n t → Shares ranking m n → Shares ranking m t → HangTogether ranking m n k → HangTogether ranking m t k

-- of instances of one rank the numbers of the parts rise
abbrev pub RisesByPart : (ℕ → ℕ) → (ℕ → ℕ) → List ℕ → Type 0
RisesByPart rank_of part [] = Unit {0}
RisesByPart rank_of part (n ∷ ns) = Each (λ m. rank_of n ≡ rank_of m → part n < part m) ns × RisesByPart rank_of part ns

-- numbers for what hangs together: no two of one rank have one, and ranks that refer to one another have the same
pub record AreParts (ranking : Ranking) (m : FileMeaning) (part : ℕ → ℕ) : Type 0 where
  pub one_of_each : (j k : ℕ) → Contains (names m) j → Contains (names m) k → ranking m j ≡ ranking m k → part j ≡ part k → j ≡ k
  pub hangs : (n t : ℕ) → RefersTo m n t → Shares ranking m n → Shares ranking m t → part n ≡ part t
  pub onto : (n t : ℕ) → RefersTo m n t → Shares ranking m n → Shares ranking m t → (j : ℕ) → Contains (names m) j
      → ranking m j ≡ ranking m n → (k : ℕ) × Contains (names m) k × (ranking m k ≡ ranking m t) × (part k ≡ part j)
  pub back : (n t : ℕ) → RefersTo m n t → Shares ranking m n → Shares ranking m t → (k : ℕ) → Contains (names m) k
      → ranking m k ≡ ranking m t → (j : ℕ) × Contains (names m) j × (ranking m j ≡ ranking m n) × (part j ≡ part k)

-- each instance gets the name of one of its rank
pub record IsExchange (ranking : Ranking) (m : FileMeaning) (f : ℕ → ℕ) : Type 0 where
  pub injective : IsInjectiveOn (names m) f
  pub among : (n : ℕ) → Contains (names m) n → Contains (names m) (f n)
  pub ranks : (n : ℕ) → Contains (names m) n → ranking m (f n) ≡ ranking m n

-- instances of one rank say the same in one section, where each reference is to a rank; an instance that shares its rank with no
-- other says the same however those that share ranks are exchanged; and there is an order that counts copies in one sequence
pub record NoChoiceCounts (ranking : Ranking) (m : FileMeaning) : Type 0 where
  pub alike : (j k : ℕ) (x y : Typed) → Contains m.instances (j, x) → Contains m.instances (k, y) → ranking m j ≡ ranking m k
      → SameTyped (renamed_typed (ranking m) x) (renamed_typed (ranking m) y)
  pub one_section : (j k : ℕ) (g h : Heading) → Contains m.instance_sections (j, g) → Contains m.instance_sections (k, h)
      → ranking m j ≡ ranking m k → g ≡ h
  pub kept : (n : ℕ) (x : Typed) → Contains m.instances (n, x) → ¬ Shares ranking m n → (f : ℕ → ℕ) → IsExchange ranking m f
      → SameTyped (renamed_typed f x) x
  pub order : List ℕ
  pub aligned : IsAligned ranking m order

-- ---- what is kept however those that share ranks are exchanged

-- a plain reference to an instance, beside references to all of its rank
abbrev pub IsOfWholeRank : Ranking → FileMeaning → Values → Value → Type 0
IsOfWholeRank ranking m all v =
    (t : ℕ) × (v ≡ reference t) × ((u : ℕ) → Contains (names m) u → ranking m u ≡ ranking m t → Among (reference u) all)

-- no reference leads to an instance that shares its rank, but for plain elements of sets that hold all of that rank
abbrev mutual
  pub Spreads : Ranking → FileMeaning → Value → Type 0
  Spreads ranking m (reference n) = ¬ Shares ranking m n
  Spreads ranking m (list vs) = AllSpread ranking m vs
  Spreads ranking m (array vs) = AllSpread ranking m vs
  Spreads ranking m (set vs) = SpreadAmong ranking m vs vs
  Spreads ranking m (bag vs) = AllSpread ranking m vs
  Spreads ranking m (typed t v) = Spreads ranking m v
  Spreads ranking m other = Unit {0}

  pub AllSpread : Ranking → FileMeaning → Values → Type 0
  AllSpread ranking m no_values = Unit {0}
  AllSpread ranking m (value v vs) = Spreads ranking m v × AllSpread ranking m vs

  -- of some elements of a set
  pub SpreadAmong : Ranking → FileMeaning → Values → Values → Type 0
  SpreadAmong ranking m all no_values = Unit {0}
  SpreadAmong ranking m all (value v vs) = (Spreads ranking m v ⊎ IsOfWholeRank ranking m all v) × SpreadAmong ranking m all vs

-- as code decides it: an instance that shares its rank with no other has values that spread, and ranks that are shared and refer
-- to one another have equally many instances
pub record IsDecided (ranking : Ranking) (m : FileMeaning) : Type 0 where
  pub alike : (j k : ℕ) (x y : Typed) → Contains m.instances (j, x) → Contains m.instances (k, y) → ranking m j ≡ ranking m k
      → SameTyped (renamed_typed (ranking m) x) (renamed_typed (ranking m) y)
  pub one_section : (j k : ℕ) (g h : Heading) → Contains m.instance_sections (j, g) → Contains m.instance_sections (k, h)
      → ranking m j ≡ ranking m k → g ≡ h
  pub spread : (n : ℕ) (x : Typed) → Contains m.instances (n, x) → ¬ Shares ranking m n → Each (AllSpread ranking m) x.values
  pub as_many : (n t : ℕ) → RefersTo m n t → Shares ranking m n → Shares ranking m t → many ranking m n ≡ many ranking m t
  pub order : List ℕ
  pub aligned : IsAligned ranking m order
