-- What is known of instances by their names, and which references count in an instance that shares its rank with no other.
use Rattle.std.specs.BTreeMap.{BTreeMap}
use Rattle.std.specs.Prelude.{◌≡◌, ℕ, Bool, false, List, [], ◌∷◌, ◌++◌, Option, Some, None, ltb, nat_eq, slice_index_or, if◌then◌else◌, Contains}
use Rattle.p21_spec_file.specs.File.{FileMeaning}
use Rattle.p21_spec_file.specs.Value.{Value, reference, list, array, set, bag, typed, Values, no_values, value}
use Rattle.p21_spec_numbering.specs.Copies.{many as many_in}
use Rattle.p21_spec_numbering.specs.Graph.{how_many}
use Rattle.p21_spec_numbering.specs.Ordered.{Ranking}
use Rattle.p21_spec_numbering.specs.Renamed.{names}
use Rattle.p21_numbering.specs.declared.standings.Standings.{Standings}
use Rattle.p21_numbering.specs.NewNames.{new_name}

-- the rank of a name, and how many have a rank
pub record Standing : Type 0 where
  pub rank : ℕ → ℕ
  pub size : ℕ → ℕ

abbrev pub standing_of : Standings → Standing
standing_of st = record { rank = new_name st.ranks; size = λ rank. slice_index_or st.sizes.items rank 0 }

-- how many have the rank of this name
abbrev pub many : Standing → ℕ → ℕ
many st n = st.size (st.rank n)

abbrev pub is_shared : Standing → ℕ → Bool
is_shared st n = ltb 1 (many st n)

-- they are those of the file
pub record IsStanding (ranking : Ranking) (m : FileMeaning) (st : Standing) : Type 0 where
  pub rank : (n : ℕ) → Contains (names m) n → st.rank n ≡ ranking m n
  pub many : (n : ℕ) → Contains (names m) n → many st n ≡ many_in ranking m n

-- ---- names that share ranks where this counts

-- the name of a plain reference
abbrev pub plain_name : Value → Option ℕ
plain_name (reference n) = Some n
plain_name other = None

abbrev pub listed : Option ℕ → List ℕ
listed None = []
listed (Some n) = n ∷ []

abbrev pub plain_names : Values → List ℕ
plain_names no_values = []
plain_names (value v vs) = listed (plain_name v) ++ plain_names vs

-- how many of these have this rank
abbrev pub of_rank : Standing → List ℕ → ℕ → ℕ
of_rank st ns rank = how_many (λ n. nat_eq (st.rank n) rank) ns

-- a plain reference, among plain references to as many of its rank as there are
abbrev pub fills : Standing → List ℕ → Option ℕ → Bool
fills st ns None = false
fills st ns (Some n) = nat_eq (of_rank st ns (st.rank n)) (many st n)

-- the map has how many of these names have each rank
abbrev pub IsCount : Standing → List ℕ → BTreeMap ℕ ℕ → Type 0
IsCount st ns counts = (rank : ℕ) → new_name counts rank ≡ of_rank st ns rank

abbrev pub first_of : Option ℕ → Option ℕ → Option ℕ
first_of None later = later
first_of (Some n) later = Some n

-- the first name of one that shares its rank, but for plain elements of sets that have all of that rank
abbrev mutual
  pub loose_value : Standing → Value → Option ℕ
  loose_value st (reference n) = if is_shared st n then Some n else None
  loose_value st (list vs) = loose_in st vs
  loose_value st (array vs) = loose_in st vs
  loose_value st (set vs) = loose_among st (plain_names vs) vs
  loose_value st (bag vs) = loose_in st vs
  loose_value st (typed t v) = loose_value st v
  loose_value st other = None

  pub loose_in : Standing → Values → Option ℕ
  loose_in st no_values = None
  loose_in st (value v vs) = first_of (loose_value st v) (loose_in st vs)

  -- among some elements of a set, whose plain references have these names
  pub loose_among : Standing → List ℕ → Values → Option ℕ
  loose_among st ns no_values = None
  loose_among st ns (value v vs) = first_of (if fills st ns (plain_name v) then None else loose_value st v) (loose_among st ns vs)

abbrev pub loose_element : Standing → List ℕ → Value → Option ℕ
loose_element st ns v = if fills st ns (plain_name v) then None else loose_value st v

abbrev pub loose_rows : Standing → List Values → Option ℕ
loose_rows st [] = None
loose_rows st (vs ∷ rows) = first_of (loose_in st vs) (loose_rows st rows)
