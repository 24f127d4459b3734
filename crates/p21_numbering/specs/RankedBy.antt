-- Instances by what is known of all by their names.
use Rattle.std.specs.Prelude.{◌≡◌, ◌≢◌, ℕ, true, false, List, [], map, Option, Some, None, Contains}
use Rattle.std.specs.List.{filter}
use Rattle.p21_spec_numbering.specs.Renamed.{renamed_typed}
use Rattle.p21_spec_numbering.specs.Uses.{Use, typed_uses}
use Rattle.p21_spec_schema.specs.Schema.{Schema}
use Rattle.p21_numbering.specs.Instances.{Instance}
use Rattle.p21_numbering.specs.NodesOf.{row_of_texts}
use Rattle.p21_numbering.specs.Ranked.{Ranked}
use Rattle.p21_numbering.specs.Said.{said_in}
use Rattle.p21_numbering.specs.Standing.{Standing, many, is_shared, loose_rows}

-- those that it refers to and that share their ranks
abbrev pub shared_targets : Standing → Instance → List ℕ
shared_targets st i = filter (is_shared st) (map (λ (u : Use). u.1) (typed_uses i.typed))

abbrev pub with_rank : Standing → Option ℕ → Option (ℕ × ℕ)
with_rank st None = None
with_rank st (Some n) = Some (n, st.rank n)

-- one of a rank that not so many have, if there is one
abbrev pub FindsUneven : Standing → ℕ → List ℕ → Option ℕ → Type 0
FindsUneven st count ns None = (n : ℕ) → Contains ns n → many st n ≡ count
FindsUneven st count ns (Some n) = Contains ns n × (many st n ≢ count)

-- one that shares its rank
pub record IsSharing (s : Schema) (st : Standing) (i : Instance) (r : Ranked) : Type 0 where
  pub name_is : r.name ≡ i.name
  pub rank_is : r.rank ≡ st.rank i.name
  pub said_is : r.said ≡ row_of_texts (said_in s i.heading (renamed_typed st.rank i.typed))
  pub beside_are : r.beside ≡ shared_targets st i
  pub uneven : Option ℕ
  pub uneven_is : FindsUneven st (many st i.name) r.beside uneven
  pub loose_is : r.loose ≡ with_rank st uneven

-- one that doesn't
pub record IsAlone (st : Standing) (i : Instance) (r : Ranked) : Type 0 where
  pub name_is : r.name ≡ i.name
  pub rank_is : r.rank ≡ st.rank i.name
  pub beside_are : r.beside ≡ []
  pub loose_is : r.loose ≡ with_rank st (loose_rows st i.typed.values)

pub record IsRankedBy (s : Schema) (st : Standing) (i : Instance) (r : Ranked) : Type 0 where
  pub sharing : is_shared st i.name ≡ true → IsSharing s st i r
  pub alone : is_shared st i.name ≡ false → IsAlone st i r
