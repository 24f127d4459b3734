-- A clash of entities that are no direct supertypes of a leaf: D is an AA, which is an A, and a BB, which is a B, and A and
-- B exclude each other.
use Rattle.std.specs.Prelude.{◌<◌, ℕ, zero, suc, List, [], ◌∷◌, codes, Contains, refl}
use Rattle.std.specs.List.{IsDistinct}
use Rattle.std.specs.Str.{bytes_eq}
use Rattle.std.proofs.Common.{arith, rules}
use Rattle.p21_spec_file.specs.BrokenRule.{Breaks, one_of}
use Rattle.p21_spec_schema.specs.Declared.{HasSupertype}
use Rattle.p21_spec_exchange.specs.Parameter.{no_params, key_of}
use Rattle.p21_spec_exchange.specs.Record.{Part, simple}
use Rattle.p21_spec_schema.specs.Schema.{Schema}
use Rattle.p21_spec_schema.specs.Supertype.{IsA, itself, above}
use Rattle.p21_spec_schema.proofs.DeclaredSchemas.{names_of_all, distinct_names-entities}
use Rattle.p21_spec_basics.proofs.Members.{Contains-none, Each-member}
use Rattle.p21_spec_file.proofs.RecordSets.{internal-set}
use Rattle.p21_spec_schema.proofs.TestSchemas.{entity_of}

abbrev tall : Schema
tall = record {
  name = codes "TALL";
  types = [];
  entities = entity_of (codes "A") [] [] ∷ entity_of (codes "B") [] [] ∷ entity_of (codes "AA") (0 ∷ []) [] ∷ entity_of (codes "BB") (1 ∷ []) [] ∷ entity_of (codes "D") (2 ∷ 3 ∷ []) [] ∷ [];
  one_of_lists = (0 ∷ 1 ∷ []) ∷ [];
}

tall-distinct : IsDistinct bytes_eq (names_of_all tall)
unfolding IsDistinct
tall-distinct = search rules

abbrev all : List ℕ
all = 4 ∷ 2 ∷ 3 ∷ 0 ∷ 1 ∷ []

-- each supertype is one of the five
supertype-small : (e f : ℕ) → HasSupertype tall e f → f < 5
supertype-small zero f among = absurd (Contains-none f among)
supertype-small (suc zero) f among = absurd (Contains-none f among)
supertype-small (suc (suc zero)) f among = Each-member (λ g. g < 5) (0 ∷ []) f (omega arith, tt) among
supertype-small (suc (suc (suc zero))) f among = Each-member (λ g. g < 5) (1 ∷ []) f (omega arith, tt) among
supertype-small (suc (suc (suc (suc zero)))) f among = Each-member (λ g. g < 5) (2 ∷ 3 ∷ []) f (omega arith, (omega arith, tt)) among
supertype-small (suc (suc (suc (suc (suc e))))) f among = absurd (Contains-none f among)

above-small : (e f : ℕ) → e < 5 → IsA tall e f → f < 5
above-small e f small (itself _) = small
above-small e f small (above _ next _ among up) = above-small next f (supertype-small e next among) up

small-is_in : (f : ℕ) → f < 5 → Contains all f
small-is_in zero small = (3, omega arith, refl)
small-is_in (suc zero) small = (4, omega arith, refl)
small-is_in (suc (suc zero)) small = (1, omega arith, refl)
small-is_in (suc (suc (suc zero))) small = (2, omega arith, refl)
small-is_in (suc (suc (suc (suc zero)))) small = (0, omega arith, refl)
small-is_in (suc (suc (suc (suc (suc f))))) small = absurd (omega (arith, small))

aa : IsA tall 4 2
aa = above 4 2 2 (0, omega arith, refl) (itself 2)

bb : IsA tall 4 3
bb = above 4 3 3 (1, omega arith, refl) (itself 3)

in-is_above : (f : ℕ) → Contains all f → IsA tall 4 f
in-is_above f among = Each-member (IsA tall 4) all f (itself 4, (aa, (bb, (above 4 2 0 (0, omega arith, refl) (above 2 0 0 (0, omega arith, refl) (itself 0)), (above 4 3 1 (1, omega arith, refl) (above 3 1 1 (0, omega arith, refl) (itself 1)), tt))))) among

abbrev d_part : Part
d_part = record { key = key_of (codes "D"); params = no_params }

-- `D()`
pub d-breaks : Breaks tall (simple d_part) 58
d-breaks = one_of (
  all,
  internal-set tall (distinct_names-entities tall tall-distinct) d_part 4 all (codes "D", (entity_of (codes "D") (2 ∷ 3 ∷ []) [], refl, refl), refl) (λ f. (in-is_above f, λ up. small-is_in f (above-small 4 f (omega arith) up))),
  (0 ∷ 1 ∷ [], (0, omega arith, refl), (0, 1, (0, omega arith, refl), (1, omega arith, refl), omega arith, (3, omega arith, refl), (4, omega arith, refl))),
)
