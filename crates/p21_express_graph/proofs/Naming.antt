-- What has a name, by its number.
use Rattle.std.specs.Prelude.{◌≡◌, ℕ, zero, suc, ◌<◌, ◌^◌, List, [], ◌∷◌, map, slice_get, Some, Contains, refl}
use Rattle.std.proofs.Common.{arith, subst}
use Rattle.std.proofs.lemmas.Option.{slice_get_within}
use Rattle.p21_spec_schema.specs.Schema.{Schema, Entity, Defined}
use Rattle.p21_express_graph.specs.Resolved.{HoldsTogether}
use Rattle.p21_spec_basics.proofs.Members.{Contains-mapped, Contains-found}

module _ {X : Type 0} (name_of : X → List ℕ) where
  -- the thing of a number has the name of that number
  pub named : (xs : List X) (at : ℕ) (name : List ℕ) → slice_get (map name_of xs) at ≡ Some name → (x : X) × (slice_get xs at ≡ Some x) × (name_of x ≡ name)
  named [] at name is = cc
  named (x ∷ xs) zero name is = (x, refl, let same : name_of x ≡ name = cc in same)
  named (x ∷ xs) (suc at) name is = named xs at name is

  -- nothing has a name that is none of the names
  pub unnamed : (xs : List X) (name : List ℕ) → (Contains (map name_of xs) name → ⊥) → (at : ℕ) → ((x : X) × (slice_get xs at ≡ Some x) × (name_of x ≡ name)) → ⊥
  unnamed xs name none at (x, is, same) = let P : List ℕ → Type 0 = λ n. Contains (map name_of xs) n in none (subst P same (Contains-mapped name_of xs x (Contains-found xs at x is)))

-- numbers of entities fit
pub entity-fits : (s : Schema) → HoldsTogether s → (e : ℕ) (x : Entity) → slice_get s.entities e ≡ Some x → e < 2 ^ 32
entity-fits s holds e x is = let below = slice_get_within s.entities e x is in omega (arith, below, holds.few)

pub type-fits : (s : Schema) → HoldsTogether s → (t : ℕ) (x : Defined) → slice_get s.types t ≡ Some x → t < 2 ^ 32
type-fits s holds t x is = let below = slice_get_within s.types t x is in omega (arith, below, holds.few)
