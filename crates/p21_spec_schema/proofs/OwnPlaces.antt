-- The places that an entity declares itself are those of its explicit attributes.
use Rattle.std.specs.Prelude.{◌≡◌, ℕ, zero, suc, ◌+◌, ◌<◌, List, [], ◌∷◌, length, map, Contains}
use Rattle.std.specs.List.{enumerate_from}
use Rattle.std.proofs.Common.{arith, subst, ap, inl, inr}
use Rattle.p21_spec_schema.specs.Order.{own_places}
use Rattle.p21_spec_schema.specs.Schema.{Schema, Place, Attribute, attributes_of}
use Rattle.p21_spec_basics.proofs.Members.{Contains-none, Contains-later, Contains-cases}

-- a place of the entity for each of the attributes, with numbers from k on
abbrev places_from : ℕ → ℕ → List Attribute → List Place
places_from e k attributes = map (λ p. record { entity = e; index = p.0 }) (enumerate_from k attributes)

from-within : (e k : ℕ) (attributes : List Attribute) (place : Place) → Contains (places_from e k attributes) place → (e ≡ place.entity) × (place.index < k + length attributes)
from-within e k [] place among = absurd (Contains-none place among)
from-within e k (x ∷ xs) place among = elim (Contains-cases (record { entity = e; index = k }) (places_from e (k + 1) xs) place among) [
  | inl h ↦ (ap (λ p. p.entity) h, (let same : k ≡ place.index = ap (λ p. p.index) h in omega (arith, same)))
  | inr h ↦ (let (same, below) = from-within e (k + 1) xs place h in (same, omega (arith, below)))
]

from-has : (e k : ℕ) (attributes : List Attribute) (i : ℕ) → i < length attributes → Contains (places_from e k attributes) (record { entity = e; index = k + i })
from-has e k [] i below = absurd (omega (arith, below))
from-has e k (x ∷ xs) zero below = let same : k ≡ k + 0 = omega arith in (0, omega arith, ap (λ i. record { entity = e; index = i }) same)
from-has e k (x ∷ xs) (suc i) below =
    let same : k + 1 + i ≡ k + suc i = omega arith in
    let P : ℕ → Type 0 = λ j. Contains (places_from e (k + 1) xs) (record { entity = e; index = j }) in
    Contains-later (record { entity = e; index = k }) (places_from e (k + 1) xs) (record { entity = e; index = k + suc i }) (subst P same (from-has e (k + 1) xs i (omega (arith, below))))

pub own_places-within : (s : Schema) (e : ℕ) (place : Place) → Contains (own_places s e) place → (e ≡ place.entity) × (place.index < length (attributes_of s e))
own_places-within s e place among = let (same, below) = from-within e 0 (attributes_of s e) place among in (same, omega (arith, below))

pub own_places-has : (s : Schema) (e i : ℕ) → i < length (attributes_of s e) → Contains (own_places s e) (record { entity = e; index = i })
own_places-has s e i below =
    let same : 0 + i ≡ i = omega arith in
    let P : ℕ → Type 0 = λ j. Contains (own_places s e) (record { entity = e; index = j }) in
    subst P same (from-has e 0 (attributes_of s e) i below)
