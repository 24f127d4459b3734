-- The places that are left, one by one.
use Rattle.std.proofs.Common.{◌≡◌, ℕ, zero, suc, ◌+◌, ◌<◌, ◌≤◌, List, [], ◌∷◌, ◌++◌, length, map, drop, refl, ap, sym, ◌∙◌, arith}
use Rattle.std.specs.List.{flat_map, enumerate_from}
use Rattle.p21_spec_schema.specs.Order.{own_places}
use Rattle.p21_spec_schema.specs.Schema.{Attribute, Place, Schema, attributes_of}
use Rattle.p21_model.specs.Left.{places_left}
use Rattle.p21_model.proofs.RowsLeft.{order-places}

-- the places of an entity with numbers from k on
abbrev places_from : ℕ → ℕ → List Attribute → List Place
places_from e k attributes = map (λ p. record { entity = e; index = p.0 }) (enumerate_from k attributes)

from-all : (e k : ℕ) (attributes : List Attribute) (n : ℕ) → length attributes ≤ n → drop n (places_from e k attributes) ≡ []
from-all e k [] zero many = refl
from-all e k [] (suc n) many = refl
from-all e k (x ∷ xs) zero many = absurd (omega (arith, many))
from-all e k (x ∷ xs) (suc n) many = from-all e (k + 1) xs n (omega (arith, many))

from-next : (e k : ℕ) (attributes : List Attribute) (n : ℕ) → n < length attributes
    → drop n (places_from e k attributes) ≡ record { entity = e; index = k + n } ∷ drop (suc n) (places_from e k attributes)
from-next e k [] n below = absurd (omega (arith, below))
from-next e k (x ∷ xs) zero below = let same : k ≡ k + 0 = omega arith in
    ap (λ i. record { entity = e; index = i } ∷ places_from e (k + 1) xs) same
from-next e k (x ∷ xs) (suc n) below =
    let same : k + 1 + n ≡ k + suc n = omega arith in
    from-next e (k + 1) xs n (omega (arith, below)) ∙ ap (λ i. record { entity = e; index = i } ∷ drop (suc n) (places_from e (k + 1) xs))
    same

-- where an entity has no more, the next entity's follow
pub skipped : (s : Schema) (es : List ℕ) (e : ℕ) (more : List ℕ) (index : ℕ) → es ≡ e ∷ more → length (attributes_of s e) ≤ index
    → places_left s more 0 ≡ places_left s es index
skipped s es e more index is many =
    order-places s more
    ∙ ap (λ (xs : List Place). xs ++ flat_map (own_places s) more) (sym (from-all e 0 (attributes_of s e) index many))
    ∙ ap (λ (xs : List ℕ). places_left s xs index) (sym is)

-- else its next one comes
pub taken-place : (s : Schema) (es : List ℕ) (e : ℕ) (more : List ℕ) (index : ℕ) → es ≡ e ∷ more → index < length (attributes_of s e)
    → places_left s es index ≡ record { entity = e; index = index } ∷ places_left s es (index + 1)
taken-place s es e more index is below =
    let same : 0 + index ≡ index = omega arith in
    let further : suc index ≡ index + 1 = omega arith in
    let one : drop index (own_places s e) ≡ record { entity = e; index = index } ∷ drop (index + 1) (own_places s e) =
    from-next e 0 (attributes_of s e) index below ∙ ap (λ i. record { entity = e; index = i } ∷ drop (suc index) (own_places s e)) same
    ∙ ap (λ n. record { entity = e; index = index } ∷ drop n (own_places s e)) further in
    ap (λ (xs : List ℕ). places_left s xs index) is
    ∙ ap (λ (xs : List Place). xs ++ flat_map (own_places s) more) one
    ∙ ap (λ (xs : List ℕ). record { entity = e; index = index } ∷ places_left s xs (index + 1)) (sym is)

pub place-given : (s : Schema) (es : List ℕ) (e : ℕ) (behind : List ℕ) (index count : ℕ) (place : Place) (more : List Place)
    → es ≡ e ∷ behind → count ≡ length (attributes_of s e) → index < count → places_left s es index ≡ place ∷ more
    → (record { entity = e; index = index } ≡ place) × (places_left s es (index + 1) ≡ more)
place-given s es e behind index count place more is count_is below left =
    let all : record { entity = e; index = index } ∷ places_left s es (index + 1) ≡ place ∷ more =
    sym (taken-place s es e behind index is (omega (arith, below, count_is))) ∙ left in
    (place-head all, place-tail all)
  where
    place-head : {x y : Place} {xs ys : List Place} → x ∷ xs ≡ y ∷ ys → x ≡ y
    place-head e = cc

    place-tail : {x y : Place} {xs ys : List Place} → x ∷ xs ≡ y ∷ ys → xs ≡ ys
    place-tail e = cc
