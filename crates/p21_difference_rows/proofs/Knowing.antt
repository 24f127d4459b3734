-- Whether a schema has an attribute: entity by entity, and number by number.
use Rattle.std.specs.Prelude.{◌≡◌, ◌≢◌, ◌↔◌, ◌⊎◌, ◌<◌, ◌≤◌, ◌+◌, ℕ, Bool, true, false, List, ◌∷◌, Contains, length, map}
use Rattle.std.proofs.Common.{arith, add-one, ap, drop, drop-cons, get_or, sym, subst, ◌∙◌, inl, inr}
use Rattle.std.proofs.lemmas.List.{drop_all}
use Rattle.std.proofs.lemmas.List.Elements.{Contains-get_or}
use Rattle.std.proofs.lemmas.Option.{slice_get_within}
use Rattle.p21_express_graph.proofs.OrderTables.{order-tells}
use Rattle.p21_express_graph.specs.Orders.{numbers}
use Rattle.p21_express_graph.specs.Resolved.{HoldsTogether}
use Rattle.p21_express_graph.specs.declared.number.EntityId.{EntityId}
use Rattle.p21_spec_basics.proofs.Members.{Contains-cases, Contains-mapped, Contains-none, some_is}
use Rattle.p21_spec_differences.specs.LeftOut.{AttributeName, IsKnown}
use Rattle.p21_spec_schema.specs.Order.{order}
use Rattle.p21_spec_schema.specs.Schema.{Attribute, EntityNamed, Place, PlaceNamed, Schema, attributes_of}
use Rattle.p21_spec_schema.specs.Supertype.{IsA}
use Rattle.p21_spec_schema.specs.WellFormed.{IsWellFormed}

-- a test doesn't hold and fail
pub both : (b : Bool) → b ≡ true → b ≡ false → ⊥
both true holds fails = cc
both false holds fails = cc

-- ---- entities one by one

pub next-from : {X : Type 0} (xs : List X) (i : ℕ) (d : X) → i < length xs → drop i xs ≡ get_or xs i d ∷ drop (i + 1) xs
next-from xs i d low = drop-cons xs i d low ∙ ap (λ (k : ℕ). get_or xs i d ∷ drop k xs) (sym (add-one i))

pub owner-later : (xs : List EntityId) (i : ℕ) (d : EntityId) (e : ℕ) → i < length xs → (get_or xs i d).0 ≢ e
    → Contains (numbers (drop i xs)) e → Contains (numbers (drop (i + 1) xs)) e
owner-later xs i d e low differ among =
    let P : List EntityId → Type 0 = λ ys. Contains (numbers ys) e in
    elim (Contains-cases (get_or xs i d).0 (numbers (drop (i + 1) xs)) e (subst P (next-from xs i d low) among)) [
      | inl is ↦ absurd (differ is)
      | inr later ↦ later
    ]

pub owner-none : (xs : List EntityId) (i e : ℕ) → length xs ≤ i → Contains (numbers (drop i xs)) e → ⊥
owner-none xs i e past among =
    let P : List EntityId → Type 0 = λ ys. Contains (numbers ys) e in
    Contains-none e (subst P (drop_all i xs past) among)

-- ---- the attributes that an entity declares, by their numbers

module _ (s : Schema) (name : List ℕ) where
  -- the attribute of this number has the name
  abbrev pub IsNamed : ℕ → ℕ → Type 0
  IsNamed e index = PlaceNamed s (record { entity = e; index = index }) name

  pub named-there : (e index : ℕ) (found : List ℕ) → PlaceNamed s (record { entity = e; index = index }) found → found ≡ name
      → (i : ℕ) × IsNamed e i
  named-there e index found named is = let P : List ℕ → Type 0 = λ n. PlaceNamed s (record { entity = e; index = index }) n in
      (index, subst P is named)

  from-next : (x y : ℕ) → x ≤ y → (x ≡ y) ⊎ (x + 1 ≤ y)
  from-next x y low = grind arith

  pub named-later : (e index : ℕ) (found : List ℕ) → PlaceNamed s (record { entity = e; index = index }) found → found ≢ name
      → ((i : ℕ) → IsNamed e i → index ≤ i) → (i : ℕ) → IsNamed e i → index + 1 ≤ i
  named-later e index found (a, at, is) differ least i named = elim (from-next index i (least i named)) [
    | inl same ↦
        let (b, at_, is_) = (let P : ℕ → Type 0 = λ k. IsNamed e k in subst P (sym same) named) in
        absurd (differ (sym is ∙ ap (λ (x : Attribute). x.name) (some_is a b (sym at ∙ at_)) ∙ is_))
    | inr later ↦ later
  ]

  pub named-none : (e count index : ℕ) → count ≡ length (attributes_of s e) → count ≤ index → ((i : ℕ) → IsNamed e i → index ≤ i)
      → ¬ ((i : ℕ) × IsNamed e i)
  named-none e count index is past least (i, (a, at, named)) =
      let low = slice_get_within (attributes_of s e) i a at in
      let from = least i (a, at, named) in
      omega (arith, is, past, low, from)

  -- ---- those that an entity has

  -- it is an attribute of the entity, its own or one of a supertype
  abbrev pub Has : ℕ → Type 0
  Has e = (place : Place) × IsA s e place.entity × PlaceNamed s place name

  -- each is declared by one of these entities
  abbrev pub AreDeclaredBy : ℕ → List EntityId → Type 0
  AreDeclaredBy e owners = (place : Place) → IsA s e place.entity → PlaceNamed s place name → Contains (numbers owners) place.entity

  pub all-declared : HoldsTogether s → (e : ℕ) (owners : List EntityId) → numbers owners ≡ order s e → AreDeclaredBy e owners
  all-declared holds e owners is place has named =
      let P : List ℕ → Type 0 = λ es. Contains es place.entity in
      subst P (sym is) ((order-tells s holds e place.entity).1 has)

  pub declared-there : HoldsTogether s → (e owner : ℕ) → Contains (order s e) owner → (i : ℕ) × IsNamed owner i → Has e
  declared-there holds e owner among (i, named) =
      (record { entity = owner; index = i }, (order-tells s holds e owner).0 among, named)

  pub declared-later : (e : ℕ) (owners : List EntityId) (i : ℕ) (d : EntityId) → i < length owners
      → ¬ ((k : ℕ) × IsNamed (get_or owners i d).0 k) → AreDeclaredBy e (drop i owners) → AreDeclaredBy e (drop (i + 1) owners)
  declared-later e owners i d low none declared place has named =
      owner-later owners i d place.entity low
      (λ same. let P : ℕ → Type 0 = λ f. IsNamed f place.index in none (place.index, subst P (sym same) named))
      (declared place has named)

  pub declared-none : (e : ℕ) (owners : List EntityId) (i : ℕ) → length owners ≤ i → AreDeclaredBy e (drop i owners) → ¬ Has e
  declared-none e owners i past declared (place, has, named) = owner-none owners i place.entity past (declared place has named)

-- ---- the name of an attribute

module _ (s : Schema) (formed : IsWellFormed s) (name : AttributeName) where
  pub known-if : (e : ℕ) → EntityNamed s e name.entity → Has s name.attribute e ↔ IsKnown s name
  known-if e named = (
    λ (place, has, attribute). (e, place, record { named = named; has = has; attribute = attribute }),
    λ (f, place, is).
        let P : ℕ → Type 0 = λ g. IsA s g place.entity in
        (place, subst P (formed.entities_distinct f e name.entity is.named named) is.has, is.attribute),
  )

pub unknown-if_unnamed : (s : Schema) (name : AttributeName) → ((e : ℕ) → EntityNamed s e name.entity → ⊥) → ¬ IsKnown s name
unknown-if_unnamed s name none (e, place, is) = none e is.named

-- a name of a list is among what the list stands for
pub named-among : {X Y : Type 0} (f : X → Y) (xs : List X) (i : ℕ) (d : X) → i < length xs → Contains (map f xs) (f (get_or xs i d))
named-among f xs i d low = Contains-mapped f xs (get_or xs i d) (Contains-get_or xs i d low)

-- ---- what is said of each of a list

module _ {X Y : Type 0} (f : X → Y) (P : Y → Type 0) (xs : List X) where
  -- it holds of all if it holds of those that are left
  abbrev pub IsLeftToSay : ℕ → Type 0
  IsLeftToSay i = ((y : Y) → Contains (map f (drop i xs)) y → P y) → (y : Y) → Contains (map f xs) y → P y

  pub said-later : (i : ℕ) (d : X) → i < length xs → P (f (get_or xs i d)) → IsLeftToSay i → IsLeftToSay (i + 1)
  said-later i d low is left later = left by
    where
      by : (y : Y) → Contains (map f (drop i xs)) y → P y
      by y among =
          let Q : List X → Type 0 = λ ys. Contains (map f ys) y in
          elim (Contains-cases (f (get_or xs i d)) (map f (drop (i + 1) xs)) y (subst Q (next-from xs i d low) among)) [
            | inl same ↦ subst P same is
            | inr more ↦ later y more
          ]

  pub said-all : (i : ℕ) → length xs ≤ i → IsLeftToSay i → (y : Y) → Contains (map f xs) y → P y
  said-all i past left = left by
    where
      by : (y : Y) → Contains (map f (drop i xs)) y → P y
      by y among =
          let Q : List X → Type 0 = λ ys. Contains (map f ys) y in
          absurd (Contains-none y (subst Q (drop_all i xs past) among))
