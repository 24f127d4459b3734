-- The order of an entity: with as many levels as a schema has entities, it is the orders of the supertypes as listed and the entity itself, each at its first occurrence; and its entities are the closure.
use Rattle.std.specs.Prelude.{◌≡◌, ℕ, zero, suc, ◌+◌, ◌-◌, ◌<◌, ◌≤◌, min, List, [], ◌∷◌, ◌++◌, length, Contains, refl, ◌⊎◌, not, nat_eq}
use Rattle.std.specs.List.{flat_map}
use Rattle.std.proofs.lemmas.List.Elements.{Contains-append_left, Contains-append_right, Contains-append_cases}
use Rattle.std.proofs.Common.{arith, subst, ap, sym, inl, inr}
use Rattle.std.proofs.lemmas.Bool.{cases_lt, cases_eq, ne_eqb}
use Rattle.p21_spec_schema.specs.Schema.{Schema}
use Rattle.p21_spec_schema.specs.Supertype.{IsA, itself, above, supertypes_of}
use Rattle.p21_spec_schema.specs.Order.{order_within, order, first_occurrences}
use Rattle.p21_spec_schema.specs.Declared.{HasNoCircle, HasSupertype}
use Rattle.p21_spec_schema.specs.WellFormed.{AreEntities}
use Rattle.p21_spec_basics.proofs.Members.{Contains-later, Contains-cases, Contains-flat_map, Contains-one_of, Contains-filter, Contains-unfiltered, flat_map-same}

-- there are at most this many levels of supertypes above the entity
abbrev pub HasHeight : Schema → ℕ → ℕ → Type 0
HasHeight s zero e = (f : ℕ) → HasSupertype s e f → ⊥
HasHeight s (suc n) e = (f : ℕ) → HasSupertype s e f → HasHeight s n f

-- how many of the first n numbers are below a rank
abbrev pub count_below : (ℕ → ℕ) → ℕ → ℕ → ℕ
count_below rank r zero = 0
count_below rank r (suc n) = min 1 (r - rank n) + count_below rank r n

pub count_below-le : (rank : ℕ → ℕ) (r n : ℕ) → count_below rank r n ≤ n
count_below-le rank r zero = omega arith
count_below-le rank r (suc n) = omega (arith, count_below-le rank r n)

count_below-rises : (rank : ℕ → ℕ) (q r n : ℕ) → q ≤ r → count_below rank q n ≤ count_below rank r n
count_below-rises rank q r zero le = omega arith
count_below-rises rank q r (suc n) le = omega (arith, le, count_below-rises rank q r n le)

pub count_below-rises_past : (rank : ℕ → ℕ) (f r n : ℕ) → f < n → rank f < r → count_below rank (rank f) n < count_below rank r n
count_below-rises_past rank f r zero below lt = omega (arith, below)
count_below-rises_past rank f r (suc n) below lt = elim (last f n below) [
  | inl is ↦ let same : rank f ≡ rank n = ap rank is in omega (arith, lt, same, count_below-rises rank (rank f) r n (omega (arith, lt)))
  | inr before ↦ omega (arith, lt, count_below-rises_past rank f r n before lt)
]
  where
    last : (f n : ℕ) → f < suc n → (f ≡ n) ⊎ (f < n)
    last f n below = elim (cases_lt f n) [ inl h ↦ inr h | inr h ↦ inl (omega (arith, h, below)) ]

has_height : (s : Schema) → AreEntities s → (rank : ℕ → ℕ) → ((e f : ℕ) → HasSupertype s e f → rank f < rank e) → (n e : ℕ) → count_below rank (rank e) (length s.entities) ≤ n → HasHeight s n e
has_height s are rank falls zero e few = λ f up. omega (arith, few, count_below-rises_past rank f (rank e) (length s.entities) (are e f up) (falls e f up))
has_height s are rank falls (suc n) e few = λ f up. has_height s are rank falls n f (omega (arith, few, count_below-rises_past rank f (rank e) (length s.entities) (are e f up) (falls e f up)))

no_elements : (xs : List ℕ) → ((x : ℕ) → Contains xs x → ⊥) → xs ≡ []
no_elements [] none = refl
no_elements (x ∷ xs) none = absurd (none x (0, omega arith, refl))

-- more levels than there are change nothing
order_within-same : (s : Schema) (n m e : ℕ) → HasHeight s n e → n ≤ m → order_within s m e ≡ order_within s n e
order_within-same s zero zero e high le = refl
order_within-same s zero (suc m) e high le = ap (λ es. first_occurrences (flat_map (order_within s m) es ++ e ∷ [])) (no_elements (supertypes_of s e) high)
order_within-same s (suc n) zero e high le = let none : ⊥ = omega (arith, le) in absurd none
order_within-same s (suc n) (suc m) e high le = ap (λ es. first_occurrences (es ++ e ∷ [])) (flat_map-same (order_within s m) (order_within s n) (supertypes_of s e) (λ f up. order_within-same s n m f (high f up) (omega (arith, le))))

pub order-height : (s : Schema) → AreEntities s → HasNoCircle (HasSupertype s) → (e : ℕ) → HasHeight s (length s.entities) e
order-height s are ends e = has_height s are ends.0 ends.1 (length s.entities) e (count_below-le ends.0 (ends.0 e) (length s.entities))

-- the equation of the order
pub order-is : (s : Schema) → AreEntities s → HasNoCircle (HasSupertype s) → (e : ℕ) → order s e ≡ first_occurrences (flat_map (order s) (supertypes_of s e) ++ e ∷ [])
order-is s are ends e = sym (order_within-same s (length s.entities) (suc (length s.entities)) e (order-height s are ends e) (omega arith))

Contains-firsts : (xs : List ℕ) (y : ℕ) → Contains xs y → Contains (first_occurrences xs) y
Contains-firsts [] y (k, below, is) = let none : ⊥ = omega (arith, below) in absurd none
Contains-firsts (x ∷ xs) y among = elim (cases_eq x y) [
  | inl h ↦ (0, omega arith, h)
  | inr h ↦ Contains-later x _ y (Contains-filter (λ f. not (nat_eq x f)) (first_occurrences xs) y (ap not (ne_eqb x y h)) (Contains-firsts xs y (elim (Contains-cases x xs y among) [ inl is ↦ absurd (h is) | inr more ↦ more ])))
]

-- the order has the entity and all its direct and indirect supertypes
pub order-has : (s : Schema) → AreEntities s → HasNoCircle (HasSupertype s) → (e f : ℕ) → IsA s e f → Contains (order s e) f
order-has s are ends e f (itself _) = let P : List ℕ → Type 0 = λ es. Contains es e in subst P (sym (order-is s are ends e)) (Contains-firsts (flat_map (order s) (supertypes_of s e) ++ e ∷ []) e (Contains-append_right (flat_map (order s) (supertypes_of s e)) (e ∷ []) e (0, omega arith, refl)))
order-has s are ends e f (above _ next _ up more) = let P : List ℕ → Type 0 = λ es. Contains es f in subst P (sym (order-is s are ends e)) (Contains-firsts (flat_map (order s) (supertypes_of s e) ++ e ∷ []) f
    (Contains-append_left (flat_map (order s) (supertypes_of s e)) (e ∷ []) f (Contains-flat_map (order s) (supertypes_of s e) next f up (order-has s are ends next f more))))

Contains-not_first : (xs : List ℕ) (y : ℕ) → Contains (first_occurrences xs) y → Contains xs y
Contains-not_first [] y among = among
Contains-not_first (x ∷ xs) y among = elim (Contains-cases x _ y among) [
  | inl h ↦ (0, omega arith, h)
  | inr h ↦ Contains-later x xs y (Contains-not_first xs y (Contains-unfiltered (λ f. not (nat_eq x f)) (first_occurrences xs) y h))
]

-- the order has nothing else
pub order_within-only : (s : Schema) (n e f : ℕ) → Contains (order_within s n e) f → IsA s e f
order_within-only s zero e f among = elim (Contains-cases e [] f among) [
  | inl h ↦ let P : ℕ → Type 0 = λ g. IsA s e g in subst P h (itself e)
  | inr (k, below, is) ↦ let none : ⊥ = omega (arith, below) in absurd none
]
order_within-only s (suc n) e f among = elim (Contains-append_cases (flat_map (order_within s n) (supertypes_of s e)) (e ∷ []) f (Contains-not_first (flat_map (order_within s n) (supertypes_of s e) ++ e ∷ []) f among)) [
  | inl h ↦ let (next, up, more) = Contains-one_of (order_within s n) (supertypes_of s e) f h in above e next f up (order_within-only s n next f more)
  | inr h ↦ elim (Contains-cases e [] f h) [
    | inl is ↦ let P : ℕ → Type 0 = λ g. IsA s e g in subst P is (itself e)
    | inr (k, below, is) ↦ let none : ⊥ = omega (arith, below) in absurd none
  ]
]

-- the order has the entity itself
pub order_within-self : (s : Schema) (n e : ℕ) → Contains (order_within s n e) e
order_within-self s zero e = (0, omega arith, refl)
order_within-self s (suc n) e = Contains-firsts (flat_map (order_within s n) (supertypes_of s e) ++ e ∷ []) e (Contains-append_right (flat_map (order_within s n) (supertypes_of s e)) (e ∷ []) e (0, omega arith, refl))
