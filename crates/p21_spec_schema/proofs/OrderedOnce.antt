-- An order has each entity once, and each supertype before its subtypes.
use Rattle.std.specs.Prelude.{◌≡◌, ◌≢◌, ℕ, zero, suc, List, [], ◌∷◌, ◌++◌, length, Contains, refl, Bool, true, false, cond, filter, not, nat_eq}
use Rattle.std.specs.List.{flat_map, IsDistinct, AllByRecursion as Each}
use Rattle.std.proofs.Common.{arith, subst, ap, sym, ◌∙◌, inl, inr, append_assoc}
use Rattle.std.proofs.lemmas.Bool.{cases_eq, eqb-true, not-true, not-false}
use Rattle.std.proofs.lemmas.List.Elements.{Contains-append_left, Contains-append_right, Contains-append_cases}
use Rattle.p21_spec_schema.specs.Schema.{Schema}
use Rattle.p21_spec_schema.specs.Supertype.{IsA, itself, above, supertypes_of}
use Rattle.p21_spec_schema.specs.Order.{order_within, order, first_occurrences}
use Rattle.p21_spec_schema.specs.Declared.{HasNoCircle, HasSupertype}
use Rattle.p21_spec_schema.specs.WellFormed.{AreEntities}
use Rattle.p21_spec_basics.proofs.Members.{Contains-none, Contains-first, Contains-later, Contains-cases, Contains-flat_map}
use Rattle.p21_spec_schema.proofs.Orders.{HasHeight, order-height, order_within-self}

by_test : (P : List ℕ → Type 0) (b : Bool) (xs ys : List ℕ) → (b ≡ true → P xs) → (b ≡ false → P ys) → P (cond b xs ys)
by_test P true xs ys passes fails = passes refl
by_test P false xs ys passes fails = fails refl

Each-filtered : (P : ℕ → Type 0) (test : ℕ → Bool) (xs : List ℕ) → Each P xs → Each P (filter test xs)
Each-filtered P test [] each = tt
Each-filtered P test (x ∷ xs) each = let rest : Each P (filter test xs) = Each-filtered P test xs each.1 in by_test (Each P) (test x) (x ∷ filter test xs) (filter test xs) (λ h. (each.0, rest)) (λ h. rest)

IsDistinct-filtered : (test : ℕ → Bool) (xs : List ℕ) → IsDistinct nat_eq xs → IsDistinct nat_eq (filter test xs)
unfolding IsDistinct
IsDistinct-filtered test [] distinct = tt
IsDistinct-filtered test (x ∷ xs) distinct =
    let rest : IsDistinct nat_eq (filter test xs) = IsDistinct-filtered test xs distinct.1 in
    by_test (IsDistinct nat_eq) (test x) (x ∷ filter test xs) (filter test xs) (λ h. (Each-filtered (λ y. nat_eq x y ≡ false) test xs distinct.0, rest)) (λ h. rest)

others-differ : (e : ℕ) (xs : List ℕ) → Each (λ y. nat_eq e y ≡ false) (filter (λ f. not (nat_eq e f)) xs)
others-differ e [] = tt
others-differ e (x ∷ xs) =
    let rest : Each (λ y. nat_eq e y ≡ false) (filter (λ f. not (nat_eq e f)) xs) = others-differ e xs in
    by_test (Each (λ y. nat_eq e y ≡ false)) (not (nat_eq e x)) (x ∷ filter (λ f. not (nat_eq e f)) xs) (filter (λ f. not (nat_eq e f)) xs) (λ h. (not-true (nat_eq e x) h, rest)) (λ h. rest)

firsts-distinct : (xs : List ℕ) → IsDistinct nat_eq (first_occurrences xs)
unfolding IsDistinct
firsts-distinct [] = tt
firsts-distinct (e ∷ es) = (others-differ e (first_occurrences es), IsDistinct-filtered (λ f. not (nat_eq e f)) (first_occurrences es) (firsts-distinct es))

-- the order has each entity once
pub order_within-distinct : (s : Schema) (n e : ℕ) → IsDistinct nat_eq (order_within s n e)
unfolding IsDistinct
order_within-distinct s zero e = (tt, tt)
order_within-distinct s (suc n) e = firsts-distinct (flat_map (order_within s n) (supertypes_of s e) ++ e ∷ [])

pub order-distinct : (s : Schema) (e : ℕ) → IsDistinct nat_eq (order s e)
order-distinct s e = order_within-distinct s (length s.entities) e

-- each of the entities has its direct supertypes among those seen and those before it
abbrev AreBehind : Schema → List ℕ → List ℕ → Type 0
AreBehind s seen [] = Unit {0}
AreBehind s seen (e ∷ es) = ((f : ℕ) → HasSupertype s e f → Contains seen f) × AreBehind s (e ∷ seen) es

abbrev AreWithin : List ℕ → List ℕ → Type 0
AreWithin xs ys = (x : ℕ) → Contains xs x → Contains ys x

AreWithin-later : (e : ℕ) (xs ys : List ℕ) → AreWithin xs ys → AreWithin (e ∷ xs) (e ∷ ys)
AreWithin-later e xs ys within x among = elim (Contains-cases e xs x among) [ inl h ↦ (0, omega arith, h) | inr h ↦ Contains-later e ys x (within x h) ]

AreWithin-seen : (e : ℕ) (xs : List ℕ) → Contains xs e → AreWithin (e ∷ xs) xs
AreWithin-seen e xs seen x among = elim (Contains-cases e xs x among) [ inl h ↦ let P : ℕ → Type 0 = λ y. Contains xs y in subst P h seen | inr h ↦ h ]

AreBehind-wider : (s : Schema) (seen wider es : List ℕ) → AreWithin seen wider → AreBehind s seen es → AreBehind s wider es
AreBehind-wider s seen wider [] within behind = tt
AreBehind-wider s seen wider (e ∷ es) within behind = (λ f up. within f (behind.0 f up), AreBehind-wider s (e ∷ seen) (e ∷ wider) es (AreWithin-later e seen wider within) behind.1)

AreBehind-filtered : (s : Schema) (e : ℕ) (seen es : List ℕ) → Contains seen e → AreBehind s seen es → AreBehind s seen (filter (λ f. not (nat_eq e f)) es)
AreBehind-filtered s e seen [] in_seen behind = tt
AreBehind-filtered s e seen (x ∷ xs) in_seen behind = by_test (AreBehind s seen) (not (nat_eq e x)) (x ∷ filter (λ f. not (nat_eq e f)) xs) (filter (λ f. not (nat_eq e f)) xs)
    (λ h. (behind.0, AreBehind-filtered s e (x ∷ seen) xs (Contains-later x seen e in_seen) behind.1))
    (λ h. let same : e ≡ x = eqb-true e x (not-false (nat_eq e x) h) in
    let P : ℕ → Type 0 = λ y. Contains seen y in
    AreBehind-filtered s e seen xs in_seen (AreBehind-wider s (x ∷ seen) seen xs (AreWithin-seen x seen (subst P same in_seen)) behind.1))

AreBehind-firsts : (s : Schema) (seen es : List ℕ) → AreBehind s seen es → AreBehind s seen (first_occurrences es)
AreBehind-firsts s seen [] behind = tt
AreBehind-firsts s seen (e ∷ es) behind = (behind.0, AreBehind-filtered s e (e ∷ seen) (first_occurrences es) (Contains-first e seen) (AreBehind-firsts s (e ∷ seen) es behind.1))

AreBehind-joined : (s : Schema) (seen xs ys : List ℕ) → AreBehind s seen xs → ((wider : List ℕ) → AreWithin seen wider → AreWithin xs wider → AreBehind s wider ys) → AreBehind s seen (xs ++ ys)
AreBehind-joined s seen [] ys behind more = more seen (λ x among. among) (λ x among. absurd (Contains-none x among))
AreBehind-joined s seen (x ∷ xs) ys behind more = (behind.0, AreBehind-joined s (x ∷ seen) xs ys behind.1 later)
  where
    later : (wider : List ℕ) → AreWithin (x ∷ seen) wider → AreWithin xs wider → AreBehind s wider ys
    later wider within others = more wider (λ y among. within y (Contains-later x seen y among)) (λ y among. elim (Contains-cases x xs y among) [ inl h ↦ (let P : ℕ → Type 0 = λ z. Contains wider z in subst P h (within x (Contains-first x seen))) | inr h ↦ others y h ])

AreBehind-flat_map : (s : Schema) (g : ℕ → List ℕ) (seen es : List ℕ) → ((e : ℕ) → Contains es e → AreBehind s [] (g e)) → AreBehind s seen (flat_map g es)
AreBehind-flat_map s g seen [] each = tt
AreBehind-flat_map s g seen (e ∷ es) each = AreBehind-joined s seen (g e) (flat_map g es) (AreBehind-wider s [] seen (g e) (λ x among. absurd (Contains-none x among)) (each e (Contains-first e es)))
    (λ wider within others. AreBehind-flat_map s g wider es (λ f among. each f (Contains-later e es f among)))

-- with as many levels as there are supertypes above, the order has each supertype before its subtypes
order_within-behind : (s : Schema) (n e : ℕ) → HasHeight s n e → AreBehind s [] (order_within s n e)
order_within-behind s zero e high = (λ f up. absurd (high f up), tt)
order_within-behind s (suc n) e high = AreBehind-firsts s [] (flat_map (order_within s n) (supertypes_of s e) ++ e ∷ [])
    (AreBehind-joined s [] (flat_map (order_within s n) (supertypes_of s e)) (e ∷ []) (AreBehind-flat_map s (order_within s n) [] (supertypes_of s e) (λ f up. order_within-behind s n f (high f up))) last)
  where
    last : (wider : List ℕ) → AreWithin [] wider → AreWithin (flat_map (order_within s n) (supertypes_of s e)) wider → AreBehind s wider (e ∷ [])
    last wider within others = (λ f up. others f (Contains-flat_map (order_within s n) (supertypes_of s e) f f up (order_within-self s n f)), tt)

AreBehind-before : (s : Schema) (seen before : List ℕ) (e : ℕ) (after : List ℕ) (f : ℕ) → AreBehind s seen (before ++ e ∷ after) → HasSupertype s e f → Contains (before ++ seen) f
AreBehind-before s seen [] e after f behind up = behind.0 f up
AreBehind-before s seen (x ∷ xs) e after f behind up = elim (Contains-append_cases xs (x ∷ seen) f (AreBehind-before s (x ∷ seen) xs e after f behind.1 up)) [
  | inl h ↦ Contains-later x (xs ++ seen) f (Contains-append_left xs seen f h)
  | inr h ↦ elim (Contains-cases x seen f h) [ inl is ↦ (0, omega arith, is) | inr more ↦ Contains-later x (xs ++ seen) f (Contains-append_right xs seen f more) ]
]

-- what stands before a member is before it
Contains-split : (xs : List ℕ) (x : ℕ) → Contains xs x → (before after : List ℕ) × (xs ≡ before ++ x ∷ after)
Contains-split [] x among = absurd (Contains-none x among)
Contains-split (y ∷ ys) x among = elim (Contains-cases y ys x among) [
  | inl h ↦ ([], ys, ap (λ z. z ∷ ys) h)
  | inr h ↦ let (before, after, is) = Contains-split ys x h in (y ∷ before, after, ap (λ zs. y ∷ zs) is)
]

order-behind : (s : Schema) → AreEntities s → HasNoCircle (HasSupertype s) → (e : ℕ) → AreBehind s [] (order s e)
order-behind s are ends e = order_within-behind s (length s.entities) e (order-height s are ends e)

-- each direct or indirect supertype of an entity stands before it in every order
pub order-before : (s : Schema) → AreEntities s → HasNoCircle (HasSupertype s) → (e : ℕ) (before : List ℕ) (f : ℕ) (after : List ℕ) → order s e ≡ before ++ f ∷ after → (g : ℕ) → IsA s f g → g ≢ f → Contains before g
order-before s are ends e before f after is g (itself _) other = absurd (other refl)
order-before s are ends e before f after is g (above _ next _ up more) other =
    let P : List ℕ → Type 0 = AreBehind s [] in
    let among : Contains (before ++ []) next = AreBehind-before s [] before f after next (subst P is (order-behind s are ends e)) up in
    let found : Contains before next = elim (Contains-append_cases before [] next among) [ inl h ↦ h | inr h ↦ absurd (Contains-none next h) ] in
    elim (cases_eq g next) [
      | inl h ↦ (let Q : ℕ → Type 0 = λ x. Contains before x in subst Q (sym h) found)
      | inr h ↦ let (front, back, split) = Contains-split before next found in
          let whole : order s e ≡ front ++ next ∷ (back ++ f ∷ after) = is ∙ ap (λ xs. xs ++ f ∷ after) split ∙ append_assoc front (next ∷ back) (f ∷ after) in
          let Q : List ℕ → Type 0 = λ xs. Contains xs g in
          subst Q (sym split) (Contains-append_left front (next ∷ back) g (order-before s are ends e front next (back ++ f ∷ after) whole g more h))
    ]
