-- The table of the orders of all entities.
use Rattle.std.specs.Prelude.{◌≡◌, ◌≢◌, ◌↔◌, ℕ, zero, suc, ◌+◌, ◌<◌, ◌⊎◌, List, [], ◌∷◌, ◌++◌, Some, None, Option, length, map, slice_get, slice_set, take, drop, Contains, refl}
use Rattle.std.specs.List.{AllByRecursion as Each, flat_map}
use Rattle.std.proofs.Common.{arith, ap, sym, ◌∙◌, subst, inl, inr, append_assoc, get_or, drop-cons}
use Rattle.std.specs.Option.{option_map}
use Rattle.std.proofs.lemmas.Bool.{cases_eq}
use Rattle.std.proofs.lemmas.Option.{slice_get-map}
use Rattle.std.proofs.lemmas.List.{length-map, length-set}
use Rattle.p21_spec_basics.proofs.Members.{Contains-none, Contains-later, Contains-cases, Contains-found, Each-member, Each-at, flat_map-same}
use Rattle.p21_spec_schema.specs.Schema.{Schema, Entity}
use Rattle.p21_spec_schema.specs.Supertype.{IsA, itself, above, supertypes_of}
use Rattle.p21_spec_schema.specs.Order.{order, first_occurrences}
use Rattle.p21_spec_schema.specs.Declared.{HasNoCircle, HasSupertype}
use Rattle.p21_spec_schema.proofs.Orders.{order-is, order-has, order_within-only}
use Rattle.p21_spec_schema.specs.WellFormed.{AreEntities}
use Rattle.p21_express_graph.specs.SettledOrder.{nexts_of, IsNext, IsSettledOrder, AreWithin}
use Rattle.p21_express_graph.specs.Gathering.{add_first, add_firsts}
use Rattle.p21_express_graph.specs.Resolved.{HoldsTogether, IsEntity}
use Rattle.p21_express_graph.specs.Orders.{AreOrders, supertype_lists, numbers}
use Rattle.p21_express_graph.specs.SchemaContents.{entity}
use Rattle.p21_express_graph.specs.declared.schema_contents.Entity.{Entity as Declared}
use Rattle.p21_express_graph.proofs.Gatherings.{gathers}

-- the list of a number, after a list was set
pub set-same : (lists : List (List ℕ)) (x : ℕ) (list : List ℕ) → x < length lists → nexts_of (slice_set lists x list) x ≡ list
set-same [] x list below = let none : ⊥ = omega (arith, below) in absurd none
set-same (l ∷ lists) zero list below = refl
set-same (l ∷ lists) (suc x) list below = set-same lists x list (omega (arith, below))

pub set-other : (lists : List (List ℕ)) (x y : ℕ) (list : List ℕ) → y ≢ x → nexts_of (slice_set lists x list) y ≡ nexts_of lists y
set-other [] x y list other = refl
set-other (l ∷ lists) zero zero list other = absurd (other refl)
set-other (l ∷ lists) zero (suc y) list other = refl
set-other (l ∷ lists) (suc x) zero list other = refl
set-other (l ∷ lists) (suc x) (suc y) list other = set-other lists x y list (λ e. other (ap suc e))

pub map-set : {X Y : Type 0} (f : X → Y) (xs : List X) (k : ℕ) (x : X) → map f (slice_set xs k x) ≡ slice_set (map f xs) k (f x)
map-set f [] k x = refl
map-set f (y ∷ xs) zero x = refl
map-set f (y ∷ xs) (suc k) x = ap (λ zs. f y ∷ zs) (map-set f xs k x)

-- what is among one number more
pub take-more : (xs : List ℕ) (k y : ℕ) → Contains (take (suc k) xs) y → Contains (take k xs) y ⊎ (slice_get xs k ≡ Some y)
take-more [] k y among = absurd (Contains-none y among)
take-more (x ∷ xs) zero y among = elim (Contains-cases x [] y among) [ inl h ↦ inr (ap Some h) | inr h ↦ absurd (Contains-none y h) ]
take-more (x ∷ xs) (suc k) y among = elim (Contains-cases x (take (suc k) xs) y among) [
  | inl h ↦ inl (0, omega arith, h)
  | inr h ↦ elim (take-more xs k y h) [ inl more ↦ inl (Contains-later x (take k xs) y more) | inr is ↦ inr is ]
]

-- the supertypes of an entity, in the list of lists
pub supertypes-listed : (s : Schema) (e : ℕ) → nexts_of (supertype_lists s) e ≡ supertypes_of s e
supertypes-listed s e = let P : Option (List ℕ) → Type 0 = λ o. ◌≡◌ {A = List ℕ} (elim o [ Some nexts ↦ nexts | None ↦ [] ]) (supertypes_of s e) in subst P (sym (slice_get-map (λ x. x.supertypes) s.entities e)) (cases (slice_get s.entities e))
  where
    cases : (o : Option Entity) → ◌≡◌ {A = List ℕ} (elim (option_map (λ x. x.supertypes) o) [ Some nexts ↦ nexts | None ↦ [] ]) (elim o [ Some x ↦ x.supertypes | None ↦ [] ])
    cases None = refl
    cases (Some x) = refl

-- supertypes are entities
pub are-entities : (s : Schema) → HoldsTogether s → AreEntities s
are-entities s holds e f up = cases (slice_get s.entities e) refl
  where
    cases : (o : Option Entity) → slice_get s.entities e ≡ o → f < length s.entities
    cases None is = let P : Option Entity → Type 0 = λ o. Contains (elim o [ Some x ↦ x.supertypes | None ↦ [] ]) f in absurd (Contains-none f (subst P is up))
    cases (Some x) is = let P : Option Entity → Type 0 = λ o. Contains (elim o [ Some y ↦ y.supertypes | None ↦ [] ]) f in
        Each-member (IsEntity s) x.supertypes f (Each-at _ s.entities e x holds.entities_are is).supertypes_are (subst P is up)

pub IsA-within : (s : Schema) → AreEntities s → (e f : ℕ) → IsA s e f → e < length s.entities → f < length s.entities
IsA-within s are e f (itself _) below = below
IsA-within s are e f (above _ next _ up more) below = IsA-within s are next f more (are e next up)

-- the lists of what was listed so far are orders, and all lists have entities
pub record AreSoFar (s : Schema) (lists : List (List ℕ)) (done : List ℕ) : Type 0 where
  pub size : length lists ≡ length s.entities
  pub orders : (e : ℕ) → Contains done e → nexts_of lists e ≡ order s e
  pub within : (e f : ℕ) → Contains (nexts_of lists e) f → f < length s.entities

-- before the first
pub none-so-far : (s : Schema) (lists : List (List ℕ)) → length lists ≡ length s.entities → ((x : ℕ) → nexts_of lists x ≡ []) → AreSoFar s lists []
none-so-far s lists size none = record {
  size = size;
  orders = λ e among. absurd (Contains-none e among);
  within = λ e f among. let P : List ℕ → Type 0 = λ xs. Contains xs f in absurd (Contains-none f (subst P (none e) among));
}

module _ (s : Schema) (holds : HoldsTogether s) (listed : List ℕ) (settled_order : IsSettledOrder (supertype_lists s) listed) (lists : List (List ℕ)) (k e : ℕ) (at : slice_get listed k ≡ Some e) (so_far : AreSoFar s lists (take k listed)) where
  pub is-entity : e < length s.entities
  is-entity = omega (arith, length-map s.entities (λ x. x.supertypes), settled_order.within e (Contains-found listed k e at))

  -- what is gathered of the next entity is its order
  pub next-order : add_firsts [] (flat_map (nexts_of lists) (supertypes_of s e) ++ e ∷ []) ≡ order s e
  next-order = gathers [] (flat_map (nexts_of lists) (supertypes_of s e) ++ e ∷ [])
      ∙ ap (λ xs. first_occurrences (xs ++ e ∷ [])) (flat_map-same (nexts_of lists) (order s) (supertypes_of s e) (λ f up. so_far.orders f (settled_order.behind k e f at (let P : List ℕ → Type 0 = λ xs. Contains xs f in subst P (sym (supertypes-listed s e)) up))))
      ∙ sym (order-is s (are-entities s holds) holds.supertypes_end e)

  pub so-far-more : AreSoFar s (slice_set lists e (order s e)) (take (suc k) listed)
  so-far-more = record {
    size = length-set lists e (order s e) ∙ so_far.size;
    orders = λ f among. elim (cases_eq f e) [
      | inl same ↦ (let P : ℕ → Type 0 = λ g. nexts_of (slice_set lists e (order s e)) g ≡ order s g in subst P (sym same) (set-same lists e (order s e) (omega (arith, is-entity, so_far.size))))
      | inr other ↦ set-other lists e f (order s e) other ∙ so_far.orders f (elim (take-more listed k f among) [ inl h ↦ h | inr h ↦ absurd (other (let same : Some f ≡ Some e = sym h ∙ at in let inner : f ≡ e = cc in inner)) ])
    ];
    within = λ f g among. elim (cases_eq f e) [
      | inl same ↦ (let P : ℕ → Type 0 = λ h. Contains (nexts_of (slice_set lists e (order s e)) h) g in
          let Q : List ℕ → Type 0 = λ xs. Contains xs g in
          IsA-within s (are-entities s holds) e g (order_within-only s (length s.entities) e g (subst Q (set-same lists e (order s e) (omega (arith, is-entity, so_far.size))) (subst P same among))) is-entity)
      | inr other ↦ so_far.within f g (let Q : List ℕ → Type 0 = λ xs. Contains xs g in subst Q (set-other lists e f (order s e) other) among)
    ];
  }

-- at the end the table has all orders
pub all-orders : (s : Schema) (listed : List ℕ) → IsSettledOrder (supertype_lists s) listed → (lists : List (List ℕ)) → AreSoFar s lists listed → AreOrders s lists
all-orders s listed settled_order lists so_far = record { size = so_far.size; each = λ e below. found lists e (order s e) (so_far.orders e (settled_order.all e (omega (arith, below, length-map s.entities (λ x. x.supertypes))))) (omega (arith, below, so_far.size)) }
  where
    found : (ls : List (List ℕ)) (x : ℕ) (list : List ℕ) → nexts_of ls x ≡ list → x < length ls → slice_get ls x ≡ Some list
    found [] x list is below = let none : ⊥ = omega (arith, below) in absurd none
    found (l ∷ ls) zero list is below = ap Some is
    found (l ∷ ls) (suc x) list is below = found ls x list is (omega (arith, below))

-- where all lists are empty, nothing comes next
pub nexts-empty : {X : Type 0} (items : X → List ℕ) (xs : List X) → Each (λ x. items x ≡ []) xs → (x : ℕ) → nexts_of (map items xs) x ≡ []
nexts-empty items [] none x = refl
nexts-empty items (l ∷ lists) none zero = none.0
nexts-empty items (l ∷ lists) none (suc x) = nexts-empty items lists none.1 x

-- what is gathered of two lists
pub add-both : (xs ys zs : List ℕ) → add_firsts xs (ys ++ zs) ≡ add_firsts (add_firsts xs ys) zs
add-both xs [] zs = refl
add-both xs (y ∷ ys) zs = add-both (add_first xs y) ys zs

-- one list more is gathered
pub gather-step : {X : Type 0} (number : X → ℕ) (nexts : ℕ → List ℕ) (rest xs new : List ℕ) (ys : List X) (k : ℕ) (d : X) → k < length ys → new ≡ add_firsts xs (nexts (number (get_or ys k d)))
    → add_firsts new (flat_map nexts (map number (drop (k + 1) ys)) ++ rest) ≡ add_firsts xs (flat_map nexts (map number (drop k ys)) ++ rest)
gather-step {X} number nexts rest xs new ys k d below new_is =
    let after : List ℕ = flat_map nexts (map number (drop (suc k) ys)) in
    let next : k + 1 ≡ suc k = omega arith in
    let split : flat_map nexts (map number (drop k ys)) ++ rest ≡ nexts (number (get_or ys k d)) ++ (after ++ rest) =
    ap (λ zs. flat_map nexts (map number zs) ++ rest) (drop-cons ys k d below) ∙ append_assoc (nexts (number (get_or ys k d))) after rest in
    ap (λ n. add_firsts new (flat_map nexts (map number (drop n ys)) ++ rest)) next
    ∙ ap (λ zs. add_firsts zs (after ++ rest)) new_is
    ∙ sym (add-both xs (nexts (number (get_or ys k d))) (after ++ rest))
    ∙ ap (add_firsts xs) (sym split)

-- the supertypes of the entities of parts
pub lists-are : (entities : List Declared) → map (λ x. x.supertypes) (map entity entities) ≡ map (λ x. numbers x.supertypes.items) entities
lists-are [] = refl
lists-are (x ∷ entities) = ap (λ ls. numbers x.supertypes.items ∷ ls) (lists-are entities)

pub no-circle : (s : Schema) → HasNoCircle (HasSupertype s) → HasNoCircle (IsNext (supertype_lists s))
no-circle s ends = (ends.0, λ x y next. ends.1 x y (let P : List ℕ → Type 0 = λ xs. Contains xs y in subst P (supertypes-listed s x) next))

pub lists-within : (s : Schema) → HoldsTogether s → AreWithin (supertype_lists s)
lists-within s holds x y next = let below = are-entities s holds x y (let P : List ℕ → Type 0 = λ xs. Contains xs y in subst P (supertypes-listed s x) next) in omega (arith, below, length-map s.entities (λ z. z.supertypes))

-- an entity is a supertype just where it is in the order
pub order-tells : (s : Schema) → HoldsTogether s → (e f : ℕ) → Contains (order s e) f ↔ IsA s e f
order-tells s holds e f = (λ among. order_within-only s (length s.entities) e f among, λ is. order-has s (are-entities s holds) holds.supertypes_end e f is)
