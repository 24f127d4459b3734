-- What look-ups over lists of entities find.
use Rattle.std.specs.Prelude.{◌≡◌, ℕ, zero, suc, ◌+◌, ◌<◌, List, [], ◌∷◌, ◌++◌, length, map, take, Contains, refl, slice_get, Some, None, Option, MatchOption}
use Rattle.std.specs.List.{enumerate_from}
use Rattle.std.proofs.Common.{arith, ap, sym, ◌∙◌, subst, inl, inr, get_or, append_assoc}
use Rattle.std.specs.Option.{option_map}
use Rattle.std.proofs.lemmas.Bool.{cases_lt}
use Rattle.std.proofs.lemmas.List.{map-append}
use Rattle.std.proofs.lemmas.Option.{slice_get-map, slice_get_read, slice_get_within}
use Rattle.std.proofs.lemmas.List.Elements.{Contains-append_cases}
use Rattle.p21_spec_basics.proofs.Members.{Contains-none, Contains-cases, AllZip-member}
use Rattle.p21_spec_schema.specs.Schema.{Schema, Place, Attribute, attributes_of, AreRisingByName, EntityNamed, TypeNamed}
use Rattle.p21_spec_schema.specs.Supertype.{IsLeaf, LeavesAmong, no_more, leaf_next, other_next}
use Rattle.p21_spec_schema.specs.Order.{own_places}
use Rattle.p21_express_graph.specs.Lookups.{places_from, AreEntities}
use Rattle.p21_express_graph.specs.Orders.{numbers}
use Rattle.p21_express_graph.specs.Resolved.{IsEntity, IsType}
use Rattle.p21_express_graph.specs.declared.number.EntityId.{EntityId}

-- a number that stands at no index is none of them
pub unnumbered : {X Y : Type 0} (number : X → Y) (d : X) (xs : List X) (x : Y) → ((k : ℕ) → k < length xs → number (get_or xs k d) ≡ x → ⊥) → Contains (map number xs) x → ⊥
unnumbered number d [] x none among = Contains-none x among
unnumbered number d (y ∷ xs) x none among = elim (Contains-cases (number y) (map number xs) x among) [
  | inl h ↦ none zero (omega arith) h
  | inr h ↦ unnumbered number d xs x (λ k below is. none (suc k) (omega (arith, below)) is) h
]

-- one element more of a list
pub take-snoc : {X : Type 0} (xs : List X) (k : ℕ) (d : X) → k < length xs → take (suc k) xs ≡ take k xs ++ get_or xs k d ∷ []
take-snoc [] k d below = let none : ⊥ = omega (arith, below) in absurd none
take-snoc (x ∷ xs) zero d below = refl
take-snoc (x ∷ xs) (suc k) d below = ap (λ ys. x ∷ ys) (take-snoc xs k d (omega (arith, below)))

-- a leaf more, and another entity more
pub leaf-more : (s : Schema) (entities es leaves : List ℕ) (e : ℕ) → LeavesAmong s entities es leaves → IsLeaf s entities e → LeavesAmong s entities (es ++ e ∷ []) (leaves ++ e ∷ [])
leaf-more s entities _ _ e no_more is = leaf_next e [] [] is no_more
leaf-more s entities _ _ e (leaf_next f es leaves is_leaf more) is = leaf_next f (es ++ e ∷ []) (leaves ++ e ∷ []) is_leaf (leaf-more s entities es leaves e more is)
leaf-more s entities _ _ e (other_next f es leaves no_leaf more) is = other_next f (es ++ e ∷ []) (leaves ++ e ∷ []) no_leaf (leaf-more s entities es leaves e more is)

pub other-more : (s : Schema) (entities es leaves : List ℕ) (e : ℕ) → LeavesAmong s entities es leaves → ¬ IsLeaf s entities e → LeavesAmong s entities (es ++ e ∷ []) leaves
other-more s entities _ _ e no_more is = other_next e [] [] is no_more
other-more s entities _ _ e (leaf_next f es leaves is_leaf more) is = leaf_next f (es ++ e ∷ []) leaves is_leaf (other-more s entities es leaves e more is)
other-more s entities _ _ e (other_next f es leaves no_leaf more) is = other_next f (es ++ e ∷ []) leaves no_leaf (other-more s entities es leaves e more is)

-- each is a leaf
pub leaves-all : (s : Schema) (entities among leaves : List ℕ) → LeavesAmong s entities among leaves → (e : ℕ) → Contains leaves e → IsLeaf s entities e
leaves-all s entities among leaves no_more e there = absurd (Contains-none e there)
leaves-all s entities among leaves (leaf_next f es ls leaf rest) e there = elim (Contains-cases f ls e there) [
  | inl h ↦ subst (IsLeaf s entities) h leaf
  | inr h ↦ leaves-all s entities es ls rest e h
]
leaves-all s entities among leaves (other_next f es ls other rest) e there = leaves-all s entities es leaves rest e there

-- the places of an entity by their numbers
own-from : (e : ℕ) (k : ℕ) (xs : List Attribute) → map (λ p. record { entity = e; index = p.0 }) (enumerate_from k xs) ≡ places_from e k (length xs)
own-from e k [] = refl
own-from e k (x ∷ xs) = ap (λ ps. record { entity = e; index = k } ∷ ps) (own-from e (k + 1) xs)

pub own-places-are : (s : Schema) (e : ℕ) → places_from e 0 (length (attributes_of s e)) ≡ own_places s e
own-places-are s e = sym (own-from e 0 (attributes_of s e))

pub places-more : (e k n : ℕ) → places_from e k (n + 1) ≡ places_from e k n ++ record { entity = e; index = k + n } ∷ []
places-more e k n = let next : n + 1 ≡ suc n = omega arith in ap (places_from e k) next ∙ more k n
  where
    more : (k n : ℕ) → places_from e k (suc n) ≡ places_from e k n ++ record { entity = e; index = k + n } ∷ []
    more k zero = let same : k ≡ k + 0 = omega arith in ap (λ i. record { entity = e; index = i } ∷ []) same
    more k (suc n) = let same : k + 1 + n ≡ k + suc n = omega arith in ap (λ ps. record { entity = e; index = k } ∷ ps) (more (k + 1) n ∙ ap (λ i. places_from e (k + 1) n ++ record { entity = e; index = i } ∷ []) same)

pub up-to : (P : ℕ → Type 0) (n : ℕ) → ((k : ℕ) → k < n → P k) → P n → (k : ℕ) → k < n + 1 → P k
up-to P n before at k below = elim (cases_lt k n) [ inl h ↦ before k h | inr h ↦ (let same : n ≡ k = omega (arith, h, below) in subst P same at) ]

-- the list at an index of stored lists
pub list-at : {X Y : Type 0} (items : X → Y) (xs : List X) (lists : List Y) (k : ℕ) (x : X) (listed : Y) → map items xs ≡ lists → k < length xs → x ≡ get_or xs k x → slice_get lists k ≡ Some listed → listed ≡ items x
list-at items xs lists k x listed same below is at =
    let found : slice_get (map items xs) k ≡ Some (items x) = slice_get-map items xs k ∙ ap (option_map items) (slice_get_read xs (length xs) k x refl below is) in
    let e : Some listed ≡ Some (items x) = sym at ∙ ap (λ ls. slice_get ls k) (sym same) ∙ found in cc

-- one number more of a list
pub numbers-more : {X Y : Type 0} (number : X → Y) (xs : List X) (k : ℕ) (d : X) → k < length xs → map number (take (k + 1) xs) ≡ map number (take k xs) ++ number (get_or xs k d) ∷ []
numbers-more number xs k d below =
    let next : k + 1 ≡ suc k = omega arith in
    ap (λ n. map number (take n xs)) next ∙ ap (map number) (take-snoc xs k d below) ∙ map-append number (take k xs) (get_or xs k d ∷ [])

-- one place more
pub place-more : {X : Type 0} (f : X → Place) (found after : List X) (x : X) (before : List Place) (e i : ℕ) → after ≡ found ++ x ∷ [] → f x ≡ record { entity = e; index = i } → map f found ≡ before ++ places_from e 0 i → map f after ≡ before ++ places_from e 0 (i + 1)
place-more f found after x before e i after_is place_is found_is =
    let zero_ : 0 + i ≡ i = omega arith in
    ap (map f) after_is ∙ map-append f found (x ∷ []) ∙ ap (λ ps. ps ++ f x ∷ []) found_is ∙ append_assoc before (places_from e 0 i) (f x ∷ [])
    ∙ ap (λ p. before ++ (places_from e 0 i ++ p ∷ [])) (place_is ∙ ap (λ n. record { entity = e; index = n }) (sym zero_))
    ∙ ap (λ ps. before ++ ps) (sym (places-more e 0 i))

-- a leaf stands among the leaves so far
pub leaves-then : {X : Type 0} (number : X → ℕ) (s : Schema) (xs : List X) (k : ℕ) (d : X) (leaves after : List X) → k < length xs → LeavesAmong s (map number xs) (map number (take k xs)) (map number leaves) → IsLeaf s (map number xs) (number (get_or xs k d))
    → after ≡ leaves ++ get_or xs k d ∷ [] → LeavesAmong s (map number xs) (map number (take (k + 1) xs)) (map number after)
leaves-then number s xs k d leaves after below so_far is after_is =
    let P : List ℕ → Type 0 = λ es. LeavesAmong s (map number xs) es (map number after) in
    let Q : List ℕ → Type 0 = λ ls. LeavesAmong s (map number xs) (map number (take k xs) ++ number (get_or xs k d) ∷ []) ls in
    subst P (sym (numbers-more number xs k d below)) (subst Q (sym (ap (map number) after_is ∙ map-append number leaves (get_or xs k d ∷ []))) (leaf-more s (map number xs) (map number (take k xs)) (map number leaves) (number (get_or xs k d)) so_far is))

-- and another entity doesn't
pub leaves-else : {X : Type 0} (number : X → ℕ) (s : Schema) (xs : List X) (k : ℕ) (d : X) (leaves : List X) → k < length xs → LeavesAmong s (map number xs) (map number (take k xs)) (map number leaves) → ¬ IsLeaf s (map number xs) (number (get_or xs k d))
    → LeavesAmong s (map number xs) (map number (take (k + 1) xs)) (map number leaves)
leaves-else number s xs k d leaves below so_far is =
    let P : List ℕ → Type 0 = λ es. LeavesAmong s (map number xs) es (map number leaves) in
    subst P (sym (numbers-more number xs k d below)) (other-more s (map number xs) (map number (take k xs)) (map number leaves) (number (get_or xs k d)) so_far is)

-- the same of an option, with other words
pub map-option : {A : Type 0} (o : Option A) (N M : Type 0) (S T : A → Type 0) → (N → M) → ((a : A) → S a → T a) → MatchOption o N S → MatchOption o M T
map-option None N M S T none some is = none is
map-option (Some a) N M S T none some is = some a is

-- what holds of each index holds of each number
pub each-number : {X Y : Type 0} (number : X → Y) (d : X) (P : Y → Type 0) (xs : List X) (x : Y) → ((k : ℕ) → k < length xs → P (number (get_or xs k d))) → Contains (map number xs) x → P x
each-number number d P [] x each among = absurd (Contains-none x among)
each-number number d P (y ∷ xs) x each among = elim (Contains-cases (number y) (map number xs) x among) [
  | inl h ↦ subst P h (each zero (omega arith))
  | inr h ↦ each-number number d P xs x (λ k below. each (suc k) (omega (arith, below))) h
]

-- the entities so far and one more
pub known-more : (s : Schema) (es : List EntityId) (x : EntityId) → AreEntities s (numbers es) → IsEntity s x.0 → AreEntities s (numbers (es ++ x ∷ []))
known-more s es x are is e among = elim (Contains-append_cases (numbers es) (x.0 ∷ []) e (subst (λ (ns : List ℕ). Contains ns e) (map-append (λ (y : EntityId). y.0) es (x ∷ [])) among)) [
  | inl before ↦ are e before
  | inr last ↦ elim (Contains-cases x.0 [] e last) [ inl same ↦ subst (IsEntity s) same is | inr none ↦ absurd (Contains-none e none) ]
]

-- the entities of a set that rises are those of the schema
pub rising-known : (s : Schema) (entities : List ℕ) → AreRisingByName s entities → AreEntities s entities
rising-known s entities (names, named, rise) e among = let (name, at, (x, is, same)) = AllZip-member (EntityNamed s) entities names e named among in slice_get_within s.entities e x is

-- a type of a name is one of the schema
pub type-named : (s : Schema) (t : ℕ) (name : List ℕ) → TypeNamed s t name → IsType s t
type-named s t name (x, at, is) = slice_get_within s.types t x at
