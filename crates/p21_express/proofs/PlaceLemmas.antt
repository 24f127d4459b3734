-- Places and proper supertypes by their names.
use Rattle.std.specs.Prelude.{◌≡◌, ◌≢◌, ◌↔◌, ℕ, ◌<◌, ◌≤◌, ◌+◌, ◌^◌, Bool, true, false, not, IsTrue, List, [], ◌∷◌, ◌++◌, Option, None, Some, length, map, take, slice_get, Contains, refl, Result, Ok, Err, IfOk, MatchOption}
use Rattle.std.specs.List.{IsDistinct}
use Rattle.std.specs.Str.{bytes_eq}
use Rattle.std.proofs.Common.{arith, ap, sym, ◌∙◌, subst, inl, inr, get_or}
use Rattle.std.proofs.lemmas.Bool.{cases_eq}
use Rattle.std.proofs.lemmas.Option.{get_or_from_slice_get, slice_get_within}
use Rattle.p21_spec_basics.proofs.Members.{Contains-one_of, Contains-flat_map, Each-at}
use Rattle.p21_spec_schema.specs.Order.{order, own_places}
use Rattle.p21_spec_schema.specs.Redeclaration.{IsOwnPlace, IsPlaceOf, IsProperSupertype, RedeclaresPlace, HasNoPlace}
use Rattle.p21_spec_schema.specs.Schema.{Schema, Place, Attribute, Entity, EntityNamed, PlaceNamed, attributes_of}
use Rattle.p21_spec_schema.specs.Supertype.{IsA}
use Rattle.p21_spec_schema.specs.WellFormed.{HasDistinctEntities}
use Rattle.p21_spec_schema.proofs.Orders.{order-has, order_within-self, order_within-only}
use Rattle.p21_express.specs.AttributeNames.{IsKept, own_names}
use Rattle.p21_express.specs.Candidates.{AreCandidates, IsPlaceAbove}
use Rattle.p21_express.specs.Found.{HasDistinctAttributes}
use Rattle.p21_express.specs.NamedOwners.{HasOwners}
use Rattle.p21_express.specs.RedeclarationTarget.{IsPlaceIn, IsTargetIn, IsMissing, IsTargetOf}
use Rattle.p21_express.specs.declared.lookups.RedeclarationTarget.{RedeclarationTarget}
use Rattle.p21_express.specs.declared.lookups.RedeclarationTarget.TheVariants as sought
use Rattle.p21_express_graph.specs.Orders.{numbers}
use Rattle.p21_express_graph.specs.Resolved.{HoldsTogether, IsResolved}
use Rattle.p21_express_graph.proofs.Gatherings.{numbered-at}
use Rattle.p21_express_graph.proofs.Lookups.{each-number, numbers-more}
use Rattle.p21_express_graph.proofs.Naming.{named, unnamed}
use Rattle.p21_express_graph.proofs.OrderTables.{IsA-within, are-entities}
use Rattle.p21_express_graph.specs.declared.number.EntityId.{EntityId}
use Rattle.p21_spec_schema.proofs.OwnPlaces.{own_places-within, own_places-has}

-- an attribute by its entity and its number
abbrev pub at_index : ℕ → ℕ → Place
at_index e k = record { entity = e; index = k }

-- an attribute has one name
pub name-one : (s : Schema) (place : Place) (a b : List ℕ) → PlaceNamed s place a → PlaceNamed s place b → a ≡ b
name-one s place a b (x, at, named) (y, at_, named_) = let both : Some x ≡ Some y = sym at ∙ at_ in let same : x ≡ y = cc in sym named
    ∙ ap (λ z. z.name) same ∙ named_

pub named-within : (s : Schema) (place : Place) (name : List ℕ) → PlaceNamed s place name
    → place.index < length (attributes_of s place.entity)
named-within s place name (x, at, named) = slice_get_within (attributes_of s place.entity) place.index x at

-- none of the attributes of an entity that has the name is such a place
pub no-own-such : (s : Schema) (e : ℕ) (name : List ℕ) (Is : Place → Type 0) (n : ℕ) → length (attributes_of s e) ≤ n
    → ((k : ℕ) → k < n → PlaceNamed s (record { entity = e; index = k }) name → Is (record { entity = e; index = k }) → ⊥)
    → (place : Place) → IsOwnPlace s e name place → Is place → ⊥
no-own-such s e name Is n all none place (same, named) is =
    let f : ℕ → Place = λ g. record { entity = g; index = place.index } in
    let own : PlaceNamed s (f e) name = subst (λ (p : Place). PlaceNamed s p name) (ap f same) named in
    let below = named-within s (f e) name own in
    none place.index (omega (arith, below, all)) own (subst Is (ap f same) is)

-- none of them has the name
pub no-own : (s : Schema) (e : ℕ) (name : List ℕ) (n : ℕ) → length (attributes_of s e) ≤ n
    → ((k : ℕ) → k < n → PlaceNamed s (record { entity = e; index = k }) name → ⊥) → (place : Place) → IsOwnPlace s e name place → ⊥
no-own s e name n all none place own = no-own-such s e name (λ p. Unit {0}) n all (λ k below named u. none k below named) place own tt

-- the entity of the name is no proper supertype
pub not-proper : (s : Schema) → HasDistinctEntities s → (e f : ℕ) (name : List ℕ) → EntityNamed s f name → (IsA s e f → f ≢ e → ⊥)
    → (sup : ℕ) → IsProperSupertype s e sup name → ⊥
not-proper s distinct e f name named none sup (sup_named, is_a, other) =
    let same : sup ≡ f = distinct sup f name sup_named named in
    none (subst (IsA s e) same is_a) (λ is. other (same ∙ is))

-- a place of an entity is one that an entity of its order declares itself
pub place-owner : (s : Schema) (e : ℕ) (name : List ℕ) (place : Place) → IsPlaceOf s e name place
    → (f : ℕ) × Contains (order s e) f × IsOwnPlace s f name place
place-owner s e name place (among, named) =
    let (f, in_order, own) = Contains-one_of (own_places s) (order s e) place among in
    (f, in_order, (sym (own_places-within s f place own).0, named))

-- and the other way round
pub owner-place : (s : Schema) (e f : ℕ) (name : List ℕ) (place : Place) → Contains (order s e) f → IsOwnPlace s f name place
    → IsPlaceOf s e name place
owner-place s e f name place in_order (same, named) =
    let P : ℕ → Type 0 = λ g. place.index < length (attributes_of s g) in
    let below : place.index < length (attributes_of s f) = subst P same (named-within s place name named) in
    let at : ℕ → ℕ → Place = λ g i. record { entity = g; index = i } in
    let is : at f place.index ≡ place = ap (λ g. at g place.index) (sym same) in (
      Contains-flat_map (own_places s) (order s e) f place in_order
          (subst (Contains (own_places s f)) is (own_places-has s f place.index below)),
      named,
    )

-- the place that a name stands for is a place of the entity
pub place-of : (s : Schema) (e : ℕ) (name : List ℕ) (place : Place) → IsPlaceIn s e name place → IsPlaceOf s e name place
place-of s e name place (inl own) = owner-place s e e name place (order_within-self s (length s.entities) e) own
place-of s e name place (inr only) = only.1

-- ---- what a redeclaration stands for

pub proper-one : (s : Schema) → HasDistinctEntities s → (e sup other : ℕ) (name : List ℕ) → IsProperSupertype s e sup name
    → IsProperSupertype s e other name → other ≡ sup
proper-one s distinct e sup other name proper proper_ = distinct other sup name proper_.0 proper.0

pub redeclares-in : (s : Schema) → HasDistinctEntities s → (e sup : ℕ) (supertype name : List ℕ) → IsProperSupertype s e sup supertype
    → (place : Place) → RedeclaresPlace s e supertype name place → IsPlaceIn s sup name place
redeclares-in s distinct e sup supertype name proper place (other, proper_, is) =
    let P : ℕ → Type 0 = λ f. IsPlaceIn s f name place in
    subst P (proper-one s distinct e sup other supertype proper proper_) is

-- what is found in the proper supertype
pub is-target_of : (s : Schema) → HasDistinctEntities s → (e sup : ℕ) (supertype name : List ℕ) → IsProperSupertype s e sup supertype
    → (found : RedeclarationTarget) → IsTargetIn s sup name found → IsTargetOf s e supertype name found
is-target_of s distinct e sup supertype name proper (sought.Place place) is = (sup, proper, is)
is-target_of s distinct e sup supertype name proper (sought.Missing found) (same, none) =
    let P : ℕ → Type 0 = λ f. IsMissing s e supertype name f in
    subst P (sym same) (record {
      proper = proper;
      only = λ other proper_. proper-one s distinct e sup other supertype proper proper_;
      none = none;
      no_place = λ place is. none place (place-of s sup name place (redeclares-in s distinct e sup supertype name proper place is));
    })
is-target_of s distinct e sup supertype name proper sought.Unclear (no_place, some) =
    let P : ℕ → Type 0 = λ f. HasNoPlace s f name in (
      λ place is. no_place place (redeclares-in s distinct e sup supertype name proper place is),
      λ other proper_ none. some (subst P (proper-one s distinct e sup other supertype proper proper_) none),
    )

-- a place of the name, and another one, and none of its own
pub several : (s : Schema) (e : ℕ) (name : List ℕ) (first : Place) → ((place : Place) → IsOwnPlace s e name place → ⊥)
    → IsPlaceOf s e name first → ((place : Place) × IsPlaceOf s e name place × (place ≢ first)) → (place : Place) → IsPlaceIn s e name place
    → ⊥
several s e name first none is (other, is_other, differ) place (inl own) = none place own
several s e name first none is (other, is_other, differ) place (inr (no_own, of, only)) = differ (only other is_other ∙ sym (only first is))

-- ---- entities among which the places of a name are looked for

-- the entities of an order are such
pub order-candidates : (s : Schema) → HoldsTogether s → (e : ℕ) (name : List ℕ) (owners : List EntityId) → e < length s.entities
    → numbers owners ≡ order s e → AreCandidates s e name (numbers owners)
order-candidates s holds e name owners within same = record {
  all = λ f place in_order own. (let P : List ℕ → Type 0 = λ xs. Contains xs f in subst P (sym same) in_order);
  within = λ f among. (let P : List ℕ → Type 0 = λ xs. Contains xs f in
      IsA-within s (are-entities s holds) e f (order_within-only s (length s.entities) e f (subst P same among)) within);
}

-- and so are all that declare an attribute of the name
pub owner-candidates : (s : Schema) (e : ℕ) (name : List ℕ) (owners : List ℕ) → HasOwners s name owners → AreCandidates s e name owners
owner-candidates s e name owners are = record { all = λ f place in_order own. are.all f place own; within = are.within }

pub candidate-within : (s : Schema) (e : ℕ) (name : List ℕ) (owners : List EntityId) → AreCandidates s e name (numbers owners) → (k : ℕ)
    → k < length owners → (get_or owners k record { 0 = 0 }).0 < length s.entities
candidate-within s e name owners are k below = are.within (get_or owners k record { 0 = 0 }).0
    (numbered-at (λ x. x.0) owners k record { 0 = 0 } below)

-- none of them has such a place
pub no-candidate : (s : Schema) (e : ℕ) (name : List ℕ) (Is : Place → Type 0) (owners : List EntityId)
    → AreCandidates s e name (numbers owners) → (n : ℕ) → length owners ≤ n
    → ((k : ℕ) → k < n → (place : Place) → IsPlaceAbove s e (get_or owners k record { 0 = 0 }).0 name place → Is place → ⊥)
    → (place : Place) → IsPlaceOf s e name place → Is place → ⊥
no-candidate s e name Is owners are n all none place of is =
    let (f, in_order, own) = place-owner s e name place of in
    let Q : ℕ → Type 0 = λ g. IsPlaceAbove s e g name place → ⊥ in
    each-number (λ x. x.0) record { 0 = 0 } Q owners f (λ k below above. none k (omega (arith, below, all)) place above is)
    (are.all f place in_order own) (order_within-only s (length s.entities) e f in_order, own)

-- a place that the entity or a supertype of it declares
pub above-has : (s : Schema) → HoldsTogether s → (e f : ℕ) (name : List ℕ) (place : Place) → IsPlaceAbove s e f name place
    → IsPlaceOf s e name place
above-has s holds e f name place (is_a, own) = owner-place s e f name place
    (order-has s (are-entities s holds) holds.supertypes_end e f is_a) own

-- two places that aren't different are one
pub place-one : (p q : Place) → (p ≢ q → ⊥) → p ≡ q
place-one p q none = elim (cases_eq p.entity q.entity) [
  | inl entity ↦ elim (cases_eq p.index q.index) [
    | inl index ↦ let f : ℕ → Place = λ e. record { entity = e; index = p.index } in let g : ℕ
        → Place = λ i. record { entity = q.entity; index = i } in ap f entity ∙ ap g index
    | inr differ ↦ absurd (none (λ same. differ (ap (λ z. z.index) same)))
  ]
  | inr differ ↦ absurd (none (λ same. differ (ap (λ z. z.entity) same)))
]

-- whether there is another place of the name beside one that the owner declares
pub other-of : (s : Schema) → HasDistinctAttributes s → (e f : ℕ) (name : List ℕ) (place first : Place) (same : Bool)
    → IsPlaceAbove s e f name place → (IsTrue same ↔ (place ≡ first)) → IsTrue (not same)
    ↔ ((p : Place) × IsPlaceAbove s e f name p × (p ≢ first))
other-of s distinct e f name place first true (is_a, own) is =
    (λ no. let t : false ≡ true = no in cc, λ (p, above, differ). absurd (differ (distinct f name p place above.1 own ∙ is.0 refl)))
other-of s distinct e f name place first false above is =
    (λ yes. (place, above, λ same. let t : false ≡ true = is.1 same in cc), λ other. refl)

-- the names of all attributes of an entity find each of them
module _ (s : Schema) (e : ℕ) (names : List (List ℕ)) (are : names ≡ own_names s e) (name : List ℕ) where
  pub own-found : (k : ℕ) → slice_get names k ≡ Some name → IsOwnPlace s e name (at_index e k)
  own-found k at = (refl, named (λ a. a.name) (attributes_of s e) k name (ap (λ ns. slice_get ns k) (sym are) ∙ at))

  pub own-none : (Contains names name → ⊥) → (place : Place) → IsOwnPlace s e name place → ⊥
  own-none none place (same, (x, at, is)) =
      let P : List (List ℕ) → Type 0 = λ ns. Contains ns name → ⊥ in
      unnamed (λ a. a.name) (attributes_of s e) name (subst P are none) place.index
      (x, ap (λ f. slice_get (attributes_of s f) place.index) (sym same) ∙ at, is)

-- an entity has few attributes
pub few-attributes : (s : Schema) → HoldsTogether s → (e : ℕ) → length (attributes_of s e) < 2 ^ 32
few-attributes s holds e = by (slice_get s.entities e) refl
  where
    by : (o : Option Entity) → slice_get s.entities e ≡ o → length (attributes_of s e) < 2 ^ 32
    by None at = let P : Option Entity → Type 0 = λ o. length {A = Attribute} (elim o [ Some x ↦ x.attributes | None ↦ [] ]) < 2 ^ 32 in
        subst P (sym at) (omega arith)
    by (Some x) at = let P : Option Entity → Type 0 = λ o. length {A = Attribute} (elim o [ Some x ↦ x.attributes | None ↦ [] ]) < 2 ^ 32 in
        subst P (sym at) (Each-at (IsResolved s) s.entities e x holds.entities_are at).few

-- one name more of the attributes
pub name-next : (s : Schema) (e k : ℕ) → k < length (attributes_of s e) → (name : List ℕ) → PlaceNamed s (at_index e k) name
    → (names after : List (List ℕ)) → names ≡ map (λ a. a.name) (take k (attributes_of s e)) → after ≡ names ++ name ∷ []
    → after ≡ map (λ a. a.name) (take (k + 1) (attributes_of s e))
name-next s e k below name (x, at, is) names after names_are after_is =
    let read : get_or (attributes_of s e) k x ≡ x = get_or_from_slice_get (attributes_of s e) k x x at in
    after_is ∙ ap (λ ns. ns ++ name ∷ []) names_are ∙ ap (λ n. map (λ a. a.name) (take k (attributes_of s e)) ++ n ∷ [])
    (sym is ∙ ap (λ a. a.name) (sym read)) ∙ sym (numbers-more (λ a. a.name) (attributes_of s e) k x below)

-- names that are kept where they are different
pub kept-names : {E : Type 0} (s : Schema) (e : ℕ) (listed : List (List ℕ)) (result : Result (Option (List (List ℕ))) E)
    → listed ≡ own_names s e → IfOk result (λ found. MatchOption found (IsDistinct bytes_eq listed → ⊥) (λ names. names ≡ listed))
    → IfOk result (IsKept s e)
kept-names s e listed (Ok (Some names)) are is = is ∙ are
kept-names s e listed (Ok None) are is = tt
kept-names s e listed (Err fault) are is = tt
