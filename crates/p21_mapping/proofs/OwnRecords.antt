-- Records of internal form, by what is known of their entity.
use Rattle.std.specs.Prelude.{◌≡◌, ◌≢◌, ◌<◌, ℕ, zero, suc, List, [], ◌∷◌, length, map, slice_get, Some, Contains, refl}
use Rattle.std.specs.List.{AllByRecursion as Each, AllZip, zip}
use Rattle.std.proofs.Common.{ap, sym, subst, ◌∙◌, inl, inr, get_or}
use Rattle.p21_spec_basics.proofs.Members.{Contains-cases, Contains-first, Contains-later, Contains-none, Contains-one_of}
use Rattle.p21_express_graph.proofs.Resolving.{stored-is}
use Rattle.p21_express_graph.specs.Resolved.{HoldsTogether, IsPlace}
use Rattle.p21_mapping.proofs.GrownLists.{mapped-at}
use Rattle.p21_mapping.proofs.OwnSets.{same-itself}
use Rattle.p21_mapping.proofs.Shapes.{simple-miscount, simple-set}
use Rattle.p21_mapping.specs.Known.{AreOwnTypes, BreaksParams}
use Rattle.p21_mapping.specs.Outcome.{IsStoredIn}
use Rattle.p21_mapping.specs.Shape.{PassesOwnSet}
use Rattle.p21_spec_exchange.specs.Parameter.{Param, listed}
use Rattle.p21_spec_exchange.specs.Record.{Part, simple}
use Rattle.p21_spec_file.specs.BrokenRule.{Breaks, at_place}
use Rattle.p21_spec_file.specs.BrokenValue.{BreaksAtPlace}
use Rattle.p21_spec_file.specs.Meaning.{NamesEntity}
use Rattle.p21_spec_schema.proofs.OwnPlaces.{own_places-within}
use Rattle.p21_spec_schema.specs.Order.{order, own_places, places}
use Rattle.p21_spec_schema.specs.PlaceType.{PlaceType, TypeAt, derived_place, stored_place, two_redeclarations}
use Rattle.p21_spec_schema.specs.Schema.{Place, Schema, attributes_of}

-- a place of an entity is one of the schema
pub place-within : (s : Schema) (e : ℕ) (place : Place) → Contains (places s e) place → IsPlace s place
place-within s e place among =
    let (f, in_order, own) = Contains-one_of (own_places s) (order s e) place among in
    let (same, below) = own_places-within s f place own in
    let P : ℕ → Type 0 = λ g. place.index < length (attributes_of s g) in
    subst P same below

-- where redeclarations don't leave a place open, it is decided what may stand there
stored-in : (s : Schema) → HoldsTogether s → (entities : List ℕ) (place : Place) (at : PlaceType) → TypeAt s entities place at
    → (TypeAt s entities place two_redeclarations → ⊥) → IsStoredIn s at
stored-in s holds entities place derived_place type_at decided = tt
stored-in s holds entities place (stored_place optional type) type_at decided = stored-is s holds entities place optional type type_at
stored-in s holds entities place two_redeclarations type_at decided = decided type_at

same-length : {X Y : Type 0} (R : X → Y → Type 0) (xs : List X) (ys : List Y) → AllZip R xs ys → length xs ≡ length ys
same-length R [] [] all = refl
same-length R [] (y ∷ ys) all = absurd all
same-length R (x ∷ xs) [] all = absurd all
same-length R (x ∷ xs) (y ∷ ys) all = ap suc (same-length R xs ys all.1)

-- it is decided at each place what may stand there
pub types-stored : (s : Schema) → HoldsTogether s → (e : ℕ) (types : List PlaceType) → PassesOwnSet s e → AreOwnTypes s e types
    → Each (IsStoredIn s) types
types-stored s holds e types passes are = each (places s e) types are (λ place among. among)
  where
    each : (ps : List Place) (ts : List PlaceType) → AllZip (TypeAt s (order s e)) ps ts
        → ((place : Place) → Contains ps place → Contains (places s e) place) → Each (IsStoredIn s) ts
    each [] [] all within = tt
    each [] (t ∷ ts) all within = absurd all
    each (p ∷ ps) [] all within = absurd all
    each (p ∷ ps) (t ∷ ts) all within = (
      stored-in s holds (order s e) p t all.0 (λ two. passes.2 (p, (within p (Contains-first p ps), two))),
      each ps ts all.1 (λ place among. within place (Contains-later p ps place among)),
    )

-- what stands at one place of two lists stands beside each other
zip-at : {X Y : Type 0} (xs : List X) (ys : List Y) (k : ℕ) (x : X) (y : Y) → slice_get xs k ≡ Some x → slice_get ys k ≡ Some y
    → Contains (zip xs ys) (x, y)
zip-at [] ys k x y at at_ = cc
zip-at (z ∷ xs) [] k x y at at_ = cc
zip-at {X} {Y} (z ∷ xs) (w ∷ ys) zero x y at at_ =
    let left : z ≡ x = cc in
    let right : w ≡ y = cc in
    let P : X → Type 0 = λ v. Contains ((z, w) ∷ zip xs ys) (v, w) in
    let Q : Y → Type 0 = λ v. Contains ((z, w) ∷ zip xs ys) (x, v) in
    subst Q right (subst P left (Contains-first (z, w) (zip xs ys)))
zip-at (z ∷ xs) (w ∷ ys) (suc k) x y at at_ = Contains-later (z, w) (zip xs ys) (x, y) (zip-at xs ys k x y at at_)

-- what a list that was read has there
pub mapped-is : {X Y : Type 0} (f : X → Y) (xs : List X) (k : ℕ) (x : X) → k < length xs → x ≡ get_or xs k x
    → slice_get (map f xs) k ≡ Some (f x)
mapped-is f xs k x below is = mapped-at f xs k x below ∙ ap (λ y. Some (f y)) (sym is)

-- the parameter at one of the places breaks the rule
pub broken-at : (s : Schema) (types : List PlaceType) (params : List Param) (k number : ℕ) (at same_at : PlaceType) (p same_p : Param)
    → slice_get types k ≡ Some at → slice_get params k ≡ Some p → same_at ≡ at → same_p ≡ p → BreaksAtPlace s same_at same_p number
    → BreaksParams s types params number
broken-at s types params k number at same_at p same_p at_is p_is same same_ breaks =
    let P : PlaceType → Type 0 = λ x. BreaksAtPlace s x p number in
    let Q : Param → Type 0 = λ y. BreaksAtPlace s same_at y number in
    (at, p, zip-at types params k at p at_is p_is, subst P same (subst Q same_ breaks))

-- what stands beside an element of one list stands beside one of another, place by place
zip-back : {X Y Z : Type 0} (R : X → Y → Type 0) (xs : List X) (ys : List Y) (zs : List Z) → AllZip R xs ys → (y : Y) (z : Z)
    → Contains (zip ys zs) (y, z) → (x : X) × Contains (zip xs zs) (x, z) × R x y
zip-back R [] [] zs all y z among = absurd (Contains-none (y, z) among)
zip-back R [] (w ∷ ys) zs all y z among = absurd all
zip-back R (x ∷ xs) [] zs all y z among = absurd all
zip-back R (x ∷ xs) (w ∷ ys) [] all y z among = absurd (Contains-none (y, z) among)
zip-back {X} {Y} {Z} R (x ∷ xs) (w ∷ ys) (u ∷ us) all y z among = elim (Contains-cases (w, u) (zip ys us) (y, z) among) [
  | inl h ↦
      let P : Z → Type 0 = λ q. Contains ((x, u) ∷ zip xs us) (x, q) in
      let Q : Y → Type 0 = λ q. R x q in
      (x, subst P (ap (λ (p : Y × Z). p.1) h) (Contains-first (x, u) (zip xs us)), subst Q (ap (λ (p : Y × Z). p.0) h) all.0)
  | inr h ↦ let (other, at, holds) = zip-back R xs ys us all.1 y z h in (other, Contains-later (x, u) (zip xs us) (other, z) at, holds)
]

module _ (s : Schema) (part : Part) (e : ℕ) (named : NamesEntity s part.key e) (types : List PlaceType) (are : AreOwnTypes s e types) where
  -- a record with another number of parameters than places breaks the rule on that
  pub types-miscount : length types ≢ length (listed part.params) → Breaks s (simple part) 45
  types-miscount differ = simple-miscount s part e named
      (λ count. differ (sym (same-length (TypeAt s (order s e)) (places s e) types are) ∙ sym count))

  -- a record breaks the rule that one of its parameters breaks
  pub params-break : HoldsTogether s → (number : ℕ) → BreaksParams s types (listed part.params) number → Breaks s (simple part) number
  params-break holds number (at, p, among, breaks) =
      let (place, stands, type_at) = zip-back (TypeAt s (order s e)) (places s e) types (listed part.params) are at p among in
      at_place number (
        order s e,
        place,
        at,
        p,
        simple-set s holds holds.entities_distinct part e (order s e) named
            (same-itself (order s e)),
        type_at,
        (part, e, (Contains-first part [], named), stands),
        breaks,
      )
