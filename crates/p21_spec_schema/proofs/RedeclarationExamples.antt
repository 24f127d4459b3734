-- The places that redeclarations stand for, where a name is that of several places, of one on several ways, or of none.
use Rattle.std.specs.Prelude.{◌≡◌, ℕ, zero, suc, true, false, List, [], ◌∷◌, codes, Some, None, refl, slice_get}
use Rattle.std.specs.Str.{bytes_eq}
use Rattle.std.proofs.lemmas.Slice.Eq.{bytes_eq-Decides}
use Rattle.std.proofs.Common.{arith, inl, inr, ap, sym, subst, ◌∙◌}
use Rattle.p21_spec_schema.specs.EntityDeclaration.{EntityDeclaration, own}
use Rattle.p21_spec_schema.specs.SupertypeConstraint.{no_constraint}
use Rattle.p21_spec_schema.specs.Schema as schema
use Rattle.p21_spec_schema.specs.Schema.{Schema, Place, Entity, EntityNamed, attributes_of}
use Rattle.p21_spec_schema.specs.Supertype.{itself, above}
use Rattle.p21_spec_schema.specs.Redeclaration.{IsOwnPlace, IsPlaceOf, RedeclaresPlace, HasNoPlace}
use Rattle.p21_spec_schema.specs.DeclaredEntity.{DeclaresDerived, no_more, a_place, no_place}
use Rattle.p21_spec_basics.proofs.Members.{Contains-none, Each-member}
use Rattle.p21_spec_schema.proofs.DeclaredSchemas.{HasDistinctEntities}
use Rattle.p21_spec_schema.proofs.TestSchemas.{entity_of, attribute}

abbrev schema_with : List Entity → Schema
schema_with entities = record { name = codes "S"; types = []; entities = entities; one_of_lists = [] }

abbrev place_of : ℕ → Place
place_of e = record { entity = e; index = 0 }

-- the only entity of this name
abbrev IsOnly : Schema → ℕ → List ℕ → Type 0
IsOnly s sup name = (e : ℕ) → EntityNamed s e name → e ≡ sup

-- R and Q each have a K, M is a subtype of both, N of M
abbrev r_and_q : Schema
r_and_q = schema_with (entity_of (codes "R") [] (attribute (codes "K") schema.whole ∷ []) ∷ entity_of (codes "Q") [] (attribute (codes "K") schema.real ∷ []) ∷ entity_of (codes "M") (0 ∷ 1 ∷ []) [] ∷ entity_of (codes "N") (2 ∷ []) [] ∷ [])

named_apart : (x : Entity) (name other : List ℕ) → bytes_eq name other ≡ false → x.name ≡ name → x.name ≡ other → ⊥
named_apart x name other apart is is_other = let h : true ≡ false = sym ((bytes_eq-Decides name other).1 (sym is ∙ is_other)) ∙ apart in cc

only_m : IsOnly r_and_q 2 (codes "M")
only_m zero (x, at, is) = let h : x ≡ entity_of (codes "R") [] (attribute (codes "K") schema.whole ∷ []) = cc in absurd (named_apart x (codes "R") (codes "M") refl (ap (λ y. y.name) h) is)
only_m (suc zero) (x, at, is) = let h : x ≡ entity_of (codes "Q") [] (attribute (codes "K") schema.real ∷ []) = cc in absurd (named_apart x (codes "Q") (codes "M") refl (ap (λ y. y.name) h) is)
only_m (suc (suc zero)) named = refl
only_m (suc (suc (suc zero))) (x, at, is) = let h : x ≡ entity_of (codes "N") (2 ∷ []) [] = cc in absurd (named_apart x (codes "N") (codes "M") refl (ap (λ y. y.name) h) is)
only_m (suc (suc (suc (suc e)))) (x, at, is) = cc

k_of_r : IsPlaceOf r_and_q 2 (codes "K") (place_of 0)
k_of_r = ((0, omega arith, refl), (attribute (codes "K") schema.whole, refl, refl))

k_of_q : IsPlaceOf r_and_q 2 (codes "K") (place_of 1)
k_of_q = ((1, omega arith, refl), (attribute (codes "K") schema.real, refl, refl))

-- so in N `SELF\m.k` stands for no place: there are several
pub several-are_none : (place : Place) → RedeclaresPlace r_and_q 3 (codes "M") (codes "K") place → ⊥
several-are_none place (sup, (named, is_a, proper), inl (entity_is, (a, at, is))) =
    let P : ℕ → Type 0 = λ e. slice_get (attributes_of r_and_q e) place.index ≡ Some a in
    let h : slice_get (attributes_of r_and_q 2) place.index ≡ Some a = subst P (entity_is ∙ only_m sup named) at in cc
several-are_none place (sup, (named, is_a, proper), inr (none, of_sup, only)) =
    let P : ℕ → Type 0 = λ e. (other : Place) → IsPlaceOf r_and_q e (codes "K") other → other ≡ place in
    let all : (other : Place) → IsPlaceOf r_and_q 2 (codes "K") other → other ≡ place = subst P (only_m sup named) only in
    let h : 0 ≡ 1 = ap (λ p. p.entity) (all (place_of 0) k_of_r ∙ sym (all (place_of 1) k_of_q)) in omega (arith, h)

-- and a DERIVE of it is refused, whatever M derives
pub several-derive_nothing : (declarations : List EntityDeclaration) (found : List Place) → DeclaresDerived r_and_q declarations 3 ((codes "M", codes "K") ∷ []) found → ⊥
several-derive_nothing declarations found (a_place _ _ place _ _ stands more) = several-are_none place stands
several-derive_nothing declarations found (no_place _ _ sup _ _ proper none derives more) = let P : ℕ → Type 0 = λ e. HasNoPlace r_and_q e (codes "K") in subst P (only_m sup proper.0) none (place_of 0) k_of_r

-- the K of R on two ways is one place: A and B are subtypes of R, C of both, D of C
abbrev on_two_ways : Schema
on_two_ways = schema_with (entity_of (codes "R") [] (attribute (codes "K") schema.whole ∷ []) ∷ entity_of (codes "A") (0 ∷ []) [] ∷ entity_of (codes "B") (0 ∷ []) [] ∷ entity_of (codes "C") (1 ∷ 2 ∷ []) [] ∷ entity_of (codes "D") (3 ∷ []) [] ∷ [])

pub one-on_two_ways : RedeclaresPlace on_two_ways 4 (codes "C") (codes "K") (place_of 0)
one-on_two_ways = (3, ((entity_of (codes "C") (1 ∷ 2 ∷ []) [], refl, refl), above 4 3 3 (0, omega arith, refl) (itself 3), omega arith), inr (no_own, ((0, omega arith, refl), (attribute (codes "K") schema.whole, refl, refl)), only))
  where
    no_own : (other : Place) → IsOwnPlace on_two_ways 3 (codes "K") other → ⊥
    no_own other (entity_is, (a, at, is)) = let P : ℕ → Type 0 = λ e. slice_get (attributes_of on_two_ways e) other.index ≡ Some a in let h : slice_get (attributes_of on_two_ways 3) other.index ≡ Some a = subst P entity_is at in cc

    only : (other : Place) → IsPlaceOf on_two_ways 3 (codes "K") other → other ≡ place_of 0
    only other (among, found) = Each-member (λ p. p ≡ place_of 0) (place_of 0 ∷ []) other (refl, tt) among

-- B has an X of its own besides that of A, its supertype: for C, below B, `SELF\b.x` stands for that of B alone
abbrev two_x : Schema
two_x = schema_with (entity_of (codes "A") [] (attribute (codes "X") schema.number ∷ []) ∷ entity_of (codes "B") (0 ∷ []) (attribute (codes "X") schema.real ∷ []) ∷ entity_of (codes "C") (1 ∷ []) [] ∷ [])

pub own_before_others : RedeclaresPlace two_x 2 (codes "B") (codes "X") (place_of 1)
own_before_others = (1, ((entity_of (codes "B") (0 ∷ []) (attribute (codes "X") schema.real ∷ []), refl, refl), above 2 1 1 (0, omega arith, refl) (itself 1), omega arith), inl (refl, (attribute (codes "X") schema.real, refl, refl)))

-- an entity redeclares no attribute as its own supertype
pub itself-is_no_supertype : (s : Schema) → HasDistinctEntities s → (e : ℕ) (entity name : List ℕ) (place : Place) → EntityNamed s e entity → RedeclaresPlace s e entity name place → ⊥
itself-is_no_supertype s distinct e entity name place named (sup, (sup_named, is_a, proper), which) = proper (distinct sup e entity sup_named named)

-- `ENTITY a; DERIVE z : ..; END_ENTITY; ENTITY b SUBTYPE OF (a); DERIVE SELF\a.z : ..; SELF\a.z : ..; END_ENTITY;`: there
-- is no such place, and both count for nothing
abbrev no_attributes : Schema
no_attributes = schema_with (entity_of (codes "A") [] [] ∷ entity_of (codes "B") (0 ∷ []) [] ∷ [])

abbrev derives_z : EntityDeclaration
derives_z = record { name = codes "A"; constraint = no_constraint; subtype_of = None; explicit = []; derive = Some (record { name = own (codes "Z"); run = [] } ∷ []); rules = None }

pub derived-counts_nothing : (b : EntityDeclaration) → DeclaresDerived no_attributes (derives_z ∷ b ∷ []) 1 ((codes "A", codes "Z") ∷ (codes "A", codes "Z") ∷ []) []
derived-counts_nothing b = again _ [] (again [] [] no_more)
  where
    again : (names : List (List ℕ × List ℕ)) (found : List Place) → DeclaresDerived no_attributes (derives_z ∷ b ∷ []) 1 names found → DeclaresDerived no_attributes (derives_z ∷ b ∷ []) 1 ((codes "A", codes "Z") ∷ names) found
    again names found more = no_place (codes "A") (codes "Z") 0 names found ((entity_of (codes "A") [] [], refl, refl), above 1 0 0 (0, omega arith, refl) (itself 0), omega arith) (λ place of_a. Contains-none place of_a.0) (0, derives_z, itself 0, refl, (0, omega arith, refl)) more
