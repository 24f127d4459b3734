-- Records in which a part of the set is left out: the other rules still speak of the whole set.
use Rattle.std.specs.Prelude.{◌≡◌, ℕ, zero, suc, pos, false, List, [], ◌∷◌, codes, Contains, refl}
use Rattle.std.specs.List.{IsDistinct}
use Rattle.std.specs.Str.{bytes_eq}
use Rattle.std.proofs.Common.{arith, rules, sym, subst}
use Rattle.p21_spec_file.specs.BrokenRule.{Breaks, part_missing, one_of, HasTwoRedeclarations}
use Rattle.p21_spec_file.specs.Meaning.{NamesEntity}
use Rattle.p21_spec_exchange.specs.Parameter.{whole, Params, no_params, param, key_of}
use Rattle.p21_spec_schema.specs.PlaceType.{TypeAt, two_redeclarations, Redeclares}
use Rattle.p21_spec_exchange.specs.Record.{Part, complex}
use Rattle.p21_spec_file.specs.RecordPlaces.{HasPart, IsEntitySetOf}
use Rattle.p21_spec_schema.specs.Declared.{HasSupertype}
use Rattle.p21_spec_schema.specs.Order.{own_places}
use Rattle.p21_spec_schema.specs.Schema as schema
use Rattle.p21_spec_schema.specs.Schema.{Schema, Entity, Place, Redeclared, EntityNamed}
use Rattle.p21_spec_schema.specs.Supertype.{IsA, itself, above, InClosure}
use Rattle.p21_spec_schema.proofs.DeclaredSchemas.{names_of_all, distinct_names-entities}
use Rattle.p21_spec_basics.proofs.Members.{Contains-none, Each-member}
use Rattle.p21_spec_file.proofs.OneMeaning.{NamesEntity-one}
use Rattle.p21_spec_file.proofs.RecordSets.{external-set}
use Rattle.p21_spec_schema.proofs.TestSchemas.{entity_of, attribute, redeclares_k, k_as, k_place}

abbrev part_of : List ℕ → Params → Part
part_of name params = record { key = key_of name; params = params }

abbrev one_params : Params
one_params = param (whole (pos 1)) no_params

-- S has the subtypes A and B, which exclude each other, and A the subtype D
abbrev below_a : Schema
below_a = record {
  name = codes "BELOW";
  types = [];
  entities = entity_of (codes "S") [] (attribute (codes "K") schema.whole ∷ []) ∷ entity_of (codes "A") (0 ∷ []) [] ∷ entity_of (codes "B") (0 ∷ []) [] ∷ entity_of (codes "D") (1 ∷ []) [] ∷ [];
  one_of_lists = (1 ∷ 2 ∷ []) ∷ [];
}

below_a-distinct : IsDistinct bytes_eq (names_of_all below_a)
unfolding IsDistinct
below_a-distinct = search rules

-- `(D()B()S(1))`
abbrev d_b_s_parts : List Part
d_b_s_parts = part_of (codes "D") no_params ∷ part_of (codes "B") no_params ∷ part_of (codes "S") one_params ∷ []

abbrev below_set : List ℕ
below_set = 3 ∷ 1 ∷ 2 ∷ 0 ∷ []

below_supertypes : (e f : ℕ) → HasSupertype below_a e f → Contains below_set f
below_supertypes zero f among = absurd (Contains-none f among)
below_supertypes (suc zero) f among = Each-member (Contains below_set) (0 ∷ []) f ((3, omega arith, refl), tt) among
below_supertypes (suc (suc zero)) f among = Each-member (Contains below_set) (0 ∷ []) f ((3, omega arith, refl), tt) among
below_supertypes (suc (suc (suc zero))) f among = Each-member (Contains below_set) (1 ∷ []) f ((1, omega arith, refl), tt) among
below_supertypes (suc (suc (suc (suc e)))) f among = absurd (Contains-none f among)

below_above : (e f : ℕ) → Contains below_set e → IsA below_a e f → Contains below_set f
below_above e f among (itself _) = among
below_above e f among (above _ next _ up more) = below_above next f (below_supertypes e next up) more

d-is_a : IsA below_a 3 1
d-is_a = above 3 1 1 (0, omega arith, refl) (itself 1)

d_b_s-set : IsEntitySetOf below_a (complex d_b_s_parts) below_set
d_b_s-set = external-set below_a (distinct_names-entities below_a below_a-distinct) d_b_s_parts (3 ∷ 2 ∷ 0 ∷ []) below_set
    ((codes "D", (_, refl, refl), refl), ((codes "B", (_, refl, refl), refl), ((codes "S", (_, refl, refl), refl), tt))) (λ f. (in_closure f, λ (e, among, up). below_above e f (Each-member (Contains below_set) (3 ∷ 2 ∷ 0 ∷ []) e ((0, omega arith, refl), ((2, omega arith, refl), ((3, omega arith, refl), tt))) among) up))
  where
    in_closure : (f : ℕ) → Contains below_set f → InClosure below_a (3 ∷ 2 ∷ 0 ∷ []) f
    in_closure f among = Each-member (InClosure below_a (3 ∷ 2 ∷ 0 ∷ [])) below_set f ((3, (0, omega arith, refl), itself 3), ((3, (0, omega arith, refl), d-is_a), ((2, (1, omega arith, refl), itself 2), ((0, (2, omega arith, refl), itself 0), tt)))) among

-- no part names A, which excludes B all the same
pub d_b_s-misses : Breaks below_a (complex d_b_s_parts) 43
d_b_s-misses = part_missing (1, (part_of (codes "D") no_params, 3, ((0, omega arith, refl), (codes "D", (_, refl, refl), refl)), d-is_a), no_a)
  where
    no_a : (part : Part) → HasPart below_a (complex d_b_s_parts) part 1 → ⊥
    no_a part (among, named) = Each-member (λ (x : Part). NamesEntity below_a x.key 1 → ⊥) d_b_s_parts part (other (codes "D") 3 (omega arith) (_, refl, refl), (other (codes "B") 2 (omega arith) (_, refl, refl), (other (codes "S") 0 (omega arith) (_, refl, refl), tt))) among named
      where
        other : (word : List ℕ) (e : ℕ) → (e ≡ 1 → ⊥) → EntityNamed below_a e word → NamesEntity below_a (key_of word) 1 → ⊥
        other word e differ is named_a = differ (NamesEntity-one below_a (distinct_names-entities below_a below_a-distinct) (key_of word) e 1 (word, is, refl) named_a)

pub d_b_s-clashes : Breaks below_a (complex d_b_s_parts) 58
d_b_s-clashes = one_of (below_set, d_b_s-set, (1 ∷ 2 ∷ [], (0, omega arith, refl), (1, 2, (0, omega arith, refl), (1, omega arith, refl), omega arith, (1, omega arith, refl), (2, omega arith, refl))))

-- A and B redeclare the K of R, and so does C, a subtype of both, whose subtype is D
abbrev decided : Schema
decided = record {
  name = codes "DECIDED";
  types = [];
  one_of_lists = [];
  entities = entity_of (codes "R") [] (attribute (codes "K") schema.number ∷ []) ∷ redeclares_k (codes "A") schema.whole ∷ redeclares_k (codes "B") schema.real
      ∷ record { name = codes "C"; is_abstract = false; supertypes = 1 ∷ 2 ∷ []; attributes = []; redeclared = k_as schema.whole ∷ []; derived = [] } ∷ entity_of (codes "D") (3 ∷ []) [] ∷ [];
}

-- `(A()B()D()R(1))`
abbrev a_b_d_r_parts : List Part
a_b_d_r_parts = part_of (codes "A") no_params ∷ part_of (codes "B") no_params ∷ part_of (codes "D") no_params ∷ part_of (codes "R") one_params ∷ []

c-is_all : (f : ℕ) (r : Redeclared) → Redeclares decided f r → IsA decided 3 f
c-is_all zero r (x, at, among) = above 3 1 0 (0, omega arith, refl) (above 1 0 0 (0, omega arith, refl) (itself 0))
c-is_all (suc zero) r (x, at, among) = above 3 1 1 (0, omega arith, refl) (itself 1)
c-is_all (suc (suc zero)) r (x, at, among) = above 3 2 2 (1, omega arith, refl) (itself 2)
c-is_all (suc (suc (suc zero))) r (x, at, among) = itself 3
c-is_all (suc (suc (suc (suc zero)))) r (x, at, among) =
    let P : Entity → Type 0 = λ y. Contains y.redeclared r in
    let is : x ≡ entity_of (codes "D") (3 ∷ []) [] = cc in absurd (Contains-none r (subst P is among))
c-is_all (suc (suc (suc (suc (suc f))))) r (x, at, among) = cc

-- no part names C, which decides all the same
decided-not_open : HasTwoRedeclarations decided (complex a_b_d_r_parts) → ⊥
decided-not_open (entities, e, place, set_is, among, of_e, two) = by e of_e
  where
    c_among : Contains entities 3
    c_among = (set_is 3).1 (part_of (codes "D") no_params, 4, ((2, omega arith, refl), (codes "D", (_, refl, refl), refl)), above 4 3 3 (0, omega arith, refl) (itself 3))

    at_k : TypeAt decided entities k_place two_redeclarations → ⊥
    at_k open_ = open_.2 (k_as schema.whole) (3, (c_among, (_, refl, (0, omega arith, refl)), refl), λ f r found. c-is_all f r found.1)

    by : (e : ℕ) → Contains (own_places decided e) place → ⊥
    by zero of_e = let P : Place → Type 0 = λ p. TypeAt decided entities p two_redeclarations in at_k (subst P (sym (Each-member (λ p. k_place ≡ p) (k_place ∷ []) place (refl, tt) of_e)) two)
    by (suc zero) of_e = Contains-none place of_e
    by (suc (suc zero)) of_e = Contains-none place of_e
    by (suc (suc (suc zero))) of_e = Contains-none place of_e
    by (suc (suc (suc (suc zero)))) of_e = Contains-none place of_e
    by (suc (suc (suc (suc (suc e))))) of_e = Contains-none place of_e
