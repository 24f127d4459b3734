-- Records whose keywords, sets and places break rules, and records that break none.
use Rattle.std.specs.Prelude.{◌≡◌, ℕ, pos, List, [], ◌∷◌, codes, Contains, refl}
use Rattle.std.specs.List.{IsDistinct}
use Rattle.std.specs.Str.{bytes_eq}
use Rattle.std.proofs.Common.{arith, rules, inl, inr, ap, sym, subst, ◌∙◌}
use Rattle.p21_spec_file.specs.BrokenRule.{Breaks, unknown_entity, abstract_leaf, part_missing, part_twice, wrong_count, open_place, one_of, at_place}
use Rattle.p21_spec_file.specs.BrokenValue.{BreaksAtPlace, derived_not_star}
use Rattle.p21_spec_file.specs.Meaning.{NamesEntity}
use Rattle.p21_spec_exchange.specs.Parameter.{Param, dollar, real, whole, Params, no_params, param, key_of}
use Rattle.p21_spec_exchange.specs.Record.{Part, Record, simple, complex}
use Rattle.p21_spec_schema.specs.PlaceType.{derived_place}
use Rattle.p21_spec_file.specs.RecordPlaces.{HasPart}
use Rattle.p21_spec_schema.specs.Schema.{Schema, EntityNamed}
use Rattle.p21_spec_schema.specs.Supertype.{IsA, itself, InClosure}
use Rattle.p21_spec_file.proofs.BrokenRules.{broken-means_nothing}
use Rattle.p21_spec_schema.proofs.DeclaredSchemas.{declared-well_formed, names_of_all, distinct_names-entities, distinct_names-apart}
use Rattle.p21_spec_file.proofs.MeaningExamples.{demo-distinct, named, one, two, nought, origin_set, origin-is, origin-closed, origin-x}
use Rattle.p21_spec_basics.proofs.Members.{Contains-none, Each-at, Each-member}
use Rattle.p21_spec_file.proofs.OneOfExamples.{a_b_s, s_c_a, a_c_meaning, a_b_meaning, a-named, b-named, s-named, with_s-closed, a_and_c-mean, a_and_b-mean_without_list}
use Rattle.p21_spec_schema.proofs.OrderExamples.{point-is_shape, demo-is_a}
use Rattle.p21_spec_schema.proofs.PlaceTypeExamples.{redecl-is_a, redecl-two}
use Rattle.p21_spec_file.proofs.RecordSets.{internal-set, closed-set}
use Rattle.p21_spec_schema.proofs.SoleSchema.{a_b_list, sole, sole_with, sole_tree, a_or_b, andor_c, sole-declares, andor-declares}
use Rattle.p21_spec_schema.proofs.TestSchemas.{demo, shape, point, origin, x_place, redecl, k_place}
use Rattle.p21_spec_basics.proofs.Comparing.{bytes_eq-apart}

abbrev part_of : List ℕ → Params → Part
part_of name params = record { key = key_of name; params = params }

-- `FOO()` under DEMO
pub foo-breaks : Breaks demo (simple (part_of (codes "FOO") no_params)) 41
foo-breaks = unknown_entity (part_of (codes "FOO") no_params, (0, omega arith, refl), unknown)
  where
    unknown : (e : ℕ) → NamesEntity demo (key_of (codes "FOO")) e → ⊥
    unknown e (name, (x, at, is), key_is) =
        let foo : x.name ≡ codes "FOO" = is ∙ sym (ap (λ k. k.word) key_is) in
        Each-at (λ y. y.name ≡ codes "FOO" → ⊥) demo.entities e x (bytes_eq-apart _ _ refl, (bytes_eq-apart _ _ refl, (bytes_eq-apart _ _ refl, (bytes_eq-apart _ _ refl, (bytes_eq-apart _ _ refl, tt))))) at foo

-- `DISTANCE(1.)`, whose keyword is the name of a type
pub distance-breaks : Breaks demo (simple (part_of (codes "DISTANCE") (param (real one) no_params))) 41
distance-breaks = unknown_entity (part_of (codes "DISTANCE") (param (real one) no_params), (0, omega arith, refl), unknown)
  where
    unknown : (e : ℕ) → NamesEntity demo (key_of (codes "DISTANCE")) e → ⊥
    unknown e (name, is, key_is) = let P : List ℕ → Type 0 = λ n. EntityNamed demo e n in distinct_names-apart demo demo-distinct e 0 (codes "DISTANCE") (subst P (sym (ap (λ k. k.word) key_is)) is) (_, refl, refl)

-- a record of external mapping with no simple record breaks no rule; a reader makes none
pub no_parts-break_nothing : (s : Schema) (number : ℕ) → Breaks s (complex []) number → ⊥
no_parts-break_nothing s number (unknown_entity (part, among, unknown)) = Contains-none part among
no_parts-break_nothing s number (part_twice (i, j, part, other, differ, at, at_, same)) = cc
no_parts-break_nothing s number (part_missing (f, (part, e, has, up), none)) = Contains-none part has.0
no_parts-break_nothing s number (abstract_leaf (entities, e, set_is, leaf, is)) = let in_set = (set_is e).0 leaf.0 in Contains-none in_set.0 in_set.2.0
no_parts-break_nothing s number (one_of (entities, set_is, (listed, is_list, (e, f, e_listed, f_listed, differ, has_e, has_f)))) = let in_set = (set_is e).0 has_e in Contains-none in_set.0 in_set.2.0
no_parts-break_nothing s number (open_place (entities, e, place, set_is, among, of_e, open_)) = let in_set = (set_is e).0 among in Contains-none in_set.0 in_set.2.0
no_parts-break_nothing s number (wrong_count (part, e, has, differ)) = Contains-none part has.0
no_parts-break_nothing s number (at_place _ (entities, place, at, p, set_is, type_at, (part, e, has, zipped), broken)) = Contains-none part has.0

-- `SHAPE($)`
pub shape-breaks : Breaks demo (simple (part_of (codes "SHAPE") (param dollar no_params))) 42
shape-breaks = abstract_leaf (0 ∷ [], 0, internal-set demo (distinct_names-entities demo demo-distinct) (part_of (codes "SHAPE") (param dollar no_params)) 0 (0 ∷ []) (codes "SHAPE", (shape, refl, refl), refl) (λ f. (λ among. Each-member (IsA demo 0) (0 ∷ []) f (itself 0, tt) among, is_shape f)), ((0, omega arith, refl), λ f among is. sym (Each-member (λ g. 0 ≡ g) (0 ∷ []) f (refl, tt) among)), (shape, refl, refl))
  where
    is_shape : (f : ℕ) → IsA demo 0 f → Contains (0 ∷ []) f
    is_shape f is = elim (demo-is_a 0 f (omega arith) is) [ inl h ↦ (0, omega arith, sym h) | inr h ↦ (0, omega arith, sym h) ]

-- `(POINT(1.,2.))`
abbrev lone_point : Record
lone_point = complex (part_of (codes "POINT") (param (real one) (param (real two) no_params)) ∷ [])

abbrev point_part : Part
point_part = part_of (codes "POINT") (param (real one) (param (real two) no_params))

pub lone_point-breaks : Breaks demo lone_point 43
lone_point-breaks = part_missing (0, (point_part, 1, ((0, omega arith, refl), (codes "POINT", (point, refl, refl), refl)), point-is_shape), no_shape)
  where
    no_shape : (part : Part) → HasPart demo lone_point part 0 → ⊥
    no_shape part (among, shape_named) =
        let P : Part → Type 0 = λ x. NamesEntity demo x.key 0 in
        let is : point_part ≡ part = Each-member (λ x. point_part ≡ x) (point_part ∷ []) part (refl, tt) among in
        let h : 0 ≡ 1 = named (codes "POINT") 1 0 (point, refl, refl) (subst P (sym is) shape_named) in omega (arith, h)

-- `(SHAPE($)SHAPE($))`
pub two_shapes-break : Breaks demo (complex (part_of (codes "SHAPE") (param dollar no_params) ∷ part_of (codes "SHAPE") (param dollar no_params) ∷ [])) 44
two_shapes-break = part_twice (0, 1, _, _, omega arith, refl, refl, refl)

-- `POINT($,1.)`
pub short_point-breaks : Breaks demo (simple (part_of (codes "POINT") (param dollar (param (real one) no_params)))) 45
short_point-breaks = wrong_count (part_of (codes "POINT") (param dollar (param (real one) no_params)), 1, ((0, omega arith, refl), (codes "POINT", (point, refl, refl), refl)), omega arith)

-- `ORIGIN($,0.,2.)`
abbrev origin_part : Param → Part
origin_part p = part_of (codes "ORIGIN") (param dollar (param p (param (real two) no_params)))

origin_place : (p : Param) → BreaksAtPlace demo derived_place p 48 → Breaks demo (simple (origin_part p)) 48
origin_place p broken = at_place 48 (
  origin_set,
  x_place,
  derived_place,
  p,
  internal-set demo (distinct_names-entities demo demo-distinct) (origin_part p) 3 origin_set (codes "ORIGIN", (origin, refl, refl), refl) (λ f. (origin-is f, λ up. origin-closed 3 f up (0, omega arith, refl))),
  origin-x,
  (origin_part p, 3, ((0, omega arith, refl), (codes "ORIGIN", (origin, refl, refl), refl)), (1, omega arith, refl)),
  broken,
)

pub number_origin-breaks : Breaks demo (simple (origin_part (real nought))) 48
number_origin-breaks = origin_place (real nought) (derived_not_star (real nought) (λ h. cc))

-- and `ORIGIN($,$,2.)`
pub dollar_origin-breaks : Breaks demo (simple (origin_part dollar)) 48
dollar_origin-breaks = origin_place dollar (derived_not_star dollar (λ h. cc))

-- `(R(1)A()B())` under REDECL
redecl-distinct : IsDistinct bytes_eq (names_of_all redecl)
unfolding IsDistinct
redecl-distinct = search rules

abbrev both_parts : List Part
both_parts = part_of (codes "R") (param (whole (pos 1)) no_params) ∷ part_of (codes "A") no_params ∷ part_of (codes "B") no_params ∷ []

redecl-closed : (f : ℕ) → InClosure redecl (0 ∷ 1 ∷ 2 ∷ []) f → Contains (0 ∷ 1 ∷ 2 ∷ []) f
redecl-closed f (e, among, up) = elim (redecl-is_a e f up) [ inl h ↦ subst (λ g. Contains (0 ∷ 1 ∷ 2 ∷ []) g) (sym h) among | inr h ↦ (0, omega arith, sym h) ]

pub both-break : Breaks redecl (complex both_parts) 55
both-break = open_place (0 ∷ 1 ∷ 2 ∷ [], 0, k_place, closed-set redecl (distinct_names-entities redecl redecl-distinct) both_parts (0 ∷ 1 ∷ 2 ∷ []) ((codes "R", (_, refl, refl), refl), ((codes "A", (_, refl, refl), refl), ((codes "B", (_, refl, refl), refl), tt))) redecl-closed, (0, omega arith, refl), (0, omega arith, refl), redecl-two)

-- `(A()B()S(1))` under SOLE, but it breaks nothing with `(ONEOF (a, b) ANDOR c)`, nor does `(S(1)C()A())`
abbrev a_b_s_parts : List Part
a_b_s_parts = part_of (codes "A") no_params ∷ part_of (codes "B") no_params ∷ part_of (codes "S") (param (whole (pos 1)) no_params) ∷ []

pub a_and_b-break : Breaks sole a_b_s 58
a_and_b-break = one_of (
  1 ∷ 2 ∷ 0 ∷ [],
  closed-set sole (declared-well_formed (sole_tree a_or_b) sole sole-declares).entities_distinct a_b_s_parts (1 ∷ 2 ∷ 0 ∷ []) (a-named a_b_list, (b-named a_b_list, (s-named a_b_list, tt))) (with_s-closed a_b_list (1 ∷ 2 ∷ 0 ∷ []) (2, omega arith, refl)),
  (1 ∷ 2 ∷ [], (0, omega arith, refl), (1, 2, (0, omega arith, refl), (1, omega arith, refl), omega arith, (0, omega arith, refl), (1, omega arith, refl))),
)

pub a_and_b-break_nothing : (number : ℕ) → Breaks (sole_with []) a_b_s number → ⊥
a_and_b-break_nothing number breaks = broken-means_nothing (sole_with []) (declared-well_formed (sole_tree andor_c) (sole_with []) andor-declares) a_b_s number breaks [] a_b_meaning (a_and_b-mean_without_list [])

pub a_and_c-break_nothing : (number : ℕ) → Breaks sole s_c_a number → ⊥
a_and_c-break_nothing number breaks = broken-means_nothing sole (declared-well_formed (sole_tree a_or_b) sole sole-declares) s_c_a number breaks [] a_c_meaning (a_and_c-mean [])
