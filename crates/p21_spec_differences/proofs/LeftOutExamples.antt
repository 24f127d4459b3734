-- Names of attributes under SOLE, whose S has the attribute K and the subtypes A, B and C, and of parameters of header records.
use Rattle.std.specs.Prelude.{◌≡◌, ◌≢◌, ℕ, zero, suc, true, false, List, [], ◌∷◌, Some, None, codes, decimal, slice_get, Contains, refl}
use Rattle.std.proofs.Common.{arith, ap, get_or, subst, sym, ◌∙◌}
use Rattle.p21_spec_basics.proofs.Members.{Contains-first, Contains-later, Each-at, Each-member}
use Rattle.p21_spec_differences.specs.HeaderNames.{IsHeaderKeyword, IsParameterName, IsStandardName, header_names}
use Rattle.p21_spec_differences.specs.HeaderNames.{numbered, of_file, of_user, standard}
use Rattle.p21_spec_differences.specs.LeftOut.{AttributeName, IsKnown, NamesPlace, leaves_out}
use Rattle.p21_spec_exchange.specs.Number.{Ratio}
use Rattle.p21_spec_exchange.specs.Parameter.{Key, key_of, no_params}
use Rattle.p21_spec_exchange.specs.Record.{Part}
use Rattle.p21_spec_schema.specs.Schema.{Attribute, Place, attributes_of}
use Rattle.p21_spec_schema.specs.Supertype.{above, itself}
use Rattle.p21_spec_schema.specs.WellFormed.{IsWellFormed}
use Rattle.p21_spec_schema.proofs.DeclaredSchemas.{declared-well_formed}
use Rattle.p21_spec_schema.proofs.SoleSchema.{a_or_b, below_s, s_entity, sole, sole_tree, sole-declares}

-- ---- attributes

abbrev named : List ℕ → List ℕ → AttributeName
named entity attribute = record { entity = entity; attribute = attribute }

-- the K of an instance
abbrev k_place : Place
k_place = record { entity = 0; index = 0 }

-- the set of an instance of A
abbrev a_set : List ℕ
a_set = 0 ∷ 1 ∷ []

-- under the entity that declares it, and under the one that has it of that
s_k-names : NamesPlace sole (named (codes "S") (codes "K")) a_set k_place
s_k-names = (
  0,
  record { named = (s_entity, refl, refl); has = itself 0; attribute = (_, refl, refl) },
  Contains-first 0 (1 ∷ []),
)

a_k-names : NamesPlace sole (named (codes "A") (codes "K")) a_set k_place
a_k-names = (
  1,
  record { named = (below_s (codes "A"), refl, refl); has = above 1 0 0 (Contains-first 0 []) (itself 0); attribute = (_, refl, refl) },
  Contains-later 0 (1 ∷ []) 1 (Contains-first 1 []),
)

formed : IsWellFormed sole
formed = declared-well_formed (sole_tree a_or_b) sole sole-declares

-- B.K is none of an instance of A
b_k-names_none : ¬ NamesPlace sole (named (codes "B") (codes "K")) a_set k_place
b_k-names_none (e, is, among) =
    let is_b = formed.entities_distinct e 2 (codes "B") is.named (below_s (codes "B"), refl, refl) in
    Each-member (λ f. f ≡ 2 → ⊥) a_set 2 (λ same. omega (arith, same), (λ same. omega (arith, same), tt))
    (subst (Contains a_set) is_b among) refl

-- the schema has no attribute but K
k-alone : (e index : ℕ) (a : Attribute) → slice_get (attributes_of sole e) index ≡ Some a → a.name ≡ codes "K"
k-alone zero index a at = Each-at (λ x. x.name ≡ codes "K") (attributes_of sole 0) index a (refl, tt) at
k-alone (suc zero) index a at = Each-at (λ x. x.name ≡ codes "K") [] index a tt at
k-alone (suc (suc zero)) index a at = Each-at (λ x. x.name ≡ codes "K") [] index a tt at
k-alone (suc (suc (suc zero))) index a at = Each-at (λ x. x.name ≡ codes "K") [] index a tt at
k-alone (suc (suc (suc (suc e)))) index a at = Each-at (λ x. x.name ≡ codes "K") [] index a tt at

a_k-known : IsKnown sole (named (codes "A") (codes "K"))
unfolding a_k-names
a_k-known = (1, k_place, a_k-names.1)

k-no_l : codes "K" ≡ codes "L" → ⊥
k-no_l same = let first = ap (λ (xs : List ℕ). get_or xs 0 0) same in omega (arith, first)

s_l-unknown : ¬ IsKnown sole (named (codes "S") (codes "L"))
s_l-unknown (e, place, is) =
    let (a, at, is_l) = is.attribute in
    let is_k = k-alone place.entity place.index a at in
    k-no_l (sym is_k ∙ is_l)

-- ---- parameters of header records

abbrev part_of : Key → Part
part_of key = record { key = key; params = no_params }

time_stamp : IsParameterName (part_of (key_of (codes "FILE_NAME"))) 1 (codes "TIME_STAMP")
time_stamp = standard (codes "TIME_STAMP") (
  codes "NAME" ∷ codes "TIME_STAMP" ∷ codes "AUTHOR" ∷ codes "ORGANIZATION" ∷ codes "PREPROCESSOR_VERSION"
      ∷ codes "ORIGINATING_SYSTEM" ∷ codes "AUTHORIZATION" ∷ [],
  (1, omega arith, refl),
  refl,
)

-- those of users have numbers
abbrev mine : Part
mine = part_of (record { user = true; word = codes "MINE" })

others-begin : (x : ℕ) (xs : List ℕ) → x ≢ 33 → x ∷ xs ≡ codes "!MINE" → ⊥
others-begin x xs differ same = differ (ap (λ (ys : List ℕ). get_or ys 0 0) same)

mine-no_standard : (name : List ℕ) → ¬ IsStandardName (codes "!MINE") 0 name
mine-no_standard name (names, among, at) =
    let others : (x : ℕ) → x ≢ 33 → (xs : List ℕ) → x ∷ xs ≡ codes "!MINE" → ⊥ = λ x differ xs. others-begin x xs differ in
    let f = others 70 (λ same. omega (arith, same)) in
    let s = others 83 (λ same. omega (arith, same)) in
    Each-member (λ (row : List ℕ × List (List ℕ)). row.0 ≡ codes "!MINE" → ⊥) header_names (codes "!MINE", names)
    (f _, (f _, (f _, (f _, (s _, (s _, tt)))))) among refl

first_of_mine : IsParameterName mine 0 (decimal 1)
first_of_mine = numbered mine-no_standard

keyword-of_file : IsHeaderKeyword (codes "FILE_NAME")
keyword-of_file = of_file (codes "NAME") refl

keyword-of_user : IsHeaderKeyword (codes "!MINE")
keyword-of_user = of_user (codes "MINE") refl

-- ---- something is left out

nothing : leaves_out (record { header = false; attributes = []; tolerance = None }) ≡ false
nothing = refl

header : leaves_out (record { header = true; attributes = []; tolerance = None }) ≡ true
header = refl

attribute : leaves_out (record { header = false; attributes = named (codes "S") (codes "K") ∷ []; tolerance = None }) ≡ true
attribute = refl

values : (t : Ratio) → leaves_out (record { header = false; attributes = []; tolerance = Some t }) ≡ true
values t = refl
