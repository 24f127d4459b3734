-- The schema SOLE, whose S has the subtypes A, B and C of which A and B exclude each other, and its declaration:
-- `SCHEMA sole; ENTITY s SUPERTYPE OF (ONEOF (a, b)); k : INTEGER; END_ENTITY; ENTITY a SUBTYPE OF (s); END_ENTITY; ..`.
use Rattle.std.specs.Prelude.{◌≡◌, ℕ, zero, suc, ◌<◌, List, [], ◌∷◌, codes, Some, None, refl}
use Rattle.std.specs.List.{AllZip, IsDistinct}
use Rattle.std.proofs.Common.{arith, rules}
use Rattle.p21_spec_schema.specs.Declared.{HasSupertype, DeclaresSchema}
use Rattle.p21_spec_schema.specs.DeclaredEntity.{no_more}
use Rattle.p21_spec_schema.specs.DeclaredOneOf.{all_one_of_names, DeclaresOneOf}
use Rattle.p21_spec_schema.specs.DeclaredType.{is_integer}
use Rattle.p21_spec_schema.specs.EntityDeclaration.{EntityDeclaration}
use Rattle.p21_spec_schema.specs.ReservedWord.{reserved_words}
use Rattle.p21_spec_schema.specs.Schema as schema
use Rattle.p21_spec_schema.specs.Schema.{Schema, Entity}
use Rattle.p21_spec_schema.specs.SchemaDeclaration.{SchemaDeclaration, entity, entities_of, IsSchemaDeclaration}
use Rattle.p21_spec_schema.specs.SupertypeConstraint.{SupertypeExpression, one_of, other_run, no_constraint, supertype_of, IsExpression}
use Rattle.p21_spec_schema.specs.WrittenType.{integer_type}
use Rattle.p21_spec_schema.proofs.DeclaredExamples.{attribute_named}
use Rattle.p21_spec_basics.proofs.Members.{Contains-none, Contains-no_word, Each-member}
use Rattle.p21_spec_schema.proofs.OneOfLists.{andor_run}
use Rattle.p21_spec_schema.proofs.TestSchemas.{entity_of, attribute}

abbrev pub s_entity : Entity
s_entity = entity_of (codes "S") [] (attribute (codes "K") schema.whole ∷ [])

abbrev pub below_s : List ℕ → Entity
below_s name = entity_of name (0 ∷ []) []

-- with these ONEOF lists
abbrev pub sole_with : List (List ℕ) → Schema
sole_with lists = record { name = codes "SOLE"; types = []; entities = s_entity ∷ below_s (codes "A") ∷ below_s (codes "B") ∷ below_s (codes "C") ∷ []; one_of_lists = lists }

-- S behind `SUPERTYPE OF (expression)`
abbrev s_declared : SupertypeExpression → EntityDeclaration
s_declared expression = record { name = codes "S"; constraint = supertype_of expression; subtype_of = None; explicit = attribute_named (codes "K") integer_type ∷ []; derive = None; rules = None }

abbrev below_declared : List ℕ → EntityDeclaration
below_declared name = record { name = name; constraint = no_constraint; subtype_of = Some (codes "S" ∷ []); explicit = []; derive = None; rules = None }

abbrev pub sole_tree : SupertypeExpression → SchemaDeclaration
sole_tree expression = record { name = codes "SOLE"; version = None; declarations = entity (s_declared expression) ∷ entity (below_declared (codes "A")) ∷ entity (below_declared (codes "B")) ∷ entity (below_declared (codes "C")) ∷ [] }

-- `ONEOF (a, b)`, and `ONEOF (a, b) ANDOR c`
abbrev pub a_or_b : SupertypeExpression
a_or_b = one_of (codes "A" ∷ codes "B" ∷ [])

abbrev pub andor_c : SupertypeExpression
andor_c = other_run andor_run

-- the lists of SOLE
abbrev pub a_b_list : List (List ℕ)
a_b_list = (1 ∷ 2 ∷ []) ∷ []

abbrev pub sole : Schema
sole = sole_with a_b_list

-- only S is a supertype
pub sole-supertypes : (lists : List (List ℕ)) (e f : ℕ) → HasSupertype (sole_with lists) e f → (f ≡ 0) × (f < e)
sole-supertypes lists zero f among = absurd (Contains-none f among)
sole-supertypes lists (suc zero) f among = let h : f ≡ 0 = Each-member (λ g. g ≡ 0) (0 ∷ []) f (refl, tt) among in (h, omega (arith, h))
sole-supertypes lists (suc (suc zero)) f among = let h : f ≡ 0 = Each-member (λ g. g ≡ 0) (0 ∷ []) f (refl, tt) among in (h, omega (arith, h))
sole-supertypes lists (suc (suc (suc zero))) f among = let h : f ≡ 0 = Each-member (λ g. g ≡ 0) (0 ∷ []) f (refl, tt) among in (h, omega (arith, h))
sole-supertypes lists (suc (suc (suc (suc e)))) f among = absurd (Contains-none f among)

record IsListed (expression : SupertypeExpression) (lists : List (List ℕ)) : Type 0 where
  lists_are : AllZip (DeclaresOneOf (sole_with lists)) (all_one_of_names (entities_of (sole_tree expression).declarations)) lists

declares-with : (expression : SupertypeExpression) (lists : List (List ℕ)) → IsListed expression lists → DeclaresSchema (sole_tree expression) (sole_with lists)
unfolding IsDistinct
declares-with expression lists listed = record {
  name_is = refl;
  entities_are = (
    record { name_is = refl; abstract_is = refl; supertypes_are = tt; attributes_are = ((refl, refl, is_integer), tt); redeclared_are = tt; derived_are = no_more; nesting_small = (omega arith, tt); supertypes_distinct = tt; names_distinct = (tt, tt); places_distinct = tt },
    (
      record { name_is = refl; abstract_is = refl; supertypes_are = ((s_entity, refl, refl), tt); attributes_are = tt; redeclared_are = tt; derived_are = no_more; nesting_small = tt; supertypes_distinct = (tt, tt); names_distinct = tt; places_distinct = tt },
      (
        record { name_is = refl; abstract_is = refl; supertypes_are = ((s_entity, refl, refl), tt); attributes_are = tt; redeclared_are = tt; derived_are = no_more; nesting_small = tt; supertypes_distinct = (tt, tt); names_distinct = tt; places_distinct = tt },
        (record { name_is = refl; abstract_is = refl; supertypes_are = ((s_entity, refl, refl), tt); attributes_are = tt; redeclared_are = tt; derived_are = no_more; nesting_small = tt; supertypes_distinct = (tt, tt); names_distinct = tt; places_distinct = tt }, tt),
      ),
    ),
  );
  types_are = tt;
  one_of_are = listed.lists_are;
  few = omega arith;
  names_distinct = search rules;
  supertypes_end = (λ e. e, λ e f up. (sole-supertypes lists e f up).1);
  renaming_ends = (λ t. 0, λ t u h. cc);
  selects_end = (λ t. 0, λ t u ((members, h, among), is). cc);
}

-- the list is that of A and B
pub sole-declares : DeclaresSchema (sole_tree a_or_b) sole
unfolding IsDistinct
sole-declares = declares-with a_or_b ((1 ∷ 2 ∷ []) ∷ []) (record { lists_are = ((((below_s (codes "A"), refl, refl), ((below_s (codes "B"), refl, refl), tt)), ((refl, tt), (tt, tt))), tt) })

-- a run that is no list is read over
pub andor-declares : DeclaresSchema (sole_tree andor_c) (sole_with [])
andor-declares = declares-with andor_c [] (record { lists_are = tt })

-- both are declarations of the grammar
pub sole-in_grammar : (expression : SupertypeExpression) → IsExpression expression → IsSchemaDeclaration (sole_tree expression)
sole-in_grammar expression is = record {
  name_is = Contains-no_word (codes "SOLE") reserved_words refl refl;
  declarations_are = (
    record { name_is = Contains-no_word (codes "S") reserved_words refl refl; constraint_is = is; supertypes_are = tt; explicit_are = ((omega arith, (Contains-no_word (codes "K") reserved_words refl refl, tt), tt), tt); derived_are = tt; rules_are = tt },
    (
      record { name_is = Contains-no_word (codes "A") reserved_words refl refl; constraint_is = tt; supertypes_are = (omega arith, (Contains-no_word (codes "S") reserved_words refl refl, tt)); explicit_are = tt; derived_are = tt; rules_are = tt },
      (
        record { name_is = Contains-no_word (codes "B") reserved_words refl refl; constraint_is = tt; supertypes_are = (omega arith, (Contains-no_word (codes "S") reserved_words refl refl, tt)); explicit_are = tt; derived_are = tt; rules_are = tt },
        (record { name_is = Contains-no_word (codes "C") reserved_words refl refl; constraint_is = tt; supertypes_are = (omega arith, (Contains-no_word (codes "S") reserved_words refl refl, tt)); explicit_are = tt; derived_are = tt; rules_are = tt }, tt),
      ),
    ),
  );
}
