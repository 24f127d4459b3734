-- Names, clauses and runs of declarations.
use Rattle.std.specs.Prelude.{◌≡◌, ℕ, zero, suc, ◌≤◌, true, false, List, [], ◌∷◌, codes, Option, Some, None, refl, take}
use Rattle.std.specs.List.{count_by}
use Rattle.std.proofs.Common.{arith}
use Rattle.p21_spec_schema.specs.Express.{Lexeme, identifier, simple_string, encoded_string}
use Rattle.p21_spec_schema.specs.ReservedWord.{reserved_words, IsName, AreNames}
use Rattle.p21_spec_schema.specs.WrittenType.{Width, word, width_lexemes, real_type, list_type, set_type, nesting}
use Rattle.p21_spec_schema.specs.EntityDeclaration.{own, redeclared, IsAttributeName, AreExplicit, IsDerived, AreRules}
use Rattle.p21_spec_schema.specs.DeclaredEntity.{is_abstract_by}
use Rattle.p21_spec_schema.specs.SupertypeConstraint.{SupertypeExpression, SupertypeConstraint, no_constraint, abstract_entity, abstract_supertype, abstract_supertype_of, supertype_of, constraint_lexemes}
use Rattle.p21_spec_schema.specs.TypeDeclaration.{Body, enumeration, select, underlying, TypeDeclaration, IsTypeDeclaration}
use Rattle.p21_spec_schema.specs.Run.{is_word, is_symbol, none}
use Rattle.p21_spec_schema.specs.SchemaDeclaration.{IsReadOver, version_lexemes}
use Rattle.p21_spec_basics.proofs.Members.{Contains-no_word}

-- ANDOR, END and END_USE may be names, ONEOF and END_RULE may not
andor-is_name : IsName (codes "ANDOR")
andor-is_name = Contains-no_word (codes "ANDOR") reserved_words refl refl

end-is_name : IsName (codes "END")
end-is_name = Contains-no_word (codes "END") reserved_words refl refl

end_use-is_name : IsName (codes "END_USE")
end_use-is_name = Contains-no_word (codes "END_USE") reserved_words refl refl

oneof-is_no_name : IsName (codes "ONEOF") → ⊥
oneof-is_no_name is_name = is_name (48, omega arith, refl)

end_rule-is_no_name : IsName (codes "END_RULE") → ⊥
end_rule-is_no_name is_name = is_name (43, omega arith, refl)

-- nor may the words of `SELF\of.a` and `SELF\a.of`
of-is_no_entity : IsAttributeName (redeclared (codes "OF") (codes "A")) → ⊥
of-is_no_entity is = is.0 (7, omega arith, refl)

of-is_no_attribute : IsAttributeName (redeclared (codes "A") (codes "OF")) → ⊥
of-is_no_attribute is = is.1 (7, omega arith, refl)

-- `: REAL;` declares no attribute
no_name-is_no_attribute : AreExplicit (record { names = []; optional = false; type = real_type None }) → ⊥
no_name-is_no_attribute are = omega (arith, are.0)

-- ABSTRACT makes an entity abstract, whatever stands behind it; SUPERTYPE OF alone does not
abstract_alone : is_abstract_by abstract_entity ≡ true
abstract_alone = refl

abstract_with_supertype : is_abstract_by abstract_supertype ≡ true
abstract_with_supertype = refl

abstract_with_list : (expression : SupertypeExpression) → is_abstract_by (abstract_supertype_of expression) ≡ true
abstract_with_list expression = refl

not_abstract : (expression : SupertypeExpression) → is_abstract_by (supertype_of expression) ≡ false
not_abstract expression = refl

-- `()` lists no names
no_names : AreNames [] → ⊥
no_names are = omega (arith, are.0)

-- a version is no literal in quotation marks
encoded_version : (version : Option (List ℕ)) → version_lexemes version ≡ encoded_string (codes "V") ∷ [] → ⊥
encoded_version None is = cc
encoded_version (Some version) is = cc

-- FIXED stands only behind a width
fixed_alone : (width : Option Width) → width_lexemes width ≡ word (codes "FIXED") → ⊥
fixed_alone None is = cc
fixed_alone (Some width) is = cc

-- SUPERTYPE without OF stands only behind ABSTRACT
supertype_alone : (constraint : SupertypeConstraint) → constraint_lexemes constraint ≡ word (codes "SUPERTYPE") → ⊥
supertype_alone no_constraint is = cc
supertype_alone abstract_entity is = cc
supertype_alone abstract_supertype is = cc
supertype_alone (abstract_supertype_of run) is = cc
supertype_alone (supertype_of run) is = cc

-- LIST OF SET OF REAL
two_deep : nesting (list_type None false (set_type None (real_type None))) ≡ 2
two_deep = refl

-- in `UNIQUE END_TYPE 'END_ENTITY'` nothing closes; END_ENTITY as a word does
abbrev open_rules : List Lexeme
open_rules = identifier (codes "END_TYPE") ∷ simple_string (codes "END_ENTITY") ∷ []

open_rules-are_rules : AreRules (record { first = codes "UNIQUE"; run = open_rules })
open_rules-are_rules = ((1, omega arith, refl), (each, refl))
  where
    each : (k : ℕ) → count_by (is_word (codes "END_ENTITY")) (take k open_rules) ≤ count_by none (take k open_rules)
    each zero = omega arith
    each (suc zero) = omega arith
    each (suc (suc zero)) = omega arith
    each (suc (suc (suc k))) = omega arith

closed-are_no_rules : AreRules (record { first = codes "WHERE"; run = identifier (codes "END_ENTITY") ∷ [] }) → ⊥
closed-are_no_rules are = omega (arith, are.1.1)

-- the rules of a type go on over END_ENTITY, and end at END_TYPE
abbrev type_with : Body → List Lexeme → TypeDeclaration
type_with body run = record { name = codes "T"; body = body; rules = Some run }

open_type-is_type : IsTypeDeclaration (type_with (underlying (real_type None)) (identifier (codes "END_ENTITY") ∷ []))
open_type-is_type = record { name_is = Contains-no_word (codes "T") reserved_words refl refl; body_is = tt; rules_are = (each, refl) }
  where
    each : (k : ℕ) → count_by (is_word (codes "END_TYPE")) (take k (identifier (codes "END_ENTITY") ∷ [])) ≤ count_by none (take k (identifier (codes "END_ENTITY") ∷ []))
    each zero = omega arith
    each (suc zero) = omega arith
    each (suc (suc k)) = omega arith

closed-is_no_type : IsTypeDeclaration (type_with (underlying (real_type None)) (identifier (codes "END_TYPE") ∷ [])) → ⊥
closed-is_no_type is = omega (arith, is.rules_are.1)

-- `SELECT ()` and `ENUMERATION OF ()`
empty_select-is_no_type : (run : List Lexeme) → IsTypeDeclaration (type_with (select []) run) → ⊥
empty_select-is_no_type run is = omega (arith, is.body_is.0)

empty_enumeration-is_no_type : (run : List Lexeme) → IsTypeDeclaration (type_with (enumeration []) run) → ⊥
empty_enumeration-is_no_type run is = omega (arith, is.body_is.0)

-- in DERIVE `;` alone closes
derived-holds_end : IsDerived (record { name = own (codes "X"); run = identifier (codes "END_ENTITY") ∷ [] })
derived-holds_end = (Contains-no_word (codes "X") reserved_words refl refl, (each, refl))
  where
    each : (k : ℕ) → count_by (is_symbol 59) (take k (identifier (codes "END_ENTITY") ∷ [])) ≤ count_by none (take k (identifier (codes "END_ENTITY") ∷ []))
    each zero = omega arith
    each (suc zero) = omega arith
    each (suc (suc k)) = omega arith

-- within FUNCTION no PROCEDURE opens, within RULE not even RULE
procedure_within : IsReadOver (record { first = codes "FUNCTION"; last = codes "END_FUNCTION"; nests = true; run = identifier (codes "PROCEDURE") ∷ [] })
procedure_within = ((0, omega arith, refl), (each, refl))
  where
    each : (k : ℕ) → count_by (is_word (codes "END_FUNCTION")) (take k (identifier (codes "PROCEDURE") ∷ [])) ≤ count_by (is_word (codes "FUNCTION")) (take k (identifier (codes "PROCEDURE") ∷ []))
    each zero = omega arith
    each (suc zero) = omega arith
    each (suc (suc k)) = omega arith

rule_within : IsReadOver (record { first = codes "RULE"; last = codes "END_RULE"; nests = false; run = identifier (codes "RULE") ∷ identifier (codes "END_RULE") ∷ [] }) → ⊥
rule_within is = omega (arith, is.1.1)
