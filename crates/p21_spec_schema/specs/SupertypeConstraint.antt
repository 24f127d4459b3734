-- A supertype constraint as it is written, and the lexical elements of it (ISO 10303-11, Subtype/supertype constraints;
-- this project reads over all of them but a ONEOF of names).
use Rattle.std.specs.Prelude.{◌≡◌, ℕ, List, [], ◌++◌, codes}
use Rattle.p21_spec_schema.specs.Express.{Lexeme}
use Rattle.p21_spec_schema.specs.ReservedWord.{AreNames}
use Rattle.p21_spec_schema.specs.Run.{IsRun, is_symbol}
use Rattle.p21_spec_schema.specs.Separated.{names_lexemes}
use Rattle.p21_spec_schema.specs.WrittenType.{word, symbols}

-- what stands between the parentheses behind SUPERTYPE OF: a list of names behind ONEOF, or any other run
pub data SupertypeExpression : Type 0 where
  one_of : List (List ℕ) → SupertypeExpression
  other_run : List Lexeme → SupertypeExpression

-- ABSTRACT, SUPERTYPE and a supertype expression, as far as they stand there
pub data SupertypeConstraint : Type 0 where
  no_constraint : SupertypeConstraint
  abstract_entity : SupertypeConstraint
  abstract_supertype : SupertypeConstraint
  abstract_supertype_of : SupertypeExpression → SupertypeConstraint
  supertype_of : SupertypeExpression → SupertypeConstraint

-- ONEOF `(` name {`,` name} `)`
abbrev pub one_of_lexemes : List (List ℕ) → List Lexeme
one_of_lexemes names = word (codes "ONEOF") ++ names_lexemes names

-- ONEOF names, or a run
abbrev pub expression_lexemes : SupertypeExpression → List Lexeme
expression_lexemes (one_of names) = one_of_lexemes names
expression_lexemes (other_run run) = run

-- SUPERTYPE OF `(` expression `)`
abbrev pub supertype_of_lexemes : SupertypeExpression → List Lexeme
supertype_of_lexemes expression = word (codes "SUPERTYPE") ++ word (codes "OF") ++ symbols (codes "(") ++ expression_lexemes expression ++ symbols (codes ")")

-- nothing, ABSTRACT, ABSTRACT SUPERTYPE, or SUPERTYPE OF `(` expression `)`, with ABSTRACT in front or without
abbrev pub constraint_lexemes : SupertypeConstraint → List Lexeme
constraint_lexemes no_constraint = []
constraint_lexemes abstract_entity = word (codes "ABSTRACT")
constraint_lexemes abstract_supertype = word (codes "ABSTRACT") ++ word (codes "SUPERTYPE")
constraint_lexemes (abstract_supertype_of expression) = word (codes "ABSTRACT") ++ supertype_of_lexemes expression
constraint_lexemes (supertype_of expression) = supertype_of_lexemes expression

-- the run is ONEOF and a list of names
abbrev pub IsOneOf : List Lexeme → Type 0
IsOneOf run = (names : List (List ℕ)) × AreNames names × (run ≡ one_of_lexemes names)

-- one name or more; a run is any other, in which `(` opens and `)` closes
abbrev pub IsExpression : SupertypeExpression → Type 0
IsExpression (one_of names) = AreNames names
IsExpression (other_run run) = IsRun (is_symbol 40) (is_symbol 41) run × ¬ IsOneOf run

-- a supertype constraint of the grammar
abbrev pub IsConstraint : SupertypeConstraint → Type 0
IsConstraint (abstract_supertype_of expression) = IsExpression expression
IsConstraint (supertype_of expression) = IsExpression expression
IsConstraint other = Unit {0}
