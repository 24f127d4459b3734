-- Declarations read from the lexemes that are left, as far as they are kept: plain functions between the code and the
-- definitions, which nobody has to believe.
use Rattle.std.specs.Prelude.{◌≡◌, ℕ, ◌+◌, Bool, true, false, nat_le, List, [], ◌∷◌, ◌++◌, codes, length, Option, Some, None, Result, Ok, Err, Vec, if◌then◌else◌}
use Rattle.p21_spec_schema.specs.Express.{Lexeme}
use Rattle.p21_spec_schema.specs.Run.{is_word, is_symbol, none}
use Rattle.p21_express_lexemes.specs.Runs.{behind_run}
use Rattle.p21_express_lexemes.specs.Taking.{Items, RefusalShows, take_symbol, take_word, take_simple_string, take_name}
use Rattle.p21_express_lexemes.specs.declared.fault.SyntaxFault.{SyntaxFault}
use Rattle.p21_express_syntax.specs.Digest.{AttributesDigest, ConstraintDigest, EntityDigest, BodyDigest, enumeration, select, underlying, DefinedTypeDigest, SchemaDigest}
use Rattle.p21_express_syntax.specs.Many.{with_items, many_of}
use Rattle.p21_express_syntax.specs.DataTypes.{bind, choose, flag_of, type_of}
use Rattle.p21_express_syntax.specs.declared.attributes.AttributeName.{AttributeName}
use Rattle.p21_express_syntax.specs.declared.schema.PassedWord.{PassedWord}
use Rattle.p21_express_syntax.specs.declared.schema.PassedWord.TheVariants as word
use Rattle.p21_express_syntax.specs.declared.attributes.AttributeName.TheVariants.{Own, Redeclared}
use Rattle.p21_spec_schema.specs.Declared.{most_declarations}

-- what goes on with one, if one stands there
abbrev pub step_bind : {A B : Type 0} → Option (Option (A × Items)) → (A → Items → Option (B × Items)) → Option (Option (B × Items))
step_bind None go = None
step_bind (Some None) go = Some None
step_bind (Some (Some found)) go = Some (go found.0 found.1)

-- one must stand there
abbrev pub flat : {A : Type 0} → Option (Option A) → Option A
flat None = None
flat (Some found) = found

-- ---- lists of names

unfoldable pub comma_name_of : Items → Option (Option (List ℕ × Items))
comma_name_of items = choose (take_symbol 44 items) (λ rest. Some (take_name rest)) None

-- a name that was read, and the others
unfoldable pub names_from : List ℕ → Items → Option (List (List ℕ) × Items)
names_from first items = with_items (first ∷ []) (many_of comma_name_of items)

-- `(` name {`,` name} `)`
unfoldable pub names_of : Items → Option (List (List ℕ) × Items)
names_of items = bind (take_symbol 40 items) (λ a. bind (take_name a) (λ first. bind (names_from first.0 first.1) (λ all. bind (take_symbol 41 all.1) (λ rest. Some (all.0, rest)))))

-- ---- attributes

-- behind SELF
unfoldable pub redeclared_at : Items → Option (AttributeName × Items)
redeclared_at items = bind (take_symbol 92 items) (λ a. bind (take_name a) (λ e. bind (take_symbol 46 e.1) (λ b. bind (take_name b) (λ n. Some (Redeclared e.0 n.0, n.1)))))

abbrev pub own_of : Option (List ℕ × Items) → Option (Option (AttributeName × Items))
own_of None = None
own_of (Some found) = Some (Some (Own found.0, found.1))

-- an attribute, if one begins there
unfoldable pub attribute_of : Items → Option (Option (AttributeName × Items))
attribute_of items = choose (take_word (codes "SELF") items) (λ a. Some (redeclared_at a)) (own_of (take_name items))

unfoldable pub comma_attribute_of : Items → Option (Option (AttributeName × Items))
comma_attribute_of items = choose (take_symbol 44 items) (λ rest. Some (flat (attribute_of rest))) None

-- an attribute that was read, and the others of its type
unfoldable pub attributes_from : AttributeName → Items → Option (List AttributeName × Items)
attributes_from first items = with_items (first ∷ []) (many_of comma_attribute_of items)

abbrev pub typed_of : List AttributeName → Bool × Items → Option (AttributesDigest × Items)
typed_of names flag = bind (type_of 32 flag.1) (λ t. bind (take_symbol 59 t.1) (λ rest. Some (record { names = names; optional = flag.0; type = t.0 }, rest)))

-- behind the first attribute
unfoldable pub attributes_behind : AttributeName → Items → Option (AttributesDigest × Items)
attributes_behind first items = bind (attributes_from first items) (λ all. bind (take_symbol 58 all.1) (λ a. typed_of all.0 (flag_of (codes "OPTIONAL") a)))

unfoldable pub explicit_of : Items → Option (Option (AttributesDigest × Items))
explicit_of items = step_bind (attribute_of items) attributes_behind

-- behind the name
unfoldable pub derived_behind : AttributeName → Items → Option (AttributeName × Items)
derived_behind name items = bind (take_symbol 58 items) (λ a. bind (behind_run none (is_symbol 59) a) (λ rest. Some (name, rest)))

unfoldable pub derived_of : Items → Option (Option (AttributeName × Items))
derived_of items = step_bind (attribute_of items) derived_behind

-- ---- entities

-- ONEOF names `)`
unfoldable pub one_of_of : Items → Option (List (List ℕ) × Items)
one_of_of items = bind (take_word (codes "ONEOF") items) (λ a. bind (names_of a) (λ n. bind (take_symbol 41 n.1) (λ rest. Some (n.0, rest))))

abbrev pub expression_by : Option (List (List ℕ) × Items) → Option Items → Option (Option (List (List ℕ)) × Items)
expression_by (Some found) behind = Some (Some found.0, found.1)
expression_by None behind = bind behind (λ rest. Some (None, rest))

-- behind SUPERTYPE OF
unfoldable pub expression_of : Items → Option (Option (List (List ℕ)) × Items)
expression_of items = bind (take_symbol 40 items) (λ a. expression_by (one_of_of a) (behind_run (is_symbol 40) (is_symbol 41) a))

abbrev pub constraint_with : Bool → Option (Option (List (List ℕ)) × Items) → Option (ConstraintDigest × Items)
constraint_with is_abstract found = bind found (λ e. Some (record { is_abstract = is_abstract; one_of = e.0 }, e.1))

-- behind ABSTRACT
unfoldable pub abstract_at : Items → Option (ConstraintDigest × Items)
abstract_at items =
    choose (take_word (codes "SUPERTYPE") items) (λ b. choose (take_word (codes "OF") b) (λ c. constraint_with true (expression_of c)) (Some (record { is_abstract = true; one_of = None }, b)))
    (Some (record { is_abstract = true; one_of = None }, items))

unfoldable pub constraint_of : Items → Option (ConstraintDigest × Items)
constraint_of items =
    choose (take_word (codes "ABSTRACT") items) abstract_at
    (choose (take_word (codes "SUPERTYPE") items) (λ b. bind (take_word (codes "OF") b) (λ c. constraint_with false (expression_of c))) (Some (record { is_abstract = false; one_of = None }, items)))

unfoldable pub supertypes_of : Items → Option (List (List ℕ) × Items)
supertypes_of items = choose (take_word (codes "SUBTYPE") items) (λ a. bind (take_word (codes "OF") a) names_of) (Some ([], items))

unfoldable pub derive_of : Items → Option (List AttributeName × Items)
derive_of items = choose (take_word (codes "DERIVE") items) (many_of derived_of) (Some ([], items))

-- the word at which the rules of an entity begin
unfoldable pub take_rules : Items → Option Items
take_rules items = choose (take_word (codes "INVERSE") items) Some (choose (take_word (codes "UNIQUE") items) Some (take_word (codes "WHERE") items))

-- what is left behind the rules and END_ENTITY
unfoldable pub entity_end : Items → Option Items
entity_end items = choose (take_rules items) (behind_run none (is_word (codes "END_ENTITY"))) (take_word (codes "END_ENTITY") items)

-- behind the first `;` of an entity
abbrev pub entity_inside : List ℕ → ConstraintDigest → List (List ℕ) → Items → Option (EntityDigest × Items)
entity_inside name constraint supertypes items =
    bind (many_of explicit_of items) (λ e. bind (derive_of e.1) (λ d. bind (entity_end d.1) (λ a. bind (take_symbol 59 a) (λ rest. Some (record { name = name; constraint = constraint; supertypes = supertypes; explicit = e.0; derived = d.0 }, rest)))))

-- behind ENTITY
unfoldable pub entity_at : Items → Option (EntityDigest × Items)
entity_at items = bind (take_name items) (λ n. bind (constraint_of n.1) (λ c. bind (supertypes_of c.1) (λ s. bind (take_symbol 59 s.1) (entity_inside n.0 c.0 s.0))))

-- ---- types

unfoldable pub body_of : Items → Option (BodyDigest × Items)
body_of items =
    choose (take_word (codes "ENUMERATION") items) (λ a. bind (take_word (codes "OF") a) (λ b. bind (names_of b) (λ n. Some (enumeration n.0, n.1))))
    (choose (take_word (codes "SELECT") items) (λ a. bind (names_of a) (λ n. Some (select n.0, n.1))) (bind (type_of 32 items) (λ t. Some (underlying t.0, t.1))))

-- what is left behind the rules and END_TYPE
unfoldable pub type_end : Items → Option Items
type_end items = choose (take_word (codes "WHERE") items) (behind_run none (is_word (codes "END_TYPE"))) (take_word (codes "END_TYPE") items)

-- behind TYPE
unfoldable pub defined_at : Items → Option (DefinedTypeDigest × Items)
defined_at items = bind (take_name items) (λ n. bind (take_symbol 61 n.1) (λ a. bind (body_of a) (λ b. bind (take_symbol 59 b.1) (λ c. bind (type_end c) (λ d. bind (take_symbol 59 d) (λ rest. Some (record { name = n.0; body = b.0 }, rest)))))))

-- ---- schemas

-- a declaration, as far as it is kept
pub data DeclarationDigest : Type 0 where
  entity : EntityDigest → DeclarationDigest
  defined : DefinedTypeDigest → DeclarationDigest
  passed : DeclarationDigest

-- what is left behind a declaration that is read over, behind its first word
unfoldable pub over_end : (Lexeme → Bool) → List ℕ → Items → Option Items
over_end opens last items = bind (behind_run opens (is_word last) items) (λ a. take_symbol 59 a)

abbrev pub over_at : Option Items → Option (Option (DeclarationDigest × Items))
over_at behind = Some (bind behind (λ rest. Some (passed, rest)))

-- the word at which a declaration begins that is read over
unfoldable pub passed_word_of : Items → Option (PassedWord × Items)
passed_word_of items =
    choose (take_word (codes "FUNCTION") items) (λ r. Some (word.Function, r)) (choose (take_word (codes "PROCEDURE") items) (λ r. Some (word.Procedure, r)) (choose (take_word (codes "RULE") items) (λ r. Some (word.Rule, r))
    (choose (take_word (codes "CONSTANT") items) (λ r. Some (word.Constant, r)) (choose (take_word (codes "SUBTYPE_CONSTRAINT") items) (λ r. Some (word.SubtypeConstraint, r)) None))))

-- what is left behind the declaration
unfoldable pub passed_behind : PassedWord → Items → Option Items
passed_behind word.Function items = over_end (is_word (codes "FUNCTION")) (codes "END_FUNCTION") items
passed_behind word.Procedure items = over_end (is_word (codes "PROCEDURE")) (codes "END_PROCEDURE") items
passed_behind word.Rule items = over_end none (codes "END_RULE") items
passed_behind word.Constant items = over_end none (codes "END_CONSTANT") items
passed_behind word.SubtypeConstraint items = over_end none (codes "END_SUBTYPE_CONSTRAINT") items

abbrev pub over_by : Option (PassedWord × Items) → Option (Option (DeclarationDigest × Items))
over_by None = None
over_by (Some found) = over_at (passed_behind found.0 found.1)

unfoldable pub over_of : Items → Option (Option (DeclarationDigest × Items))
over_of items = over_by (passed_word_of items)

unfoldable pub declaration_of : Items → Option (Option (DeclarationDigest × Items))
declaration_of items =
    choose (take_word (codes "ENTITY") items) (λ a. Some (bind (entity_at a) (λ e. Some (entity e.0, e.1))))
    (choose (take_word (codes "TYPE") items) (λ a. Some (bind (defined_at a) (λ t. Some (defined t.0, t.1)))) (over_of items))

abbrev pub entity_digests : List DeclarationDigest → List EntityDigest
entity_digests [] = []
entity_digests (entity x ∷ declarations) = x ∷ entity_digests declarations
entity_digests (defined x ∷ declarations) = entity_digests declarations
entity_digests (passed ∷ declarations) = entity_digests declarations

abbrev pub defined_type_digests : List DeclarationDigest → List DefinedTypeDigest
defined_type_digests [] = []
defined_type_digests (entity x ∷ declarations) = defined_type_digests declarations
defined_type_digests (defined x ∷ declarations) = x ∷ defined_type_digests declarations
defined_type_digests (passed ∷ declarations) = defined_type_digests declarations

-- what is left behind a version, if one stands there
abbrev pub behind_version : Items → Items
behind_version items = choose (take_simple_string items) (λ rest. rest) items

-- how many of them are kept
abbrev pub count : List DeclarationDigest → ℕ
count ds = length (entity_digests ds) + length (defined_type_digests ds)

abbrev pub few : List DeclarationDigest → Bool
few ds = nat_le (count ds) most_declarations

-- the word of one that is kept stands first
unfoldable pub begins_entity_or_type : Items → Bool
begins_entity_or_type items = choose (take_word (codes "ENTITY") items) (λ r. true) (choose (take_word (codes "TYPE") items) (λ r. true) false)

-- all declarations, if they are not too many
abbrev pub if_few : List DeclarationDigest × Items → Option (List DeclarationDigest × Items)
if_few found = if few found.0 then Some found else None

unfoldable pub declarations_of : Items → Option (List DeclarationDigest × Items)
declarations_of items = bind (many_of declaration_of items) if_few

abbrev pub digest_of : List ℕ → List DeclarationDigest → SchemaDigest
digest_of name ds = record { name = name; entities = entity_digests ds; types = defined_type_digests ds }

abbrev pub has_nothing_left : Items → Bool
has_nothing_left [] = true
has_nothing_left (item ∷ items) = false

abbrev pub digest_if_ended : List ℕ → List DeclarationDigest → Items → Option SchemaDigest
digest_if_ended name ds rest = if has_nothing_left rest then Some (digest_of name ds) else None

-- a text that is one schema
unfoldable pub schema_of : Items → Option SchemaDigest
schema_of items =
    bind (take_word (codes "SCHEMA") items) (λ a. bind (take_name a) (λ n. bind (take_symbol 59 (behind_version n.1)) (λ b. bind (declarations_of b) (λ ds. bind (take_word (codes "END_SCHEMA") ds.1) (λ c. bind (take_symbol 59 c) (λ rest. digest_if_ended n.0 ds.0 rest))))))

-- ---- what an answer says

-- the list that was read, or that another run stands there
abbrev pub OneOfRead : {Z : Type 0} → Result (Option (Vec (List ℕ) Z)) SyntaxFault → Option (List (List ℕ) × Items) → Items → Items → Type 0
OneOfRead (Ok (Some names)) read old new = read ≡ Some (names.items, new)
OneOfRead (Ok None) read old new = (read ≡ None) × (new ≡ old)
OneOfRead (Err fault) read old new = RefusalShows fault ⊥

-- whether a declaration was read over
abbrev pub OverRead : Result Bool SyntaxFault → Option (Option (DeclarationDigest × Items)) → Items → Items → Type 0
OverRead (Ok true) read old new = read ≡ Some (Some (passed, new))
OverRead (Ok false) read old new = (read ≡ None) × (new ≡ old)
OverRead (Err fault) read old new = RefusalShows fault (read ≡ Some None)

-- one more declaration
abbrev pub with_declaration : SchemaDigest → DeclarationDigest → SchemaDigest
with_declaration schema x = record { name = schema.name; entities = schema.entities ++ entity_digests (x ∷ []); types = schema.types ++ defined_type_digests (x ∷ []) }

abbrev pub Added : Result (Unit {0}) SyntaxFault → SchemaDigest → DeclarationDigest → SchemaDigest → Type 0
Added (Ok u) old x new = new ≡ with_declaration old x
Added (Err fault) old x new = RefusalShows fault ⊥

abbrev pub WordTaken : Option PassedWord → Option (PassedWord × Items) → Items → Items → Type 0
WordTaken None read old new = (read ≡ None) × (new ≡ old)
WordTaken (Some found) read old new = read ≡ Some (found, new)
