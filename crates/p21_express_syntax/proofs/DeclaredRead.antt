-- Declarations are read where they are written.
use Rattle.std.proofs.Common.{◌≡◌, ℕ, zero, suc, List, [], ◌∷◌, ◌++◌, length, length-append, codes, Option, Some, None, IfSome, refl, ap, sym, subst, ◌∙◌, lit<, arith}
use Rattle.std.specs.List.{Contains, flat_map, AllByRecursion as Each}
use Rattle.p21_spec_schema.specs.Express.{Lexeme, identifier, symbol}
use Rattle.p21_spec_schema.specs.ReservedWord.{IsName, AreNames}
use Rattle.p21_spec_schema.specs.Run.{IsRun, is_word, is_symbol, none}
use Rattle.p21_spec_schema.specs.WrittenType.{WrittenType, integer_type, real_type, number_type, boolean_type, logical_type, string_type, binary_type, named_type, array_type, list_type, set_type, bag_type, type_lexemes, IsWrittenType}
use Rattle.p21_spec_schema.specs.SupertypeConstraint.{SupertypeExpression, one_of, other_run, SupertypeConstraint, no_constraint, abstract_entity, abstract_supertype, abstract_supertype_of, supertype_of, one_of_lexemes, expression_lexemes, constraint_lexemes, IsExpression, IsConstraint}
use Rattle.p21_spec_schema.specs.EntityDeclaration.{ExplicitAttributes, DerivedAttribute, Rules, EntityDeclaration, explicit_lexemes, derived_lexemes, subtype_lexemes, derive_lexemes, rules_lexemes, entity_lexemes, AreExplicit, IsDerived, AreRules}
use Rattle.p21_spec_schema.specs.TypeDeclaration as type_declaration
use Rattle.p21_spec_schema.specs.TypeDeclaration.{TypeDeclaration, body_lexemes, where_lexemes, type_declaration_lexemes, IsBody}
use Rattle.p21_spec_schema.proofs.OneOfReadings.{expression-is_run}
use Rattle.p21_express_lexemes.specs.Words.{is_reserved}
use Rattle.p21_express_lexemes.specs.Runs.{behind_run}
use Rattle.p21_express_lexemes.specs.Taking.{Items, put, take_symbol, take_word, take_name}
use Rattle.p21_express_lexemes.proofs.Running.{runs, nothing_apart, parentheses_apart}
use Rattle.p21_express_syntax.specs.Declaring.{one_of_of, expression_of, abstract_at, constraint_of, supertypes_of, derive_of, take_rules, entity_end, entity_at, body_of, type_end, defined_at, attribute_of, explicit_of, derived_of}
use Rattle.p21_express_syntax.specs.Digest.{ConstraintDigest, AttributesDigest, EntityDigest, BodyDigest, DefinedTypeDigest}
use Rattle.p21_express_syntax.specs.Digesting.{attributes_digest, expression_digest, constraint_digest, derived_digest, derived_digests, entity_digest, body_digest, defined_type_digest}
use Rattle.p21_express_syntax.specs.Within.{AreAttributesWithin, IsBodyWithin}
use Rattle.p21_express_syntax.specs.declared.attributes.AttributeName.{AttributeName}
use Rattle.p21_express_syntax.proofs.Declared.{IsEntity, IsDefined, one_of_is, one_of_read, put_supertype_of, put_entity, put_defined}
use Rattle.p21_express_syntax.proofs.Lists.{AreAttributes, explicit_shortens, derived_shortens}
use Rattle.p21_express_syntax.proofs.ListsRead.{names_read, explicit_read, derived_read, run_read, semicolon_ends}
use Rattle.p21_express_syntax.proofs.Repeated.{many_read}
use Rattle.p21_express_syntax.proofs.Sounding.{of_some, name_read, name_apart}
use Rattle.p21_express_syntax.proofs.TypesRead.{type_read}
use Rattle.p21_express_syntax.proofs.TypesSound.{over}
use Rattle.p21_spec_schema.specs.DeclaredEntity.{names_of}
use Rattle.p21_spec_basics.proofs.Members.{some_pair_is}

-- ---- supertype constraints

pub snoc_same : (a b : List Lexeme) (x : Lexeme) → a ++ x ∷ [] ≡ b ++ x ∷ [] → a ≡ b
snoc_same [] [] x e = refl
snoc_same [] (z ∷ b) x e = absurd (let l = ap length e in let m = length-append b (x ∷ []) in omega arith)
snoc_same (y ∷ a) [] x e = absurd (let l = ap length e in let m = length-append a (x ∷ []) in omega arith)
snoc_same (y ∷ a) (z ∷ b) x e =
    let h : y ≡ z = cc in
    let t : a ++ x ∷ [] ≡ b ++ x ∷ [] = cc in
    ap (λ (v : Lexeme). v ∷ a) h ∙ ap (λ (v : List Lexeme). z ∷ v) (snoc_same a b x t)

same_run : (run other : List Lexeme) (more rest : Items) → IsRun (is_symbol 40) (is_symbol 41) run → IsRun (is_symbol 40) (is_symbol 41) other → put run (over (symbol 41) more) ≡ put other (over (symbol 41) rest) → run ≡ other
same_run run other more rest is is_other e =
    let a = runs (is_symbol 40) (is_symbol 41) parentheses_apart (put run (over (symbol 41) more)) more (record { run = run; last = symbol 41; is_run = is; closed = refl; lexemes = refl }) in
    let b = runs (is_symbol 40) (is_symbol 41) parentheses_apart (put run (over (symbol 41) more)) rest (record { run = other; last = symbol 41; is_run = is_other; closed = refl; lexemes = e }) in
    snoc_same run other (symbol 41) (some_pair_is {X = List Lexeme} (run ++ symbol 41 ∷ []) (other ++ symbol 41 ∷ []) more rest (sym a ∙ b)).0

-- a run that is no ONEOF list of names isn't read as one
pub no_one_of : (run : List Lexeme) (more : Items) → IsExpression (other_run run) → ◌≡◌ {A = Option (List (List ℕ) × Items)} (one_of_of (put run (over (symbol 41) more))) None
no_one_of run more is = by (one_of_of (put run (over (symbol 41) more))) refl
  where
    by : (o : Option (List (List ℕ) × Items)) → ◌≡◌ {A = Option (List (List ℕ) × Items)} (one_of_of (put run (over (symbol 41) more))) o → ◌≡◌ {A = Option (List (List ℕ) × Items)} o None
    by None e = refl
    by (Some (names, rest)) e =
        let w = of_some {A = List (List ℕ) × Items} (one_of_of (put run (over (symbol 41) more))) (λ f. (put run (over (symbol 41) more) ≡ put (one_of_lexemes f.0) (over (symbol 41) f.1)) × AreNames f.0) (one_of_is (put run (over (symbol 41) more))) (names, rest) e in
        absurd (is.1 (names, w.1, same_run run (one_of_lexemes names) more rest is.0 (expression-is_run (one_of names) w.1) w.0))

expression_read : (x : SupertypeExpression) (more : Items) → IsExpression x → ◌≡◌ {A = Option (Option (List (List ℕ)) × Items)} (expression_of (over (symbol 40) (put (expression_lexemes x) (over (symbol 41) more)))) (Some (expression_digest x, more))
unfolding expression_of take_symbol
expression_read (one_of names) more is = rw (one_of_read names more is) refl
expression_read (other_run run) more is = rw (no_one_of run more is) (rw (run_read (is_symbol 40) (is_symbol 41) (symbol 41) run more parentheses_apart is.0 refl) refl)

-- no word of a supertype constraint stands first
pub record NoConstraint (more : Items) : Type 0 where
  pub no_abstract : take_word (codes "ABSTRACT") more ≡ None
  pub no_supertype : take_word (codes "SUPERTYPE") more ≡ None
  pub no_of : take_word (codes "OF") more ≡ None

constraint_read : (x : SupertypeConstraint) (more : Items) → IsConstraint x → NoConstraint more → ◌≡◌ {A = Option (ConstraintDigest × Items)} (constraint_of (put (constraint_lexemes x) more)) (Some (constraint_digest x, more))
unfolding constraint_of abstract_at take_word
constraint_read no_constraint more is n = rw (n.no_abstract, n.no_supertype) refl
constraint_read abstract_entity more is n = rw n.no_supertype refl
constraint_read abstract_supertype more is n = rw n.no_of refl
constraint_read (abstract_supertype_of x) more is n = ap (λ (y : Items). constraint_of (over (identifier (codes "ABSTRACT")) y)) (put_supertype_of x more) ∙ rw (expression_read x more is) refl
constraint_read (supertype_of x) more is n = ap constraint_of (put_supertype_of x more) ∙ rw (expression_read x more is) refl

supertypes_read : (names : Option (List (List ℕ))) (more : Items) → IfSome names AreNames → take_word (codes "SUBTYPE") more ≡ None → ◌≡◌ {A = Option (List (List ℕ) × Items)} (supertypes_of (put (subtype_lexemes names) more)) (Some (names_of names, more))
unfolding supertypes_of take_word
supertypes_read None more is n = rw n refl
supertypes_read (Some names) more is n = names_read names more is

pub behind_constraint : (names : Option (List (List ℕ))) (more : Items) → NoConstraint (put (subtype_lexemes names) (over (symbol 59) more))
unfolding take_word
behind_constraint None more = record { no_abstract = refl; no_supertype = refl; no_of = refl }
behind_constraint (Some names) more = record { no_abstract = refl; no_supertype = refl; no_of = refl }

pub no_subtype : (more : Items) → take_word (codes "SUBTYPE") (over (symbol 59) more) ≡ None
unfolding take_word
no_subtype more = refl

-- ---- attributes

-- no attribute and no DERIVE stands first
pub record NoAttribute (more : Items) : Type 0 where
  pub no_explicit : ◌≡◌ {A = Option (Option (AttributesDigest × Items))} (explicit_of more) None
  pub no_derived : ◌≡◌ {A = Option (Option (AttributeName × Items))} (derived_of more) None
  pub no_derive : take_word (codes "DERIVE") more ≡ None

rule_first : (first : List ℕ) (more : Items) → Contains (codes "INVERSE" ∷ codes "UNIQUE" ∷ codes "WHERE" ∷ []) first → NoAttribute (over (identifier first) more)
unfolding explicit_of derived_of attribute_of take_word take_name is_reserved
rule_first first more (zero, lt, e) = subst (λ (x : List ℕ). NoAttribute (over (identifier x) more)) e (record { no_explicit = refl; no_derived = refl; no_derive = refl })
rule_first first more (suc zero, lt, e) = subst (λ (x : List ℕ). NoAttribute (over (identifier x) more)) e (record { no_explicit = refl; no_derived = refl; no_derive = refl })
rule_first first more (suc (suc zero), lt, e) = subst (λ (x : List ℕ). NoAttribute (over (identifier x) more)) e (record { no_explicit = refl; no_derived = refl; no_derive = refl })
rule_first first more (suc (suc (suc k)), lt, e) = absurd (omega arith)

end_first : (more : Items) → NoAttribute (over (identifier (codes "END_ENTITY")) more)
unfolding explicit_of derived_of attribute_of take_word take_name is_reserved
end_first more = record { no_explicit = refl; no_derived = refl; no_derive = refl }

rules_first : (rules : Option Rules) (more : Items) → IfSome rules AreRules → NoAttribute (put (rules_lexemes rules) (over (identifier (codes "END_ENTITY")) more))
rules_first None more is = end_first more
rules_first (Some rules) more is = rule_first rules.first (put rules.run (over (identifier (codes "END_ENTITY")) more)) is.0

derive_first : (derive : Option (List DerivedAttribute)) (more : Items) → NoAttribute more → ◌≡◌ {A = Option (Option (AttributesDigest × Items))} (explicit_of (put (derive_lexemes derive) more)) None
unfolding explicit_of attribute_of take_word take_name is_reserved
derive_first None more n = n.no_explicit
derive_first (Some derived) more n = refl

derive_read : (derive : Option (List DerivedAttribute)) (more : Items) → IfSome derive (Each IsDerived) → NoAttribute more → ◌≡◌ {A = Option (List AttributeName × Items)} (derive_of (put (derive_lexemes derive) more)) (Some (derived_digests derive, more))
unfolding derive_of take_word
derive_read None more is n = rw n.no_derive refl
derive_read (Some derived) more is n = many_read derived_of derived_shortens derived_lexemes IsDerived derived_digest derived_read derived more is n.no_derived

both_explicit : (xs : List ExplicitAttributes) → Each AreExplicit xs → Each AreAttributesWithin xs → Each AreAttributes xs
both_explicit [] h k = tt
both_explicit (x ∷ xs) h k = ((h.0, k.0), both_explicit xs h.1 k.1)

-- ---- the end of an entity

rules_read : (rules : Rules) (more : Items) → AreRules rules → ◌≡◌ {A = Option Items} (entity_end (over (identifier rules.first) (put rules.run (over (identifier (codes "END_ENTITY")) more)))) (Some more)
unfolding entity_end take_rules take_word
rules_read rules more is = by rules.first is.0
  where
    run : ◌≡◌ {A = Option Items} (behind_run none (is_word (codes "END_ENTITY")) (put rules.run (over (identifier (codes "END_ENTITY")) more))) (Some more)
    run = run_read none (is_word (codes "END_ENTITY")) (identifier (codes "END_ENTITY")) rules.run more (nothing_apart (is_word (codes "END_ENTITY"))) is.1 refl

    by : (first : List ℕ) → Contains (codes "INVERSE" ∷ codes "UNIQUE" ∷ codes "WHERE" ∷ []) first → ◌≡◌ {A = Option Items} (entity_end (over (identifier first) (put rules.run (over (identifier (codes "END_ENTITY")) more)))) (Some more)
    by first (zero, lt, e) = subst (λ (x : List ℕ). ◌≡◌ {A = Option Items} (entity_end (over (identifier x) (put rules.run (over (identifier (codes "END_ENTITY")) more)))) (Some more)) e run
    by first (suc zero, lt, e) = subst (λ (x : List ℕ). ◌≡◌ {A = Option Items} (entity_end (over (identifier x) (put rules.run (over (identifier (codes "END_ENTITY")) more)))) (Some more)) e run
    by first (suc (suc zero), lt, e) = subst (λ (x : List ℕ). ◌≡◌ {A = Option Items} (entity_end (over (identifier x) (put rules.run (over (identifier (codes "END_ENTITY")) more)))) (Some more)) e run
    by first (suc (suc (suc k)), lt, e) = absurd (omega arith)

end_read : (rules : Option Rules) (more : Items) → IfSome rules AreRules → ◌≡◌ {A = Option Items} (entity_end (put (rules_lexemes rules) (over (identifier (codes "END_ENTITY")) more))) (Some more)
unfolding entity_end take_rules take_word
end_read None more is = refl
end_read (Some rules) more is = rules_read rules more is

-- ---- entities

entity_by : (x : EntityDeclaration) (more : Items) → IsEntity x
    → ◌≡◌ {A = Option (EntityDigest × Items)} (entity_at (over (identifier x.name) (put (constraint_lexemes x.constraint) (put (subtype_lexemes x.subtype_of) (over (symbol 59) (put (flat_map explicit_lexemes x.explicit) (put (derive_lexemes x.derive) (put (rules_lexemes x.rules)
    (over (identifier (codes "END_ENTITY")) (over (symbol 59) more))))))))))
    (Some (entity_digest x, more))
unfolding entity_at take_symbol
entity_by x more is =
    let last : Items = over (symbol 59) more in
    let rules : Items = put (rules_lexemes x.rules) (over (identifier (codes "END_ENTITY")) last) in
    let derive : Items = put (derive_lexemes x.derive) rules in
    let explicit : Items = put (flat_map explicit_lexemes x.explicit) derive in
    let subtype : Items = put (subtype_lexemes x.subtype_of) (over (symbol 59) explicit) in
    let free = rules_first x.rules last is.0.rules_are in
    rw (name_read x.name (put (constraint_lexemes x.constraint) subtype) is.0.name_is)
    (rw (constraint_read x.constraint subtype is.0.constraint_is (behind_constraint x.subtype_of explicit))
    (rw (supertypes_read x.subtype_of (over (symbol 59) explicit) is.0.supertypes_are (no_subtype explicit))
    (rw (many_read explicit_of explicit_shortens explicit_lexemes AreAttributes attributes_digest explicit_read x.explicit derive (both_explicit x.explicit is.0.explicit_are is.1) (derive_first x.derive rules free))
    (rw (derive_read x.derive rules is.0.derived_are free) (rw (end_read x.rules last is.0.rules_are) refl)))))

pub entity_read : (x : EntityDeclaration) (more : Items) → IsEntity x → (behind : Items) × (put (entity_lexemes x) more ≡ over (identifier (codes "ENTITY")) behind) × ◌≡◌ {A = Option (EntityDigest × Items)} (entity_at behind) (Some (entity_digest x, more))
entity_read x more is = (_, put_entity x more, entity_by x more is)

-- ---- types

no_body_word : (name : List ℕ) (more : Items) → IsName name → (take_word (codes "ENUMERATION") (over (identifier name) more) ≡ None) × (take_word (codes "SELECT") (over (identifier name) more) ≡ None)
unfolding take_word
no_body_word name more is = (rw (name_apart name (codes "ENUMERATION") (16, lit< tt, refl) is) refl, rw (name_apart name (codes "SELECT") (17, lit< tt, refl) is) refl)

-- a type begins with neither of these words
pub type_begins : (t : WrittenType) (more : Items) → IsWrittenType t → (take_word (codes "ENUMERATION") (put (type_lexemes t) more) ≡ None) × (take_word (codes "SELECT") (put (type_lexemes t) more) ≡ None)
unfolding take_word
type_begins integer_type more is = (refl, refl)
type_begins (real_type precision) more is = (refl, refl)
type_begins number_type more is = (refl, refl)
type_begins boolean_type more is = (refl, refl)
type_begins logical_type more is = (refl, refl)
type_begins (string_type width) more is = (refl, refl)
type_begins (binary_type width) more is = (refl, refl)
type_begins (named_type name) more is = no_body_word name more is
type_begins (array_type bounds optional unique element) more is = (refl, refl)
type_begins (list_type bounds unique element) more is = (refl, refl)
type_begins (set_type bounds element) more is = (refl, refl)
type_begins (bag_type bounds element) more is = (refl, refl)

body_read : (x : type_declaration.Body) (more : Items) → IsBody x → IsBodyWithin x → ◌≡◌ {A = Option (BodyDigest × Items)} (body_of (put (body_lexemes x) (over (symbol 59) more))) (Some (body_digest x, over (symbol 59) more))
unfolding body_of take_word
body_read (type_declaration.enumeration names) more is within = rw (names_read names (over (symbol 59) more) is) refl
body_read (type_declaration.select names) more is within = rw (names_read names (over (symbol 59) more) is) refl
body_read (type_declaration.underlying type) more is within =
    let first = type_begins type (over (symbol 59) more) is in
    rw first.0 (rw first.1 (rw (type_read type 32 (over (symbol 59) more) within.1 is within.0 (semicolon_ends more)) refl))

where_read : (rules : Option (List Lexeme)) (more : Items) → IfSome rules (IsRun none (is_word (codes "END_TYPE"))) → ◌≡◌ {A = Option Items} (type_end (put (where_lexemes rules) (over (identifier (codes "END_TYPE")) more))) (Some more)
unfolding type_end take_word
where_read None more is = refl
where_read (Some run) more is = run_read none (is_word (codes "END_TYPE")) (identifier (codes "END_TYPE")) run more (nothing_apart (is_word (codes "END_TYPE"))) is refl

defined_by : (x : TypeDeclaration) (more : Items) → IsDefined x
    → ◌≡◌ {A = Option (DefinedTypeDigest × Items)} (defined_at (over (identifier x.name) (over (symbol 61) (put (body_lexemes x.body) (over (symbol 59) (put (where_lexemes x.rules) (over (identifier (codes "END_TYPE")) (over (symbol 59) more))))))))
    (Some (defined_type_digest x, more))
unfolding defined_at take_symbol
defined_by x more is =
    let last : Items = over (symbol 59) more in
    let rules : Items = put (where_lexemes x.rules) (over (identifier (codes "END_TYPE")) last) in
    let body : Items = put (body_lexemes x.body) (over (symbol 59) rules) in
    rw (name_read x.name (over (symbol 61) body) is.0.name_is) (rw (body_read x.body rules is.0.body_is is.1) (rw (where_read x.rules last is.0.rules_are) refl))

pub defined_read : (x : TypeDeclaration) (more : Items) → IsDefined x → (behind : Items) × (put (type_declaration_lexemes x) more ≡ over (identifier (codes "TYPE")) behind) × ◌≡◌ {A = Option (DefinedTypeDigest × Items)} (defined_at behind) (Some (defined_type_digest x, more))
defined_read x more is = (_, put_defined x more, defined_by x more is)
