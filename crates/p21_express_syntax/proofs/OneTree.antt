-- The tree of a schema declaration is fixed by its lexemes: its parts are compared one by one, from the front.
use Rattle.std.proofs.Common.{◌≡◌, ℕ, zero, suc, ◌+◌, ◌≤◌, Bool, true, false, ◌&&◌, List, [], ◌∷◌, codes, Option, Some, None, IfSome, refl, ap, sym, subst, ◌∙◌, arith}
use Rattle.std.specs.List.{Contains, AllByRecursion as Each}
use Rattle.std.specs.Prelude.{if◌then◌else◌}
use Rattle.p21_spec_schema.specs.Express.{Lexeme, identifier, simple_string, symbol}
use Rattle.p21_spec_schema.specs.ExpressLaying.{LaidLexemes}
use Rattle.p21_spec_schema.specs.Run.{IsRun, is_word, none}
use Rattle.p21_spec_schema.specs.WrittenType.{nesting}
use Rattle.p21_spec_schema.specs.SupertypeConstraint.{SupertypeConstraint}
use Rattle.p21_spec_schema.specs.EntityDeclaration.{ExplicitAttributes, DerivedAttribute, Rules, EntityDeclaration, explicit_lexemes, derived_lexemes, derive_lexemes, rules_lexemes, entity_lexemes, AreExplicit, IsDerived, AreRules, IsEntityDeclaration}
use Rattle.p21_spec_schema.specs.TypeDeclaration.{Body, enumeration, select, underlying, TypeDeclaration, body_lexemes, where_lexemes, type_declaration_lexemes, IsBody, IsTypeDeclaration}
use Rattle.p21_spec_schema.specs.SchemaDeclaration.{ReadOver, Declaration, entity, defined, read_over, SchemaDeclaration, read_over_lexemes, declaration_lexemes, version_lexemes, schema_lexemes, read_over_words, IsReadOver, IsDeclaration, IsSchemaDeclaration}
use Rattle.p21_express_lexemes.specs.Runs.{AreApart}
use Rattle.p21_express_lexemes.specs.Taking.{Items, put, take_word, take_name}
use Rattle.p21_express_lexemes.specs.Words.{is_reserved}
use Rattle.p21_express_lexemes.proofs.Once.{one_laying}
use Rattle.p21_express_lexemes.proofs.Running.{nothing_apart}
use Rattle.p21_express_syntax.specs.Declaring.{names_of}
use Rattle.p21_express_syntax.specs.DataTypes.{bind, choose}
use Rattle.p21_express_syntax.proofs.Apart.{functions_apart, procedures_apart}
use Rattle.p21_express_syntax.proofs.Declared.{put_entity, put_defined}
use Rattle.p21_express_syntax.proofs.DeclaredRead.{behind_constraint, no_subtype, type_begins}
use Rattle.p21_express_syntax.proofs.ListsRead.{names_read, semicolon_ends}
use Rattle.p21_express_syntax.proofs.Schemas.{put_over, put_schema}
use Rattle.p21_express_syntax.proofs.TypesSound.{over}
use Rattle.p21_express_syntax.proofs.TypeTrees.{type_at, type_back}
use Rattle.std.specs.Str.{bytes_eq}
use Rattle.p21_express_syntax.proofs.FixedParts.{none_is, first_same, behind, words_same, IsFixed, AllBegin, many_fixed, run_fixed, constraint_fixed, supertypes_fixed, explicit_fixed, explicit_begins, derived_fixed, derived_begins, begins_attribute}
use Rattle.p21_spec_basics.proofs.Comparing.{bytes_eq-apart}
use Rattle.p21_spec_basics.proofs.Members.{some_pair_is}

-- ---- the end of an entity

-- no attribute and no DERIVE stands first
record IsBehind (more : Items) : Type 0 where
  pub no_attribute : begins_attribute more ≡ false
  pub no_derive : take_word (codes "DERIVE") more ≡ None

rule_behind : (first : List ℕ) (more : Items) → Contains (codes "INVERSE" ∷ codes "UNIQUE" ∷ codes "WHERE" ∷ []) first → IsBehind (over (identifier first) more)
unfolding take_word take_name is_reserved
rule_behind first more (zero, lt, e) = subst (λ (x : List ℕ). IsBehind (over (identifier x) more)) e (record { no_attribute = refl; no_derive = refl })
rule_behind first more (suc zero, lt, e) = subst (λ (x : List ℕ). IsBehind (over (identifier x) more)) e (record { no_attribute = refl; no_derive = refl })
rule_behind first more (suc (suc zero), lt, e) = subst (λ (x : List ℕ). IsBehind (over (identifier x) more)) e (record { no_attribute = refl; no_derive = refl })
rule_behind first more (suc (suc (suc k)), lt, e) = absurd (omega arith)

end_behind : (more : Items) → IsBehind (over (identifier (codes "END_ENTITY")) more)
unfolding take_word take_name is_reserved
end_behind more = record { no_attribute = refl; no_derive = refl }

rules_behind : (rules : Option Rules) (more : Items) → IfSome rules AreRules → IsBehind (put (rules_lexemes rules) (over (identifier (codes "END_ENTITY")) more))
rules_behind None more is = end_behind more
rules_behind (Some rules) more is = rule_behind rules.first (put rules.run (over (identifier (codes "END_ENTITY")) more)) is.0

derive_behind : (derive : Option (List DerivedAttribute)) (more : Items) → IsBehind more → begins_attribute (put (derive_lexemes derive) more) ≡ false
unfolding take_word take_name is_reserved
derive_behind None more b = b.no_attribute
derive_behind (Some derived) more b = refl

-- DERIVE stands there, or not
with_derive : (more : Items) → take_word (codes "DERIVE") (over (identifier (codes "DERIVE")) more) ≡ Some more
unfolding take_word
with_derive more = refl

derive_fixed : (x y : Option (List DerivedAttribute)) (more rest : Items) → IfSome x (Each IsDerived) → IfSome y (Each IsDerived) → IsBehind more → IsBehind rest → put (derive_lexemes x) more ≡ put (derive_lexemes y) rest → (x ≡ y) × (more ≡ rest)
derive_fixed None None more rest is_x is_y b c e = (refl, e)
derive_fixed None (Some ys) more rest is_x is_y b c e = absurd (none_is {A = Items} _ (sym b.no_derive ∙ (ap (take_word (codes "DERIVE")) e ∙ with_derive _)))
derive_fixed (Some xs) None more rest is_x is_y b c e = absurd (none_is {A = Items} _ (sym c.no_derive ∙ (ap (take_word (codes "DERIVE")) (sym e) ∙ with_derive _)))
derive_fixed (Some xs) (Some ys) more rest is_x is_y b c e =
    let all = many_fixed derived_lexemes IsDerived begins_attribute derived_fixed derived_begins xs ys more rest is_x is_y b.no_attribute c.no_attribute (behind _ _ _ _ e) in
    (ap Some all.0, all.1)

-- the word at which rules begin is not that behind them
no_end : (first : List ℕ) → Contains (codes "INVERSE" ∷ codes "UNIQUE" ∷ codes "WHERE" ∷ []) first → codes "END_ENTITY" ≡ first → ⊥
no_end first (zero, lt, e) f = bytes_eq-apart (codes "END_ENTITY") (codes "INVERSE") refl (f ∙ sym e)
no_end first (suc zero, lt, e) f = bytes_eq-apart (codes "END_ENTITY") (codes "UNIQUE") refl (f ∙ sym e)
no_end first (suc (suc zero), lt, e) f = bytes_eq-apart (codes "END_ENTITY") (codes "WHERE") refl (f ∙ sym e)
no_end first (suc (suc (suc k)), lt, e) f = absurd (omega arith)

rules_same : (v w : List ℕ) (run other : List Lexeme) → v ≡ w → run ≡ other → ◌≡◌ {A = Option Rules} (Some (record { first = v; run = run })) (Some (record { first = w; run = other }))
rules_same v w run other e f = rw (e, f) refl

rules_fixed : (x y : Option Rules) (more rest : Items) → IfSome x AreRules → IfSome y AreRules → put (rules_lexemes x) (over (identifier (codes "END_ENTITY")) more) ≡ put (rules_lexemes y) (over (identifier (codes "END_ENTITY")) rest) → (x ≡ y) × (more ≡ rest)
rules_fixed None None more rest is_x is_y e = (refl, behind _ _ _ _ e)
rules_fixed None (Some y) more rest is_x is_y e = absurd (no_end y.first is_y.0 (words_same (codes "END_ENTITY") y.first _ _ e).0)
rules_fixed (Some x) None more rest is_x is_y e = absurd (no_end x.first is_x.0 (sym (words_same x.first (codes "END_ENTITY") _ _ e).0))
rules_fixed (Some x) (Some y) more rest is_x is_y e =
    let word = words_same x.first y.first _ _ e in
    let run = run_fixed none (is_word (codes "END_ENTITY")) (nothing_apart (is_word (codes "END_ENTITY"))) (identifier (codes "END_ENTITY")) refl x.run y.run more rest is_x.1 is_y.1 word.1 in
    (rules_same x.first y.first x.run y.run word.0 run.0, run.1)

-- ---- entities

entity_same : (a b : List ℕ) (c d : SupertypeConstraint) (s t : Option (List (List ℕ))) (es fs : List ExplicitAttributes) (ds gs : Option (List DerivedAttribute)) (r q : Option Rules) → a ≡ b → c ≡ d → s ≡ t → es ≡ fs → ds ≡ gs → r ≡ q
    → ◌≡◌ {A = EntityDeclaration} (record { name = a; constraint = c; subtype_of = s; explicit = es; derive = ds; rules = r }) (record { name = b; constraint = d; subtype_of = t; explicit = fs; derive = gs; rules = q })
entity_same a b c d s t es fs ds gs r q e f g h i j = rw (e, f, g, h, i, j) refl

entity_fixed : IsFixed entity_lexemes IsEntityDeclaration
entity_fixed x y more rest is_x is_y e =
    let name = words_same x.name y.name _ _ (behind _ _ _ _ (sym (put_entity x more) ∙ (e ∙ put_entity y rest))) in
    let constraint = constraint_fixed x.constraint y.constraint _ _ is_x.constraint_is is_y.constraint_is (behind_constraint x.subtype_of _) (behind_constraint y.subtype_of _) name.1 in
    let supertypes = supertypes_fixed x.subtype_of y.subtype_of _ _ is_x.supertypes_are is_y.supertypes_are (no_subtype _) (no_subtype _) constraint.1 in
    let rules_x = rules_behind x.rules (over (symbol 59) more) is_x.rules_are in
    let rules_y = rules_behind y.rules (over (symbol 59) rest) is_y.rules_are in
    let explicit = many_fixed explicit_lexemes AreExplicit begins_attribute explicit_fixed explicit_begins x.explicit y.explicit _ _ is_x.explicit_are is_y.explicit_are (derive_behind x.derive _ rules_x) (derive_behind y.derive _ rules_y) (behind _ _ _ _ supertypes.1) in
    let derive = derive_fixed x.derive y.derive _ _ is_x.derived_are is_y.derived_are rules_x rules_y explicit.1 in
    let rules = rules_fixed x.rules y.rules _ _ is_x.rules_are is_y.rules_are derive.1 in
    (entity_same x.name y.name x.constraint y.constraint x.subtype_of y.subtype_of x.explicit y.explicit x.derive y.derive x.rules y.rules name.0 constraint.0 supertypes.0 explicit.0 derive.0 rules.0, behind _ _ _ _ rules.1)

-- ---- types

abbrev depth : Body → ℕ
depth (underlying type) = suc (nesting type)
depth other = 0

abbrev body_at : ℕ → Items → Option (Body × Items)
body_at n items =
    choose (take_word (codes "ENUMERATION") items) (λ a. bind (take_word (codes "OF") a) (λ b. bind (names_of b) (λ names. Some (enumeration names.0, names.1))))
    (choose (take_word (codes "SELECT") items) (λ a. bind (names_of a) (λ names. Some (select names.0, names.1))) (bind (type_at n items) (λ t. Some (underlying t.0, t.1))))

body_back : (x : Body) (n : ℕ) (more : Items) → depth x ≤ n → IsBody x → ◌≡◌ {A = Option (Body × Items)} (body_at n (put (body_lexemes x) (over (symbol 59) more))) (Some (x, over (symbol 59) more))
unfolding take_word
body_back (enumeration names) n more deep is = rw (names_read names (over (symbol 59) more) is) refl
body_back (select names) n more deep is = rw (names_read names (over (symbol 59) more) is) refl
body_back (underlying type) n more deep is =
    let first = type_begins type (over (symbol 59) more) is in
    rw first.0 (rw first.1 (rw (type_back type n (over (symbol 59) more) (omega arith) is (semicolon_ends more)) refl))

body_fixed : (x y : Body) (more rest : Items) → IsBody x → IsBody y → put (body_lexemes x) (over (symbol 59) more) ≡ put (body_lexemes y) (over (symbol 59) rest) → (x ≡ y) × (more ≡ rest)
body_fixed x y more rest is_x is_y e =
    let n = depth x + depth y in
    let p = some_pair_is {X = Body} x y (over (symbol 59) more) (over (symbol 59) rest) (sym (body_back x n more (omega arith) is_x) ∙ (ap (body_at n) e ∙ body_back y n rest (omega arith) is_y)) in
    (p.0, behind _ _ _ _ p.1)

where_fixed : (x y : Option (List Lexeme)) (more rest : Items) → IfSome x (IsRun none (is_word (codes "END_TYPE"))) → IfSome y (IsRun none (is_word (codes "END_TYPE"))) → put (where_lexemes x) (over (identifier (codes "END_TYPE")) more) ≡ put (where_lexemes y) (over (identifier (codes "END_TYPE")) rest) → (x ≡ y) × (more ≡ rest)
where_fixed None None more rest is_x is_y e = (refl, behind _ _ _ _ e)
where_fixed None (Some y) more rest is_x is_y e = absurd (bytes_eq-apart (codes "END_TYPE") (codes "WHERE") refl (words_same (codes "END_TYPE") (codes "WHERE") _ _ e).0)
where_fixed (Some x) None more rest is_x is_y e = absurd (bytes_eq-apart (codes "WHERE") (codes "END_TYPE") refl (words_same (codes "WHERE") (codes "END_TYPE") _ _ e).0)
where_fixed (Some x) (Some y) more rest is_x is_y e =
    let run = run_fixed none (is_word (codes "END_TYPE")) (nothing_apart (is_word (codes "END_TYPE"))) (identifier (codes "END_TYPE")) refl x y more rest is_x is_y (behind _ _ _ _ e) in
    (ap Some run.0, run.1)

defined_same : (a b : List ℕ) (c d : Body) (r q : Option (List Lexeme)) → a ≡ b → c ≡ d → r ≡ q → ◌≡◌ {A = TypeDeclaration} (record { name = a; body = c; rules = r }) (record { name = b; body = d; rules = q })
defined_same a b c d r q e f g = rw (e, f, g) refl

defined_fixed : IsFixed type_declaration_lexemes IsTypeDeclaration
defined_fixed x y more rest is_x is_y e =
    let name = words_same x.name y.name _ _ (behind _ _ _ _ (sym (put_defined x more) ∙ (e ∙ put_defined y rest))) in
    let body = body_fixed x.body y.body _ _ is_x.body_is is_y.body_is (behind _ _ _ _ name.1) in
    let rules = where_fixed x.rules y.rules _ _ is_x.rules_are is_y.rules_are body.1 in
    (defined_same x.name y.name x.body y.body x.rules y.rules name.0 body.0 rules.0, behind _ _ _ _ rules.1)

-- ---- declarations that are read over

-- the last word and whether the first one opens, by the first one
abbrev by_first : List ℕ → List ℕ × Bool
by_first name =
    if bytes_eq name (codes "FUNCTION") then (codes "END_FUNCTION", true) else if bytes_eq name (codes "PROCEDURE") then (codes "END_PROCEDURE", true)
    else if bytes_eq name (codes "RULE") then (codes "END_RULE", false) else if bytes_eq name (codes "CONSTANT") then (codes "END_CONSTANT", false) else (codes "END_SUBTYPE_CONSTRAINT", false)

-- what is known of the words of what is read over
record AreWords (words : List ℕ × List ℕ × Bool) : Type 0 where
  pub fixed : by_first words.0 ≡ (words.1, words.2)
  pub are_apart : AreApart (λ lexeme. words.2 && is_word words.0 lexeme) (is_word words.1)
  pub closes : is_word words.1 (identifier words.1) ≡ true
  pub no_entity : bytes_eq words.0 (codes "ENTITY") ≡ false
  pub no_type : bytes_eq words.0 (codes "TYPE") ≡ false
  pub no_end : bytes_eq words.0 (codes "END_SCHEMA") ≡ false

are_words : (words : List ℕ × List ℕ × Bool) → Contains read_over_words words → AreWords words
are_words words (zero, lt, e) = subst AreWords e (record { fixed = refl; are_apart = functions_apart; closes = refl; no_entity = refl; no_type = refl; no_end = refl })
are_words words (suc zero, lt, e) = subst AreWords e (record { fixed = refl; are_apart = procedures_apart; closes = refl; no_entity = refl; no_type = refl; no_end = refl })
are_words words (suc (suc zero), lt, e) = subst AreWords e (record { fixed = refl; are_apart = nothing_apart (is_word (codes "END_RULE")); closes = refl; no_entity = refl; no_type = refl; no_end = refl })
are_words words (suc (suc (suc zero)), lt, e) = subst AreWords e (record { fixed = refl; are_apart = nothing_apart (is_word (codes "END_CONSTANT")); closes = refl; no_entity = refl; no_type = refl; no_end = refl })
are_words words (suc (suc (suc (suc zero))), lt, e) = subst AreWords e (record { fixed = refl; are_apart = nothing_apart (is_word (codes "END_SUBTYPE_CONSTRAINT")); closes = refl; no_entity = refl; no_type = refl; no_end = refl })
are_words words (suc (suc (suc (suc (suc k)))), lt, e) = absurd (omega arith)

over_by : (first last : List ℕ) (nests : Bool) (run : List Lexeme) (x : ReadOver) (more rest : Items) → AreWords (first, last, nests) → IsRun (λ lexeme. nests && is_word first lexeme) (is_word last) run
    → first ≡ x.first → last ≡ x.last → nests ≡ x.nests → IsRun (λ lexeme. x.nests && is_word x.first lexeme) (is_word x.last) x.run
    → put run (over (identifier last) (over (symbol 59) more)) ≡ put x.run (over (identifier x.last) (over (symbol 59) rest))
    → ◌≡◌ {A = ReadOver} (record { first = first; last = last; nests = nests; run = run }) x × (more ≡ rest)
over_by first last nests run x more rest are is p q r is_x e =
    let moved : IsRun (λ lexeme. nests && is_word first lexeme) (is_word last) x.run = rw (p, q, r) is_x in
    let stands : put run (over (identifier last) (over (symbol 59) more)) ≡ put x.run (over (identifier last) (over (symbol 59) rest)) = e ∙ ap (λ (v : List ℕ). put x.run (over (identifier v) (over (symbol 59) rest))) (sym q) in
    let same = run_fixed (λ lexeme. nests && is_word first lexeme) (is_word last) are.are_apart (identifier last) are.closes run x.run (over (symbol 59) more) (over (symbol 59) rest) is moved stands in
    (over_same first x.first last x.last nests x.nests run x.run p q r same.0, behind _ _ _ _ same.1)
  where
    over_same : (a b c d : List ℕ) (n m : Bool) (run other : List Lexeme) → a ≡ b → c ≡ d → n ≡ m → run ≡ other → ◌≡◌ {A = ReadOver} (record { first = a; last = c; nests = n; run = run }) (record { first = b; last = d; nests = m; run = other })
    over_same a b c d n m run other e f g h = rw (e, f, g, h) refl

pair_same : (a b : List ℕ) (n m : Bool) → ◌≡◌ {A = List ℕ × Bool} (a, n) (b, m) → (a ≡ b) × (n ≡ m)
pair_same a b n m e = (ap (λ (p : List ℕ × Bool). p.0) e, ap (λ (p : List ℕ × Bool). p.1) e)

over_fixed : IsFixed read_over_lexemes IsReadOver
over_fixed x y more rest is_x is_y e =
    let words_x = are_words (x.first, x.last, x.nests) is_x.0 in
    let words_y = are_words (y.first, y.last, y.nests) is_y.0 in
    let first = words_same x.first y.first _ _ (sym (put_over x.first x.last x.nests x.run more) ∙ (e ∙ put_over y.first y.last y.nests y.run rest)) in
    let others = pair_same x.last y.last x.nests y.nests (sym words_x.fixed ∙ (ap by_first first.0 ∙ words_y.fixed)) in
    over_by x.first x.last x.nests x.run y more rest words_x is_x.1 first.0 others.0 others.1 is_y.1 first.1

-- ---- declarations

-- the word with which a declaration begins
abbrev first_word : Declaration → List ℕ
first_word (entity x) = codes "ENTITY"
first_word (defined x) = codes "TYPE"
first_word (read_over x) = x.first

begins_with : (x : Declaration) (more : Items) → (rest : Items) × (put (declaration_lexemes x) more ≡ over (identifier (first_word x)) rest)
begins_with (entity x) more = (_, put_entity x more)
begins_with (defined x) more = (_, put_defined x more)
begins_with (read_over x) more = (_, put_over x.first x.last x.nests x.run more)

same_first : (x y : Declaration) (more rest : Items) → put (declaration_lexemes x) more ≡ put (declaration_lexemes y) rest → first_word x ≡ first_word y
same_first x y more rest e = (words_same (first_word x) (first_word y) _ _ (sym (begins_with x more).1 ∙ (e ∙ (begins_with y rest).1))).0

declaration_fixed : IsFixed declaration_lexemes IsDeclaration
declaration_fixed (entity x) (entity y) more rest is_x is_y e = let f = entity_fixed x y more rest is_x is_y e in (ap entity f.0, f.1)
declaration_fixed (defined x) (defined y) more rest is_x is_y e = let f = defined_fixed x y more rest is_x is_y e in (ap defined f.0, f.1)
declaration_fixed (read_over x) (read_over y) more rest is_x is_y e = let f = over_fixed x y more rest is_x is_y e in (ap read_over f.0, f.1)
declaration_fixed (entity x) (defined y) more rest is_x is_y e = absurd (bytes_eq-apart (codes "ENTITY") (codes "TYPE") refl (same_first (entity x) (defined y) more rest e))
declaration_fixed (defined x) (entity y) more rest is_x is_y e = absurd (bytes_eq-apart (codes "TYPE") (codes "ENTITY") refl (same_first (defined x) (entity y) more rest e))
declaration_fixed (read_over x) (entity y) more rest is_x is_y e = absurd (bytes_eq-apart x.first (codes "ENTITY") (are_words (x.first, x.last, x.nests) is_x.0).no_entity (same_first (read_over x) (entity y) more rest e))
declaration_fixed (read_over x) (defined y) more rest is_x is_y e = absurd (bytes_eq-apart x.first (codes "TYPE") (are_words (x.first, x.last, x.nests) is_x.0).no_type (same_first (read_over x) (defined y) more rest e))
declaration_fixed (entity x) (read_over y) more rest is_x is_y e = absurd (bytes_eq-apart y.first (codes "ENTITY") (are_words (y.first, y.last, y.nests) is_y.0).no_entity (sym (same_first (entity x) (read_over y) more rest e)))
declaration_fixed (defined x) (read_over y) more rest is_x is_y e = absurd (bytes_eq-apart y.first (codes "TYPE") (are_words (y.first, y.last, y.nests) is_y.0).no_type (sym (same_first (defined x) (read_over y) more rest e)))

-- anything but END_SCHEMA
abbrev begins_declaration : Items → Bool
begins_declaration items = choose (take_word (codes "END_SCHEMA") items) (λ rest. false) true

another_word : (name : List ℕ) (more : Items) → bytes_eq name (codes "END_SCHEMA") ≡ false → begins_declaration (over (identifier name) more) ≡ true
unfolding take_word
another_word name more n = rw n refl

declaration_begins : AllBegin declaration_lexemes IsDeclaration begins_declaration
declaration_begins (entity x) more is = ap begins_declaration (put_entity x more) ∙ another_word (codes "ENTITY") _ refl
declaration_begins (defined x) more is = ap begins_declaration (put_defined x more) ∙ another_word (codes "TYPE") _ refl
declaration_begins (read_over x) more is = ap begins_declaration (put_over x.first x.last x.nests x.run more) ∙ another_word x.first _ (are_words (x.first, x.last, x.nests) is.0).no_end

no_declaration : (more : Items) → begins_declaration (over (identifier (codes "END_SCHEMA")) more) ≡ false
unfolding take_word
no_declaration more = refl

-- ---- schemas

version_fixed : (x y : Option (List ℕ)) (more rest : Items) → put (version_lexemes x) (over (symbol 59) more) ≡ put (version_lexemes y) (over (symbol 59) rest) → (x ≡ y) × (more ≡ rest)
version_fixed None None more rest e = (refl, behind _ _ _ _ e)
version_fixed None (Some w) more rest e = absurd (let f = (first_same (symbol 59) (simple_string w) _ _ e).0 in cc)
version_fixed (Some v) None more rest e = absurd (let f = (first_same (simple_string v) (symbol 59) _ _ e).0 in cc)
version_fixed (Some v) (Some w) more rest e =
    let f = first_same (simple_string v) (simple_string w) _ _ e in
    let g : v ≡ w = (let h : simple_string v ≡ simple_string w = f.0 in cc) in
    (ap Some g, behind _ _ _ _ f.1)

schema_same : (a b : List ℕ) (v w : Option (List ℕ)) (ds es : List Declaration) → a ≡ b → v ≡ w → ds ≡ es → ◌≡◌ {A = SchemaDeclaration} (record { name = a; version = v; declarations = ds }) (record { name = b; version = w; declarations = es })
schema_same a b v w ds es e f g = rw (e, f, g) refl

-- schema declarations with the same lexemes are one
pub one_tree : (x y : SchemaDeclaration) → IsSchemaDeclaration x → IsSchemaDeclaration y → schema_lexemes x ≡ schema_lexemes y → x ≡ y
one_tree x y is_x is_y e =
    let stands = sym (put_schema x []) ∙ (ap (λ (lexemes : List Lexeme). put lexemes []) e ∙ put_schema y []) in
    let name = words_same x.name y.name _ _ (behind _ _ _ _ stands) in
    let version = version_fixed x.version y.version _ _ name.1 in
    let declarations = many_fixed declaration_lexemes IsDeclaration begins_declaration declaration_fixed declaration_begins x.declarations y.declarations _ _ is_x.declarations_are is_y.declarations_are (no_declaration _) (no_declaration _) version.1 in
    schema_same x.name y.name x.version y.version x.declarations y.declarations name.0 version.0 declarations.0

-- a text is that of one schema declaration at most
pub one_text_tree : (text : List ℕ) (x y : SchemaDeclaration) → IsSchemaDeclaration x → IsSchemaDeclaration y → LaidLexemes (schema_lexemes x) text → LaidLexemes (schema_lexemes y) text → x ≡ y
one_text_tree text x y is_x is_y laid other = one_tree x y is_x is_y (one_laying text (schema_lexemes x) (schema_lexemes y) laid other)
