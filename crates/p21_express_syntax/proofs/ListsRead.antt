-- Lists of names and of attributes are read where they are written.
use Rattle.std.proofs.Common.{◌≡◌, ℕ, Bool, true, false, List, [], ◌∷◌, map, codes, Option, Some, None, refl, ap, ◌∙◌, lit<, arith}
use Rattle.std.specs.List.{flat_map, AllByRecursion as Each}
use Rattle.p21_spec_schema.specs.Express.{Lexeme, identifier, symbol}
use Rattle.p21_spec_schema.specs.ReservedWord.{IsName, AreNames}
use Rattle.p21_spec_schema.specs.WrittenType.{word}
use Rattle.p21_spec_schema.specs.Separated.{names_lexemes}
use Rattle.p21_express_lexemes.specs.Taking.{Items, put, take_symbol, take_word, take_name}
use Rattle.p21_spec_schema.specs.Run.{IsRun, is_symbol, none}
use Rattle.p21_spec_schema.specs.WrittenType.{WrittenType, optional_word, type_lexemes}
use Rattle.p21_spec_schema.specs.EntityDeclaration as written
use Rattle.p21_spec_schema.specs.EntityDeclaration.{own, redeclared, attribute_lexemes, IsAttributeName, ExplicitAttributes, explicit_lexemes, DerivedAttribute, derived_lexemes, IsDerived}
use Rattle.p21_express_lexemes.specs.Runs.{AreApart, behind_run, left_of}
use Rattle.p21_express_lexemes.proofs.Running.{runs, nothing_apart}
use Rattle.p21_express_syntax.specs.Declaring.{comma_name_of, names_from, names_of, redeclared_at, attribute_of, comma_attribute_of, attributes_from, attributes_behind, explicit_of, derived_behind, derived_of, step_bind}
use Rattle.p21_express_syntax.specs.Digest.{TypeDigest, AttributesDigest}
use Rattle.p21_express_syntax.specs.Digesting.{type_digest, name_digest, attributes_digest, derived_digest}
use Rattle.p21_express_syntax.specs.declared.attributes.AttributeName.{AttributeName}
use Rattle.p21_express_syntax.specs.Many.{with_items}
use Rattle.p21_express_syntax.specs.DataTypes.{bind, flag_of, type_of}
use Rattle.p21_express_syntax.proofs.Lists.{comma, same_name, map_same, comma_name_shortens, put_names, AreAttributes, comma_attribute_shortens, put_explicit, put_derived}
use Rattle.p21_express_syntax.proofs.Repeated.{many_read}
use Rattle.p21_express_syntax.proofs.Sounding.{name_read, name_apart, not_reserved}
use Rattle.p21_express_syntax.proofs.TypesSound.{over}
use Rattle.p21_express_syntax.proofs.TypesRead.{Ends, type_first, type_read}

comma_name_read : (name : List ℕ) (more : Items) → IsName name → ◌≡◌ {A = Option (Option (List ℕ × Items))} (comma_name_of (put (comma word name) more)) (Some (Some (name, more)))
unfolding comma_name_of take_symbol take_name
comma_name_read name more is = rw (not_reserved name is) refl

no_comma : (more : Items) → comma_name_of (over (symbol 41) more) ≡ None
unfolding comma_name_of take_symbol
no_comma more = refl

from_read : (first : List ℕ) (others : List (List ℕ)) (more : Items) → Each IsName others → ◌≡◌ {A = Option (List (List ℕ) × Items)} (names_from first (put (flat_map (comma word) others) (over (symbol 41) more))) (Some (first ∷ others, over (symbol 41) more))
unfolding names_from
from_read first others more each =
    ap (with_items (first ∷ [])) (many_read comma_name_of comma_name_shortens (comma word) IsName same_name comma_name_read others (over (symbol 41) more) each (no_comma more) ∙ ap (λ (x : List (List ℕ)). Some (x, over (symbol 41) more)) (map_same others))

pub names_read : (names : List (List ℕ)) (more : Items) → AreNames names → ◌≡◌ {A = Option (List (List ℕ) × Items)} (names_of (put (names_lexemes names) more)) (Some (names, more))
unfolding names_of take_symbol
names_read [] more are = absurd (let some = are.0 in omega arith)
names_read (first ∷ others) more are =
    ap names_of (put_names first others more)
    ∙ (ap (λ (o : Option (List ℕ × Items)). bind o (λ f. bind (names_from f.0 f.1) (λ all. bind (take_symbol 41 all.1) (λ rest. Some (all.0, rest))))) (name_read first (put (flat_map (comma word) others) (over (symbol 41) more)) are.1.0)
    ∙ ap (λ (o : Option (List (List ℕ) × Items)). bind o (λ all. bind (take_symbol 41 all.1) (λ rest. Some (all.0, rest)))) (from_read first others more are.1.1))

-- ---- attributes

attribute_read : (x : written.AttributeName) (more : Items) → IsAttributeName x → ◌≡◌ {A = Option (Option (AttributeName × Items))} (attribute_of (put (attribute_lexemes x) more)) (Some (Some (name_digest x, more)))
unfolding attribute_of redeclared_at take_word take_symbol
attribute_read (own name) more is = rw (name_apart name (codes "SELF") (13, lit< tt, refl) is) (rw (name_read name more is) refl)
attribute_read (redeclared entity name) more is = rw (name_read entity (over (symbol 46) (over (identifier name) more)) is.0) (rw (name_read name more is.1) refl)

comma_attribute_read : (x : written.AttributeName) (more : Items) → IsAttributeName x → ◌≡◌ {A = Option (Option (AttributeName × Items))} (comma_attribute_of (put (comma attribute_lexemes x) more)) (Some (Some (name_digest x, more)))
unfolding comma_attribute_of take_symbol
comma_attribute_read x more is = rw (attribute_read x more is) refl

no_comma_attribute : (more : Items) → comma_attribute_of (over (symbol 58) more) ≡ None
unfolding comma_attribute_of take_symbol
no_comma_attribute more = refl

attributes_read : (first : AttributeName) (others : List written.AttributeName) (more : Items) → Each IsAttributeName others
    → ◌≡◌ {A = Option (List AttributeName × Items)} (attributes_from first (put (flat_map (comma attribute_lexemes) others) (over (symbol 58) more))) (Some (first ∷ map name_digest others, over (symbol 58) more))
unfolding attributes_from
attributes_read first others more each = ap (with_items (first ∷ [])) (many_read comma_attribute_of comma_attribute_shortens (comma attribute_lexemes) IsAttributeName name_digest comma_attribute_read others (over (symbol 58) more) each (no_comma_attribute more))

flag_read : (optional : Bool) (more : Items) → take_word (codes "OPTIONAL") more ≡ None → ◌≡◌ {A = Bool × Items} (flag_of (codes "OPTIONAL") (put (optional_word optional (codes "OPTIONAL")) more)) (optional, more)
unfolding take_word
flag_read true more n = refl
flag_read false more n = rw n refl

pub semicolon_ends : (more : Items) → Ends (over (symbol 59) more)
unfolding take_symbol take_word
semicolon_ends more = record { no_width = refl; no_fixed = refl }

behind_read : (first : AttributeName) (others : List written.AttributeName) (optional : Bool) (type : WrittenType) (more : Items) → Each IsAttributeName others → take_word (codes "OPTIONAL") (put (type_lexemes type) (over (symbol 59) more)) ≡ None
    → ◌≡◌ {A = Option (TypeDigest × Items)} (type_of 32 (put (type_lexemes type) (over (symbol 59) more))) (Some (type_digest type, over (symbol 59) more))
    → ◌≡◌ {A = Option (AttributesDigest × Items)} (attributes_behind first (put (flat_map (comma attribute_lexemes) others) (over (symbol 58) (put (optional_word optional (codes "OPTIONAL")) (put (type_lexemes type) (over (symbol 59) more))))))
    (Some (record { names = first ∷ map name_digest others; optional = optional; type = type_digest type }, more))
unfolding attributes_behind take_symbol
behind_read first others optional type more each n t =
    rw (attributes_read first others (put (optional_word optional (codes "OPTIONAL")) (put (type_lexemes type) (over (symbol 59) more))) each) (rw (flag_read optional (put (type_lexemes type) (over (symbol 59) more)) n) (rw t refl))

explicit_by : (first : written.AttributeName) (others : List written.AttributeName) (optional : Bool) (type : WrittenType) (more : Items) → AreAttributes (record { names = first ∷ others; optional = optional; type = type })
    → ◌≡◌ {A = Option (Option (AttributesDigest × Items))} (explicit_of (put (explicit_lexemes (record { names = first ∷ others; optional = optional; type = type })) more)) (Some (Some (attributes_digest (record { names = first ∷ others; optional = optional; type = type }), more)))
unfolding explicit_of
explicit_by first others optional type more is =
    let behind : Items = put (flat_map (comma attribute_lexemes) others) (over (symbol 58) (put (optional_word optional (codes "OPTIONAL")) (put (type_lexemes type) (over (symbol 59) more)))) in
    ap explicit_of (put_explicit first others optional type more)
    ∙ (ap (λ (o : Option (Option (AttributeName × Items))). step_bind o attributes_behind) (attribute_read first behind is.0.1.0)
    ∙ ap Some (behind_read (name_digest first) others optional type more is.0.1.1 (type_first type (over (symbol 59) more) is.0.2).0 (type_read type 32 (over (symbol 59) more) is.1.1 is.0.2 is.1.0 (semicolon_ends more))))

pub explicit_read : (x : ExplicitAttributes) (more : Items) → AreAttributes x → ◌≡◌ {A = Option (Option (AttributesDigest × Items))} (explicit_of (put (explicit_lexemes x) more)) (Some (Some (attributes_digest x, more)))
explicit_read x more is = by x.names is
  where
    by : (names : List written.AttributeName) → AreAttributes (record { names = names; optional = x.optional; type = x.type }) → ◌≡◌ {A = Option (Option (AttributesDigest × Items))} (explicit_of (put (explicit_lexemes (record { names = names; optional = x.optional; type = x.type })) more)) (Some (Some (attributes_digest (record { names = names; optional = x.optional; type = x.type }), more)))
    by [] h = absurd (let some = h.0.0 in omega arith)
    by (first ∷ others) h = explicit_by first others x.optional x.type more h

-- ---- runs

pub run_read : (opens closes : Lexeme → Bool) (last : Lexeme) (run : List Lexeme) (more : Items) → AreApart opens closes → IsRun opens closes run → closes last ≡ true → ◌≡◌ {A = Option Items} (behind_run opens closes (put run (over last more))) (Some more)
unfolding behind_run
run_read opens closes last run more apart is closed = ap left_of (runs opens closes apart (put run (over last more)) more (record { run = run; last = last; is_run = is; closed = closed; lexemes = refl }))

-- ---- derived attributes

derived_by : (name : AttributeName) (run : List Lexeme) (more : Items) → IsRun none (is_symbol 59) run → ◌≡◌ {A = Option (AttributeName × Items)} (derived_behind name (over (symbol 58) (put run (over (symbol 59) more)))) (Some (name, more))
unfolding derived_behind take_symbol
derived_by name run more is = rw (run_read none (is_symbol 59) (symbol 59) run more (nothing_apart (is_symbol 59)) is refl) refl

pub derived_read : (x : DerivedAttribute) (more : Items) → IsDerived x → ◌≡◌ {A = Option (Option (AttributeName × Items))} (derived_of (put (derived_lexemes x) more)) (Some (Some (derived_digest x, more)))
unfolding derived_of
derived_read x more is =
    ap derived_of (put_derived x.name x.run more)
    ∙ (ap (λ (o : Option (Option (AttributeName × Items))). step_bind o derived_behind) (attribute_read x.name (over (symbol 58) (put x.run (over (symbol 59) more))) is.0)
    ∙ ap Some (derived_by (name_digest x.name) x.run more is.1))
