-- An entity has no more attributes than its text has bytes.
use Rattle.std.specs.Prelude.{◌≡◌, ℕ, suc, ◌+◌, ◌<◌, ◌≤◌, ◌^◌, List, [], ◌∷◌, ◌++◌, length, map, Contains, codes, refl}
use Rattle.std.specs.List.{flat_map}
use Rattle.std.proofs.Common.{arith, ap, subst, inl, inr}
use Rattle.std.proofs.lemmas.List.{length-append, length-map}
use Rattle.p21_spec_basics.proofs.Members.{Contains-none, Contains-cases}
use Rattle.p21_spec_schema.specs.EntityDeclaration.{AttributeName, own, redeclared, ExplicitAttributes, EntityDeclaration, attribute_lexemes, explicit_lexemes, derive_lexemes, subtype_lexemes, rules_lexemes, entity_lexemes}
use Rattle.p21_spec_schema.specs.Express.{Lexeme, identifier, digits, simple_string, encoded_string, symbol, SpellsLexeme, quote_twice}
use Rattle.p21_spec_schema.specs.ExpressLaying.{LaidLexemes}
use Rattle.p21_spec_schema.specs.SchemaDeclaration.{Declaration, entity, defined, read_over, SchemaDeclaration, entities_of, declaration_lexemes, schema_lexemes, version_lexemes}
use Rattle.p21_spec_schema.specs.Separated.{comma_separated}
use Rattle.p21_spec_schema.specs.SupertypeConstraint.{constraint_lexemes}
use Rattle.p21_spec_schema.specs.WrittenType.{word, symbols, optional_word, type_lexemes}
use Rattle.p21_express_outline.specs.Outline.{digest_own_explicit, digest_own_names}
use Rattle.p21_express_syntax.specs.Digesting.{name_digest, attributes_digest}
use Rattle.p21_express_syntax.specs.ReadDeclarations.{IsTextOf}

front_le : {A : Type 0} (xs ys : List A) → length xs ≤ length (xs ++ ys)
front_le xs ys = let l = length-append xs ys in omega (arith, l)

back_le : {A : Type 0} (xs ys : List A) → length ys ≤ length (xs ++ ys)
back_le xs ys = let l = length-append xs ys in omega (arith, l)

then_le : (a b c : ℕ) → a ≤ b → b ≤ c → a ≤ c
then_le a b c ab bc = omega (arith, ab, bc)

-- ---- a lexeme is written with a byte at least

some_byte : (x : Lexeme) (bytes : List ℕ) → SpellsLexeme x bytes → 1 ≤ length bytes
some_byte (identifier name) [] spells = absurd spells.0
some_byte (identifier name) (byte ∷ bytes) spells = omega arith
some_byte (digits ds) bytes spells = let long : length bytes ≡ length ds = ap length spells.0 in omega (arith, long, spells.1)
some_byte (simple_string inside) bytes spells = let long : length bytes ≡ suc (length (flat_map quote_twice inside ++ 39 ∷ [])) =
    ap length spells in omega (arith, long)
some_byte (encoded_string inside) bytes spells = let long : length bytes ≡ suc (length (inside ++ 34 ∷ [])) = ap length spells.0 in
    omega (arith, long)
some_byte (symbol byte) bytes spells = let long : length bytes ≡ 1 = ap length spells.0 in omega (arith, long)

laid_count : (lexemes : List Lexeme) (bytes : List ℕ) → LaidLexemes lexemes bytes → length lexemes ≤ length bytes
laid_count [] bytes laid = omega arith
laid_count (x ∷ lexemes) bytes (gap, spelling, rest, same, _, spells, _, laid) =
    let long : length bytes ≡ length (gap ++ spelling ++ rest) = ap length same in
    let all = length-append (gap ++ spelling) rest in
    let front = length-append gap spelling in
    let some = some_byte x spelling spells in
    let more = laid_count lexemes rest laid in
    omega (arith, long, all, front, some, more)

-- ---- new attributes and what they are written with

name_some : (name : AttributeName) → 1 ≤ length (attribute_lexemes name)
name_some (own name) = omega arith
name_some (redeclared supertype name) = omega arith

own_more : (name : AttributeName) (names : List AttributeName)
    → length (digest_own_names (map name_digest (name ∷ names))) ≤ suc (length (digest_own_names (map name_digest names)))
own_more (own name) names = omega arith
own_more (redeclared supertype name) names = omega arith

names_few : (names : List AttributeName) → length (digest_own_names (map name_digest names)) ≤ length
    (comma_separated attribute_lexemes names)
names_few [] = omega arith
names_few (x ∷ []) = let more = own_more x [] in let some = name_some x in omega (arith, more, some)
names_few (x ∷ y ∷ names) =
    let more = own_more x (y ∷ names) in
    let few = names_few (y ∷ names) in
    let all : length (comma_separated attribute_lexemes (x ∷ y ∷ names)) ≡ length (attribute_lexemes x ++ symbols (codes ",")) + length
    (comma_separated attribute_lexemes (y ∷ names)) = length-append (attribute_lexemes x ++ symbols (codes ","))
    (comma_separated attribute_lexemes (y ∷ names)) in
    let front = front_le (attribute_lexemes x) (symbols (codes ",")) in
    let some = name_some x in
    omega (arith, more, few, all, front, some)

explicit_few : (x : ExplicitAttributes) → length (digest_own_names (map name_digest x.names)) ≤ length (explicit_lexemes x)
explicit_few x =
    let named = comma_separated attribute_lexemes x.names in
    let one = front_le named (symbols (codes ":")) in
    let two = front_le (named ++ symbols (codes ":")) (optional_word x.optional (codes "OPTIONAL")) in
    let three = front_le (named ++ symbols (codes ":") ++ optional_word x.optional (codes "OPTIONAL")) (type_lexemes x.type) in
    let four = front_le (named ++ symbols (codes ":") ++ optional_word x.optional (codes "OPTIONAL") ++ type_lexemes x.type)
    (symbols (codes ";")) in
    then_le _ _ _ (names_few x.names) (then_le _ _ _ one (then_le _ _ _ two (then_le _ _ _ three four)))

attributes_few : (explicit : List ExplicitAttributes)
    → length (digest_own_explicit (map attributes_digest explicit)) ≤ length (flat_map explicit_lexemes explicit)
attributes_few [] = omega arith
attributes_few (x ∷ explicit) =
    let these = map (λ name. (name, x.optional, (attributes_digest x).type)) (digest_own_names (map name_digest x.names)) in
    let kept : length (digest_own_explicit (map attributes_digest (x ∷ explicit))) ≡ length these + length
    (digest_own_explicit (map attributes_digest explicit)) =
    length-append these (digest_own_explicit (map attributes_digest explicit)) in
    let named : length these ≡ length (digest_own_names (map name_digest x.names)) =
    length-map (digest_own_names (map name_digest x.names)) (λ name. (name, x.optional, (attributes_digest x).type)) in
    let written : length (flat_map explicit_lexemes (x ∷ explicit)) ≡ length (explicit_lexemes x) + length
    (flat_map explicit_lexemes explicit) = length-append (explicit_lexemes x) (flat_map explicit_lexemes explicit) in
    let few = explicit_few x in
    let more = attributes_few explicit in
    omega (arith, kept, named, written, few, more)

-- ---- in the whole text

in_entity : (x : EntityDeclaration) → length (flat_map explicit_lexemes x.explicit) ≤ length (entity_lexemes x)
in_entity x =
    let before = word (codes "ENTITY") ++ word x.name ++ constraint_lexemes x.constraint ++ subtype_lexemes x.subtype_of
    ++ symbols (codes ";") in
    let whole = before ++ flat_map explicit_lexemes x.explicit in
    let one = back_le before (flat_map explicit_lexemes x.explicit) in
    let two = front_le whole (derive_lexemes x.derive) in
    let three = front_le (whole ++ derive_lexemes x.derive) (rules_lexemes x.rules) in
    let four = front_le (whole ++ derive_lexemes x.derive ++ rules_lexemes x.rules) (word (codes "END_ENTITY")) in
    let five = front_le (whole ++ derive_lexemes x.derive ++ rules_lexemes x.rules ++ word (codes "END_ENTITY")) (symbols (codes ";")) in
    then_le _ _ _ one (then_le _ _ _ two (then_le _ _ _ three (then_le _ _ _ four five)))

in_declarations : (ds : List Declaration) (x : EntityDeclaration) → Contains (entities_of ds) x
    → length (entity_lexemes x) ≤ length (flat_map declaration_lexemes ds)
in_declarations [] x among = absurd (Contains-none x among)
in_declarations (entity y ∷ ds) x among = elim (Contains-cases y (entities_of ds) x among) [
  | inl h ↦ let P : EntityDeclaration → Type 0 = λ z. length (entity_lexemes z) ≤ length
      (entity_lexemes y ++ flat_map declaration_lexemes ds) in subst P h (front_le (entity_lexemes y) (flat_map declaration_lexemes ds))
  | inr h ↦ then_le _ _ _ (in_declarations ds x h) (back_le (entity_lexemes y) (flat_map declaration_lexemes ds))
]
in_declarations (defined y ∷ ds) x among = then_le _ _ _ (in_declarations ds x among)
    (back_le (declaration_lexemes (defined y)) (flat_map declaration_lexemes ds))
in_declarations (read_over y ∷ ds) x among = then_le _ _ _ (in_declarations ds x among)
    (back_le (declaration_lexemes (read_over y)) (flat_map declaration_lexemes ds))

in_schema : (tree : SchemaDeclaration) → length (flat_map declaration_lexemes tree.declarations) ≤ length (schema_lexemes tree)
in_schema tree =
    let before = word (codes "SCHEMA") ++ word tree.name ++ version_lexemes tree.version ++ symbols (codes ";") in
    let whole = before ++ flat_map declaration_lexemes tree.declarations in
    let one = back_le before (flat_map declaration_lexemes tree.declarations) in
    let two = front_le whole (word (codes "END_SCHEMA")) in
    let three = front_le (whole ++ word (codes "END_SCHEMA")) (symbols (codes ";")) in
    then_le _ _ _ one (then_le _ _ _ two three)

pub few-attributes : (tree : SchemaDeclaration) (text : List ℕ) (x : EntityDeclaration) → IsTextOf tree text
    → Contains (entities_of tree.declarations) x → length (digest_own_explicit (map attributes_digest x.explicit)) < 2 ^ 32
few-attributes tree text x is among =
    let few : length (digest_own_explicit (map attributes_digest x.explicit)) ≤ length text =
    then_le _ _ _ (attributes_few x.explicit) (then_le _ _ _ (in_entity x)
    (then_le _ _ _ (in_declarations tree.declarations x among)
    (then_le _ _ _ (in_schema tree) (laid_count (schema_lexemes tree) text is.laid)))) in
    let short : length text ≤ 16777216 = is.is_short in
    let big : 2 ^ 32 ≡ 4294967296 = refl in
    omega (arith, few, short, big)
