-- A small schema that a text declares, and declarations that declare no schema.
use Rattle.std.specs.Prelude.{◌≡◌, ◌≢◌, ◌⊎◌, ℕ, zero, suc, ◌≤◌, ◌<◌, false, List, [], ◌∷◌, ◌++◌, map, codes, None, refl}
use Rattle.std.specs.List.{IsDistinct, AllByRecursion as Each}
use Rattle.std.proofs.Common.{arith, inl, inr, ap, sym}
use Rattle.std.proofs.lemmas.Bool.{cases_lt}
use Rattle.p21_spec_basics.proofs.Members.{Contains-no_word}
use Rattle.p21_spec_schema.specs.Express.{Lexeme, identifier, symbol, IsIdentifierByte, upper}
use Rattle.p21_spec_schema.specs.Remark.{blank}
use Rattle.p21_spec_schema.specs.ExpressLaying.{LexemeIsFollowed, LaidLexemes}
use Rattle.p21_spec_schema.specs.ReservedWord.{reserved_words}
use Rattle.p21_spec_schema.specs.WrittenType.{WrittenType, real_type}
use Rattle.p21_spec_schema.specs.EntityDeclaration.{EntityDeclaration, ExplicitAttributes, own}
use Rattle.p21_spec_schema.specs.SupertypeConstraint.{no_constraint}
use Rattle.p21_spec_schema.specs.SchemaDeclaration.{SchemaDeclaration, entity, schema_lexemes, IsSchemaDeclaration}
use Rattle.p21_spec_schema.specs.Schema as schema
use Rattle.p21_spec_schema.specs.Schema.{Schema}
use Rattle.p21_spec_schema.specs.DeclaredType.{is_real}
use Rattle.p21_spec_schema.specs.DeclaredEntity.{no_more}
use Rattle.p21_spec_schema.specs.Declared.{HasSupertype, Declares}

-- a capital letter or `_`
abbrev IsCapital : ℕ → Type 0
IsCapital byte = (65 ≤ byte) × (byte ≤ 95) × (byte ≢ 91) × (byte ≢ 92) × (byte ≢ 93) × (byte ≢ 94)

capitals : (bytes : List ℕ) → Each IsCapital bytes → Each IsIdentifierByte bytes
capitals [] are = tt
capitals (byte ∷ bytes) are = (elim (cases_lt byte 91) [ inl h ↦ inl (inl (are.0.0, omega (arith, h))) | inr h ↦ inr (inr (omega (arith, h, are.0))) ], capitals bytes are.1)

-- `:` or `;` or a blank
abbrev IsMark : ℕ → Type 0
IsMark byte = (byte ≡ 32) ⊎ ((58 ≤ byte) × (byte ≤ 59))

mark-ends_word : (byte : ℕ) → IsMark byte → IsIdentifierByte byte → ⊥
mark-ends_word byte (inl is) (inl (inl h)) = omega (arith, is, h)
mark-ends_word byte (inl is) (inl (inr h)) = omega (arith, is, h)
mark-ends_word byte (inl is) (inr (inl h)) = omega (arith, is, h)
mark-ends_word byte (inl is) (inr (inr h)) = omega (arith, is, h)
mark-ends_word byte (inr is) (inl (inl h)) = omega (arith, is, h)
mark-ends_word byte (inr is) (inl (inr h)) = omega (arith, is, h)
mark-ends_word byte (inr is) (inr (inl h)) = omega (arith, is, h)
mark-ends_word byte (inr is) (inr (inr h)) = omega (arith, is, h)

record IsLaid (lexemes : List Lexeme) (bytes : List ℕ) : Type 0 where
  laid : LaidLexemes lexemes bytes

lay_word : (letter : ℕ) (letters : List ℕ) (next : ℕ) (rest : List ℕ) (lexemes : List Lexeme) → (65 ≤ letter) × (letter ≤ 90) → Each IsCapital letters → map upper (letter ∷ letters) ≡ letter ∷ letters → IsMark next → IsLaid lexemes (next ∷ rest)
    → IsLaid (identifier (letter ∷ letters) ∷ lexemes) ((letter ∷ letters) ++ next ∷ rest)
lay_word letter letters next rest lexemes first are same mark laid = record { laid = ([], letter ∷ letters, next ∷ rest, refl, ([], tt, refl), ((inl first, capitals letters are), sym same), mark-ends_word next mark, laid.laid) }

lay_mark : (byte : ℕ) (rest : List ℕ) (lexemes : List Lexeme) → (58 ≤ byte) × (byte ≤ 59) → IsLaid lexemes rest → IsLaid (symbol byte ∷ lexemes) (byte ∷ rest)
lay_mark byte rest lexemes mark laid = record { laid = ([], byte ∷ [], rest, refl, ([], tt, refl), (refl, omega (arith, mark), omega (arith, mark), λ h. mark-ends_word byte (inr mark) (inl h), λ h. mark-ends_word byte (inr mark) (inr (inl h)), omega (arith, mark), omega (arith, mark)), follows rest, laid.laid) }
  where
    follows : (rest : List ℕ) → LexemeIsFollowed (symbol byte) rest
    follows [] = tt
    follows (next ∷ more) = (λ h. absurd (omega (arith, h, mark)), λ h. absurd (omega (arith, h, mark)))

lay_blank : (bytes : List ℕ) (lexeme : Lexeme) (lexemes : List Lexeme) → IsLaid (lexeme ∷ lexemes) bytes → IsLaid (lexeme ∷ lexemes) (32 ∷ bytes)
lay_blank bytes lexeme lexemes before = let (gap, spelling, rest, is, (separators, are, gap_is), spelled, followed, laid) = before.laid in record { laid = (32 ∷ gap, spelling, rest, ap (λ bs. 32 ∷ bs) is, (blank 32 ∷ separators, (inl (omega arith), are), ap (λ bs. 32 ∷ bs) gap_is), spelled, followed, laid) }

-- `SCHEMA S;ENTITY A;X:REAL;END_ENTITY;END_SCHEMA;--`
abbrev pub entity_named : List ℕ → List ExplicitAttributes → EntityDeclaration
entity_named name explicit = record { name = name; constraint = no_constraint; subtype_of = None; explicit = explicit; derive = None; rules = None }

abbrev pub attribute_named : List ℕ → WrittenType → ExplicitAttributes
attribute_named name type = record { names = own name ∷ []; optional = false; type = type }

abbrev pub schema_of : List EntityDeclaration → SchemaDeclaration
schema_of entities = record { name = codes "S"; version = None; declarations = map entity entities }

abbrev small : SchemaDeclaration
small = schema_of (entity_named (codes "A") (attribute_named (codes "X") (real_type None) ∷ []) ∷ [])

abbrev small_schema : Schema
small_schema = record { name = codes "S"; types = []; entities = record { name = codes "A"; is_abstract = false; supertypes = []; attributes = record { name = codes "X"; optional = false; type = schema.real } ∷ []; redeclared = []; derived = [] } ∷ []; one_of_lists = [] }

small-laid : IsLaid (schema_lexemes small) (codes "SCHEMA S;ENTITY A;X:REAL;END_ENTITY;END_SCHEMA;--")
small-laid =
    lay_word 83 (codes "CHEMA") 32 _ _ (omega arith) (omega arith) refl (inl refl)
    (lay_blank _ _ _ (lay_word 83 [] 59 _ _ (omega arith) tt refl (inr (omega arith)) (lay_mark 59 _ _ (omega arith)
    (lay_word 69 (codes "NTITY") 32 _ _ (omega arith) (omega arith) refl (inl refl)
    (lay_blank _ _ _ (lay_word 65 [] 59 _ _ (omega arith) tt refl (inr (omega arith)) (lay_mark 59 _ _ (omega arith)
    (lay_word 88 [] 58 _ _ (omega arith) tt refl (inr (omega arith)) (lay_mark 58 _ _ (omega arith) (lay_word 82 (codes "EAL") 59 _ _ (omega arith) (omega arith) refl (inr (omega arith)) (lay_mark 59 _ _ (omega arith)
    (lay_word 69 (codes "ND_ENTITY") 59 _ _ (omega arith) (omega arith) refl (inr (omega arith)) (lay_mark 59 _ _ (omega arith)
    (lay_word 69 (codes "ND_SCHEMA") 59 _ _ (omega arith) (omega arith) refl (inr (omega arith)) (lay_mark 59 (codes "--") [] (omega arith) (record { laid = inr ([], [], refl, ([], tt, refl), tt) }))))))))))))))))

small-in_grammar : IsSchemaDeclaration small
small-in_grammar = record {
  name_is = Contains-no_word (codes "S") reserved_words refl refl;
  declarations_are = (record { name_is = Contains-no_word (codes "A") reserved_words refl refl; constraint_is = tt; supertypes_are = tt; explicit_are = ((omega arith, (Contains-no_word (codes "X") reserved_words refl refl, tt), tt), tt); derived_are = tt; rules_are = tt }, tt);
}

-- the text declares the schema
pub small-declares : Declares (codes "SCHEMA S;ENTITY A;X:REAL;END_ENTITY;END_SCHEMA;--") small_schema
unfolding IsDistinct
small-declares = record {
  tree = small;
  short = omega arith;
  laid = small-laid.laid;
  in_grammar = small-in_grammar;
  declares = record {
    name_is = refl;
    entities_are = (
      record {
        name_is = refl;
        abstract_is = refl;
        supertypes_are = tt;
        attributes_are = ((refl, refl, is_real None), tt);
        redeclared_are = tt;
        derived_are = no_more;
        nesting_small = (omega arith, tt);
        supertypes_distinct = tt;
        names_distinct = (tt, tt);
        places_distinct = tt;
      },
      tt,
    );
    types_are = tt;
    one_of_are = tt;
    few = omega arith;
    names_distinct = (tt, tt);
    supertypes_end = (λ e. 0, no_supertype);
    renaming_ends = (λ t. 0, λ t u h. cc);
    selects_end = (λ t. 0, λ t u ((members, h, among), is). cc);
  };
}
  where
    no_supertype : (e f : ℕ) → HasSupertype small_schema e f → 0 < 0
    no_supertype zero f (k, below, is) = absurd (omega (arith, below))
    no_supertype (suc e) f (k, below, is) = absurd (omega (arith, below))
