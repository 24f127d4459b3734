-- The text of the schema SOLE as a whole, and its neighbour whose supertype expression goes on behind the list.
use Rattle.std.specs.Prelude.{◌≡◌, ℕ, true, List, [], codes, refl}
use Rattle.std.proofs.Common.{arith, subst}
use Rattle.p21_spec_schema.specs.Declared.{Declares}
use Rattle.p21_spec_schema.specs.Express.{Lexeme}
use Rattle.p21_spec_schema.specs.ExpressLaying.{LaidLexemes}
use Rattle.p21_spec_schema.specs.SchemaDeclaration.{schema_lexemes}
use Rattle.p21_spec_schema.proofs.OneOfLists.{a_or_b-is_list, andor-is_run}
use Rattle.p21_spec_schema.proofs.Scanned.{scan, bytes_of, lexemes_of, are_pieces, pieces-laid}
use Rattle.p21_spec_schema.proofs.SoleSchema.{sole, sole_with, sole_tree, a_or_b, andor_c, sole-declares, andor-declares, sole-in_grammar}

-- what is scanned in a text is laid in it
scanned-laid : (lexemes : List Lexeme) (text : List ℕ) → are_pieces (scan text) ≡ true → lexemes_of (scan text) ≡ lexemes → bytes_of (scan text) ≡ text → LaidLexemes lexemes text
scanned-laid lexemes text are lexemes_are bytes_are =
    let P : List Lexeme → Type 0 = λ xs. LaidLexemes xs text in
    let Q : List ℕ → Type 0 = λ bytes. LaidLexemes (lexemes_of (scan text)) bytes in
    subst P lexemes_are (subst Q bytes_are (pieces-laid (scan text) are))

abbrev pub sole_text : List ℕ
sole_text = codes "SCHEMA sole; ENTITY s SUPERTYPE OF (ONEOF (a, b)); k : INTEGER; END_ENTITY; ENTITY a SUBTYPE OF (s); END_ENTITY; ENTITY b SUBTYPE OF (s); END_ENTITY; ENTITY c SUBTYPE OF (s); END_ENTITY; END_SCHEMA;"

pub sole_text-declares : Declares sole_text sole
sole_text-declares = record {
  tree = sole_tree a_or_b;
  short = omega arith;
  laid = scanned-laid (schema_lexemes (sole_tree a_or_b)) sole_text refl refl refl;
  in_grammar = sole-in_grammar a_or_b a_or_b-is_list;
  declares = sole-declares;
}

abbrev pub andor_text : List ℕ
andor_text = codes "SCHEMA sole; ENTITY s SUPERTYPE OF (ONEOF (a, b) ANDOR c); k : INTEGER; END_ENTITY; ENTITY a SUBTYPE OF (s); END_ENTITY; ENTITY b SUBTYPE OF (s); END_ENTITY; ENTITY c SUBTYPE OF (s); END_ENTITY; END_SCHEMA;"

pub andor_text-declares : Declares andor_text (sole_with [])
andor_text-declares = record {
  tree = sole_tree andor_c;
  short = omega arith;
  laid = scanned-laid (schema_lexemes (sole_tree andor_c)) andor_text refl refl refl;
  in_grammar = sole-in_grammar andor_c andor-is_run;
  declares = andor-declares;
}
