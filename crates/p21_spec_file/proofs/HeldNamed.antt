-- What is held of a file of the schema DEMO behind `DATA('a',('DEMO'));`: the section line is not kept.
use Rattle.std.proofs.Common.{◌≡◌, ℕ, ◌+◌, List, [], ◌∷◌, refl, subst, arith, lit≤}
use Rattle.std.specs.Prelude.{codes}
use Rattle.std.specs.List.{flat_map}
use Rattle.p21_spec_exchange.specs.DataSection.{named}
use Rattle.p21_spec_file.specs.Held.{Held, IsHeld}
use Rattle.p21_spec_file.specs.CanonicalTexts.{HaveCanonicalSize}
use Rattle.p21_spec_exchange.specs.Pending.{nothing}
use Rattle.p21_spec_schema.specs.Schema.{Schema}
use Rattle.p21_spec_exchange.specs.Statement.{Statement, section, header, begin, header_start, section_end, data_start, finish, statement_tokens}
use Rattle.p21_spec_exchange.specs.Structure.{Structure}
use Rattle.p21_spec_exchange.proofs.CanonicalLaying.{Laying, end, put_left, put_right, put_semicolon, put_record, put_text_comma, put_text_right}
use Rattle.p21_spec_file.proofs.DemoExample.{demo-header, description, file_name, file_schema, header_lines}
use Rattle.p21_spec_file.proofs.HeldStatements.{held_statements-one}
use Rattle.p21_spec_exchange.proofs.Laying.{up_to}

abbrev named_bytes : List ℕ
named_bytes = codes "ISO-10303-21;\nHEADER;\nFILE_DESCRIPTION((''),'2;1');\nFILE_NAME('','',(''),(''),'','','');\nFILE_SCHEMA(('DEMO'));\nENDSEC;\nDATA('a',('DEMO'));\n"

abbrev laying : Laying
laying = header_lines (put_record (codes "DATA") tt (put_text_comma (codes "a") (refl, tt) (put_left (put_text_right (codes "DEMO") (refl, (refl, (refl, (refl, tt)))) (put_right (put_semicolon end))))))

laying-bytes : laying.bytes ≡ named_bytes
laying-bytes = refl

abbrev taken : List Statement
taken =
    section begin ∷ section header_start ∷ header description ∷ header file_name ∷ header file_schema ∷ section section_end ∷ section (data_start (named (codes "a") (codes "DEMO"))) ∷ []

abbrev structure : Structure
structure = record { header = description ∷ file_name ∷ file_schema ∷ []; sections = record { heading = named (codes "a") (codes "DEMO"); instances = [] } ∷ [] }

-- 87 bytes of header records are kept
named-held : (s : Schema) → IsHeld s named_bytes (record { pending = 0; depth = 0; kept = 87; needs = 0 })
named-held s = record {
  pending = record { lexemes = laying.lexemes; tail = nothing; laid = up_to named_bytes laying.lexemes laying.laid; pending_is = refl };
  depth = record { opened = []; open_statement = record { ended = flat_map statement_tokens taken; given_are = refl; ends = refl; no_semicolon = tt }; depth_is = refl };
  statements = taken;
  structure = structure;
  schema_text = codes "DEMO";
  is_file = record { header = demo-header; shallow_header = (lit≤ tt, (lit≤ tt, (lit≤ tt, tt))); headings_are = tt; data_records = tt };
  are_first = (section section_end ∷ section finish ∷ [], refl);
  ended_are = refl;
  kept = (58, refl, (22, refl, (0, refl, refl)));
  needs = refl;
}

-- and no others, though a header record may have the same tokens as the section line
named-kept : (s : Schema) (held : Held) (h : IsHeld s named_bytes held) → h.depth.open_statement.ended ≡ flat_map statement_tokens taken → held.kept ≡ 87
unfolding named-held
named-kept s held h ended =
    let P : List Statement → Type 0 = λ ss. HaveCanonicalSize s ss held.kept in
    let (more, first, (others, second, (rest, third, last))) = subst P (held_statements-one s named_bytes held _ h (named-held s) ended) h.kept in
    let one : held.kept ≡ 29 + more = first in
    let two : more ≡ 36 + others = second in
    let three : others ≡ 22 + rest = third in
    let none : rest ≡ 0 = last in
    omega (arith, one, two, three, none)
