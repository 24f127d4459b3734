-- What is held of a file of the schema DEMO behind `DATA;` and `#1=CLOUD((#2),((`.
use Rattle.std.proofs.Common.{◌≡◌, ℕ, List, [], ◌∷◌, refl, arith}
use Rattle.std.specs.Prelude.{codes}
use Rattle.std.specs.List.{flat_map, AllByRecursion as Each}
use Rattle.p21_spec_exchange.specs.DataSection.{unnamed}
use Rattle.p21_spec_basics.specs.Digits.{IsDigit}
use Rattle.p21_spec_file.specs.Held.{IsHeld}
use Rattle.p21_spec_exchange.specs.Laying.{tokens_in}
use Rattle.p21_spec_exchange.specs.OpenNesting.{IsNoSemicolon}
use Rattle.p21_spec_exchange.specs.Pending.{nothing}
use Rattle.p21_spec_schema.specs.Schema.{Schema}
use Rattle.p21_spec_exchange.specs.Statement.{Statement, section, header, begin, header_start, section_end, data_start, finish, statement_tokens}
use Rattle.p21_spec_exchange.specs.Token.{name, equals, keyword}
use Rattle.p21_spec_exchange.proofs.CanonicalLaying.{Laying, put, put_on_line, put_left, put_right, put_comma, put_section, no_dash_left}
use Rattle.p21_spec_file.proofs.DemoExample.{demo, demo-is_file, description, file_name, file_schema, header_lines}
use Rattle.p21_spec_file.proofs.NamedPoints.{one_name}
use Rattle.p21_spec_exchange.proofs.Laying.{keyword_by, left_ends_words, up_to}
use Rattle.p21_spec_exchange.proofs.HeldExamples.{two-spelled}

abbrev demo_open : List ℕ
demo_open = codes "ISO-10303-21;\nHEADER;\nFILE_DESCRIPTION((''),'2;1');\nFILE_NAME('','',(''),(''),'','','');\nFILE_SCHEMA(('DEMO'));\nENDSEC;\nDATA;\n#1=CLOUD((#2),(("

equals_ends_digits : IsDigit 61 → ⊥
equals_ends_digits digit = omega (arith, digit)

right_ends_digits : IsDigit 41 → ⊥
right_ends_digits digit = omega (arith, digit)

abbrev no_more : Laying
no_more = record { bytes = []; lexemes = []; laid = ([], tt, refl) }

abbrev open_lists : Laying
open_lists = put_left (put_left (put (name 2) (codes "#2") two-spelled (put_right (put_comma (put_left (put_left no_more)))) right_ends_digits))

abbrev open_instance : Laying
open_instance =
    put_on_line (name 1) (codes "#1") one_name
    (put equals (codes "=") refl (put (keyword (codes "CLOUD")) (codes "CLOUD") (refl, keyword_by (codes "CLOUD") tt) open_lists (left_ends_words, no_dash_left)) tt) equals_ends_digits

abbrev laying : Laying
laying = header_lines (put_section (codes "DATA") tt open_instance)

laying-bytes : laying.bytes ≡ demo_open
laying-bytes = refl

abbrev taken : List Statement
taken = section begin ∷ section header_start ∷ header description ∷ header file_name ∷ header file_schema ∷ section section_end ∷ section (data_start unnamed) ∷ []

-- sixteen token bytes are pending, two lists are open, 87 bytes of header records are kept
demo_open-held : (s : Schema) → IsHeld s demo_open (record { pending = 16; depth = 2; kept = 87; needs = 0 })
demo_open-held s = record {
  pending = record { lexemes = laying.lexemes; tail = nothing; laid = up_to demo_open laying.lexemes laying.laid; pending_is = refl };
  depth = record { opened = tokens_in open_instance.lexemes; open_statement = record { ended = flat_map statement_tokens taken; given_are = refl; ends = refl; no_semicolon = none }; depth_is = refl };
  statements = taken;
  structure = demo;
  schema_text = codes "DEMO";
  is_file = demo-is_file;
  are_first = (section section_end ∷ section finish ∷ [], refl);
  ended_are = refl;
  kept = (58, refl, (22, refl, (0, refl, refl)));
  needs = refl;
}
  where
    none : Each IsNoSemicolon (tokens_in open_instance.lexemes)
    none = (λ e. cc, (λ e. cc, (λ e. cc, (λ e. cc, (λ e. cc, (λ e. cc, (λ e. cc, (λ e. cc, (λ e. cc, (λ e. cc, tt))))))))))
