-- The least file of the schema DEMO: 152 bytes, which are laid as the tokens of its tree, and are its canonical lines.
use Rattle.std.proofs.Common.{◌≡◌, ℕ, List, [], ◌∷◌, length, refl, inr, arith, lit≤}
use Rattle.std.specs.Prelude.{codes}
use Rattle.std.specs.List.{flat_map, IsDistinct}
use Rattle.std.specs.List.Sorted.{IsStrictlySortedBy}
use Rattle.p21_spec_file.specs.Accepted.{IsAccepted}
use Rattle.p21_spec_file.specs.Canonical.{Canonical}
use Rattle.p21_spec_exchange.specs.CanonicalText.{line}
use Rattle.p21_spec_exchange.specs.DataSection.{unnamed}
use Rattle.p21_spec_file.specs.File.{FileMeaning, Reads}
use Rattle.p21_spec_exchange.specs.Grammar.{InGrammar, IsFile}
use Rattle.p21_spec_exchange.specs.Header.{IsHeader}
use Rattle.p21_spec_file.specs.Held.{IsHeld}
use Rattle.p21_spec_exchange.specs.Laying.{LaidAs, Laid, AreStatementsWithin, open_bytes}
use Rattle.p21_spec_basics.specs.Limits.{Limits}
use Rattle.p21_spec_exchange.specs.Parameter.{text, list, Params, no_params, param, key_of}
use Rattle.p21_spec_exchange.specs.Pending.{nothing}
use Rattle.p21_spec_exchange.specs.Record.{Part}
use Rattle.p21_spec_schema.specs.Schema.{Schema}
use Rattle.p21_spec_schema.specs.SchemaName.{NamesSchema}
use Rattle.p21_spec_exchange.specs.Structure.{Structure, statements, tokens_of}
use Rattle.p21_spec_exchange.proofs.CanonicalLaying.{Laying, end, put_left, put_right, put_comma, put_semicolon, put_section, put_record, put_begin, put_finish, put_text_comma, put_text_right, within_by}
use Rattle.p21_spec_exchange.proofs.Laying.{up_to}
use Rattle.p21_spec_file.proofs.SameFiles.{SameFileMeaning-reflexive}

abbrev demo_bytes : List ℕ
demo_bytes = codes "ISO-10303-21;\nHEADER;\nFILE_DESCRIPTION((''),'2;1');\nFILE_NAME('','',(''),(''),'','','');\nFILE_SCHEMA(('DEMO'));\nENDSEC;\nDATA;\nENDSEC;\nEND-ISO-10303-21;\n"

abbrev pub words : List (List ℕ) → Params
words [] = no_params
words (chars ∷ more) = param (text chars) (words more)

abbrev pub description : Part
description = record { key = key_of (codes "FILE_DESCRIPTION"); params = param (list (words ([] ∷ []))) (words (codes "2;1" ∷ [])) }

abbrev pub file_name : Part
file_name =
    record {
      key = key_of (codes "FILE_NAME");
      params = param (text []) (param (text []) (param (list (words ([] ∷ []))) (param (list (words ([] ∷ []))) (words ([] ∷ [] ∷ [] ∷ [])))));
    }

abbrev pub file_schema : Part
file_schema = record { key = key_of (codes "FILE_SCHEMA"); params = param (list (words (codes "DEMO" ∷ []))) no_params }

abbrev pub demo : Structure
demo = record { header = description ∷ file_name ∷ file_schema ∷ []; sections = record { heading = unnamed; instances = [] } ∷ [] }

demo-length : length demo_bytes ≡ 152
demo-length = refl

demo-lines : flat_map line (statements demo) ≡ demo_bytes
demo-lines = refl

-- `(''),`
abbrev pub one_empty : Laying → Laying
one_empty rest = put_left (put_text_right [] tt (put_comma rest))

-- the lines from the first to that of FILE_SCHEMA, and the rest of a file
abbrev pub schema_line : Laying → Laying
schema_line rest = put_record (codes "FILE_SCHEMA") tt (put_left (put_text_right (codes "DEMO") (refl, (refl, (refl, (refl, tt)))) (put_right (put_semicolon rest))))

abbrev pub name_line : Laying → Laying
name_line rest =
    put_record (codes "FILE_NAME") tt
    (put_text_comma [] tt (put_text_comma [] tt (one_empty (one_empty (put_text_comma [] tt (put_text_comma [] tt (put_text_right [] tt (put_semicolon rest))))))))

abbrev pub description_line : Laying → Laying
description_line rest = put_record (codes "FILE_DESCRIPTION") tt (one_empty (put_text_right (codes "2;1") (refl, (refl, (refl, tt))) (put_semicolon rest)))

abbrev pub header_lines : Laying → Laying
header_lines rest = put_begin (put_section (codes "HEADER") tt (description_line (name_line (schema_line (put_section (codes "ENDSEC") tt rest)))))

abbrev demo_laying : Laying
demo_laying = header_lines (put_section (codes "DATA") tt (put_section (codes "ENDSEC") tt (put_finish end)))

demo-laid_as : LaidAs demo_bytes demo_laying.lexemes
demo-laid_as = demo_laying.laid

abbrev demo-laid : Laid demo_bytes (tokens_of demo)
demo-laid = record { lexemes = demo_laying.lexemes; tokens_are = refl; laid = demo-laid_as }

pub demo-header : IsHeader demo.header (codes "DEMO")
demo-header =
    record {
      file_description = description;
      file_name = file_name;
      file_schema = file_schema;
      further = [];
      header_is = refl;
      is_file_description = (refl, (inr (words ([] ∷ []), refl, (inr ([], refl), tt)), (inr (codes "2;1", refl), tt)));
      is_file_name = (
        refl,
        (
          inr ([], refl),
          (
            inr ([], refl),
            (
              inr (words ([] ∷ []), refl, (inr ([], refl), tt)),
              (inr (words ([] ∷ []), refl, (inr ([], refl), tt)), (inr ([], refl), (inr ([], refl), (inr ([], refl), tt)))),
            ),
          ),
        ),
      );
      is_file_schema = (refl, refl);
      are_further = tt;
    }

pub demo-is_file : IsFile demo (codes "DEMO")
demo-is_file = record { header = demo-header; shallow_header = (lit≤ tt, (lit≤ tt, (lit≤ tt, tt))); headings_are = tt; data_records = tt }

abbrev demo-in_grammar : InGrammar demo_bytes demo (codes "DEMO")
demo-in_grammar = record { laid = demo-laid; is_file = demo-is_file }

-- each statement has at most 36 token bytes, and one has more than 35
demo-within : AreStatementsWithin 36 0 demo_laying.lexemes
demo-within = within_by 36 0 demo_laying.lexemes tt

demo-beyond : AreStatementsWithin 35 0 demo_laying.lexemes → ⊥
demo-beyond h = let last = h.1.1.1.1.1.1.1.1.1.1.1.1.1.1.1.1.1.1.1.1.1.1.1.1.1.1.1.1.1.1.1.1.1.0 in omega (arith, last)

demo-open : open_bytes 0 demo_laying.lexemes ≡ 0
demo-open = refl

-- of the whole file nothing is pending or open, and 87 bytes of header records are kept
demo-held : (s : Schema) → IsHeld s demo_bytes (record { pending = 0; depth = 0; kept = 87; needs = 0 })
demo-held s =
    record {
      pending = record { lexemes = demo_laying.lexemes; tail = nothing; laid = up_to demo_bytes demo_laying.lexemes demo-laid_as; pending_is = refl };
      depth = record { opened = []; open_statement = record { ended = tokens_of demo; given_are = refl; ends = refl; no_semicolon = tt }; depth_is = refl };
      statements = statements demo;
      structure = demo;
      schema_text = codes "DEMO";
      is_file = demo-is_file;
      are_first = ([], refl);
      ended_are = refl;
      kept = (58, refl, (22, refl, (0, refl, refl)));
      needs = refl;
    }

abbrev demo_meaning : Schema → FileMeaning
demo_meaning s = record { header = demo.header; schema = s.name; sections = unnamed ∷ []; instances = []; instance_sections = [] }

abbrev demo_limits : Limits
demo_limits = record { record_source = 36; record_canonical = 36; file_source = 152; file_canonical = 152 }

abbrev demo-reads : (s : Schema) → NamesSchema (codes "DEMO") s.name → Reads s demo_bytes (demo_meaning s)
unfolding IsDistinct
demo-reads s named =
    record {
      structure = demo;
      schema_text = codes "DEMO";
      in_grammar = demo-in_grammar;
      names_schema = named;
      sections_name_schema = (tt, tt);
      section_names_differ = tt;
      names_differ = tt;
      means = tt;
      header_is = refl;
      schema_is = refl;
      sections_are = refl;
      instance_sections_are = refl;
    }

abbrev demo-canonical : (s : Schema) → NamesSchema (codes "DEMO") s.name → Canonical s demo_bytes
unfolding IsDistinct IsStrictlySortedBy
demo-canonical s named = record { meaning = demo_meaning s; reads = demo-reads s named; lines = refl; sections_rise = tt; names_rise = (tt, tt); canonical_records = tt }

-- the file is accepted under each schema named DEMO, within limits of 152 bytes, and is its own canonical file
demo-accepted : (s : Schema) → NamesSchema (codes "DEMO") s.name → IsAccepted s demo_limits demo_bytes
unfolding IsDistinct IsStrictlySortedBy
demo-accepted s named = (
  demo_meaning s,
  record {
    reads = demo-reads s named;
    file_within = lit≤ tt;
    statements_within = demo-within;
    canonical = demo_bytes;
    is_canonical =
        record {
          canonical = demo-canonical s named;
          same = SameFileMeaning-reflexive (demo_meaning s);
          file_within = lit≤ tt;
          lines_within = (lit≤ tt, (lit≤ tt, (lit≤ tt, (lit≤ tt, (lit≤ tt, (lit≤ tt, (lit≤ tt, (lit≤ tt, (lit≤ tt, tt)))))))));
        };
  },
)
