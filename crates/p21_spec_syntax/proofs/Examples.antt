-- Files by themselves: the least one, a reference to no instance, a name that stands twice, and texts that begin with no name.
use Rattle.std.proofs.Common.{◌≡◌, ℕ, List, [], ◌∷◌, Contains, refl, inl, inr, arith, lit≤}
use Rattle.std.specs.List.{IsDistinct, flat_map}
use Rattle.std.specs.Prelude.{codes}
use Rattle.p21_spec_basics.proofs.Members.{Contains-cases, Contains-none}
use Rattle.p21_spec_basics.specs.Limits.{Limits}
use Rattle.p21_spec_exchange.proofs.CanonicalLaying.{Laying, end, put_finish, put_section, within_by}
use Rattle.p21_spec_exchange.specs.DataSection.{unnamed}
use Rattle.p21_spec_exchange.specs.Grammar.{InGrammar}
use Rattle.p21_spec_exchange.specs.Parameter as parameter
use Rattle.p21_spec_exchange.specs.Parameter.{Params, key_of, list, no_params, param}
use Rattle.p21_spec_exchange.specs.Record.{Record, simple}
use Rattle.p21_spec_exchange.specs.Structure.{Structure}
use Rattle.p21_spec_file.proofs.DemoExample.{demo, demo-is_file, header_lines}
use Rattle.p21_spec_schema.proofs.SchemaNames.{demo_large}
use Rattle.p21_spec_syntax.specs.WellFormedFile.{BeginsWithName, IsWellFormedFile, references_of}

-- ---- the least file

abbrev least : Laying
least = header_lines (put_section (codes "DATA") tt (put_section (codes "ENDSEC") tt (put_finish end)))

abbrev least-in_grammar : InGrammar least.bytes demo (codes "DEMO")
least-in_grammar = record { laid = record { lexemes = least.lexemes; tokens_are = refl; laid = least.laid }; is_file = demo-is_file }

-- it has 152 bytes, and 36 token bytes in its longest statement
abbrev least_limits : Limits
least_limits = record { record_source = 36; record_canonical = 0; file_source = 152; file_canonical = 0 }

least-well_formed : IsWellFormedFile least_limits least.bytes demo (codes "DEMO")
unfolding IsDistinct
least-well_formed = record {
  schema_text = codes "DEMO";
  file = record { in_grammar = least-in_grammar; file_within = lit≤ tt; statements_within = within_by 36 0 least.lexemes tt };
  begins_with_name = inl (lit≤ tt, lit≤ tt);
  names_schema = demo_large;
  sections_name_schema = (tt, tt);
  section_names_differ = tt;
  names_differ = tt;
  references_given = tt;
}

-- ---- instances

-- `A(#2,(#3))`
abbrev two_references : Record
two_references = simple (record { key = key_of (codes "A"); params = param (parameter.name 2) (param (list (param (parameter.name 3) no_params)) no_params) })

abbrev plain : Record
plain = simple (record { key = key_of (codes "A"); params = no_params })

-- references stand in lists too
their-references : references_of ((1, two_references) ∷ (2, plain) ∷ []) ≡ 2 ∷ 3 ∷ []
their-references = refl

abbrev with_instances : List (ℕ × Record) → Structure
with_instances instances = record { header = demo.header; sections = record { heading = unnamed; instances = instances } ∷ [] }

-- whatever bytes are a tree with `#1=A(#2,(#3));` and `#2=A();`, they are no well-formed file: #3 is no instance
dangling : (limits : Limits) (bytes schema : List ℕ) → IsWellFormedFile limits bytes (with_instances ((1, two_references) ∷ (2, plain) ∷ [])) schema → ⊥
dangling limits bytes schema is = elim (Contains-cases 1 (2 ∷ []) 3 is.references_given.1.0) [
  | inl first ↦ omega (arith, first)
  | inr more ↦ elim (Contains-cases 2 [] 3 more) [ inl second ↦ omega (arith, second) | inr none ↦ Contains-none 3 none ]
]

-- nor are those of a tree with two instances #2
twice : (limits : Limits) (bytes schema : List ℕ) → IsWellFormedFile limits bytes (with_instances ((2, plain) ∷ (2, plain) ∷ [])) schema → ⊥
unfolding IsDistinct
twice limits bytes schema is = let apart = is.names_differ.0.0 in cc

-- ---- texts of FILE_SCHEMA

-- neither `203_DESIGN` nor ` DEMO` nor the empty text begins with a name
digit-first : BeginsWithName (codes "203_DESIGN") → ⊥
digit-first (inl h) = let low = h.0 in omega (arith, low)
digit-first (inr h) = let low = h.0 in omega (arith, low)

space-first : BeginsWithName (codes " DEMO") → ⊥
space-first (inl h) = let low = h.0 in omega (arith, low)
space-first (inr h) = let low = h.0 in omega (arith, low)

none-first : BeginsWithName [] → ⊥
none-first begins = begins
