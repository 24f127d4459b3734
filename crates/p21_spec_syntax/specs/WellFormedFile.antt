-- What the standard asks of a file by itself, without a schema (ISO 10303-21, formal definition of the exchange structure;
-- header section: FILE_SCHEMA; data sections; entity instance names).
use Rattle.std.specs.Prelude.{ℕ, List, [], ◌∷◌, ◌++◌, Contains, map, nat_eq}
use Rattle.std.specs.List.{IsDistinct, flat_map, AllByRecursion as Each}
use Rattle.std.specs.Str.{bytes_eq}
use Rattle.p21_spec_basics.specs.Digits.{IsByte}
use Rattle.p21_spec_basics.specs.Limits.{Limits}
use Rattle.p21_spec_exchange.specs.DataSection.{headings, instances_in, section_names}
use Rattle.p21_spec_exchange.specs.Record.{Record}
use Rattle.p21_spec_exchange.specs.Structure.{Structure}
use Rattle.p21_spec_file.specs.File.{HeadingNamesSchema}
use Rattle.p21_spec_file.specs.Reference.{record_references}
use Rattle.p21_spec_schema.specs.Express.{IsLetter}
use Rattle.p21_spec_schema.specs.SchemaName.{NamesSchema}
use Rattle.p21_spec_syntax.specs.FileWithin.{IsFileWithin}

-- the names of instances
abbrev pub names_of : List (ℕ × Record) → List ℕ
names_of instances = map (λ (i : ℕ × Record). i.0) instances

-- the instance names in their parameters, as they stand
abbrev pub references_of : List (ℕ × Record) → List ℕ
references_of instances = flat_map (λ (i : ℕ × Record). record_references i.1) instances

-- a letter stands first, as in each name of EXPRESS
abbrev pub BeginsWithName : List ℕ → Type 0
BeginsWithName [] = ⊥
BeginsWithName (char ∷ chars) = IsLetter char

-- The bytes are this tree within the limits. Its FILE_SCHEMA begins with this name of a schema, which each section with a name
-- names too; all names of sections differ, and all instance names, over all sections; and each instance name in a parameter is
-- that of an instance
pub record IsWellFormedFile (limits : Limits) (bytes : List ℕ) (structure : Structure) (schema : List ℕ) : Type 0 where
  pub schema_text : List ℕ
  pub file : IsFileWithin limits bytes structure schema_text
  pub begins_with_name : BeginsWithName schema_text
  pub names_schema : NamesSchema schema_text schema
  pub sections_name_schema : Each (HeadingNamesSchema schema) (headings structure.sections)
  pub section_names_differ : IsDistinct bytes_eq (section_names (headings structure.sections))
  pub names_differ : IsDistinct nat_eq (names_of (instances_in structure.sections))
  pub references_given : Each (Contains (names_of (instances_in structure.sections))) (references_of (instances_in structure.sections))

-- the bytes are no such file
abbrev pub IsIllFormed : Limits → List ℕ → Type 0
IsIllFormed limits bytes = (structure : Structure) (schema : List ℕ) → IsWellFormedFile limits bytes structure schema → ⊥

-- no such file begins with these bytes
abbrev pub BeginsIllFormed : Limits → List ℕ → Type 0
BeginsIllFormed limits bytes = (more : List ℕ) → Each IsByte more → IsIllFormed limits (bytes ++ more)
