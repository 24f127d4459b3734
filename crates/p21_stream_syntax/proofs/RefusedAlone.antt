-- Why a statement is refused, by what is kept of those before it.
use Rattle.std.proofs.Common.{◌≡◌, ◌≢◌, ◌⊎◌, ℕ, List, [], Contains, Err, inl, inr, refl, subst}
use Rattle.p21_spec_exchange.specs.DataSection.{Heading, named, section_names}
use Rattle.p21_spec_exchange.specs.Header.{IsFileSchema}
use Rattle.p21_spec_exchange.specs.Record.{Part, Record}
use Rattle.p21_spec_exchange.specs.Statement.{Statement, data_start, header, instance, section}
use Rattle.p21_spec_laws.specs.Among.{parts_among}
use Rattle.p21_spec_schema.specs.SchemaName.{NamesSchema}
use Rattle.p21_spec_survey.specs.Rules.{NameSchema, early_section, no_name, other_schema, section_again, section_of_other_schema}
use Rattle.p21_stream_statements.specs.declared.fault.Fault.{Fault}
use Rattle.p21_stream_statements.specs.declared.fault.Fault.TheVariants.{CanonicalTooLong, Check, Dangling, DuplicateName, Grammar, NoMemory, Read, SchemaName, SectionTwice, Token, Write, WrongTarget}
use Rattle.p21_stream_syntax.proofs.Taking.{names-some, part-stands, stands-part}
use Rattle.p21_stream_syntax.specs.Given.{IsOfSchemaText, IsSchemaOf, Keeps, Kept, Refuses, TakesPart, TakesSchema}

-- ---- header records

-- a FILE_SCHEMA among the statements names the schema that is known
pub schema-named : (given : List Statement) (schema : List ℕ) → IsSchemaOf (parts_among given) schema
    → (schema ≡ []) ⊎ NameSchema given schema
schema-named given schema is = elim is.one_names [
  | inl none ↦ inl none
  | inr found ↦ (let (part, chars, among, is_schema, names) = found in inr (part, chars, part-stands given part among, is_schema, names))
]

-- its text begins with no name, or names another schema than one before it
text-refuses : (old : Kept) (part : Part) (chars schema : List ℕ) → IsFileSchema part chars
    → TakesSchema old.schema chars (Err SchemaName) schema → Refuses old (header part) (Err SchemaName)
text-refuses old part chars schema is why other given keeps = elim (why other) [
  | inl none ↦ no_name part chars is none
  | inr another ↦ elim (schema-named given old.schema keeps.schema) [
    | inl empty ↦ absurd (another.0 empty)
    | inr named_ ↦ other_schema part chars old.schema is named_ another.1
  ]
]

pub part-refuses : (old : Kept) (part : Part) (schema : List ℕ) (fault : Fault) → IsOfSchemaText fault
    → TakesPart old.schema part (Err fault) schema → Refuses old (header part) (Err fault)
part-refuses old part schema SchemaName of gives = text-refuses old part gives.0 schema gives.1 gives.2
part-refuses old part schema NoMemory of gives = λ other given keeps. absurd (other refl)
part-refuses old part schema (Token fault) of gives = absurd of
part-refuses old part schema (Grammar fault) of gives = absurd of
part-refuses old part schema (Check fault) of gives = absurd of
part-refuses old part schema SectionTwice of gives = absurd of
part-refuses old part schema DuplicateName of gives = absurd of
part-refuses old part schema CanonicalTooLong of gives = absurd of
part-refuses old part schema Dangling of gives = absurd of
part-refuses old part schema WrongTarget of gives = absurd of
part-refuses old part schema Read of gives = absurd of
part-refuses old part schema Write of gives = absurd of

-- ---- how a data section begins

-- it names another schema, or stands in front of the FILE_SCHEMA
pub heading-refuses : (old : Kept) (name text : List ℕ) → ¬ ((old.schema ≢ []) × NamesSchema text old.schema)
    → Refuses old (section (data_start (named name text))) (Err SchemaName)
heading-refuses old name text why other given keeps = elim keeps.schema.one_names [
  | inl none ↦ early_section (named name text) (λ part chars among is.
      let (begins, names) = keeps.schema.each_names part chars (stands-part given part among) is in
      names-some chars begins (subst (NamesSchema chars) none names))
  | inr found ↦ (
      let (part, chars, among, is, names) = found in
      let begins = (keeps.schema.each_names part chars among is).0 in
      section_of_other_schema (named name text) old.schema (part, chars, part-stands given part among, is, names)
      (λ own. why ((λ empty. names-some chars begins (subst (NamesSchema chars) empty names)), own)))
]

-- its name is that of one before it
pub again-refuses : (old : Kept) (name text : List ℕ) → Contains (section_names old.sections) name
    → Refuses old (section (data_start (named name text))) (Err SectionTwice)
again-refuses old name text had other given keeps =
    section_again name text (subst (λ (hs : List Heading). Contains (section_names hs) name) keeps.sections_are had)

-- ---- instances

pub instance-refuses : (old : Kept) (n : ℕ) (r : Record) → Contains old.names n → Refuses old (instance n r) (Err DuplicateName)
instance-refuses old n r had other given keeps = (refl, (keeps.instances.names_are n).0 had)
