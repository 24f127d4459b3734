-- One more statement, by what is kept.
use Rattle.std.proofs.Common.{◌≡◌, ◌≤◌, ◌<◌, ◌+◌, ◌⊎◌, ℕ, List, [], ◌∷◌, ◌++◌, length, Ok, Err, inl, inr, refl, sym, subst}
use Rattle.std.proofs.lemmas.Bool.Decides.{leb_tells}
use Rattle.std.specs.Prelude.{Contains}
use Rattle.p21_spec_basics.proofs.Members.{Contains-cases, Contains-none}
use Rattle.p21_spec_basics.specs.Limits.{Limits}
use Rattle.p21_spec_laws.specs.Taken.{section_names_among}
use Rattle.p21_spec_laws.proofs.Keeps.{keeps-by_header, keeps-by_line, keeps-section_names}
use Rattle.p21_spec_laws.specs.UnrefusedStatements.{IsFitting}
use Rattle.p21_spec_laws.specs.Keeping.{Keeps, Kept, keep_header, keep_section_line}
use Rattle.p21_spec_laws.specs.Offending.{IsTextOf, Offends, long_file, long_line, other_schema, section_again, section_of_other_schema}
use Rattle.p21_spec_exchange.specs.CanonicalText.{statement_text}
use Rattle.p21_spec_exchange.specs.DataSection.{named, section_names}
use Rattle.p21_spec_exchange.specs.Header.{IsFileSchema}
use Rattle.p21_spec_exchange.specs.Record.{Part}
use Rattle.p21_spec_exchange.specs.Statement.{Statement, data_start, header, section}
use Rattle.p21_grammar.specs.Statements.{line_of}
use Rattle.p21_grammar.specs.declared.event.Line.{Line}
use Rattle.p21_grammar.specs.declared.event.Line.TheVariants.{Begin, HeaderStart, SectionEnd, DataStart, Finish}
use Rattle.p21_spec_schema.specs.Schema.{Schema}
use Rattle.p21_spec_schema.specs.SchemaName.{NamesSchema}
use Rattle.p21_stream_kept.specs.Steps.{FitsLimits, StepGives}
use Rattle.p21_stream_statements.specs.declared.fault.Fault.TheVariants.{CanonicalTooLong, SchemaName, SectionTwice}

-- ---- no room

no-room : (limits : Limits) (so_far size : ℕ) → (FitsLimits limits so_far size → ⊥) → (limits.record_canonical < size)
    ⊎ (limits.file_canonical < so_far + (size + 1))
no-room limits so_far size none = elim (leb_tells size limits.record_canonical) [
  | inl within ↦ elim (leb_tells (so_far + (size + 1)) limits.file_canonical)
      [ inl all ↦ absurd (none (within.1, all.1)) | inr above ↦ inr above.1 ]
  | inr above ↦ inl above.1
]

pub long : (s : Schema) (limits : Limits) (given : List Statement) (so_far : ℕ) (statement : Statement) (text : List ℕ)
    → IsTextOf s statement text → (FitsLimits limits so_far (length text) → ⊥) → Offends s limits given so_far statement 27
long s limits given so_far statement text is none =
    elim (no-room limits so_far (length text) none) [
      | inl line ↦ long_line statement text is line
      | inr file ↦ long_file statement text is
          file
    ]

-- ---- section lines

fits-line : (s : Schema) (limits : Limits) (l : Line) → length (statement_text (section (line_of l))) ≤ limits.record_canonical
    → IsFitting s limits (section (line_of l))
fits-line s limits Begin within = (within, tt)
fits-line s limits HeaderStart within = (within, tt)
fits-line s limits SectionEnd within = (within, tt)
fits-line s limits DataStart within = (within, tt)
fits-line s limits Finish within = (within, tt)

no-name : (l : Line) (name : List ℕ) → Contains (section_names_among (section (line_of l) ∷ [])) name → ⊥
no-name Begin name among = Contains-none name among
no-name HeaderStart name among = Contains-none name among
no-name SectionEnd name among = Contains-none name among
no-name DataStart name among = Contains-none name among
no-name Finish name among = Contains-none name among

pub took-line : (limits : Limits) (old new : Kept) (l : Line)
    → FitsLimits limits (old.bytes + old.framing) (length (statement_text (section (line_of l)))) → new ≡ keep_section_line old (line_of l)
    → (s : Schema) → StepGives s limits old (section (line_of l)) (Ok tt) new
took-line limits old new l room is s given keeps =
    subst (λ (k : Kept). Keeps s limits (given ++ section (line_of l) ∷ []) k) (sym is)
    (keeps-by_line s limits given old keeps (line_of l) (fits-line s limits l room.0) (λ name among. absurd (no-name l name among)) room.1)

pub refused-line : (limits : Limits) (old new : Kept) (l : Line)
    → (FitsLimits limits (old.bytes + old.framing) (length (statement_text (section (line_of l)))) → ⊥) → (s : Schema)
    → StepGives s limits old (section (line_of l)) (Err CanonicalTooLong) new
refused-line limits old new l none s other given keeps =
    long s limits given (old.bytes + old.framing) (section (line_of l)) (statement_text (section (line_of l))) refl none

-- ---- header records

pub took-header : (s : Schema) (limits : Limits) (old new : Kept) (part : Part)
    → FitsLimits limits (old.bytes + old.framing) (length (statement_text (header part)))
    → ((chars : List ℕ) → IsFileSchema part chars → NamesSchema chars s.name) → new ≡ keep_header old part
    → StepGives s limits old (header part) (Ok tt) new
took-header s limits old new part room names is given keeps =
    subst (λ (k : Kept). Keeps s limits (given ++ header part ∷ []) k) (sym is)
    (keeps-by_header s limits given old keeps part (room.0, names) room.1)

pub refused-header : (s : Schema) (limits : Limits) (old new : Kept) (part : Part)
    → (FitsLimits limits (old.bytes + old.framing) (length (statement_text (header part))) → ⊥)
    → StepGives s limits old (header part) (Err CanonicalTooLong) new
refused-header s limits old new part none other given keeps =
    long s limits given (old.bytes + old.framing) (header part) (statement_text (header part)) refl none

pub other-header : (s : Schema) (limits : Limits) (old new : Kept) (part : Part) (chars : List ℕ) → IsFileSchema part chars
    → ¬ NamesSchema chars s.name → StepGives s limits old (header part) (Err SchemaName) new
other-header s limits old new part chars is none other given keeps = other_schema part chars is none

-- ---- the beginnings of data sections with a name

pub took-heading : (s : Schema) (limits : Limits) (old new : Kept) (name schema : List ℕ) → NamesSchema schema s.name
    → (Contains (section_names old.headings) name → ⊥)
    → FitsLimits limits (old.bytes + old.framing) (length (statement_text (section (data_start (named name schema)))))
    → new ≡ keep_section_line old (data_start (named name schema))
    → StepGives s limits old (section (data_start (named name schema))) (Ok tt) new
took-heading s limits old new name schema names none room is given keeps =
    subst (λ (k : Kept). Keeps s limits (given ++ section (data_start (named name schema)) ∷ []) k) (sym is)
    (keeps-by_line s limits given old keeps (data_start (named name schema)) (room.0, names)
    (λ n among. elim (Contains-cases name [] n among) [
      | inl same ↦
          (λ had. none (subst (λ (m : List ℕ). Contains (section_names old.headings) m) (sym same) had))
      | inr later ↦ absurd
          (Contains-none n later)
    ])
    room.1)

pub other-heading : (s : Schema) (limits : Limits) (old new : Kept) (name schema : List ℕ) → (NamesSchema schema s.name → ⊥)
    → StepGives s limits old (section (data_start (named name schema))) (Err SchemaName) new
other-heading s limits old new name schema none other given keeps = section_of_other_schema (named name schema) none

pub heading-again : (s : Schema) (limits : Limits) (old new : Kept) (name schema : List ℕ) → Contains (section_names old.headings) name
    → StepGives s limits old (section (data_start (named name schema))) (Err SectionTwice) new
heading-again s limits old new name schema had other given keeps =
    section_again name schema (subst (λ (names : List (List ℕ)). Contains names name) (sym (keeps-section_names s limits given old keeps))
    had)

pub refused-heading : (s : Schema) (limits : Limits) (old new : Kept) (name schema : List ℕ)
    → (FitsLimits limits (old.bytes + old.framing) (length (statement_text (section (data_start (named name schema))))) → ⊥)
    → StepGives s limits old (section (data_start (named name schema))) (Err CanonicalTooLong) new
refused-heading s limits old new name schema none other given keeps =
    long s limits given (old.bytes + old.framing) (section (data_start (named name schema)))
    (statement_text (section (data_start (named name schema)))) refl none
