-- The laws of what a session keeps: each statement more, each refusal, and the end of the file.
use Rattle.std.specs.Prelude.{◌≡◌, ◌≤◌, ◌<◌, ◌+◌, ◌⊎◌, ◌↔◌, ℕ, Bool, true, suc, List, [], ◌∷◌, ◌++◌, map, length, Contains, IsTrue}
use Rattle.std.specs.List.{flat_map, AllByRecursion as Each}
use Rattle.std.specs.List.Sorted.{IsPermutation}
use Rattle.p21_spec_basics.specs.Limits.{Limits}
use Rattle.p21_spec_laws.specs.CompleteFile.{Block, Entry}
use Rattle.p21_spec_laws.specs.Taken.{names_among, section_names_among}
use Rattle.p21_spec_laws.specs.UnrefusedStatements.{IsFitting, IsFound}
use Rattle.p21_spec_laws.specs.Keeping.{AreBlocksOf, IsServedBy, IsServedByNone, Keeps, Kept, nothing_with, text_with_header, keep_header, keep_instance, keep_section_line}
use Rattle.p21_spec_laws.specs.Offending.{HasFileSize}
use Rattle.p21_spec_laws.specs.Stored.{IsAmongEarlier, KeptLines, StoredEntry, stored_of, with_lines}
use Rattle.p21_spec_laws.specs.Waiting.{Reference}
use Rattle.p21_spec_exchange.specs.CanonicalText.{statement_text}
use Rattle.p21_spec_exchange.specs.DataSection.{section_names}
use Rattle.p21_spec_exchange.specs.Grammar.{IsFile}
use Rattle.p21_spec_exchange.specs.Laying.{AreStatementsWithin, Laid, tokens_in}
use Rattle.p21_spec_exchange.specs.OpenNesting.{IsDepth}
use Rattle.p21_spec_exchange.specs.Pending.{IsPending}
use Rattle.p21_spec_exchange.specs.Record.{Part, Record}
use Rattle.p21_spec_exchange.specs.Statement.{SectionLine, Statement, header, instance, section, statement_tokens}
use Rattle.p21_spec_exchange.specs.Structure.{AreFirstStatements, Structure, statements, tokens_of}
use Rattle.p21_spec_exchange.specs.Token.{Token}
use Rattle.p21_spec_file.specs.Accepted.{IsAccepted, IsCanonicalFile}
use Rattle.p21_spec_file.specs.Held.{IsHeld}
use Rattle.p21_spec_file.specs.Reference.{Need}
use Rattle.p21_spec_schema.specs.Schema.{Schema}
use Rattle.p21_spec_schema.specs.WellFormed.{IsWellFormed}

-- ---- one statement more

abbrev pub KeepsAtStart : Type 0
KeepsAtStart = (s : Schema) (limits : Limits) (lines : KeptLines) → Keeps s limits [] (nothing_with lines)

-- a section line that fits, under no name that stands before it
abbrev pub KeepsBySectionLine : Type 0
KeepsBySectionLine = (s : Schema) (limits : Limits) (given : List Statement) (kept : Kept) → Keeps s limits given kept → (line_ : SectionLine) → IsFitting s limits (section line_)
    → ((name : List ℕ) → Contains (section_names_among (section line_ ∷ [])) name → ¬ Contains (section_names kept.headings) name) → kept.bytes + kept.framing + (length (statement_text (section line_)) + 1) ≤ limits.file_canonical
    → Keeps s limits (given ++ (section line_ ∷ [])) (keep_section_line kept line_)

-- a header record that fits
abbrev pub KeepsByHeader : Type 0
KeepsByHeader = (s : Schema) (limits : Limits) (given : List Statement) (kept : Kept) → Keeps s limits given kept → (part : Part) → IsFitting s limits (header part) → kept.bytes + kept.framing + (length (statement_text (header part)) + 1) ≤ limits.file_canonical
    → Keeps s limits (given ++ (header part ∷ [])) (keep_header kept part)

-- an instance of the last section, of which all was found, under a name that none has that is stored; each of its needs
-- waits or is served by what is stored
abbrev pub KeepsByInstance : Type 0
KeepsByInstance = (s : Schema) (limits : Limits) (given : List Statement) (kept : Kept) → Keeps s limits given kept → (entry : Entry) → IsFound s limits entry → ¬ Contains (map (λ (x : StoredEntry). x.name) kept.stored) entry.name
    → (added : List Need) → Each (Contains entry.needs) added → Each (λ (need : Need). Contains added need ⊎ IsServedBy s kept.stored need) entry.needs
    → (number : ℕ) → suc number ≡ length kept.headings → (stored : List StoredEntry) → IsPermutation (stored_of kept.lines (number, entry) ∷ kept.stored) stored
    → (equal : Bool) → IsTrue equal ↔ (IsTrue kept.equal × IsAmongEarlier kept.lines (entry.name, entry.text)) → kept.bytes + kept.framing + (length entry.text + 1) ≤ limits.file_canonical
    → Keeps s limits (given ++ (instance entry.name entry.record_ ∷ [])) (keep_instance kept entry added stored equal)

-- an instance of a tree stands in a section
abbrev pub KeepsSectionOfInstance : Type 0
KeepsSectionOfInstance = (s : Schema) (limits : Limits) (given : List Statement) (kept : Kept) → Keeps s limits given kept → (n : ℕ) (record_ : Record) (t : Structure) → AreFirstStatements (given ++ (instance n record_ ∷ [])) t → 0 < length kept.headings

-- ---- refusals

-- the bytes of canonical lines
abbrev pub KeepsFileSize : Type 0
KeepsFileSize = (s : Schema) (limits : Limits) (given : List Statement) (kept : Kept) → Keeps s limits given kept → HasFileSize s given (kept.bytes + kept.framing) × (kept.bytes + kept.framing ≤ limits.file_canonical)

-- the names that stand in the statements
abbrev pub KeepsSectionNames : Type 0
KeepsSectionNames = (s : Schema) (limits : Limits) (given : List Statement) (kept : Kept) → Keeps s limits given kept → section_names_among given ≡ section_names kept.headings

abbrev pub KeepsInstanceNames : Type 0
KeepsInstanceNames = (s : Schema) (limits : Limits) (given : List Statement) (kept : Kept) → Keeps s limits given kept → (x : StoredEntry) → Contains kept.stored x → Contains (names_among given) x.name

-- a reference that waits, and that nothing serves, at the end
abbrev pub KeptUnservedIsNotAccepted : Type 0
KeptUnservedIsNotAccepted = (s : Schema) → IsWellFormed s → (limits : Limits) (bytes : List ℕ) (given : List Statement) (kept : Kept) → Keeps s limits given kept → (structure : Structure) → statements structure ≡ given → Laid bytes (tokens_of structure)
    → (reference : Reference) → Contains kept.waiting reference → IsServedByNone s kept.stored reference.1 → ¬ IsAccepted s limits bytes

-- ---- what is held, and the end

abbrev pub KeptIsHeld : Type 0
KeptIsHeld = (s : Schema) (limits : Limits) (bytes : List ℕ) (given : List Statement) (kept : Kept) → Keeps s limits given kept → (pending depth : ℕ) (is : IsPending bytes pending) (open_ : IsDepth (tokens_in is.lexemes) depth) → open_.open_statement.ended ≡ flat_map statement_tokens given
    → (structure : Structure) (text : List ℕ) → IsFile structure text → AreFirstStatements given structure → IsHeld s bytes (record { pending = pending; depth = depth; kept = kept.bytes; needs = kept.references })

-- there are no more references than tokens of the statements
abbrev pub KeepsFewReferences : Type 0
KeepsFewReferences = (s : Schema) (limits : Limits) (given : List Statement) (kept : Kept) → Keeps s limits given kept → kept.references ≤ length (flat_map statement_tokens given)

-- where all that wait are served, the bytes are accepted, and the lines that are kept are by rising names their canonical file
abbrev pub KeptIsAccepted : Type 0
KeptIsAccepted = (s : Schema) → IsWellFormed s → (limits : Limits) (bytes : List ℕ) (given : List Statement) (kept : Kept) → Keeps s limits given kept → (structure : Structure) (text : List ℕ) → IsFile structure text → statements structure ≡ given
    → (tokens : List Token) → tokens_of structure ≡ tokens → (laid : Laid bytes tokens) → AreStatementsWithin limits.record_source 0 laid.lexemes → length bytes ≤ limits.file_source
    → Each (λ (r : Reference). IsServedBy s kept.stored r.1) kept.waiting → kept.lines ≡ with_lines → (blocks : List Block) → AreBlocksOf kept blocks → IsCanonicalFile s limits bytes (text_with_header kept.header blocks)

-- whether lines are kept or not, there are blocks that are their canonical file, of as many bytes as are counted
abbrev pub KeptHasCanonicalFile : Type 0
KeptHasCanonicalFile = (s : Schema) → IsWellFormed s → (limits : Limits) (bytes : List ℕ) (given : List Statement) (kept : Kept) → Keeps s limits given kept → (structure : Structure) (text : List ℕ) → IsFile structure text → statements structure ≡ given
    → (tokens : List Token) → tokens_of structure ≡ tokens → (laid : Laid bytes tokens) → AreStatementsWithin limits.record_source 0 laid.lexemes → length bytes ≤ limits.file_source
    → Each (λ (r : Reference). IsServedBy s kept.stored r.1) kept.waiting → (blocks : List Block) × IsCanonicalFile s limits bytes (text_with_header kept.header blocks) × (length (text_with_header kept.header blocks) ≡ kept.bytes + kept.framing)

-- as many instances as are stored have lines, which might be kept
abbrev pub KeptHasLines : Type 0
KeptHasLines = (s : Schema) (limits : Limits) (given : List Statement) (kept : Kept) → Keeps s limits given kept → (stored : List StoredEntry) × Keeps s limits given (record kept { lines = with_lines; equal = true; stored = stored }) × (length stored ≡ length kept.stored)

-- the file of the lines that are kept has as many bytes as are counted
abbrev pub KeptTextSize : Type 0
KeptTextSize = (s : Schema) (limits : Limits) (given : List Statement) (kept : Kept) → Keeps s limits given kept → (structure : Structure) (text : List ℕ) → IsFile structure text → statements structure ≡ given → kept.lines ≡ with_lines → (blocks : List Block) → AreBlocksOf kept blocks
    → length (text_with_header kept.header blocks) ≡ kept.bytes + kept.framing
