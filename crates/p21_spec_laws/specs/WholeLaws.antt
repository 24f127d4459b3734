-- The laws of the end of a file, and of what is held before it.
use Rattle.std.specs.Prelude.{Contains, List, [], length, map, ℕ, ◌++◌, ◌+◌, ◌∷◌, ◌≡◌, ◌≤◌}
use Rattle.std.specs.List.{AllByRecursion as Each, flat_map}
use Rattle.p21_spec_basics.specs.Limits.{Limits}
use Rattle.p21_spec_laws.specs.CompleteFile.{AreNeedsServed, AreRisingBlocks, Block, SectionEntries, IsCompleteFile, entries_in, file_text, entity_sets_in}
use Rattle.p21_spec_laws.specs.SizeLaws.{framing}
use Rattle.p21_spec_laws.specs.Taken.{BeginsWith}
use Rattle.p21_spec_laws.specs.Among.{parts_among}
use Rattle.p21_spec_laws.specs.UnrefusedStatements.{AreUnrefused, canonical_size}
use Rattle.p21_spec_laws.specs.Offending.{IsUnserved}
use Rattle.p21_spec_laws.specs.Waiting.{IsWaiting, Reference, references_in}
use Rattle.p21_spec_exchange.specs.DataSection.{AreHeadings}
use Rattle.p21_spec_exchange.specs.Grammar.{IsFile}
use Rattle.p21_spec_exchange.specs.Laying.{AreStatementsWithin, Laid, Lexeme, tokens_in}
use Rattle.p21_spec_exchange.specs.OpenNesting.{IsDepth, IsNoSemicolon}
use Rattle.p21_spec_exchange.specs.Pending.{IsPending, LaidUpTo, Tail}
use Rattle.p21_spec_exchange.specs.Statement.{Statement, statement_tokens}
use Rattle.p21_spec_exchange.specs.Structure.{AreFirstStatements, Structure, statements, tokens_of}
use Rattle.p21_spec_exchange.specs.Token.{IsWholeAtOnce, Token}
use Rattle.p21_spec_file.specs.Accepted.{IsAccepted, IsCanonicalFile}
use Rattle.p21_spec_file.specs.Held.{IsHeld, statement_references}
use Rattle.p21_spec_file.specs.Reference.{IsServed}
use Rattle.p21_spec_schema.specs.Schema.{Schema}
use Rattle.p21_spec_schema.specs.WellFormed.{IsWellFormed}
use Rattle.p21_spec_laws.specs.OffenderLaws.{AreNoFileTokens}

-- ---- at the end

-- a last token that is known to be whole only at the end is the last of no file
abbrev pub LastTokenIsOfNoFile : Type 0
LastTokenIsOfNoFile = (bytes : List ℕ) (given : List Token) (last : Token) → ((front rest : List ℕ) (tokens : List Token) (whole : Token) → bytes ≡ front ++ rest → Laid front (tokens ++ (whole ∷ [])) → IsWholeAtOnce whole → BeginsWith (tokens ++ (whole ∷ [])) given)
    → Laid bytes (given ++ (last ∷ [])) → AreNoFileTokens (given ++ (last ∷ []))

-- the statements of bytes are within their limit where they are up to a tail
abbrev pub StatementsWithinUpToTail : Type 0
StatementsWithinUpToTail = (bytes : List ℕ) (lexemes : List Lexeme) (tail : Tail) (most : ℕ) → LaidUpTo bytes lexemes tail → AreStatementsWithin most 0 lexemes → (tokens : List Token) → tokens_in lexemes ≡ tokens → (laid : Laid bytes tokens) → AreStatementsWithin most 0 laid.lexemes

-- the text of the file has the bytes of the canonical lines of its statements
abbrev pub UnrefusedTextSize : Type 0
UnrefusedTextSize = (s : Schema) (limits : Limits) (given : List Statement) (groups : List SectionEntries) (blocks : List Block) → AreUnrefused s limits given groups → (structure : Structure) (text : List ℕ) → IsFile structure text → statements structure ≡ given → AreRisingBlocks groups blocks
    → length (file_text (parts_among given) blocks) ≡ canonical_size given groups + framing given

-- what is known of all statements of a file, with its references and the lines in their order, is all that acceptance asks for
abbrev pub UnrefusedAreCompleteFile : Type 0
UnrefusedAreCompleteFile = (s : Schema) (limits : Limits) (bytes : List ℕ) (given : List Statement) (groups : List SectionEntries) (blocks : List Block) → AreUnrefused s limits given groups → (structure : Structure) (text : List ℕ) → IsFile structure text → statements structure ≡ given
    → (tokens : List Token) → tokens_of structure ≡ tokens → (laid : Laid bytes tokens) → AreStatementsWithin limits.record_source 0 laid.lexemes → length bytes ≤ limits.file_source → Each (AreNeedsServed s (entity_sets_in (entries_in groups))) (entries_in groups) → AreRisingBlocks groups blocks
    → IsCompleteFile s limits bytes (parts_among given) groups blocks

-- a reference that waits and is not served
abbrev pub UnservedReferenceIsNotAccepted : Type 0
UnservedReferenceIsNotAccepted = (s : Schema) → IsWellFormed s → (limits : Limits) (bytes : List ℕ) (given : List Statement) (groups : List SectionEntries) → AreUnrefused s limits given groups → (structure : Structure) → statements structure ≡ given → Laid bytes (tokens_of structure)
    → (waiting : List Reference) → IsWaiting s (entries_in groups) waiting → (reference : Reference) (number : ℕ) → Contains waiting reference → IsUnserved s (entries_in groups) reference number → ¬ IsAccepted s limits bytes

-- where moreover all that wait are served, the bytes are accepted, and the blocks are their canonical file
abbrev pub UnrefusedAreAccepted : Type 0
UnrefusedAreAccepted = (s : Schema) → IsWellFormed s → (limits : Limits) (bytes : List ℕ) (given : List Statement) (groups : List SectionEntries) (blocks : List Block) → AreUnrefused s limits given groups → (structure : Structure) (text : List ℕ) → IsFile structure text → statements structure ≡ given
    → (tokens : List Token) → tokens_of structure ≡ tokens → (laid : Laid bytes tokens) → AreStatementsWithin limits.record_source 0 laid.lexemes → length bytes ≤ limits.file_source
    → (waiting : List Reference) → IsWaiting s (entries_in groups) waiting → Each (λ (r : Reference). IsServed s (entity_sets_in (entries_in groups)) r.1) waiting → AreRisingBlocks groups blocks
    → IsCanonicalFile s limits bytes (file_text (parts_among given) blocks)

-- the headings of the groups are those of a file
abbrev pub UnrefusedHaveHeadings : Type 0
UnrefusedHaveHeadings = (s : Schema) (limits : Limits) (given : List Statement) (groups : List SectionEntries) → AreUnrefused s limits given groups → (structure : Structure) (text : List ℕ) → IsFile structure text → statements structure ≡ given → AreHeadings (map (λ (g : SectionEntries). g.heading) groups)

-- ---- what is held

-- tokens of statements and of an open front of the next end these statements
abbrev pub TokensEndStatements : Type 0
TokensEndStatements = (given : List Statement) (opened tokens : List Token) (depth : ℕ) → tokens ≡ flat_map statement_tokens given ++ opened → Each IsNoSemicolon opened → (is : IsDepth tokens depth) → is.open_statement.ended ≡ flat_map statement_tokens given

-- what a session holds between two pieces
abbrev pub UnrefusedAreHeld : Type 0
UnrefusedAreHeld = (s : Schema) (limits : Limits) (bytes : List ℕ) (given : List Statement) (groups : List SectionEntries) → AreUnrefused s limits given groups → (pending depth : ℕ) (is : IsPending bytes pending) (open_ : IsDepth (tokens_in is.lexemes) depth) → open_.open_statement.ended ≡ flat_map statement_tokens given
    → (structure : Structure) (text : List ℕ) → IsFile structure text → AreFirstStatements given structure → IsHeld s bytes (record { pending = pending; depth = depth; kept = canonical_size given groups; needs = length (references_in (entries_in groups)) })

-- the references that stand in the statements are as many as the needs
abbrev pub AsManyReferencesAsNeeds : Type 0
AsManyReferencesAsNeeds = (s : Schema) (limits : Limits) (given : List Statement) (groups : List SectionEntries) → AreUnrefused s limits given groups → length (flat_map statement_references given) ≡ length (references_in (entries_in groups))

-- and no more than the tokens of the statements
abbrev pub ReferencesAreFew : Type 0
ReferencesAreFew = (given : List Statement) → length (flat_map statement_references given) ≤ length (flat_map statement_tokens given)
