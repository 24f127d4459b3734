-- The laws at the end of a file.
use Rattle.std.specs.Prelude.{◌≡◌, ◌≢◌, ℕ, List, map, Contains}
use Rattle.std.specs.List.{AllByRecursion as Each}
use Rattle.p21_spec_file.specs.Accepted.{IsAccepted, IsCanonicalFile, IsDead}
use Rattle.p21_spec_schema.specs.WellFormed.{IsWellFormed}
use Rattle.p21_spec_exchange.specs.Grammar.{IsFile}
use Rattle.p21_spec_exchange.specs.Laying.{Laid}
use Rattle.p21_spec_basics.specs.Limits.{Limits}
use Rattle.p21_spec_exchange.specs.Record.{Part}
use Rattle.p21_spec_file.specs.Reference.{Need, IsServed, Serves}
use Rattle.p21_spec_schema.specs.Schema.{Schema}
use Rattle.p21_spec_exchange.specs.Structure.{Structure, tokens_of}
use Rattle.p21_spec_exchange.specs.Token.{Token}
use Rattle.p21_spec_laws.specs.CompleteFile.{Entry, SectionEntries, Block, IsMeant, IsCompleteFile, entries_in, entity_sets_in, structure_of, file_text}

-- ---- refused at the end

-- bytes in which no tokens are laid
abbrev pub NoLayingIsRefused : Type 0
NoLayingIsRefused = (s : Schema) (limits : Limits) (bytes : List ℕ) → ((tokens : List Token) → ¬ Laid bytes tokens) → ¬ IsAccepted s limits bytes

-- bytes whose tokens are those of no tree, as where they end early
abbrev pub NoTreeIsRefused : Type 0
NoTreeIsRefused = (s : Schema) (limits : Limits) (bytes : List ℕ) (tokens : List Token) → Laid bytes tokens → ((structure : Structure) (text : List ℕ) → IsFile structure text → tokens_of structure ≢ tokens) → ¬ IsAccepted s limits bytes

-- a need that no instance of the file serves
abbrev pub UnservedNeedIsRefused : Type 0
UnservedNeedIsRefused = (s : Schema) → IsWellFormed s → (limits : Limits) (bytes : List ℕ) (parts : List Part) (groups : List SectionEntries) → Laid bytes (tokens_of (structure_of parts groups)) → Each (IsMeant s) (entries_in groups)
    → (entry : Entry) (need : Need) → Contains (entries_in groups) entry → Contains entry.needs need → ¬ IsServed s (entity_sets_in (entries_in groups)) need → ¬ IsAccepted s limits bytes

-- a reference to a name that no instance has
abbrev pub UnknownReferenceIsRefused : Type 0
UnknownReferenceIsRefused = (s : Schema) → IsWellFormed s → (limits : Limits) (bytes : List ℕ) (parts : List Part) (groups : List SectionEntries) → Laid bytes (tokens_of (structure_of parts groups)) → Each (IsMeant s) (entries_in groups)
    → (entry : Entry) (need : Need) → Contains (entries_in groups) entry → Contains entry.needs need → ¬ Contains (map (λ e. e.name) (entries_in groups)) need.target → ¬ IsAccepted s limits bytes

-- a reference to an instance whose set doesn't serve
abbrev pub UnfitReferenceIsRefused : Type 0
UnfitReferenceIsRefused = (s : Schema) → IsWellFormed s → (limits : Limits) (bytes : List ℕ) (parts : List Part) (groups : List SectionEntries) → Laid bytes (tokens_of (structure_of parts groups)) → Each (IsMeant s) (entries_in groups)
    → (entry target : Entry) (need : Need) → Contains (entries_in groups) entry → Contains entry.needs need → Contains (entries_in groups) target → target.name ≡ need.target → ¬ Serves s need.wanted target.meaning.entities → ¬ IsAccepted s limits bytes

-- what is dead is refused at its end too
abbrev pub DeadIsRefused : Type 0
DeadIsRefused = (s : Schema) (limits : Limits) (bytes : List ℕ) → IsDead s limits bytes → ¬ IsAccepted s limits bytes

-- ---- accepted at the end

-- a file of which nothing of this is wrong is accepted, and its sections and their lines by rising names are its canonical file
abbrev pub CompleteFileIsAccepted : Type 0
CompleteFileIsAccepted = (s : Schema) → IsWellFormed s → (limits : Limits) (bytes : List ℕ) (parts : List Part) (groups : List SectionEntries) (blocks : List Block) → IsCompleteFile s limits bytes parts groups blocks
    → IsCanonicalFile s limits bytes (file_text parts blocks)

-- and each accepted file is such
abbrev pub AcceptedFileIsComplete : Type 0
AcceptedFileIsComplete = (s : Schema) → IsWellFormed s → (limits : Limits) (bytes : List ℕ) → IsAccepted s limits bytes
    → (parts : List Part) × (groups : List SectionEntries) × (blocks : List Block) × IsCompleteFile s limits bytes parts groups blocks
