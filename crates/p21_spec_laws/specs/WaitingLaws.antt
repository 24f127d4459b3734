-- The laws of needs that wait for the end of a file.
use Rattle.std.specs.Prelude.{Contains, List, [], map, ◌++◌, ◌∷◌, ◌≡◌, ◌⊎◌}
use Rattle.std.specs.List.{AllByRecursion as Each}
use Rattle.p21_spec_laws.specs.CompleteFile.{AreNeedsServed, Entry, entity_sets_in}
use Rattle.p21_spec_laws.specs.Waiting.{IsWaiting, Reference}
use Rattle.p21_spec_file.specs.Reference.{IsServed, Need, Serves}
use Rattle.p21_spec_schema.specs.Schema.{Schema}

-- nothing waits in front of the first instance
abbrev pub WaitingAtStart : Type 0
WaitingAtStart = (s : Schema) → IsWaiting s [] []

-- of the needs of one instance more some wait, and the others are served
abbrev pub WaitingByInstance : Type 0
WaitingByInstance = (s : Schema) (entries : List Entry) (waiting : List Reference) → IsWaiting s entries waiting → (entry : Entry) (added : List Need) → Each (Contains entry.needs) added
    → Each (λ (need : Need). Contains added need ⊎ IsServed s (entity_sets_in (entries ++ (entry ∷ []))) need) entry.needs → IsWaiting s (entries ++ (entry ∷ [])) (waiting ++ map (λ (need : Need). (entry.name, need)) added)

-- what is served stays served
abbrev pub ServedStaysServed : Type 0
ServedStaysServed = (s : Schema) (entries more : List Entry) (need : Need) → IsServed s (entity_sets_in entries) need → IsServed s (entity_sets_in (entries ++ more)) need

-- an instance of the name whose set serves, serves
abbrev pub ServedByEntry : Type 0
ServedByEntry = (s : Schema) (entries : List Entry) (need : Need) (target : Entry) → Contains entries target → target.name ≡ need.target → Serves s need.wanted target.meaning.entities → IsServed s (entity_sets_in entries) need

-- where all that wait are served, all needs are
abbrev pub ServedWaitingServesAll : Type 0
ServedWaitingServesAll = (s : Schema) (entries : List Entry) (waiting : List Reference) → IsWaiting s entries waiting → Each (λ (r : Reference). IsServed s (entity_sets_in entries) r.1) waiting → Each (AreNeedsServed s (entity_sets_in entries)) entries
