-- An instance that is taken: its section, and the references before it.
use Rattle.std.proofs.Common.{◌≡◌, ◌<◌, ◌+◌, ◌^◌, ℕ, List, [], ◌∷◌, ◌++◌, length, ap, arith, length-append}
use Rattle.std.proofs.lemmas.Grind.{flat_map-append}
use Rattle.std.proofs.lemmas.List.{length-map}
use Rattle.std.specs.List.{flat_map}
use Rattle.p21_spec_basics.specs.Limits.{Limits}
use Rattle.p21_spec_laws.proofs.Holding.{references-counted, references-few}
use Rattle.p21_spec_laws.proofs.Keeps.{keeps-section}
use Rattle.p21_spec_laws.specs.Keeping.{Kept}
use Rattle.p21_spec_laws.proofs.RecordTheorems.{needs-are_references}
use Rattle.p21_spec_laws.specs.Needs.{MeansWithNeeds}
use Rattle.p21_spec_exchange.specs.Record.{Record}
use Rattle.p21_spec_exchange.specs.Statement.{instance}
use Rattle.p21_spec_file.specs.Held.{statement_references}
use Rattle.p21_spec_file.specs.Meaning.{Typed}
use Rattle.p21_spec_file.specs.Reference.{Need, record_references}
use Rattle.p21_spec_schema.specs.Schema.{Schema}
use Rattle.p21_stream_kept.specs.Taking.{Follows}

-- the instance stands in a section
pub follows-section : (s : Schema) (limits : Limits) (kept : Kept) (n : ℕ) (r : Record) → Follows s limits kept (instance n r)
    → 0 < length kept.headings
follows-section s limits kept n r f = keeps-section s limits f.given kept f.keeps n r f.structure f.are_first

-- 64 bits count the references with its own
pub follows-few : (s : Schema) (limits : Limits) (kept : Kept) (n : ℕ) (r : Record) → Follows s limits kept (instance n r)
    → (meaning : Typed) (needs : List Need) → MeansWithNeeds s r meaning needs → kept.references + length needs < 2 ^ 64
follows-few s limits kept n r f meaning needs means =
    let are = f.keeps.references_are in
    let counted = references-counted s limits f.given f.keeps.groups f.keeps.unrefused in
    let targets = ap length (needs-are_references s r meaning needs means.needs_are) in
    let mapped = length-map needs (λ (need : Need). need.target) in
    let few = references-few (f.given ++ instance n r ∷ []) in
    let split : length (flat_map statement_references (f.given ++ instance n r ∷ [])) ≡ length
    (flat_map statement_references f.given ++ (record_references r ++ [])) =
    ap length (flat_map-append statement_references f.given (instance n r ∷ [])) in
    let sum = length-append (flat_map statement_references f.given) (record_references r ++ []) in
    let own = length-append (record_references r) [] in
    let below = f.few in
    omega (arith, are, counted, targets, mapped, few, split, sum, own, below)
