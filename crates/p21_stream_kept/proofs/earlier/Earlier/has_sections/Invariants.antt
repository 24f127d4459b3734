use Rattle.std.proofs.Common.{◌<◌, ◌-◌, ◌^◌, List, length}
use Rattle.p21_spec_exchange.specs.DataSection.{Heading}
use Rattle.std.specs.Prelude.{Contains}
use Rattle.p21_spec_laws.specs.Beside.{IsInSameSection}
use Rattle.p21_spec_laws.specs.Stored.{StoredEntry}
use Rattle.p21_stream_kept.specs.Inside.{AreOfSections, stored_of}
use Rattle.p21_stream_kept.specs.Sections.{HaveNumbers}
use Rattle.p21_stream_kept.proofs.earlier.Earlier.has_sections.Given as goal

abbrev pub invariant-loop-name : goal.invariant-loop-name
invariant-loop-name l =
    (headings : List Heading) → HaveNumbers l.self.headings headings l.numbers → AreOfSections (length headings) l.memberships
    → (y : StoredEntry) → Contains l.self.stored y → y.name < l.least
    → IsInSameSection l.self headings (stored_of l.memberships l.names) y

abbrev pub decreases-loop-name : goal.decreases-loop-name
decreases-loop-name l = 2 ^ 64 - l.least
