use Rattle.std.proofs.Common.{◌≡◌, ◌≤◌, ◌+◌, length, take}
use Rattle.std.specs.Prelude.{vec_capacity, vec_len}
use Rattle.p21_mapping.specs.Checked.{needs_view}
use Rattle.p21_stream_kept.specs.Inside.{references_of}
use Rattle.p21_stream_kept.specs.Served.{with_needs}
use Rattle.p21_stream_kept.proofs.waiting.add_needs.Given as goal

-- the first so many needs are added, and there is room for the others
abbrev pub invariant-loop-need : goal.invariant-loop-need
invariant-loop-need l =
    (references_of l.references.items ≡ with_needs l.found.name (needs_view (take l.need-index l.found.needs.now))
    (references_of l.fn.references.items)) × (length l.fn.references.items ≤ length l.references.items)
    × (vec_len l.references + length l.found.needs.now ≤ vec_capacity l.references + l.need-index)
