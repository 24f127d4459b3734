use Rattle.std.proofs.Common.{◌+◌, ◌*◌, ◌≤◌, length}
use Rattle.p21_shorter_instances.proofs.Elements.{Along}
use Rattle.p21_shorter_instances.proofs.value.+append.Given as goal

-- How deep the rest may be falls; at the same depth each function stands above what it calls.
abbrev pub decreases-append_counted : goal.decreases-append_counted
decreases-append_counted l = 12 * l.at.now.most + 11

abbrev pub decreases-append_each : goal.decreases-append_each
decreases-append_each l = 12 * l.at.now.most + 10

abbrev pub decreases-append_element : goal.decreases-append_element
decreases-append_element l = 12 * l.at.now.most + 9

abbrev pub decreases-append_stored : goal.decreases-append_stored
decreases-append_stored l = 12 * l.at.now.most + 8

abbrev pub decreases-append_enclosed : goal.decreases-append_enclosed
decreases-append_enclosed l = 12 * l.most + 8

abbrev pub decreases-append_present : goal.decreases-append_present
decreases-append_present l = 12 * l.most + 7

abbrev pub decreases-append_choice : goal.decreases-append_choice
decreases-append_choice l = 12 * l.most + 6

abbrev pub decreases-append_typed : goal.decreases-append_typed
decreases-append_typed l = 12 * l.most + 5

abbrev pub decreases-append_undeclared : goal.decreases-append_undeclared
decreases-append_undeclared l = 12 * l.most + 4

abbrev pub decreases-append_aggregate : goal.decreases-append_aggregate
decreases-append_aggregate l = 12 * l.most + 3

-- one less than the aggregate whose places it takes
abbrev pub decreases-append_any : goal.decreases-append_any
decreases-append_any l = 12 * l.at.now.most + 12

-- with each element a comma is taken
abbrev pub decreases-append_each-loop-next : goal.decreases-append_each-loop-next
decreases-append_each-loop-next l = length l.behind

abbrev pub invariant-append_each-loop-next : goal.invariant-append_each-loop-next
invariant-append_each-loop-next l =
    Along l.at.schema.now l.at.base.now l.at.optional l.compared l.at.most l.fn.bytes l.fn.lengths.items l.fn.taken l.count l.behind
    l.lengths.items l.taken × (l.count + length l.behind ≤ length l.fn.bytes + 1)
