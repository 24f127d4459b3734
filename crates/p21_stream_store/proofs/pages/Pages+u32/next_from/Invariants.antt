use Rattle.std.proofs.Common.{◌≡◌, ◌<◌, ◌≤◌, ◌-◌, ◌^◌, ℕ}
use Rattle.p21_stream_store.specs.Pages.{number_in}
use Rattle.p21_stream_store.proofs.pages.Pages+u32.next_from.Given as goal

abbrev pub invariant-loop-name : goal.invariant-loop-name
invariant-loop-name l = record {
  behind : l.from ≤ l.name;
  none : (other : ℕ) → l.from ≤ other → other < l.name → number_in 0 l.self.pages.items other ≡ 0;
}

abbrev pub decreases-loop-name : goal.decreases-loop-name
decreases-loop-name l = 2 ^ 64 - l.name
