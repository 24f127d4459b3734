use Rattle.std.proofs.Common.{◌≡◌, ◌+◌, ℕ, vec_capacity, vec_len}
use Rattle.p21_stream_store.specs.Pages.{number_in, rooms}
use Rattle.p21_stream_store.proofs.pages.add_closed.Given as goal

abbrev pub invariant-loop : goal.invariant-loop
invariant-loop g l = record {
  count : vec_len l.pages ≡ vec_len l.fn.pages + l.counter;
  same : (none : _) → (other : ℕ) → number_in none l.pages.items other ≡ number_in none l.fn.pages.items other;
  room : rooms l.pages.items ≡ rooms l.fn.pages.items;
  directory : vec_capacity l.pages ≡ vec_capacity l.fn.pages;
}
