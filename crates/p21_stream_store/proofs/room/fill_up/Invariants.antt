use Rattle.std.proofs.Common.{◌≡◌, ◌+◌, ℕ, slice_index_or, vec_capacity, vec_len}
use Rattle.p21_stream_store.proofs.room.fill_up.Given as goal

abbrev pub invariant-loop : goal.invariant-loop
invariant-loop g l = record {
  count : vec_len l.list ≡ vec_len l.fn.list + l.counter;
  same : (other : ℕ) → slice_index_or l.list.items other l.fill ≡ slice_index_or l.fn.list.items other l.fill;
  room : vec_capacity l.list ≡ vec_capacity l.fn.list;
}
