use Rattle.std.specs.Prelude.{◌≡◌, ◌<◌, ℕ, List, length}
use Rattle.std.specs.List.{range_with_len}
use Rattle.std.proofs.Common.{arith, ap, sym, subst, ◌∙◌}
use Rattle.p21_spec_numbering.specs.Fresh.{Ranks, tell}
use Rattle.p21_numbering.specs.Arrays.{rank_at, ranks_of}
use Rattle.p21_numbering.specs.Keyed.{AreTellable}
use Rattle.p21_numbering.specs.Rows.{held_rows, lent_rows}
use Rattle.p21_numbering.proofs.NextRanks.{are-tellable, parts-are, parts-counted, parts-told, parts-within, round-is}
use Rattle.p21_numbering.proofs.Telling.{fresh-told}
use Rattle.p21_numbering.proofs.rounds.next_ranks.Goals as goal

pub told_ranks-requires : goal.told_ranks-requires
told_ranks-requires c =
    let rank : List ℕ = c.args.rank.now in
    let round =
    round-is c.args.rank.now c.args.fresh.now c.args.uses.now c.args.users.now c.in_ok-sizes.sizes.items c.deref.result.now
    c.in_ok-keys.keys.items c.deref-2.result.now c.in_ok-rows.rows.items c.deref-3.result.now c.in_ok-sorted.sorted.items
    c.requires.ranks c.in_ok-sizes.ensures c.deref.ensures.value c.in_ok-keys.ensures.size c.in_ok-keys.ensures.each c.deref-2.ensures.value
    c.in_ok-rows.ensures c.deref-3.ensures.value c.in_ok-sorted.ensures in
    let are : AreTellable rank c.in_ok-sizes.sizes.items (held_rows c.in_ok-keys.keys.items) (lent_rows c.in_ok-sorted.sorted.items) =
    are-tellable c.args.rank.now c.args.fresh.now c.args.uses.now c.args.users.now c.in_ok-sizes.sizes.items
    (held_rows c.in_ok-keys.keys.items) (lent_rows c.in_ok-sorted.sorted.items) round in
    let P : List ℕ → Type 0 = λ s. AreTellable rank s (held_rows c.in_ok-keys.keys.items) (lent_rows c.in_ok-sorted.sorted.items) in
    let Q : List (List ℕ) → Type 0 = λ ks. AreTellable rank c.deref-4.result.now ks (lent_rows c.in_ok-sorted.sorted.items) in
    let R : List (List ℕ) → Type 0 = λ ts. AreTellable rank c.deref-4.result.now (held_rows c.deref-5.result.now) ts in
    subst R (sym (ap lent_rows c.deref-6.ensures.value))
    (subst Q (sym (ap held_rows c.deref-5.ensures.value)) (subst P (sym c.deref-4.ensures.value) are))

pub fresh_nodes-requires-clause-new_within : goal.fresh_nodes-requires-clause-new_within
fresh_nodes-requires-clause-new_within c n low =
    let count : ℕ = length c.args.rank.now in
    let round =
    round-is c.args.rank.now c.args.fresh.now c.args.uses.now c.args.users.now c.in_ok-sizes.sizes.items c.deref.result.now
    c.in_ok-keys.keys.items c.deref-2.result.now c.in_ok-rows.rows.items c.deref-3.result.now c.in_ok-sorted.sorted.items
    c.requires.ranks c.in_ok-sizes.ensures c.deref.ensures.value c.in_ok-keys.ensures.size c.in_ok-keys.ensures.each c.deref-2.ensures.value
    c.in_ok-rows.ensures c.deref-3.ensures.value c.in_ok-sorted.ensures in
    let parts =
    parts-are c.args.rank.now c.in_ok-sizes.sizes.items c.deref-4.result.now c.in_ok-keys.keys.items c.deref-5.result.now
    c.in_ok-sorted.sorted.items c.deref-6.result.now c.in_ok-parts.parts.items
    c.deref-4.ensures.value c.deref-5.ensures.value c.deref-6.ensures.value c.in_ok-parts.ensures.each in
    let P : List ℕ → Type 0 = λ ps. n < length ps in
    let below : n < count = omega (arith, subst P c.deref-7.ensures.value low, c.in_ok-parts.ensures.size) in
    let within = parts-within c.args.rank.now c.args.fresh.now c.args.uses.now c.args.users.now c.in_ok-sizes.sizes.items
    (held_rows c.in_ok-keys.keys.items) (lent_rows c.in_ok-sorted.sorted.items) round c.in_ok-parts.parts.items parts n below in
    let Q : List ℕ → Type 0 = λ ps. rank_at ps n < length ps in
    subst Q (sym c.deref-7.ensures.value) (omega (arith, within, c.in_ok-parts.ensures.size))

pub returns-clause-ranks : goal.returns-clause-ranks
returns-clause-ranks c =
    let count : ℕ = length c.args.rank.now in
    let round =
    round-is c.args.rank.now c.args.fresh.now c.args.uses.now c.args.users.now c.in_ok-sizes.sizes.items c.deref.result.now
    c.in_ok-keys.keys.items c.deref-2.result.now c.in_ok-rows.rows.items c.deref-3.result.now c.in_ok-sorted.sorted.items
    c.requires.ranks c.in_ok-sizes.ensures c.deref.ensures.value c.in_ok-keys.ensures.size c.in_ok-keys.ensures.each c.deref-2.ensures.value
    c.in_ok-rows.ensures c.deref-3.ensures.value c.in_ok-sorted.ensures in
    let parts =
    parts-are c.args.rank.now c.in_ok-sizes.sizes.items c.deref-4.result.now c.in_ok-keys.keys.items c.deref-5.result.now
    c.in_ok-sorted.sorted.items c.deref-6.result.now c.in_ok-parts.parts.items
    c.deref-4.ensures.value c.deref-5.ensures.value c.deref-6.ensures.value c.in_ok-parts.ensures.each in
    record {
      ranks = c.in_ok-parts.ensures.size;
      marks = omega (arith, c.in_ok-parts.ensures.size, c.in_ok-next.ensures.size, ap length c.deref-7.ensures.value);
      within = parts-within c.args.rank.now c.args.fresh.now c.args.uses.now c.args.users.now c.in_ok-sizes.sizes.items
          (held_rows c.in_ok-keys.keys.items) (lent_rows c.in_ok-sorted.sorted.items) round c.in_ok-parts.parts.items parts;
      counted = parts-counted c.args.rank.now c.args.fresh.now c.args.uses.now c.args.users.now c.in_ok-sizes.sizes.items
          (held_rows c.in_ok-keys.keys.items) (lent_rows c.in_ok-sorted.sorted.items) round c.in_ok-parts.parts.items parts;
    }

pub returns-clause-told : goal.returns-clause-told
returns-clause-told c g place stands =
    let count : ℕ = length c.args.rank.now in
    let old : Ranks = ranks_of c.args.rank.now c.args.fresh.now in
    let round =
    round-is c.args.rank.now c.args.fresh.now c.args.uses.now c.args.users.now c.in_ok-sizes.sizes.items c.deref.result.now
    c.in_ok-keys.keys.items c.deref-2.result.now c.in_ok-rows.rows.items c.deref-3.result.now c.in_ok-sorted.sorted.items
    c.requires.ranks c.in_ok-sizes.ensures c.deref.ensures.value c.in_ok-keys.ensures.size c.in_ok-keys.ensures.each c.deref-2.ensures.value
    c.in_ok-rows.ensures c.deref-3.ensures.value c.in_ok-sorted.ensures in
    let parts =
    parts-are c.args.rank.now c.in_ok-sizes.sizes.items c.deref-4.result.now c.in_ok-keys.keys.items c.deref-5.result.now
    c.in_ok-sorted.sorted.items c.deref-6.result.now c.in_ok-parts.parts.items
    c.deref-4.ensures.value c.deref-5.ensures.value c.deref-6.ensures.value c.in_ok-parts.ensures.each in
    let Q : List ℕ → Type 0 = λ ps. (n : ℕ) → n < count → rank_at ps n ≡ (tell g old).rank n in
    let rank : Q c.in_ok-parts.parts.items = parts-told c.args.rank.now c.args.fresh.now c.args.uses.now c.args.users.now
    c.in_ok-sizes.sizes.items (held_rows c.in_ok-keys.keys.items) (lent_rows c.in_ok-sorted.sorted.items) round
    c.in_ok-parts.parts.items parts g place stands in
    let whole : length c.deref-7.result.now ≡ count = ap length c.deref-7.ensures.value ∙ c.in_ok-parts.ensures.size in
    let nodes = stands.nodes ∙ ap (range_with_len 0) (sym whole) in
    record {
      rank = rank;
      fresh = fresh-told g count stands.nodes old c.in_ok-next.next.items c.deref-7.result.now (subst Q (sym c.deref-7.ensures.value) rank)
          (λ n low. c.in_ok-next.ensures.each g nodes n (omega (arith, low, whole)));
    }
