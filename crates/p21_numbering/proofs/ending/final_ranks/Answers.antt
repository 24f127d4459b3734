use Rattle.std.specs.Prelude.{◌≡◌, ◌<◌, ℕ, List, Bool, false, true, length, not}
use Rattle.std.proofs.Common.{arith, rules, ap, sym, subst, ◌∙◌}
use Rattle.std.proofs.lemmas.List.FromFn.{length-range_with_len}
use Rattle.p21_spec_numbering.specs.Graph.{Graph, rank_by}
use Rattle.p21_spec_numbering.specs.Fresh.{Ranks, told, is_told, tell}
use Rattle.p21_numbering.specs.Arrays.{AgreeBelow, AreRanks, Represents, rank_at, ranks_of}
use Rattle.p21_numbering.proofs.Telling.{done-is, rounds-end, rounds-more}
use Rattle.p21_numbering.proofs.ending.final_ranks.Goals as goal

pub returns-then-not-is_any_fresh-clause-ended : goal.returns-then-not-is_any_fresh-clause-ended
returns-then-not-is_any_fresh-clause-ended c g place stands labels n low =
    let whole : c.len-count.result ≡ length c.args.labelled.items = omega (arith, c.len-count.ensures, c.args.labelled.ok.0) in
    let count : ℕ = length c.args.labelled.items in
    let now : Ranks = ranks_of c.loop-round.ranks.rank.items c.loop-round.ranks.fresh.items in
    let P : ℕ → Type 0 = λ k. (g : Graph) (place : ℕ → List ℕ) → Represents g place k c.args.uses.now c.args.users.now
    → ((n : ℕ) → n < k → rank_at c.args.labelled.items n ≡ rank_by g.label g.nodes n) → AgreeBelow k now (told g c.loop-round.round) in
    let same : AgreeBelow count now (told g c.loop-round.round) = subst P whole c.loop-round.invariant.1 g place stands labels in
    let size : length c.loop-round.ranks.fresh.items ≡ count = omega (arith, c.loop-round.invariant.0.marks, whole) in
    let Q : List Bool → Type 0 = λ ws. is_told g (ranks_of c.loop-round.ranks.rank.items ws) ≡ not c.is_any_fresh.result in
    let done_ = subst Q c.deref.ensures.value (done-is g count stands.nodes c.loop-round.ranks.rank.items c.deref.result.now
    c.is_any_fresh.result (ap length c.deref.ensures.value ∙ size) c.is_any_fresh.ensures) in
    let done : is_told g now ≡ true = search (rules, done_) in
    let ended = rounds-end g count stands.nodes c.loop-round.round now same (omega (arith, whole, c.loop-round-test.true)) done in
    let R : ℕ → Type 0 = λ k. rank_at c.loop-round.ranks.rank.items n ≡ (told g (k)).rank n in
    let nodes : length g.nodes ≡ count = ap length stands.nodes ∙ length-range_with_len 0 count in
    subst R (sym nodes) (ended.rank n low)

pub returns-clause-ended : goal.returns-clause-ended
returns-clause-ended c g place stands labels n low =
    let whole : c.len-count.result ≡ length c.args.labelled.items = omega (arith, c.len-count.ensures, c.args.labelled.ok.0) in
    let count : ℕ = length c.args.labelled.items in
    let now : Ranks = ranks_of c.loop-round.ranks.rank.items c.loop-round.ranks.fresh.items in
    let P : ℕ → Type 0 = λ k. (g : Graph) (place : ℕ → List ℕ) → Represents g place k c.args.uses.now c.args.users.now
    → ((n : ℕ) → n < k → rank_at c.args.labelled.items n ≡ rank_by g.label g.nodes n) → AgreeBelow k now (told g c.loop-round.round) in
    let same : AgreeBelow count now (told g c.loop-round.round) = subst P whole c.loop-round.invariant.1 g place stands labels in
    let nodes : length g.nodes ≡ count = ap length stands.nodes ∙ length-range_with_len 0 count in
    let steps : c.loop-round.round ≡ length g.nodes = omega (arith, nodes, whole, c.loop-round-test.false, c.loop-round.auto.round-end) in
    let R : ℕ → Type 0 = λ k. rank_at c.loop-round.ranks.rank.items n ≡ (told g k).rank n in
    subst R steps (same.rank n low)

pub loop-round-preserved : goal.loop-round-preserved
loop-round-preserved c =
    let count : ℕ = c.len-count.result in
    let now : Ranks = ranks_of c.loop-round.ranks.rank.items c.loop-round.ranks.fresh.items in
    let next : Ranks = ranks_of c.in_ok-ranks.ranks.rank.items c.in_ok-ranks.ranks.fresh.items in
    let size : length c.deref-in-loop-round.result.now ≡ count = ap length c.deref-in-loop-round.ensures.value
    ∙ c.loop-round.invariant.0.ranks in
    let K : ℕ → Type 0 = λ k. AreRanks k c.in_ok-ranks.ranks.rank.items c.in_ok-ranks.ranks.fresh.items in (
      subst K size c.in_ok-ranks.ensures.ranks,
      λ g place stands labels.
          let S : ℕ → Type 0 = λ k. Represents g place k c.args.uses.now c.args.users.now in
          let stepped = c.in_ok-ranks.ensures.told g place (subst S (sym size) stands) in
          let A : ℕ → Type 0 = λ k. AgreeBelow k next (tell g
          (ranks_of c.deref-in-loop-round.result.now c.deref-in-loop-round-2.result.now)) in
          let B : List ℕ → Type 0 = λ cs. AgreeBelow count next (tell g (ranks_of cs c.deref-in-loop-round-2.result.now)) in
          let C : List Bool → Type 0 = λ ws. AgreeBelow count next (tell g (ranks_of c.loop-round.ranks.rank.items ws)) in
          let after : AgreeBelow count next (tell g now) = subst C c.deref-in-loop-round-2.ensures.value
          (subst B c.deref-in-loop-round.ensures.value (subst A size stepped)) in
          let Q : List Bool → Type 0 = λ ws. is_told g (ranks_of c.loop-round.ranks.rank.items ws) ≡ not c.is_any_fresh.result in
          let done_ = subst Q c.deref.ensures.value (done-is g count stands.nodes c.loop-round.ranks.rank.items c.deref.result.now
          c.is_any_fresh.result (ap length c.deref.ensures.value ∙ c.loop-round.invariant.0.marks) c.is_any_fresh.ensures) in
          let waiting : is_told g now ≡ false = search (rules, done_) in
          rounds-more g count stands.nodes c.loop-round.round now next (c.loop-round.invariant.1 g place stands labels) waiting after,
    )

pub returns-then-not-is_any_fresh-clause-within : goal.returns-then-not-is_any_fresh-clause-within
returns-then-not-is_any_fresh-clause-within c n low =
    let whole : c.len-count.result ≡ length c.args.labelled.items = omega (arith, c.len-count.ensures, c.args.labelled.ok.0) in
    let K : ℕ → Type 0 = λ k. AreRanks k c.loop-round.ranks.rank.items c.loop-round.ranks.fresh.items in
    (subst K whole c.loop-round.invariant.0).within n low

pub returns-clause-within : goal.returns-clause-within
returns-clause-within c n low =
    let whole : c.len-count.result ≡ length c.args.labelled.items = omega (arith, c.len-count.ensures, c.args.labelled.ok.0) in
    let K : ℕ → Type 0 = λ k. AreRanks k c.loop-round.ranks.rank.items c.loop-round.ranks.fresh.items in
    (subst K whole c.loop-round.invariant.0).within n low
