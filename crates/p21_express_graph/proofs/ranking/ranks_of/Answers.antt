use Rattle.std.specs.Prelude.{◌≡◌, ℕ, List, Some, slice_get, Contains}
use Rattle.std.proofs.Common.{arith, ap, sym, ◌∙◌, subst, get_or}
use Rattle.std.proofs.lemmas.List.{get_or-map, take_all}
use Rattle.std.proofs.lemmas.Option.{slice_get-get_or}
use Rattle.p21_express_graph.specs.Orders.{numbers}
use Rattle.p21_express_graph.proofs.Gatherings.{mapped-length, numbered-at}
use Rattle.p21_express_graph.proofs.ByRank.{none-ranked, ranked-more}
use Rattle.p21_express_graph.proofs.ranking.ranks_of.Goals as goal

pub loop-rank-init : goal.loop-rank-init
loop-rank-init c = none-ranked (numbers c.args.rising.now) c.in_ok-ranks.ranks.items c.args.count (omega (arith, c.in_ok-ranks.ensures.len, c.in_ok-ranks.ranks.ok.0))

pub index_mut-requires : goal.index_mut-requires
index_mut-requires c =
    let below = c.requires.within _ (numbered-at (λ e. e.0) c.args.rising.now c.loop-rank.rank record { 0 = 0 } c.loop-rank-test.true) in
    omega (arith, below, c.loop-rank.invariant.size, c.loop-rank.ranks.ok.0)

pub loop-rank-preserved : goal.loop-rank-preserved
loop-rank-preserved c =
    let k : ℕ = c.loop-rank.rank in
    let rising : List ℕ = numbers c.args.rising.now in
    let x : ℕ = (get_or c.args.rising.now k record { 0 = 0 }).0 in
    let at : slice_get rising k ≡ Some x = slice_get-get_or rising k 0 (omega (arith, c.loop-rank-test.true, mapped-length (λ e. e.0) c.args.rising.now)) ∙ ap Some (get_or-map (λ e. e.0) c.args.rising.now k record { 0 = 0 } 0 c.loop-rank-test.true) in
    ranked-more rising c.loop-rank.ranks.items c.args.count k x at (c.requires.within x (numbered-at (λ e. e.0) c.args.rising.now k record { 0 = 0 } c.loop-rank-test.true)) c.loop-rank.invariant

pub returns-clause-size : goal.returns-clause-size
returns-clause-size c = c.loop-rank.invariant.size

pub returns-clause-each : goal.returns-clause-each
returns-clause-each c e among =
    let rising : List ℕ = numbers c.args.rising.now in
    let P : List ℕ → Type 0 = λ es. Contains es e in
    c.loop-rank.invariant.each e (subst P (sym (take_all c.loop-rank.rank rising (omega (arith, c.loop-rank-test.false, mapped-length (λ x. x.0) c.args.rising.now)))) among)
