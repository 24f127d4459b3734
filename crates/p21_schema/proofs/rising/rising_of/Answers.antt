use Rattle.std.specs.Prelude.{List, ℕ, Contains, length, refl}
use Rattle.std.proofs.Common.{arith, ap, subst}
use Rattle.p21_express_graph.specs.Orders.{numbers}
use Rattle.p21_express_graph.proofs.Gatherings.{mapped-length}
use Rattle.p21_express_graph.proofs.ByRank.{looked-up, rank-within, ranked-rising, ranked-same}
use Rattle.p21_schema.proofs.rising.rising_of.Goals as goal

pub ranks_in-requires : goal.ranks_in-requires
ranks_in-requires c e among =
    let (s, is, within) = c.requires in
    let below = within e among in
    omega (arith, below, is.size, ap length c.deref.ensures.value)

pub entities_at-requires : goal.entities_at-requires
entities_at-requires c rank among =
    let (s, is, within) = c.requires in
    let ranked = looked-up _ _ _ _ _ c.deref.ensures.value refl c.in_ok-found.ensures in
    let P : List ℕ → Type 0 = λ ranks. Contains ranks rank in
    let below = rank-within s _ _ is _ _ _ within ranked c.rising_numbers-ranks.ensures rank (subst P c.deref-3.ensures.value among) in
    omega (arith, below, mapped-length (λ e. e.0) c.args.ranking.now.rising.items, ap length c.deref-2.ensures.value)

pub returns-clause-same : goal.returns-clause-same
returns-clause-same c =
    let (s, is, within) = c.requires in
    let ranked = looked-up _ _ _ _ _ c.deref.ensures.value refl c.in_ok-found.ensures in
    let entities = looked-up _ _ _ _ _ (ap numbers c.deref-2.ensures.value) c.deref-3.ensures.value c.in_ok-entities.ensures in
    ranked-same s _ _ is _ _ _ within ranked c.rising_numbers-ranks.ensures _ entities

pub returns-clause-rising : goal.returns-clause-rising
returns-clause-rising c s is =
    let (_, other, within) = c.requires in
    let ranked = looked-up _ _ _ _ _ c.deref.ensures.value refl c.in_ok-found.ensures in
    let entities = looked-up _ _ _ _ _ (ap numbers c.deref-2.ensures.value) c.deref-3.ensures.value c.in_ok-entities.ensures in
    ranked-rising s _ _ is _ _ _ (λ e among. let below = within e among in omega (arith, below, other.size, is.size)) ranked
    c.rising_numbers-ranks.ensures _ entities
