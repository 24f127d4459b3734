use Rattle.std.specs.Prelude.{ℕ, List, ◌∷◌, [], ◌++◌, map, nat_eq}
use Rattle.std.specs.Ordering.{nat_cmp}
use Rattle.std.proofs.Common.{◌∙◌, ap, arith, subst, sym}
use Rattle.std.proofs.lemmas.List.{take_all}
use Rattle.std.proofs.lemmas.List.Filters.{dedup_is}
use Rattle.p21_model_uses.proofs.Grouped.{map-more}
use Rattle.p21_model_uses.proofs.UseOrder.{each-once, number-order}
use Rattle.p21_model_uses.specs.Tables.{AreEachOnce, user_of}
use Rattle.p21_model_uses.proofs.references.users_of.Goals as goal

pub loop-at-preserved : goal.loop-at-preserved
loop-at-preserved c =
    c.in_ok-push.ensures.items ∙ ap (λ (ns : List ℕ). ns ++ user_of c.row_at.result ∷ []) c.loop-at.invariant
    ∙ map-more user_of c.args.rows.now c.loop-at.at (0, 0, 0, 0) c.row_at.result c.loop-at-test.true c.row_at.ensures

pub returns : goal.returns
returns c =
    let all = c.loop-at.invariant ∙ ap (map user_of) (take_all c.loop-at.at c.args.rows.now (omega (arith, c.loop-at-test.false))) in
    let sorted = each-once number-order c.loop-at.users.items c.sort_unstable.new.self.items c.dedup.new.self.items
    c.sort_unstable.ensures.permutation c.sort_unstable.ensures.sorted (dedup_is nat_eq _ _ c.dedup.ensures.filtered)
    (omega (arith, c.dedup.ensures.bound, c.dedup.new.self.ok.0, c.sort_unstable.new.self.ok.0)) in
    subst (λ (ns : List ℕ). AreEachOnce nat_cmp (map user_of c.args.rows.now) ns) (sym c.shrink_to_fit.ensures.items)
    (subst (λ (ns : List ℕ). AreEachOnce nat_cmp ns c.dedup.new.self.items) all sorted)
