use Rattle.std.specs.Prelude.{◌↔◌, ◌∷◌, [], ℕ, Bool, IsTrue, length}
use Rattle.std.proofs.Common.{arith, ap, sym, subst, ◌∙◌}
use Rattle.std.proofs.lemmas.List.{length-append}
use Rattle.p21_spec_schema.specs.OneOf.{Clashes}
use Rattle.p21_spec_schema.specs.Order.{order}
use Rattle.p21_schema.specs.OwnSets.{EachClashes}
use Rattle.p21_schema.proofs.hierarchy.Hierarchy.all_own_clashes.Goals as goal
use Rattle.p21_schema.proofs.HeldLists.{none-next}
use Rattle.p21_schema.proofs.Numbered.{each-more}

pub loop-number-preserved : goal.loop-number-preserved
loop-number-preserved c =
    let s = c.args.self.now in
    let so_far = c.loop-number.invariant in
    let clashes = c.loop-number.clashes.items in
    let clash = c.find_own_clash.result in
    let Is : ℕ → Bool → Type 0 = λ e b. IsTrue b ↔ Clashes s (order s e) in
    let P : ℕ → Type 0 = λ n. Is n clash in
    let next : P (length clashes) = subst P (sym so_far.0) c.find_own_clash.ensures.clash in
    let long = ap length c.in_ok-push.ensures.items in
    let one_more = length-append clashes (clash ∷ []) in
    let size = so_far.0 in (
      omega (arith, long, one_more, size),
      subst (EachClashes s) (sym c.in_ok-push.ensures.items) (each-more Is clashes clash so_far.1 next),
      c.find_own_clash.ensures.noted.size ∙ so_far.2,
      none-next c.loop-number.number c.loop-number.holders.of_lists.items c.find_own_clash.new.holders.of_lists.items
          c.find_own_clash.ensures.noted so_far.3,
    )
