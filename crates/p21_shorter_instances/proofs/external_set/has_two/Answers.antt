use Rattle.std.proofs.Common.{◌≡◌, ◌∙◌, ℕ, true, nat_eq, get_or, ap, arith, sym, true≢false}
use Rattle.std.specs.Prelude.{not}
use Rattle.std.proofs.lemmas.Bool.{eq-eqb}
use Rattle.p21_express_graph.proofs.Gatherings.{numbered-at}
use Rattle.p21_shorter_instances.proofs.external_set.has_two.Goals as goal

pub returns : goal.returns
returns c = λ yes.
    let first : ℕ = (get_or c.args.entities.now 0 record { 0 = 0 }).0 in
    let second : ℕ = (get_or c.args.entities.now 1 record { 0 = 0 }).0 in (
      first,
      second,
      λ same. (let is : nat_eq first second ≡ true = eq-eqb first second same in true≢false (sym yes ∙ ap not is)),
      numbered-at (λ e. e.0) c.args.entities.now 0 record { 0 = 0 } (omega (arith, c.if-entities-lt2.false)),
      numbered-at (λ e. e.0) c.args.entities.now 1 record { 0 = 0 } (omega (arith, c.if-entities-lt2.false)),
    )
