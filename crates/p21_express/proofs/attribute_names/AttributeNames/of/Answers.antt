use Rattle.std.specs.Prelude.{◌≡◌, ℕ, List, Option, Some, slice_get}
use Rattle.std.proofs.Common.{arith, subst, sym}
use Rattle.p21_express.specs.AttributeNames.{IsKept}
use Rattle.p21_schema.proofs.Numbered.{each-more}
use Rattle.p21_express.proofs.attribute_names.AttributeNames.of.Goals as goal

pub loop-number-preserved : goal.loop-number-preserved
loop-number-preserved c =
    let s = c.args.hierarchy.now in
    let P : ℕ → Type 0 = λ e. IsKept s e c.in_ok-names.names in
    let Q : List (Option (List (List ℕ))) → Type 0 = λ of_each. (e : ℕ) (kept : Option (List (List ℕ))) → slice_get of_each e ≡ Some kept
    → IsKept s e kept in (
      omega (arith, c.in_ok-push.ensures.len, c.loop-number.invariant.0),
      subst Q (sym c.in_ok-push.ensures.items) (each-more (IsKept s) c.loop-number.of_each.items c.in_ok-names.names
          c.loop-number.invariant.1 (subst P (sym c.loop-number.invariant.0) c.in_ok-names.ensures)),
    )
