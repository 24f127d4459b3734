use Rattle.std.specs.Prelude.{◌≡◌, ℕ, List, length}
use Rattle.std.proofs.Common.{arith, rules, sym, subst}
use Rattle.p21_pairing.specs.declared.alone.Holder.{Holder}
use Rattle.p21_pairing.specs.declared.alone.Holder.TheVariants.{Nobody}
use Rattle.p21_pairing.specs.Holders.{AreHolders, holder_at}
use Rattle.p21_pairing.proofs.Holding.{nothing-held}
use Rattle.p21_pairing.proofs.MorePairs.{default-more}
use Rattle.p21_pairing.proofs.alone.holders.Goals as goal

pub loop-key-preserved : goal.loop-key-preserved
loop-key-preserved c =
    let P : List Holder → Type 0 = λ hs. (n : ℕ) → holder_at hs n ≡ Nobody in
    record {
      size = search rules;
      nobody = subst P (sym c.in_ok-push.ensures.items)
          (default-more Nobody c.loop-key.holders.items c.loop-key.invariant.nobody);
    }

pub loop-k-init : goal.loop-k-init
loop-k-init c = record {
  size = search rules;
  each = nothing-held c.args.keys.now c.args.start c.args.partners.now c.loop-key.holders.items
      (λ key low. c.loop-key.invariant.nobody key);
}

pub returns-clause-each : goal.returns-clause-each
returns-clause-each c =
    let P : ℕ → Type 0 = λ k. AreHolders c.args.keys.now c.args.start c.args.partners.now k c.loop-k.holders.items in
    let all : c.loop-k.k ≡ length c.args.partners.now = omega (arith, c.loop-k-test.false, c.loop-k.auto.k-end) in
    subst P all c.loop-k.invariant.each
