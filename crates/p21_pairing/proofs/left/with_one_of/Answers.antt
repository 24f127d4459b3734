use Rattle.std.specs.Prelude.{◌∷◌, [], ℕ, List, Option, Contains}
use Rattle.std.proofs.Common.{arith, ap, sym, subst, ◌∙◌}
use Rattle.std.proofs.lemmas.List.Elements.{Contains-append_right}
use Rattle.p21_spec_basics.proofs.Members.{Contains-first}
use Rattle.p21_pairing.specs.Pairs.{partner_at}
use Rattle.p21_pairing.proofs.Leaving.{one-tried}
use Rattle.p21_pairing.proofs.left.with_one_of.Goals as goal

pub with_pair-more-requires-clause-other : goal.with_pair-more-requires-clause-other
with_pair-more-requires-clause-other c =
    let other : ℕ = c.in-Some.other in
    let P : List ℕ → Type 0 = λ xs. Contains xs other in
    let among = subst P (sym c.in-Some.ensures.items) (Contains-append_right c.pop.new.self.items (other ∷ []) other
    (Contains-first other [])) in
    let low = c.requires.row other (c.loop-other.invariant.tried.fewer other among) in
    omega (arith, low, c.loop-other.invariant.tried.more.as_many_owners)

pub returns-then-is_done-clause-kept : goal.returns-then-is_done-clause-kept
returns-then-is_done-clause-kept c =
    (one-tried c.args.kinds.now c.args.one c.args.pairs.partners.items c.args.pairs.owners.items c.args.row.now.items
    c.loop-other.more.partners.items c.loop-other.more.owners.items c.with_pair-more.result.partners.items
    c.with_pair-more.result.owners.items c.loop-other.row.items c.pop.new.self.items c.in-Some.other
    c.loop-other.invariant.tried c.in-Some.ensures.items c.loop-other.invariant.free c.with_pair-more.ensures).kept

pub loop-other-preserved : goal.loop-other-preserved
loop-other-preserved c = record {
  tried = one-tried c.args.kinds.now c.args.one c.args.pairs.partners.items c.args.pairs.owners.items c.args.row.now.items
      c.loop-other.more.partners.items c.loop-other.more.owners.items c.with_pair-more.result.partners.items
      c.with_pair-more.result.owners.items c.loop-other.row.items c.pop.new.self.items c.in-Some.other
      c.loop-other.invariant.tried c.in-Some.ensures.items c.loop-other.invariant.free c.with_pair-more.ensures;
  free = ap (λ (qs : List (Option ℕ)). partner_at qs c.args.one) (sym c.deref-in-Some.ensures.value)
      ∙ c.is_taken-is_done.ensures.no c.if-is_done.false;
}
