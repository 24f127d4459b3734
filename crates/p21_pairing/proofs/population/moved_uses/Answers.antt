use Rattle.std.specs.Prelude.{◌≡◌, [], ℕ, List}
use Rattle.std.proofs.Common.{arith, ap, ◌∙◌, sym}
use Rattle.p21_numbering.specs.NewNames.{new_name}
use Rattle.p21_numbering.proofs.Renamings.{all-taken, none-taken, one-taken}
use Rattle.p21_numbering.proofs.LabelRows.{nothing-left}
use Rattle.p21_spec_numbering.proofs.Lists.{map-mapped}
use Rattle.p21_spec_numbering.proofs.Uses.{moved_use}
use Rattle.p21_pairing.proofs.JointNodes.{held_use, moved_held}
use Rattle.p21_pairing.proofs.population.moved_uses.Goals as goal

pub loop-one-init : goal.loop-one-init
loop-one-init c = none-taken (moved_held (new_name c.args.names.now)) held_use c.reverse.new.self.items c.args.uses.items
    c.in_ok-moved.moved.items c.reverse.ensures.items c.in_ok-moved.ensures.items

pub loop-one-preserved : goal.loop-one-preserved
loop-one-preserved c =
    let same : held_use c.moved_one.result ≡ moved_held (new_name c.args.names.now) c.in-Some.one =
    ap (λ (p : List ℕ). (p, c.moved_one.result.target)) c.moved_one.ensures.place
    ∙ ap (λ (t : ℕ). (c.in-Some.one.place.items, t)) c.moved_one.ensures.target in
    one-taken (moved_held (new_name c.args.names.now)) held_use c.loop-one.left.items c.pop.new.self.items c.args.uses.items c.in-Some.one
    c.moved_one.result c.loop-one.moved.items c.push.new.self.items c.loop-one.invariant c.in-Some.ensures.items same
    c.in_ok-push.ensures.items

pub returns : goal.returns
returns c =
    let f : ℕ → ℕ = new_name c.args.names.now in
    let empty : c.loop-one.left.items ≡ [] = nothing-left c.loop-one.left.items
    (omega (arith, c.in_default.ensures.cases.0, c.loop-one.left.ok.0)) in
    all-taken (moved_held f) held_use c.loop-one.left.items c.args.uses.items c.loop-one.moved.items c.loop-one.invariant empty
    ∙ sym (map-mapped (moved_use f) held_use c.args.uses.items)
