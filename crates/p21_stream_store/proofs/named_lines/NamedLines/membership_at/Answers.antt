use Rattle.std.proofs.Common.{refl, arith}
use Rattle.p21_stream_store.proofs.InstanceLemmas.{all_size, kept, line_got}
use Rattle.p21_stream_store.proofs.named_lines.NamedLines.membership_at.Goals as goal

pub membership-requires : goal.membership-requires
membership-requires c = let size = all_size _ _ _ c.self.view_is c.self.invariant.texts in
    omega (arith, size, c.requires, c.self.invariant.texts)

pub returns : goal.returns
returns c = let there = line_got _ _ _ c.self.view_is c.self.invariant.texts c.args.place _ c.membership.ensures.1 in
    (kept there.0 _, there.1, refl)
