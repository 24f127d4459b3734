use Rattle.std.proofs.Common.{refl, arith}
use Rattle.p21_stream_store.proofs.InstanceLemmas.{all_size, kept, line_got}
use Rattle.p21_stream_store.proofs.named_lines.NamedLines.text.Goals as goal

pub text-requires : goal.text-requires
text-requires c = let size = all_size _ _ _ c.self.view_is c.self.invariant.texts in omega (arith, size, c.requires, c.self.invariant.texts)

pub returns : goal.returns
returns c = let there = line_got _ _ _ c.self.view_is c.self.invariant.texts c.args.place _ c.text.ensures.1 in
    (kept there.0 _, there.1, refl)
