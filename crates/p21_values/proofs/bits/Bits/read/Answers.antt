use Rattle.std.proofs.Common.{refl, subst, sym}
use Rattle.p21_spec_exchange.specs.Binary.{SpellsBits}
use Rattle.p21_values.proofs.BitsLemmas.{bits_of-spelled}
use Rattle.p21_values.proofs.bits.Bits.read.Goals as goal

pub returns-then-not-is_binary : goal.returns-then-not-is_binary
returns-then-not-is_binary c = (
  refl,
  λ value s. let yes = c.if-not-is_binary.ensures.1 (subst (SpellsBits c.args.bytes.now) (sym (bits_of-spelled _ _ s)) s) in cc,
)
