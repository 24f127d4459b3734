use Rattle.std.proofs.Common.{refl, subst}
use Rattle.p21_spec_file.specs.Fits.{IsWithinWidth}
use Rattle.p21_express_graph.specs.Meaning.{width_option}
use Rattle.p21_shorter_instances.proofs.Scalars.{text-taken}
use Rattle.p21_shorter_instances.proofs.scalar.append_string.Goals as goal

pub returns-clause-some : goal.returns-clause-some
returns-clause-some c =
    let (value, size, h) = c.in_ok-count.ensures.some in
    text-taken c.args.bytes.now c.in_ok-count.count _ _ (width_option c.args.width) value
    (subst (IsWithinWidth (width_option c.args.width)) size (c.if-not-is_within.ensures.0 refl)) h
