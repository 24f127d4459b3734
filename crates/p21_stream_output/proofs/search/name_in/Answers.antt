use Rattle.std.proofs.Common.{◌<◌, ℕ, length}
use Rattle.p21_spec_basics.proofs.Members.{Each-at}
use Rattle.p21_stream_output.proofs.Searching.{name-there}
use Rattle.p21_stream_output.proofs.search.name_in.Goals as goal

pub text-requires : goal.text-requires
text-requires c = Each-at (λ (p : ℕ). p < length c.args.instances.now) c.args.instance_positions.now c.args.number c.get-place.result
    c.requires.placed c.get-place.ensures

pub returns : goal.returns
returns c =
    let (x, at, is) = c.text.ensures in (
      c.get-place.result,
      c.get-place.ensures,
      name-there c.args.instances.now c.get-place.result c.leading_name.result c.text.result.now x c.requires.named c.requires.small at is
          c.leading_name.ensures,
    )
