use Rattle.std.proofs.Common.{sym, ◌∙◌}
use Rattle.std.proofs.lemmas.Slice.Eq.{bytes_eq-Decides}
use Rattle.p21_difference_rows.proofs.left_out.are_equal.Goals as goal

pub returns : goal.returns
returns c = (
  λ told. (bytes_eq-Decides c.args.one.now c.args.other.now).0 (sym c.eq.ensures ∙ told),
  λ same. c.eq.ensures ∙ (bytes_eq-Decides c.args.one.now c.args.other.now).1 same,
)
