use Rattle.std.proofs.Common.{drop, length}
use Rattle.std.proofs.lemmas.Bool.Decides.{Decides-eqb}
use Rattle.std.proofs.lemmas.Slice.Eq.{starts_is}
use Rattle.p21_difference_rows.proofs.left_out.begins_with.Goals as goal

pub returns : goal.returns
returns c begins = (
  drop (length c.args.front.now) c.args.text.now,
  (starts_is Decides-eqb c.args.text.now c.args.front.now c.starts_with.result c.starts_with.ensures.value).0 begins,
)
