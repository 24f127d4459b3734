use Rattle.std.proofs.Common.{◌∙◌, refl, sym}
use Rattle.std.specs.Prelude.{◌≢◌}
use Rattle.std.proofs.lemmas.Slice.Eq.{bytes_eq-Decides}
use Rattle.p21_differences.proofs.Naming.{lines-one_set, lines-other_set, lines-same}
use Rattle.p21_differences.proofs.changes.change_of.Goals as goal

pub returns-then-eq : goal.returns-then-eq
returns-then-eq c =
    lines-same c.args.schema.now c.well_formed-2.ensures c.args.name c.args.first.now c.args.second.now
    ((bytes_eq-Decides c.args.first.now c.args.second.now).0 (sym c.eq.ensures ∙ c.if-eq.true))

pub returns-then-have_one_set : goal.returns-then-have_one_set
returns-then-have_one_set c =
    let differ : c.args.first.now ≢ c.args.second.now = λ same.
    let yes = (bytes_eq-Decides c.args.first.now c.args.second.now).1 same in
    let answer = c.eq.ensures in
    let no = c.if-eq.false in
    cc in (
      refl,
      refl,
      refl,
      lines-one_set c.args.schema.now c.well_formed-2.ensures c.args.name c.args.first.now c.args.second.now differ
          (λ record_ other stated others. (c.have_one_set.ensures record_ other stated others).0 c.if-have_one_set.true),
    )

pub returns : goal.returns
returns c = (
  refl,
  refl,
  refl,
  lines-other_set c.args.schema.now c.args.name c.args.first.now c.args.second.now
      (λ record_ other stated others same.
      let yes = (c.have_one_set.ensures record_ other stated others).1 same in
      let no = c.if-have_one_set.false in
      cc),
)
