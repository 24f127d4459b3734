use Rattle.std.proofs.Common.{◌≡◌, Bool, true, [], ◌∷◌, subst, pos, ◌+ℤ◌, ◌-ℤ◌, ◌-◌, to_z, arith, ◌∙◌}
use Rattle.std.proofs.lemmas.Int.{ints}
use mir.Syntax.{w32}
use Rattle.p21_shorter_tokens.proofs.PlacedReals.{placed-zeros, placed-before_point, placed-behind_point}
use Rattle.p21_shorter_tokens.specs.Appending.{AppendsAllOrNone}
use Rattle.p21_shorter_tokens.proofs.real.append_placed.Goals.{then-places, else-places}
use Rattle.p21_shorter_tokens.proofs.real.append_placed.Goals as goal

pub returns-then-places-eq0-clause-whole : goal.returns-then-places-eq0-clause-whole
returns-then-places-eq0-clause-whole c = λ is.
    let p = c.args.places.now in
    placed-zeros c.args.negative c.args.unsigned.now 0 p.point p.end p.first p.behind c.requires.places c.args.exponent c.args.draft.now c.append_zero.new.draft true c.if-places-eq0.true
    (subst (λ (r : Bool). AppendsAllOrNone r (48 ∷ 46 ∷ []) c.args.draft.now c.append_zero.new.draft) is c.append_zero.ensures)

pub returns-clause-whole : goal.returns-clause-whole
returns-clause-whole c = λ is.
    let p = c.args.places.now in
    let h = c.requires.places in
    let near = h.near in
    let order = h.ordered in
    let high = h.last_is.high in
    let low = (h.first_is (omega arith)).0 in
    elim c.if-places.branch [
      | then-places w ↦
          let k : to_z w32 c.if-places.power-bits ≡ c.args.exponent +ℤ pos (p.point - p.first - 1) = w.power-is ∙ omega (arith, ints, c.requires.small, near, order) in
          placed-before_point c.args.negative c.args.unsigned.now 0 p.point p.end p.first p.behind h c.args.exponent c.args.draft.now c.append_at_power.new.draft true (to_z w32 c.if-places.power-bits) (omega arith) (c.append_at_power.ensures.whole is) w.if-places.true k
      | else-places w ↦
          let k : to_z w32 c.if-places.power-bits ≡ c.args.exponent -ℤ pos (p.first - p.point) = w.power-is ∙ omega (arith, ints, c.requires.small, near, high, low) in
          placed-behind_point c.args.negative c.args.unsigned.now 0 p.point p.end p.first p.behind h c.args.exponent c.args.draft.now c.append_at_power.new.draft true (to_z w32 c.if-places.power-bits) (omega arith) (c.append_at_power.ensures.whole is) (omega (arith, w.if-places.false)) k
    ]
