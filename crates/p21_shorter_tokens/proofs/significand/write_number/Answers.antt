use Rattle.std.proofs.Common.{◌≡◌, ◌<◌, ◌-◌, ◌++◌, refl, true, List, ℕ, ℤ, pos, ◌-ℤ◌, take, ap, ◌∙◌, append_assoc, arith}
use Rattle.std.proofs.lemmas.Int.{ints}
use Rattle.p21_spec_exchange.specs.Spelling.{exponent_spelling}
use Rattle.p21_shorter_tokens.proofs.PlacedReals.{placed-zeros, placed-before_point, placed-behind_point}
use Rattle.p21_shorter_tokens.specs.Significands.{significand}
use Rattle.p21_shorter_tokens.proofs.significand.write_number.Goals as goal

pub returns-then-places-eq0-clause-text : goal.returns-then-places-eq0-clause-text
returns-then-places-eq0-clause-text c =
    let p = c.args.places.now in
    placed-zeros c.args.negative c.args.bytes.now 0 p.point p.end p.first p.behind c.requires.places (pos 0) (take c.args.used
    c.args.room.now) _ true c.if-places-eq0.true c.write_front.ensures.text

pub returns-then-places-clause-text : goal.returns-then-places-clause-text
returns-then-places-clause-text c =
    let p = c.args.places.now in
    let h = c.requires.places in
    let near = h.near in
    let order = h.ordered in
    let old = take c.args.used c.args.room.now in
    let digits = significand c.args.negative c.args.bytes.now 0 p.point p.first p.behind in
    let k : ℤ = pos (p.point - p.first - 1) in
    let text : take c.write_raised.result c.write_raised.new.room ≡ old ++ (digits ++ exponent_spelling k) =
    c.write_raised.ensures.text ∙ ap (λ (l : List ℕ). l ++ exponent_spelling k) c.write_significand-end.ensures.text
    ∙ append_assoc old digits (exponent_spelling k) in
    placed-before_point c.args.negative c.args.bytes.now 0 p.point p.end p.first p.behind h (pos 0) old _ true k (omega (
      arith,
      c.if-places-eq0.false,
    )) ((omega (arith, ints, near, order), omega (arith, ints, near, order)), text) c.if-places.true (omega
    (arith, ints))

pub returns-clause-text : goal.returns-clause-text
returns-clause-text c =
    let p = c.args.places.now in
    let h = c.requires.places in
    let some : 0 < p.behind = omega (arith, c.if-places-eq0.false) in
    let near = h.near in
    let high = h.last_is.high in
    let low = (h.first_is some).0 in
    let old = take c.args.used c.args.room.now in
    let digits = significand c.args.negative c.args.bytes.now 0 p.point p.first p.behind in
    let k : ℤ = pos 0 -ℤ pos (p.first - p.point) in
    let text : take c.write_lowered.result c.write_lowered.new.room ≡ old ++ (digits ++ exponent_spelling k) =
    c.write_lowered.ensures.text ∙ ap (λ (l : List ℕ). l ++ exponent_spelling k) c.write_significand-end.ensures.text
    ∙ append_assoc old digits (exponent_spelling k) in
    placed-behind_point c.args.negative c.args.bytes.now 0 p.point p.end p.first p.behind h (pos 0) old _ true k some (
      (
        omega (
          arith,
          ints,
          near,
          high,
          low,
        ),
        omega (arith, ints, near, high, low),
      ),
      text,
    ) c.if-places.false refl
