use Rattle.std.proofs.Common.{[], false, length, arith, sym}
use Rattle.std.proofs.lemmas.Bool.{true≢false}
use Rattle.p21_tolerance.specs.Within.{tolerance_of}
use Rattle.p21_tolerance.proofs.NearLists.{all-compared, as-lists, ends-early, near-inside, not-near, one-compared, one-shorter}
use Rattle.p21_tolerance.proofs.near.+are_near.Goals as goal

pub returns-in-Some : goal.returns-in-Some
returns-in-Some t c p q first second =
    near-inside (tolerance_of c.args.tolerance) p q c.in-Some.one.text.now c.in-Some.other.text.now c.are_near.result
    (c.in-Some.ensures.some p q first second) c.are_near.ensures

pub returns-in_default-next-2 : goal.returns-in_default-next-2
returns-in_default-next-2 t c p q first second =
    let text = c.args.first.text.now in
    let other_text = c.args.second.text.now in
    let p_list = (c.is_list.ensures p first).0 c.if-not-is_list.false in
    let q_list = (c.is_list-else-not-is_list.ensures q second).0 c.if-not-is_list-2.false in
    as-lists (tolerance_of c.args.tolerance) p q text other_text false p_list q_list first second
    (λ ps qs one two.
    let s = c.loop-one.invariant ps qs one two in (
      λ so. absurd (true≢false (sym so)),
      λ near. absurd (ends-early (tolerance_of c.args.tolerance) ps qs c.loop-one.ones.rest.now
          c.loop-one.others.rest.now c.next.new.self.rest.now c.next-in-Some-next.new.self.rest.now (length text) c.in-Some-next.one s
          (c.in-Some-next.ensures.handed s.first [] s.first_left) (c.in_default-next-2.ensures.handed s.second [] s.second_left) near),
    ))

pub returns-then-one-first : goal.returns-then-one-first
returns-then-one-first t c p q first second =
    let text = c.args.first.text.now in
    let other_text = c.args.second.text.now in
    let p_list = (c.is_list.ensures p first).0 c.if-not-is_list.false in
    let q_list = (c.is_list-else-not-is_list.ensures q second).0 c.if-not-is_list-2.false in
    as-lists (tolerance_of c.args.tolerance) p q text other_text false p_list q_list first second
    (λ ps qs one two.
    let s = c.loop-one.invariant ps qs one two in
    let short = one-shorter (tolerance_of c.args.tolerance) ps qs c.loop-one.ones.rest.now c.loop-one.others.rest.now
    c.next.new.self.rest.now (length text) c.in-Some-next.one s (c.in-Some-next.ensures.handed s.first [] s.first_left) in
    absurd (omega (arith, short, c.if-one-first.true)))

pub returns-then-not-are_near : goal.returns-then-not-are_near
returns-then-not-are_near t c p q first second =
    let text = c.args.first.text.now in
    let other_text = c.args.second.text.now in
    let p_list = (c.is_list.ensures p first).0 c.if-not-is_list.false in
    let q_list = (c.is_list-else-not-is_list.ensures q second).0 c.if-not-is_list-2.false in
    as-lists (tolerance_of c.args.tolerance) p q text other_text false p_list q_list first second
    (λ ps qs one two.
    let s = c.loop-one.invariant ps qs one two in (
      λ so. absurd (true≢false (sym so)),
      λ near. absurd (not-near (tolerance_of c.args.tolerance) ps qs c.loop-one.ones.rest.now
          c.loop-one.others.rest.now c.next.new.self.rest.now c.next-in-Some-next.new.self.rest.now (length text) c.in-Some-next.one
          c.in-Some-next-2.other c.are_near-in-Some-next.result s (c.in-Some-next.ensures.handed s.first [] s.first_left)
          (c.in-Some-next-2.ensures.handed s.second [] s.second_left) c.are_near-in-Some-next.ensures c.if-not-are_near.true near),
    ))

pub loop-one-preserved : goal.loop-one-preserved
loop-one-preserved t c ps qs one two =
    let s = c.loop-one.invariant ps qs one two in
    one-compared (tolerance_of c.args.tolerance) ps qs c.loop-one.ones.rest.now c.loop-one.others.rest.now c.next.new.self.rest.now
    c.next-in-Some-next.new.self.rest.now (length c.args.first.text.now) c.in-Some-next.one c.in-Some-next-2.other
    c.are_near-in-Some-next.result s (c.in-Some-next.ensures.handed s.first [] s.first_left)
    (c.in-Some-next-2.ensures.handed s.second [] s.second_left) c.are_near-in-Some-next.ensures c.if-not-are_near.false
    c.in-Some-next.ensures.shorter

pub returns : goal.returns
returns t c p q first second =
    let text = c.args.first.text.now in
    let other_text = c.args.second.text.now in
    let p_list = (c.is_list.ensures p first).0 c.if-not-is_list.false in
    let q_list = (c.is_list-else-not-is_list.ensures q second).0 c.if-not-is_list-2.false in
    as-lists (tolerance_of c.args.tolerance) p q text other_text c.is_none.result p_list q_list first second
    (λ ps qs one two.
    let s = c.loop-one.invariant ps qs one two in
    all-compared (tolerance_of c.args.tolerance) ps qs c.loop-one.ones.rest.now c.loop-one.others.rest.now c.next.new.self.rest.now
    c.next-2.new.self.rest.now (length text) c.next-2.result c.is_none.result s (c.in_default-next.ensures.handed s.first [] s.first_left)
    (c.next-2.ensures.handed s.second [] s.second_left) c.is_none.ensures)
