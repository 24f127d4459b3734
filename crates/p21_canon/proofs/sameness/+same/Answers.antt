use Rattle.std.proofs.Common.{◌≡◌, ◌↔◌, ◌<◌, ◌≤◌, length, IsTrue, ◌∙◌, ap, arith, rules}
use Rattle.p21_canon.proofs.Shapes.{same_by, then_both}
use Rattle.p21_canon.proofs.SameRows.{among_found, among_none, among_step, counted_all, counted_here, counted_not_here, count-views, each_done, each_missed, each_step, order_differs, order_done, order_step, views-drop, views-drop_all, SameInOrder-count}
use Rattle.p21_canon.proofs.Pairing.{as_often_paired, is_as_often, other_times, paired_count}
use Rattle.p21_mapping_values.specs.View.{view}
use Rattle.p21_mapping_values.proofs.Views.{view-Whole, view-Real, view-Number, view-Text, view-Bits, view-Item, view-Reference, view-Derived, view-Missing, view-List, view-Array, view-Set, view-Bag, view-Tagged}
use Rattle.p21_canon.proofs.sameness.+same.Goals as goal
use Rattle.p21_canon.proofs.sameness.+same.Goals.{occurrences-then-same, occurrences-else-same}

pub same-returns-in-Whole-Whole : goal.same-returns-in-Whole-Whole
same-returns-in-Whole-Whole t c = same_by _ _ _ _ _ (ap view c.in-Whole-Whole.is-0 ∙ view-Whole _)
    (ap view c.in-Whole-Whole.is-1 ∙ view-Whole _) c.eq.ensures.same

pub same-returns-in-Real-Real : goal.same-returns-in-Real-Real
same-returns-in-Real-Real t c = same_by _ _ _ _ _ (ap view c.in-Real-Real.is-0 ∙ view-Real _) (ap view c.in-Real-Real.is-1 ∙ view-Real _)
    c.eq-in-Real-Real.ensures.same

pub same-returns-in-Number-Number : goal.same-returns-in-Number-Number
same-returns-in-Number-Number t c = same_by _ _ _ _ _ (ap view c.in-Number-Number.is-0 ∙ view-Number _)
    (ap view c.in-Number-Number.is-1 ∙ view-Number _) c.eq-in-Number-Number.ensures.same

pub same-returns-in-Text-Text : goal.same-returns-in-Text-Text
same-returns-in-Text-Text t c = same_by _ _ _ _ _ (ap view c.in-Text-Text.is-0 ∙ view-Text _) (ap view c.in-Text-Text.is-1 ∙ view-Text _)
    c.eq-in-Text-Text.ensures.same

pub same-returns-in-Bits-Bits : goal.same-returns-in-Bits-Bits
same-returns-in-Bits-Bits t c = same_by _ _ _ _ _ (ap view c.in-Bits-Bits.is-0 ∙ view-Bits _) (ap view c.in-Bits-Bits.is-1 ∙ view-Bits _)
    c.eq-in-Bits-Bits.ensures.same

pub same-returns-in-Item-Item : goal.same-returns-in-Item-Item
same-returns-in-Item-Item t c = same_by _ _ _ _ _ (ap view c.in-Item-Item.is-0 ∙ view-Item _) (ap view c.in-Item-Item.is-1 ∙ view-Item _)
    c.eq-in-Item-Item.ensures.same

pub same-returns-in-Reference-Reference : goal.same-returns-in-Reference-Reference
same-returns-in-Reference-Reference t c =
    let equal : IsTrue c.eq-in-Reference-Reference.result ↔ (c.in-Reference-Reference.a ≡ c.in-Reference-Reference.b) = search rules in
    same_by _ _ _ _ _ (ap view c.in-Reference-Reference.is-0 ∙ view-Reference _) (ap view c.in-Reference-Reference.is-1 ∙ view-Reference _)
    equal

pub same-returns-in-Derived-Derived : goal.same-returns-in-Derived-Derived
same-returns-in-Derived-Derived t c = same_by _ _ _ _ _ (ap view c.in-Derived-Derived.is-0 ∙ view-Derived)
    (ap view c.in-Derived-Derived.is-1 ∙ view-Derived) (λ h. tt, λ h. search rules)

pub same-returns-in-Missing-Missing : goal.same-returns-in-Missing-Missing
same-returns-in-Missing-Missing t c = same_by _ _ _ _ _ (ap view c.in-Missing-Missing.is-0 ∙ view-Missing)
    (ap view c.in-Missing-Missing.is-1 ∙ view-Missing) (λ h. tt, λ h. search rules)

pub same-returns-in-List-List : goal.same-returns-in-List-List
same-returns-in-List-List t c = same_by _ _ _ _ _ (ap view c.in-List-List.is-0 ∙ view-List _) (ap view c.in-List-List.is-1 ∙ view-List _)
    (rw (c.items.ensures, c.items-in-List-List.ensures) at c.same_in_order.ensures)

pub same-returns-in-Array-Array : goal.same-returns-in-Array-Array
same-returns-in-Array-Array t c = same_by _ _ _ _ _ (ap view c.in-Array-Array.is-0 ∙ view-Array _)
    (ap view c.in-Array-Array.is-1 ∙ view-Array _) (rw (c.items-in-Array-Array.ensures, c.items-in-Array-Array-2.ensures) at
    c.same_in_order-in-Array-Array.ensures)

pub same-returns-in-Bag-Bag : goal.same-returns-in-Bag-Bag
same-returns-in-Bag-Bag t c = same_by _ _ _ _ _ (ap view c.in-Bag-Bag.is-0 ∙ view-Bag _) (ap view c.in-Bag-Bag.is-1 ∙ view-Bag _)
    (rw (c.items-in-Bag-Bag.ensures, c.items-in-Bag-Bag-2.ensures) at c.same_paired.ensures)

pub each_among-returns-then-not-is_among : goal.each_among-returns-then-not-is_among
each_among-returns-then-not-is_among t c = (
  λ h. absurd cc,
  λ h. absurd
      (each_missed (view c.value-item.result) _ _ _ _ (views-drop _ _ _ c.value-item.is c.loop-value-test.true) c.loop-value.invariant
      (λ among. let yes = c.is_among.ensures.1 among in search rules) h),
)

pub each_among-loop-value-preserved : goal.each_among-loop-value-preserved
each_among-loop-value-preserved t c = each_step (view c.value-item.result) _ _ _ _ (views-drop _ _ _ c.value-item.is c.loop-value-test.true)
    c.loop-value.invariant (c.is_among.ensures.0 (search rules))

pub each_among-returns : goal.each_among-returns
each_among-returns t c = (λ h. each_done _ _ _ (views-drop_all _ _ c.loop-value-test.false) c.loop-value.invariant, λ h. search rules)

pub is_among-returns-then-same : goal.is_among-returns-then-same
is_among-returns-then-same t c = (
  λ h. among_found _ (view c.other-item.result) _ _ _
      (views-drop _ _ _ c.other-item.is c.loop-other-test.true) c.loop-other.invariant (c.same.ensures.0 (search rules)),
  λ h. search rules,
)

pub is_among-loop-other-preserved : goal.is_among-loop-other-preserved
is_among-loop-other-preserved t c = among_step _ (view c.other-item.result) _ _ _ (views-drop _ _ _ c.other-item.is c.loop-other-test.true)
    c.loop-other.invariant (λ same. let yes = c.same.ensures.1 same in search rules)

pub is_among-returns : goal.is_among-returns
is_among-returns t c = (
  λ h. absurd cc,
  λ h. absurd
      (among_none _ _ _ (views-drop_all _ _ c.loop-other-test.false) c.loop-other.invariant h),
)

pub occurrences-loop-other-preserved : goal.occurrences-loop-other-preserved
occurrences-loop-other-preserved t c =
    let next = views-drop _ _ _ c.other-item.is c.loop-other-test.true in
    elim c.if-same.branch [
      | occurrences-then-same w ↦ (
        omega arith,
        rw w.count-is
            (counted_here _ (view c.other-item.result) _ _ _ _ next c.loop-other.invariant.1 (c.same.ensures.0 (search rules))),
      )
      | occurrences-else-same w ↦ (
        omega arith,
        rw w.count-is
            (counted_not_here _ (view c.other-item.result) _ _ _ _ next c.loop-other.invariant.1
            (λ same. let yes = c.same.ensures.1 same in search rules)),
      )
    ]

pub occurrences-returns : goal.occurrences-returns
occurrences-returns t c = counted_all _ _ _ _ (views-drop_all _ _ c.loop-other-test.false) c.loop-other.invariant.1

pub same-returns-then-each_among : goal.same-returns-then-each_among
same-returns-then-each_among t c = same_by _ _ _ _ _ (ap view c.in-Set-Set.is-0 ∙ view-Set _) (ap view c.in-Set-Set.is-1 ∙ view-Set _)
    (then_both _ _ _ (rw (c.items-in-Set-Set.ensures, c.items-in-Set-Set-2.ensures) at (c.each_among.ensures.0 (search rules)))
    (rw (c.items-then-each_among.ensures, c.items-then-each_among-2.ensures) at c.each_among-then-each_among.ensures))

pub same-returns-then-eq : goal.same-returns-then-eq
same-returns-then-eq t c = same_by _ _ _ _ _ (ap view c.in-Tagged-Tagged.is-0 ∙ view-Tagged _ _)
    (ap view c.in-Tagged-Tagged.is-1 ∙ view-Tagged _ _)
    (then_both _ _ _ (search rules) (rw (c.deref.ensures, c.deref-then-eq.ensures) at c.same.ensures))

pub same_in_order-returns-then-a-b : goal.same_in_order-returns-then-a-b
same_in_order-returns-then-a-b t c = (
  λ h. absurd cc,
  λ h. absurd
      (c.if-a-b.true (omega (arith, SameInOrder-count _ _ h, count-views c.args.a.now, count-views c.args.b.now))),
)

pub same_in_order-returns-then-not-same : goal.same_in_order-returns-then-not-same
same_in_order-returns-then-not-same t c =
    let below : c.loop-i.i < length c.args.b.now = omega arith in (
      λ h. absurd cc,
      λ h. absurd (order_differs (view c.index-a-i.result) (view c.index-b-i.result) _ _ _ _ _ _
          (views-drop _ _ _ c.index-a-i.is c.loop-i-test.true) (views-drop _ _ _ c.index-b-i.is below) c.loop-i.invariant.1
          (λ same. let yes = c.same.ensures.1 same in search rules) h),
    )

pub same_in_order-loop-i-preserved : goal.same_in_order-loop-i-preserved
same_in_order-loop-i-preserved t c =
    let below : c.loop-i.i < length c.args.b.now = omega arith in (
      c.loop-i.invariant.0,
      order_step (view c.index-a-i.result) (view c.index-b-i.result) _ _ _ _ _ _
          (views-drop _ _ _ c.index-a-i.is c.loop-i-test.true) (views-drop _ _ _ c.index-b-i.is below) c.loop-i.invariant.1
          (c.same.ensures.0 (search rules)),
    )

pub same_in_order-returns : goal.same_in_order-returns
same_in_order-returns t c =
    let above : length c.args.b.now ≤ c.loop-i.i = omega arith in
    (λ h. order_done _ _ _ _ (views-drop_all _ _ c.loop-i-test.false) (views-drop_all _ _ above) c.loop-i.invariant.1, λ h. search rules)

pub same_paired-returns-then-a-b : goal.same_paired-returns-then-a-b
same_paired-returns-then-a-b t c = (
  λ h. absurd cc,
  λ h. absurd
      (c.if-a-b.true (omega (arith, paired_count _ _ h, count-views c.args.a.now, count-views c.args.b.now))),
)

pub same_paired-returns-then-occurrences : goal.same_paired-returns-then-occurrences
same_paired-returns-then-occurrences t c = (
  λ h. absurd cc,
  λ h. absurd
      (other_times _ _ _ _ _ c.occurrences.ensures c.occurrences-in-loop-value.ensures c.if-occurrences.true h),
)

pub same_paired-returns : goal.same_paired-returns
same_paired-returns t c = (
  λ h. as_often_paired _ _
      (omega (arith, c.loop-value.invariant.0, count-views c.args.a.now, count-views c.args.b.now))
      (c.loop-value.invariant.1 (rw (views-drop_all _ _ c.loop-value-test.false) tt)),
  λ h. search rules,
)

pub same_paired-loop-value-preserved : goal.same_paired-loop-value-preserved
same_paired-loop-value-preserved t c = (
  c.loop-value.invariant.0,
  λ more. c.loop-value.invariant.1
      (rw (views-drop _ _ _ c.value-item.is c.loop-value-test.true)
      (is_as_often _ _ _ _ _ c.occurrences.ensures c.occurrences-in-loop-value.ensures c.if-occurrences.false, more)),
)
