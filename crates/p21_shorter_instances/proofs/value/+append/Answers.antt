use Rattle.std.proofs.Common.{◌≡◌, ◌+◌, ◌-◌, ℕ, [], ◌∷◌, refl, arith, subst}
use Rattle.p21_spec_basics.proofs.Members.{rest_is}
use Rattle.p21_spec_laws.specs.Needs.{FitsWithNeeds}
use Rattle.p21_express_graph.proofs.Lookups.{type-named}
use Rattle.p21_shorter_instances.proofs.Leaving.{err-from, err-none, err-to, ok-some, ok-to}
use Rattle.p21_shorter_tokens.proofs.Parts.{goes-on, stays-behind}
use Rattle.p21_shorter_instances.proofs.Elements.{aggregate-taken, along-ends, along-first, along-needs, along-next, along-text, close-refused, compared-as, element-known, element-refused, element-shorter, elements-held, elements-refused, next-shorter, no-elements, plain-known, start-within, undeclared-at}
use Rattle.p21_shorter_instances.proofs.RealElements.{reals-at}
use Rattle.p21_shorter_instances.proofs.Typed.{enclosed-refused, enclosed-taken, typed-taken}
use Rattle.p21_shorter_instances.proofs.Values.{base-select, front-deep, item-deep, left-out, needs-kept, needs-same, plain-deep, rest-taken, select-at, stored-taken, taken-front, taken-shorter}
use Rattle.p21_express_graph.specs.Meaning.{type_use}
use Rattle.p21_shorter_instances.specs.TakenValues.{TakesFront}
use Rattle.p21_shorter_instances.proofs.value.+append.Goals as goal
use Rattle.p21_shorter_instances.proofs.Stepping.{needs-join}
use Rattle.p21_values.proofs.Continuing.{continues-join}

pub append_stored-returns-in-Some-clause-some : goal.append_stored-returns-in-Some-clause-some
append_stored-returns-in-Some-clause-some t c =
    λ type has. left-out c.args.at.now.schema.now c.args.at.now.optional type c.args.at.now.most c.args.bytes.now _ c.args.taken.now _
    c.in-Some.ensures.some.0 c.in-Some.ensures.some.1 c.in-Some.ensures.some.2

pub append_stored-returns-in-None-clause-some : goal.append_stored-returns-in-None-clause-some
append_stored-returns-in-None-clause-some t c =
    ok-to _ (λ rest. stored-taken c.args.at.now.schema.now c.args.at.now.optional c.args.at.now.base.now c.args.at.now.most c.args.bytes.now
    rest.now _ c.args.taken.now _ c.in-None.ensures.none) c.append_present.ensures.some

pub append_stored-returns-in-None-clause-draft : goal.append_stored-returns-in-None-clause-draft
append_stored-returns-in-None-clause-draft t c = rw c.in-None.ensures.none at c.append_present.ensures.draft

pub append_present-append_choice-requires : goal.append_present-append_choice-requires
append_present-append_choice-requires t c = (omega arith, base-select c.args.schema.now c.args.base.now _ c.in-Select.is c.requires)

pub append_present-returns-in_ok-count-in-Select-clause-some : goal.append_present-returns-in_ok-count-in-Select-clause-some
append_present-returns-in_ok-count-in-Select-clause-some t c = λ type is.
    rest-taken c.args.schema.now _ c.args.most c.args.bytes.now _ c.in_ok-count-in-Select.count _ _
    (rest_is c.args.bytes.now c.in_ok-count-in-Select.count)
    (select-at c.args.schema.now c.args.base.now _ c.args.most c.args.bytes.now _ _ _ c.in-Select.is
    c.in_ok-count-in-Select.ensures.some.1 type is)

pub append_present-append_undeclared-requires : goal.append_present-append_undeclared-requires
append_present-append_undeclared-requires t c = (omega arith, plain-known c.args.schema.now c.args.base.now _ c.in-Plain.is c.requires)

pub append_present-returns-in-Plain-clause-some : goal.append_present-returns-in-Plain-clause-some
append_present-returns-in-Plain-clause-some t c =
    ok-to _ (λ rest. undeclared-at c.args.schema.now c.args.base.now _ c.args.most c.args.bytes.now rest.now _ _ c.in-Plain.is)
    c.append_undeclared.ensures.some

pub append_present-returns-in-Some-clause-some : goal.append_present-returns-in-Some-clause-some
append_present-returns-in-Some-clause-some t c = λ type is.
    rest-taken c.args.schema.now _ c.args.most c.args.bytes.now _ c.in-Some.count _ _ (rest_is c.args.bytes.now c.in-Some.count)
    (item-deep c.args.schema.now c.args.base.now _ c.args.most c.args.bytes.now _ c.args.taken.now _ c.in-Items.is
    c.in-Some.ensures.some.1 type is)

-- ---- selects

pub append_choice-returns-in-Some-eq35-clause-some : goal.append_choice-returns-in-Some-eq35-clause-some
append_choice-returns-in-Some-eq35-clause-some t c =
    ok-to _ (λ count. front-deep c.args.schema.now _ c.args.most c.args.bytes.now count _ _) c.append_chosen.ensures.some

pub append_choice-overflow_sub-result : goal.append_choice-overflow_sub-result
append_choice-overflow_sub-result t c = taken-shorter c.args.schema.now _ c.args.most c.args.bytes.now _ _ _
    c.in_ok-rest-in_default.ensures.some

pub append_choice-returns-in_ok-rest-in_default-clause-some : goal.append_choice-returns-in_ok-rest-in_default-clause-some
append_choice-returns-in_ok-rest-in_default-clause-some t c =
    taken-front c.args.schema.now _ c.args.most c.args.bytes.now _ _ _ c.in_ok-rest-in_default.ensures.some

pub append_choice-returns-in-Some-eq35-clause-needs : goal.append_choice-returns-in-Some-eq35-clause-needs
append_choice-returns-in-Some-eq35-clause-needs t c = err-to _ (needs-same _ _) c.append_chosen.ensures.needs

pub append_typed-base_of-base-requires : goal.append_typed-base_of-base-requires
append_typed-base_of-base-requires t c = type-named c.args.schema.now c.in-Some.chosen.0 _ c.in-Some.ensures.some.named

pub append_typed-append_enclosed-requires : goal.append_typed-append_enclosed-requires
append_typed-append_enclosed-requires t c = (omega arith, c.base_of-base.ensures.known)

pub append_typed-returns-clause-some : goal.append_typed-returns-clause-some
append_typed-returns-clause-some t c =
    ok-to _ (λ rest. typed-taken c.args.schema.now c.args.select.0 c.in-Some.chosen.0 (c.args.most - 1) c.args.most _ c.args.bytes.now _
    rest.now c.args.taken.now _ _ (omega arith) c.in-Some.ensures.some c.base_of-base.ensures.has) c.append_enclosed.ensures.some

pub append_typed-returns-clause-draft : goal.append_typed-returns-clause-draft
append_typed-returns-clause-draft t c = err-to _ (continues-join _ _ _ (_, c.in-Some.ensures.some.text_is)) c.append_enclosed.ensures.draft

pub append_typed-returns-in_default-clause-needs : goal.append_typed-returns-in_default-clause-needs
append_typed-returns-in_default-clause-needs t c = needs-same _ _ refl

pub append_enclosed-append_present-requires : goal.append_enclosed-append_present-requires
append_enclosed-append_present-requires t c = (omega arith, c.requires)

pub append_enclosed-returns-clause-some : goal.append_enclosed-returns-clause-some
append_enclosed-returns-clause-some t c =
    rw c.ok_or.ensures.value (ok-some _ _ (λ rest. enclosed-taken c.args.schema.now c.args.base.now c.args.most c.args.bytes.now _ _ _
    rest.now c.args.taken.now _ _ _ c.in-Some.ensures.some.0 c.in-Some.ensures.some.1 c.behind_separators-inside.ensures
    c.in_ok-behind.ensures.some) c.append_next_delimiter-2.ensures.some)

pub append_enclosed-returns-clause-draft : goal.append_enclosed-returns-clause-draft
append_enclosed-returns-clause-draft t c =
    let refused = enclosed-refused c.args.schema.now c.args.base.now c.args.most _ _ c.args.taken.now _ _ c.requires
    c.in-Some.ensures.some.1 c.in_ok-behind.ensures.some in
    rw c.ok_or.ensures.value (err-none _ _ (stays-behind _ _ _ refused.0) c.append_next_delimiter-2.ensures.none)

pub append_enclosed-returns-clause-needs : goal.append_enclosed-returns-clause-needs
append_enclosed-returns-clause-needs t c =
    let refused = enclosed-refused c.args.schema.now c.args.base.now c.args.most _ _ c.args.taken.now _ _ c.requires
    c.in-Some.ensures.some.1 c.in_ok-behind.ensures.some in
    err-from _ refused.1

pub append_enclosed-returns-in_err-behind-clause-draft : goal.append_enclosed-returns-in_err-behind-clause-draft
append_enclosed-returns-in_err-behind-clause-draft t c =
    err-from _ (continues-join _ _ _ (40 ∷ [], c.in-Some.ensures.some.1) c.in_err-behind.ensures.draft)

pub append_enclosed-returns-in_default-clause-needs : goal.append_enclosed-returns-in_default-clause-needs
append_enclosed-returns-in_default-clause-needs t c = needs-same _ _ refl

-- ---- lists and arrays

pub append_undeclared-append_aggregate-requires : goal.append_undeclared-append_aggregate-requires
append_undeclared-append_aggregate-requires t c = (omega arith, (c.requires, c.in-Some.ensures))

pub append_undeclared-returns-in-None-clause-some : goal.append_undeclared-returns-in-None-clause-some
append_undeclared-returns-in-None-clause-some t c =
    ok-to _ (λ rest. plain-deep c.args.schema.now c.args.of.now c.args.most c.args.bytes.now rest.now _ _) c.append_plain.ensures.some

pub append_undeclared-returns-in-None-clause-needs : goal.append_undeclared-returns-in-None-clause-needs
append_undeclared-returns-in-None-clause-needs t c = err-to _ (needs-same _ _) c.append_plain.ensures.needs

pub append_aggregate-base_of-base-requires : goal.append_aggregate-base_of-base-requires
append_aggregate-base_of-base-requires t c =
    element-known c.args.schema.now (type_use c.args.aggregate.now.of.now) c.args.aggregate.now.optional
    (type_use c.args.aggregate.now.element.now) c.requires.elements (c.requires.known c.holds_together.ensures)

pub append_aggregate-append_all_reals-requires : goal.append_aggregate-append_all_reals-requires
append_aggregate-append_all_reals-requires t c = (c.if-are_reals.ensures refl).0

pub append_aggregate-returns-then-are_reals-clause-some : goal.append_aggregate-returns-then-are_reals-clause-some
append_aggregate-returns-then-are_reals-clause-some t c =
    let are = c.if-are_reals.ensures refl in
    rw c.ok_or.ensures.value (ok-some _ _ (λ count. reals-at c.args.schema.now (type_use c.args.aggregate.now.of.now)
    (type_use c.args.aggregate.now.element.now) c.base_of-base.result c.args.aggregate.now.optional c.args.most c.args.bytes.now count
    c.args.taken.now _ c.well_formed-2.ensures.types_distinct c.requires.elements c.base_of-base.ensures.has are.1 are.2 (omega arith))
    c.append_all_reals.ensures.some)

pub append_aggregate-returns-then-are_reals-clause-needs : goal.append_aggregate-returns-then-are_reals-clause-needs
append_aggregate-returns-then-are_reals-clause-needs t c = needs-kept c.ok_or.result c.args.taken.now.needs.items

pub append_aggregate-append_any-requires : goal.append_aggregate-append_any-requires
append_aggregate-append_any-requires t c = (
  omega arith,
  (c.base_of-base.ensures.known, (type_use c.args.aggregate.now.element.now, c.requires.elements, c.base_of-base.ensures.has)),
)

pub append_aggregate-returns-clause-some : goal.append_aggregate-returns-clause-some
append_aggregate-returns-clause-some t c =
    let same : c.args.most - 1 + 1 ≡ c.args.most = omega arith in
    ok-to _ (λ count. subst (λ (k : ℕ). TakesFront c.args.schema.now
    (FitsWithNeeds c.args.schema.now (type_use c.args.aggregate.now.of.now)) k c.args.bytes.now count c.args.taken.now
    c.append_any.new.taken) same) c.append_any.ensures.some

pub append_any-append_counted-requires : goal.append_any-append_counted-requires
append_any-append_counted-requires t c = (omega arith, (c.requires.base, c.new-lengths.ensures.items))

pub append_any-returns-clause-some : goal.append_any-returns-clause-some
append_any-returns-clause-some t c =
    let (element, is, has) = c.requires.places in
    taken-front c.args.at.now.schema.now _ _ c.args.bytes.now _ _ _ (c.in_ok-rest.ensures.some element is has)

pub append_any-overflow_sub-result : goal.append_any-overflow_sub-result
append_any-overflow_sub-result t c =
    let (element, is, has) = c.requires.places in
    taken-shorter c.args.at.now.schema.now _ _ c.args.bytes.now _ _ _ (c.in_ok-rest.ensures.some element is has)

-- ---- the elements of an aggregate

pub append_counted-append_each-requires : goal.append_counted-append_each-requires
append_counted-append_each-requires t c = (omega arith, c.requires.base)

pub append_counted-append_close-requires : goal.append_counted-append_close-requires
append_counted-append_close-requires t c =
    let refused =
    elements-refused c.args.at.now.schema.now c.args.at.now.optional _ c.args.at.now.base.now c.args.at.now.most _ _ _ _ _ c.args.taken.now
    _ _ c.requires.base c.in-Some.ensures.some.1 c.in_ok-count.ensures.some in
    let takes =
    compared-as c.args.at.now.schema.now (type_use c.args.of.now) c.args.at.now.optional _ c.args.at.now.base.now c.args.at.now.most _ _ _ _
    _ _ _ c.are_compared-compared.ensures c.in_ok-count.ensures.some in
    record {
      start = start-within _ _ _ c.len-start.ensures refused.0;
      holds = elements-held c.args.at.now.schema.now (type_use c.args.of.now) c.args.at.now.optional c.args.at.now.base.now
          c.args.at.now.most _ _ _ _ _ _ c.args.taken.now _ _ c.requires.base c.len-start.ensures c.in-Some.ensures.some.1 c.requires.empty
          takes;
    }

pub append_counted-returns-clause-some : goal.append_counted-returns-clause-some
append_counted-returns-clause-some t c =
    let takes =
    compared-as c.args.at.now.schema.now (type_use c.args.of.now) c.args.at.now.optional _ c.args.at.now.base.now c.args.at.now.most _ _ _ _
    _ _ _ c.are_compared-compared.ensures c.in_ok-count.ensures.some in
    ok-to _ (λ rest. aggregate-taken c.args.at.now.schema.now (type_use c.args.of.now) c.args.at.now.optional c.args.at.now.base.now
    c.args.at.now.most _ _ c.args.bytes.now _ _ rest.now _ _ c.args.taken.now _ _ _ c.well_formed-2.ensures.types_distinct
    (c.if-not-allows_count.ensures.0 refl) c.in-Some.ensures.some.0 c.len-start.ensures c.in-Some.ensures.some.1 c.requires.empty takes)
    c.append_close.ensures.some

pub append_counted-returns-then-not-allows_count-clause-draft : goal.append_counted-returns-then-not-allows_count-clause-draft
append_counted-returns-then-not-allows_count-clause-draft t c =
    (elements-refused c.args.at.now.schema.now c.args.at.now.optional _ c.args.at.now.base.now c.args.at.now.most _ _ _ _ _ c.args.taken.now
    _ _ c.requires.base c.in-Some.ensures.some.1 c.in_ok-count.ensures.some).0

pub append_counted-returns-then-not-allows_count-clause-needs : goal.append_counted-returns-then-not-allows_count-clause-needs
append_counted-returns-then-not-allows_count-clause-needs t c =
    (elements-refused c.args.at.now.schema.now c.args.at.now.optional _ c.args.at.now.base.now c.args.at.now.most _ _ _ _ _ c.args.taken.now
    _ _ c.requires.base c.in-Some.ensures.some.1 c.in_ok-count.ensures.some).1

pub append_counted-returns-clause-draft : goal.append_counted-returns-clause-draft
append_counted-returns-clause-draft t c =
    let refused =
    elements-refused c.args.at.now.schema.now c.args.at.now.optional _ c.args.at.now.base.now c.args.at.now.most _ _ _ _ _ c.args.taken.now
    _ _ c.requires.base c.in-Some.ensures.some.1 c.in_ok-count.ensures.some in
    err-to _ (close-refused _ _ _ _ c.len-start.ensures refused.0) c.append_close.ensures.none

pub append_counted-returns-clause-needs : goal.append_counted-returns-clause-needs
append_counted-returns-clause-needs t c =
    let refused =
    elements-refused c.args.at.now.schema.now c.args.at.now.optional _ c.args.at.now.base.now c.args.at.now.most _ _ _ _ _ c.args.taken.now
    _ _ c.requires.base c.in-Some.ensures.some.1 c.in_ok-count.ensures.some in
    err-from _ refused.1

-- ---- elements

pub append_each-append_element-requires : goal.append_each-append_element-requires
append_each-append_element-requires t c = (omega arith, c.requires)

pub append_each-returns-in-Some-eq41-clause-some : goal.append_each-returns-in-Some-eq41-clause-some
append_each-returns-in-Some-eq41-clause-some t c =
    λ type has. no-elements c.args.at.now.schema.now c.args.at.now.optional type c.args.compared c.args.at.now.most c.args.bytes.now
    c.args.lengths.now.items c.args.taken.now

pub append_each-loop-next-init : goal.append_each-loop-next-init
append_each-loop-next-init t c = (
  along-first c.args.at.now.schema.now c.args.at.now.base.now c.args.at.now.optional c.args.compared c.args.at.now.most c.args.bytes.now _
      c.args.taken.now _ _ _ _ c.behind_separators-first.ensures c.in_ok-behind.ensures.some c.in_ok-behind.ensures.lengths,
  let shorter = element-shorter c.args.at.now.schema.now c.args.at.now.base.now c.args.at.now.optional c.args.at.now.most c.args.bytes.now _
      _ _ _ c.requires c.behind_separators-first.ensures c.in_ok-behind.ensures.some in omega arith,
)

pub append_each-loop-next-smaller : goal.append_each-loop-next-smaller
append_each-loop-next-smaller t c =
    next-shorter c.args.at.now.schema.now c.args.at.now.base.now c.args.at.now.optional c.args.at.now.most _ _ _ _ _ _ c.requires
    c.in-Some.ensures.some.0 c.behind_separators-inside.ensures c.in_ok-behind-2.ensures.some

pub append_each-loop-next-preserved : goal.append_each-loop-next-preserved
append_each-loop-next-preserved t c = (
  along-next c.args.at.now.schema.now c.args.at.now.base.now c.args.at.now.optional c.args.compared c.args.at.now.most c.args.bytes.now _ _
      c.loop-next.count _ _ _ _ _ _ _ c.loop-next.taken _ c.loop-next.invariant.0 c.in-Some.ensures.some.0 c.in-Some.ensures.some.1
      c.behind_separators-inside.ensures c.in_ok-behind-2.ensures.some c.in_ok-behind-2.ensures.lengths,
  let shorter =
      next-shorter c.args.at.now.schema.now c.args.at.now.base.now c.args.at.now.optional c.args.at.now.most _ _ _ _ _ _ c.requires
      c.in-Some.ensures.some.0 c.behind_separators-inside.ensures c.in_ok-behind-2.ensures.some in
      let room = c.loop-next.invariant.1 in
      omega arith,
)

pub append_each-returns-in_err-behind-2-clause-draft : goal.append_each-returns-in_err-behind-2-clause-draft
append_each-returns-in_err-behind-2-clause-draft t c =
    let so_far =
    along-text c.args.at.now.schema.now c.args.at.now.base.now c.args.at.now.optional c.args.compared c.args.at.now.most c.args.bytes.now _
    _ _ _ _ _ c.requires c.loop-next.invariant.0 in
    err-from _ (continues-join _ _ _ (goes-on _ _ _ _ so_far c.in-Some.ensures.some.1) c.in_err-behind-2.ensures.draft)

pub append_each-returns-in_err-behind-2-clause-needs : goal.append_each-returns-in_err-behind-2-clause-needs
append_each-returns-in_err-behind-2-clause-needs t c =
    let so_far =
    along-needs c.args.at.now.schema.now c.args.at.now.base.now c.args.at.now.optional c.args.compared c.args.at.now.most c.args.bytes.now _
    _ _ _ _ _ c.requires c.loop-next.invariant.0 in
    err-from _ (needs-join _ _ _ so_far c.in_err-behind-2.ensures.needs)

pub append_each-returns-clause-some : goal.append_each-returns-clause-some
append_each-returns-clause-some t c =
    rw c.in_default-append_next_delimiter.ensures.none
    (along-ends c.args.at.now.schema.now c.args.at.now.base.now c.args.at.now.optional c.args.compared c.args.at.now.most
    c.args.bytes.now _ _ _ _ _ _ c.loop-next.invariant.0)

pub append_element-append_stored-requires : goal.append_element-append_stored-requires
append_element-append_stored-requires t c = (omega arith, c.requires)

pub append_element-returns-then-not-add_length-clause-draft : goal.append_element-returns-then-not-add_length-clause-draft
append_element-returns-then-not-add_length-clause-draft t c =
    (element-refused c.args.at.now.schema.now c.args.at.now.base.now c.args.at.now.optional c.args.at.now.most c.args.bytes.now _ _ _
    c.requires c.in_ok-rest.ensures.some).0

pub append_element-returns-then-not-add_length-clause-needs : goal.append_element-returns-then-not-add_length-clause-needs
append_element-returns-then-not-add_length-clause-needs t c =
    (element-refused c.args.at.now.schema.now c.args.at.now.base.now c.args.at.now.optional c.args.at.now.most c.args.bytes.now _ _ _
    c.requires c.in_ok-rest.ensures.some).1
