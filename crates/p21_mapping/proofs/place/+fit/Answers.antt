use Rattle.std.proofs.Common.{◌∙◌, sym, ap, rules, [], length}
use Rattle.std.proofs.lemmas.Result.{err_from_is_err_and}
use Rattle.p21_spec_exchange.specs.Parameter as parameter
use Rattle.p21_spec_file.specs.BrokenValue.{missing, star_not_derived}
use denote.Param.Weighed.{most}
use Rattle.p21_grammar_tree.proofs.param.Param.TheLaws.{the_size}
use Rattle.p21_grammar_tree.specs.declared.param.Param as param
use Rattle.p21_grammar_tree.proofs.Views.{view-Dollar, view-Star, view-Whole, view-Real, view-Text, view-Bits, view-Item, view-Name, view-List, view-Tagged}
use Rattle.p21_grammar_tree.specs.View.{items_of, key_view, view, views}
use Rattle.p21_express_graph.specs.Meaning.{type_use}
use Rattle.p21_mapping.proofs.Chains.{broken_at, from_base, left_out, not_left_out, refused_from}
use Rattle.p21_mapping.proofs.Lists.{aggregate_at, bounds_broken, all_taken, broken_next, chosen_at, chosen_broken, element_broken, element-known, key_refused, none_taken, one_taken, plain-known, same_broken, size_below, takes-elements}
use Rattle.p21_mapping.proofs.Outcomes.{at_declared, at_other}
use Rattle.p21_mapping.proofs.place.+fit.Goals as goal

pub fit-fit_list-requires : goal.fit-fit_list-requires
fit-fit_list-requires t c = let same = ap the_size c.in-List.is in (search (rules, param.the_lemmas), c.base_of-base.ensures.known)

pub fit-fit_tagged-requires : goal.fit-fit_tagged-requires
fit-fit_tagged-requires t c = let same = ap the_size c.in-Tagged.is in let inside = ap the_size c.into_inner.ensures in
    (search (rules, param.the_lemmas), c.base_of-base.ensures.known)

pub fit-returns-in-Dollar : goal.fit-returns-in-Dollar
fit-returns-in-Dollar t c = λ other. broken_at c.args.schema.now (type_use c.args.of.now) parameter.dollar (view c.args.param) 46
    (ap view c.in-Dollar.is ∙ view-Dollar) (missing (type_use c.args.of.now))

pub fit-returns-in-Star : goal.fit-returns-in-Star
fit-returns-in-Star t c = λ other. broken_at c.args.schema.now (type_use c.args.of.now) parameter.star (view c.args.param) 47
    (ap view c.in-Star.is ∙ view-Star) (star_not_derived (type_use c.args.of.now))

pub fit-returns-in-Whole : goal.fit-returns-in-Whole
fit-returns-in-Whole t c = from_base c.args.schema.now (type_use c.args.of.now) c.base_of-base.result _ _ _ _ _ c.base_of-base.ensures.has
    (ap view c.in-Whole.is ∙ view-Whole c.in-Whole.whole) (λ type is. c.fit_whole.ensures c.args.schema.now type _ is)

pub fit-returns-in-Real : goal.fit-returns-in-Real
fit-returns-in-Real t c = from_base c.args.schema.now (type_use c.args.of.now) c.base_of-base.result _ _ _ _ _ c.base_of-base.ensures.has
    (ap view c.in-Real.is ∙ view-Real c.in-Real.real) (λ type is. c.fit_real.ensures c.args.schema.now type _ is)

pub fit-returns-in-Text : goal.fit-returns-in-Text
fit-returns-in-Text t c = from_base c.args.schema.now (type_use c.args.of.now) c.base_of-base.result _ _ _ _ _ c.base_of-base.ensures.has
    (ap view c.in-Text.is ∙ view-Text c.in-Text.text) (λ type is. c.fit_text.ensures c.args.schema.now type _ is)

pub fit-returns-in-Bits : goal.fit-returns-in-Bits
fit-returns-in-Bits t c = from_base c.args.schema.now (type_use c.args.of.now) c.base_of-base.result _ _ _ _ _ c.base_of-base.ensures.has
    (ap view c.in-Bits.is ∙ view-Bits c.in-Bits.bits) (λ type is. c.fit_bits.ensures c.args.schema.now type _ is)

pub fit-returns-in-Item : goal.fit-returns-in-Item
fit-returns-in-Item t c = from_base c.args.schema.now (type_use c.args.of.now) c.base_of-base.result _ _ _ _ _ c.base_of-base.ensures.has
    (ap view c.in-Item.is ∙ view-Item c.in-Item.word) (λ type is. c.fit_item.ensures c.args.schema.now type _ is)

pub fit-returns-in-Name : goal.fit-returns-in-Name
fit-returns-in-Name t c = from_base c.args.schema.now (type_use c.args.of.now) c.base_of-base.result _ _ _ _ _ c.base_of-base.ensures.has
    (ap view c.in-Name.is ∙ view-Name c.in-Name.name) c.fit_name.ensures

pub fit-returns-in-List : goal.fit-returns-in-List
fit-returns-in-List t c = from_base c.args.schema.now (type_use c.args.of.now) c.base_of-base.result _ _ _ _ _ c.base_of-base.ensures.has
    (ap view c.in-List.is ∙ view-List c.in-List.params) c.fit_list.ensures

pub fit-returns-in-Tagged : goal.fit-returns-in-Tagged
fit-returns-in-Tagged t c = from_base c.args.schema.now (type_use c.args.of.now) c.base_of-base.result _ _ _ _ _ c.base_of-base.ensures.has
    (ap view c.in-Tagged.is ∙ view-Tagged c.in-Tagged.key c.in-Tagged.inner
    ∙ ap (λ p. parameter.typed (key_view c.in-Tagged.key) (view p)) (sym c.into_inner.ensures)) c.fit_tagged.ensures

pub fit_stored-returns-then-is_left_out : goal.fit_stored-returns-then-is_left_out
fit_stored-returns-then-is_left_out t c = left_out c.args.schema.now c.args.optional (type_use c.args.of.now) (view c.args.param) _
    (c.is_left_out.ensures.0 (search rules))

pub fit_stored-returns : goal.fit_stored-returns
fit_stored-returns t c = not_left_out c.args.schema.now c.args.optional (type_use c.args.of.now) (view c.args.param) _ _ _
    (λ is. let yes = c.is_left_out.ensures.1 is in search rules) c.fit.ensures

pub fit_list-returns-in_default : goal.fit_list-returns-in_default
fit_list-returns-in_default t c = refused_from c.args.schema.now c.args.base _ _ [] []
    (at_declared c.args.base (parameter.list (views (items_of c.args.params))) _ c.other_kind.ensures tt c.in_default.not-Plain)

pub fit_list-returns-in_default-element : goal.fit_list-returns-in_default-element
fit_list-returns-in_default-element t c = refused_from c.args.schema.now c.args.base _ _ [] []
    (at_other c.args.base _ (parameter.list (views (items_of c.args.params))) c.in-Plain.is (λ is. cc) (λ is. cc)
    (takes-elements _ _ c.in_default-element.ensures))

pub fit_list-returns-then-not-allows_count : goal.fit_list-returns-then-not-allows_count
fit_list-returns-then-not-allows_count t c = bounds_broken c.args.schema.now c.args.base c.in-Plain.of (items_of c.args.params) _ [] []
    c.in-Plain.is (ap (λ xs. length xs) c.items.ensures) (λ allows. let yes = c.allows_count.ensures.1 allows in search rules)

pub fit_tagged-returns-in_default : goal.fit_tagged-returns-in_default
fit_tagged-returns-in_default t c = key_refused c.args.schema.now c.args.base (key_view c.args.key) (view c.args.inner) _ [] []
    c.in_default.ensures.decides c.other_kind.ensures

pub fit_tagged-returns-in_err-value : goal.fit_tagged-returns-in_err-value
fit_tagged-returns-in_err-value t c =
    let p = err_from_is_err_and c.from_residual.result c.from_residual.ensures.1 in
    rw (p.1, p.2) (chosen_broken c.args.schema.now c.args.base (key_view c.args.key) c.in-Some.chosen (view c.args.inner) _ [] []
    c.in-Some.ensures.decides (rw (sym c.in_err-value.ensures) at c.fit-found.ensures))

pub fit_tagged-returns : goal.fit_tagged-returns
fit_tagged-returns t c = chosen_at c.args.schema.now c.args.base (key_view c.args.key) c.in-Some.chosen (view c.args.inner) _ _
    c.in_ok-value.value c.in_ok-new.field-0 c.in-Some.ensures.decides c.in-Some.ensures.known
    (rw (sym c.in_ok-value.ensures) at c.fit-found.ensures) c.in_ok-new.ensures.ok

pub fit_list-returns-in_err-values : goal.fit_list-returns-in_err-values
fit_list-returns-in_err-values t c =
    let p = err_from_is_err_and c.from_residual.result c.from_residual.ensures.1 in
    rw (p.1, p.2) (element_broken c.args.schema.now c.args.base c.in-Plain.of (views (items_of c.args.params)) _ _ _ [] [] c.in-Plain.is
    c.in-Some.ensures (rw c.into_items-params.ensures at c.in_err-values.ensures))

pub fit_list-returns-then-not-branch : goal.fit_list-returns-then-not-branch
fit_list-returns-then-not-branch t c = same_broken c.args.schema.now c.args.base c.in-Plain.of (views (items_of c.args.params)) _ _ _ [] _
    c.in_ok-values.values c.in-Plain.is c.in-Some.ensures (rw c.into_items-params.ensures at c.in_ok-values.ensures)
    (λ keeps. let yes = c.in_ok-keeps_unique.ensures.1 (rw c.deref.ensures.value keeps) in search rules)

pub fit_list-returns : goal.fit_list-returns
fit_list-returns t c =
    aggregate_at c.args.schema.now c.args.base c.in-Plain.of (items_of c.args.params) _ _ _ _ _ c.in_ok-values.values c.aggregate_of.result
    c.in-Plain.is c.in-Some.ensures (rw c.into_items-params.ensures at c.in_ok-values.ensures) (ap (λ xs. length xs) c.items.ensures)
    (c.allows_count.ensures.0 (search rules)) (rw c.deref.ensures.value at (c.in_ok-keeps_unique.ensures.0 (search rules)))
    (rw c.from_vec.ensures at c.aggregate_of.ensures)

pub fit_list-fit_each-requires : goal.fit_list-fit_each-requires
fit_list-fit_each-requires t c = let same = ap (λ xs. most the_size xs) c.into_items-params.ensures in (
  search (rules, param.the_lemmas),
  element-known c.args.schema.now _ _ _ c.in-Some.ensures
      (plain-known c.args.schema.now c.args.base _ c.in-Plain.is c.requires),
)

pub fit_each-returns : goal.fit_each-returns
fit_each-returns t c = all_taken c.args.schema.now c.args.optional (type_use c.args.of.now) _ c.args.params.items _ _ _
    c.loop-param.invariant c.in_default.ensures

pub fit_each-returns-in_err-value : goal.fit_each-returns-in_err-value
fit_each-returns-in_err-value t c =
    let p = err_from_is_err_and c.from_residual-in_err-value.result c.from_residual-in_err-value.ensures.1 in
    rw (p.1, p.2) (broken_next c.args.schema.now c.args.optional (type_use c.args.of.now) _ _ c.args.params.items c.in-Some.param _ _ _ _
    c.loop-param.invariant c.in-Some.ensures (rw (sym c.in_err-value.ensures) at c.fit_stored-found.ensures))

pub fit_each-loop-param-preserved : goal.fit_each-loop-param-preserved
fit_each-loop-param-preserved t c = one_taken c.args.schema.now c.args.optional (type_use c.args.of.now) _ _ c.args.params.items
    c.in-Some.param c.in_ok-value.value _ _ _ c.loop-param.values c.push.new.self c.loop-param.invariant c.in-Some.ensures
    (rw (sym c.in_ok-value.ensures) at c.fit_stored-found.ensures) c.in_ok-push.ensures.items

pub fit_each-fit_stored-found-requires : goal.fit_each-fit_stored-found-requires
fit_each-fit_stored-found-requires t c =
    let deep = size_below the_size c.args.schema.now c.args.optional (type_use c.args.of.now) _ _ c.args.params.items c.in-Some.param _ _ _
    c.loop-param.invariant c.in-Some.ensures in
    let known = c.requires in
    search rules

pub fit_each-loop-param-init : goal.fit_each-loop-param-init
fit_each-loop-param-init t c = none_taken c.args.schema.now c.args.optional (type_use c.args.of.now) _ c.args.params.items
    c.args.needs.now.items c.in_ok-values.values c.reverse.ensures.items c.in_ok-values.ensures.items
