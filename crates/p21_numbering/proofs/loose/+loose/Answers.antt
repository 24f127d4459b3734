use Rattle.std.specs.Prelude.{ℕ, List, Option}
use Rattle.std.proofs.Common.{ap, sym, subst, ◌∙◌}
use Rattle.p21_mapping_values.specs.declared.value.Value.{Value}
use Rattle.p21_mapping_values.specs.View.{view, views}
use Rattle.p21_numbering.specs.Standing.{IsCount, Standing, loose_among, loose_element, loose_value, standing_of}
use Rattle.p21_numbering.proofs.FirstFound.{first-found, first-next, first-none, loose-among, loose-in}
use Rattle.p21_numbering.proofs.loose.+loose.Goals as goal

abbrev value_in : Standing → Value → Option ℕ
value_in st v = loose_value st (view v)

abbrev element_in : Standing → List ℕ → Value → Option ℕ
element_in st ns v = loose_element st ns (view v)

pub loose_in-loop-value-preserved : goal.loose_in-loop-value-preserved
loose_in-loop-value-preserved t c =
    let st : Standing = standing_of c.args.standings.now in
    first-next (value_in st) c.args.values.now c.loop-value.value-index c.value-item.result c.value-item.is c.loop-value-test.true
    c.loop-value.invariant (sym c.in_ok-found.ensures ∙ c.in-None.is)

pub loose_in-returns-in-Some : goal.loose_in-returns-in-Some
loose_in-returns-in-Some t c =
    let st : Standing = standing_of c.args.standings.now in
    sym (first-found (value_in st) c.args.values.now c.loop-value.value-index c.value-item.result c.in-Some.name c.value-item.is
    c.loop-value-test.true c.loop-value.invariant (sym c.in_ok-found.ensures ∙ c.in-Some.is)) ∙ loose-in st c.args.values.now

pub loose_in-returns : goal.loose_in-returns
loose_in-returns t c =
    let st : Standing = standing_of c.args.standings.now in
    sym (first-none (value_in st) c.args.values.now c.loop-value.value-index c.loop-value-test.false c.loop-value.invariant)
    ∙ loose-in st c.args.values.now

pub loose_in_set-loop-value-preserved : goal.loose_in_set-loop-value-preserved
loose_in_set-loop-value-preserved t c =
    let st : Standing = standing_of c.args.standings.now in
    let ns : List ℕ = c.in_ok-names.names.items in
    let P : List ℕ → Type 0 = λ xs. IsCount st xs c.in_ok-counts.counts in
    let counted : IsCount st ns c.in_ok-counts.counts = subst P c.deref.ensures.value c.in_ok-counts.ensures in
    first-next (element_in st ns) c.args.values.now c.loop-value.value-index c.value-item.result c.value-item.is c.loop-value-test.true
    c.loop-value.invariant (sym (c.in_ok-found.ensures ns counted) ∙ c.in-None.is)

pub loose_in_set-returns-in-Some : goal.loose_in_set-returns-in-Some
loose_in_set-returns-in-Some t c =
    let st : Standing = standing_of c.args.standings.now in
    let ns : List ℕ = c.in_ok-names.names.items in
    let P : List ℕ → Type 0 = λ xs. IsCount st xs c.in_ok-counts.counts in
    let counted : IsCount st ns c.in_ok-counts.counts = subst P c.deref.ensures.value c.in_ok-counts.ensures in
    sym (first-found (element_in st ns) c.args.values.now c.loop-value.value-index c.value-item.result c.in-Some.name c.value-item.is
    c.loop-value-test.true c.loop-value.invariant (sym (c.in_ok-found.ensures ns counted) ∙ c.in-Some.is))
    ∙ loose-among st ns c.args.values.now ∙ ap (λ (xs : List ℕ). loose_among st xs (views c.args.values.now)) c.in_ok-names.ensures

pub loose_in_set-returns : goal.loose_in_set-returns
loose_in_set-returns t c =
    let st : Standing = standing_of c.args.standings.now in
    let ns : List ℕ = c.in_ok-names.names.items in
    sym (first-none (element_in st ns) c.args.values.now c.loop-value.value-index c.loop-value-test.false c.loop-value.invariant)
    ∙ loose-among st ns c.args.values.now ∙ ap (λ (xs : List ℕ). loose_among st xs (views c.args.values.now)) c.in_ok-names.ensures
