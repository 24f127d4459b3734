use Rattle.std.specs.Prelude.{◌≡◌, ℕ, List, Option, Some, None}
use Rattle.std.proofs.Common.{ap, sym, ◌∙◌}
use Rattle.p21_mapping_values.specs.declared.value.Value.{Value}
use Rattle.p21_mapping_values.specs.declared.value.Values.{Values}
use Rattle.p21_mapping_values.specs.View.{list_of, views}
use Rattle.p21_numbering.specs.Standing.{Standing, loose_in, standing_of}
use Rattle.p21_numbering.proofs.FirstFound.{first-found, first-next, first-none, loose-rows}
use Rattle.p21_numbering.proofs.loose.loose_in_rows.Goals as goal

abbrev found_in : Standing → Values → Option ℕ
found_in st row = loose_in st (views (list_of row))

pub loop-row-preserved : goal.loop-row-preserved
loop-row-preserved c =
    let st : Standing = standing_of c.args.standings.now in
    let nothing : found_in st c.row-item.result ≡ None = ap (λ (vs : List Value). loose_in st (views vs)) (sym c.items.ensures)
    ∙ sym c.in_ok-found.ensures ∙ c.in-None.is in
    first-next (found_in st) c.args.rows.now c.loop-row.row-index c.row-item.result c.row-item.is c.loop-row-test.true c.loop-row.invariant
    nothing

pub returns-in-Some : goal.returns-in-Some
returns-in-Some c =
    let st : Standing = standing_of c.args.standings.now in
    let one : found_in st c.row-item.result ≡ Some c.in-Some.name = ap (λ (vs : List Value). loose_in st (views vs)) (sym c.items.ensures)
    ∙ sym c.in_ok-found.ensures ∙ c.in-Some.is in
    sym (first-found (found_in st) c.args.rows.now c.loop-row.row-index c.row-item.result c.in-Some.name c.row-item.is c.loop-row-test.true
    c.loop-row.invariant one) ∙ loose-rows st c.args.rows.now

pub returns : goal.returns
returns c =
    let st : Standing = standing_of c.args.standings.now in
    sym (first-none (found_in st) c.args.rows.now c.loop-row.row-index c.loop-row-test.false c.loop-row.invariant)
    ∙ loose-rows st c.args.rows.now
