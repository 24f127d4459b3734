use Rattle.std.proofs.lemmas.Result.{on_ok_weaker}
use Rattle.p21_difference_rows.proofs.Adding.{none-more}
use Rattle.p21_difference_rows.specs.Asked.{left_out_of}
use Rattle.p21_difference_rows.specs.RealNames.{real_name}
use Rattle.p21_difference_rows.proofs.outlines.list_outlines.Goals as goal

pub returns-then-has_one_section_as : goal.returns-then-has_one_section_as
returns-then-has_one_section_as c = none-more c.args.style.now.form c.args.style.now.schema.now (real_name c.args.style.now.names)
    (left_out_of c.args.style.now.left_out) _ _ _
    c.in_ok-list_headers.ensures c.in_ok-list_sections.ensures

pub returns : goal.returns
returns c =
    let s = c.args.style.now.schema.now in
    let form = c.args.style.now.form in
    let real = real_name c.args.style.now.names in
    let left = left_out_of c.args.style.now.left_out in
    on_ok_weaker c.list_moved.result (λ more. none-more form s real left _ _ _
    (none-more form s real left _ _ _ c.in_ok-list_headers.ensures c.in_ok-list_sections.ensures) more) c.list_moved.ensures
