use Rattle.std.proofs.Common.{[], subst, sym}
use Rattle.std.proofs.lemmas.Result.{on_ok_weaker}
use Rattle.p21_difference_rows.proofs.Listing.{AddsName, came-listed, one-set, set-listed, values-listed, went-listed}
use Rattle.p21_difference_rows.proofs.Walk.{meant}
use Rattle.p21_differences.specs.Changes.{IsChange, IsOfFiles}
use Rattle.p21_difference_rows.specs.Asked.{left_out_of}
use Rattle.p21_difference_rows.specs.RealNames.{real_name}
use Rattle.p21_difference_rows.proofs.instances.list_change.Goals as goal

pub returns-in-Came : goal.returns-in-Came
returns-in-Came c a b kept others are are_ is of =
    let s = c.args.style.now.schema.now in
    let form = c.args.style.now.form in
    let real = real_name c.args.style.now.names in
    let left = left_out_of c.args.style.now.left_out in
    on_ok_weaker c.put.result (λ adds. subst (AddsName form s real left a b _ _) (sym c.in-Came.is)
    (came-listed form s real left a b c.in-Came.name _ _ (subst (IsChange a b) c.in-Came.is is) adds)) c.put.ensures

pub returns-in-Went : goal.returns-in-Went
returns-in-Went c a b kept others are are_ is of =
    let s = c.args.style.now.schema.now in
    let form = c.args.style.now.form in
    let real = real_name c.args.style.now.names in
    let left = left_out_of c.args.style.now.left_out in
    on_ok_weaker c.put-in-Went.result (λ adds. subst (AddsName form s real left a b _ _) (sym c.in-Went.is)
    (went-listed form s real left a b c.in-Went.name _ _ (subst (IsChange a b) c.in-Went.is is) adds)) c.put-in-Went.ensures

pub returns-in-Set : goal.returns-in-Set
returns-in-Set c a b kept others are are_ is of =
    let s = c.args.style.now.schema.now in
    let form = c.args.style.now.form in
    let real = real_name c.args.style.now.names in
    let left = left_out_of c.args.style.now.left_out in
    let n = c.in-Set.name in
    let lines = subst (IsOfFiles kept others) c.in-Set.is of in
    let first = meant s c.well_formed-2.ensures a kept are n c.in-Set.first.now lines.0 in
    let second = meant s c.well_formed-2.ensures b others are_ n c.in-Set.second.now lines.1 in
    on_ok_weaker c.put-in-Set.result
    (λ adds. subst (AddsName form s real left a b _ _) (sym c.in-Set.is)
    (set-listed form s real left a b n _ _ c.in-Set.first.now c.in-Set.second.now first second (subst (IsChange a b) c.in-Set.is is) adds))
    c.put-in-Set.ensures

pub returns : goal.returns
returns c a b kept others are are_ is of =
    let s = c.args.style.now.schema.now in
    let form = c.args.style.now.form in
    let real = real_name c.args.style.now.names in
    let left = left_out_of c.args.style.now.left_out in
    let n = c.in-Values.name in
    let lines = subst (IsOfFiles kept others) c.in-Values.is of in
    let first = meant s c.well_formed-2.ensures a kept are n c.in-Values.first.now lines.0 in
    let second = meant s c.well_formed-2.ensures b others are_ n c.in-Values.second.now lines.1 in
    let (x, y, at, set, differ) = subst (IsChange a b) c.in-Values.is is in
    on_ok_weaker c.list_values.result
    (λ adds. subst (AddsName form s real left a b _ _) (sym c.in-Values.is)
    (values-listed form s real left a b n _ _ c.in-Values.first.now c.in-Values.second.now first second x y at set adds))
    (c.list_values.ensures first.is_line.record_ second.is_line.record_ first.is_line.stated second.is_line.stated
    (one-set form s real left a b n [] [] c.in-Values.first.now c.in-Values.second.now first second x y at set))
