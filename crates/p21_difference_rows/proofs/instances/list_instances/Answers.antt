use Rattle.std.proofs.Common.{ℕ, ◌<◌, ◌≡◌, refl}
use Rattle.p21_difference_rows.proofs.Adding.{more-added, none-added, weaker-added}
use Rattle.p21_difference_rows.proofs.Walk.{all-told, last-told, next-told, none-told}
use Rattle.p21_difference_rows.specs.Listed.{TellsInstances}
use Rattle.p21_difference_rows.specs.Steps.{TellsOf}
use Rattle.p21_differences.specs.Changes.{changed_name}
use Rattle.p21_difference_rows.specs.Asked.{left_out_of}
use Rattle.p21_difference_rows.specs.RealNames.{real_name}
use Rattle.p21_difference_rows.proofs.instances.list_instances.Goals as goal

pub loop-change-init : goal.loop-change-init
loop-change-init c a b are are_ =
    let s = c.args.style.now.schema.now in
    let left = left_out_of c.args.style.now.left_out in
    none-added c.args.style.now.form s (real_name c.args.style.now.names) left (TellsOf (λ (n : ℕ). n < 0) s left a b)
    c.args.rows.now.text.items (none-told s c.well_formed-2.ensures left a b _ _ are are_ 0 refl)

pub loop-change-preserved : goal.loop-change-preserved
loop-change-preserved c a b are are_ =
    let s = c.args.style.now.schema.now in
    let left = left_out_of c.args.style.now.left_out in
    let change = c.in-Some.change in
    let found = c.in-Some.ensures.found a b are are_ in
    more-added c.args.style.now.form s (real_name c.args.style.now.names) left
    (TellsOf (λ (n : ℕ). n < c.loop-change.least) s left a b)
    (TellsOf (λ (n : ℕ). n ≡ changed_name change) s left a b) (TellsOf (λ (n : ℕ). n < c.in-Some-name_behind.next) s left a b) _ _ _
    (λ list more told told_. next-told s c.well_formed-2.ensures left a b _ _ are are_ c.loop-change.least c.in-Some-name_behind.next
    change list more found c.in-Some-name_behind.ensures.0 told told_)
    (c.loop-change.invariant a b are are_)
    (c.in_ok-list_change.ensures a b _ _ are are_ found.0 c.in-Some.ensures.of_files)

pub returns-in_default-name_behind : goal.returns-in_default-name_behind
returns-in_default-name_behind c a b are are_ =
    let s = c.args.style.now.schema.now in
    let left = left_out_of c.args.style.now.left_out in
    let change = c.in-Some.change in
    let found = c.in-Some.ensures.found a b are are_ in
    more-added c.args.style.now.form s (real_name c.args.style.now.names) left
    (TellsOf (λ (n : ℕ). n < c.loop-change.least) s left a b)
    (TellsOf (λ (n : ℕ). n ≡ changed_name change) s left a b) (TellsInstances s left a b) _ _ _
    (λ list more told told_. last-told s c.well_formed-2.ensures left a b _ _ are are_ c.loop-change.least change list more found
    (c.in_default-name_behind.ensures found.1) told told_)
    (c.loop-change.invariant a b are are_)
    (c.in_ok-list_change.ensures a b _ _ are are_ found.0 c.in-Some.ensures.of_files)

pub returns : goal.returns
returns c a b are are_ =
    let s = c.args.style.now.schema.now in
    let left = left_out_of c.args.style.now.left_out in
    weaker-added c.args.style.now.form s (real_name c.args.style.now.names) left
    (TellsOf (λ (n : ℕ). n < c.loop-change.least) s left a b)
    (TellsInstances s left a b) _ _
    (λ list told. all-told s c.well_formed-2.ensures left a b _ _ are are_ c.loop-change.least list
    (c.in_default.ensures.found a b are are_) told) (c.loop-change.invariant a b are are_)
