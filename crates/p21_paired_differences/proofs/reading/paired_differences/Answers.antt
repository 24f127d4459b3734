use Rattle.std.proofs.Common.{sym, ◌∙◌, inl, inr}
use Rattle.p21_difference_rows.specs.Asked.{left_out_of}
use Rattle.std.proofs.KnownBytes.{Keeps-refl}
use Rattle.p21_paired_differences.proofs.ReadFiles.{has-canonical, is-accepted_file, no-first_failure, no-second_failure, pairing-fails, read-listed, second-fails}
use Rattle.p21_paired_differences.proofs.reading.paired_differences.Goals as goal

pub returns-in-Err-clause-err : goal.returns-in-Err-clause-err
returns-in-Err-clause-err g c = inl (c.in-Err.ensures.err, Keeps-refl _)

pub returns-in-Err-accept-clause-err : goal.returns-in-Err-accept-clause-err
returns-in-Err-accept-clause-err g c =
    second-fails c.args.schema.now c.headline.ensures.formed c.args.limits c.headline.ensures.limits _ _ _ _ c.in-Ok.accepted
    c.in-Err-accept.refusal.fault c.in-Ok.ensures.ok c.in-Err-accept.ensures.err

pub list_by_pairs-requires-clause-first : goal.list_by_pairs-requires-clause-first
list_by_pairs-requires-clause-first g c = is-accepted_file c.args.schema.now c.args.limits _ _ c.in-Ok.accepted c.in-Ok.ensures.ok

pub list_by_pairs-requires-clause-second : goal.list_by_pairs-requires-clause-second
list_by_pairs-requires-clause-second g c = is-accepted_file c.args.schema.now c.args.limits _ _ c.in-Ok-accept.accepted
    c.in-Ok-accept.ensures.ok

pub returns-in-Ok-list_by_pairs-clause-ok : goal.returns-in-Ok-list_by_pairs-clause-ok
returns-in-Ok-list_by_pairs-clause-ok g c =
    read-listed c.args.schema.now c.headline.ensures.formed c.args.limits c.headline.ensures.limits _ _ _ _ c.args.form
    (left_out_of c.args.left_out) c.args.pairs c.in-Ok.accepted c.in-Ok-accept.accepted c.in-Ok-list_by_pairs.found.is_same
    c.in-Ok-list_by_pairs.found.is_empty c.in-Ok-list_by_pairs.found.text.items
    c.in-Ok.ensures.ok c.in-Ok-accept.ensures.ok c.in-Ok-list_by_pairs.ensures.list

pub returns-clause-err : goal.returns-clause-err
returns-clause-err g c =
    pairing-fails c.args.schema.now c.headline.ensures.formed c.args.limits c.headline.ensures.limits _ _ _ _ c.in-Ok.accepted
    c.in-Ok-accept.accepted c.in-Err-list_by_pairs.fault _ _
    c.in-Ok.ensures.ok c.in-Ok-accept.ensures.ok c.in-Err-list_by_pairs.ensures.none c.refused.ensures

pub returns-in-Err-accept-clause-order : goal.returns-in-Err-accept-clause-order
returns-in-Err-accept-clause-order g c = inr (has-canonical c.args.schema.now c.headline.ensures.formed c.args.limits
    c.headline.ensures.limits _ _ c.in-Ok.accepted c.in-Ok.ensures.ok)

pub returns-in-Ok-list_by_pairs-clause-order : goal.returns-in-Ok-list_by_pairs-clause-order
returns-in-Ok-list_by_pairs-clause-order g c = inr
    (has-canonical c.args.schema.now c.headline.ensures.formed c.args.limits c.headline.ensures.limits _ _ c.in-Ok.accepted
    c.in-Ok.ensures.ok)

pub returns-clause-order : goal.returns-clause-order
returns-clause-order g c = inr (has-canonical c.args.schema.now c.headline.ensures.formed c.args.limits c.headline.ensures.limits _ _
    c.in-Ok.accepted c.in-Ok.ensures.ok)

pub returns-clause-failed_first : goal.returns-clause-failed_first
returns-clause-failed_first g c = c.in-Ok.ensures.read
    ∙ sym (no-first_failure c.args.first.now.failures c.in-Err-list_by_pairs.fault _ _ c.refused.ensures)

pub returns-clause-failed_second : goal.returns-clause-failed_second
returns-clause-failed_second g c = c.in-Ok-accept.ensures.read
    ∙ sym (no-second_failure c.args.second.now.failures c.in-Err-list_by_pairs.fault _ _ c.refused.ensures)
