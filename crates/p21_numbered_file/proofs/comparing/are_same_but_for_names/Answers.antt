use Rattle.std.proofs.Common.{Bool, Result, sym, subst, ◌∙◌}
use Rattle.std.proofs.lemmas.Slice.Eq.{bytes_eq-Decides}
use Rattle.p21_numbered_file.proofs.Telling.{first-none, neither-has, numbers-told, one-text_tells, second-none}
use Rattle.p21_numbered_file.specs.Comparing.{TellsTexts}
use Rattle.p21_numbered_file.specs.declared.numbering.Unnumbered.{Unnumbered}
use Rattle.p21_stream_output.specs.Output.{output_text}
use Rattle.p21_numbered_file.proofs.comparing.are_same_but_for_names.Goals as goal

pub returns-then-eq : goal.returns-then-eq
returns-then-eq c = one-text_tells c.args.schema.now c.well_formed-2.ensures c.args.limits c.args.one.now c.args.other.now
    ((bytes_eq-Decides c.args.one.now c.args.other.now).0 (sym c.eq.ensures ∙ c.if-eq.true))

pub returns-in-Ok-second : goal.returns-in-Ok-second
returns-in-Ok-second c =
    numbers-told c.args.schema.now c.well_formed-2.ensures c.args.limits c.args.one.now c.args.other.now (output_text c.in-Ok.first)
    (output_text c.in-Ok-second.second) c.in-Ok.ensures c.in-Ok-second.ensures c.have_one_text.result c.have_one_text.ensures.ok
    c.have_one_text.ensures.err

pub returns-in-Ok : goal.returns-in-Ok
returns-in-Ok c =
    let T : Result Bool Unnumbered → Type 0 = λ r. TellsTexts c.args.schema.now c.args.limits c.args.one.now c.args.other.now r in
    subst T (sym c.apart.ensures) (second-none c.args.schema.now c.well_formed-2.ensures c.args.limits c.args.one.now c.args.other.now
    (output_text c.in-Ok.first) c.in-Err-second.fault c.in-Ok.ensures c.in-Err-second.ensures)

pub returns-in-Ok-second-2 : goal.returns-in-Ok-second-2
returns-in-Ok-second-2 c =
    let T : Result Bool Unnumbered → Type 0 = λ r. TellsTexts c.args.schema.now c.args.limits c.args.one.now c.args.other.now r in
    subst T (sym c.apart-in-Ok-second-2.ensures) (first-none c.args.schema.now c.well_formed-2.ensures c.args.limits c.args.one.now
    c.args.other.now (output_text c.in-Ok-second-2.field-0) c.in-Err.fault c.in-Err.ensures c.in-Ok-second-2.ensures)

pub returns : goal.returns
returns c =
    let T : Result Bool Unnumbered → Type 0 = λ r. TellsTexts c.args.schema.now c.args.limits c.args.one.now c.args.other.now r in
    subst T (sym c.without_numbers.ensures) (neither-has c.args.schema.now c.well_formed-2.ensures c.args.limits c.args.one.now
    c.args.other.now c.in-Err.fault c.in-Err-second-2.its c.in-Err.ensures c.in-Err-second-2.ensures)
