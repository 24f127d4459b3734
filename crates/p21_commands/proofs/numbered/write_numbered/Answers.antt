use Rattle.std.proofs.Common.{[], ◌∷◌, inl, refl}
use Rattle.p21_commands.specs.Failures.{failures_of}
use Rattle.p21_commands.specs.Numbered.{IsNumberedUnder, IsUnnumberedUnder}
use Rattle.p21_commands.proofs.Failing.{after_reading, before_writing}
use Rattle.p21_commands.proofs.Numbering.{names-refused, numbered-under, numbering-failed}
use Rattle.p21_commands.proofs.Reporting.{unanswered}
use Rattle.p21_stream_output.specs.Output.{output_text}
use Rattle.p21_commands.proofs.numbered.write_numbered.Goals as goal

pub returns-in-Err-clause-err : goal.returns-in-Err-clause-err
returns-in-Err-clause-err g c =
    let schema = g.S.Read.remaining c.args.schema.now.inner in
    let old = g.R.Read.remaining c.args.file.now.inner in
    let new = g.R.Read.remaining c.numbered.new.reader.inner in
    unanswered (IsNumberedUnder schema old new) (IsUnnumberedUnder schema old new) (g.W.Write.contents c.args.output.now.inner)
    c.fault_of_names.result
    (names-refused schema old new _ c.in_ok-schema.ensures.ok _ c.in-Err.refusal c.fault_of_names.result c.usual.ensures
    c.fault_of_names.ensures c.in-Err.ensures.err)

pub returns-in-Ok-write_to-clause-ok : goal.returns-in-Ok-write_to-clause-ok
returns-in-Ok-write_to-clause-ok g c = record {
  line = output_text c.in-Ok.numbered;
  is_line = numbered-under _ _ _ _ c.in_ok-schema.ensures.ok _ c.in-Ok.numbered c.usual.ensures c.in-Ok.ensures.ok;
  appended = c.in-Ok-write_to.ensures.ok;
}

pub returns-clause-err : goal.returns-clause-err
returns-clause-err g c = record {
  line = output_text c.in-Ok.numbered;
  is_line = numbered-under _ _ _ _ c.in_ok-schema.ensures.ok _ c.in-Ok.numbered c.usual.ensures c.in-Ok.ensures.ok;
  part = c.in-Err-write_to.ensures.err;
}

pub returns-in-Err-clause-failed : goal.returns-in-Err-clause-failed
returns-in-Err-clause-failed g c =
    let loaded = failures_of c.args.schema.now c.load_schema.new.reader in
    let file = failures_of c.args.file.now c.numbered.new.reader in
    let fault = c.fault_of_names.result in
    let by = numbering-failed _ _ _ _ [] file c.in-Err.refusal fault c.fault_of_names.ensures c.in-Err.ensures.err
    c.in-Err.ensures.failed in
    before_writing (loaded ∷ file ∷ []) (failures_of c.args.output.now c.args.output.now ∷ []) fault
    (after_reading loaded (file ∷ []) [] fault c.in_ok-schema.ensures.read by) (refl, tt)

pub returns-clause-failed : goal.returns-clause-failed
returns-clause-failed g c = ((c.in_ok-schema.ensures.read, (c.in-Ok.ensures.read, tt)), inl (c.in-Err-write_to.ensures.failed, tt))
