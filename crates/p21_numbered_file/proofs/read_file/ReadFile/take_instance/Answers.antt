use Rattle.std.proofs.Common.{◌-◌, arith, refl}
use Rattle.p21_grammar_tree.specs.View.{record_view}
use Rattle.p21_mapping.specs.Checked.{needs_view}
use Rattle.p21_numbered_file.proofs.SecondReading.{instance-read, section-begun}
use Rattle.p21_numbered_file.specs.declared.read_file.ReadInstance.{ReadInstance}
use Rattle.p21_numbered_file.proofs.read_file.ReadFile.take_instance.Goals as goal

pub returns : goal.returns
returns c = λ next.
    let begun = section-begun c.args.schema.now c.args.name (record_view c.args.of) c.args.self.now next in
    let one : ReadInstance = record { name = c.name.inside.0; section = c.len-section.result - 1; typed = c.in-Ok.typed } in
    instance-read c.args.schema.now c.args.name (record_view c.args.of) c.args.self.now next one _ c.name.view_is
    (needs_view c.in-Ok._needs.items) c.in-Ok.ensures (omega (arith, begun, c.len-section.ensures)) c.in_ok-push.ensures.items refl refl

pub overflow_sub-section : goal.overflow_sub-section
overflow_sub-section c =
    let begun = section-begun c.args.schema.now c.args.name (record_view c.args.of) c.args.self.now c.requires in
    omega (arith, begun)
