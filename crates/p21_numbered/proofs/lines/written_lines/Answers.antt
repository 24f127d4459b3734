use Rattle.std.specs.Prelude.{◌≡◌, [], ℕ}
use Rattle.std.proofs.Common.{arith}
use Rattle.p21_spec_numbering.specs.Renamed.{renamed_typed}
use Rattle.p21_canon.specs.Meant.{IsMeant}
use Rattle.p21_numbering.proofs.LabelRows.{nothing-left}
use Rattle.p21_numbering.specs.Instances.{Instance}
use Rattle.p21_numbering.specs.NewNames.{new_name}
use Rattle.p21_numbered.proofs.Numbering.{all-taken, next-is, none-taken, one-taken}
use Rattle.p21_numbered.proofs.lines.written_lines.Goals as goal

pub loop-one-init : goal.loop-one-init
loop-one-init c = none-taken c.args.schema.now (new_name c.args.names.now) c.reverse.new.self.items c.args.instances.items
    c.in_ok-lines.lines.items c.reverse.ensures.items c.in_ok-lines.ensures.items

pub line_under-requires : goal.line_under-requires
line_under-requires c =
    let f : ℕ → ℕ = new_name c.args.names.now in
    next-is (λ (i : Instance). IsMeant c.args.schema.now (renamed_typed f i.typed)) c.args.schema.now f c.loop-one.left.items
    c.pop.new.self.items c.args.instances.items c.in-Some.one c.loop-one.lines.items c.loop-one.invariant c.in-Some.ensures.items
    c.requires

pub loop-one-preserved : goal.loop-one-preserved
loop-one-preserved c =
    one-taken c.args.schema.now (new_name c.args.names.now) c.loop-one.left.items c.pop.new.self.items c.args.instances.items c.in-Some.one
    c.in_ok-line.line c.loop-one.lines.items c.push.new.self.items c.loop-one.invariant c.in-Some.ensures.items c.in_ok-line.ensures
    c.in_ok-push.ensures.items

pub returns : goal.returns
returns c =
    let empty : c.loop-one.left.items ≡ [] = nothing-left c.loop-one.left.items
    (omega (arith, c.in_default.ensures.cases.0, c.loop-one.left.ok.0)) in
    all-taken c.args.schema.now (new_name c.args.names.now) c.loop-one.left.items c.args.instances.items c.loop-one.lines.items
    c.loop-one.invariant empty
