use Rattle.std.proofs.Common.{arith, ap, map, ◌∙◌}
use Rattle.std.proofs.lemmas.List.{take_all}
use Rattle.std.specs.Prelude.{List}
use Rattle.p21_numbered_file.specs.declared.read_file.ReadInstance.{ReadInstance}
use Rattle.p21_numbered_file.proofs.numbering.places_of.Goals as goal

pub returns : goal.returns
returns c = c.loop-k.invariant ∙ ap (λ (is : List ReadInstance). map (λ (i : ReadInstance). i.section) is)
    (take_all c.loop-k.k c.args.instances.now (omega (arith, c.loop-k-test.false)))
