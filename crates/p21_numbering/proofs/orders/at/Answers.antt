use Rattle.std.proofs.Common.{ap, sym, ◌∙◌}
use Rattle.std.proofs.lemmas.List.{get_or-map}
use Rattle.p21_numbering.specs.Ranked.{held_instance, no_instance}
use Rattle.p21_numbering.proofs.orders.at.Goals as goal

pub returns : goal.returns
returns c = ap held_instance c.index-instances-k.is
    ∙ sym (get_or-map held_instance c.args.instances.now c.args.k c.index-instances-k.result no_instance c.requires)
