use Rattle.std.specs.Prelude.{◌++◌, [], ◌∷◌}
use Rattle.std.proofs.Common.{ap, sym, ◌∙◌}
use Rattle.p21_express_graph.specs.Rising.{texts_of}
use Rattle.p21_express_outline.specs.Outline.{digest_own_names}
use Rattle.p21_express_outline.proofs.Adding.{text-more}
use Rattle.p21_express_outline.proofs.names.add_own_name.Goals as goal

pub returns-in_ok-push-in-Own : goal.returns-in_ok-push-in-Own
returns-in_ok-push-in-Own c =
    text-more c.args.names.now.items c.push.new.self.items c.bytes.result c.in-Own.name c.in_ok-push-in-Own.ensures.items c.bytes.ensures
    ∙ ap (λ attribute. texts_of c.args.names.now.items ++ digest_own_names (attribute ∷ [])) (sym c.in-Own.is)
