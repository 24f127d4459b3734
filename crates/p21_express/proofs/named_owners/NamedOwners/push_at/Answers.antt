use Rattle.std.specs.Prelude.{◌∷◌, ◌++◌, [], slice_set}
use Rattle.std.proofs.Common.{ap, sym, ◌∙◌, refl}
use Rattle.std.proofs.lemmas.List.{map-append}
use Rattle.p21_express_graph.specs.Orders.{numbers, number_lists}
use Rattle.p21_express_graph.proofs.OrderTables.{map-set}
use Rattle.p21_express_graph.proofs.Walks.{nexts_at}
use Rattle.p21_express.proofs.named_owners.NamedOwners.push_at.Goals as goal

pub returns-clause-owners : goal.returns-clause-owners
returns-clause-owners c =
    map-set (λ v. numbers v.items) c.args.self.now.owners.items c.args.at c.push.new.self
    ∙ ap (slice_set (number_lists c.args.self.now.owners.items) c.args.at)
    (ap numbers c.in_ok-push.ensures.items ∙ map-append (λ e. e.0) c.index_mut.result.now.items (c.args.owner ∷ [])
    ∙ ap (λ ks. ks ++ c.args.owner.0 ∷ []) (sym (nexts_at (λ v. numbers v.items) c.args.self.now.owners.items c.args.at
    c.index_mut.result.now (numbers c.index_mut.result.now.items) c.requires c.index_mut.ensures.value refl)))
