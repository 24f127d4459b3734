use Rattle.std.specs.Prelude.{◌≡◌, length}
use Rattle.std.proofs.Common.{arith, ap}
use Rattle.std.proofs.lemmas.List.{length-map}
use Rattle.p21_express_graph.specs.Rising.{texts_of}
use Rattle.p21_express.proofs.OwnerLists.{blank}
use Rattle.p21_express.proofs.named_owners.NamedOwners.without_owners.Goals as goal

pub returns : goal.returns
returns c =
    let long : length (texts_of c.deref.result.now) ≡ length c.deref.result.now = length-map c.deref.result.now (λ t. t.now) in
    blank (texts_of c.deref.result.now) _ c.in_ok-names.ensures.names c.in_ok-names.ensures.distinct
    (omega (arith, c.in_ok-owners.ensures.size, c.len.ensures, ap length c.deref.ensures.value, long)) c.in_ok-owners.ensures.empty
