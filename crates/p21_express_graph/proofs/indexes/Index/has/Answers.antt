use Rattle.std.specs.Prelude.{◌≡◌, ℕ, List, Contains, true, false}
use Rattle.std.specs.List.Sorted.{IsStrictlyIncreasing}
use Rattle.std.proofs.Common.{sym, ◌∙◌, subst}
use Rattle.p21_express_graph.proofs.indexes.Index.has.Goals as goal
use Rattle.p21_express_graph.proofs.Collecting.{finds}
use Rattle.p21_express_graph.proofs.FirstPositions.{prefix-known}

pub returns-in-Err : goal.returns-in-Err
returns-in-Err c run is = (
  λ told. let t : false ≡ true = told in cc,
  λ among.
      let P : List ℕ → Type 0 = λ xs. Contains xs c.args.number in
      let there = subst P (sym c.deref.ensures.value) (prefix-known run c.args.self.now.numbers.items c.args.self.now.places.items is c.args.number c.args.size among) in
      let (i, found) = finds c.deref.result.now c.args.number c.binary_search.result (subst IsStrictlyIncreasing (sym c.deref.ensures.value) is.rising.rising) c.binary_search.ensures.position there in
      let clash = sym c.in-Err.is ∙ found in cc,
)
