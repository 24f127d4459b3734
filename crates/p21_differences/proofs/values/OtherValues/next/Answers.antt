use Rattle.std.proofs.Common.{arith, ◌∙◌, subst, sym}
use Rattle.p21_express_graph.specs.Meaning.{place as place_of}
use Rattle.p21_express_graph.specs.Resolved.{IsPlace}
use Rattle.p21_spec_schema.specs.Schema.{Schema}
use Rattle.p21_differences.proofs.Handing.{none-first, none-second, other-found, same-passed}
use Rattle.p21_differences.proofs.values.OtherValues.next.Goals as goal

pub returns-in_default-next-clause-handed : goal.returns-in_default-next-clause-handed
returns-in_default-next-clause-handed c rows others tells =
    none-second c.loop-before.self.first c.loop-before.self.second c.next.new.self c.next-in-Some.new.self rows others c.in-Some.before
    (record { first = c.next.new.self; second = c.next-in-Some.new.self })
    (c.loop-before.invariant.0 rows others tells) c.in-Some.ensures.handed c.in_default-next.ensures.handed

pub returns-then-differ-clause-handed : goal.returns-then-differ-clause-handed
returns-then-differ-clause-handed c rows others tells =
    other-found c.loop-before.self.first c.loop-before.self.second c.next.new.self c.next-in-Some.new.self rows others c.in-Some.before
    c.in-Some-next.after (c.loop-before.invariant.0 rows others tells)
    c.in-Some.ensures.handed c.in-Some-next.ensures.handed (rw c.if-differ.true at c.differ.ensures)

pub loop-before-preserved : goal.loop-before-preserved
loop-before-preserved c = (
  λ rows others tells.
      same-passed c.loop-before.self.first c.loop-before.self.second c.next.new.self c.next-in-Some.new.self rows others c.in-Some.before
      c.in-Some-next.after (c.loop-before.invariant.0 rows others tells)
      c.in-Some.ensures.handed c.in-Some-next.ensures.handed (rw c.if-differ.false at c.differ.ensures),
  (let low = c.loop-before.invariant.1 in let less = c.in-Some.ensures.shorter in omega (arith, low, less)),
  c.in-Some.ensures.schema ∙ c.loop-before.invariant.2,
)

pub returns-clause-handed : goal.returns-clause-handed
returns-clause-handed c rows others tells =
    none-first c.loop-before.self.first c.loop-before.self.second c.next.new.self rows others
    (record { first = c.next.new.self; second = c.loop-before.self.second }) (c.loop-before.invariant.0 rows others tells)
    c.in_default.ensures.handed

pub returns-then-differ-clause-place : goal.returns-then-differ-clause-place
returns-then-differ-clause-place c =
    let P : Schema → Type 0 = λ s. IsPlace s (place_of c.in-Some.before.place) in
    subst P c.loop-before.invariant.2 c.in-Some.ensures.place
