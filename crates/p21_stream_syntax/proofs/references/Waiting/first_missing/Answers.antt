use Rattle.std.proofs.Common.{◌≡◌, ◌<◌, ◌≤◌, List, arith, length, true, subst}
use Rattle.std.proofs.lemmas.List.{take_all}
use Rattle.std.specs.List.{AllByRecursion as Each}
use Rattle.p21_stream_store.specs.StoredInstance.{instance_names}
use Rattle.p21_stream_syntax.proofs.Adding.{HasCome, one-come, target-there}
use Rattle.p21_stream_syntax.specs.Waiting.{claims_in}
use Rattle.p21_stream_syntax.specs.declared.references.Reference.{Reference}
use Rattle.p21_stream_syntax.proofs.references.Waiting.first_missing.Goals as goal

pub returns-then-not-has_come-clause-some : goal.returns-then-not-has_come-clause-some
returns-then-not-has_come-clause-some c =
    let items = c.args.self.now.references.items in
    let x : Reference = c.index.result.now in
    let low : c.loop-index.index < length items = omega
    (arith, c.loop-index-test.true, c.len-index-end.ensures, c.args.self.now.references.ok.0) in (
      x.target,
      target-there items c.loop-index.index x c.index.ensures low,
      λ given.
          let passes : c.has_come.result ≡ true = c.has_come.ensures.1 given in
          let fails = c.if-not-has_come.true in
          cc,
    )

pub loop-index-preserved : goal.loop-index-preserved
loop-index-preserved c =
    let items = c.args.self.now.references.items in
    let x : Reference = c.index.result.now in
    let low : c.loop-index.index < length items = omega
    (arith, c.loop-index-test.true, c.len-index-end.ensures, c.args.self.now.references.ok.0) in
    one-come (instance_names c.args.names.now) items c.loop-index.index x c.index.ensures low c.loop-index.invariant
    (c.has_come.ensures.0 c.if-not-has_come.false)

pub returns-clause-none : goal.returns-clause-none
returns-clause-none c = λ none.
    let items = c.args.self.now.references.items in
    let past : length items ≤ c.loop-index.index = omega
    (arith, c.loop-index-test.false, c.len-index-end.ensures, c.args.self.now.references.ok.0) in
    subst (λ (l : List Reference). Each (HasCome (instance_names c.args.names.now)) (claims_in l))
    (take_all c.loop-index.index items past) c.loop-index.invariant
