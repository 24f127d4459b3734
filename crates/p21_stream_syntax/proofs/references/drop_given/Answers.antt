use Rattle.std.proofs.Common.{◌<◌, ◌+◌, ◌∙◌, ℕ, List, arith, length, set, subst, sym}
use Rattle.std.proofs.lemmas.List.{length-set}
use Rattle.p21_stream_store.specs.StoredInstance.{instance_names}
use Rattle.p21_stream_syntax.proofs.Adding.{AreLooked, looked-all, looked-given, looked-left}
use Rattle.p21_stream_syntax.specs.Waiting.{Claim, Drops, claims_in}
use Rattle.p21_stream_syntax.specs.declared.references.Reference.{Reference}
use Rattle.p21_stream_syntax.proofs.references.drop_given.Goals as goal
use Rattle.p21_stream_syntax.proofs.references.drop_given.Goals.{then-not-has_come, else-not-has_come}

pub loop-index-preserved : goal.loop-index-preserved
loop-index-preserved c =
    let names = instance_names c.args.names.now in
    let old : List Claim = claims_in c.args.waiting.now.items in
    let now : List Reference = c.loop-index.waiting.items in
    let left = c.loop-index.left in
    let x : Reference = c.index.result.now in
    let many = c.loop-index.invariant.as_many in
    let low : c.loop-index.index < length now = omega (arith, c.loop-index-test.true, c.len-index-end.ensures, many) in
    let P : ℕ → Type 0 = λ n. AreLooked names old (set now left x) n (c.loop-index.index + 1) in record {
      as_many = length-set now left x ∙ many;
      looked = elim c.if-not-has_come.branch [
        | then-not-has_come w ↦ subst P (sym w.left-is) (looked-left names old now left c.loop-index.index c.loop-index.invariant.looked x
            c.index.ensures low)
        | else-not-has_come w ↦ subst P (sym w.left-is) (looked-given names old now left c.loop-index.index c.loop-index.invariant.looked x
            c.index.ensures low (c.has_come.ensures.0 w.if-not-has_come.false))
      ];
    }

pub returns : goal.returns
returns c =
    let names = instance_names c.args.names.now in
    let old : List Claim = claims_in c.args.waiting.now.items in
    let now : List Reference = c.loop-index.waiting.items in
    let many = c.loop-index.invariant.as_many in
    subst (λ (l : List Reference). Drops names old (claims_in l)) (sym c.truncate.ensures.items)
    (looked-all names old now c.loop-index.left c.loop-index.index c.loop-index.invariant.looked
    (omega (arith, c.loop-index-test.false, c.len-index-end.ensures, many)))
