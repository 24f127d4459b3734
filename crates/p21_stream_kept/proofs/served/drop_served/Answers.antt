use Rattle.std.proofs.Common.{◌<◌, ◌∙◌, ℕ, List, arith, drop, length, set, subst, sym, take, ◌+◌}
use Rattle.std.proofs.lemmas.List.{length-set}
use Rattle.p21_spec_laws.specs.Waiting.{Reference}
use Rattle.p21_stream_kept.proofs.Dropping.{AreLooked, looked-all, looked-served, looked-unserved}
use Rattle.p21_stream_kept.specs.Inside.{references_of, stored_in}
use Rattle.p21_stream_kept.specs.Served.{DropsBehind}
use Rattle.p21_stream_kept.specs.declared.kept.Reference as held
use Rattle.p21_stream_kept.proofs.served.drop_served.Goals as goal
use Rattle.p21_stream_kept.proofs.served.drop_served.Goals.{then-not-is_served_now, else-not-is_served_now}

pub loop-index-preserved : goal.loop-index-preserved
loop-index-preserved c =
    let s = c.args.schema.now in
    let stored = stored_in c.args.stored.now in
    let front : List Reference = references_of (take c.args.from c.args.waiting.now.items) in
    let old : List Reference = references_of (drop c.args.from c.args.waiting.now.items) in
    let now : List held.Reference = c.loop-index.waiting.items in
    let left = c.loop-index.left in
    let x : held.Reference = c.index.result.now in
    let low : c.loop-index.index < length now = omega (
      arith,
      c.loop-index-test.true,
      c.len-index-end.ensures,
      c.loop-index.invariant.as_many,
    ) in
    let P : ℕ → Type 0 = λ n. AreLooked s stored front old (set now left x) n (c.loop-index.index + 1) in record {
      as_many = length-set now left x ∙ c.loop-index.invariant.as_many;
      looked = elim c.if-not-is_served_now.branch [
        | then-not-is_served_now w ↦ subst P (sym w.left-is)
            (looked-unserved s stored front old now left c.loop-index.index c.loop-index.invariant.looked x c.index.ensures low
            (c.is_served_now.ensures.unserved w.if-not-is_served_now.true))
        | else-not-is_served_now w ↦ subst P (sym w.left-is)
            (looked-served s stored front old now left c.loop-index.index c.loop-index.invariant.looked x c.index.ensures low
            (c.is_served_now.ensures.served w.if-not-is_served_now.false))
      ];
      right = c.is_served_now.ensures.right;
    }

pub returns-clause-drops : goal.returns-clause-drops
returns-clause-drops c =
    let s = c.args.schema.now in
    let stored = stored_in c.args.stored.now in
    let front : List Reference = references_of (take c.args.from c.args.waiting.now.items) in
    let old : List Reference = references_of (drop c.args.from c.args.waiting.now.items) in
    let now : List held.Reference = c.loop-index.waiting.items in
    let Drops : List held.Reference → Type 0 = λ left. DropsBehind s stored front old (references_of left) in
    subst Drops (sym (c.give_back.ensures.items ∙ c.truncate.ensures.items))
    (looked-all s stored front old now c.loop-index.left c.loop-index.index c.loop-index.invariant.looked
    (omega (arith, c.loop-index-test.false, c.len-index-end.ensures, c.loop-index.invariant.as_many)))
