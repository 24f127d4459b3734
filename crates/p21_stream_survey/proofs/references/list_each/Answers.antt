use Rattle.std.proofs.Common.{◌+◌, List, None, drop, ap, arith, subst}
use Rattle.std.proofs.lemmas.List.{drop_all}
use Rattle.p21_spec_laws.specs.Waiting.{Reference}
use Rattle.p21_stream_kept.proofs.Unserved.{references-from}
use Rattle.p21_stream_kept.specs.Inside.{reference_of, references_of}
use Rattle.p21_stream_survey.proofs.Told.{AddsSoFar, adds-next, answered-at, adds-nothing, lists-all}
use Rattle.p21_stream_survey.specs.Silence.{silence_of}
use Rattle.p21_stream_survey.proofs.references.list_each.Goals as goal

pub loop-index-init : goal.loop-index-init
loop-index-init c = record {
  adds = λ s stored all. adds-nothing s stored (silence_of c.args.silence) (references_of c.args.waiting.now)
      c.args.refusals.now.items;
  counted = λ few. few;
}

pub loop-index-preserved : goal.loop-index-preserved
loop-index-preserved c =
    let waiting = c.args.waiting.now in
    let silence = silence_of c.args.silence in
    let k = c.loop-index.index in
    let item = c.index-waiting-index.result in
    let one_more = c.in-Ok.ensures.counted in record {
      adds = λ s stored all.
          let So_far : List Reference → Type 0 = λ rest. AddsSoFar s stored silence (references_of waiting) c.args.refusals.now.items
          c.loop-index.refusals.items rest in
          let answers = answered-at s stored waiting c.args.found.now k item None c.index-waiting-index.is c.loop-index-test.true
          (omega (arith, c.loop-index-test.true, c.requires)) all in
          adds-next s stored silence (references_of waiting) c.args.refusals.now.items c.loop-index.refusals.items
          c.list_one.new.refusals.items (reference_of item) (references_of (drop (k + 1) waiting))
          (subst So_far (references-from waiting k item c.index-waiting-index.is c.loop-index-test.true)
          (c.loop-index.invariant.adds s stored all)) (c.in-Ok.ensures.adds s stored answers);
      counted = λ few. omega (arith, one_more, c.len.ensures, c.if-len-most.false, c.loop-index.refusals.ok.0);
    }

pub returns-clause-lists : goal.returns-clause-lists
returns-clause-lists c = λ s stored all.
    let silence = silence_of c.args.silence in
    let So_far : List Reference → Type 0 = λ rest. AddsSoFar s stored silence (references_of c.args.waiting.now) c.args.refusals.now.items
    c.loop-index.refusals.items rest in
    lists-all s stored silence (references_of c.args.waiting.now) c.args.most c.args.refusals.now.items c.loop-index.refusals.items
    (subst So_far (ap references_of (drop_all c.loop-index.index c.args.waiting.now c.loop-index-test.false))
    (c.loop-index.invariant.adds s stored all))
