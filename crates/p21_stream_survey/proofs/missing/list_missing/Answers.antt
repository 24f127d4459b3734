use Rattle.std.proofs.Common.{◌+◌, List, ap, arith, drop, subst}
use Rattle.std.proofs.lemmas.List.{drop_all}
use Rattle.p21_stream_survey.proofs.MissingTold.{AddsSoFar, adds-next, adds-nothing, claims-from, lists-all, lists-most}
use Rattle.p21_stream_survey.specs.Missing.{ListsMissing}
use Rattle.p21_stream_survey.specs.Silence.{silence_of}
use Rattle.p21_stream_syntax.specs.Given.{kept_of}
use Rattle.p21_stream_syntax.specs.Waiting.{Claim, claims_in}
use Rattle.p21_stream_survey.proofs.missing.list_missing.Goals as goal

pub loop-index-init : goal.loop-index-init
loop-index-init c = record {
  adds = adds-nothing (kept_of c.args.given.now).names (silence_of c.args.silence) (claims_in c.waiting-waiting.result.now)
      c.args.refusals.now.items;
  counted = λ few. few;
}

pub returns-then-len-most-clause-lists : goal.returns-then-len-most-clause-lists
returns-then-len-most-clause-lists c =
    let names = (kept_of c.args.given.now).names in
    let silence = silence_of c.args.silence in
    let old = c.args.refusals.now.items in
    let now = c.loop-index.refusals.items in
    let waiting = c.waiting-waiting.result.now in
    subst (λ (w : List Claim). ListsMissing names w silence c.args.most old now) c.waiting-waiting.ensures
    (lists-most names silence (claims_in waiting) c.args.most old now (claims_in (drop c.loop-index.index waiting))
    c.loop-index.invariant.adds (omega (arith, c.if-len-most.true, c.len.ensures, c.loop-index.refusals.ok.0)))

pub returns-then-len-most-clause-counted : goal.returns-then-len-most-clause-counted
returns-then-len-most-clause-counted c = λ few. c.loop-index.invariant.counted few

pub loop-index-preserved : goal.loop-index-preserved
loop-index-preserved c =
    let names = (kept_of c.args.given.now).names in
    let silence = silence_of c.args.silence in
    let old = c.args.refusals.now.items in
    let now = c.loop-index.refusals.items in
    let waiting = c.waiting-waiting.result.now in
    let k = c.loop-index.index in
    let item = c.index-waiting-index.result in
    let one_more = c.in-Ok.ensures.counted in record {
      adds =
          adds-next names silence (claims_in waiting) old now c.list_one_missing.new.refusals.items (item.holder, item.target)
          (claims_in (drop (k + 1) waiting))
          (subst (λ (rest : List Claim). AddsSoFar names silence (claims_in waiting) old now rest)
          (claims-from waiting k item c.index-waiting-index.is c.loop-index-test.true) c.loop-index.invariant.adds) c.in-Ok.ensures.adds;
      counted = λ few. omega (arith, one_more, c.len.ensures, c.if-len-most.false, c.loop-index.refusals.ok.0);
    }

pub returns-clause-lists : goal.returns-clause-lists
returns-clause-lists c =
    let names = (kept_of c.args.given.now).names in
    let silence = silence_of c.args.silence in
    let old = c.args.refusals.now.items in
    let now = c.loop-index.refusals.items in
    let waiting = c.waiting-waiting.result.now in
    subst (λ (w : List Claim). ListsMissing names w silence c.args.most old now) c.waiting-waiting.ensures
    (lists-all names silence (claims_in waiting) c.args.most old now
    (subst (λ (rest : List Claim). AddsSoFar names silence (claims_in waiting) old now rest)
    (ap claims_in (drop_all c.loop-index.index waiting c.loop-index-test.false)) c.loop-index.invariant.adds))

pub returns-clause-counted : goal.returns-clause-counted
returns-clause-counted c = λ few. c.loop-index.invariant.counted few
