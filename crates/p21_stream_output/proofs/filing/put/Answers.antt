use Rattle.std.proofs.Common.{◌<◌, length, arith, refl, sym}
use Rattle.std.proofs.lemmas.Bool.Decides.{Decides-ltb}
use Rattle.p21_stream_output.proofs.Rows.{heads-put, row-none, row-put}
use Rattle.p21_stream_output.proofs.filing.put.Goals as goal

pub returns-in_err-push-clause-heads : goal.returns-in_err-push-clause-heads
returns-in_err-push-clause-heads c = let (test, at, some, none, within) = c.in-Some.ensures.item in
    heads-put c.args.parts.now.items c.args.section c.in-Some.part.now _ (λ d. within (omega arith) d) refl refl

pub returns-in_ok-push-clause-heads : goal.returns-in_ok-push-clause-heads
returns-in_ok-push-clause-heads c = let (test, at, some, none, within) = c.in-Some.ensures.item in
    heads-put c.args.parts.now.items c.args.section c.in-Some.part.now _ (λ d. within (omega arith) d) refl refl

pub returns-in_ok-push-clause-rows : goal.returns-in_ok-push-clause-rows
returns-in_ok-push-clause-rows c =
    let (test, at, some, none, within) = c.in-Some.ensures.item in
    let low : c.args.section < length c.args.parts.now.items = (Decides-ltb c.args.section (length c.args.parts.now.items)).0 (sym test) in
    row-put c.args.parts.now.items c.args.section c.args.place c.in-Some.part.now _ low (λ d. within (omega arith) d)
    c.in_ok-push.ensures.ok

pub returns-in_default-clause-rows : goal.returns-in_default-clause-rows
returns-in_default-clause-rows c =
    let (test, at, some, none, within) = c.in_default.ensures.item in
    row-none c.args.parts.now.items c.args.section c.args.place none
