use Rattle.std.specs.Prelude.{◌<◌, ◌^◌, ◌-◌, ◌++◌, ℕ, List, [], length, true, refl, drop, take}
use Rattle.std.proofs.Common.{arith, rules, subst, sym, ◌∙◌}
use Rattle.std.proofs.lemmas.List.{append-nil, take-append-drop, take_rest}
use Rattle.p21_stream_log.specs.Log.{Known}
use Rattle.p21_stream_survey.specs.Course.{Course}
use Rattle.p21_test_survey.proofs.tests.survey_of.Goals as goal

pub feed-requires : goal.feed-requires
feed-requires c =
    let file = c.args.file.now in
    let cut = c.min-cut.result in
    let known : Known = record { bytes = file; is_all = true } in
    let few : length file < 2 ^ 64 = search (rules, arith) in
    (known, drop cut file, subst (Course known c.begun-survey.result) (sym (take-append-drop cut file)) (c.begun-survey.ensures known few))

pub feed-requires-2 : goal.feed-requires-2
feed-requires-2 c =
    let file = c.args.file.now in
    let cut = c.min-cut.result in
    let known : Known = record { bytes = file; is_all = true } in
    let few : length file < 2 ^ 64 = search (rules, arith) in
    let begun = subst (Course known c.begun-survey.result) (sym (take-append-drop cut file)) (c.begun-survey.ensures known few) in
    let behind = (c.in-Ok.ensures known (drop cut file) begun).course in
    let rest : List ℕ = take (length file - cut) (drop cut file) in
    (known, [], subst (Course known c.feed.new.self) (sym (append-nil rest ∙ take_rest file cut)) behind)

pub finish-requires : goal.finish-requires
finish-requires c =
    let file = c.args.file.now in
    let cut = c.min-cut.result in
    let known : Known = record { bytes = file; is_all = true } in
    let few : length file < 2 ^ 64 = search (rules, arith) in
    let begun = subst (Course known c.begun-survey.result) (sym (take-append-drop cut file)) (c.begun-survey.ensures known few) in
    let behind = (c.in-Ok.ensures known (drop cut file) begun).course in
    let rest : List ℕ = take (length file - cut) (drop cut file) in
    let last = subst (Course known c.feed.new.self) (sym (append-nil rest ∙ take_rest file cut)) behind in
    (known, record { all = refl; in_stage = (c.in-Ok-feed.ensures known [] last).course })
