use Rattle.std.proofs.Common.{ℕ, List, refl, subst, ◌++◌}
use Rattle.p21_express_graph.specs.Meaning.{place as place_of}
use Rattle.p21_stream_io.specs.Transfer.{AppendsAllBut, AppendsPartOf}
use Rattle.p21_stream_output.proofs.Putting.{part_more, then_all, then_part}
use Rattle.p21_commands.specs.SchemaText.{word_of}
use Rattle.p21_commands.proofs.SchemaTexts.{word-is, word-text}
use Rattle.p21_commands.proofs.print.put_word.Goals as goal

pub returns-in_default-clause-err : goal.returns-in_default-clause-err
returns-in_default-clause-err g c =
    let old = g.W.Write.contents c.args.writer.now.inner in
    let new = g.W.Write.contents c.put.new.writer.inner in
    let word = word_of c.args.schema.now c.args.entity.0 (place_of c.args.place) in
    subst (λ (z : List ℕ). AppendsPartOf old new (c.args.waiting.now ++ z))
    (word-text c.args.some c.comma_if.result.now word word c.comma_if.ensures refl)
    (part_more old new c.args.waiting.now c.comma_if.result.now word c.in_default.ensures.err)

pub returns-in_default-put-clause-err : goal.returns-in_default-put-clause-err
returns-in_default-put-clause-err g c =
    let old = g.W.Write.contents c.args.writer.now.inner in
    let new = g.W.Write.contents c.put-2.new.writer.inner in
    let place = place_of c.args.place in
    let word = word_of c.args.schema.now c.args.entity.0 place in
    let is = word-is c.args.schema.now c.args.entity.0 place c.place_word.result.now c.place_word.ensures in
    subst (λ (z : List ℕ). AppendsPartOf old new (c.args.waiting.now ++ z))
    (word-text c.args.some c.comma_if.result.now c.place_word.result.now word c.comma_if.ensures is)
    (then_part old _ new c.args.waiting.now c.comma_if.result.now c.put.new.self c.place_word.result.now c.in-Ok.ensures.ok
    c.in_default-put.ensures.err)

pub returns-clause-ok : goal.returns-clause-ok
returns-clause-ok g c =
    let old = g.W.Write.contents c.args.writer.now.inner in
    let new = g.W.Write.contents c.put-2.new.writer.inner in
    let place = place_of c.args.place in
    let word = word_of c.args.schema.now c.args.entity.0 place in
    let is = word-is c.args.schema.now c.args.entity.0 place c.place_word.result.now c.place_word.ensures in
    subst (λ (z : List ℕ). AppendsAllBut old new (c.args.waiting.now ++ z) c.put-2.new.self)
    (word-text c.args.some c.comma_if.result.now c.place_word.result.now word c.comma_if.ensures is)
    (then_all old _ new c.args.waiting.now c.comma_if.result.now c.put.new.self c.place_word.result.now c.put-2.new.self c.in-Ok.ensures.ok
    c.in-Ok-put.ensures.ok)
