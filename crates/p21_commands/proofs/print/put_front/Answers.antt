use Rattle.std.proofs.Common.{ℕ, List, subst, ◌++◌, ap, ◌∙◌}
use Rattle.p21_stream_io.specs.Transfer.{AppendsAllBut, AppendsPartOf}
use Rattle.p21_stream_output.proofs.Putting.{then_all, then_part}
use Rattle.p21_commands.specs.SchemaText.{entity_prefix}
use Rattle.p21_commands.proofs.SchemaTexts.{name-is}
use Rattle.p21_commands.proofs.print.put_front.Goals as goal

pub returns-in_default-put-clause-err : goal.returns-in_default-put-clause-err
returns-in_default-put-clause-err g c =
    let old = g.W.Write.contents c.args.writer.now.inner in
    let new = g.W.Write.contents c.put-2.new.writer.inner in
    let prefix = c.prefix.result.now in
    let name = c.entity_name.result.now in
    let is = name-is c.args.schema.now c.args.entity.0 name c.entity_name.ensures in
    subst (λ (z : List ℕ). AppendsPartOf old new (c.args.waiting.now ++ z))
    (ap (λ (z : List ℕ). z ++ name) c.prefix.ensures ∙ ap (λ (z : List ℕ). entity_prefix c.args.schema.now c.args.entity.0 ++ z) is)
    (then_part old _ new c.args.waiting.now prefix c.put.new.self name c.in-Ok.ensures.ok c.in_default-put.ensures.err)

pub returns-clause-ok : goal.returns-clause-ok
returns-clause-ok g c =
    let old = g.W.Write.contents c.args.writer.now.inner in
    let new = g.W.Write.contents c.put-2.new.writer.inner in
    let prefix = c.prefix.result.now in
    let name = c.entity_name.result.now in
    let is = name-is c.args.schema.now c.args.entity.0 name c.entity_name.ensures in
    subst (λ (z : List ℕ). AppendsAllBut old new (c.args.waiting.now ++ z) c.put-2.new.self)
    (ap (λ (z : List ℕ). z ++ name) c.prefix.ensures ∙ ap (λ (z : List ℕ). entity_prefix c.args.schema.now c.args.entity.0 ++ z) is)
    (then_all old _ new c.args.waiting.now prefix c.put.new.self name c.put-2.new.self c.in-Ok.ensures.ok c.in-Ok-put.ensures.ok)
