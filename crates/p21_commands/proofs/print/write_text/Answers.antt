use Rattle.std.proofs.Common.{ℕ, List, ◌++◌, codes, subst}
use Rattle.p21_commands.proofs.SchemaTexts.{head-text}
use Rattle.p21_commands.specs.SchemaText.{entity_lines}
use Rattle.std.specs.Io.KnownBytes.{Appends}
use Rattle.p21_stream_io.specs.Transfer.{AppendsPartOf}
use Rattle.p21_stream_output.proofs.Putting.{all_flushed, part_flushed, part_more, part_unput, then_all, then_part}
use Rattle.p21_commands.proofs.print.write_text.Goals as goal

pub returns-in_default-clause-err : goal.returns-in_default-clause-err
returns-in_default-clause-err g c =
    let s = c.args.schema.now in
    let w : List ℕ = c.new-waiting.result in
    let front : List ℕ = codes "SCHEMA " ++ (s.name ++ codes "\n") in
    let P : List ℕ → Type 0 = λ z. AppendsPartOf (g.W.Write.contents c.args.writer.now.inner)
    (g.W.Write.contents c.put_name.new.writer.inner) z in
    subst P (head-text s) (part_unput _ _ w (front ++ entity_lines s) c.new-waiting.ensures
    (part_more _ _ w front (entity_lines s) c.in_default.ensures.err))

pub returns-in_default-put_entities-clause-err : goal.returns-in_default-put_entities-clause-err
returns-in_default-put_entities-clause-err g c =
    let s = c.args.schema.now in
    let w : List ℕ = c.new-waiting.result in
    let front : List ℕ = codes "SCHEMA " ++ (s.name ++ codes "\n") in
    let P : List ℕ → Type 0 = λ z. AppendsPartOf (g.W.Write.contents c.args.writer.now.inner)
    (g.W.Write.contents c.put_entities.new.writer.inner) z in
    subst P (head-text s) (part_unput _ _ w (front ++ entity_lines s) c.new-waiting.ensures
    (then_part _ _ _ w front c.put_name.new.waiting (entity_lines s) c.in-Ok.ensures.ok c.in_default-put_entities.ensures.err))

pub returns-in_default-flush-clause-err : goal.returns-in_default-flush-clause-err
returns-in_default-flush-clause-err g c =
    let s = c.args.schema.now in
    let w : List ℕ = c.new-waiting.result in
    let front : List ℕ = codes "SCHEMA " ++ (s.name ++ codes "\n") in
    let P : List ℕ → Type 0 = λ z. AppendsPartOf (g.W.Write.contents c.args.writer.now.inner) (g.W.Write.contents c.flush.new.writer.inner)
    z in
    subst P (head-text s)
    (part_flushed _ _ _ w (front ++ entity_lines s) c.put_entities.new.waiting c.new-waiting.ensures
    (then_all _ _ _ w front c.put_name.new.waiting (entity_lines s) c.put_entities.new.waiting c.in-Ok.ensures.ok
    c.in-Ok-put_entities.ensures.ok) c.in_default-flush.ensures.err)

pub returns-clause-ok : goal.returns-clause-ok
returns-clause-ok g c =
    let s = c.args.schema.now in
    let w : List ℕ = c.new-waiting.result in
    let front : List ℕ = codes "SCHEMA " ++ (s.name ++ codes "\n") in
    let P : List ℕ → Type 0 = λ z. Appends (g.W.Write.contents c.args.writer.now.inner) (g.W.Write.contents c.flush.new.writer.inner) z in
    subst P (head-text s)
    (all_flushed _ _ _ w (front ++ entity_lines s) c.put_entities.new.waiting c.new-waiting.ensures
    (then_all _ _ _ w front c.put_name.new.waiting (entity_lines s) c.put_entities.new.waiting c.in-Ok.ensures.ok
    c.in-Ok-put_entities.ensures.ok) c.in-Ok-flush.ensures.ok.0)
