use Rattle.std.proofs.Common.{ℕ, List, ◌++◌, codes, subst}
use Rattle.p21_commands.specs.SchemaText.{entity_name, entity_prefix, words_of}
use Rattle.p21_commands.proofs.SchemaTexts.{line-text}
use Rattle.p21_spec_file.specs.ValueText.{with_commas_between}
use Rattle.p21_spec_schema.specs.Order.{places}
use Rattle.p21_stream_io.specs.Transfer.{AppendsAllBut, AppendsPartOf}
use Rattle.p21_stream_output.proofs.Putting.{part_more, then_all, then_part}
use Rattle.p21_commands.proofs.print.put_entity.Goals as goal

pub returns-in_default-clause-err : goal.returns-in_default-clause-err
returns-in_default-clause-err g c =
    let s = c.args.schema.now in
    let e = c.args.entity.0 in
    let w : List ℕ = c.args.waiting.now in
    let words : List ℕ = with_commas_between (words_of s e (places s e)) in
    let P : List ℕ → Type 0 = λ z. AppendsPartOf (g.W.Write.contents c.args.writer.now.inner)
    (g.W.Write.contents c.put_front.new.writer.inner) (w ++ z) in
    subst P (line-text (entity_prefix s e) (entity_name s e) words)
    (part_more _ _ w (entity_prefix s e ++ entity_name s e) (codes "(" ++ (words ++ codes ")\n")) c.in_default.ensures.err)

pub returns-in_default-put-clause-err : goal.returns-in_default-put-clause-err
returns-in_default-put-clause-err g c =
    let s = c.args.schema.now in
    let e = c.args.entity.0 in
    let w : List ℕ = c.args.waiting.now in
    let words : List ℕ = with_commas_between (words_of s e (places s e)) in
    let P : List ℕ → Type 0 = λ z. AppendsPartOf (g.W.Write.contents c.args.writer.now.inner) (g.W.Write.contents c.put.new.writer.inner)
    (w ++ z) in
    subst P (line-text (entity_prefix s e) (entity_name s e) words)
    (then_part _ _ _ w (entity_prefix s e ++ entity_name s e) c.put_front.new.waiting (codes "(" ++ (words ++ codes ")\n"))
    c.in-Ok.ensures.ok (part_more _ _ c.put_front.new.waiting (codes "(") (words ++ codes ")\n") c.in_default-put.ensures.err))

pub returns-in_default-put_words-clause-err : goal.returns-in_default-put_words-clause-err
returns-in_default-put_words-clause-err g c =
    let s = c.args.schema.now in
    let e = c.args.entity.0 in
    let w : List ℕ = c.args.waiting.now in
    let words : List ℕ = with_commas_between (words_of s e (places s e)) in
    let P : List ℕ → Type 0 = λ z. AppendsPartOf (g.W.Write.contents c.args.writer.now.inner)
    (g.W.Write.contents c.put_words.new.writer.inner) (w ++ z) in
    subst P (line-text (entity_prefix s e) (entity_name s e) words)
    (then_part _ _ _ w (entity_prefix s e ++ entity_name s e) c.put_front.new.waiting (codes "(" ++ (words ++ codes ")\n"))
    c.in-Ok.ensures.ok
    (then_part _ _ _ c.put_front.new.waiting (codes "(") c.put.new.self (words ++ codes ")\n") c.in-Ok-put.ensures.ok
    (part_more _ _ c.put.new.self words (codes ")\n") c.in_default-put_words.ensures.err)))

pub returns-in_default-put-2-clause-err : goal.returns-in_default-put-2-clause-err
returns-in_default-put-2-clause-err g c =
    let s = c.args.schema.now in
    let e = c.args.entity.0 in
    let w : List ℕ = c.args.waiting.now in
    let words : List ℕ = with_commas_between (words_of s e (places s e)) in
    let P : List ℕ → Type 0 = λ z. AppendsPartOf (g.W.Write.contents c.args.writer.now.inner) (g.W.Write.contents c.put-2.new.writer.inner)
    (w ++ z) in
    subst P (line-text (entity_prefix s e) (entity_name s e) words)
    (then_part _ _ _ w (entity_prefix s e ++ entity_name s e) c.put_front.new.waiting (codes "(" ++ (words ++ codes ")\n"))
    c.in-Ok.ensures.ok
    (then_part _ _ _ c.put_front.new.waiting (codes "(") c.put.new.self (words ++ codes ")\n") c.in-Ok-put.ensures.ok
    (then_part _ _ _ c.put.new.self words c.put_words.new.waiting (codes ")\n") c.in-Ok-put_words.ensures.ok
    c.in_default-put-2.ensures.err)))

pub returns-clause-ok : goal.returns-clause-ok
returns-clause-ok g c =
    let s = c.args.schema.now in
    let e = c.args.entity.0 in
    let w : List ℕ = c.args.waiting.now in
    let words : List ℕ = with_commas_between (words_of s e (places s e)) in
    let P : List ℕ → Type 0 = λ z. AppendsAllBut (g.W.Write.contents c.args.writer.now.inner) (g.W.Write.contents c.put-2.new.writer.inner)
    (w ++ z) c.put-2.new.self in
    subst P (line-text (entity_prefix s e) (entity_name s e) words)
    (then_all _ _ _ w (entity_prefix s e ++ entity_name s e) c.put_front.new.waiting (codes "(" ++ (words ++ codes ")\n")) _
    c.in-Ok.ensures.ok
    (then_all _ _ _ c.put_front.new.waiting (codes "(") c.put.new.self (words ++ codes ")\n") _ c.in-Ok-put.ensures.ok
    (then_all _ _ _ c.put.new.self words c.put_words.new.waiting (codes ")\n") _ c.in-Ok-put_words.ensures.ok
    c.in-Ok-put-2.ensures.ok)))
