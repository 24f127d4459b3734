use Rattle.std.proofs.Common.{◌≡◌, ◌++◌, List, ap, arith, length, subst, ◌∙◌}
use Rattle.p21_commands.specs.SchemaText.{are_some, joined, words_of}
use Rattle.p21_commands.proofs.SchemaTexts.{own-next, own-part, some-next}
use Rattle.p21_express_graph.specs.Lookups.{places_from}
use Rattle.p21_express_graph.proofs.Lookups.{own-places-are}
use Rattle.p21_spec_schema.specs.Schema.{Place, attributes_of}
use Rattle.p21_stream_io.specs.Transfer.{AppendsAllBut}
use Rattle.p21_commands.proofs.print.put_own.Goals as goal

pub returns-in_default-clause-err : goal.returns-in_default-clause-err
returns-in_default-clause-err g c =
    own-part _ _ _ c.args.waiting.now c.loop-index.waiting c.args.some c.args.schema.now c.args.entity.0 c.args.owner.0 c.loop-index.index
    c.loop-index.invariant.puts c.loop-index.after c.loop-index.invariant.stand
    (omega (arith, c.loop-index-test.true, c.attribute_count-index-end.ensures)) c.in_default.ensures.err

pub loop-index-preserved : goal.loop-index-preserved
loop-index-preserved g c = record {
  puts = own-next _ _ _ c.args.waiting.now c.loop-index.waiting c.args.some c.args.schema.now c.args.entity.0 c.args.owner.0
      c.loop-index.index c.loop-index.invariant.puts c.loop-index.after c.loop-index.invariant.stand _ c.in-Ok.ensures.ok;
  stand = some-next c.args.some c.args.schema.now c.args.entity.0 c.args.owner.0 c.loop-index.index;
  failures = c.in-Ok.ensures.written ∙ c.loop-index.invariant.failures;
}

pub returns-clause-ok : goal.returns-clause-ok
returns-clause-ok g c =
    let s = c.args.schema.now in
    let owner = c.args.owner.0 in
    let P : List Place → Type 0 = λ ps. AppendsAllBut (g.W.Write.contents c.args.writer.now.inner)
    (g.W.Write.contents c.loop-index.writer.inner) (c.args.waiting.now ++ joined c.args.some (words_of s c.args.entity.0 ps))
    c.loop-index.waiting in
    let end : c.loop-index.index ≡ length (attributes_of s owner) =
    omega (arith, c.attribute_count-index-end.ensures, c.loop-index-test.false, c.loop-index.auto.index-end) in
    subst P (ap (places_from owner 0) end ∙ own-places-are s owner) c.loop-index.invariant.puts

pub returns-clause-some : goal.returns-clause-some
returns-clause-some g c =
    let s = c.args.schema.now in
    let owner = c.args.owner.0 in
    let P : List Place → Type 0 = λ ps. c.loop-index.after ≡ are_some c.args.some (words_of s c.args.entity.0 ps) in
    let end : c.loop-index.index ≡ length (attributes_of s owner) =
    omega (arith, c.attribute_count-index-end.ensures, c.loop-index-test.false, c.loop-index.auto.index-end) in
    subst P (ap (places_from owner 0) end ∙ own-places-are s owner) c.loop-index.invariant.stand
