use Rattle.std.specs.Prelude.{◌≡◌, List, [], true, false, length}
use Rattle.std.proofs.Common.{arith, ap, sym, ◌∙◌, subst}
use Rattle.p21_commands.specs.OwnTexts.{IsPlainWord}
use Rattle.p21_commands.proofs.OwnWords.{StandBehind, behind-next}
use Rattle.p21_express_graph.specs.Lookups.{places_from}
use Rattle.p21_express_graph.proofs.Lookups.{own-places-are}
use Rattle.p21_spec_schema.specs.Schema.{Place, attributes_of}
use Rattle.p21_commands.proofs.print.own_text.Goals as goal

pub loop-index-preserved : goal.loop-index-preserved
loop-index-preserved c =
    let (name, named, new_is) = c.in_ok-push_name.ensures in
    behind-next (IsPlainWord c.args.schema.now) c.args.owner.0 c.loop-index.index [] c.loop-index.text.items c.push_name.new.out.items name
    c.loop-index.invariant (
      (λ derived. let t : true ≡ false = sym (c.is_derived.ensures.1 derived) ∙ c.if-is_derived.false in cc),
      named,
    ) new_is

pub returns : goal.returns
returns c =
    let s = c.args.schema.now in
    let e = c.args.owner.0 in
    let P : List Place → Type 0 = λ ps. StandBehind (IsPlainWord s) ps [] c.loop-index.text.items in
    let end : c.loop-index.index ≡ length (attributes_of s e) =
    omega (arith, c.attribute_count-index-end.ensures, c.loop-index-test.false, c.loop-index.auto.index-end) in
    subst P (ap (places_from e 0) end ∙ own-places-are s e) c.loop-index.invariant
