use Rattle.std.proofs.Common.{List, subst, sym, ◌≡◌, ◌<◌, ◌++◌, ℕ, get_or}
use Rattle.p21_canon.proofs.FoundRows.{continues-later, on_err, part-next, part-spelled, rows-known}
use Rattle.p21_canon.specs.StatementTexts.{IsSpelledPart, part_text}
use Rattle.p21_express_graph.proofs.Gatherings.{numbered-at}
use Rattle.p21_express_graph.specs.declared.number.EntityId.{EntityId}
use Rattle.p21_spec_file.specs.ValueText.{value_texts}
use Rattle.p21_mapping_values.specs.KnownTypes.{HaveKnownTypes}
use Rattle.p21_mapping_values.specs.declared.value.Value.{Value}
use Rattle.p21_mapping_values.specs.View.{views}
use Rattle.p21_canon.proofs.parts.append_parts.Goals as goal

pub append_part-requires-clause-entity : goal.append_part-requires-clause-entity
append_part-requires-clause-entity c = c.requires.entities _
    (numbered-at (λ (e : EntityId). e.0) c.args.entities.now c.loop-i.i (record { 0 = 0 }) c.loop-i-test.true)

pub append_part-requires-clause-known : goal.append_part-requires-clause-known
append_part-requires-clause-known c =
    let P : List Value → Type 0 = λ vs. HaveKnownTypes c.args.schema.now (views vs) in
    subst P (sym c.items.ensures) (rows-known c.args.schema.now c.args.rows.now c.loop-i.i c.index-rows-i.result c.requires.known
    (subst (λ (n : ℕ). c.loop-i.i < n) c.requires.long c.loop-i-test.true) c.index-rows-i.is)

pub returns-in_err-append_part-clause-err : goal.returns-in_err-append_part-clause-err
returns-in_err-append_part-clause-err c = on_err _ _ (continues-later _ _ _ _ c.loop-i.invariant.text c.in_err-append_part.ensures.err)

pub loop-i-preserved : goal.loop-i-preserved
loop-i-preserved c =
    let s = c.args.schema.now in
    let xs = c.args.entities.now in
    let rows = c.args.rows.now in
    let r = c.index-rows-i.result in
    let P : List Value → Type 0 = λ vs. c.append_part.new.out.items ≡ c.loop-i.out.items
    ++ part_text s (get_or xs c.loop-i.i (record { 0 = 0 })).0 (value_texts s (views vs)) in
    let Q : List Value → Type 0 = λ vs. IsSpelledPart s (get_or xs c.loop-i.i (record { 0 = 0 })).0 (views vs) in record {
      text = part-next s xs rows c.loop-i.i (record { 0 = 0 }) r c.args.out.now.items c.loop-i.out.items c.append_part.new.out.items
          c.loop-i-test.true c.requires.long c.index-rows-i.is c.loop-i.invariant.text
          (subst P c.items.ensures c.in_ok-append_part.ensures.ok);
      spelled = part-spelled s xs rows c.loop-i.i (record { 0 = 0 }) r c.loop-i-test.true c.requires.long c.index-rows-i.is
          c.loop-i.invariant.spelled (subst Q c.items.ensures c.in_ok-append_part.ensures.spelled);
    }
