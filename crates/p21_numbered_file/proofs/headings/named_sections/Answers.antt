use Rattle.std.proofs.Common.{arith, subst}
use Rattle.std.proofs.lemmas.List.{take_all}
use Rattle.std.specs.List.{AllZip}
use Rattle.std.specs.Prelude.{List, Option}
use Rattle.p21_grammar_tree.specs.declared.record.Part.{Part}
use Rattle.p21_stream_output.specs.NamedSections.{HasHeading}
use Rattle.p21_numbered_file.proofs.Sections.{empty-more, parts-more}
use Rattle.p21_numbered_file.specs.Headings.{headings_in}
use Rattle.p21_numbered_file.proofs.headings.named_sections.Goals as goal

pub loop-k-preserved : goal.loop-k-preserved
loop-k-preserved c = record {
  begin = parts-more c.args.sections.now c.loop-k.k c.index-sections-k.result c.loop-k.parts.items c.push.new.self.items c.in_ok-part.part
      c.loop-k-test.true c.index-sections-k.is c.in_ok-push.ensures.items c.loop-k.invariant.begin c.in_ok-part.ensures.begins;
  empty = empty-more c.loop-k.parts.items c.push.new.self.items c.in_ok-part.part c.in_ok-push.ensures.items c.loop-k.invariant.empty
      c.in_ok-part.ensures.empty;
}

pub returns-clause-begin : goal.returns-clause-begin
returns-clause-begin c =
    let P : List (Option Part) → Type 0 = λ xs. AllZip HasHeading (headings_in xs) c.loop-k.parts.items in
    subst P (take_all c.loop-k.k c.args.sections.now (omega (arith, c.loop-k-test.false))) c.loop-k.invariant.begin
