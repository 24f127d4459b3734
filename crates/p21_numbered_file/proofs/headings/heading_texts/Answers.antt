use Rattle.std.proofs.Common.{arith, subst}
use Rattle.std.proofs.lemmas.List.{take_all}
use Rattle.std.specs.Prelude.{List, Option}
use Rattle.p21_grammar_tree.specs.declared.record.Part.{Part}
use Rattle.p21_numbered_file.proofs.Sections.{texts-more}
use Rattle.p21_numbered_file.specs.Headings.{AreTextsOf}
use Rattle.p21_numbered_file.proofs.headings.heading_texts.Goals as goal

pub loop-k-preserved : goal.loop-k-preserved
loop-k-preserved c = texts-more c.args.sections.now c.loop-k.k c.index-sections-k.result c.loop-k.all.items c.push.new.self.items
    c.in_ok-texts.texts c.loop-k-test.true c.index-sections-k.is c.in_ok-push.ensures.items c.loop-k.invariant c.in_ok-texts.ensures

pub returns : goal.returns
returns c =
    let P : List (Option Part) → Type 0 = λ xs. AreTextsOf xs c.loop-k.all.items in
    subst P (take_all c.loop-k.k c.args.sections.now (omega (arith, c.loop-k-test.false))) c.loop-k.invariant
