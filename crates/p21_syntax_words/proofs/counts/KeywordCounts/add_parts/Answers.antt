use Rattle.std.proofs.Common.{List, ℕ, map, subst, ◌++◌}
use Rattle.std.proofs.lemmas.List.{take_all}
use Rattle.p21_grammar_tree.specs.View.{part_view}
use Rattle.p21_grammar_tree.specs.declared.record.Part.{Part}
use Rattle.p21_syntax_words.proofs.Counting.{word-behind}
use Rattle.p21_syntax_words.specs.HeaderText.{key_text}
use Rattle.p21_syntax_words.specs.KeywordCounts.{AreCounts}
use Rattle.p21_syntax_words.proofs.counts.KeywordCounts.add_parts.Goals as goal

pub loop-part-preserved : goal.loop-part-preserved
loop-part-preserved c words are =
    word-behind (λ (part : Part). key_text (part_view part).key) words c.args.parts.now c.loop-part.part-index c.part-item.result c.add_part.new.self c.loop-part-test.true c.part-item.is
    (c.in_ok-add_part.ensures _ (c.loop-part.invariant words are))

pub returns : goal.returns
returns c words are =
    let keywords : List Part → List (List ℕ) = map (λ (part : Part). key_text (part_view part).key) in
    subst (λ (parts : List Part). AreCounts (words ++ keywords parts) c.loop-part.self) (take_all c.loop-part.part-index c.args.parts.now c.loop-part-test.false) (c.loop-part.invariant words are)
