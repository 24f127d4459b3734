use Rattle.std.proofs.Common.{List, OnOk, ℕ, ap, map, subst, sym, ◌++◌, ◌∙◌}
use Rattle.p21_grammar_tree.specs.View.{part_view, record_view}
use Rattle.p21_grammar_tree.specs.declared.record.Part.{Part}
use Rattle.p21_grammar_tree.specs.declared.record.Record.{Record}
use Rattle.p21_syntax_words.proofs.Counting.{keywords-viewed}
use Rattle.p21_syntax_words.specs.HeaderText.{key_text}
use Rattle.p21_syntax_words.specs.KeywordCounts.{AreCounts, record_keywords}
use Rattle.p21_syntax_words.proofs.counts.KeywordCounts.add.Goals as goal

pub returns-in-Complex : goal.returns-in-Complex
returns-in-Complex c words are =
    let keywords : List Part → List (List ℕ) = map (λ (part : Part). key_text (part_view part).key) in
    let same = ap keywords c.items.ensures.are ∙ keywords-viewed c.in-Complex.parts ∙ sym (ap (λ (r : Record). record_keywords (record_view r)) c.in-Complex.is) in
    subst (λ (l : List (List ℕ)). OnOk c.add_parts.result (AreCounts (words ++ l) c.add_parts.new.self)) same (c.add_parts.ensures words are)
