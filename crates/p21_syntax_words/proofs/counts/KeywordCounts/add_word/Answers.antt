use Rattle.std.proofs.Common.{ℕ, ap, subst, sym, ◌∙◌}
use Rattle.std.specs.BTreeMap.{BTreeMap, insert_entry}
use Rattle.std.specs.Option.{option_copied_mut}
use Rattle.p21_syntax_words.proofs.Counting.{Word, again, by_word, first}
use Rattle.p21_syntax_words.specs.KeywordCounts.{AreCounts}
use Rattle.p21_syntax_words.proofs.counts.KeywordCounts.add_word.Goals as goal

pub returns-in-Some : goal.returns-in-Some
returns-in-Some c words are =
    let more = c.in-Some-checked_add.more in
    let written = c.get_mut.follows.holds more in
    let found = sym c.get_mut.ensures.value ∙ ap option_copied_mut c.in-Some.is in
    again words c.args.word.now c.self.inside.counts.entries (c.get_mut.follows.lender more).entries c.in-Some.count.now more (subst (AreCounts words) (sym c.self.view_is) are) found c.in-Some-checked_add.ensures.1 written.0 written.4

pub returns : goal.returns
returns c words are =
    let none = sym c.get_mut.ensures.value ∙ ap option_copied_mut c.in_default.is in
    let same = ap (λ (m : BTreeMap Word ℕ). insert_entry by_word m.entries c.in_ok-word.word 1) c.get_mut.follows.holds-at-none in
    first words c.args.word.now c.in_ok-word.word c.self.inside.counts.entries c.insert.new.self.entries (subst (AreCounts words) (sym c.self.view_is) are) none c.in_ok-word.ensures.items
    (c.in_ok-insert.ensures.entries ∙ same) c.in_ok-insert.ensures.ordered
