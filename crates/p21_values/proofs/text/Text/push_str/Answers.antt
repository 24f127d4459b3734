use Rattle.std.proofs.Common.{subst, sym, ap, ◌≡◌, ◌∙◌, ◌++◌, List, ℕ}
use Rattle.std.specs.Char.{IsScalar}
use Rattle.std.specs.List.{AllByRecursion}
use Rattle.std.specs.Str.{chars}
use Rattle.std.proofs.lemmas.Iterator.{YieldsList-from_chars}
use Rattle.std.proofs.lemmas.Iterator.Adapters.{items_from_extend}
use Rattle.std.proofs.lemmas.Str.{scalars-chars}
use Rattle.p21_values.proofs.Added.{scalars-added, on_ok}
use Rattle.p21_values.proofs.text.Text.push_str.Goals as goal
use Rattle.p21_values.proofs.text.Text.push_str.Goals.{Else-is_err}

appended : (c : Else-is_err) → c.extend.new.self.items ≡ c.self.inside.characters.items ++ chars c.args.text.now
appended c =
    let h = items_from_extend c.extend.result c.extend.ensures.ran (YieldsList-from_chars c.args.text.now c.utf8.text c.chars-2.ensures.rest) in
    (on_ok c.extend.result h (sym c.is_err.ensures.value ∙ c.if-is_err.false)).0 ∙ ap (λ (x : List ℕ). x ++ chars c.args.text.now) c.reserve.ensures.items

pub invariant_of-self-else-is_err : goal.invariant_of-self-else-is_err
invariant_of-self-else-is_err c = subst (λ (x : List ℕ). AllByRecursion IsScalar x) (sym (appended c)) (scalars-added c.self.inside.characters.items (chars c.args.text.now) c.self.invariant (scalars-chars c.args.text.now c.utf8.text))

pub returns-clause-ok : goal.returns-clause-ok
returns-clause-ok c = appended c ∙ ap (λ (x : List ℕ). x ++ chars c.args.text.now) c.self.view_is
