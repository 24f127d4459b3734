use Rattle.std.proofs.Common.{rules, subst, sym, ap, ◌≡◌, ◌∙◌, ◌++◌, List, ℕ}
use Rattle.std.specs.Char.{IsScalar}
use Rattle.std.specs.List.{AllByRecursion}
use Rattle.std.proofs.lemmas.Iterator.{YieldsList-from_slice, YieldsList-from_map}
use Rattle.std.proofs.lemmas.Iterator.Adapters.{items_from_extend}
use Rattle.std.proofs.lemmas.Iterator.Consumers.{YieldsList-at}
use Rattle.std.proofs.lemmas.List.{map-id}
use Rattle.p21_values.proofs.Added.{latin1-scalars, on_ok}
use Rattle.p21_values.proofs.text.Text.push_latin1.Goals as goal

appended : (c : goal.Else-is_err) → c.extend.new.self.items ≡ c.self.inside.characters.items ++ c.args.bytes.now
appended c =
    let h = items_from_extend c.extend.result c.extend.ensures.ran (YieldsList-from_map _ (λ b. b) (YieldsList-at c.map-characters.ensures.source (YieldsList-from_slice c.args.bytes.now cc)) c.map-characters.ensures.closure (λ x r q k. search rules)) in
    (on_ok c.extend.result h (sym c.is_err.ensures.value ∙ c.if-is_err.false)).0 ∙ (ap (λ (x : List ℕ). c.reserve.new.self.items ++ x) (map-id c.args.bytes.now) ∙ ap (λ (x : List ℕ). x ++ c.args.bytes.now) c.reserve.ensures.items)

pub invariant_of-self-else-is_err : goal.invariant_of-self-else-is_err
invariant_of-self-else-is_err c = subst (λ (x : List ℕ). AllByRecursion IsScalar x) (sym (appended c)) (latin1-scalars c.self.inside.characters.items c.args.bytes.now c.self.invariant c.type_inv.bytes)

pub returns-clause-ok : goal.returns-clause-ok
returns-clause-ok c = appended c ∙ ap (λ (x : List ℕ). x ++ c.args.bytes.now) c.self.view_is
