use Rattle.std.proofs.Common.{ap, subst, sym, ◌∙◌, List, ℕ}
use Rattle.p21_tokens.specs.Held.{Held}
use Rattle.p21_tokens.specs.Steps.{ReadsEnd}
use Rattle.p21_tokens.proofs.Finishing.{finish-gives, finish-names, finish-refused, names-refused}
use Rattle.p21_tokens.proofs.lexer.Lexer.finish.Goals as goal

pub returns-in-Some-clause-history : goal.returns-in-Some-clause-history
returns-in-Some-clause-history c = finish-refused c.args.self c.in-Some.fault (ap (λ (h : Held). h.refused) (sym c.self.view_is) ∙ c.in-Some.is)

pub returns-clause-history : goal.returns-clause-history
returns-clause-history c =
    let pending_bytes = subst (λ (x : List ℕ). ReadsEnd c.self.inside.mode x c.self.inside.text c.read_last_token.result) c.deref.ensures.value c.read_last_token.ensures in
    finish-gives c.args.self _ (ap (λ (h : Held). h.refused) (sym c.self.view_is) ∙ c.in_default.is)
    (subst (λ (h : Held). ReadsEnd h.mode h.pending_bytes h.characters c.read_last_token.result) c.self.view_is pending_bytes)

pub returns-in-Some-clause-names : goal.returns-in-Some-clause-names
returns-in-Some-clause-names c = names-refused c.args.self c.in-Some.fault (ap (λ (h : Held). h.refused) (sym c.self.view_is) ∙ c.in-Some.is)

pub returns-clause-names : goal.returns-clause-names
returns-clause-names c =
    let pending_bytes = subst (λ (x : List ℕ). ReadsEnd c.self.inside.mode x c.self.inside.text c.read_last_token.result) c.deref.ensures.value c.read_last_token.ensures in
    finish-names c.args.self _ (ap (λ (h : Held). h.refused) (sym c.self.view_is) ∙ c.in_default.is)
    (subst (λ (h : Held). ReadsEnd h.mode h.pending_bytes h.characters c.read_last_token.result) c.self.view_is pending_bytes)
