use Rattle.std.proofs.Common.{◌≡◌, List, ℕ, ◌++◌, drop, ap, subst, sym, ◌∙◌, arith}
use Rattle.std.proofs.lemmas.List.{take-append-drop}
use Rattle.p21_tokens.specs.Prefix.{ArePlain}
use Rattle.p21_tokens.proofs.LeadingTokens.{leads_text}
use Rattle.p21_tokens.proofs.prefix.leading_text.Goals as goal

pub returns-in-Ok : goal.returns-in-Ok
returns-in-Ok c =
    let inside = c.in_ok-inside.inside.now in
    let characters = c.in_ok-characters.characters.now in
    let rest = c.in_ok-characters.rest.now in
    let count = c.plain_count.result in
    let split = c.in_ok-characters.ensures.cases in
    let whole : inside ≡ characters ++ rest =
    sym (take-append-drop count inside) ∙ (ap (λ (xs : List ℕ). xs ++ drop count inside) (sym split.1) ∙ ap (λ (xs : List ℕ). characters ++ xs) (sym split.2)) in
    leads_text inside characters rest c.args.bytes.now c.in-Ok.text c.in_ok-inside.ensures.some whole c.in-Ok.ensures (subst (λ (k : ℕ). ArePlain inside k) (sym split.3) c.plain_count.ensures)
    (c.ends_text.ensures.0 c.if-not-ends_text.false) (omega (arith, c.if-rest-lt2.false))
