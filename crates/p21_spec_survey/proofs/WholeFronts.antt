-- Two fronts of the same bytes that are whole statements.
use Rattle.std.proofs.Common.{◌≡◌, ◌⊎◌, inl, inr, ℕ, List, [], ◌∷◌, ◌++◌, refl, sym, ap, subst, ◌∙◌, append_assoc, append-nil}
use Rattle.std.proofs.lemmas.List.{append_cancel_left}
use Rattle.p21_spec_exchange.specs.Laying.{LaidAs, Lexeme, tokens_in}
use Rattle.p21_spec_exchange.specs.OpenNesting.{EndsWithSemicolon}
use Rattle.p21_spec_exchange.specs.Token.{Token}
use Rattle.p21_spec_survey.proofs.Alike.{behind-laid}
use Rattle.p21_spec_survey.specs.Whole.{WholeFrontGoesOn, further_on, stays_there}

-- one of two fronts begins the other
fronts : (x y q w : List ℕ) → x ++ y ≡ q ++ w → ((p : List ℕ) × (q ≡ x ++ p)) ⊎ ((p : List ℕ) × (x ≡ q ++ p))
fronts [] y q w same = inl (q, refl)
fronts (b ∷ x) y [] w same = inr (b ∷ x, refl)
fronts (b ∷ x) y (c ∷ q) w same =
    let first : b ≡ c = cc in
    let rest : x ++ y ≡ q ++ w = cc in
    elim (fronts x y q w rest) [
      | inl (p, is) ↦ inl (p, ap (λ (l : List ℕ). c ∷ l) is ∙ ap (λ (z : ℕ). z ∷ (x ++ p)) (sym first))
      | inr (p, is) ↦ inr (p, ap (λ (l : List ℕ). b ∷ l) is ∙ ap (λ (z : ℕ). z ∷ (q ++ p)) first)
    ]

tokens-apart : (ls ms : List Lexeme) → tokens_in (ls ++ ms) ≡ tokens_in ls ++ tokens_in ms
tokens-apart [] ms = refl
tokens-apart (l ∷ ls) ms = ap (λ (ts : List Token). l.token ∷ ts) (tokens-apart ls ms)

none-more : (more rest : List Token) → more ++ rest ≡ [] → (more ≡ []) × (rest ≡ [])
none-more [] rest is = (refl, is)
none-more (t ∷ more) rest is = absurd cc

no-lexemes : (ls : List Lexeme) → tokens_in ls ≡ [] → ls ≡ []
no-lexemes [] is = refl
no-lexemes (l ∷ ls) is = absurd cc

pub whole-goes_on : WholeFrontGoesOn
whole-goes_on front other behind back ls ms more whole whole_ same are ends = elim (fronts front behind other back same) [
  | inl (p, is) ↦ (
      let (rest, ms_are, laid) = behind-laid front p ls ms whole (subst (λ (l : List ℕ). LaidAs l ms) is whole_.laid) in
      let tokens : tokens_in rest ≡ more = append_cancel_left (tokens_in ls) (tokens_in rest) more (sym (tokens-apart ls rest) ∙ (ap tokens_in (sym ms_are) ∙ are)) in
      further_on p rest is (record { laid = laid; ends = subst EndsWithSemicolon (sym tokens) ends }) tokens)
  | inr (p, is) ↦ (
      let (rest, ls_are, laid) = behind-laid other p ms ls whole_ (subst (λ (l : List ℕ). LaidAs l ls) is whole.laid) in
      let all : tokens_in ls ≡ (tokens_in ls ++ more) ++ tokens_in rest = ap tokens_in ls_are ∙ (tokens-apart ms rest ∙ ap (λ (ts : List Token). ts ++ tokens_in rest) are) in
      let nothing : more ++ tokens_in rest ≡ [] = append_cancel_left (tokens_in ls) (more ++ tokens_in rest) [] (sym (append_assoc (tokens_in ls) more (tokens_in rest)) ∙ (sym all ∙ sym (append-nil (tokens_in ls)))) in
      let (none, no_rest) = none-more more (tokens_in rest) nothing in
      stays_there p is (subst (λ (zs : List Lexeme). LaidAs p zs) (no-lexemes rest no_rest) laid) none)
]
