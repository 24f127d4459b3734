-- What is laid is read: the tokens laid in bytes are those that the reading finds.
use Rattle.std.proofs.Common.{◌≡◌, ℕ, List, [], ◌∷◌, ◌++◌, ◌⊎◌, inl, inr, length, refl, sym, ap, ◌∙◌, append_assoc, append-nil, Option, Some, None}
use Rattle.p21_spec_exchange.specs.Token.{Token, Spells, IsFollowed}
use Rattle.p21_spec_exchange.specs.Laying.{Lexeme, LaidAs}
use Rattle.p21_tokens_automaton.specs.Meaning.{Means, found_of, MeanAll}
use Rattle.p21_tokens_automaton.specs.Reading.{start, Answer, open_at, before, after, FoundToken, SizedToken, tokens_at_end, at_end, with_last_tokens, all_tokens, lex}
use Rattle.p21_tokens_automaton.proofs.Gaps.{gap-run}
use Rattle.p21_tokens_automaton.proofs.Steps.{lex-nil, lex-end}
use Rattle.p21_tokens_automaton.proofs.Waits.{Waits, IsGiven}

pub all_tokens-before : (x : SizedToken) (a : Answer) (founds : List SizedToken) → all_tokens a ≡ Some founds → all_tokens (before x a) ≡ Some (x ∷ founds)
all_tokens-before x a founds e = at (at_end a.ending) e
  where
    at : (o : Option (List SizedToken)) → with_last_tokens a.given o ≡ Some founds → with_last_tokens (x ∷ a.given) o ≡ Some (x ∷ founds)
    at None e = cc
    at (Some last) e = let same : a.given ++ last ≡ founds = cc in ap (λ (l : List SizedToken). Some (x ∷ l)) same

pub all_tokens-after : (xs : List SizedToken) (a : Answer) (founds : List SizedToken) → all_tokens (after xs a) ≡ Some founds → (more : List SizedToken) × (all_tokens a ≡ Some more) × (founds ≡ xs ++ more)
all_tokens-after xs a founds e = at (at_end a.ending) e
  where
    at : (o : Option (List SizedToken)) → with_last_tokens (xs ++ a.given) o ≡ Some founds → (more : List SizedToken) × (with_last_tokens a.given o ≡ Some more) × (founds ≡ xs ++ more)
    at None e = absurd cc
    at (Some last) e = let same : (xs ++ a.given) ++ last ≡ founds = cc in (a.given ++ last, refl, sym same ∙ append_assoc xs a.given last)

abbrev sized_of : Token → List ℕ → SizedToken
sized_of token spelling = record { found = found_of token spelling; size = length spelling }

at_end-waits : (token : Token) (spelling : List ℕ) (w : Waits token spelling) → at_end (open_at w.state) ≡ Some (sized_of token spelling ∷ [])
at_end-waits token spelling w =
    ap (λ (o : Option FoundToken). tokens_at_end o w.state.mode w.state.size) w.ended_is ∙ ap (λ (n : ℕ). Some (record { found = found_of token spelling; size = n } ∷ [])) w.size_is

module _ (readings : (token : Token) (spelling : List ℕ) → Spells token spelling → Waits token spelling ⊎ IsGiven token spelling)
    (means : (token : Token) (spelling : List ℕ) → Spells token spelling → Means (found_of token spelling) token) where
  nil-laid : (founds : List SizedToken) → all_tokens (lex start []) ≡ Some founds → founds ≡ []
  nil-laid founds e = let same : Some [] ≡ Some founds = sym (ap all_tokens (lex-nil start)) ∙ e in cc

  waits-run : (token : Token) (spelling rest : List ℕ) (founds : List SizedToken) → Waits token spelling → IsFollowed token spelling rest → all_tokens (lex start rest) ≡ Some founds → all_tokens (lex start (spelling ++ rest)) ≡ Some (sized_of token spelling ∷ founds)
  waits-run token spelling [] founds w f e =
      ap all_tokens (w.reaches [] ∙ lex-nil w.state) ∙ (ap (λ (o : Option (List SizedToken)). with_last_tokens [] o) (at_end-waits token spelling w)
      ∙ ap (λ (l : List SizedToken). Some (sized_of token spelling ∷ l)) (sym (nil-laid founds e)))
  waits-run token spelling (b ∷ rest) founds w f e =
      ap all_tokens (w.reaches (b ∷ rest) ∙ lex-end w.state (found_of token spelling) b rest (w.ends b f) w.ended_is
      ∙ ap (λ (n : ℕ). before (record { found = found_of token spelling; size = n }) (lex start (b ∷ rest))) w.size_is) ∙ all_tokens-before (sized_of token spelling) (lex start (b ∷ rest)) founds e

  token-run : (token : Token) (spelling rest : List ℕ) (founds : List SizedToken) → Spells token spelling → IsFollowed token spelling rest → all_tokens (lex start rest) ≡ Some founds → all_tokens (lex start (spelling ++ rest)) ≡ Some (sized_of token spelling ∷ founds)
  token-run token spelling rest founds s f e = elim (readings token spelling s) [
    | inl w ↦ waits-run token spelling rest founds w f e
    | inr g ↦ ap all_tokens (g.run rest) ∙ all_tokens-before (sized_of token spelling) (lex start rest) founds e
  ]

  pub laid-read : (lexemes : List Lexeme) (bytes : List ℕ) → LaidAs bytes lexemes → (founds : List SizedToken) × (all_tokens (lex start bytes) ≡ Some founds) × MeanAll founds lexemes
  laid-read [] bytes laid =
      ([], ap all_tokens (ap (λ (x : List ℕ). lex start x) (sym (append-nil bytes)) ∙ (gap-run bytes laid [] ∙ lex-nil start)), tt)
  laid-read (lexeme ∷ lexemes) bytes laid =
      let spelling = laid.1 in
      let rest = laid.2 in
      let more = laid-read lexemes rest laid.8 in (
        sized_of lexeme.token spelling ∷ more.0,
        ap (λ (x : List ℕ). all_tokens (lex start x)) laid.3 ∙ (ap all_tokens (gap-run laid.0 laid.4 (spelling ++ rest)) ∙ token-run lexeme.token spelling rest more.0 laid.5 laid.7 more.1),
        (means lexeme.token spelling laid.5, laid.6, more.2),
      )
