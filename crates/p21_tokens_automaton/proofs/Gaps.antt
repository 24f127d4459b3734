-- Separator text leads back to where it began.
use Rattle.std.proofs.Common.{◌≡◌, ℕ, ◌≤◌, List, [], ◌∷◌, ◌++◌, ◌⊎◌, inl, inr, refl, ap, ◌∙◌, subst, append_assoc, arith, rules, tests}
use Rattle.std.specs.List.{flat_map, AllByRecursion as Each}
use Rattle.std.proofs.lemmas.Bool.{cases_eq}
use Rattle.std.proofs.lemmas.Bool.Decides.{nat_tests}
use Rattle.p21_spec_exchange.specs.Separator.{Separator, blank, comment, IsCommentText, IsSeparator, separator_bytes, IsSeparatorText}
use Rattle.p21_spec_exchange.proofs.OneGap.{EndsOnce-tail}
use Rattle.p21_tokens_automaton.proofs.Steps.{lex-pass}
use Rattle.p21_tokens_automaton.specs.Step.{advance}
use Rattle.p21_tokens_automaton.specs.Reading.{State, start, pass, lex}
use Rattle.p21_tokens_automaton.specs.declared.mode.Mode.{Mode}
use Rattle.p21_tokens_automaton.specs.declared.mode.Mode.TheVariants.{Between, Slash, Comment, Star}
use Rattle.p21_tokens_automaton.specs.declared.mode.Action.TheVariants.{Pass}

-- where no token is open
abbrev pub gap : Mode → State
gap mode = pass start mode

advance-blank : (b : ℕ) → (b ≤ 32) ⊎ (b ≡ 127) → advance Between b ≡ Pass Between
advance-blank b (inl h) = grind (arith, nat_tests)
advance-blank b (inr h) = grind (arith, nat_tests)

advance-comment : (b : ℕ) → (b ≡ 42 → ⊥) → advance Comment b ≡ Pass Comment
advance-comment b h = search (rules, tests)

advance-star-other : (b : ℕ) → (b ≡ 42 → ⊥) → (b ≡ 47 → ⊥) → advance Star b ≡ Pass Comment
advance-star-other b h k = search (rules, tests)

not-empty : (inside : List ℕ) → inside ++ (42 ∷ 47 ∷ []) ≡ [] → ⊥
not-empty [] e = cc
not-empty (b ∷ inside) e = cc

-- the bytes of a comment behind its mark lead back; behind a star too
comment-ends : (inside rest : List ℕ)
    → (IsCommentText inside → lex (gap Comment) (inside ++ 42 ∷ 47 ∷ rest) ≡ lex start rest) × (IsCommentText (42 ∷ inside) → lex (gap Star) (inside ++ 42 ∷ 47 ∷ rest) ≡ lex start rest)
comment-ends [] rest =
    (λ _. lex-pass (gap Comment) Star 42 _ refl ∙ lex-pass (gap Star) Between 47 _ refl, λ _. lex-pass (gap Star) Star 42 _ refl ∙ lex-pass (gap Star) Between 47 _ refl)
comment-ends (b ∷ inside) rest =
    let back = comment-ends inside rest in (
      λ h. elim (cases_eq b 42) [
        | inl e ↦ (ap (λ c. lex (gap Comment) (c ∷ (inside ++ 42 ∷ 47 ∷ rest))) e ∙ lex-pass (gap Comment) Star 42 _ refl) ∙ back.1 (subst (λ c. IsCommentText (c ∷ inside)) e h)
        | inr n ↦ lex-pass (gap Comment) Comment b _ (advance-comment b n) ∙ back.0 (EndsOnce-tail b inside h)
      ],
      λ h. elim (cases_eq b 42) [
        | inl e ↦ (ap (λ c. lex (gap Star) (c ∷ (inside ++ 42 ∷ 47 ∷ rest))) e ∙ lex-pass (gap Star) Star 42 _ refl) ∙ back.1 (subst (λ c. IsCommentText (c ∷ inside)) e (EndsOnce-tail 42 (b ∷ inside) h))
        | inr n ↦ elim (cases_eq b 47) [
          | inl e ↦ absurd (not-empty inside (h [] (inside ++ (42 ∷ 47 ∷ [])) (ap (λ c. 42 ∷ c ∷ (inside ++ (42 ∷ 47 ∷ []))) e)))
          | inr k ↦ lex-pass (gap Star) Comment b _ (advance-star-other b n k) ∙ back.0 (EndsOnce-tail b inside (EndsOnce-tail 42 (b ∷ inside) h))
        ]
      ],
    )

separator-run : (u : Separator) → IsSeparator u → (rest : List ℕ) → lex start (separator_bytes u ++ rest) ≡ lex start rest
separator-run (blank b) h rest = lex-pass start Between b rest (advance-blank b h)
separator-run (comment inside) h rest =
    (lex-pass start Slash 47 _ refl ∙ lex-pass (gap Slash) Comment 42 _ refl)
    ∙ (ap (λ s. lex (gap Comment) s) (append_assoc inside (42 ∷ 47 ∷ []) rest) ∙ (comment-ends inside rest).0 h)

separators-run : (us : List Separator) → Each IsSeparator us → (rest : List ℕ) → lex start (flat_map separator_bytes us ++ rest) ≡ lex start rest
separators-run [] h rest = refl
separators-run (u ∷ us) h rest =
    (ap (λ s. lex start s) (append_assoc (separator_bytes u) (flat_map separator_bytes us) rest) ∙ separator-run u h.0 _) ∙ separators-run us h.1 rest

pub gap-run : (bytes : List ℕ) → IsSeparatorText bytes → (rest : List ℕ) → lex start (bytes ++ rest) ≡ lex start rest
gap-run bytes h rest = ap (λ s. lex start (s ++ rest)) h.2 ∙ separators-run h.0 h.1 rest
