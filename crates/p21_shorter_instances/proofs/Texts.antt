-- The canonical record of values at places, and its text.
use Rattle.std.proofs.Common.{◌≡◌, ◌∙◌, ℕ, List, [], ◌∷◌, ◌++◌, refl, ap, sym, append_assoc}
use Rattle.std.specs.List.{AllByRecursion as Each}
use Rattle.p21_spec_basics.proofs.Members.{Each-front, Each-back, tail_is}
use Rattle.p21_spec_laws.proofs.CanonicalParam.{canonical_param, value_text-is}
use Rattle.p21_spec_laws.proofs.Existence.{canonical_value, canonical-is}
use Rattle.p21_spec_laws.proofs.Needs.{AreServed, served-at}
use Rattle.p21_spec_laws.proofs.OfType.{AreWritten}
use Rattle.p21_spec_laws.proofs.ParamTexts.{list-is, tokens_text-append}
use Rattle.p21_spec_laws.proofs.Printing.{at-fits, canonical_typed, has-canonical_value, at-written}
use Rattle.p21_spec_exchange.specs.CanonicalText.{param_texts, statement_text, tokens_text}
use Rattle.p21_spec_exchange.specs.Parameter.{Params, no_params, param, key_of, params_tokens}
use Rattle.p21_spec_exchange.specs.Record.{simple}
use Rattle.p21_spec_exchange.specs.Spelling.{name_spelling}
use Rattle.p21_spec_exchange.specs.Statement.{instance}
use Rattle.p21_spec_exchange.specs.Token as token
use Rattle.p21_spec_exchange.specs.Token.{Token}
use Rattle.p21_spec_file.specs.CanonicalRecord.{AreCanonicalAt}
use Rattle.p21_spec_file.specs.Fits.{FitsAt}
use Rattle.p21_spec_file.specs.Meaning.{FitPlaces, HasValueAt, Typed}
use Rattle.p21_spec_file.specs.Reference.{EntitySets, IsServed}
use Rattle.p21_spec_file.specs.ValueText.{value_text, with_commas_between}
use Rattle.p21_spec_schema.specs.Schema.{Schema}
use Rattle.p21_shorter_instances.specs.TakenParameters.{IsPlacedParameter, PlacedParameter, body_text, needs_at, params_at, places_at, texts_at}

-- the canonical parameters of the values
abbrev pub canonical_at : Schema → List PlacedParameter → Params
canonical_at s [] = no_params
canonical_at s (p ∷ ps) = param (canonical_param s p.value) (canonical_at s ps)

-- each value is the one that the meaning has at its place
abbrev pub AreMeant : Typed → List PlacedParameter → Type 0
AreMeant m ps = Each (λ (p : PlacedParameter). HasValueAt m p.place p.value) ps

pub canonical-fit : (s : Schema) (kinds : EntitySets) (m : Typed) (ps : List PlacedParameter) → Each (IsPlacedParameter s m.entities) ps
    → AreMeant m ps
    → AreServed s kinds (needs_at ps) → FitPlaces s kinds (canonical_typed s m) (places_at ps) (canonical_at s ps)
canonical-fit s kinds m [] each has served = tt
canonical-fit s kinds m (p ∷ ps) each has served =
    let fit : FitsAt s kinds each.0.at p.parameter p.value =
    served-at s kinds each.0.at p.parameter p.value p.needs each.0.fits (Each-front (IsServed s kinds) p.needs (needs_at ps) served) in (
      (
        each.0.at,
        canonical_value s p.value,
        each.0.type_at,
        at-fits s kinds each.0.at p.parameter p.value fit,
        has-canonical_value s m
            p.place p.value has.0,
      ),
      canonical-fit s kinds m ps each.1 has.1 (Each-back (IsServed s kinds) p.needs (needs_at ps) served),
    )

pub canonical-stand : (s : Schema) (m : Typed) (ps : List PlacedParameter) → AreMeant m ps
    → AreCanonicalAt (canonical_typed s m) (places_at ps) (canonical_at s ps)
canonical-stand s m [] has = tt
canonical-stand s m (p ∷ ps) has = (
  (canonical_value s p.value, has-canonical_value s m p.place p.value has.0, canonical-is s p.value),
  canonical-stand s m ps has.1,
)

-- ---- spellings

pub canonical-spelled : (s : Schema) (kinds : EntitySets) (entities : List ℕ) (ps : List PlacedParameter)
    → Each (IsPlacedParameter s entities) ps
    → AreServed s kinds (needs_at ps) → AreWritten (params_at ps) → AreWritten (canonical_at s ps)
canonical-spelled s kinds entities [] each served written = tt
canonical-spelled s kinds entities (p ∷ ps) each served written =
    let fit : FitsAt s kinds each.0.at p.parameter p.value =
    served-at s kinds each.0.at p.parameter p.value p.needs each.0.fits (Each-front (IsServed s kinds) p.needs (needs_at ps) served) in (
      at-written s kinds each.0.at p.parameter p.value fit written.0,
      canonical-spelled s kinds entities ps each.1
          (Each-back (IsServed s kinds) p.needs (needs_at ps) served) written.1,
    )

-- ---- texts

pub texts-are : (s : Schema) (ps : List PlacedParameter) → param_texts (canonical_at s ps) ≡ texts_at s ps
texts-are s [] = refl
texts-are s (p ∷ ps) =
    ap (λ (x : List ℕ). x ∷ param_texts (canonical_at s ps)) (sym (value_text-is s p.value))
    ∙ ap (λ (xs : List (List ℕ)). value_text s p.value ∷ xs) (texts-are s ps)

-- the name, `=`, the keyword, the values in parentheses and `;`
pub line-is : (s : Schema) (n : ℕ) (word : List ℕ) (ps : List PlacedParameter)
    → (name_spelling n ++ 61 ∷ []) ++ (word ++ body_text (texts_at s ps)) ≡ statement_text
    (instance n (simple (record { key = key_of word; params = canonical_at s ps })))
line-is s n word ps =
    let inside : List Token = params_tokens (canonical_at s ps) ++ (token.right ∷ []) in
    let text : List ℕ = with_commas_between (texts_at s ps) in
    let closed : tokens_text inside ≡ with_commas_between (param_texts (canonical_at s ps)) ++ 41 ∷ [] =
    tail_is 40 40 (tokens_text inside) (with_commas_between (param_texts (canonical_at s ps)) ++ 41 ∷ []) (list-is (canonical_at s ps)) in
    let closed_ : tokens_text inside ≡ text ++ 41 ∷ [] = closed
    ∙ ap (λ (xs : List (List ℕ)). with_commas_between xs ++ 41 ∷ []) (texts-are s ps) in
    let ended : tokens_text (inside ++ (token.semicolon ∷ [])) ≡ text ++ (41 ∷ 59 ∷ []) =
    tokens_text-append inside (token.semicolon ∷ []) ∙ ap (λ (x : List ℕ). x ++ 59 ∷ []) closed_ ∙ append_assoc text (41 ∷ []) (59 ∷ []) in
    append_assoc (name_spelling n) (61 ∷ []) (word ++ body_text (texts_at s ps))
    ∙ ap (λ (x : List ℕ). name_spelling n ++ (61 ∷ (word ++ (40 ∷ x)))) (sym ended)
