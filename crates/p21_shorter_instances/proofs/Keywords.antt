-- Keywords that are found by a guess.
use Rattle.std.proofs.Common.{◌≡◌, ◌∙◌, ℕ, ◌+◌, ◌<◌, List, [], ◌∷◌, ◌++◌, length, take, drop, get_or, refl, ap, sym, subst, append_assoc, inl, inr, arith}
use Rattle.std.proofs.lemmas.List.{drop_more, take-append-drop, take_all, take_more}
use Rattle.p21_spec_exchange.specs.Keyword.{IsKeyword, IsKeywordByte}
use Rattle.p21_spec_exchange.specs.Token as token
use Rattle.p21_spec_schema.specs.Schema.{Schema}
use Rattle.p21_shorter_tokens.specs.Gaps.{PassesSeparators}
use Rattle.p21_shorter_tokens.specs.LeadingToken.{IsCanonicalLeadingToken}
use Rattle.p21_shorter_instances.proofs.Laid.{laid-behind}
use Rattle.p21_shorter_instances.specs.TakenParameters.{IsNamedBy, TakesEntity, TakesOpenedEntity}

-- bytes that are all of a keyword
pub whole-keyword : (bytes word : List ℕ) → IsCanonicalLeadingToken bytes (length word) (token.keyword word) → length word ≡ length bytes
    → IsKeyword bytes
whole-keyword bytes word h same = subst IsKeyword (sym h.stands.spells.0 ∙ take_all (length word) bytes (omega (arith, same)))
    h.stands.spells.1

not-keyword_byte : (byte : ℕ) → byte < 45 → IsKeywordByte byte → ⊥
not-keyword_byte byte below (inl (inl upper)) = let low = upper.0 in omega (arith, below, low)
not-keyword_byte byte below (inl (inr same)) = omega (arith, below, same)
not-keyword_byte byte below (inr digit) = let low = digit.0 in omega (arith, below, low)

-- a keyword before a byte that doesn't go on with it
before-byte : (s : Schema) (e : ℕ) (word bytes : List ℕ) (byte : ℕ) (behind old : List ℕ) → IsNamedBy s e word → byte < 45
    → bytes ≡ word ++ byte ∷ behind
    → TakesEntity s e bytes (byte ∷ behind) old (old ++ word)
before-byte s e word bytes byte behind old (named, keyword) below is = (
  word,
  named,
  record {
    laid = (
      [],
      word,
      byte ∷ behind,
      is,
      ([], tt, refl),
      (refl, keyword),
      (not-keyword_byte byte below, λ minus. omega (arith, below, minus)),
      refl,
    );
    appended = refl;
  },
)

pub named-before : (s : Schema) (e : ℕ) (bytes : List ℕ) (count : ℕ) (old new : List ℕ) → IsNamedBy s e (take count bytes)
    → count < length bytes → get_or bytes count 0 < 45
    → new ≡ old ++ take count bytes → TakesEntity s e bytes (drop count bytes) old new
named-before s e bytes count old new named within below appended =
    let parted : drop count bytes ≡ get_or bytes count 0 ∷ drop (count + 1) bytes = drop_more bytes count 0 within in
    let whole : bytes ≡ take count bytes ++ get_or bytes count 0 ∷ drop (count + 1) bytes = sym (take-append-drop count bytes)
    ∙ ap (λ (x : List ℕ). take count bytes ++ x) parted in
    subst (λ (rest : List ℕ). TakesEntity s e bytes rest old new) (sym parted)
    (subst (λ (text : List ℕ). TakesEntity s e bytes (get_or bytes count 0 ∷ drop (count + 1) bytes) old text) (sym appended)
    (before-byte s e (take count bytes) bytes (get_or bytes count 0) (drop (count + 1) bytes) old named below whole))

-- behind separators
pub entity-behind : (s : Schema) (e : ℕ) (bytes front rest old new : List ℕ) → PassesSeparators bytes front
    → TakesEntity s e front rest old new → TakesEntity s e bytes rest old new
entity-behind s e bytes front rest old new passes (word, named, takes) =
    (word, named, record { laid = laid-behind bytes front rest (token.keyword word) [] passes takes.laid; appended = takes.appended })

-- with the `(`, where both are appended
pub opened-at : (s : Schema) (e : ℕ) (bytes : List ℕ) (count : ℕ) (old new : List ℕ) → count < length bytes → get_or bytes count 0 ≡ 40
    → IsNamedBy s e (take count bytes)
    → new ≡ old ++ take (count + 1) bytes → TakesOpenedEntity s e bytes (drop (count + 1) bytes) old new
opened-at s e bytes count old new below is named appended =
    let word : List ℕ = take count bytes in
    let behind : List ℕ = drop (count + 1) bytes in
    let parted : drop count bytes ≡ 40 ∷ behind = drop_more bytes count 0 below ∙ ap (λ (x : ℕ). x ∷ behind) is in
    let whole : bytes ≡ word ++ 40 ∷ behind = sym (take-append-drop count bytes) ∙ ap (λ (x : List ℕ). word ++ x) parted in
    let text : take (count + 1) bytes ≡ word ++ 40 ∷ [] = take_more bytes count 0 below ∙ ap (λ (x : ℕ). word ++ x ∷ []) is in
    record {
      behind = 40 ∷ behind;
      between = old ++ word;
      entity = before-byte s e word bytes 40 behind old named (omega arith) whole;
      opened = record {
        passes = ([], refl, ([], tt, refl));
        appended = appended ∙ ap (λ (x : List ℕ). old ++ x) text
            ∙ sym (append_assoc old word (40 ∷ []));
      };
    }
