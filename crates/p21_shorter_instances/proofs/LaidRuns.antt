-- Tokens at the front, one behind the other.
use Rattle.std.proofs.Common.{◌≡◌, ◌∙◌, ℕ, ◌<◌, List, [], ◌∷◌, ◌++◌, drop, get_or, length, take, refl, ap, sym, append_assoc, arith}
use Rattle.std.proofs.lemmas.List.{drop_more, take-append-drop}
use Rattle.std.specs.List.{AllByRecursion as Each}
use Rattle.p21_spec_exchange.specs.Token.{IsSpelled, Token, MayFollow, Spells}
use Rattle.p21_spec_exchange.specs.Spelling.{name_spelling, spelling}
use Rattle.p21_spec_exchange.specs.Token as token
use Rattle.p21_spec_schema.specs.Schema.{EntityNamed, Schema}
use Rattle.p21_shorter_tokens.specs.Gaps.{PassesSeparators}
use Rattle.p21_shorter_tokens.specs.LeadingToken.{AppendsToken}
use Rattle.p21_shorter_instances.specs.TakenParameters.{TakesTokens, TakesEntity, TakesDelimiter}
use Rattle.p21_shorter_instances.proofs.Laid.{laid-join, laid-next}
use Rattle.p21_shorter_instances.specs.TakenValues.{LaidBefore, PassesDelimiter}

-- tokens that are laid have spellings
pub laid-spelled : (bytes rest : List ℕ) (tokens : List Token) → LaidBefore bytes tokens rest → Each IsSpelled tokens
laid-spelled bytes rest [] laid = tt
laid-spelled bytes rest (x ∷ xs) (gap, spelled, behind, is, is_gap, spells, followed, more) =
    ((spelled, spells), laid-spelled behind rest xs more)

-- ---- texts appended

pub takes-join : (xs ys : List Token) (t u bytes middle rest old between new : List ℕ) → TakesTokens xs t bytes middle old between
    → TakesTokens ys u middle rest between new
    → TakesTokens (xs ++ ys) (t ++ u) bytes rest old new
takes-join xs ys t u bytes middle rest old between new first second = record {
  laid = laid-join bytes middle rest xs ys first.laid second.laid;
  appended = second.appended ∙ ap (λ (x : List ℕ). x ++ u) first.appended ∙ append_assoc old t u;
}

pub takes-mark : (mark : ℕ) (one : Token) (bytes rest old new : List ℕ) → Spells one (mark ∷ [])
    → ((byte : ℕ) → MayFollow one (mark ∷ []) byte)
    → TakesDelimiter mark bytes rest old new → TakesTokens (one ∷ []) (mark ∷ []) bytes rest old new
takes-mark mark one bytes rest old new spells any h = record {
  laid = laid-next mark one bytes rest spells any h.passes;
  appended = h.appended;
}

pub takes-leaf : (bytes front rest : List ℕ) (count : ℕ) (one : Token) (old new : List ℕ) → PassesSeparators bytes front
    → rest ≡ drop count front
    → AppendsToken front count one old new → TakesTokens (one ∷ []) (spelling one) bytes rest old new
takes-leaf bytes front rest count one old new passes is h = record {
  laid = (
    passes.gap,
    take count front,
    drop count front,
    passes.bytes_are
        ∙ ap (λ (x : List ℕ). passes.gap ++ x) (sym (take-append-drop count front)),
    passes.is_gap,
    h.stands.spells,
    h.stands.followed,
    sym
        is,
  );
  appended = h.appended;
}

pub mark-behind : (mark : ℕ) (bytes rest old new : List ℕ) → PassesDelimiter mark bytes rest × (new ≡ old ++ mark ∷ [])
    → TakesDelimiter mark bytes rest old new
mark-behind mark bytes rest old new (passes, appended) = record { passes = passes; appended = appended }

-- ---- the parts of an instance

pub head-taken : (bytes front behind rest : List ℕ) (count n : ℕ) (old middle new : List ℕ) → PassesSeparators bytes front
    → behind ≡ drop count front
    → AppendsToken front count (token.name n) old middle → TakesDelimiter 61 behind rest middle new
    → TakesTokens (token.name n ∷ token.equals ∷ []) (name_spelling n ++ 61 ∷ []) bytes rest old new
head-taken bytes front behind rest count n old middle new passes is leaf mark =
    takes-join (token.name n ∷ []) (token.equals ∷ []) (name_spelling n) (61 ∷ []) bytes behind rest old middle new
    (takes-leaf bytes front behind count (token.name n) old middle passes is leaf)
    (takes-mark 61 token.equals behind rest middle new refl (λ byte. tt) mark)

pub entity-taken : (s : Schema) (e : ℕ) (word bytes front rest old new : List ℕ) → PassesSeparators bytes front
    → rest ≡ drop (length word) front
    → AppendsToken front (length word) (token.keyword word) old new → EntityNamed s e word → TakesEntity s e bytes rest old new
entity-taken s e word bytes front rest old new passes is leaf named =
    (word, named, takes-leaf bytes front rest (length word) (token.keyword word) old new passes is leaf)

pub end-taken : (bytes closed rest old middle new : List ℕ) → TakesDelimiter 41 bytes closed old middle
    → TakesDelimiter 59 closed rest middle new
    → TakesTokens (token.right ∷ token.semicolon ∷ []) (41 ∷ 59 ∷ []) bytes rest old new
end-taken bytes closed rest old middle new first second =
    takes-join (token.right ∷ []) (token.semicolon ∷ []) (41 ∷ []) (59 ∷ []) bytes closed rest old middle new
    (takes-mark 41 token.right bytes closed old middle refl (λ byte. tt) first)
    (takes-mark 59 token.semicolon closed rest middle new refl (λ byte. tt) second)

-- the same with nothing between them
pub end-joined : (bytes old new : List ℕ) → get_or bytes 0 0 ≡ 41 → get_or bytes 1 0 ≡ 59 → 1 < length bytes → new ≡ old ++ take 2 bytes
    → TakesTokens (token.right ∷ token.semicolon ∷ []) (41 ∷ 59 ∷ []) bytes (drop 2 bytes) old new
end-joined bytes old new first second low appended =
    let closed : bytes ≡ 41 ∷ drop 1 bytes = drop_more bytes 0 0 (omega (arith, low)) ∙ ap (λ (x : ℕ). x ∷ drop 1 bytes) first in
    let ended : drop 1 bytes ≡ 59 ∷ drop 2 bytes = drop_more bytes 1 0 low ∙ ap (λ (x : ℕ). x ∷ drop 2 bytes) second in
    let both : bytes ≡ 41 ∷ 59 ∷ drop 2 bytes = closed ∙ ap (λ (x : List ℕ). 41 ∷ x) ended in
    end-taken bytes (59 ∷ drop 2 bytes) (drop 2 bytes) old (old ++ 41 ∷ []) new
    (record { passes = ([], both, ([], tt, refl)); appended = refl })
    (record {
      passes = ([], refl, ([], tt, refl));
      appended = appended ∙ ap (λ (x : List ℕ). old ++ take 2 x) both
          ∙ sym (append_assoc old (41 ∷ []) (59 ∷ []));
    })
