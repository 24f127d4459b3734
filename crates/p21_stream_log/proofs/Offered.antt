-- The bytes of a piece that are offered to the reader, of which none but the last is a `;`.
use Rattle.std.proofs.Common.{◌≡◌, ◌≢◌, ◌+◌, ◌<◌, ◌≤◌, ℕ, zero, suc, List, [], ◌∷◌, ◌++◌, length, length-append, min, take, drop, Option, Some, None, inl, inr, refl, sym, ap, subst, ◌∙◌, append_assoc, append-nil, arith}
use Rattle.std.proofs.lemmas.List.{append_cancel_left, take-append-drop, take-append-le}
use Rattle.std.proofs.lemmas.Grind.{flat_map-append}
use Rattle.std.specs.List.{flat_map, slice_get, AllByRecursion as Each}
use Rattle.p21_spec_basics.proofs.Members.{Each-back, at-front, head_is, tail_is}
use Rattle.p21_spec_basics.specs.Limits.{Limits}
use Rattle.p21_spec_exchange.proofs.Semicolons.{statement-ends, unended}
use Rattle.p21_spec_exchange.specs.Laying.{Laid, tokens_in}
use Rattle.p21_spec_exchange.specs.Pending.{IsPending}
use Rattle.p21_spec_exchange.specs.Statement.{Statement, statement_tokens}
use Rattle.p21_spec_exchange.specs.Token.{Token, semicolon}
use Rattle.p21_spec_file.specs.Accepted.{IsDead}
use Rattle.p21_spec_survey.specs.Rules.{Rules}
use Rattle.p21_spec_survey.specs.Survey.{AreStatement}
use Rattle.p21_spec_survey.specs.Whole.{JoinedIsLaid}
use Rattle.p21_stream_log.proofs.Between.{between-given}
use Rattle.p21_stream_log.proofs.Ends.{ends-apart}
use Rattle.p21_stream_log.proofs.Openings.{front-of-other}
use Rattle.p21_stream_log.proofs.Taking.{ended-apart, tokens-append}
use Rattle.p21_stream_log.specs.Log.{EndsWith, Held, IsOffered, Known, Logs, Point}
use Rattle.p21_stream_statements.specs.Place.{HasPlace}
use Rattle.p21_stream_statements.specs.Reopening.{IsBetweenStatements}
use Rattle.p21_stream_statements.specs.StatementReader as statements
use Rattle.p21_stream_statements.specs.StatementReader.{BeginsNoneBy, IsSeenAt, RefusesWithin, StatementHistory}
use Rattle.p21_stream_statements.specs.declared.fault.Fault.{Fault}
use Rattle.p21_stream_statements.specs.declared.fault.Fault.TheVariants.{Token as of_token}
use Rattle.p21_tokens.specs.Histories.{TokenHistory}

-- ---- which they are

-- no byte is a `;`
abbrev pub HasNoSemicolon : List ℕ → Type 0
HasNoSemicolon bytes = Each (λ (byte : ℕ). byte ≢ 59) bytes

none-within : (bytes front back : List ℕ) → HasNoSemicolon bytes → bytes ≡ front ++ 59 ∷ back → ⊥
none-within bytes front back none is = (Each-back (λ (byte : ℕ). byte ≢ 59) front (59 ∷ back) (subst HasNoSemicolon is none)).0 refl

last-alone : (bytes front back : List ℕ) → HasNoSemicolon bytes → bytes ++ 59 ∷ [] ≡ front ++ 59 ∷ back → back ≡ []
last-alone [] [] back none is = sym (tail_is 59 59 _ _ is)
last-alone [] (f ∷ []) back none is = cc
last-alone [] (f ∷ g ∷ front) back none is = cc
last-alone (b ∷ bytes) [] back none is = absurd (none.0 (head_is b 59 _ _ is))
last-alone (b ∷ bytes) (f ∷ front) back none is = last-alone bytes front back none.1 (tail_is b f _ _ is)

no-piece : (piece : List ℕ) → length piece ≡ 0 → piece ≡ []
no-piece [] none = refl
no-piece (b ∷ piece) none = cc

pub all-offered : (piece bytes : List ℕ) (count : ℕ) → bytes ≡ take count piece → (piece ≢ [] → 0 < count)
    → HasNoSemicolon (take count piece) → IsOffered piece bytes
all-offered piece bytes count is some none = record {
  rest = drop count piece;
  piece_is = sym (take-append-drop count piece) ∙ ap (λ (l : List ℕ). l ++ drop count piece) (sym is);
  some = λ other none_. some-taken piece count (some other) other (sym is ∙ none_);
  last = λ front back own. absurd (none-within (take count piece) front back none (sym is ∙ own));
}
  where
    some-taken : (xs : List ℕ) (n : ℕ) → 0 < n → xs ≢ [] → take n xs ≡ [] → ⊥
    some-taken [] n low other none_ = other refl
    some-taken (x ∷ xs) zero low other none_ = omega (arith, low)
    some-taken (x ∷ xs) (suc n) low other none_ = cc

pub some-most : (piece : List ℕ) (most : ℕ) → most ≡ min (length piece) 64 → piece ≢ [] → 0 < most
some-most [] most is other = absurd (other refl)
some-most (b ∷ piece) most is other = omega (arith, is)

pub semicolon-offered : (piece bytes front : List ℕ) (rest : List ℕ) → HasNoSemicolon front → bytes ≡ front ++ 59 ∷ []
    → piece ≡ bytes ++ rest → IsOffered piece bytes
semicolon-offered piece bytes front rest none is piece_is = record {
  rest = rest;
  piece_is = piece_is;
  some = λ other none_. no-end front (sym is ∙ none_);
  last = λ before back own. last-alone front before back none (sym is ∙ own);
}
  where
    no-end : (xs : List ℕ) → xs ++ 59 ∷ [] ≡ [] → ⊥
    no-end [] same = cc
    no-end (x ∷ xs) same = cc

-- ---- what is told of them is told of the piece

-- the byte that was looked at is the first of them
pub offered-seen : (piece bytes : List ℕ) → IsOffered piece bytes → (seen : Option ℕ) → IsSeenAt seen piece 0 → IsSeenAt seen bytes 0
offered-seen piece bytes of None at = tt
offered-seen [] bytes of (Some byte) at = absurd cc
offered-seen (p ∷ piece) [] of (Some byte) at = absurd (of.some (λ same. cc) refl)
offered-seen (p ∷ piece) (b ∷ bytes) of (Some byte) at = ap Some (sym (head_is p b _ _ of.piece_is)) ∙ at

pub seen-further : (piece bytes rest : List ℕ) → piece ≡ bytes ++ rest → (count : ℕ) (seen : Option ℕ) → IsSeenAt seen bytes count
    → IsSeenAt seen piece count
seen-further piece bytes rest is count None at = tt
seen-further piece bytes rest is count (Some byte) at = ap (λ (l : List ℕ). slice_get l count) is ∙ at-front bytes rest count byte at

taken-further : (bytes piece rest : List ℕ) (count : ℕ) → piece ≡ bytes ++ rest → count ≤ length bytes → take count bytes ≡ take count piece
taken-further bytes piece rest count is within = sym (ap (λ (l : List ℕ). take count l) is ∙ take-append-le count bytes rest within)

longer : (bytes piece rest : List ℕ) (count : ℕ) → piece ≡ bytes ++ rest → count ≤ length bytes → count ≤ length piece
longer bytes piece rest count is within = let size = ap length is in let sum = length-append bytes rest in omega (arith, size, sum, within)

pub refuses-further : (limits : ℕ × ℕ) (fault : Fault) (history : StatementHistory) (bytes piece rest : List ℕ) → piece ≡ bytes ++ rest
    → RefusesWithin limits fault history bytes → RefusesWithin limits fault history piece
refuses-further limits fault history bytes piece rest is refuses = record {
  count = refuses.count;
  within = longer bytes piece rest refuses.count is refuses.within;
  begins_none = subst (λ (l : List ℕ). BeginsNoneBy fault limits (history.taken ++ l))
      (taken-further bytes piece rest refuses.count is refuses.within) refuses.begins_none;
}

pub place-further : (limits : ℕ × ℕ) (taken bytes piece rest : List ℕ) → piece ≡ bytes ++ rest → (fault : Fault) (place : ℕ)
    → HasPlace limits taken bytes fault place → HasPlace limits taken piece fault place
place-further limits taken bytes piece rest is (of_token fault) place has = λ of.
    let own = has of in
    let low = own.within in
    let one : take own.count bytes ≡ take own.count piece = taken-further bytes piece rest own.count is (omega (arith, low)) in
    let more : take (own.count + 1) bytes ≡ take (own.count + 1) piece =
    taken-further bytes piece rest (own.count + 1) is (omega (arith, low)) in
    record {
      count = own.count;
      within = (let further = longer bytes piece rest (own.count + 1) is (omega (arith, low)) in omega (arith, further));
      place_is = own.place_is ∙ ap (λ (l : List ℕ). length (taken ++ l)) one;
      open_bytes = own.open_bytes;
      pending = subst (λ (l : List ℕ). IsPending (taken ++ l) own.open_bytes) one own.pending;
      dead = λ s all record_is file_is. subst (λ (l : List ℕ). IsDead s all (taken ++ l)) more (own.dead s all record_is file_is);
    }
place-further limits taken bytes piece rest is _ place has = has

-- ---- a statement ends with the last of them

module _ (joined : JoinedIsLaid) (s : Rules) (limits : Limits) (known : Known) (old : Held) (point : Point)
    (logs : Logs s limits known old point) (none : point.ended ≡ []) (statement : Statement)
    (reader : statements.Held) (reading : StatementHistory) (live : statements.IsLive reader reading) (between : IsBetweenStatements reader)
    (given_are : reading.given ≡ logs.history.given ++ statement ∷ [])
    (one_more : length live.history.given ≡ length logs.live.history.given + 1) where
  -- the tokens given by now
  given-now : length live.history.given ≡ length (tokens_in logs.lexemes) + length (statement_tokens statement)
  given-now =
      let before : logs.history.given ≡ point.read.given = logs.given_are
      ∙ (ap (λ (sts : List Statement). point.read.given ++ sts) none ∙ append-nil point.read.given) in
      let tokens : live.history.given ≡ tokens_in logs.lexemes ++ statement_tokens statement =
      between-given reader reading between live
      ∙ (ap (λ (sts : List Statement). flat_map statement_tokens sts)
      (given_are ∙ ap (λ (sts : List Statement). sts ++ statement ∷ []) before)
      ∙ (flat_map-append statement_tokens point.read.given (statement ∷ [])
      ∙ (ap (λ (ts : List Token). ts ++ flat_map statement_tokens (statement ∷ [])) (sym logs.tokens_are)
      ∙ ap (λ (ts : List Token). tokens_in logs.lexemes ++ ts) (append-nil (statement_tokens statement))))) in
      ap length tokens ∙ length-append (tokens_in logs.lexemes) (statement_tokens statement)

  -- its bytes aren't all in the buffer before: the reader would have given its tokens
  not-before : (front rest : List ℕ) → AreStatement front statement → old.buffer ≡ front ++ rest → ⊥
  not-before front rest is buffer_is =
      let all : List ℕ = logs.gapped ++ front in
      let own = logs.live.history in
      let taken : own.taken ≡ all ++ rest = logs.live.taken_are
      ∙ (logs.taken_are ∙ (ap (λ (l : List ℕ). logs.gapped ++ l) buffer_is ∙ sym (append_assoc logs.gapped front rest))) in
      let ended : List Token = tokens_in logs.lexemes ++ unended statement in
      let laid : Laid all (ended ++ semicolon ∷ []) = record {
        lexemes = logs.lexemes ++ is.laid.lexemes;
        tokens_are = tokens-append logs.lexemes is.laid.lexemes
            ∙ (ap (λ (ts : List Token). tokens_in logs.lexemes ++ ts) (is.laid.tokens_are ∙ statement-ends statement)
            ∙ sym (append_assoc (tokens_in logs.lexemes) (unended statement) (semicolon ∷ [])));
        laid = joined logs.gapped front logs.lexemes is.laid.lexemes logs.gapped_whole is.laid.laid;
      } in
      let now = given-now in
      let parts : length (ended ++ semicolon ∷ []) ≡ length (tokens_in logs.lexemes) + length (statement_tokens statement) =
      ap length (append_assoc (tokens_in logs.lexemes) (unended statement) (semicolon ∷ [])
      ∙ ap (λ (ts : List Token). tokens_in logs.lexemes ++ ts) (sym (statement-ends statement)))
      ∙ length-append (tokens_in logs.lexemes) (statement_tokens statement) in
      elim logs.live.answered [
        | inl nothing ↦ (
            let size : length own.taken ≡ 0 = ap (λ (h : TokenHistory). length h.taken) nothing in
            let all_size = ap length taken in
            let sum = length-append all rest in
            let more = length-append logs.gapped front in
            let front_size = ap length is.ends in
            let last = length-append is.front (59 ∷ []) in
            omega (arith, size, all_size, sum, more, front_size, last))
        | inr answers ↦ (
            let (more, given) = answers.given_at_once all rest ended semicolon taken laid tt in
            let size = ap length given in
            let sum = length-append (ended ++ semicolon ∷ []) more in
            omega (arith, size, sum, parts, now, one_more))
      ]

  pub step-ends : (new : Held) (piece bytes : List ℕ) → IsOffered piece bytes → (count : ℕ) (after : Point) → Logs s limits known new after
      → after.ended ≡ statement ∷ [] → new.buffer ≡ old.buffer ++ take count bytes → EndsWith 59 new.buffer
  step-ends new piece bytes of count after logs_ ended buffer_is =
      let apart = ended-apart s limits known new after statement logs_ ended in
      let is = apart.statement_is in
      let whole : old.buffer ++ take count bytes ≡ apart.front ++ apart.rest = sym buffer_is ∙ apart.bytes_are in
      let before : (rest : List ℕ) → old.buffer ≡ apart.front ++ rest → ⊥ = λ rest. not-before apart.front rest is in
      let alone : apart.rest ≡ [] → EndsWith 59 new.buffer =
      λ nothing. (is.front, apart.bytes_are ∙ (ap (λ (l : List ℕ). apart.front ++ l) nothing ∙ (append-nil apart.front ∙ is.ends))) in
      elim (front-of-other old.buffer (take count bytes) apart.front apart.rest whole) [
        | inl (rest, same) ↦ absurd (before rest same)
        | inr (more, same) ↦ (
            let own : take count bytes ≡ more ++ apart.rest =
            append_cancel_left old.buffer (take count bytes) (more ++ apart.rest)
            (whole ∙ (ap (λ (l : List ℕ). l ++ apart.rest) same ∙ append_assoc old.buffer more apart.rest)) in
            elim (ends-apart old.buffer more 59 (is.front, sym same ∙ is.ends)) [
              | inl nothing ↦ absurd (before [] (sym (same ∙ (ap (λ (l : List ℕ). old.buffer ++ l) nothing ∙ append-nil old.buffer))
                  ∙ sym (append-nil apart.front)))
              | inr (front, last) ↦ (
                  let all : bytes ≡ front ++ 59 ∷ (apart.rest ++ drop count bytes) =
                  sym (take-append-drop count bytes)
                  ∙ (ap (λ (l : List ℕ). l ++ drop count bytes) (own ∙ ap (λ (l : List ℕ). l ++ apart.rest) last)
                  ∙ (append_assoc (front ++ 59 ∷ []) apart.rest (drop count bytes)
                  ∙ append_assoc front (59 ∷ []) (apart.rest ++ drop count bytes))) in
                  let nothing = of.last front (apart.rest ++ drop count bytes) all in
                  alone (no-front apart.rest (drop count bytes) nothing))
            ])
      ]
    where
      no-front : (xs ys : List ℕ) → xs ++ ys ≡ [] → xs ≡ []
      no-front [] ys same = refl
      no-front (x ∷ xs) ys same = cc
