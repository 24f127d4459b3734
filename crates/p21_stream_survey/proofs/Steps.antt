-- Steps of a log, one behind the other.
use Rattle.std.proofs.Common.{◌≡◌, ◌≢◌, ◌⊎◌, ◌<◌, inl, inr, ℕ, zero, suc, List, [], ◌++◌, take, Option, None, Result, Ok, Err, refl, ap}
use Rattle.std.proofs.Common.{subst, ◌∙◌, append-nil, arith}
use Rattle.p21_grammar.specs.Statements.{statements_of}
use Rattle.p21_grammar.specs.declared.event.Event.{Event}
use Rattle.p21_stream_log.specs.Log.{Held, Logs, Point, StepGives, StepKeeps, behind_token}
use Rattle.p21_stream_statements.specs.StatementReader.{IsSeenAt}
use Rattle.p21_stream_statements.specs.declared.fault.Fault.{Fault}
use Rattle.p21_stream_survey.specs.Token.{TokenGives}

-- a step takes some bytes, or a statement has ended with it
pub step-takes : (old new : Held) (piece : List ℕ) (count : ℕ) (event : Option Event) → (0 < count) ⊎ (statements_of event ≢ [])
    → StepGives old piece (Ok (count, event)) new → TokenGives old piece (Ok (count, event)) new
step-takes old new piece count event moved gives s limits known point more logs between ahead seen =
    let takes = gives s limits known point more logs between ahead seen in
    record {
      some = λ some. some-taken count moved (λ none. (takes.moves some none).0);
      seen = takes.seen;
      seen_at = takes.seen_at;
      logs =
          takes.logs;
      ends = takes.ends;
    }
  where
    some-taken : (n : ℕ) → (0 < n) ⊎ (statements_of event ≢ []) → (n ≡ 0 → statements_of event ≡ []) → 0 < n
    some-taken zero (inl low) moves = absurd (omega (arith, low))
    some-taken zero (inr has) moves = absurd (has (moves refl))
    some-taken (suc n) which moves = omega arith

pub step-refuses : (old new : Held) (piece : List ℕ) (fault : Fault) → StepGives old piece (Err fault) new
    → TokenGives old piece (Err fault) new
step-refuses old new piece fault gives other s limits known point more logs between ahead seen =
    record {
      there = point;
      read_is = refl;
      between = between;
      ahead_are = ahead;
      refused =
          gives other s limits known point more logs between ahead seen;
    }

sees-taken : (n : ℕ) (seen : Option ℕ) → (n ≡ 0 → seen ≡ None) → seen ≢ None → 0 < n
sees-taken zero seen none other = absurd (other (none refl))
sees-taken (suc n) seen none other = omega arith

-- behind a step that takes none the next one takes some
pub step-again : (old middle new : Held) (piece : List ℕ) (count : ℕ) (event : Option Event) (result : Result (ℕ × Option Event) Fault)
    → count ≡ 0 → event ≡ None → StepGives old piece (Ok (count, event)) middle → StepGives middle piece result new
    → TokenGives old piece result new
step-again old middle new piece count event (Ok (size, found)) none nothing first second =
    λ s limits known point more logs between ahead seen.
    let takes = first s limits known point more logs between ahead seen in
    let at : IsSeenAt takes.seen piece 0 = subst (λ (n : ℕ). IsSeenAt takes.seen piece n) none takes.seen_at in
    let here : behind_token point takes.seen piece count more event ≡ behind_token point takes.seen piece 0 more None =
    ap (λ (n : ℕ). behind_token point takes.seen piece n more event) none
    ∙ ap (λ (e : Option Event). behind_token point takes.seen piece 0 more e) nothing in
    let next = second s limits known (behind_token point takes.seen piece 0 more None) more
    (subst (λ (p : Point). Logs s limits known middle p) here takes.logs) refl refl at in
    record {
      some = λ some. sees-taken size takes.seen (λ zero_is. (next.moves some zero_is).1) (takes.moves some none).2;
      seen = next.seen;
      seen_at = next.seen_at;
      logs = next.logs;
      ends = next.ends;
    }
step-again old middle new piece count event (Err fault) none nothing first second =
    λ other s limits known point more logs between ahead seen.
    let takes = first s limits known point more logs between ahead seen in
    let at : IsSeenAt takes.seen piece 0 = subst (λ (n : ℕ). IsSeenAt takes.seen piece n) none takes.seen_at in
    let here : behind_token point takes.seen piece count more event ≡ behind_token point takes.seen piece 0 more None =
    ap (λ (n : ℕ). behind_token point takes.seen piece n more event) none
    ∙ ap (λ (e : Option Event). behind_token point takes.seen piece 0 more e) nothing in
    record {
      there = behind_token point takes.seen piece 0 more None;
      read_is = refl;
      between = refl;
      ahead_are = refl;
      refused = second other s limits known (behind_token point takes.seen piece 0 more None) more
          (subst (λ (p : Point). Logs s limits known middle p) here takes.logs) refl refl at;
    }

-- and the buffer has what both took
pub keeps-again : (old middle new : Held) (piece : List ℕ) (count : ℕ) (event : Option Event) (result : Result (ℕ × Option Event) Fault)
    → count ≡ 0 → StepKeeps old piece (Ok (count, event)) middle → StepKeeps middle piece result new → StepKeeps old piece result new
keeps-again old middle new piece count event (Ok (size, found)) none first second =
    let before : middle.buffer ≡ old.buffer = first.buffer ∙ ap (λ (n : ℕ). old.buffer ++ take n piece) none ∙ append-nil old.buffer in
    record { start = second.start ∙ first.start; buffer = second.buffer ∙ ap (λ (l : List ℕ). l ++ take size piece) before }
keeps-again old middle new piece count event (Err fault) none first second = λ other.
    let before : middle.buffer ≡ old.buffer = first.buffer ∙ ap (λ (n : ℕ). old.buffer ++ take n piece) none ∙ append-nil old.buffer in
    let (start, buffer) = second other in
    (start ∙ first.start, buffer ∙ before)
