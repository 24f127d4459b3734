-- A statement that a step refused is to be passed over.
use Rattle.std.proofs.Common.{◌≡◌, ◌<◌, inl, inr, ℕ, List, [], ◌++◌, length, length-drop, take, drop, refl, sym, ap, subst, ◌∙◌, append_assoc, arith}
use Rattle.std.proofs.lemmas.List.{append_cancel_left, take-append-drop}
use Rattle.std.specs.List.{AllByRecursion as Each}
use Rattle.p21_spec_basics.proofs.Members.{Each-append, Each-back, Each-front}
use Rattle.p21_spec_basics.specs.Digits.{IsByte}
use Rattle.p21_spec_basics.specs.Limits.{Limits}
use Rattle.p21_spec_exchange.specs.Pending.{nothing}
use Rattle.p21_spec_survey.specs.Rules.{Rules}
use Rattle.p21_spec_survey.specs.Survey.{BeginsWithEnd, IsGoneOnBehind, IsInData, begins_none}
use Rattle.p21_spec_survey.specs.Whole.{BeginsNone, BeginsNoneAlike}
use Rattle.p21_spec_syntax.specs.FileWithin.{IsNoFile}
use Rattle.p21_stream_log.specs.Broken.{BreaksOff, IsBroken, IsFrontOf}
use Rattle.p21_stream_log.specs.Front.{IsFront}
use Rattle.p21_stream_log.specs.Log.{Held, IsFileOf, IsRefused, Known, Point}
use Rattle.p21_stream_statements.specs.Fault.{fault_number}
use Rattle.p21_stream_statements.specs.StatementReader.{BeginsNoneBy}
use Rattle.p21_stream_statements.specs.declared.fault.Fault.{Fault}
use Rattle.p21_stream_statements.specs.declared.fault.Fault.TheVariants.{Token}
use Rattle.p21_tokens.specs.declared.fault.TokenFault.TheVariants as token_fault
use Rattle.p21_tokens_automaton.proofs.Steps.{lex-nil}
use Rattle.p21_tokens_automaton.specs.Meaning.{MeanAll}
use Rattle.p21_tokens_automaton.specs.Reading.{Answer, SizedToken, start}

-- ---- no bytes are a front

pub empty-front : (bytes : List ℕ) → IsFrontOf bytes []
empty-front bytes = record {
  is_front = record {
    open_ = record { lexemes = []; tail = nothing; laid = ([], refl, ([], tt, refl), tt); not_ended = tt; open_ = tt };
    state = start;
    lexed = record {
      leads = ap (λ (a : Answer). a.ending) (lex-nil start);
      lexemes = [];
      mean = subst (λ (founds : List SizedToken). MeanAll founds []) (sym (ap (λ (a : Answer). a.given) (lex-nil start))) tt;
    };
  };
  rest = bytes;
  bytes_are = refl;
  some = λ other. absurd (other refl);
}

-- ---- what a refusal says

no-limit : IsGoneOnBehind 22 → ⊥
no-limit (inl low) = omega (arith, low)
no-limit (inr (inl same)) = omega (arith, same)
no-limit (inr (inr (inl same))) = omega (arith, same)
no-limit (inr (inr (inr same))) = omega (arith, same)

no-file_limit : IsGoneOnBehind 23 → ⊥
no-file_limit (inl low) = omega (arith, low)
no-file_limit (inr (inl same)) = omega (arith, same)
no-file_limit (inr (inr (inl same))) = omega (arith, same)
no-file_limit (inr (inr (inr same))) = omega (arith, same)

-- one that a survey goes on behind is of no limit
none-by : (fault : Fault) (limits : ℕ × ℕ) (bytes : List ℕ) → IsGoneOnBehind (fault_number fault) → BeginsNoneBy fault limits bytes
    → BeginsNone bytes
none-by (Token token_fault.RecordTooLong) limits bytes gone none = absurd (no-limit gone)
none-by (Token token_fault.FileTooLong) limits bytes gone none = absurd (no-file_limit gone)
none-by _ limits bytes gone none = none

-- where no file begins with some bytes none begins with more
none-further : (bytes more : List ℕ) → Each IsByte more → BeginsNone bytes → BeginsNone (bytes ++ more)
none-further bytes more are none behind are_ = subst IsNoFile (sym (append_assoc bytes more behind))
    (none (more ++ behind) (Each-append IsByte more behind are are_))

-- ---- a statement

module _ (alike : BeginsNoneAlike) (s : Rules) (limits : Limits) (known : Known) (point : Point) (held : Held) (piece more : List ℕ)
    (fault : Fault) (refused : IsRefused s limits known point piece fault held) (ahead_is : point.ahead ≡ piece ++ more) where
  next-bytes : (file : List ℕ) → IsFileOf known file
      → (rest : List ℕ) × (file ≡ point.read.bytes ++ (held.buffer ++ (piece ++ (more ++ rest))))
  next-bytes file of =
      let (rest, is) = refused.logs.file_is file of in (
        rest,
        is ∙ ap (λ (l : List ℕ). point.read.bytes ++ (held.buffer ++ l))
            (ap (λ (l : List ℕ). l ++ rest) ahead_is ∙ append_assoc piece more rest),
      )

  piece-bytes : (file : List ℕ) → IsFileOf known file → Each IsByte piece
  piece-bytes file of =
      let (rest, is) = next-bytes file of in
      Each-front IsByte piece (more ++ rest)
      (Each-back IsByte held.buffer (piece ++ (more ++ rest))
      (Each-back IsByte point.read.bytes (held.buffer ++ (piece ++ (more ++ rest))) (subst (λ (l : List ℕ). Each IsByte l) is of.0)))

  -- no file begins with the kept bytes, the buffer and the piece
  pub none-begins : IsGoneOnBehind (fault_number fault) → (file : List ℕ) → IsFileOf known file
      → BeginsNone (point.read.kept ++ (held.buffer ++ piece))
  none-begins gone file of =
      let count = refused.refuses.count in
      let logs = refused.logs in
      let none = none-by fault _ (logs.history.taken ++ take count piece) gone refused.refuses.begins_none in
      let own : BeginsNone (logs.gapped ++ (held.buffer ++ take count piece)) =
      subst BeginsNone (ap (λ (l : List ℕ). l ++ take count piece) logs.taken_are ∙ append_assoc logs.gapped held.buffer (take count piece))
      none in
      let kept : BeginsNone (point.read.kept ++ (held.buffer ++ take count piece)) =
      alike logs.gapped point.read.kept (held.buffer ++ take count piece) (logs.lexemes, logs.gapped_whole, logs.kept_whole) own in
      let all : Each IsByte (take count piece ++ drop count piece) =
      subst (λ (l : List ℕ). Each IsByte l) (sym (take-append-drop count piece)) (piece-bytes file of) in
      let further = none-further (point.read.kept ++ (held.buffer ++ take count piece)) (drop count piece)
      (Each-back IsByte (take count piece) (drop count piece) all) kept in
      subst BeginsNone
      (append_assoc point.read.kept (held.buffer ++ take count piece) (drop count piece)
      ∙ ap (λ (l : List ℕ). point.read.kept ++ l) (append_assoc held.buffer (take count piece) (drop count piece)
      ∙ ap (λ (l : List ℕ). held.buffer ++ l) (take-append-drop count piece)))
      further

  pub is-broken : IsGoneOnBehind (fault_number fault) → IsInData point.read.given → (front : List ℕ)
      → IsFrontOf (held.buffer ++ piece) front → IsBroken s limits known point front (fault_number fault)
  is-broken gone in_data front is file of rest rest_is no_end =
      let (further, next) = next-bytes file of in
      let behind : List ℕ = is.rest ++ (more ++ further) in
      let parts : held.buffer ++ (piece ++ (more ++ further)) ≡ front ++ behind =
      sym (append_assoc held.buffer piece (more ++ further))
      ∙ (ap (λ (l : List ℕ). l ++ (more ++ further)) is.bytes_are ∙ append_assoc front is.rest (more ++ further)) in
      let here : file ≡ point.read.bytes ++ (front ++ behind) = next ∙ ap (λ (l : List ℕ). point.read.bytes ++ l) parts in
      let same : rest ≡ front ++ behind = append_cancel_left point.read.bytes rest (front ++ behind) (sym rest_is ∙ here) in
      let none : BeginsNone (point.read.kept ++ (front ++ is.rest)) =
      subst (λ (l : List ℕ). BeginsNone (point.read.kept ++ l)) is.bytes_are (none-begins gone file of) in (
        record {
          statement = front;
          behind = behind;
          next_are = here;
          in_data = in_data;
          no_end = subst (λ (l : List ℕ). ¬ BeginsWithEnd l) same no_end;
          why = begins_none is.rest (more ++ further) (fault_number fault) refl is.is_front.open_ none gone;
        },
        refl,
      )

pub breaks-off : BeginsNoneAlike → (held : Held) (piece bytes front : List ℕ) → bytes ≡ held.buffer ++ piece → IsFrontOf bytes front
    → BreaksOff held piece front
breaks-off alike held piece bytes front bytes_are is = (
  is.is_front,
  λ s limits known point more fault refused ahead_is gone in_data.
      is-broken alike s limits known point held piece more fault refused ahead_is gone in_data front
      (subst (λ (l : List ℕ). IsFrontOf l front) bytes_are is),
)

pub taken-front : (bytes : List ℕ) (count : ℕ) → count < length bytes → IsFront (take count bytes) → IsFrontOf bytes (take count bytes)
taken-front bytes count low is = record {
  is_front = is;
  rest = drop count bytes;
  bytes_are = sym (take-append-drop count bytes);
  some = λ other none. (let left = ap length none in let size = length-drop count bytes in omega (arith, left, size, low));
}
