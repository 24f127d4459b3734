-- Statements in which a file ends, where no remark in them ends.
use Rattle.std.proofs.Common.{◌≡◌, ◌≢◌, ◌+◌, ◌-◌, ◌<◌, ◌≤◌, ◌^◌, inl, inr, ℕ, List, [], ◌∷◌, ◌++◌, length, length-append, take, get_or, Option, Some, None, refl, sym, ap, subst, ◌∙◌, append_assoc, append-nil, arith}
use Rattle.std.proofs.lemmas.List.{length-take, same_from_push, take_all, take_more}
use Rattle.std.specs.Prelude.{codes}
use Rattle.p21_spec_basics.proofs.Members.{head_is}
use Rattle.p21_spec_exchange.proofs.OneGap.{HasNoSeparator, gap-one}
use Rattle.p21_spec_exchange.specs.Separator.{blank, comment}
use Rattle.p21_spec_survey.specs.Survey.{BeginsWithEnd, ends_within}
use Rattle.p21_spec_survey.specs.Whole.{BehindIsLaid}
use Rattle.p21_stream_log.proofs.Endings.{unlaid-no_file}
use Rattle.p21_stream_log.proofs.Openings.{end-first, front-of-other}
use Rattle.p21_stream_log.specs.Endless.{BeginsUnended, BeginsUnendedIn, UnendedGoesOn, UnendedIsBroken, UnendedIsNoEnd}
use Rattle.p21_stream_log.specs.Log.{Held}
use Rattle.p21_stream_log.specs.Passage.{FindsInside}
use Rattle.p21_stream_resume.proofs.EndlessRemarks.{ends-further, ends-open, none-behind}
use Rattle.p21_stream_resume.proofs.OpenRemarks.{open-on}
use Rattle.p21_stream_resume.specs.Standing.{EndsNoRemark, FindsInText}
use Rattle.p21_stream_resume.specs.declared.signpost.Signpost as code
use Rattle.p21_shorter_tokens.specs.Gaps.{PassesSeparators}

-- behind separators none stands where no remark ends, whatever comes
none-further : (rest more : List ℕ) → HasNoSeparator rest → rest ≢ [] → EndsNoRemark (rest ++ more) → HasNoSeparator (rest ++ more)
none-further [] more own some none separator behind is same = some refl
none-further (b ∷ rest) more own some none (blank c) behind is same =
    own (blank c) rest is (ap (λ (x : ℕ). x ∷ rest) (head_is b c _ _ same))
none-further (b ∷ rest) more own some none (comment inside) behind is same =
    none (47 ∷ 42 ∷ inside) behind (same ∙ ap (λ (l : List ℕ). 47 ∷ 42 ∷ l) (append_assoc inside (42 ∷ 47 ∷ []) behind))

passed : (bytes more : List ℕ) (is : BeginsUnended bytes) → EndsNoRemark (bytes ++ more)
    → (bytes ++ more ≡ is.passes.gap ++ (is.rest ++ more)) × HasNoSeparator (is.rest ++ more)
passed bytes more is none =
    let parts : bytes ++ more ≡ is.passes.gap ++ (is.rest ++ more) = ap (λ (l : List ℕ). l ++ more) is.passes.bytes_are
    ∙ append_assoc is.passes.gap is.rest more in
    (parts, none-further is.rest more is.passes.ends is.some (none-behind is.passes.gap (is.rest ++ more) (subst EndsNoRemark parts none)))

pub no-end : UnendedIsNoEnd
no-end bytes more none is (gap, behind, separates, same) =
    let (parts, first) = passed bytes more is none in
    let own = gap-one is.passes.gap gap (is.rest ++ more) (codes "ENDSEC" ++ behind) is.passes.is_gap separates first (end-first behind)
    (sym parts ∙ same) in
    elim (front-of-other is.rest more (codes "ENDSEC") behind own) [ inl long ↦ is.not_end long | inr short ↦ is.not_front short ]

pub begins-unended : (held : Held) (bytes rest : List ℕ) (begins : ℕ) → PassesSeparators bytes rest
    → (held.start + (length bytes - length rest) < 2 ^ 64 → begins ≡ held.start + (length bytes - length rest))
    → BeginsUnendedIn held bytes begins
begins-unended held bytes rest begins passes counted file more read start low file_is none is =
    let (parts, first) = passed bytes more is none in
    let same : is.rest ≡ rest = gap-one is.passes.gap passes.gap is.rest rest is.passes.is_gap passes.is_gap is.passes.ends passes.ends
    (sym is.passes.bytes_are ∙ passes.bytes_are) in
    record {
      gap = is.passes.gap;
      rest = is.rest ++ more;
      file_is = file_is ∙ ap (λ (l : List ℕ). read.bytes ++ l) parts;
      separates = is.passes.is_gap;
      no_more = first;
      begins_is =
          let sizes = ap length is.passes.bytes_are in
          let sum = length-append is.passes.gap is.rest in
          let front = length-append read.bytes is.passes.gap in
          let all = length-append read.bytes bytes in
          let rest_size = ap length same in
          let within : held.start + (length bytes - length rest) < 2 ^ 64 = omega (arith, sizes, sum, all, low, start, rest_size) in
          let begins_ = counted within in
          omega (arith, begins_, sizes, sum, front, start, rest_size);
    }

pub goes-on : UnendedGoesOn
goes-on bytes inside more none ends = ends-further bytes inside more none ends

pub unended-broken : BehindIsLaid → UnendedIsBroken
unended-broken behind s limits known point held statement inside begins logs ended to_end ends in_data no_end_ at =
    let open_ = ends-open statement inside ends in
    record {
      stood = record { before = held.reader; logs = logs; stays = λ earlier began. began; of_instance = inl ended };
      state = open_.state;
      lexed = open_.lexed;
      to_end = λ none inside_ ends_. to_end;
      next_in = λ file of. record {
        to_pass = record {
          statement = statement;
          behind = [];
          next_are = to_end file of ∙ ap (λ (l : List ℕ). point.read.bytes ++ l) (sym (append-nil statement));
          in_data = in_data;
          no_end = subst (λ (l : List ℕ). ¬ BeginsWithEnd l) (sym (append-nil statement)) no_end_;
          why = ends_within 3 refl (unlaid-no_file behind point.read.kept statement logs.lexemes logs.kept_whole
              (λ tokens laid. open_.unlaid laid.lexemes laid.laid)) (inl (omega arith)) (λ two. absurd (omega (arith, two)))
              (λ three. (inside, ends));
        };
        statement_is = refl;
        rest = [];
        behind_are = refl;
        begins_at = at file of;
      };
    }

-- what is found in the text of a statement is found inside it
pub text-inside : (statement : List ℕ) (found : Option (ℕ × code.Signpost)) → FindsInText statement found → FindsInside statement [] found
text-inside statement None (none, none_open) = (none, λ _. none_open)
text-inside statement (Some first) (inl in_string) = inl in_string
text-inside statement (Some first) (inr (none, open_)) = inr (none, refl, open_)

-- ---- where none ends

-- the place isn't the first, and no remark ends in front of it
pub record EndsNoneWithin (at : ℕ) (bytes : List ℕ) : Type 0 where
  pub some : 0 < at
  pub none : EndsNoRemark (take at bytes)

one-none : (bytes : List ℕ) → length bytes ≤ 1 → EndsNoRemark bytes
one-none bytes few before after is = let size = ap length is in let sum = length-append before (42 ∷ 47 ∷ after) in
    omega (arith, few, size, sum)

pub none-first : (bytes : List ℕ) → EndsNoneWithin 1 bytes
none-first bytes = record { some = omega arith; none = one-none (take 1 bytes) (let size = length-take 1 bytes in omega (arith, size)) }

pub none-on : (bytes : List ℕ) (at : ℕ) → at < length bytes → EndsNoneWithin at bytes
    → (get_or bytes (at - 1) 0 ≡ 42 → get_or bytes at 0 ≡ 47 → ⊥) → EndsNoneWithin (at + 1) bytes
none-on bytes at low is other =
    let some = is.some in
    let before = at - 1 in
    let at_is : before + 1 ≡ at = omega (arith, some) in
    let first : take at bytes ≡ take before bytes ++ get_or bytes before 0 ∷ [] = ap (λ (n : ℕ). take n bytes) (sym at_is)
    ∙ take_more bytes before 0 (omega (arith, low, some)) in
    record {
      some = omega arith;
      none = subst EndsNoRemark (sym (take_more bytes at 0 low))
          (open-on (take at bytes) (get_or bytes at 0) is.none
          (λ front same slash. other (same_from_push (take before bytes) front (get_or bytes before 0) 42 (sym first ∙ same)).1 slash));
    }

pub none-all : (bytes : List ℕ) (at : ℕ) → length bytes ≤ at → EndsNoneWithin at bytes → EndsNoRemark bytes
none-all bytes at all is = subst EndsNoRemark (take_all at bytes all) is.none
