-- Instances of a piece that are taken straight from their bytes, one behind the other.
use Rattle.std.proofs.Common.{◌≡◌, ◌+◌, ◌≤◌, ◌<◌, ℕ, zero, suc, List, ◌++◌, length, take, drop, Option, Some, None, Ok, refl, sym, ap, subst, ◌∙◌, append_assoc, arith}
use Rattle.std.proofs.lemmas.List.{drop-drop, length-drop}
use Rattle.p21_spec_basics.specs.Limits.{Limits}
use Rattle.p21_spec_laws.specs.Keeping.{Kept}
use Rattle.p21_spec_schema.specs.Schema.{Schema}
use Rattle.p21_stream.proofs.Walking.{as-before, ends-on, stays-on, stays-same}
use Rattle.p21_stream.specs.Bounds.{StaysWithin}
use Rattle.p21_stream.specs.Taking.{some_count}
use Rattle.p21_stream.specs.Walk.{EndsBy, EndsNoToken, IsUnderWay, NeedsNoMemory, ReadsOn, TakeGives, TakesWithinPiece}
use Rattle.p21_stream_statements.proofs.Pieces.{seen-first, seen-on, take-add}
use Rattle.p21_stream_statements.specs.StatementReader as statements
use Rattle.p21_stream_statements.specs.StatementReader.{IsSeenAt, limits_of}
use Rattle.p21_stream_statements.specs.declared.refusal.Refusal.{Refusal}

-- some bytes are answered as such
some-is : (n : ℕ) → 0 < n → some_count n ≡ Some n
some-is zero none = absurd (omega (arith, none))
some-is (suc n) some = refl

pub taken-within : (piece : List ℕ) (n : ℕ) → n ≤ length piece → TakesWithinPiece piece (Ok (some_count n))
taken-within piece zero within = tt
taken-within piece (suc n) within = within

module _ (s : Schema) (limits : Limits) where
  -- ---- what some bytes give, and more behind them

  step-further : (held next last : statements.Held) (kept after end : Kept) (piece : List ℕ) (count more : ℕ)
      → ReadsOn s limits held kept piece count next after
      → ReadsOn s limits next after (drop count piece) more last end → ReadsOn s limits held kept piece (count + more) last end
  step-further held next last kept after end piece count more gives further reading live at =
      let on = gives reading live at in
      let beyond = further on.reading on.live (seen-first on.reading.seen count piece on.seen_at) in
      let first = on.more in
      let second = beyond.more in
      record {
        reading = beyond.reading;
        live = beyond.live;
        taken_are = beyond.taken_are ∙ ap (λ (l : List ℕ). l ++ take more (drop count piece)) on.taken_are
            ∙ append_assoc reading.taken (take count piece) (take more (drop count piece))
            ∙ ap (λ (l : List ℕ). reading.taken ++ l) (sym (take-add count more piece));
        seen_at = seen-on beyond.reading.seen count more piece beyond.seen_at;
        more = omega (arith, first, second);
      }

  -- ---- the instances so far

  -- instances of so many bytes at the beginning of a piece were taken; where there is none, all is as before
  pub record AreTaken (first : statements.Held) (old : Kept) (piece : List ℕ) (held : statements.Held) (kept : Kept)
      (count : ℕ) : Type 0 where
    pub within : count ≤ length piece
    pub gives : TakeGives s limits first old piece (Ok (some_count count)) held kept
    pub none : EndsNoToken s limits first old piece (Ok (some_count count))
    pub under_way : IsUnderWay s limits held kept (drop count piece)
    pub stay : StaysWithin limits old kept
    pub limits_are : limits_of held ≡ limits_of first

  pub taken-first : (held : statements.Held) (kept : Kept) (piece : List ℕ) → IsUnderWay s limits held kept piece
      → AreTaken held kept piece held kept 0
  taken-first held kept piece way = record {
    within = omega arith;
    gives = (refl, refl);
    none = tt;
    under_way = way;
    stay = stays-same limits kept;
    limits_are = refl;
  }

  -- what the instance behind those so far gives, all of them give
  gives-more : (first held next : statements.Held) (old kept after : Kept) (piece : List ℕ) (count more : ℕ)
      → TakeGives s limits first old piece (Ok (some_count count)) held kept
      → ReadsOn s limits held kept (drop count piece) more next after → ReadsOn s limits first old piece (count + more) next after
  gives-more first held next old kept after piece zero more same gives =
      let is : zero + more ≡ more = omega arith in
      subst (λ (n : ℕ). ReadsOn s limits first old piece n next after) (sym is)
      (as-before (λ (h : statements.Held) (k : Kept). ReadsOn s limits h k piece more next after) first held old kept same.0 same.1 gives)
  gives-more first held next old kept after piece (suc n) more so_far gives =
      step-further first held next old kept after piece (suc n) more so_far gives

  none-more : (first held : statements.Held) (old kept : Kept) (piece : List ℕ) (count more : ℕ)
      → TakeGives s limits first old piece (Ok (some_count count)) held kept
      → EndsNoToken s limits first old piece (Ok (some_count count)) → EndsNoToken s limits held kept (drop count piece) (Ok (Some more))
      → (many : ℕ) → EndsNoToken s limits first old piece (Ok (Some many))
  none-more first held old kept piece zero more same none further many =
      as-before (λ (h : statements.Held) (k : Kept). EndsNoToken s limits h k piece (Ok (Some many))) first held old kept
      same.0 same.1 further
  none-more first held old kept piece (suc n) more so_far none further many = none

  pub taken-more : (first held next : statements.Held) (old kept after : Kept) (piece : List ℕ) (count more : ℕ)
      → AreTaken first old piece held kept count → ReadsOn s limits held kept (drop count piece) more next after → 0 < more
      → more ≤ length (drop count piece) → EndsNoToken s limits held kept (drop count piece) (Ok (Some more))
      → StaysWithin limits kept after → limits_of next ≡ limits_of held → AreTaken first old piece next after (count + more)
  taken-more first held next old kept after piece count more so_far gives some within none stay same =
      let way = so_far.under_way in
      let on = gives way.reading way.live way.seen_at in
      let rest = length-drop count piece in
      let below = so_far.within in
      let is : some_count (count + more) ≡ Some (count + more) = some-is (count + more) (omega (arith, some)) in
      record {
        within = omega (arith, within, rest, below);
        gives = subst (λ (o : Option ℕ). TakeGives s limits first old piece (Ok o) next after) (sym is)
            (gives-more first held next old kept after piece count more so_far.gives gives);
        none = subst (λ (o : Option ℕ). EndsNoToken s limits first old piece (Ok o)) (sym is)
            (none-more first held old kept piece count more so_far.gives so_far.none none (count + more));
        under_way = record {
          reading = on.reading;
          live = on.live;
          seen_at = subst (λ (l : List ℕ). IsSeenAt on.reading.seen l 0) (drop-drop more count piece)
              (seen-first on.reading.seen more (drop count piece) on.seen_at);
          counted = way.counted;
        };
        stay = stays-on limits old kept after so_far.stay stay;
        limits_are = same ∙ so_far.limits_are;
      }

  -- ---- a refusal behind them

  pub taken-refused : (first held : statements.Held) (old kept : Kept) (piece : List ℕ) (count : ℕ) (refusal : Refusal)
      → count ≤ length piece → TakeGives s limits first old piece (Ok (some_count count)) held kept
      → EndsBy s limits held kept (drop count piece) refusal → EndsBy s limits first old piece refusal
  taken-refused first held old kept piece zero refusal within same behind =
      as-before (λ (h : statements.Held) (k : Kept). EndsBy s limits h k piece refusal) first held old kept same.0 same.1 behind
  taken-refused first held old kept piece (suc n) refusal within given behind =
      ends-on s limits first held old kept piece (suc n) refusal given within behind

  pub refused-quiet : (first held : statements.Held) (old kept : Kept) (piece : List ℕ) (count : ℕ) (refusal : Refusal)
      → TakeGives s limits first old piece (Ok (some_count count)) held kept → EndsNoToken s limits first old piece (Ok (some_count count))
      → NeedsNoMemory s limits held kept (drop count piece) refusal → NeedsNoMemory s limits first old piece refusal
  refused-quiet first held old kept piece zero refusal same none behind =
      as-before (λ (h : statements.Held) (k : Kept). NeedsNoMemory s limits h k piece refusal) first held old kept same.0 same.1 behind
  refused-quiet first held old kept piece (suc n) refusal given none behind =
      λ reading live at pending are. absurd (none reading live at pending are)

  -- ---- no instance behind them

  -- where nothing more is taken, those so far are what was taken
  pub taken-last : (first held next : statements.Held) (old kept after : Kept) (piece rest : List ℕ) (count : ℕ) (answer : Option ℕ)
      → answer ≡ some_count count → TakeGives s limits first old piece (Ok (some_count count)) held kept
      → TakeGives s limits held kept rest (Ok None) next after → TakeGives s limits first old piece (Ok answer) next after
  taken-last first held next old kept after piece rest count answer is so_far same =
      subst (λ (o : Option ℕ). TakeGives s limits first old piece (Ok o) next after) (sym is)
      (as-before (λ (h : statements.Held) (k : Kept). TakeGives s limits first old piece (Ok (some_count count)) h k) next held after kept
      (sym same.0) (sym same.1) so_far)
