-- Tokens that stand whole at the front of bytes.
use Rattle.std.proofs.Common.{◌≡◌, ℤ, false, inl, inr, ◌≢◌, ℕ, suc, ◌+◌, ◌^◌, ◌≤◌, ◌<◌, true, append_assoc, List, [], ◌∷◌, ◌++◌, length, length-append, length-drop, get_or, take, drop, refl, sym, ap, ◌∙◌, subst, arith, append-nil, Some, Ok, Err}
use Rattle.std.specs.List.{slice_range}
use Rattle.std.proofs.lemmas.Bool.{ne_eqb}
use Rattle.std.proofs.lemmas.Bool.Decides.{nat_tests}
use Rattle.std.proofs.lemmas.List.{length-take-le, get_or-drop}
use Rattle.std.proofs.lemmas.Option.{slice_get_within, slice_get-get_or}
use Rattle.std.proofs.Math.Seq.{take-add, take-append_seam}
use Rattle.p21_spec_exchange.specs.Laying.{count_behind}
use Rattle.p21_spec_exchange.specs.Token as meaning
use Rattle.p21_spec_basics.specs.Digits.{IsDigit, number as value_of}
use Rattle.p21_spec_exchange.proofs.Forms.{NoDigitFirst}
use Rattle.p21_scan.proofs.Classes.{digit-decides}
use Rattle.p21_scan.proofs.NamesAt.{name-spells}
use Rattle.p21_scan.specs.Digits.{BeginsWithoutByte}
use Rattle.p21_scan.specs.Name.{IsNameAt}
use Rattle.p21_scan.specs.Text.{EndsText}
use Rattle.p21_scan.specs.Word.{IsTokenAt}
use Rattle.p21_spec_exchange.specs.Keyword.{IsKeyword, IsUpper}
use Rattle.p21_spec_exchange.specs.Number as value
use Rattle.p21_spec_exchange.specs.Number.{SpellsReal, SpellsWhole}
use Rattle.p21_spec_exchange.specs.Token.{Spells, MayFollow}
use Rattle.p21_tokens_automaton.proofs.Once.{spells-means}
use Rattle.p21_tokens_automaton.proofs.Runs.{run-puts}
use Rattle.p21_tokens_automaton.proofs.Steps.{lex-nil, lex-pass, lex-skip, lex-give, lex-end}
use Rattle.p21_tokens_automaton.proofs.TokenRuns.{waits-keyword, waits-name, waits-whole, waits-real}
use Rattle.p21_tokens_automaton.proofs.Waits.{Waits}
use Rattle.p21_scan.specs.Bytes.{is_blank}
use Rattle.p21_tokens_automaton.specs.Meaning.{found_of}
use Rattle.p21_tokens_automaton.specs.Reading.{known, State, start, before, FoundToken, single_token, ended_token, lex}
use Rattle.p21_tokens_automaton.specs.Step.{advance}
use Rattle.p21_tokens_automaton.specs.declared.mode.Mode.TheVariants.{Between, Number, Text}
use Rattle.p21_tokens_automaton.specs.declared.mode.NumberMode.TheVariants as number
use Rattle.p21_tokens_automaton.specs.declared.mode.TextMode.TheVariants.{Inside, Apostrophe}
use Rattle.p21_tokens_automaton.specs.declared.mode.Single.{Single}
use Rattle.p21_tokens_automaton.specs.declared.mode.Action.TheVariants.{Give, Keep, Pass}
use Rattle.p21_tokens.specs.Prefix.{EndsNumber, ReachesWaitingToken, ReachesToken, single, leads, ArePlain, TakesLeadingToken}
use Rattle.p21_tokens.specs.Held.{Held, pending_of, state_of}
use Rattle.p21_tokens.specs.Steps.{AreBlank, SameCounts, SameLimits, TakesRun, GivesToken, HandsOverToken, Steps, Scans, handed}
use Rattle.p21_tokens.specs.declared.fault.TokenFault.TheVariants as fault
use Rattle.p21_tokens.specs.declared.step.Outcome.TheVariants.{Gave}
use Rattle.p21_tokens.specs.Token.{meant, waits}
use Rattle.p21_tokens.specs.declared.token.Token.{Token}
use Rattle.p21_tokens.proofs.Scanning.{Along, behind-those, byte-behind, run-join, along-gave}
use Rattle.p21_tokens.proofs.Stepping.{same-counts_itself}
use Rattle.p21_values.specs.declared.fault.NoMemory.{NoMemory}
use Rattle.p21_tokens.proofs.Stepping.{ended_token-waits, single-at_once, waits-count}
use Rattle.p21_tokens_automaton.proofs.Theorems.{same-open}

-- separators alone lead nowhere
blank-reads : (bytes : List ℕ) → AreBlank bytes → lex start bytes ≡ lex start []
blank-reads [] k = refl
blank-reads (b ∷ bytes) k = lex-pass start Between b bytes (passes b k.0) ∙ blank-reads bytes k.1
  where
    passes : (b : ℕ) → is_blank b ≡ true → advance Between b ≡ Pass Between
    passes b e = rw e refl

no-blanks : (bytes : List ℕ) (state : State) (found : FoundToken) → ((rest : List ℕ) → lex start (bytes ++ rest) ≡ lex state rest) → ended_token state ≡ Some found → AreBlank bytes → ⊥
no-blanks bytes state found reaches e k =
    let reads : lex start bytes ≡ lex state [] = ap (λ (x : List ℕ). lex start x) (sym (append-nil bytes)) ∙ reaches [] in
    let same : start ≡ state = same-open start state (sym (lex-nil start) ∙ (sym (blank-reads bytes k) ∙ (reads ∙ lex-nil state))) in
    let none : ended_token start ≡ Some found = ap ended_token same ∙ e in
    cc

-- what is held inside such a token
abbrev within_token : Held → State → ℕ → Held
within_token v s count = record v { mode = s.mode; pending_bytes = s.pending_bytes; characters = s.characters; size = s.size; file = v.file + count }

-- what is held behind a token
abbrev behind : Held → meaning.Token → ℕ → Held
behind v token count = record v { statement = count_behind v.statement (record { token = token; size = count }); file = v.file + count }

module _ (v : Held) (bytes : List ℕ) (count : ℕ) (token : meaning.Token) (is_start : state_of v ≡ start) (f : ReachesWaitingToken bytes count token) where
  within : count ≤ length bytes
  within = let l = slice_get_within bytes count f.byte f.behind in omega arith

  front-run : TakesRun v (take count bytes) (within_token v f.state count)
  front-run = record {
    file_is = ap (λ (k : ℕ). v.file + k) (sym (length-take-le count bytes within));
    statement_is = refl;
    rest_is = λ rest. ap (λ (s : State). lex s (take count bytes ++ rest)) is_start ∙ f.reaches rest;
    gap = λ g k. absurd (no-blanks (take count bytes) f.state f.found f.reaches f.ended_is k);
  }

  waited : waits token ≡ true
  waited = ended_token-waits f.state.mode f.state.pending_bytes f.state.characters f.found f.ended_is token f.means

  front-hands : pending_of v + count ≤ v.statement_limit → HandsOverToken (within_token v f.state count) f.byte token (behind v token count)
  front-hands l = record {
    found = f.found;
    means = f.means;
    waited = waited;
    ended_is = f.ended_is;
    within = let e = f.size_is in omega arith;
    file_is = refl;
    statement_is = waits-count token count v.statement waited ∙ let e = f.size_is in omega arith;
    start_is = is_start;
    rest_is = λ rest. lex-end f.state f.found f.byte rest f.ends f.ended_is ∙ ap (λ (s : State). before (record { found = f.found; size = f.state.size }) (lex s (f.byte ∷ rest))) (sym is_start);
  }

-- a byte that is a token
single-gives : (v : Held) (byte : ℕ) (one : Single) (token : meaning.Token) → state_of v ≡ start → advance Between byte ≡ Give one → token ≡ single_token one → pending_of v + 1 ≤ v.statement_limit → GivesToken v byte token (behind v token 1)
single-gives v byte one token is_start g e l = record {
  found = record { found = known (single_token one); size = 1 };
  means = sym e;
  at_once = ap waits e ∙ single-at_once one;
  within = omega arith;
  file_is = refl;
  statement_is = refl;
  start_is = is_start;
  rest_is = λ rest.
      ap (λ (x : State). lex x (byte ∷ rest)) is_start
      ∙ (lex-give start one byte rest g ∙ ap (λ (x : State). before (record { found = known (single_token one); size = 1 }) (lex x rest)) (sym is_start));
}

module _ (v w u : Held) (piece : List ℕ) (n : ℕ) (a : Along v w piece n) where
  -- the byte of the piece that is the first of what is left of it
  first-byte : (byte : ℕ) (rest : List ℕ) → drop n piece ≡ byte ∷ rest → (n < length piece) × (byte ≡ get_or piece n 0)
  first-byte byte rest e =
      let l = ap (λ (x : List ℕ). length x) e in
      let m = length-drop n piece in
      let same : n + 0 ≡ n = omega arith in
      (omega arith, sym (ap (λ (x : List ℕ). get_or x 0 0) e) ∙ (get_or-drop n piece 0 0 ∙ ap (λ (k : ℕ). get_or piece k 0) same))

  -- a token at the front of what is left of a piece
  pub along-front : (count : ℕ) (t : Token) → TakesLeadingToken w (slice_range piece n (length piece)) (Some (Ok (count, t))) u → Scans v piece (Ok (n + count, Some t)) u
  along-front count t h = at (subst (λ (x : List ℕ). ReachesToken x count (meant t)) (behind-those piece n a.within) h.1)
    where
      at : ReachesToken (drop n piece) count (meant t) → Scans v piece (Ok (n + count, Some t)) u
      at (leads f) =
          let middle = within_token w f.state count in
          let room : n + count ≤ length piece = let short = slice_get_within (drop n piece) count f.byte f.behind in let l = length-drop n piece in let k = a.within in omega arith in
          subst (λ (x : Held). Scans v piece (Ok (n + count, Some t)) x) (sym h.3) (
            record { statement_limit = a.same.statement_limit; file_limit = a.same.file_limit; refused = a.same.refused },
            (
              room,
              handed middle f.byte (record { statement_limit = a.same.statement_limit; file_limit = a.same.file_limit; refused = a.same.refused })
                  (subst (λ (x : List ℕ). TakesRun v x middle) (sym (take-add n count piece)) (run-join v w middle (take n piece) (take count (drop n piece)) a.run (front-run w (drop n piece) count (meant t) h.0 f)))
                  (front-hands w (drop n piece) count (meant t) h.0 f h.2)
                  (byte-behind piece n count f.byte f.behind),
            ),
          )
      at (single byte rest which e one g s) =
          let first = first-byte byte rest e in
          let held : u ≡ behind w (meant t) 1 = h.3 ∙ ap (λ (k : ℕ). behind w (meant t) k) one in
          let gives : Steps w byte (Ok (Gave t)) (behind w (meant t) 1) = (record { statement_limit = refl; file_limit = refl; refused = refl }, single-gives w byte which (meant t) h.0 g s (subst (λ (k : ℕ). pending_of w + k ≤ w.statement_limit) one h.2)) in
          subst (λ (k : ℕ). Scans v piece (Ok (n + k, Some t)) u) (sym one) (along-gave v w u piece n byte first.0 first.1 a t (subst (λ (x : Held). Steps w byte (Ok (Gave t)) x) (sym held) gives))

  -- want of memory for one
  pub along-no_memory : n < length piece → (x : NoMemory) → TakesLeadingToken w (slice_range piece n (length piece)) (Some (Err x)) u → Scans v piece (Err fault.NoMemory) u
  along-no_memory room x h =
      let first : get_or piece n 0 ≡ get_or (slice_range piece n (length piece)) 0 0 =
      let same : n + 0 ≡ n = omega arith in
      sym (ap (λ (x : List ℕ). get_or x 0 0) (behind-those piece n a.within) ∙ (get_or-drop n piece 0 0 ∙ ap (λ (k : ℕ). get_or piece k 0) same)) in (
        w,
        n,
        get_or piece n 0,
        slice_get-get_or piece n 0 room,
        a.same,
        a.run,
        subst (λ (x : Held). SameLimits v x) (sym h.1) a.same,
        (λ _ blank. let none = rw (sym first) at h.0 in cc),
        subst (λ (x : Held). SameCounts w x) (sym h.1) (same-counts_itself w),
      )

-- where there is none, nothing changes
pub along-no_front : (v w u : Held) (piece : List ℕ) (n : ℕ) → Along v w piece n → u ≡ w → Along v u piece n
along-no_front v w u piece n a e = subst (λ (x : Held). Along v x piece n) (sym e) a

-- ---- which tokens stand there

-- what ends a number is neither a digit nor the byte that it goes on with
ends_whole : (byte : ℕ) → EndsNumber number.Whole byte → (¬ IsDigit byte) × (byte ≢ 46)
ends_whole byte e = (λ d. let on : advance (Number number.Whole) byte ≡ Keep (Number number.Whole) = rw ((digit-decides byte).1 d) refl in cc, λ point. let on : advance (Number number.Whole) byte ≡ Keep (Number number.Fraction) = rw point refl in cc)

ends_fraction : (byte : ℕ) → EndsNumber number.Fraction byte → (¬ IsDigit byte) × (byte ≢ 69)
ends_fraction byte e = (λ d. let on : advance (Number number.Fraction) byte ≡ Keep (Number number.Fraction) = rw ((digit-decides byte).1 d) refl in cc, λ mark. let on : advance (Number number.Fraction) byte ≡ Keep (Number number.Exponent) = rw mark refl in cc)

module _ (bytes : List ℕ) (count byte : ℕ) (found : (count < length bytes) × ((d : ℕ) → byte ≡ get_or bytes count d)) where
  waits-leads : (t : meaning.Token) → Spells t (take count bytes) → Waits t (take count bytes) → MayFollow t (take count bytes) byte → ReachesWaitingToken bytes count t
  waits-leads t s w m =
      let l = found.0 in
      record {
        byte = byte;
        behind = slice_get-get_or bytes count 0 found.0 ∙ ap (λ (b : ℕ). Some b) (sym (found.1 0));
        state = w.state;
        reaches = w.reaches;
        size_is = w.size_is ∙ length-take-le count bytes (omega arith);
        found = found_of t (take count bytes);
        ended_is = w.ended_is;
        means = spells-means t (take count bytes) s;
        ends = w.ends byte m;
      }

  pub leads_whole : (z : ℤ) → SpellsWhole (take count bytes) z → EndsNumber number.Whole byte → ReachesWaitingToken bytes count (meaning.whole z)
  leads_whole z s e = waits-leads (meaning.whole z) s (waits-whole z (take count bytes) s) (ends_whole byte e)

  pub leads_real : (z : value.Decimal) → SpellsReal (take count bytes) z → EndsNumber number.Fraction byte → ReachesWaitingToken bytes count (meaning.real z)
  leads_real z s e = let end = ends_fraction byte e in waits-leads (meaning.real z) s (waits-real z (take count bytes) s) (end.0, λ _. end.1)

-- ---- tokens by their spellings

behind-seam : (front tail : List ℕ) (byte : ℕ) → get_or (front ++ byte ∷ tail) (length front) 0 ≡ byte
behind-seam [] tail byte = refl
behind-seam (x ∷ front) tail byte = behind-seam front tail byte

-- a spelling, and a byte that may stand behind it
front-leads : (bytes spelling tail : List ℕ) (byte : ℕ) (t : meaning.Token) → bytes ≡ spelling ++ byte ∷ tail → Spells t spelling → Waits t spelling → MayFollow t spelling byte → ReachesWaitingToken bytes (length spelling) t
front-leads bytes spelling tail byte t e s w m =
    let count = length spelling in
    let front : take count bytes ≡ spelling = ap (λ (x : List ℕ). take count x) e ∙ take-append_seam spelling (byte ∷ tail) in
    let room : count < length bytes = omega (arith, ap (λ (x : List ℕ). length x) e, length-append spelling (byte ∷ tail)) in
    record {
      byte = byte;
      behind = slice_get-get_or bytes count 0 room ∙ ap (λ (b : ℕ). Some b) (ap (λ (x : List ℕ). get_or x count 0) e ∙ behind-seam spelling tail byte);
      state = w.state;
      reaches = λ rest. ap (λ (x : List ℕ). lex start (x ++ rest)) front ∙ w.reaches rest;
      size_is = w.size_is;
      found = found_of t spelling;
      ended_is = w.ended_is;
      means = spells-means t spelling s;
      ends = w.ends byte m;
    }

pub leads_keyword : (bytes word rest tail : List ℕ) (byte : ℕ) → IsTokenAt bytes (meaning.keyword word) rest → rest ≡ byte ∷ tail → ReachesWaitingToken bytes (length word) (meaning.keyword word)
leads_keyword bytes word rest tail byte x e =
    let t = meaning.keyword word in
    front-leads bytes word tail byte t (x.bytes_are ∙ ap (λ (r : List ℕ). word ++ r) e) x.spells (waits-keyword word word x.spells) (subst (meaning.IsFollowed t word) e x.followed)

-- the word is the front of the bytes, and no separator is its first byte
module _ (bytes word rest : List ℕ) (x : IsTokenAt bytes (meaning.keyword word) rest) where
  pub keyword-within : length word ≤ length bytes
  keyword-within = omega (arith, ap (λ (b : List ℕ). length b) x.bytes_are, length-append word rest)

  pub keyword-front : take (length word) bytes ≡ word
  keyword-front = ap (λ (b : List ℕ). take (length word) b) x.bytes_are ∙ take-append_seam word rest

  pub keyword-no_blank : is_blank (get_or bytes 0 0) ≡ false
  keyword-no_blank = ap (λ (b : List ℕ). is_blank (get_or b 0 0)) x.bytes_are ∙ first word x.spells.1
    where
      upper : (byte : ℕ) → IsUpper byte → is_blank byte ≡ false
      upper byte (inl letter) = grind (arith, nat_tests)
      upper byte (inr line) = grind (arith, nat_tests)

      first : (w : List ℕ) → IsKeyword w → is_blank (get_or (w ++ rest) 0 0) ≡ false
      first [] is = absurd is
      first (byte ∷ bytes) is = upper byte is.0

pub leads_name : (bytes digits rest tail : List ℕ) (byte : ℕ) → IsNameAt bytes digits rest → rest ≡ byte ∷ tail → value_of digits < 2 ^ 64 → ReachesWaitingToken bytes (length digits + 1) (meaning.name (value_of digits))
leads_name bytes digits rest tail byte x e small =
    let t = meaning.name (value_of digits) in
    let spells = name-spells bytes digits rest x small in
    let more : suc (length digits) ≡ length digits + 1 = omega arith in
    subst (λ (k : ℕ). ReachesWaitingToken bytes k t) more
    (front-leads bytes (35 ∷ digits) tail byte t (x.bytes_are ∙ ap (λ (r : List ℕ). 35 ∷ (digits ++ r)) e) spells (waits-name (value_of digits) (35 ∷ digits) spells) (subst NoDigitFirst e x.ends))

-- ---- strings of plain characters

-- characters, the apostrophe behind them, and another byte
module _ (inside characters tail : List ℕ) (byte : ℕ) (whole : inside ≡ characters ++ 39 ∷ byte ∷ tail) (plain : ArePlain inside (length characters)) (other : byte ≢ 39) where
  abbrev count : ℕ
  count = length characters

  abbrev front : List ℕ
  front = characters ++ 39 ∷ []

  seam : inside ≡ front ++ byte ∷ tail
  seam = whole ∙ sym (append_assoc characters (39 ∷ []) (byte ∷ tail))

  size : length front ≡ count + 1
  size = length-append characters (39 ∷ [])

  front-taken : take (count + 1) inside ≡ front
  front-taken = subst (λ (k : ℕ). take k inside ≡ front) size (ap (λ (x : List ℕ). take (length front) x) seam ∙ take-append_seam front (byte ∷ tail))

  characters-taken : take count inside ≡ characters
  characters-taken = ap (λ (x : List ℕ). take count x) whole ∙ take-append_seam characters (39 ∷ byte ∷ tail)

  byte-behind_front : get_or inside (count + 1) 0 ≡ byte
  byte-behind_front = subst (λ (k : ℕ). get_or inside k 0 ≡ byte) size (ap (λ (x : List ℕ). get_or x (length front) 0) seam ∙ behind-seam front tail byte)

  abbrev open_text : State
  open_text = record { mode = Text Inside; pending_bytes = []; characters = []; size = 1 }

  abbrev behind_text : State
  behind_text = record { mode = Text Apostrophe; pending_bytes = []; characters = take count inside; size = 1 + count + 1 }

  reads : (rest : List ℕ) → lex start (39 ∷ (take (count + 1) inside ++ rest)) ≡ lex behind_text rest
  reads rest =
      lex-skip start (Text Inside) 39 (take (count + 1) inside ++ rest) refl
      ∙ (ap (λ (x : List ℕ). lex open_text x) (ap (λ (x : List ℕ). x ++ rest) (front-taken ∙ ap (λ (x : List ℕ). x ++ 39 ∷ []) (sym characters-taken)) ∙ append_assoc (take count inside) (39 ∷ []) rest)
      ∙ (run-puts open_text inside (39 ∷ rest) count plain
      ∙ lex-skip (record open_text { characters = take count inside; size = 1 + count }) (Text Apostrophe) 39 rest refl))

  closed-leads : ReachesWaitingToken (39 ∷ inside) (suc (count + 1)) (meaning.text (take count inside))
  closed-leads = record {
    byte = byte;
    behind = slice_get-get_or inside (count + 1) 0 (omega (arith, size, ap (λ (x : List ℕ). length x) seam, length-append front (byte ∷ tail))) ∙ ap (λ (b : ℕ). Some b) byte-behind_front;
    state = behind_text;
    reaches = reads;
    size_is = omega arith;
    found = known (meaning.text (take count inside));
    ended_is = refl;
    means = refl;
    ends = rw (ne_eqb byte 39 other) refl;
  }

pub leads_text : (inside characters rest bytes value : List ℕ) → bytes ≡ 39 ∷ inside → inside ≡ characters ++ rest → value ≡ characters → ArePlain inside (length characters) → EndsText rest → 2 ≤ length rest
    → ReachesWaitingToken bytes (length characters + 2) (meaning.text value)
leads_text inside characters rest bytes value b i v plain x long = closed x.behind x.bytes_are x.no_other
  where
    more : suc (length characters + 1) ≡ length characters + 2
    more = omega arith

    closed : (behind : List ℕ) → rest ≡ 39 ∷ behind → BeginsWithoutByte 39 behind → ReachesWaitingToken bytes (length characters + 2) (meaning.text value)
    closed [] e n = absurd (omega (arith, long, ap (λ (y : List ℕ). length y) e))
    closed (byte ∷ tail) e n =
        let whole : inside ≡ characters ++ 39 ∷ byte ∷ tail = i ∙ ap (λ (y : List ℕ). characters ++ y) e in
        let text : take (length characters) inside ≡ value = characters-taken inside characters tail byte whole plain n ∙ sym v in
        subst (λ (y : List ℕ). ReachesWaitingToken y (length characters + 2) (meaning.text value)) (sym b)
        (subst (λ (y : List ℕ). ReachesWaitingToken (39 ∷ inside) (length characters + 2) (meaning.text y)) text
        (subst (λ (k : ℕ). ReachesWaitingToken (39 ∷ inside) k (meaning.text (take (length characters) inside))) more (closed-leads inside characters tail byte whole plain n)))
