-- What a run of bytes makes of what is held.
use Rattle.std.proofs.Common.{eqb, cond, ◌≡◌, ℕ, ◌+◌, ◌≤◌, ◌<◌, true, false, List, ◌++◌, length, take, slice_index, refl, sym, ap, ◌∙◌, subst, arith, Ok, Err, Result, IfOk}
use Rattle.std.proofs.lemmas.Bool.{cond_both}
use Rattle.std.proofs.lemmas.Bool.Decides.{nat_tests}
use Rattle.std.proofs.lemmas.List.{length-take-le, take-take}
use Rattle.std.specs.Str.{chars, IsUtf8}
use Rattle.p21_tokens_automaton.proofs.CharacterRuns.{run-characters}
use Rattle.p21_tokens_automaton.proofs.Runs.{run-passes, run-keeps, run-puts, run-names}
use Rattle.p21_tokens_automaton.specs.Reading.{lex}
use Rattle.p21_tokens_automaton.specs.Run.{EachHasAction, AreNameDigits, AreCharacterBytes}
use Rattle.p21_tokens_automaton.specs.Step.{advance}
use Rattle.p21_tokens_automaton.specs.declared.mode.Action.{Action}
use Rattle.p21_tokens_automaton.specs.declared.mode.Action.TheVariants.{Pass, Keep, Put, Refuse}
use Rattle.p21_tokens_automaton.specs.declared.mode.Mode.{Mode}
use Rattle.p21_tokens_automaton.specs.declared.mode.Mode.TheVariants.{Between, Slash, Comment, Star, Name, Text}
use Rattle.p21_tokens_automaton.specs.declared.mode.NameMode.TheVariants.{Digits}
use Rattle.p21_tokens_automaton.specs.declared.mode.TextMode.TheVariants.{Inside}
use Rattle.p21_tokens_automaton.specs.declared.mode.Wrong.TheVariants as wrong
use Rattle.p21_tokens.proofs.Stepping.{same-limits}
use Rattle.p21_tokens.specs.Held.{Held, state_of}
use Rattle.p21_tokens.specs.Steps.{is_gap, SameLimits, LacksMemory, Runs, with_characters, with_pending_bytes}
use Rattle.p21_tokens.specs.declared.fault.TokenFault.{TokenFault}

-- ---- memory is asked for inside a token alone

-- not a byte that leaves a place between tokens as it is, and takes memory
abbrev Leaves : Action → Type 0
Leaves (Keep m) = is_gap m ≡ false
Leaves (Put m c) = is_gap m ≡ false
Leaves other = Unit {0}

gap-leaves : (m : Mode) (b : ℕ) → is_gap m ≡ true → Leaves (advance m b)
gap-leaves Between b g = between b
  where
    between : (b : ℕ) → Leaves (advance Between b)
    between b = grind (arith, nat_tests)
gap-leaves Slash b g = cond_both (eqb b 42) (Pass Comment) (Refuse wrong.Byte) Leaves (λ e. tt) (λ e. tt)
gap-leaves Comment b g = cond_both (eqb b 42) (Pass Star) (Pass Comment) Leaves (λ e. tt) (λ e. tt)
gap-leaves Star b g =
    cond_both (eqb b 47) (Pass Between) (cond (eqb b 42) (Pass Star) (Pass Comment)) Leaves (λ e. tt)
    (λ e. cond_both (eqb b 42) (Pass Star) (Pass Comment) Leaves (λ f. tt) (λ f. tt))
gap-leaves _ b g = cc

keeps-inside : (m : Mode) (b : ℕ) → advance m b ≡ Keep m → is_gap m ≡ true → ⊥
keeps-inside m b e g = let f : is_gap m ≡ false = subst Leaves e (gap-leaves m b g) in cc

puts-inside : (m : Mode) (b c : ℕ) → advance m b ≡ Put m c → is_gap m ≡ true → ⊥
puts-inside m b c e g = let f : is_gap m ≡ false = subst Leaves e (gap-leaves m b g) in cc

-- ---- runs

front : (m : Mode) (piece : List ℕ) (n count : ℕ) (does : ℕ → Action) → n ≤ count → EachHasAction m piece count does → EachHasAction m piece n does
front m piece n count does h e = record { within = let w = e.within in omega arith; each = λ k l. e.each k (omega arith) }

module _ (v : Held) (piece : List ℕ) (n count : ℕ) where
  ran : (w : Held) → n ≤ length piece → SameLimits v w → w.file ≡ v.file + n → w.statement ≡ v.statement → (is_gap v.mode ≡ true → is_gap w.mode ≡ true) → ((rest : List ℕ) → lex (state_of v) (take n piece ++ rest) ≡ lex (state_of w) rest) → Runs v piece (Ok n) w
  ran w h s f t m r = (
    h,
    s,
    record { file_is = f ∙ ap (λ k. v.file + k) (sym (length-take-le n piece h)); statement_is = t; rest_is = r; gap = λ g blank. m g },
  )

  pub ran-passed : (w : Held) → n ≤ count → EachHasAction v.mode piece count (λ b. Pass v.mode) → w ≡ record v { file = v.file + n } → Runs v piece (Ok n) w
  ran-passed w h e q = subst (λ (x : Held). Runs v piece (Ok n) x) (sym q)
      (ran _ (let k = e.within in omega arith) (same-limits v _ refl refl refl) refl refl (λ g. g) (λ rest. run-passes (state_of v) piece rest n (front v.mode piece n count _ h e)))

  within-run : count ≤ length piece → n ≤ length (take count piece) → n ≤ count
  within-run c h = omega (arith, length-take-le count piece c)

  ran-pending_bytes : (w : Held) → n ≤ length (take count piece) → EachHasAction v.mode piece count (λ b. Keep v.mode) → w ≡ record v { pending_bytes = v.pending_bytes ++ take n (take count piece); size = v.size + n; file = v.file + n } → Runs v piece (Ok n) w
  ran-pending_bytes w h e q =
      let k : n ≤ count = within-run e.within h in
      subst (λ (x : Held). Runs v piece (Ok n) x) (sym (q ∙ ap (λ (x : List ℕ). record v { pending_bytes = v.pending_bytes ++ x; size = v.size + n; file = v.file + n }) (take-take n count piece k)))
      (ran _ (let l = e.within in omega arith) (same-limits v _ refl refl refl) refl refl (λ g. g) (λ rest. run-keeps (state_of v) piece rest n (front v.mode piece n count _ k e)))

  ran-put : (w : Held) → n ≤ length (take count piece) → EachHasAction v.mode piece count (λ b. Put v.mode b) → w ≡ record v { characters = v.characters ++ take n (take count piece); size = v.size + n; file = v.file + n } → Runs v piece (Ok n) w
  ran-put w h e q =
      let k : n ≤ count = within-run e.within h in
      subst (λ (x : Held). Runs v piece (Ok n) x) (sym (q ∙ ap (λ (x : List ℕ). record v { characters = v.characters ++ x; size = v.size + n; file = v.file + n }) (take-take n count piece k)))
      (ran _ (let l = e.within in omega arith) (same-limits v _ refl refl refl) refl refl (λ g. g) (λ rest. run-puts (state_of v) piece rest n (front v.mode piece n count _ k e)))

module _ (v : Held) (piece : List ℕ) (count : ℕ) (w : Held) where
  failed : (x : TokenFault) (r : Result ℕ TokenFault) → r ≡ Err x → LacksMemory v r w → (is_gap v.mode ≡ true → ⊥) → Runs v piece (Err x) w
  failed x (Ok k) e h n = absurd cc
  failed x (Err y) e h n = let f = h.0 in (cc, h.1, n, h.2)

  pub ran-kept_or_failed : (r : Result ℕ TokenFault) → 0 < count → EachHasAction v.mode piece count (λ b. Keep v.mode)
      → IfOk r (λ n. n ≤ length (take count piece)) → IfOk r (λ n. w ≡ with_pending_bytes v v.mode (take n (take count piece)) n)
      → LacksMemory v r w → Runs v piece r w
  ran-kept_or_failed (Ok n) z e l h g = ran-pending_bytes v piece n count w l e h
  ran-kept_or_failed (Err x) z e l h g = failed x (Err x) refl g (keeps-inside v.mode (slice_index piece 0) (e.each 0 z))

  pub ran-put_or_failed : (r : Result ℕ TokenFault) → 0 < count → EachHasAction v.mode piece count (λ b. Put v.mode b)
      → IfOk r (λ n. n ≤ length (take count piece)) → IfOk r (λ n. w ≡ with_characters v v.mode (take n (take count piece)) n)
      → LacksMemory v r w → Runs v piece r w
  ran-put_or_failed (Ok n) z e l h g = ran-put v piece n count w l e h
  ran-put_or_failed (Err x) z e l h g = failed x (Err x) refl g (puts-inside v.mode (slice_index piece 0) (slice_index piece 0) (e.each 0 z))

pub ran-named : (v : Held) (piece : List ℕ) (count value : ℕ) (w : Held) → AreNameDigits v.mode piece count value → w ≡ record v { mode = Name (Digits value); size = v.size + count; file = v.file + count } → Runs v piece (Ok count) w
ran-named v piece count value w h q =
    subst (λ (x : Held). Runs v piece (Ok count) x) (sym q)
    (ran v piece count 0 _ h.within (same-limits v _ refl refl refl) refl refl (λ g. ap is_gap (sym h.mode_is) ∙ g) (λ rest. run-names (state_of v) piece rest count value h))

pub ran-none : (v : Held) (piece : List ℕ) (w : Held) → w ≡ v → Runs v piece (Ok 0) w
ran-none v piece w q =
    subst (λ (x : Held). Runs v piece (Ok 0) x) (sym q)
    (ran v piece 0 0 v (omega arith) (same-limits v v refl refl refl) (omega arith) refl (λ g. g) (λ rest. refl))

module _ (v : Held) (piece : List ℕ) (count : ℕ) (w : Held) where
  abbrev utf8_taken : ℕ → Held
  utf8_taken n = with_characters v v.mode (chars (take n (take count piece))) n

  ran-utf8 : (n : ℕ) → n ≤ length (take count piece) → IsUtf8 (take n (take count piece)) → AreCharacterBytes v.mode piece count → w ≡ utf8_taken n → Runs v piece (Ok n) w
  ran-utf8 n h u e q =
      let k : n ≤ count = omega (arith, length-take-le count piece e.within) in
      let same = take-take n count piece k in
      let few : AreCharacterBytes v.mode piece n = record { mode_is = e.mode_is; within = let l = e.within in omega arith; each = λ i l. e.each i (omega arith) } in
      subst (λ (x : Held). Runs v piece (Ok n) x) (sym (q ∙ ap (λ (x : List ℕ). record v { characters = v.characters ++ chars x; size = v.size + n; file = v.file + n }) same))
      (ran v piece n count _ few.within (same-limits v _ refl refl refl) refl refl (λ g. g) (λ rest. run-characters (state_of v) piece rest n few (subst IsUtf8 same u)))

  inside-token : AreCharacterBytes v.mode piece count → is_gap v.mode ≡ true → ⊥
  inside-token e g = let f : is_gap (Text Inside) ≡ true = ap is_gap (sym e.mode_is) ∙ g in cc

  pub ran-utf8_or_failed : (r : Result ℕ TokenFault) → AreCharacterBytes v.mode piece count
      → IfOk r (λ n. n ≤ length (take count piece)) → IfOk r (λ n. IsUtf8 (take n (take count piece))) → IfOk r (λ n. w ≡ utf8_taken n)
      → LacksMemory v r w → Runs v piece r w
  ran-utf8_or_failed (Ok n) e l u h g = ran-utf8 n l u e h
  ran-utf8_or_failed (Err x) e l u h g = failed v piece count w x (Err x) refl g (inside-token e)
