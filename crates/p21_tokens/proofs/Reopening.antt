-- A lexer that is taken back to where it rested.
use Rattle.std.proofs.Common.{◌≡◌, ℕ, ◌+◌, ◌≤◌, true, false, List, [], length, refl, sym, ap, ◌∙◌, subst, arith, Option, Some, None, Ok}
use Rattle.p21_spec_basics.specs.History.{extended}
use Rattle.p21_spec_exchange.specs.Laying.{count_behind}
use Rattle.p21_spec_exchange.specs.Separator.{IsSeparatorText}
use Rattle.p21_spec_exchange.specs.Token as meaning
use Rattle.p21_tokens_automaton.specs.Reading.{State}
use Rattle.p21_tokens_automaton.specs.declared.mode.Mode.TheVariants.{Between}
use Rattle.p21_tokens.proofs.Passing.{answers-passed}
use Rattle.p21_tokens.specs.Held.{Held}
use Rattle.p21_tokens.specs.Histories.{TokenHistory, Answers, KeepsLimits, Stands}
use Rattle.p21_tokens.specs.Passing.{IsResting, passing_call}
use Rattle.p21_tokens.specs.Reopening.{GivesReopened, RestsBehindSemicolon, reopened}
use Rattle.p21_tokens.specs.Steps.{Scans, ScansToken, gave, handed}
use Rattle.p21_tokens.specs.Token.{meant, waits}
use Rattle.p21_tokens.specs.declared.token.Token.{Token}

-- what rested holds the same in front of the place, under the same limits
same-held : (v earlier : Held) (place : ℕ) → IsResting earlier → KeepsLimits earlier v → reopened v place ≡ record earlier { file = place }
same-held v earlier place is limits =
    let mode : earlier.mode ≡ Between = ap (λ (s : State). s.mode) is.start_is in
    let pending_bytes : earlier.pending_bytes ≡ [] = ap (λ (s : State). s.pending_bytes) is.start_is in
    let characters : earlier.characters ≡ [] = ap (λ (s : State). s.characters) is.start_is in
    let size : earlier.size ≡ 0 = ap (λ (s : State). s.size) is.start_is in
    let statement_limit : v.statement_limit ≡ earlier.statement_limit = limits.0 in
    let file_limit : v.file_limit ≡ earlier.file_limit = limits.1 in
    rw (mode, pending_bytes, characters, size, is.statement_is, is.refused, statement_limit, file_limit) refl

pub gives-reopened : (v w : Held) (place : ℕ) → place ≤ v.file_limit → w ≡ reopened v place → GivesReopened v place w
gives-reopened v w place within is earlier history gap rests limits stands separators place_is =
    let file : earlier.file + length gap ≤ earlier.file_limit = let same : v.file_limit ≡ earlier.file_limit = limits.1 in omega arith in
    subst (λ (x : Held). Answers x (extended history (passing_call gap [])))
    (ap (λ (n : ℕ). record earlier { file = n }) (sym place_is) ∙ (sym (same-held v earlier place rests limits) ∙ sym is))
    (answers-passed earlier history gap [] rests file stands (record { lexemes = []; tokens_are = refl; laid = separators }) tt tt)

-- ---- behind a `;`

pub rests-behind : (v w : Held) (piece : List ℕ) (answer : ℕ × Option Token) → v.refused ≡ None → Scans v piece (Ok answer) w → RestsBehindSemicolon (Ok answer) w
rests-behind v w piece (count, None) none s = tt
rests-behind v w piece (count, Some token) none s = λ is. by_scan is s.1.1
  where
    by_scan : meant token ≡ meaning.semicolon → {bytes : List ℕ} {behind : Option ℕ} → ScansToken v bytes behind (meant token) w → IsResting w
    by_scan is (gave middle front byte same run g e) = record {
      refused = s.0.refused ∙ none;
      start_is = g.start_is;
      statement_is = g.statement_is ∙ ap (λ (t : meaning.Token). count_behind middle.statement (record { token = t; size = g.found.size })) is;
    }
    by_scan is (handed middle byte same run g e) = let clash : true ≡ false = sym g.waited ∙ ap waits is in absurd cc
