-- Bytes that a lexer takes without a `;`.
use Rattle.std.proofs.Common.{◌≡◌, ◌≢◌, ℕ, List, [], ◌∷◌, ◌++◌, length, take, drop, Option, Some, None, Ok, refl, sym, ap, subst, ◌∙◌, append_assoc, if◌then◌else◌}
use Rattle.std.proofs.Math.Seq.{take-length}
use Rattle.std.proofs.lemmas.List.{append-nil, take-append-drop}
use Rattle.std.specs.List.{slice_get, AllByRecursion as Each}
use Rattle.p21_spec_basics.proofs.Members.{Each-append}
use Rattle.p21_spec_basics.specs.History.{empty, extended, first_refusal}
use Rattle.p21_spec_exchange.specs.OpenNesting.{IsNoSemicolon}
use Rattle.p21_spec_exchange.specs.Token.{Token, semicolon}
use Rattle.p21_spec_survey.specs.Survey.{IsOpen}
use Rattle.p21_stream_statements.proofs.Begun.{lexer-live}
use Rattle.p21_stream_statements.proofs.OpenTails.{open-tail}
use Rattle.p21_stream_statements.proofs.Pieces.{seen-first}
use Rattle.p21_stream_statements.proofs.Seen.{offered, seen-behind}
use Rattle.p21_stream_statements.proofs.Stepping.{seen-call}
use Rattle.p21_stream_statements.specs.StatementReader.{IsSeenAt}
use Rattle.p21_tokens.proofs.Following.{live-laid}
use Rattle.p21_tokens.specs.Held.{Held, state_of}
use Rattle.p21_tokens.specs.Histories.{NextGives, Stands, TokenHistory, call_of}
use Rattle.p21_tokens.specs.Token.{meant, waits}
use Rattle.p21_tokens.specs.declared.fault.TokenFault.{TokenFault}
use Rattle.p21_tokens.specs.declared.token.Token.{Token as TokenRead}
use Rattle.p21_tokens.specs.declared.token.Token.TheVariants as read
use Rattle.p21_tokens_automaton.proofs.Theorems.{laid-up-to, tail-is}

pub no-semicolon : (token : TokenRead) → token ≢ read.Semicolon → meant token ≢ semicolon
no-semicolon read.Semicolon other = absurd (other refl)
no-semicolon _ other = λ is. cc

-- the lexer has taken what stands in front of the rest, and given no `;`
pub record Along (statement rest : List ℕ) (held : Held) : Type 0 where
  pub history : TokenHistory
  pub stands : Stands held history
  pub alive : history.refusal ≡ None
  pub seen_at : IsSeenAt history.seen rest 0
  pub bytes_are : history.taken ++ rest ≡ statement
  pub not_ended : Each IsNoSemicolon history.given

pub along-first : (statement : List ℕ) (held : Held) → Stands held empty → Along statement statement held
along-first statement held stands = record {
  history = empty;
  stands = stands;
  alive = refl;
  seen_at = tt;
  bytes_are = refl;
  not_ended =
      tt;
}

pub along-on : (statement rest : List ℕ) (held next : Held) (count : ℕ) (token : TokenRead)
    → NextGives held rest (Ok (count, Some token)) next → meant token ≢ semicolon → Along statement rest held
    → Along statement (drop count rest) next
along-on statement rest held next count token gives other along =
    let history = along.history in
    let call = call_of rest count (Some (meant token)) in
    let answers = gives history along.stands (offered history.seen rest along.seen_at) in
    let seen_at : IsSeenAt (extended history call).seen rest count =
    seen-behind history.seen rest count (if waits (meant token) then slice_get rest count else None) along.seen_at
    (seen-call (waits (meant token)) (slice_get rest count)) in
    record {
      history = extended history call;
      stands = answers.stands;
      alive = ap (λ (r : Option TokenFault). first_refusal r None) along.alive;
      seen_at = seen-first (extended history call).seen count rest seen_at;
      bytes_are = append_assoc history.taken (take count rest) (drop count rest)
          ∙ (ap (λ (l : List ℕ). history.taken ++ l) (take-append-drop count rest) ∙ along.bytes_are);
      not_ended = Each-append IsNoSemicolon history.given (meant token ∷ []) along.not_ended (other, tt);
    }

pub along-whole : (statement rest : List ℕ) (held next : Held) (count : ℕ) → NextGives held rest (Ok (count, None)) next
    → count ≡ length rest → Along statement rest held → IsOpen statement
along-whole statement rest held next count gives all along =
    let history = along.history in
    let call = call_of rest count None in
    let answers = gives history along.stands (offered history.seen rest along.seen_at) in
    let live = lexer-live next (extended history call) answers.stands (ap (λ (r : Option TokenFault). first_refusal r None) along.alive) in
    let (tail, laid, tail_is) = live-laid next (extended history call) live in
    let taken : history.taken ++ take count rest ≡ statement =
    ap (λ (l : List ℕ). history.taken ++ l) (ap (λ (n : ℕ). take n rest) all ∙ take-length rest) ∙ along.bytes_are in
    subst IsOpen taken (record {
      lexemes = live.lexemes;
      tail = tail;
      laid = laid-up-to (extended history call).taken live.lexemes tail laid (tail-is (state_of next) tail tail_is);
      not_ended = subst (λ (ts : List Token). Each IsNoSemicolon ts) (sym (live.given_are ∙ append-nil history.given)) along.not_ended;
      open_ = open-tail (state_of next) tail tail_is;
    })
