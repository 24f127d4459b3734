-- Bytes that a lexer has taken whole, without a `;`.
use Rattle.std.proofs.Common.{◌≡◌, ℕ, List, ◌++◌, length, take, Option, None, Ok, sym, ap, subst, ◌∙◌}
use Rattle.std.proofs.Math.Seq.{take-length}
use Rattle.p21_spec_basics.specs.History.{extended, first_refusal}
use Rattle.p21_stream_log.specs.Front.{HasTaken}
use Rattle.p21_stream_resume.specs.Lexing.{AreLexed}
use Rattle.p21_stream_statements.proofs.Begun.{lexer-live}
use Rattle.p21_stream_statements.proofs.OpenBytes.{Along, along-whole}
use Rattle.p21_stream_statements.proofs.Seen.{offered, seen-none}
use Rattle.p21_stream_statements.specs.StatementReader.{IsSeenAt}
use Rattle.p21_tokens.proofs.Following.{whole-read}
use Rattle.p21_tokens.specs.Held.{Held, state_of}
use Rattle.p21_tokens.specs.Histories.{NextGives, Stands, TokenHistory, call_of}
use Rattle.p21_tokens.specs.declared.fault.TokenFault.{TokenFault}
use Rattle.p21_tokens_automaton.specs.Meaning.{MeanAll}
use Rattle.p21_tokens_automaton.specs.Reading.{Answer, SizedToken}

-- the history behind the last bytes, of which no token is given
module _ (statement rest : List ℕ) (held next : Held) (count : ℕ) (gives : NextGives held rest (Ok (count, None)) next)
    (all : count ≡ length rest) (along : Along statement rest held) where
  abbrev history : TokenHistory
  history = along.history

  abbrev further : TokenHistory
  further = extended history (call_of rest count None)

  stands : Stands next further
  stands = (gives history along.stands (offered history.seen rest along.seen_at)).stands

  alive : further.refusal ≡ None
  alive = ap (λ (r : Option TokenFault). first_refusal r None) along.alive

  whole : take count rest ≡ rest
  whole = ap (λ (n : ℕ). take n rest) all ∙ take-length rest

  unseen : further.seen ≡ None
  unseen = seen-none history.seen (take count rest) (subst (λ (l : List ℕ). IsSeenAt history.seen l 0) (sym whole) along.seen_at)

  taken : further.taken ≡ statement
  taken = ap (λ (l : List ℕ). history.taken ++ l) whole ∙ along.bytes_are

  lexed : AreLexed statement (state_of next)
  lexed =
      let live = lexer-live next further stands alive in
      let reads = whole-read next further live unseen in
      subst (λ (l : List ℕ). AreLexed l (state_of next)) taken (record {
        leads = ap (λ (a : Answer). a.ending) reads;
        lexemes = live.lexemes;
        mean = subst (λ (founds : List SizedToken). MeanAll founds live.lexemes) (sym (ap (λ (a : Answer). a.given) reads)) live.mean;
      })

  pub along-taken : HasTaken statement next
  along-taken = record {
    is_front = record { open_ = along-whole statement rest held next count gives all along; state = state_of next; lexed = lexed };
    history = further;
    stands = stands;
    alive = alive;
    unseen = unseen;
    taken_are = taken;
  }
