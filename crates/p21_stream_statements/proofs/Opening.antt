-- The statement that is open.
use Rattle.std.proofs.Common.{◌≡◌, ℕ, List, subst, ◌∙◌, sym}
use Rattle.p21_spec_exchange.specs.Laying.{tokens_in}
use Rattle.p21_spec_exchange.specs.Pending.{IsPending, LaidUpTo}
use Rattle.p21_spec_exchange.specs.Token.{Token}
use Rattle.p21_stream_statements.specs.StatementReader.{HasOpenStatement, Held, IsEndedBy, IsLive, StatementHistory}
use Rattle.p21_tokens.specs.Histories as tokens

has-open : (reading : StatementHistory) (pending depth : ℕ) (bytes : List ℕ) (given : List Token) → bytes ≡ reading.taken
    → (p : IsPending bytes pending) → tokens_in p.lexemes ≡ given → IsEndedBy given depth reading.given
    → HasOpenStatement reading pending depth
has-open reading pending depth bytes given same p are e = record {
  pending_is = record {
    lexemes = p.lexemes;
    tail = p.tail;
    laid =
        subst (λ (b : List ℕ). LaidUpTo b p.lexemes p.tail) same p.laid;
    pending_is = p.pending_is;
  };
  depth_is = record {
    opened = e.depth_is.opened;
    open_statement = record {
      ended = e.depth_is.open_statement.ended;
      given_are = are ∙ e.depth_is.open_statement.given_are;
      ends = e.depth_is.open_statement.ends;
      no_semicolon = e.depth_is.open_statement.no_semicolon;
    };
    depth_is = e.depth_is.depth_is;
  };
  ended_are = e.ended_are;
}

pub opens : (held : Held) (pending : ℕ) → ((history : tokens.TokenHistory) → tokens.Stands held.lexer history
    → tokens.IsPendingBehind history pending) → (reading : StatementHistory) → IsLive held reading
    → HasOpenStatement reading pending held.parser.depth
opens held pending behind reading live =
    let (p, are) = behind live.history live.lexer in
    has-open reading pending held.parser.depth live.history.taken live.parsing.taken live.taken_are p (are ∙ sym live.tokens_are)
    live.ended_by
