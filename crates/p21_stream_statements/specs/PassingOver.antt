-- Whole instances that a lexer with a parser behind it passes over: they were read elsewhere, and are as good as taken and
-- given by them (ISO 10303-21, tokens; data sections).
use Rattle.std.specs.Prelude.{◌≡◌, ◌+◌, ℕ, List, ◌++◌, length, None}
use Rattle.std.specs.List.{flat_map, AllByRecursion as Each}
use Rattle.p21_spec_exchange.specs.Grammar.{IsDataRecord}
use Rattle.p21_spec_exchange.specs.Laying.{Laid}
use Rattle.p21_spec_exchange.specs.Pending.{IsPending}
use Rattle.p21_spec_exchange.specs.Record.{Record}
use Rattle.p21_spec_exchange.specs.Statement.{statement_tokens}
use Rattle.p21_spec_exchange.specs.Token.{Token}
use Rattle.p21_grammar.specs.Between as grammar
use Rattle.p21_grammar.specs.Between.{instances_of}
use Rattle.p21_stream_statements.specs.StatementReader.{Held, IsLive, StatementHistory}
use Rattle.p21_tokens.specs.Passing as tokens

-- the lexer rests, and the parser stands between two instances
abbrev pub IsBetweenInstances : Held → Type 0
IsBetweenInstances held = tokens.IsResting held.lexer × grammar.IsBetweenInstances held.parser

-- no byte was seen that has to be offered, and no token byte is pending
pub record IsAtRest (reading : StatementHistory) : Type 0 where
  pub seen : reading.seen ≡ None
  pub pending : IsPending reading.taken 0

-- so many bytes of whole instances the limits allow
abbrev pub room_of : Held → ℕ
room_of held = tokens.room_of held.lexer

-- what is held behind so many bytes that were passed over
abbrev pub held_behind : Held → ℕ → Held
held_behind held count = record held { lexer = record held.lexer { file = held.lexer.file + count } }

-- the tokens of instances
abbrev pub instance_tokens : List (ℕ × Record) → List Token
instance_tokens instances = flat_map statement_tokens (instances_of instances)

-- the bytes are laid as the tokens of these instances, which have records of a data section; bytes of none are separators
pub record AreInstances (bytes : List ℕ) (instances : List (ℕ × Record)) : Type 0 where
  pub laid : Laid bytes (instance_tokens instances)
  pub of_data : Each (λ i. IsDataRecord i.1) instances

-- the history behind the bytes of instances
abbrev pub with_instances : StatementHistory → List ℕ → List (ℕ × Record) → StatementHistory
with_instances reading bytes instances = record {
  taken = reading.taken ++ bytes;
  seen = None;
  given = reading.given
      ++ instances_of instances;
}

-- a history of so many tokens goes on by the bytes of instances, of which the lexer has given all tokens
pub record PassesInstances (old : StatementHistory) (tokens : ℕ) (bytes : List ℕ) (instances : List (ℕ × Record)) (held : Held) : Type
    0 where
  pub live : IsLive held (with_instances old bytes instances)
  pub more : length live.history.given ≡ tokens + length (instance_tokens instances)

-- where as many bytes are whole instances, each history that was stood for goes on by them
abbrev pub GivesPassed : Held → ℕ → Held → Type 0
GivesPassed old count new =
    (reading : StatementHistory) (live : IsLive old reading) (bytes : List ℕ) (instances : List (ℕ × Record)) → length bytes ≡ count
    → AreInstances bytes instances → PassesInstances reading (length live.history.given) bytes instances new
