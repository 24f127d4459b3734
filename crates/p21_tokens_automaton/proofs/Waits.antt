-- How the spelling of a token is read.
use Rattle.std.proofs.Common.{◌≡◌, ℕ, List, ◌++◌, length, Some}
use Rattle.p21_spec_exchange.specs.Token.{Token, MayFollow}
use Rattle.p21_tokens_automaton.specs.Meaning.{found_of}
use Rattle.p21_tokens_automaton.specs.Step.{advance}
use Rattle.p21_tokens_automaton.specs.Reading.{State, start, before, ended_token, lex}
use Rattle.p21_tokens_automaton.specs.declared.mode.Action.TheVariants.{End}

-- the spelling leads to a state that a byte behind it ends
pub record Waits (token : Token) (spelling : List ℕ) : Type 0 where
  pub state : State
  pub reaches : (rest : List ℕ) → lex start (spelling ++ rest) ≡ lex state rest
  pub ended_is : ended_token state ≡ Some (found_of token spelling)
  pub size_is : state.size ≡ length spelling
  pub ends : (byte : ℕ) → MayFollow token spelling byte → advance state.mode byte ≡ End

-- the last byte of the spelling gives the token
pub record IsGiven (token : Token) (spelling : List ℕ) : Type 0 where
  pub run : (rest : List ℕ) → lex start (spelling ++ rest) ≡ before (record { found = found_of token spelling; size = length spelling }) (lex start rest)
