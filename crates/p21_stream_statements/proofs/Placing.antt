-- Where a step refuses a byte.
use Rattle.std.proofs.Common.{◌≡◌, ◌≢◌, ◌+◌, ℕ, List, ◌++◌, take, Err, refl, sym, subst}
use Rattle.p21_grammar.specs.declared.fault.GrammarFault.{GrammarFault}
use Rattle.p21_grammar.specs.declared.fault.GrammarFault.TheVariants as grammar_fault
use Rattle.p21_spec_exchange.specs.Laying.{open_bytes}
use Rattle.p21_spec_exchange.specs.Pending.{tail_size}
use Rattle.p21_stream_statements.proofs.Refusing.{begins-dead}
use Rattle.p21_stream_statements.proofs.Seen.{offered}
use Rattle.p21_stream_statements.proofs.Stepping.{none-says}
use Rattle.p21_stream_statements.specs.Fault.{fault_of_grammar, fault_of_token}
use Rattle.p21_stream_statements.specs.Place.{HasPlace, IsOfByte, IsPlaceOf, RefusesByteAt, at_byte, place_of, place_of_token}
use Rattle.p21_stream_statements.specs.StatementReader.{Held, IsLive, IsSeenAt, StatementHistory, limits_of}
use Rattle.p21_stream_statements.specs.Source.{IsOfStatement}
use Rattle.p21_stream_statements.specs.declared.fault.Fault.{Fault}
use Rattle.p21_stream_statements.specs.declared.fault.Fault.TheVariants as faults
use Rattle.p21_tokens.specs.Held as tokens_held
use Rattle.p21_tokens.specs.Histories as tokens
use Rattle.p21_tokens.specs.declared.fault.TokenFault.{TokenFault}
use Rattle.p21_tokens.specs.declared.fault.TokenFault.TheVariants as token_fault
use Rattle.p21_tokens.specs.declared.places.Places.{Places}

module _ (old : Held) (piece : List ℕ) (lexer : tokens_held.Held) where
  byte-refused : (fault : TokenFault) → fault ≢ token_fault.NoMemory → tokens.NextGives old.lexer piece (Err fault) lexer
      → (reading : StatementHistory) → IsLive old reading → IsSeenAt reading.seen piece 0
      → RefusesByteAt (limits_of old) reading.taken piece lexer.file
  byte-refused fault other gives reading live at =
      let offers = offered live.history.seen piece (subst (λ seen. IsSeenAt seen piece 0) (sym live.seen_is) at) in
      let refuses = gives live.history live.lexer offers live.lexer_open in
      subst (λ (taken : List ℕ). RefusesByteAt (limits_of old) taken piece lexer.file) live.taken_are (record {
        count = refuses.count;
        within = refuses.within;
        place_is = refuses.file_is;
        open_bytes = open_bytes 0 refuses.lexemes + tail_size refuses.tail;
        pending = record { lexemes = refuses.lexemes; tail = refuses.tail; laid = refuses.laid; pending_is = refl };
        dead = λ s all record_is file_is. begins-dead (limits_of old) (live.history.taken ++ take (refuses.count + 1) piece) all record_is
            file_is s (fault_of_token fault)
            (none-says fault old.lexer live.history.taken piece refuses.count other refuses.refuses);
      })

  pub token-placed : (fault : TokenFault) → tokens.NextGives old.lexer piece (Err fault) lexer → (reading : StatementHistory)
      → IsLive old reading → IsSeenAt reading.seen piece 0 → HasPlace (limits_of old) reading.taken piece (fault_of_token fault) lexer.file
  token-placed token_fault.BadByte gives reading live at = λ _. byte-refused token_fault.BadByte (λ is. cc) gives reading live at
  token-placed token_fault.BadDirective gives reading live at = λ _. byte-refused token_fault.BadDirective (λ is. cc) gives reading live at
  token-placed token_fault.BadCodePoint gives reading live at = λ _. byte-refused token_fault.BadCodePoint (λ is. cc) gives reading live at
  token-placed token_fault.BadNumber gives reading live at = λ _. byte-refused token_fault.BadNumber (λ is. cc) gives reading live at
  token-placed token_fault.BadBinary gives reading live at = λ _. byte-refused token_fault.BadBinary (λ is. cc) gives reading live at
  token-placed token_fault.NameRange gives reading live at = λ _. byte-refused token_fault.NameRange (λ is. cc) gives reading live at
  token-placed token_fault.BadName gives reading live at = λ _. byte-refused token_fault.BadName (λ is. cc) gives reading live at
  token-placed token_fault.NoMemory gives reading live at = tt
  token-placed token_fault.OpenString gives reading live at = λ other. absurd other
  token-placed token_fault.OpenComment gives reading live at = λ other. absurd other
  token-placed token_fault.NotUtf8 gives reading live at = λ other. absurd other
  token-placed token_fault.NumberRange gives reading live at = λ other. absurd other
  token-placed token_fault.NotOneParameter gives reading live at = λ other. absurd other
  token-placed token_fault.RecordTooLong gives reading live at = λ other. absurd other
  token-placed token_fault.FileTooLong gives reading live at = λ other. absurd other
  token-placed token_fault.EndsEarly gives reading live at = λ other. absurd other
  token-placed (token_fault.LeftOut absent) gives reading live at = λ other. absurd other

-- no fault of the grammar is one of a byte
pub grammar-placed : (limits : ℕ × ℕ) (taken piece : List ℕ) (fault : GrammarFault) (place : ℕ)
    → HasPlace limits taken piece (fault_of_grammar fault) place
grammar-placed limits taken piece grammar_fault.NoMemory place = tt
grammar-placed limits taken piece grammar_fault.EndsEarly place = tt
grammar-placed limits taken piece grammar_fault.TooDeep place = tt
grammar-placed limits taken piece grammar_fault.AfterEnd place = tt
grammar-placed limits taken piece grammar_fault.Unexpected place = tt
grammar-placed limits taken piece (grammar_fault.LeftOut absent) place = tt
grammar-placed limits taken piece grammar_fault.HeaderShape place = tt
grammar-placed limits taken piece grammar_fault.SectionShape place = tt

-- nor is one of a statement
pub statement-placed : (limits : ℕ × ℕ) (taken piece : List ℕ) (fault : Fault) (place : ℕ) → IsOfStatement fault
    → HasPlace limits taken piece fault place
statement-placed limits taken piece (faults.Token fault) place of = absurd of
statement-placed limits taken piece (faults.Grammar fault) place of = tt
statement-placed limits taken piece (faults.Check fault) place of = tt
statement-placed limits taken piece faults.SchemaName place of = tt
statement-placed limits taken piece faults.SectionTwice place of = tt
statement-placed limits taken piece faults.DuplicateName place of = tt
statement-placed limits taken piece faults.CanonicalTooLong place of = tt
statement-placed limits taken piece faults.Dangling place of = tt
statement-placed limits taken piece faults.WrongTarget place of = tt
statement-placed limits taken piece faults.NoMemory place of = tt
statement-placed limits taken piece faults.Read place of = tt
statement-placed limits taken piece faults.Write place of = tt

-- ---- the place of the fault of a byte

byte-place : (fault : TokenFault) (places : Places) → IsOfByte fault → place_of_token fault places ≡ at_byte places.byte
byte-place token_fault.BadByte places of = refl
byte-place token_fault.BadDirective places of = refl
byte-place token_fault.BadCodePoint places of = refl
byte-place token_fault.BadNumber places of = refl
byte-place token_fault.BadBinary places of = refl
byte-place token_fault.NameRange places of = refl
byte-place token_fault.BadName places of = refl
byte-place token_fault.OpenString places of = absurd of
byte-place token_fault.OpenComment places of = absurd of
byte-place token_fault.NotUtf8 places of = absurd of
byte-place token_fault.NumberRange places of = absurd of
byte-place token_fault.NotOneParameter places of = absurd of
byte-place token_fault.RecordTooLong places of = absurd of
byte-place token_fault.FileTooLong places of = absurd of
byte-place token_fault.EndsEarly places of = absurd of
byte-place (token_fault.LeftOut absent) places of = absurd of
byte-place token_fault.NoMemory places of = absurd of

pub is-place : (fault : Fault) (places : Places) → IsPlaceOf fault places.byte (place_of fault places)
is-place (faults.Token fault) places = byte-place fault places
is-place (faults.Grammar fault) places = tt
is-place (faults.Check fault) places = tt
is-place faults.SchemaName places = tt
is-place faults.SectionTwice places = tt
is-place faults.DuplicateName places = tt
is-place faults.CanonicalTooLong places = tt
is-place faults.Dangling places = tt
is-place faults.WrongTarget places = tt
is-place faults.NoMemory places = refl
is-place faults.Read places = refl
is-place faults.Write places = refl
