-- Where in a file a refusal stands.
use Rattle.std.specs.Prelude.{◌≡◌, ◌<◌, ◌+◌, ℕ, List, ◌++◌, length, take, Option, Some, None, Result, Ok, Err}
use Rattle.p21_grammar.specs.declared.event.Event.{Event}
use Rattle.p21_grammar.specs.declared.fault.GrammarFault.{GrammarFault}
use Rattle.p21_grammar.specs.declared.fault.GrammarFault.TheVariants as grammar_fault
use Rattle.p21_spec_basics.specs.Limits.{Limits}
use Rattle.p21_spec_exchange.specs.Pending.{IsPending}
use Rattle.p21_spec_file.specs.Accepted.{IsDead}
use Rattle.p21_spec_schema.specs.Schema.{Schema}
use Rattle.p21_stream_statements.specs.StatementReader.{Held, IsLive, IsSeenAt, StatementHistory, limits_of}
use Rattle.p21_stream_statements.specs.declared.fault.Fault.{Fault}
use Rattle.p21_stream_statements.specs.declared.fault.Fault.TheVariants.{Token, Grammar, Check, SchemaName, SectionTwice, DuplicateName, CanonicalTooLong, Dangling, WrongTarget, NoMemory, Read, Write}
use Rattle.p21_stream_statements.specs.declared.place.Place.{Place}
use Rattle.p21_tokens.specs.Held as tokens_held
use Rattle.p21_tokens.specs.declared.fault.TokenFault.{TokenFault}
use Rattle.p21_tokens.specs.declared.fault.TokenFault.TheVariants as token_fault
use Rattle.p21_tokens.specs.declared.places.Places.{Places}

-- ---- which place a refusal has

abbrev pub at_byte : ℕ → Option Place
at_byte byte = Some (record { byte = byte })

-- what is open at the end has the place where it begins, as a number out of range and a token that is left out have; a byte has
-- its own, or of a character in UTF-8 that of the first one; and what is too long that of its statement
abbrev pub place_of_token : TokenFault → Places → Option Place
place_of_token token_fault.OpenString places = at_byte places.token
place_of_token token_fault.OpenComment places = at_byte places.token
place_of_token token_fault.NumberRange places = at_byte places.token
place_of_token (token_fault.LeftOut absent) places = at_byte places.token
place_of_token token_fault.NotUtf8 places = at_byte places.character
place_of_token token_fault.RecordTooLong places = at_byte places.statement
place_of_token token_fault.FileTooLong places = at_byte places.statement
place_of_token token_fault.BadByte places = at_byte places.byte
place_of_token token_fault.BadDirective places = at_byte places.byte
place_of_token token_fault.BadCodePoint places = at_byte places.byte
place_of_token token_fault.BadNumber places = at_byte places.byte
place_of_token token_fault.BadBinary places = at_byte places.byte
place_of_token token_fault.NameRange places = at_byte places.byte
place_of_token token_fault.BadName places = at_byte places.byte
place_of_token token_fault.NotOneParameter places = at_byte places.byte
place_of_token token_fault.EndsEarly places = at_byte places.byte
place_of_token token_fault.NoMemory places = None

-- the token that can't stand there, or the end of the bytes; of a statement of another form its beginning
abbrev pub place_of_grammar : GrammarFault → Places → Option Place
place_of_grammar grammar_fault.EndsEarly places = at_byte places.byte
place_of_grammar grammar_fault.HeaderShape places = at_byte places.statement
place_of_grammar grammar_fault.SectionShape places = at_byte places.statement
place_of_grammar grammar_fault.Unexpected places = at_byte places.token
place_of_grammar grammar_fault.TooDeep places = at_byte places.token
place_of_grammar grammar_fault.AfterEnd places = at_byte places.token
place_of_grammar (grammar_fault.LeftOut absent) places = at_byte places.token
place_of_grammar grammar_fault.NoMemory places = None

-- what is refused with a statement has its beginning; a reference, want of memory, a read and a write have none
abbrev pub place_of : Fault → Places → Option Place
place_of (Token fault) places = place_of_token fault places
place_of (Grammar fault) places = place_of_grammar fault places
place_of (Check fault) places = at_byte places.statement
place_of SchemaName places = at_byte places.statement
place_of SectionTwice places = at_byte places.statement
place_of DuplicateName places = at_byte places.statement
place_of CanonicalTooLong places = at_byte places.statement
place_of Dangling places = None
place_of WrongTarget places = None
place_of NoMemory places = None
place_of Read places = None
place_of Write places = None

-- ---- where bytes decide

-- a fault of the byte at the place
abbrev pub IsOfByte : TokenFault → Type 0
IsOfByte token_fault.BadByte = Unit {0}
IsOfByte token_fault.BadDirective = Unit {0}
IsOfByte token_fault.BadCodePoint = Unit {0}
IsOfByte token_fault.BadNumber = Unit {0}
IsOfByte token_fault.BadBinary = Unit {0}
IsOfByte token_fault.NameRange = Unit {0}
IsOfByte token_fault.BadName = Unit {0}
IsOfByte token_fault.OpenString = ⊥
IsOfByte token_fault.OpenComment = ⊥
IsOfByte token_fault.NotUtf8 = ⊥
IsOfByte token_fault.NumberRange = ⊥
IsOfByte token_fault.NotOneParameter = ⊥
IsOfByte token_fault.RecordTooLong = ⊥
IsOfByte token_fault.FileTooLong = ⊥
IsOfByte token_fault.EndsEarly = ⊥
IsOfByte (token_fault.LeftOut absent) = ⊥
IsOfByte token_fault.NoMemory = ⊥

-- a piece has the byte at the place: the bytes in front of it are tokens, up to one that is open, and nothing that is accepted
-- begins with them and with this byte
pub record RefusesByteAt (limits : ℕ × ℕ) (taken piece : List ℕ) (place : ℕ) : Type 0 where
  pub count : ℕ
  pub within : count < length piece
  pub place_is : place ≡ length (taken ++ take count piece)
  pub open_bytes : ℕ
  pub pending : IsPending (taken ++ take count piece) open_bytes
  pub dead : (s : Schema) (all : Limits) → all.record_source ≡ limits.0 → all.file_source ≡ limits.1
      → IsDead s all (taken ++ take (count + 1) piece)

-- where it is the fault of a byte, this stands at the place
abbrev pub HasPlace : ℕ × ℕ → List ℕ → List ℕ → Fault → ℕ → Type 0
HasPlace limits taken piece (Token fault) place = IsOfByte fault → RefusesByteAt limits taken piece place
HasPlace limits taken piece (Grammar fault) place = Unit {0}
HasPlace limits taken piece (Check fault) place = Unit {0}
HasPlace limits taken piece SchemaName place = Unit {0}
HasPlace limits taken piece SectionTwice place = Unit {0}
HasPlace limits taken piece DuplicateName place = Unit {0}
HasPlace limits taken piece CanonicalTooLong place = Unit {0}
HasPlace limits taken piece Dangling place = Unit {0}
HasPlace limits taken piece WrongTarget place = Unit {0}
HasPlace limits taken piece NoMemory place = Unit {0}
HasPlace limits taken piece Read place = Unit {0}
HasPlace limits taken piece Write place = Unit {0}

-- the fault of a byte has this place
abbrev pub IsPlaceOf : Fault → ℕ → Option Place → Type 0
IsPlaceOf (Token fault) byte found = IsOfByte fault → found ≡ at_byte byte
IsPlaceOf (Grammar fault) byte found = Unit {0}
IsPlaceOf (Check fault) byte found = Unit {0}
IsPlaceOf SchemaName byte found = Unit {0}
IsPlaceOf SectionTwice byte found = Unit {0}
IsPlaceOf DuplicateName byte found = Unit {0}
IsPlaceOf CanonicalTooLong byte found = Unit {0}
IsPlaceOf Dangling byte found = Unit {0}
IsPlaceOf WrongTarget byte found = Unit {0}
IsPlaceOf NoMemory byte found = found ≡ None
IsPlaceOf Read byte found = found ≡ None
IsPlaceOf Write byte found = found ≡ None

-- the place in the file behind the bytes taken
abbrev pub place_behind : Held → ℕ
place_behind held = tokens_held.place_of held.lexer

-- a step that refuses a byte has taken those in front of it
abbrev pub StepPlaces : Held → List ℕ → Result (Option (ℕ × Option Event)) Fault → Held → Type 0
StepPlaces old piece (Ok answer) new = Unit {0}
StepPlaces old piece (Err fault) new = (reading : StatementHistory) → IsLive old reading → IsSeenAt reading.seen piece 0
    → HasPlace (limits_of old) reading.taken piece fault (place_behind new)
