-- Bytes with which no file begins, by why they are refused.
use Rattle.std.proofs.Common.{◌≡◌, ℕ, List, [], ◌∷◌, ◌++◌}
use Rattle.p21_grammar.specs.Histories.{BeginNoFile}
use Rattle.p21_spec_basics.specs.Limits.{Limits}
use Rattle.p21_spec_exchange.specs.Structure.{tokens_of}
use Rattle.p21_spec_exchange.specs.Token.{Token}
use Rattle.p21_spec_file.specs.Accepted.{IsDead}
use Rattle.p21_spec_laws.specs.Taken.{AreTokensTaken}
use Rattle.p21_spec_schema.specs.Schema.{Schema}
use Rattle.p21_spec_survey.specs.Whole.{BeginsNone, BeginsNoneWithin}
use Rattle.p21_spec_syntax.proofs.NoFiles.{no_file-dead, statement-full, too-long}
use Rattle.p21_spec_syntax.specs.FileWithin.{BeginsNoFile}
use Rattle.p21_stream_statements.specs.StatementReader.{BeginsNoneBy}
use Rattle.p21_stream_statements.specs.declared.fault.Fault.{Fault}
use Rattle.p21_stream_statements.specs.declared.fault.Fault.TheVariants as faults
use Rattle.p21_tokens.specs.Histories.{AreDead, IsStatementFull}
use Rattle.p21_tokens.specs.declared.fault.TokenFault.{TokenFault}
use Rattle.p21_tokens.specs.declared.fault.TokenFault.TheVariants as token_fault

-- ---- why none begins so

-- no tokens are laid in bytes that begin so
pub unlaid-begins_none : (bytes : List ℕ) → AreDead bytes → BeginsNone bytes
unlaid-begins_none bytes dead more are structure schema is = dead more (tokens_of structure) is.laid

-- the tokens with which they begin are those of no tree
pub unbegun-begins_none : (bytes : List ℕ) (given : List Token) → AreTokensTaken bytes given → BeginNoFile given → BeginsNone bytes
unbegun-begins_none bytes given first none more are structure schema is =
    none structure schema is.is_file (first more are (tokens_of structure) is.laid)

-- a statement has as many token bytes as it may have, and one more
pub full-begins_none : (most : ℕ) (bytes : List ℕ) (byte : ℕ) → IsStatementFull most bytes byte → BeginsNoneWithin most (bytes ++ byte ∷ [])
full-begins_none most bytes byte full limits most_is =
    statement-full limits bytes full.lexemes full.tail byte full.laid full.counts (rw most_is full.full)

-- ---- what this says within the limits

module _ (limits : ℕ × ℕ) (bytes : List ℕ) (all : Limits) (record_is : all.record_source ≡ limits.0)
    (file_is : all.file_source ≡ limits.1) where
  of-any : BeginsNone bytes → BeginsNoFile all bytes
  of-any none more are structure schema is = none more are structure schema is.in_grammar

  of-token : (fault : TokenFault) → BeginsNoneBy (faults.Token fault) limits bytes → BeginsNoFile all bytes
  of-token token_fault.RecordTooLong none = none all record_is
  of-token token_fault.FileTooLong none = too-long all bytes (rw file_is none)
  of-token _ none = of-any none

  pub begins-no_file : (fault : Fault) → BeginsNoneBy fault limits bytes → BeginsNoFile all bytes
  begins-no_file (faults.Token fault) none = of-token fault none
  begins-no_file _ none = of-any none

  pub begins-dead : (s : Schema) (fault : Fault) → BeginsNoneBy fault limits bytes → IsDead s all bytes
  begins-dead s fault none = no_file-dead s all bytes (begins-no_file fault none)
