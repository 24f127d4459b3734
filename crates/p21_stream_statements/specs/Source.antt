-- Where a fault comes from.
use Rattle.std.specs.Prelude.{◌≢◌}
use Rattle.p21_grammar.specs.declared.fault.GrammarFault.TheVariants as grammar_fault
use Rattle.p21_grammar_tree.specs.declared.fault.CheckFault.TheVariants as check_fault
use Rattle.p21_stream_statements.specs.declared.fault.Fault.{Fault}
use Rattle.p21_stream_statements.specs.declared.fault.Fault.TheVariants.{Check, Grammar, Token, Read, Write}
use Rattle.p21_tokens.specs.Fault.{IsOfTokens}
use Rattle.p21_tokens.specs.declared.fault.TokenFault.TheVariants as token_fault

-- the fault is none of a reader or a writer, nor that of a text that is no single parameter; and want of memory is none of a
-- token, a statement or a record: it is `NoMemory` alone
abbrev pub IsOfBytes : Fault → Type 0
IsOfBytes Read = ⊥
IsOfBytes Write = ⊥
IsOfBytes (Token fault) = IsOfTokens fault × (fault ≢ token_fault.NoMemory)
IsOfBytes (Grammar fault) = fault ≢ grammar_fault.NoMemory
IsOfBytes (Check fault) = fault ≢ check_fault.NoMemory
IsOfBytes fault = Unit {0}

-- the fault is one of a statement: none of a token or the grammar either
abbrev pub IsOfStatement : Fault → Type 0
IsOfStatement Read = ⊥
IsOfStatement Write = ⊥
IsOfStatement (Token fault) = ⊥
IsOfStatement (Grammar fault) = ⊥
IsOfStatement (Check fault) = fault ≢ check_fault.NoMemory
IsOfStatement fault = Unit {0}
