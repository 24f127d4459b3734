-- The faults of the layers below are none of a reader or a writer.
use Rattle.p21_grammar_tree.specs.declared.fault.CheckFault.{CheckFault}
use Rattle.p21_grammar_tree.specs.declared.fault.CheckFault.TheVariants as check_fault
use Rattle.p21_grammar.specs.declared.fault.GrammarFault.{GrammarFault}
use Rattle.p21_grammar.specs.declared.fault.GrammarFault.TheVariants as grammar_fault
use Rattle.p21_stream_statements.specs.Fault.{fault_of_check, fault_of_grammar, fault_of_token}
use Rattle.p21_stream_statements.specs.Source.{IsOfBytes, IsOfStatement}
use Rattle.p21_stream_statements.specs.declared.fault.Fault.{Fault}
use Rattle.p21_stream_statements.specs.declared.fault.Fault.TheVariants as faults
use Rattle.p21_tokens.specs.Fault.{IsOfTokens}
use Rattle.p21_tokens.specs.declared.fault.TokenFault.{TokenFault}
use Rattle.p21_tokens.specs.declared.fault.TokenFault.TheVariants as token_fault

pub token-of_bytes : (fault : TokenFault) → IsOfTokens fault → IsOfBytes (fault_of_token fault)
token-of_bytes token_fault.BadByte of = (of, λ e. cc e)
token-of_bytes token_fault.OpenString of = (of, λ e. cc e)
token-of_bytes token_fault.OpenComment of = (of, λ e. cc e)
token-of_bytes token_fault.BadDirective of = (of, λ e. cc e)
token-of_bytes token_fault.BadCodePoint of = (of, λ e. cc e)
token-of_bytes token_fault.NotUtf8 of = (of, λ e. cc e)
token-of_bytes token_fault.BadNumber of = (of, λ e. cc e)
token-of_bytes token_fault.NumberRange of = (of, λ e. cc e)
token-of_bytes token_fault.BadBinary of = (of, λ e. cc e)
token-of_bytes token_fault.NameRange of = (of, λ e. cc e)
token-of_bytes token_fault.BadName of = (of, λ e. cc e)
token-of_bytes token_fault.NotOneParameter of = (of, λ e. cc e)
token-of_bytes token_fault.RecordTooLong of = (of, λ e. cc e)
token-of_bytes token_fault.FileTooLong of = (of, λ e. cc e)
token-of_bytes token_fault.EndsEarly of = (of, λ e. cc e)
token-of_bytes (token_fault.LeftOut absent) of = (of, λ e. cc e)
token-of_bytes token_fault.NoMemory of = tt

pub grammar-of_bytes : (fault : GrammarFault) → IsOfBytes (fault_of_grammar fault)
grammar-of_bytes grammar_fault.Unexpected = λ e. cc e
grammar-of_bytes grammar_fault.TooDeep = λ e. cc e
grammar-of_bytes grammar_fault.EndsEarly = λ e. cc e
grammar-of_bytes grammar_fault.AfterEnd = λ e. cc e
grammar-of_bytes (grammar_fault.LeftOut absent) = λ e. cc e
grammar-of_bytes grammar_fault.HeaderShape = λ e. cc e
grammar-of_bytes grammar_fault.SectionShape = λ e. cc e
grammar-of_bytes grammar_fault.NoMemory = tt

pub check-of_statement : (fault : CheckFault) → IsOfStatement (fault_of_check fault)
check-of_statement check_fault.NumberRange = λ e. cc e
check-of_statement check_fault.UnknownEntity = λ e. cc e
check-of_statement check_fault.Abstract = λ e. cc e
check-of_statement check_fault.PartMissing = λ e. cc e
check-of_statement check_fault.PartTwice = λ e. cc e
check-of_statement check_fault.Count = λ e. cc e
check-of_statement check_fault.Missing = λ e. cc e
check-of_statement check_fault.StarNotDerived = λ e. cc e
check-of_statement check_fault.DerivedNotStar = λ e. cc e
check-of_statement check_fault.WrongKind = λ e. cc e
check-of_statement check_fault.Width = λ e. cc e
check-of_statement check_fault.Bounds = λ e. cc e
check-of_statement check_fault.NotDistinct = λ e. cc e
check-of_statement check_fault.UnknownItem = λ e. cc e
check-of_statement check_fault.SelectType = λ e. cc e
check-of_statement check_fault.TwoRedeclarations = λ e. cc e
check-of_statement check_fault.OneOf = λ e. cc e
check-of_statement check_fault.NoMemory = tt

-- a fault of a statement is one of bytes
pub statement-of_bytes : (fault : Fault) → IsOfStatement fault → IsOfBytes fault
statement-of_bytes (faults.Token fault) of = absurd of
statement-of_bytes (faults.Grammar fault) of = absurd of
statement-of_bytes (faults.Check fault) of = of
statement-of_bytes faults.SchemaName of = tt
statement-of_bytes faults.SectionTwice of = tt
statement-of_bytes faults.DuplicateName of = tt
statement-of_bytes faults.CanonicalTooLong of = tt
statement-of_bytes faults.Dangling of = tt
statement-of_bytes faults.WrongTarget of = tt
statement-of_bytes faults.NoMemory of = tt
statement-of_bytes faults.Read of = absurd of
statement-of_bytes faults.Write of = absurd of
