-- The numbers of the refusals that a file has.
use Rattle.std.proofs.Common.{◌≡◌, ◌≢◌, ◌++◌, ◌∷◌, [], ℕ, Bool, true, false, List, inl, inr, refl, sym, subst, map, arith}
use Rattle.p21_grammar.specs.declared.fault.GrammarFault.TheVariants as grammar_fault
use Rattle.p21_grammar_tree.specs.declared.fault.CheckFault.TheVariants as check_fault
use Rattle.p21_spec_basics.proofs.Members.{Each-append, Each-unmapped}
use Rattle.p21_spec_basics.specs.Limits.{Limits}
use Rattle.p21_spec_exchange.specs.Record.{Record}
use Rattle.p21_spec_exchange.specs.Statement.{Statement}
use Rattle.p21_spec_laws.specs.Offending.{Offends, broken as breaks_rule, long_file, long_line, name_again as offends_again, other_schema}
use Rattle.p21_spec_laws.specs.Offending.{section_again, section_of_other_schema}
use Rattle.p21_spec_schema.specs.Schema.{Schema}
use Rattle.p21_spec_survey.specs.Rules as rules
use Rattle.p21_spec_survey.specs.Rules.{OffendsBy, OffendsByItself, Rules, by_itself, of_schema}
use Rattle.p21_spec_survey.specs.Survey as survey
use Rattle.p21_spec_survey.specs.Survey.{IsGoneOnBehind, Reading}
use Rattle.p21_stream_sieve.specs.Sifting.{broken, name_again}
use Rattle.p21_stream_survey.specs.Sifted.{Sifted}
use Rattle.p21_stream_statements.specs.Fault.{fault_number}
use Rattle.p21_stream_statements.specs.Source.{IsOfBytes}
use Rattle.p21_stream_statements.specs.declared.fault.Fault.{Fault}
use Rattle.p21_stream_statements.specs.declared.fault.Fault.TheVariants.{CanonicalTooLong, Check, Dangling, DuplicateName, Grammar}
use Rattle.p21_stream_statements.specs.declared.fault.Fault.TheVariants.{NoMemory, Read, SchemaName, SectionTwice, Token, Write}
use Rattle.p21_stream_statements.specs.declared.fault.Fault.TheVariants.{WrongTarget}
use Rattle.p21_stream_survey.proofs.Judged.{IsRule, rule-of}
use Rattle.p21_stream_survey.specs.Finishing.{end_fault}
use Rattle.p21_stream_survey.specs.Judging.{RefusesBy}
use Rattle.p21_stream_survey.specs.Kinds.{AreOfFile, IsOfFile, ListsOfFile}
use Rattle.p21_stream_survey.specs.Reading.{HasRead, listed_as}
use Rattle.p21_stream_survey.specs.declared.listed.Listed as code
use Rattle.p21_stream_survey.specs.declared.listing.Listing.{Listing}
use Rattle.p21_tokens.specs.Fault.{IsOfTokens}
use Rattle.p21_tokens.specs.declared.fault.TokenFault.{TokenFault}
use Rattle.p21_tokens.specs.declared.fault.TokenFault.TheVariants as token_fault

rule-number : (number : ℕ) → IsRule number → IsOfFile number
rule-number number (inl is) = (λ other. omega (arith, is, other), omega (arith, is))
rule-number number (inr (inl (above, below))) = (λ other. omega (arith, above, other), omega (arith, below))
rule-number number (inr (inr is)) = (λ other. omega (arith, is, other), omega (arith, is))

schema-number : (s : Schema) (limits : Limits) (given : List Statement) (size : ℕ) (statement : Statement) (number : ℕ)
    → Offends s limits given size statement number → IsOfFile number
schema-number s limits given size st number (other_schema _ _ _ _) = ((λ is. omega (arith, is)), omega arith)
schema-number s limits given size st number (section_of_other_schema _ _) = ((λ is. omega (arith, is)), omega arith)
schema-number s limits given size st number (section_again _ _ _) = ((λ is. omega (arith, is)), omega arith)
schema-number s limits given size st number (offends_again _ _ _) = ((λ is. omega (arith, is)), omega arith)
schema-number s limits given size st number (breaks_rule n record_ _ breaks) = rule-number number (rule-of s record_ number breaks)
schema-number s limits given size st number (long_line _ _ _ _) = ((λ is. omega (arith, is)), omega arith)
schema-number s limits given size st number (long_file _ _ _ _) = ((λ is. omega (arith, is)), omega arith)

own-number : (given : List Statement) (statement : Statement) (number : ℕ) → OffendsByItself given statement number → IsOfFile number
own-number given st number (rules.no_name _ _ _ _) = ((λ is. omega (arith, is)), omega arith)
own-number given st number (rules.other_schema _ _ _ _ _ _) = ((λ is. omega (arith, is)), omega arith)
own-number given st number (rules.section_of_other_schema _ _ _ _) = ((λ is. omega (arith, is)), omega arith)
own-number given st number (rules.early_section _ _) = ((λ is. omega (arith, is)), omega arith)
own-number given st number (rules.section_again _ _ _) = ((λ is. omega (arith, is)), omega arith)

pub offends-number : (s : Rules) (limits : Limits) (given : List Statement) (size : ℕ) (statement : Statement) (number : ℕ)
    → OffendsBy s limits given size statement number → IsOfFile number
offends-number (of_schema s) limits given size statement number is = schema-number s limits given size statement number is
offends-number by_itself limits given size statement number is = own-number given statement number is

-- of an instance that is refused
pub refuses-number : (s : Rules) (given : List Statement) (n : ℕ) (record_ : Record) (fault : Fault)
    → RefusesBy s given n record_ fault → IsOfFile (fault_number fault)
refuses-number (of_schema s) given n record_ fault (broken _ of nothing breaks) =
    rule-number (fault_number fault) (rule-of s record_ (fault_number fault) breaks)
refuses-number (of_schema s) given n record_ fault (name_again among) = ((λ is. omega (arith, is)), omega arith)
refuses-number by_itself given n record_ fault (is, among) =
    subst (λ (f : Fault). IsOfFile (fault_number f)) (sym is) ((λ other. omega (arith, other)), omega arith)

-- of a statement that is passed over
pub gone-on-number : (number : ℕ) → IsGoneOnBehind number → IsOfFile number
gone-on-number number (inl low) = (λ is. omega (arith, low, is), omega (arith, low))
gone-on-number number (inr (inl is)) = (λ other. omega (arith, is, other), omega (arith, is))
gone-on-number number (inr (inr (inl is))) = (λ other. omega (arith, is, other), omega (arith, is))
gone-on-number number (inr (inr (inr is))) = (λ other. omega (arith, is, other), omega (arith, is))

-- of one that has too many bytes
pub far-number : IsOfFile (fault_number (Token token_fault.FileTooLong))
far-number = ((λ is. omega (arith, is)), omega arith)

-- of a token, and of the end of a file
token-number : (fault : TokenFault) → IsOfTokens fault → fault ≢ token_fault.NoMemory → IsOfFile (fault_number (Token fault))
token-number token_fault.BadByte of other = ((λ is. omega (arith, is)), omega arith)
token-number token_fault.OpenString of other = ((λ is. omega (arith, is)), omega arith)
token-number token_fault.OpenComment of other = ((λ is. omega (arith, is)), omega arith)
token-number token_fault.BadDirective of other = ((λ is. omega (arith, is)), omega arith)
token-number token_fault.BadCodePoint of other = ((λ is. omega (arith, is)), omega arith)
token-number token_fault.NotUtf8 of other = ((λ is. omega (arith, is)), omega arith)
token-number token_fault.BadNumber of other = ((λ is. omega (arith, is)), omega arith)
token-number token_fault.NumberRange of other = ((λ is. omega (arith, is)), omega arith)
token-number token_fault.BadBinary of other = ((λ is. omega (arith, is)), omega arith)
token-number token_fault.NameRange of other = ((λ is. omega (arith, is)), omega arith)
token-number token_fault.BadName of other = ((λ is. omega (arith, is)), omega arith)
token-number token_fault.NotOneParameter of other = absurd of
token-number token_fault.RecordTooLong of other = ((λ is. omega (arith, is)), omega arith)
token-number token_fault.FileTooLong of other = ((λ is. omega (arith, is)), omega arith)
token-number token_fault.EndsEarly of other = ((λ is. omega (arith, is)), omega arith)
token-number (token_fault.LeftOut absent) of other = ((λ is. omega (arith, is)), omega arith)
token-number token_fault.NoMemory of other = absurd (other refl)

pub bytes-number : (fault : Fault) → IsOfBytes fault → fault ≢ NoMemory → IsOfFile (fault_number fault)
bytes-number (Token fault) (of, other) memory = token-number fault of other
bytes-number (Grammar grammar_fault.Unexpected) of memory = ((λ is. omega (arith, is)), omega arith)
bytes-number (Grammar grammar_fault.TooDeep) of memory = ((λ is. omega (arith, is)), omega arith)
bytes-number (Grammar grammar_fault.EndsEarly) of memory = ((λ is. omega (arith, is)), omega arith)
bytes-number (Grammar grammar_fault.AfterEnd) of memory = ((λ is. omega (arith, is)), omega arith)
bytes-number (Grammar (grammar_fault.LeftOut absent)) of memory = ((λ is. omega (arith, is)), omega arith)
bytes-number (Grammar grammar_fault.HeaderShape) of memory = ((λ is. omega (arith, is)), omega arith)
bytes-number (Grammar grammar_fault.SectionShape) of memory = ((λ is. omega (arith, is)), omega arith)
bytes-number (Grammar grammar_fault.NoMemory) of memory = absurd (of refl)
bytes-number (Check check_fault.NumberRange) of memory = ((λ is. omega (arith, is)), omega arith)
bytes-number (Check check_fault.UnknownEntity) of memory = ((λ is. omega (arith, is)), omega arith)
bytes-number (Check check_fault.Abstract) of memory = ((λ is. omega (arith, is)), omega arith)
bytes-number (Check check_fault.PartMissing) of memory = ((λ is. omega (arith, is)), omega arith)
bytes-number (Check check_fault.PartTwice) of memory = ((λ is. omega (arith, is)), omega arith)
bytes-number (Check check_fault.Count) of memory = ((λ is. omega (arith, is)), omega arith)
bytes-number (Check check_fault.Missing) of memory = ((λ is. omega (arith, is)), omega arith)
bytes-number (Check check_fault.StarNotDerived) of memory = ((λ is. omega (arith, is)), omega arith)
bytes-number (Check check_fault.DerivedNotStar) of memory = ((λ is. omega (arith, is)), omega arith)
bytes-number (Check check_fault.WrongKind) of memory = ((λ is. omega (arith, is)), omega arith)
bytes-number (Check check_fault.Width) of memory = ((λ is. omega (arith, is)), omega arith)
bytes-number (Check check_fault.Bounds) of memory = ((λ is. omega (arith, is)), omega arith)
bytes-number (Check check_fault.NotDistinct) of memory = ((λ is. omega (arith, is)), omega arith)
bytes-number (Check check_fault.UnknownItem) of memory = ((λ is. omega (arith, is)), omega arith)
bytes-number (Check check_fault.SelectType) of memory = ((λ is. omega (arith, is)), omega arith)
bytes-number (Check check_fault.TwoRedeclarations) of memory = ((λ is. omega (arith, is)), omega arith)
bytes-number (Check check_fault.OneOf) of memory = ((λ is. omega (arith, is)), omega arith)
bytes-number (Check check_fault.NoMemory) of memory = absurd (of refl)
bytes-number SchemaName of memory = ((λ is. omega (arith, is)), omega arith)
bytes-number SectionTwice of memory = ((λ is. omega (arith, is)), omega arith)
bytes-number DuplicateName of memory = ((λ is. omega (arith, is)), omega arith)
bytes-number CanonicalTooLong of memory = ((λ is. omega (arith, is)), omega arith)
bytes-number Dangling of memory = ((λ is. omega (arith, is)), omega arith)
bytes-number WrongTarget of memory = ((λ is. omega (arith, is)), omega arith)
bytes-number NoMemory of memory = absurd (memory refl)
bytes-number Read of memory = absurd of
bytes-number Write of memory = absurd of

-- of the end of a file
pub end-number : (fault : Fault) (is_told : Bool) → IsOfFile (fault_number fault) → IsOfFile (fault_number (end_fault fault is_told))
end-number fault true is = is
end-number fault false is = ((λ other. omega (arith, other)), omega arith)

-- ---- in lists

pub lists-more : (list : List survey.Listed) (one : survey.Listed) → ListsOfFile list → IsOfFile one.number → ListsOfFile (list ++ one ∷ [])
lists-more list one are is = Each-append (λ (refusal : survey.Listed). IsOfFile refusal.number) list (one ∷ []) are (is, tt)

pub are-more : (before behind : List code.Listed) (one : code.Listed) → behind ≡ before ++ one ∷ [] → AreOfFile before
    → IsOfFile (fault_number one.fault) → AreOfFile behind
are-more before behind one list are is =
    subst AreOfFile (sym list) (Each-append (λ (refusal : code.Listed). IsOfFile (fault_number refusal.fault)) before (one ∷ []) are
    (is, tt))

-- those of a reading are listed
pub are-listed : (list : List code.Listed) (listed : List survey.Listed) → map listed_as list ≡ listed → ListsOfFile listed → AreOfFile list
are-listed list listed is are = Each-unmapped (λ (refusal : survey.Listed). IsOfFile refusal.number) listed_as list
    (subst ListsOfFile (sym is) are)

module _ (s : Rules) (limits : Limits) (read : Reading) (sieve : Sifted) (listing : Listing)
    (has : HasRead s limits read sieve listing) where
  pub reads-of_file : AreOfFile listing.list.items
  reads-of_file = are-listed listing.list.items read.listed has.listed has.of_file

  -- with one more
  pub reads-with : (one : code.Listed) → IsOfFile (fault_number one.fault) → AreOfFile (listing.list.items ++ one ∷ [])
  reads-with one is = are-more listing.list.items (listing.list.items ++ one ∷ []) one refl reads-of_file is
