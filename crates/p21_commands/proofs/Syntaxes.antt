-- What `syntax` says where a file is not well formed.
use Rattle.std.proofs.Common.{◌≡◌, ◌∙◌, ℕ, List, [], ◌∷◌, ◌++◌, Option, append_assoc, codes, decimal, inl, ap, ap₂, refl, subst, string_bytes}
use Rattle.p21_commands.proofs.FileFailing.{of-no_device}
use Rattle.p21_commands.specs.Failures.{Failures, FailedBy}
use Rattle.p21_commands.specs.Refusals.{IsFaultOf, IsNoDevice, IsOfFile, refusal_line}
use Rattle.p21_commands.specs.Refusing.{RefusesWith}
use Rattle.p21_commands.specs.Syntax.{IsIllFormedLine, IsTold, behind, syntax_answer_line, syntax_text}
use Rattle.p21_commands.specs.declared.fault.CommandFault.{CommandFault}
use Rattle.p21_commands.specs.declared.syntax.Details.{Details}
use Rattle.p21_grammar_tree.specs.View.{part_views}
use Rattle.p21_grammar_tree.specs.declared.record.Part.{Part}
use Rattle.p21_commands.specs.declared.fault.CommandFault.TheVariants.{Refused, NoMemory, Read, Write}
use Rattle.p21_spec_basics.specs.Limits.{Limits, usual}
use Rattle.p21_stream_statements.specs.declared.fault.Fault.{Fault}
use Rattle.p21_stream_statements.specs.declared.fault.Fault.TheVariants as file
use Rattle.p21_stream_statements.specs.declared.refusal.Refusal.{Refusal}
use Rattle.p21_stream_syntax.specs.Reading.{IsIllFormedInput, IsWellFormedInput, RefusesSyntax, read_failures}
use Rattle.p21_stream_syntax.specs.declared.well_formed.WellFormed.{WellFormed}
use Rattle.p21_syntax_words.specs.HeaderText.{header_text}
use Rattle.p21_syntax_words.specs.KeywordCounts.{counts_text}

-- the file is not well formed, where the fault is of it
ill-formed-of : (old new : Option (List ℕ)) (fault : Fault) → IsOfFile fault → RefusesSyntax usual old new fault
    → IsIllFormedInput usual old new
ill-formed-of old new file.NoMemory of refuses = absurd of
ill-formed-of old new file.Read of refuses = absurd of
ill-formed-of old new file.Write of refuses = absurd of
ill-formed-of old new fault of refuses = refuses.1

-- nothing is written
not-written : (old new : Option (List ℕ)) (fault : Fault) → fault ≡ file.Write → RefusesSyntax usual old new fault → ⊥
not-written old new fault is refuses = subst (RefusesSyntax usual old new) is refuses

refuses : (old new : Option (List ℕ)) (refusal : Refusal) (fault : CommandFault) → IsFaultOf [] refusal fault
    → RefusesSyntax usual old new refusal.fault → RefusesWith (IsIllFormedLine old new) fault
refuses old new refusal (Refused line) is says = record {
  refusal = refusal;
  of_file = is.0;
  ill_formed =
      ill-formed-of old new refusal.fault is.0 says;
  refuses = says;
  line_is = is.1;
}
refuses old new refusal NoMemory is says = tt
refuses old new refusal Read is says = tt
refuses old new refusal Write is says = not-written old new refusal.fault is says

pub syntax-refuses : (old new : Option (List ℕ)) (limits : Limits) (refusal : Refusal) (fault : CommandFault) → limits ≡ usual
    → IsFaultOf [] refusal fault → RefusesSyntax limits old new refusal.fault → RefusesWith (IsIllFormedLine old new) fault
syntax-refuses old new limits refusal fault is_usual is says =
    refuses old new refusal fault is (subst (λ (l : Limits). RefusesSyntax l old new refusal.fault) is_usual says)

-- ---- which call failed

no-read : (count : ℕ) (fault : Fault) → IsNoDevice fault → read_failures count fault ≡ count
no-read count file.Read none = absurd none
no-read count fault none = refl

fails : (old new : Option (List ℕ)) (reader : Failures) (refusal : Refusal) (fault : CommandFault) → IsFaultOf [] refusal fault
    → RefusesSyntax usual old new refusal.fault → reader.after ≡ read_failures reader.before refusal.fault → FailedBy (reader ∷ []) [] fault
fails old new reader refusal (Refused line) is says r =
    ((r ∙ no-read reader.before refusal.fault (of-no_device refusal.fault is.0), tt), tt)
fails old new reader refusal NoMemory is says r = ((r ∙ no-read reader.before refusal.fault is, tt), tt)
fails old new reader refusal Read is says r = (inl (r ∙ ap (read_failures reader.before) is, tt), tt)
fails old new reader refusal Write is says r = absurd (not-written old new refusal.fault is says)

pub syntax-fails : (old new : Option (List ℕ)) (limits : Limits) (reader : Failures) (refusal : Refusal) (fault : CommandFault)
    → limits ≡ usual → IsFaultOf [] refusal fault → RefusesSyntax limits old new refusal.fault
    → reader.after ≡ read_failures reader.before refusal.fault → FailedBy (reader ∷ []) [] fault
syntax-fails old new limits reader refusal fault is_usual is says r =
    fails old new reader refusal fault is (subst (λ (l : Limits). RefusesSyntax l old new refusal.fault) is_usual says) r

-- ---- an answer

pub syntax-answered : (details : Details) (old new : Option (List ℕ)) (limits : Limits) (found : WellFormed) (text : List ℕ)
    → limits ≡ usual → IsWellFormedInput limits old new found → text ≡ syntax_text details found → IsTold details old new text
syntax-answered details old new limits found text is_usual is text_is =
    record { found = found; well_formed = subst (λ (l : Limits). IsWellFormedInput l old new found) is_usual is; text_is = text_is }

-- the line, the header and the keywords, one behind the other
pub text-put-together : (details : Details) (found : WellFormed) (header : List Part) (line words all : List ℕ)
    → header ≡ found.header.items → line ≡ syntax_answer_line found.instances found.schema.items
    → words ≡ behind line details.header (header_text (part_views header)) → all ≡ behind words details.count (counts_text found.keywords)
    → all ≡ syntax_text details found
text-put-together details found header line words all header_is line_is words_are all_is =
    all_is ∙ ap (λ (l : List ℕ). behind l details.count (counts_text found.keywords))
    (words_are ∙ ap₂ (λ l (h : List Part). behind l details.header (header_text (part_views h))) line_is header_is)

-- its line, part by part
pub line-put-together : (instances : ℕ) (schema front some all : List ℕ)
    → front ≡ codes "well formed, instances " ++ (decimal instances ++ codes ", schema ") → some ≡ front ++ schema → all ≡ some ++ 10 ∷ []
    → all ≡ syntax_answer_line instances schema
line-put-together instances schema front some all front_is some_is all_is =
    let number = decimal instances in
    let word = codes ", schema " in
    all_is ∙ ap (λ (l : List ℕ). l ++ 10 ∷ []) (some_is ∙ ap (λ (l : List ℕ). l ++ schema) front_is)
    ∙ ap (λ (l : List ℕ). codes "well formed, instances " ++ l)
    (ap (λ (l : List ℕ). l ++ 10 ∷ []) (append_assoc number word schema) ∙ append_assoc number (word ++ schema) (10 ∷ []))
