-- What `p21 syntax` writes.
use Rattle.std.specs.Prelude.{Option, ◌≡◌, Bool, true, false, ℕ, List, [], ◌∷◌, ◌++◌, codes, decimal}
use Rattle.p21_spec_basics.specs.Limits.{usual}
use Rattle.p21_commands.specs.Command.{Ends}
use Rattle.p21_commands.specs.Refusals.{IsOfFile, refusal_line}
use Rattle.p21_commands.specs.Streams.{TextStreams}
use Rattle.p21_commands.specs.declared.syntax.Details.{Details}
use Rattle.p21_grammar_tree.specs.View.{part_views}
use Rattle.p21_stream_statements.specs.declared.refusal.Refusal.{Refusal}
use Rattle.p21_stream_syntax.specs.Reading.{IsIllFormedInput, IsWellFormedInput, RefusesSyntax}
use Rattle.p21_stream_syntax.specs.declared.well_formed.WellFormed.{WellFormed}
use Rattle.p21_syntax_words.specs.HeaderText.{header_text}
use Rattle.p21_syntax_words.specs.KeywordCounts.{counts_text}

-- `well formed, instances N, schema NAME` and a line feed
abbrev pub syntax_answer_line : ℕ → List ℕ → List ℕ
syntax_answer_line instances schema = codes "well formed, instances "
    ++ (decimal instances ++ (codes ", schema " ++ (schema ++ codes "\n")))

-- behind a text more of it, where that is asked for
abbrev pub behind : List ℕ → Bool → List ℕ → List ℕ
behind text true more = text ++ more
behind text false more = text

-- the line, which counts the instances and names the schema; and behind it what is asked for: the header in words, then how many
-- records of instances have which keyword. Where nothing is asked for it is the line alone
abbrev pub syntax_text : Details → WellFormed → List ℕ
syntax_text details found =
    behind (behind (syntax_answer_line found.instances found.schema.items) details.header (header_text (part_views found.header.items)))
    details.count (counts_text found.keywords)

-- the text is about the file, which is well formed
pub record IsTold (details : Details) (old new : Option (List ℕ)) (text : List ℕ) : Type 0 where
  pub found : WellFormed
  pub well_formed : IsWellFormedInput usual old new found
  pub text_is : text ≡ syntax_text details found

-- the line names a fault of the file, for which it is not well formed
pub record IsIllFormedLine (old new : Option (List ℕ)) (line : List ℕ) : Type 0 where
  pub refusal : Refusal
  pub of_file : IsOfFile refusal.fault
  pub ill_formed : IsIllFormedInput usual old new
  pub refuses : RefusesSyntax usual old new refusal.fault
  pub line_is : line ≡ refusal_line [] refusal

-- how a command ends that reads a file by itself, by what a line says of the file
abbrev pub EndsReading : (Option (List ℕ) → Option (List ℕ) → List ℕ → Type 0) → (Option (List ℕ) → Option (List ℕ) → List ℕ → Type 0)
    → TextStreams → ℕ → Type 0
EndsReading IsAnswer IsRefusal streams answer =
    Ends (IsAnswer streams.input.before streams.input.behind) (IsRefusal streams.input.before streams.input.behind)
    (streams.input.failures ∷ []) streams.output streams.faults answer
