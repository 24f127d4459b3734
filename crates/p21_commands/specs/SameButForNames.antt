-- What `p21 same --names` writes.
use Rattle.std.specs.Prelude.{◌≡◌, ◌⊎◌, ℕ, Bool, List}
use Rattle.p21_spec_basics.specs.Limits.{usual}
use Rattle.p21_commands.specs.Load.{DeclaresRead}
use Rattle.p21_commands.specs.Numbered.{IsAlikeUnder, IsLongUnder}
use Rattle.p21_commands.specs.Same.{EndsBy, IsRefused, Read, read_in, same_answer_line, word_of}
use Rattle.p21_commands.specs.Streams.{PairStreams}
use Rattle.p21_spec_numbering.specs.Claim.{NumberingClaim}
use Rattle.p21_spec_numbering.specs.Laws.{ranking_of}
use Rattle.p21_spec_schema.specs.Schema.{Schema}
use Rattle.p21_stream.specs.declared.comparing.Which.TheVariants.{First}
use Rattle.p21_stream_numbered.specs.Compared.{ComparesButForNames}
use Rattle.p21_stream_numbered.specs.Numbered.{IsAlikeInput, IsLongInput}

-- the line says whether both files, which are accepted under the schema that its reader declares, mean the same but for the names of their
-- instances; and the claim of numbered files holds of this schema
pub record IsComparedButForNames (read : Read) (same : Bool) (line : List ℕ) : Type 0 where
  pub declared : Schema
  pub declares : DeclaresRead read.schema declared
  pub claim : NumberingClaim declared usual (ranking_of declared)
  pub compares : ComparesButForNames declared usual read.first_old read.first_new read.second_old read.second_new same
  pub line_is : line ≡ same_answer_line same

-- the line says that the numbered file of the first is too long, and so is that of the second
pub record AreLong (read : Read) (line : List ℕ) : Type 0 where
  pub first : IsLongUnder (word_of First) read.schema read.first_old read.first_new line
  pub second : IsLongInput first.declared usual read.second_old read.second_new

-- the line names an instance of the first that its model doesn't tell apart from another one, and the second has such ones too
pub record AreAlike (read : Read) (line : List ℕ) : Type 0 where
  pub first : IsAlikeUnder (word_of First) read.schema read.first_old read.first_new line
  pub one : ℕ
  pub other : ℕ
  pub second : IsAlikeInput first.declared usual read.second_old read.second_new one other

-- the line refuses as without `--names`; or neither file has a numbered file, and the line says why
abbrev pub AreUnnumbered : Read → List ℕ → Type 0
AreUnnumbered read line = IsRefused read line ⊎ (AreLong read line ⊎ AreAlike read line)

abbrev pub EndsComparingButForNames : PairStreams → ℕ → Type 0
EndsComparingButForNames streams answer = EndsBy (IsComparedButForNames (read_in streams)) (AreUnnumbered (read_in streams)) streams answer
