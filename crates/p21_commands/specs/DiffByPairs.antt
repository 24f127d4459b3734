-- What `p21 diff --names` writes.
use Rattle.std.specs.Prelude.{◌≡◌, ◌⊎◌, ℕ, Bool, List}
use Rattle.p21_spec_basics.specs.Limits.{usual}
use Rattle.p21_commands.specs.Load.{DeclaresRead}
use Rattle.p21_commands.specs.Refusals.{refusal_line}
use Rattle.p21_commands.specs.Same.{IsRefused, Read, word_of}
use Rattle.p21_commands.specs.Unlisted.{MayAllBeMeant}
use Rattle.p21_difference_rows.specs.declared.row.RowForm.{RowForm}
use Rattle.p21_paired_differences.specs.declared.by_pairs.PairRows.{PairRows}
use Rattle.p21_paired_differences.specs.ByPairs.{IsTooLongByPairs, ListsOfRead}
use Rattle.p21_spec_differences.specs.LeftOut.{LeftOut}
use Rattle.p21_spec_schema.specs.Schema.{Schema}
use Rattle.p21_stream.specs.declared.comparing.Which.TheVariants.{First}
use Rattle.p21_stream_statements.specs.declared.fault.Fault.TheVariants.{CanonicalTooLong}
use Rattle.p21_stream_statements.specs.declared.refusal.Refusal.{Refusal}

-- the text lists what differs by pairs of instances in both files, which are accepted under the schema that its reader declares, and isn't
-- left out; the answer is whether nothing is listed
pub record IsListByPairs (form : RowForm) (left : LeftOut) (pairs : PairRows) (read : Read) (empty : Bool) (text : List ℕ) : Type 0 where
  pub declared : Schema
  pub declares : DeclaresRead read.schema declared
  pub meant : MayAllBeMeant declared left
  pub same : Bool
  pub lists : ListsOfRead form left pairs declared usual read.first_old read.first_new read.second_old read.second_new same empty text

-- the line says that the first file is too long under the names of its partners
pub record IsLongByPairs (read : Read) (line : List ℕ) : Type 0 where
  pub declared : Schema
  pub declares : DeclaresRead read.schema declared
  pub long : IsTooLongByPairs declared usual read.first_old read.first_new read.second_old read.second_new
  pub refusal : Refusal
  pub fault_is : refusal.fault ≡ CanonicalTooLong
  pub line_is : line ≡ refusal_line (word_of First) refusal

-- the line refuses as without `--names`, or says so
abbrev pub IsUnpaired : Read → List ℕ → Type 0
IsUnpaired read line = IsRefused read line ⊎ IsLongByPairs read line
