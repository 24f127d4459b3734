-- What `p21 check` writes.
use Rattle.std.specs.Prelude.{Option, ◌≡◌, ℕ, List, ◌++◌, codes, decimal, length}
use Rattle.p21_commands.specs.Files.{IsAcceptedUnder}
use Rattle.p21_stream_output.specs.Output.{Output, output_text}

-- `accepted, instances N, canonical bytes M` and a line feed
abbrev pub check_answer_line : ℕ → ℕ → List ℕ
check_answer_line instances bytes = codes "accepted, instances "
    ++ (decimal instances ++ (codes ", canonical bytes " ++ (decimal bytes ++ codes "\n")))

-- the line counts the instances of the file that is accepted, and the bytes of its canonical file
pub record IsChecked (schema file_old file_new : Option (List ℕ)) (line : List ℕ) : Type 0 where
  pub output : Output
  pub accepted : IsAcceptedUnder schema file_old file_new output
  pub line_is : line ≡ check_answer_line (length output.kept) (length (output_text output))
