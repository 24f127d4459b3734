-- What is counted of a file is what `check` says of it.
use Rattle.std.proofs.Common.{◌≡◌, ℕ, List, Option, length, ap, subst, ◌∙◌}
use Rattle.p21_commands.specs.Check.{IsChecked, check_answer_line}
use Rattle.p21_commands.specs.Load.{DeclaresRead}
use Rattle.p21_spec_basics.specs.Limits.{Limits, usual}
use Rattle.p21_spec_schema.specs.Schema.{Schema}
use Rattle.p21_stream.specs.ReaderInput.{IsCountedInput}
use Rattle.p21_stream.specs.declared.counting.Counted.{Counted}
use Rattle.p21_stream_output.specs.Output.{Output}

pub checked-by : (schema old new : Option (List ℕ)) (s : Schema) (limits : Limits) (counted : Counted) (line : List ℕ) → limits ≡ usual
    → IsCountedInput s limits old new counted → line ≡ check_answer_line counted.instances counted.bytes → DeclaresRead schema s
    → IsChecked schema old new line
checked-by schema old new s limits counted line is_usual is line_is declares =
    let usually : IsCountedInput s usual old new counted = subst (λ (l : Limits). IsCountedInput s l old new counted) is_usual is in
    let own = usually.is_counted in
    let output : Output = own.output in
    record {
      output = output;
      accepted = record {
        declared = s;
        declares = declares;
        accepted =
            record { bytes = usually.bytes; read = usually.read; accepted = own.accepted };
      };
      line_is = line_is ∙ ap (λ (n : ℕ). check_answer_line n counted.bytes) own.instances_are
          ∙ ap (λ (m : ℕ). check_answer_line (length output.kept) m) own.bytes_are;
    }
