use Rattle.std.proofs.Common.{ℕ, ◌<◌, ◌-◌, ◌^◌}
use Rattle.p21_difference_rows.specs.Steps.{Puts, TellsOf}
use Rattle.p21_differences.specs.Lines.{AreLinesOf}
use Rattle.p21_spec_file.specs.File.{FileMeaning}
use Rattle.p21_difference_rows.specs.Asked.{left_out_of}
use Rattle.p21_difference_rows.proofs.instances.list_instances.Given as goal

-- the names so far are told
abbrev pub invariant-loop-change : goal.invariant-loop-change
invariant-loop-change l =
    (a b : FileMeaning) → AreLinesOf l.style.schema.now a l.first.kept → AreLinesOf l.style.schema.now b l.second.kept
    → Puts l.style (TellsOf (λ (n : ℕ). n < l.least) l.style.schema.now (left_out_of l.style.left_out) a b) l.fn.rows.text.items
    l.rows.text.items

abbrev pub decreases-loop-change : goal.decreases-loop-change
decreases-loop-change l = 2 ^ 64 - l.least
