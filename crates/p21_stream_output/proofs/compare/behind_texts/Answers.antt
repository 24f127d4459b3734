use Rattle.std.proofs.Common.{ℕ, List, [], Bor, refl}
use Rattle.p21_stream_output.proofs.Comparing.{all_behind, more_behind, none_behind}
use Rattle.p21_stream_output.specs.Output.{line_of}
use Rattle.p21_stream_output.proofs.compare.behind_texts.Goals as goal

abbrev no_line : Bor (List ℕ)
no_line = record { ref_ptr = (0, 0); now = [] }

pub returns-in_default : goal.returns-in_default
returns-in_default c =
    none_behind _ _ _ line_of (λ (line : Bor (List ℕ)). line.now) c.args.lines.now c.loop-line.line-index no_line c.loop-line-test.true refl
    c.loop-line.invariant c.in_default.ensures

pub loop-line-preserved : goal.loop-line-preserved
loop-line-preserved c =
    more_behind _ _ _ _ line_of (λ (line : Bor (List ℕ)). line.now) c.args.lines.now c.loop-line.line-index no_line c.loop-line-test.true
    refl c.loop-line.invariant c.in-Some.ensures

pub returns : goal.returns
returns c = all_behind _ _ line_of (λ (line : Bor (List ℕ)). line.now) c.args.lines.now _ c.loop-line-test.false c.loop-line.invariant
