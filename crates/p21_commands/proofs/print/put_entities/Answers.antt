use Rattle.std.proofs.Common.{◌≡◌, ◌+◌, ◌<◌, ◌∙◌, ℕ, List, ap, arith, get_or, length, sym}
use Rattle.std.specs.List.{range_with_len}
use Rattle.std.proofs.lemmas.List.FromFn.{get_or-range_with_len, length-range_with_len}
use Rattle.p21_commands.specs.SchemaText.{entity_line}
use Rattle.p21_stream_output.proofs.Putting.{all_put, more_put, part_put}
use Rattle.p21_commands.proofs.print.put_entities.Goals as goal

pub returns-in_default-clause-err : goal.returns-in_default-clause-err
returns-in_default-clause-err g c =
    let s = c.args.schema.now in
    let n : ℕ = length s.entities in
    let k : ℕ = c.loop-number.number in
    let low : k < n = omega (arith, c.loop-number-test.true, c.entities-number-end.ensures) in
    let size : length (range_with_len 0 n) ≡ n = length-range_with_len 0 n in
    let at : k ≡ get_or (range_with_len 0 n) k 0 = (let zero_ : k ≡ 0 + k = omega arith in zero_
    ∙ sym (get_or-range_with_len 0 n k 0 low)) in
    part_put _ _ _ c.args.waiting.now c.loop-number.waiting _ (λ (line : List ℕ). line) (entity_line s) (range_with_len 0 n) k 0
    (omega (arith, low, size)) (ap (entity_line s) at) c.loop-number.invariant.puts c.in_default.ensures.err

pub loop-number-preserved : goal.loop-number-preserved
loop-number-preserved g c =
    let s = c.args.schema.now in
    let n : ℕ = length s.entities in
    let k : ℕ = c.loop-number.number in
    let low : k < n = omega (arith, c.loop-number-test.true, c.entities-number-end.ensures) in
    let size : length (range_with_len 0 n) ≡ n = length-range_with_len 0 n in
    let at : k ≡ get_or (range_with_len 0 n) k 0 = (let zero_ : k ≡ 0 + k = omega arith in zero_
    ∙ sym (get_or-range_with_len 0 n k 0 low)) in
    record {
      puts = more_put _ _ _ c.args.waiting.now c.loop-number.waiting _ _ (λ (line : List ℕ). line) (entity_line s) (range_with_len 0 n) k 0
          (omega (arith, low, size)) (ap (entity_line s) at) c.loop-number.invariant.puts c.in-Ok.ensures.ok;
      failures = c.in-Ok.ensures.written ∙ c.loop-number.invariant.failures;
    }

pub returns-clause-ok : goal.returns-clause-ok
returns-clause-ok g c =
    let s = c.args.schema.now in
    let n : ℕ = length s.entities in
    let size : length (range_with_len 0 n) ≡ n = length-range_with_len 0 n in
    all_put _ _ c.args.waiting.now _ (λ (line : List ℕ). line) (entity_line s) (range_with_len 0 n) c.loop-number.number
    (omega (arith, size, c.loop-number-test.false, c.entities-number-end.ensures)) c.loop-number.invariant.puts
