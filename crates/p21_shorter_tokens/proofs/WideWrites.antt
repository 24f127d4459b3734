-- A whole row of bytes is written, of which some count.
use Rattle.std.proofs.Common.{◌≡◌, ℕ, ◌+◌, ◌≤◌, List, ◌++◌, length, take, ap, sym, ◌∙◌, arith, length-take-le}
use Rattle.std.proofs.lemmas.List.{take-take}
use Rattle.std.proofs.lemmas.Simd.{take_more_put_chunk}
use Rattle.std.proofs.Math.Seq.{take-append-add}
use lib.Lanes.{put_chunk}

pub written-front : (room bytes : List ℕ) (at wide count : ℕ) → wide ≤ length bytes → at + wide ≤ length room → count ≤ wide → take (at + count) (put_chunk at room (take wide bytes)) ≡ take at room ++ take count bytes
written-front room bytes at wide count long fits short =
    let row = take wide bytes in
    let size : length row ≡ wide = length-take-le wide bytes long in
    let front : length (take at room) ≡ at = length-take-le at room (omega arith) in
    sym (take-take (at + count) (at + wide) (put_chunk at room row) (omega arith))
    ∙ (ap (λ (x : List ℕ). take (at + count) x) (take_more_put_chunk at room row (at + wide) (omega (arith, size)) fits)
    ∙ (ap (λ (n : ℕ). take (n + count) (take at room ++ row)) (sym front)
    ∙ (take-append-add (take at room) row count ∙ ap (λ (x : List ℕ). take at room ++ x) (take-take count wide bytes short))))
