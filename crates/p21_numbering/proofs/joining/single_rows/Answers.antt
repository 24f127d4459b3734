use Rattle.std.specs.Global.{Vec}
use Rattle.std.specs.List.{range_with_len}
use Rattle.std.specs.Prelude.{ℕ, List, ◌++◌, ◌∷◌, [], map}
use Rattle.std.proofs.Common.{ap, sym, ◌∙◌}
use Rattle.std.proofs.lemmas.List.{map-append}
use Rattle.p21_numbering.specs.Rows.{held_rows}
use Rattle.p21_numbering.proofs.Joined.{range-push}
use Rattle.p21_numbering.proofs.joining.single_rows.Goals as goal

pub loop-k-preserved : goal.loop-k-preserved
loop-k-preserved c =
    let single : ℕ → List ℕ = λ k. k ∷ [] in
    let one : Vec ℕ = c.in_ok-vec.field-0 in
    ap held_rows c.in_ok-push.ensures.items
    ∙ map-append (λ (row : Vec ℕ). row.items) c.loop-k.rows.items (one ∷ [])
    ∙ ap (λ (rows : List (List ℕ)). rows ++ one.items ∷ []) c.loop-k.invariant
    ∙ ap (λ (row : List ℕ). map single (range_with_len 0 c.loop-k.k) ++ row ∷ []) c.in_ok-vec.ensures.items
    ∙ sym (ap (map single) (range-push c.loop-k.k) ∙ map-append single (range_with_len 0 c.loop-k.k) (c.loop-k.k ∷ []))
