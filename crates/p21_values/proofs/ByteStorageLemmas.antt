-- Bytes copied over the front of others.
use Rattle.std.proofs.Common.{◌≡◌, ℕ, ◌+◌, List, ◌++◌, length, take, ap, ◌∙◌}
use Rattle.std.proofs.Math.Seq.{take-append_seam, take-append-add}

-- two lists, the second behind the first
pub both_copied : (front behind x y v w : List ℕ) → x ≡ front → y ≡ behind
    → take (length front + length behind) (take (length front) (x ++ v) ++ (y ++ w)) ≡ front ++ behind
both_copied front behind x y v w p q =
    rw p (rw q (rw (take-append_seam front v)
    (take-append-add front (behind ++ w) (length behind) ∙ ap (λ r. front ++ r) (take-append_seam behind w))))
