-- What bytes have behind a part of them.
use Rattle.std.proofs.Common.{◌≡◌, ℕ, ◌-◌, List, ◌++◌, length, drop, ap, ◌∙◌, arith, length-append}
use Rattle.std.proofs.Math.Seq.{drop-append_seam}

pub behind-count : (bytes front rest : List ℕ) → bytes ≡ front ++ rest → drop (length bytes - length rest) bytes ≡ rest
behind-count bytes front rest e =
    let count : length bytes - length rest ≡ length front = let l = ap length e ∙ length-append front rest in omega arith in
    ap (λ (n : ℕ). drop n bytes) count ∙ (ap (λ (x : List ℕ). drop (length front) x) e ∙ drop-append_seam front rest)
