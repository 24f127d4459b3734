-- Bytes that go on from others.
use Rattle.std.proofs.Common.{◌≡◌, ℕ, List, [], ◌++◌, ap, sym, ◌∙◌, append_assoc, append-nil}
use Rattle.p21_values.specs.Canonical.{Continues}

pub continues-same : (old new : List ℕ) → new ≡ old → Continues old new
continues-same old new is = ([], is ∙ sym (append-nil old))

pub continues-join : (old middle new : List ℕ) → Continues old middle → Continues middle new → Continues old new
continues-join old middle new (x, is) (y, is_) = (x ++ y, is_ ∙ ap (λ (t : List ℕ). t ++ y) is ∙ append_assoc old x y)
