use Rattle.std.proofs.Common.{List, ℕ, ◌+◌, ◌∷◌, ◌++◌, ap, ◌∙◌, refl}
use Rattle.p21_scan.proofs.Binaries.{binary_at, not_closed, not_padded}
use Rattle.p21_scan.proofs.binary.scan_binary.Goals as goal

pub returns-in_err-rest-clause-none : goal.returns-in_err-rest-clause-none
returns-in_err-rest-clause-none c =
    let split = c.split_hex_digits.ensures in
    let front = c.in_ok-inside.ensures.some ∙ ap (λ (x : List ℕ). 34 ∷ x) c.in_ok-padding.ensures.some.1 in
    rw c.from_residual-in_err-rest.ensures (not_closed _ _ _ _ _ front split.bytes_are split.digits split.rest c.in_err-rest.ensures.none)

pub returns-then-not-is_padded-clause-none : goal.returns-then-not-is_padded-clause-none
returns-then-not-is_padded-clause-none c =
    let split = c.split_hex_digits.ensures in
    let front = c.in_ok-inside.ensures.some ∙ ap (λ (x : List ℕ). 34 ∷ x) c.in_ok-padding.ensures.some.1 in
    not_padded _ _ _ _ _ front split.bytes_are split.digits split.rest (λ p. let yes = c.is_padded.ensures.1 p in cc)

pub returns-clause-some : goal.returns-clause-some
returns-clause-some c =
    let split = c.split_hex_digits.ensures in
    let front = c.in_ok-inside.ensures.some ∙ ap (λ (x : List ℕ). 34 ∷ x) c.in_ok-padding.ensures.some.1 in
    binary_at _ _ _ _ (record {
      bytes_are = front ∙ ap (λ (x : List ℕ). 34 ∷ (48 + c.in_ok-padding.padding) ∷ x) (split.bytes_are ∙ ap (λ (x : List ℕ). c.split_hex_digits.result.0.now ++ x) c.in_ok-rest.ensures.some);
      small = c.in_ok-padding.ensures.some.0;
      are_digits = split.digits;
      padded = c.if-not-is_padded.ensures.0 refl;
    })
