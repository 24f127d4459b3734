use Rattle.std.proofs.Common.{◌≡◌, ℕ, ◌-◌, Bool, [], ◌∷◌, List, length, take, drop, refl, ap, ◌∙◌}
use Rattle.p21_spec_basics.specs.Digits.{number}
use Rattle.p21_spec_exchange.specs.Number.{signed}
use Rattle.p21_spec_exchange.specs.Spelling.{whole_spelling}
use Rattle.p21_shorter_tokens.proofs.Parts.{part_alone, part_behind}
use Rattle.p21_shorter_tokens.proofs.WholeTokens.{as_negative, as_unsigned, as_zero}
use Rattle.p21_shorter_tokens.proofs.number.append_digits.Goals as goal
use Rattle.p21_shorter_tokens.proofs.number.append_digits.Goals.{then-not-negative-via-then-not-negative, then-not-negative-via-else-not-negative+then-plain-eq48}

pub returns-then-not-negative : goal.returns-then-not-negative
returns-then-not-negative c =
    let bytes = c.args.bytes.now in
    let count = c.args.count in
    let zeros = c.leading_zeros-zeros.result in
    let plain : List ℕ = take (length bytes - zeros) (drop zeros bytes) in
    let spelled : whole_spelling (signed c.args.negative (number (take count bytes))) ≡ take (count - zeros) plain =
    elim c.then-not-negative.branch [
      | then-not-negative-via-then-not-negative w ↦
          ap (λ (b : Bool). whole_spelling (signed b (number (take count bytes)))) w.if-not-negative.true
          ∙ as_unsigned bytes plain count zeros c.requires.some c.requires.within c.requires.digits c.leading_zeros-zeros.ensures refl
      | then-not-negative-via-else-not-negative+then-plain-eq48 w ↦ as_zero bytes plain count zeros c.requires.some c.requires.within c.requires.digits c.leading_zeros-zeros.ensures refl c.args.negative w.if-plain-eq48.true
    ] in
    part_alone c.append_prefix.result (take (count - zeros) plain) _ c.args.draft.now c.append_prefix.new.self spelled c.append_prefix.ensures

pub returns : goal.returns
returns c =
    let bytes = c.args.bytes.now in
    let count = c.args.count in
    let zeros = c.leading_zeros-zeros.result in
    let plain : List ℕ = take (length bytes - zeros) (drop zeros bytes) in
    let spelled : whole_spelling (signed c.args.negative (number (take count bytes))) ≡ 45 ∷ take (count - zeros) plain =
    ap (λ (b : Bool). whole_spelling (signed b (number (take count bytes)))) c.if-not-negative.false
    ∙ as_negative bytes plain count zeros c.requires.some c.requires.within c.requires.digits c.leading_zeros-zeros.ensures refl c.if-plain-eq48.false in
    part_behind c.append_prefix-2.result (45 ∷ []) (take (count - zeros) plain) _ c.args.draft.now c.put.new.self c.append_prefix-2.new.self spelled (c.if-not-put.ensures {u = tt}) c.append_prefix-2.ensures
