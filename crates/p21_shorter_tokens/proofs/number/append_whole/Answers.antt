use Rattle.std.proofs.Common.{◌≡◌, ℕ, List, ◌++◌, refl, subst, sym, arith}
use Rattle.p21_spec_basics.specs.Digits.{AllDigits, number}
use Rattle.p21_spec_exchange.specs.Number.{signed}
use Rattle.p21_spec_exchange.specs.Spelling.{whole_spelling}
use Rattle.p21_shorter_tokens.proofs.WholeTokens.{digits-front, digits-within, parts-within, whole-at_front}
use Rattle.p21_shorter_tokens.proofs.number.append_whole.Goals as goal

pub append_digits-requires-clause-within : goal.append_digits-requires-clause-within
append_digits-requires-clause-within c = digits-within c.args.bytes.now c.in_ok-integer.integer.digits.now c.in_ok-integer.rest.now _ _ _ c.in_ok-integer.ensures.some refl refl

pub append_digits-requires-clause-digits : goal.append_digits-requires-clause-digits
append_digits-requires-clause-digits c =
    let x = c.in_ok-integer.ensures.some in
    subst AllDigits (sym (digits-front c.args.bytes.now c.in_ok-integer.integer.digits.now c.in_ok-integer.rest.now _ _ _ x refl refl)) x.are_digits

pub overflow_sub-result : goal.overflow_sub-result
overflow_sub-result c = omega (arith, parts-within c.args.bytes.now c.in_ok-integer.integer.digits.now c.in_ok-integer.rest.now _ c.in_ok-integer.ensures.some)

pub returns-clause-some : goal.returns-clause-some
returns-clause-some c =
    let bytes = c.args.bytes.now in
    let x = c.in_ok-integer.ensures.some in
    let negative = c.in_ok-integer.integer.negative in
    let digits = c.in_ok-integer.integer.digits.now in
    let rest = c.in_ok-integer.rest.now in
    let front = digits-front bytes digits rest _ negative _ x refl refl in (
      _,
      record {
        stands = whole-at_front bytes digits rest negative x (c.begins_with.ensures c.if-begins_with.false);
        appended = subst (λ (ds : List ℕ). c.append_digits.new.draft ≡ c.args.draft.now ++ whole_spelling (signed negative (number ds))) front (c.if-not-append_digits.ensures {u = tt});
      },
    )
