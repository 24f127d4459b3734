use Rattle.std.proofs.Common.{refl, ◌≡◌, ◌+◌, ◌-◌, drop, length, pos, subst, sym, ap, ◌∙◌, arith}
use Rattle.std.proofs.lemmas.List.{drop-drop}
use Rattle.std.specs.List.{slice_range}
use Rattle.p21_spec_basics.proofs.Members.{rest_is}
use Rattle.p21_spec_exchange.proofs.Forms.{NoDigitFirst}
use Rattle.p21_shorter_tokens.proofs.ExponentParts.{no_exponent-ends}
use Rattle.p21_shorter_tokens.proofs.LanePlaces.{dot, fraction, whole}
use Rattle.p21_shorter_tokens.proofs.RealTokens.{real-at_front}
use Rattle.p21_shorter_tokens.specs.Numbers.{EndsReal, a_real}
use Rattle.p21_shorter_tokens.proofs.real.append_plain_real.Goals as goal

pub returns-clause-some : goal.returns-clause-some
returns-clause-some c = λ wholes.
    let sign = c.split_sign-negative in
    let unsigned = sign.result.1.now in
    let p = c.in_ok-places.places in
    let h = c.in_ok-places.ensures.places in
    let order = h.ordered in
    let rest = slice_range unsigned p.end (length unsigned) in
    let there : 0 + p.point + 1 + (p.end - p.point - 1) ≡ p.end = omega arith in
    let digits = fraction unsigned 0 p.point p.end p.first p.behind h in
    let same : drop (p.end - p.point - 1) (drop (0 + p.point + 1) unsigned) ≡ rest = drop-drop (p.end - p.point - 1) (0 + p.point + 1) unsigned ∙ ap (λ n. drop n unsigned) there ∙ sym (rest_is unsigned p.end) in
    let behind : EndsReal (drop (p.end - p.point - 1) (drop (0 + p.point + 1) unsigned)) (pos 0) rest = subst (λ x. EndsReal x (pos 0) rest) (sym same) (no_exponent-ends rest (subst NoDigitFirst same digits.ends) (c.begins_exponent.ensures.0 c.if-begins_exponent.false)) in
    let written = c.if-not-append_placed.ensures.whole refl in
    a_real written.0 (record {
      stands = real-at_front c.args.bytes.now unsigned (drop (0 + p.point + 1) unsigned) rest p.point (p.end - p.point - 1) sign.result.0 (pos 0) written.0 sign.ensures.minus sign.ensures.rest (whole unsigned 0 p.point p.end p.first p.behind h) h.some (dot unsigned 0 p.point p.end p.first p.behind h) digits behind written.1;
      appended = written.2;
    })
