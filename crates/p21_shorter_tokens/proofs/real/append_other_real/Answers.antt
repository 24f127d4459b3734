use Rattle.std.proofs.Common.{◌≡◌, ◌+◌, ◌-◌, drop, subst, sym, ap, ◌∙◌, arith}
use Rattle.std.proofs.lemmas.List.{drop-drop}
use Rattle.p21_shorter_tokens.proofs.LanePlaces.{dot, fraction, whole}
use Rattle.p21_shorter_tokens.proofs.RealTokens.{real-at_front}
use Rattle.p21_shorter_tokens.specs.Numbers.{EndsReal, a_real}
use Rattle.p21_shorter_tokens.proofs.real.append_other_real.Goals as goal

pub returns-then-begins_exponent-clause-some : goal.returns-then-begins_exponent-clause-some
returns-then-begins_exponent-clause-some c =
    let sign = c.split_sign-negative in
    let unsigned = sign.result.1.now in
    let p = c.in-Some.places in
    let h = c.in-Some.ensures.places in
    let (k, end, written) = (c.in_ok-rest.ensures {u = tt}).some in
    let order = h.ordered in
    let there : 0 + p.point + 1 + (p.end - p.point - 1) ≡ p.end = omega arith in
    let behind : EndsReal (drop (p.end - p.point - 1) (drop (0 + p.point + 1) unsigned)) k c.in_ok-rest.rest.now = subst (λ x. EndsReal x k c.in_ok-rest.rest.now) (sym (drop-drop (p.end - p.point - 1) (0 + p.point + 1) unsigned ∙ ap (λ n. drop n unsigned) there)) end in
    a_real written.0 (record {
      stands = real-at_front c.args.bytes.now unsigned (drop (0 + p.point + 1) unsigned) c.in_ok-rest.rest.now p.point (p.end - p.point - 1) sign.result.0 k written.0 sign.ensures.minus sign.ensures.rest (whole unsigned 0 p.point p.end p.first p.behind h) h.some (dot unsigned 0 p.point p.end p.first p.behind h) (fraction unsigned 0 p.point p.end p.first p.behind h) behind written.1;
      appended = written.2;
    })
