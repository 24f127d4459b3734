use Rattle.std.proofs.Common.{refl, ◌≡◌, ℕ, List, ◌∷◌, ◌+◌, ◌-◌, drop, get_or, length, pos, subst, sym, ap, ◌∙◌, arith}
use Rattle.std.proofs.lemmas.List.{drop-drop, drop_more}
use Rattle.std.specs.List.{slice_range}
use Rattle.p21_spec_basics.proofs.Members.{rest_is}
use Rattle.p21_spec_exchange.proofs.Forms.{NoDigitFirst}
use Rattle.p21_shorter_tokens.proofs.ExponentParts.{no_exponent-ends}
use Rattle.p21_shorter_tokens.proofs.LanePlaces.{dot, fraction, whole}
use Rattle.p21_shorter_tokens.proofs.RealTokens.{mark-first, real-at_front, real-behind}
use Rattle.p21_scan.specs.Digits.{BeginsWithoutByte}
use Rattle.p21_shorter_tokens.specs.Numbers.{EndsReal, a_real}
use Rattle.p21_shorter_tokens.proofs.real.append_marked_real.Goals as goal

pub returns-clause-some : goal.returns-clause-some
returns-clause-some c =
    let sign = c.split_sign-negative in
    let bytes = c.args.bytes.now in
    let unsigned = sign.result.1.now in
    let p = c.in_ok-places.places in
    let h = c.in_ok-places.ensures.places in
    let order = h.ordered in
    let rest = slice_range unsigned p.end (length unsigned) in
    let there : 0 + p.point + 1 + (p.end - p.point - 1) ≡ p.end = omega arith in
    let digits = fraction unsigned 0 p.point p.end p.first p.behind h in
    let same : drop (p.end - p.point - 1) (drop (0 + p.point + 1) unsigned) ≡ rest =
    drop-drop (p.end - p.point - 1) (0 + p.point + 1) unsigned ∙ ap (λ n. drop n unsigned) there ∙ sym (rest_is unsigned p.end) in
    let mark = get_or unsigned p.end 0 in
    let first : rest ≡ mark ∷ drop (p.end + 1) unsigned = rest_is unsigned p.end ∙ drop_more unsigned p.end 0 (let within =
    h.within in omega (arith, within)) in
    let is_mark = c.if-not-is_mark.ensures refl in
    let behind : EndsReal (drop (p.end - p.point - 1) (drop (0 + p.point + 1) unsigned)) (pos 0) rest =
    subst (λ x. EndsReal x (pos 0) rest) (sym same) (no_exponent-ends rest (subst NoDigitFirst same digits.ends) (subst
    (BeginsWithoutByte 69) (sym first) (mark-first mark (drop (p.end + 1) unsigned) is_mark))) in
    let written = c.if-not-append_marked.ensures.whole refl in
    let number = written.1 in
    let whole_run = whole unsigned 0 p.point p.end p.first p.behind h in
    let point = dot unsigned 0 p.point p.end p.first p.behind h in
    let size = length bytes - length rest in
    let after : drop size bytes ≡ rest = real-behind bytes unsigned (drop (0 + p.point + 1) unsigned) rest p.point (p.end - p.point - 1)
    sign.result.0 (pos 0) number.0 sign.ensures.minus sign.ensures.rest whole_run h.some point digits behind in
    record {
      size = size;
      between = written.0;
      mark = mark;
      real = λ wholes. a_real number.0 (record {
        stands = real-at_front bytes unsigned (drop (0 + p.point + 1) unsigned) rest p.point (p.end - p.point - 1) sign.result.0 (pos 0)
            number.0 sign.ensures.minus sign.ensures.rest whole_run h.some point digits behind number.1;
        appended = number.2;
      });
      is_mark = is_mark;
      marks = after ∙ first ∙ ap (λ (l : List ℕ). mark ∷ l) (sym (sym (drop-drop 1 size bytes) ∙ ap (λ (l : List ℕ). drop 1 l) (after
          ∙ first)));
      ends = refl;
      appended = written.2;
    }
