use Rattle.std.proofs.Common.{◌≡◌, Bool, true, false, not, refl, ◌∙◌, sym}
use Rattle.std.proofs.lemmas.Slice.Eq.{bytes_eq-Decides}
use Rattle.std.specs.Str.{bytes_eq}
use Rattle.p21_tolerance.proofs.NearLists.{both-inside}
use Rattle.p21_tolerance.proofs.near.inside_both.Goals as goal

told : (b : Bool) → not b ≡ false → b ≡ true
told true e = refl
told false e = cc

pub returns-clause-some : goal.returns-clause-some
returns-clause-some c p q first second =
    let word = c.in-Some.word.now in
    let other = c.in-Some-inside.other_word.now in
    let same : bytes_eq word other ≡ true = told (bytes_eq word other) (sym c.ne.ensures ∙ c.if-ne.false) in
    both-inside p q word other c.in-Some.one.text.now c.in-Some-inside.other.text.now ((bytes_eq-Decides word other).0 same)
    (c.in-Some.ensures.some p first) (c.in-Some-inside.ensures.some q second)
