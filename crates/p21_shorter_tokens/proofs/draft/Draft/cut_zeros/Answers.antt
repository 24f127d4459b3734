use Rattle.std.proofs.Common.{◌-◌, ℕ, List, length, take, drop, sym, subst}
use Rattle.p21_spec_basics.specs.Digits.{AllDigits}
use Rattle.p21_scan.specs.Digits.{WithoutTrailingZeros}
use Rattle.p21_shorter_tokens.proofs.Zeros.{cut-behind, cut-front, kept-front, text-behind}
use Rattle.p21_shorter_tokens.proofs.draft.Draft.cut_zeros.Goals as goal

pub without_trailing_zeros-kept-requires : goal.without_trailing_zeros-kept-requires
without_trailing_zeros-kept-requires c =
    let room = c.self.inside.room.items in
    let used = c.self.inside.used in
    let from = c.args.from in
    subst (λ (x : List ℕ). AllDigits (take (used - from) (drop from x))) (sym c.deref.ensures.value)
    (subst AllDigits (text-behind room c.args.self.now from used c.self.view_is c.self.invariant c.requires.within) c.requires.digits)

pub returns-clause-front : goal.returns-clause-front
returns-clause-front c =
    let room = c.self.inside.room.items in
    let used = c.self.inside.used in
    let from = c.args.from in
    let kept = c.without_trailing_zeros-kept.ensures in
    cut-front room c.args.self.now from used c.self.view_is c.self.invariant c.requires.within (length c.without_trailing_zeros-kept.result.now) (rw c.deref.ensures.value at kept.shorter)

pub returns-clause-behind : goal.returns-clause-behind
returns-clause-behind c =
    let room = c.self.inside.room.items in
    let used = c.self.inside.used in
    let from = c.args.from in
    let n = length c.without_trailing_zeros-kept.result.now in
    let kept = c.without_trailing_zeros-kept.ensures in
    let own : WithoutTrailingZeros (take (used - from) (drop from room)) (take n (take (used - from) (drop from room))) =
    subst (λ (x : List ℕ). WithoutTrailingZeros (take (used - from) (drop from x)) (take n (take (used - from) (drop from x)))) c.deref.ensures.value (kept-front _ _ kept) in
    let cut = cut-behind room c.args.self.now from used c.self.view_is c.self.invariant c.requires.within n (rw c.deref.ensures.value at kept.shorter) in
    subst (λ (x : List ℕ). WithoutTrailingZeros (drop from c.args.self.now) x) (sym cut)
    (subst (λ (x : List ℕ). WithoutTrailingZeros x (take n (take (used - from) (drop from room)))) (sym (text-behind room c.args.self.now from used c.self.view_is c.self.invariant c.requires.within)) own)
