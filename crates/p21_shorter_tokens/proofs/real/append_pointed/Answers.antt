use Rattle.std.proofs.Common.{◌≡◌, ◌≤◌, ◌-◌, ℕ, List, [], ◌∷◌, ◌++◌, length, take, drop, get_or, refl, ap, sym, subst, ◌∙◌, append_assoc, true, if◌then◌else◌}
use Rattle.p21_spec_basics.proofs.PlainDigits.{digits_append}
use Rattle.p21_spec_basics.specs.Digits.{AllDigits}
use Rattle.p21_scan.specs.Digits.{WithoutTrailingZeros}
use Rattle.p21_values.proofs.Continuing.{continues-same}
use Rattle.p21_shorter_tokens.proofs.Parts.{goes-on, stays-behind}
use Rattle.p21_shorter_tokens.proofs.RealTokens.{behind-text, first-digit, first-significant, first-split, further-digits, pointed-part, text-within}
use Rattle.p21_shorter_tokens.specs.Numbers.{AppendsWithoutExponent}
use Rattle.p21_shorter_tokens.proofs.real.append_pointed.Goals as goal

pub returns-then-not-append_minus : goal.returns-then-not-append_minus
returns-then-not-append_minus c = continues-same c.args.draft.now _ (c.if-not-append_minus.ensures {u = tt})

pub returns-then-not-put : goal.returns-then-not-put
returns-then-not-put c = let sign = goes-on c.args.draft.now c.args.draft.now _ _ (continues-same c.args.draft.now c.args.draft.now refl) (c.if-not-append_minus.ensures {u = tt}) in stays-behind c.args.draft.now _ _ sign (c.if-not-put.ensures {u = tt})

pub returns-then-not-put-2 : goal.returns-then-not-put-2
returns-then-not-put-2 c =
    let sign = goes-on c.args.draft.now c.args.draft.now _ _ (continues-same c.args.draft.now c.args.draft.now refl) (c.if-not-append_minus.ensures {u = tt}) in
    let digit = goes-on c.args.draft.now _ _ _ sign (c.if-not-put.ensures {u = tt}) in
    stays-behind c.args.draft.now _ _ digit (c.if-not-put-2.ensures {u = tt})

pub returns-then-not-append_prefix : goal.returns-then-not-append_prefix
returns-then-not-append_prefix c =
    let sign = goes-on c.args.draft.now c.args.draft.now _ _ (continues-same c.args.draft.now c.args.draft.now refl) (c.if-not-append_minus.ensures {u = tt}) in
    let digit = goes-on c.args.draft.now _ _ _ sign (c.if-not-put.ensures {u = tt}) in
    let point = goes-on c.args.draft.now _ _ _ digit (c.if-not-put-2.ensures {u = tt}) in
    stays-behind c.args.draft.now _ _ point (c.if-not-append_prefix.ensures {u = tt})

pub returns-then-not-append_some : goal.returns-then-not-append_some
returns-then-not-append_some c =
    let sign = goes-on c.args.draft.now c.args.draft.now _ _ (continues-same c.args.draft.now c.args.draft.now refl) (c.if-not-append_minus.ensures {u = tt}) in
    let digit = goes-on c.args.draft.now _ _ _ sign (c.if-not-put.ensures {u = tt}) in
    let point = goes-on c.args.draft.now _ _ _ digit (c.if-not-put-2.ensures {u = tt}) in
    let more = goes-on c.args.draft.now _ _ _ point (c.if-not-append_prefix.ensures {u = tt}) in
    stays-behind c.args.draft.now _ _ more (c.if-not-append_some.ensures {u = tt})

pub cut_zeros-requires-clause-within : goal.cut_zeros-requires-clause-within
cut_zeros-requires-clause-within c =
    let rest = take (c.args.first.count - 1) (take (length c.args.first.bytes.now - 1) (drop 1 c.args.first.bytes.now)) in
    let more = take c.args.others.count c.args.others.bytes.now in
    let long = c.if-not-append_some.ensures {u = tt} ∙ (ap (λ (x : List ℕ). x ++ more) (c.if-not-append_prefix.ensures {u = tt}) ∙ append_assoc c.put-2.new.self rest more) in
    subst (λ (n : ℕ). n ≤ length c.append_some.new.draft) (sym c.len-start.ensures) (text-within c.put-2.new.self (rest ++ more) c.append_some.new.draft long)

pub cut_zeros-requires-clause-digits : goal.cut_zeros-requires-clause-digits
cut_zeros-requires-clause-digits c =
    let first = c.args.first in
    let rest = take (first.count - 1) (take (length first.bytes.now - 1) (drop 1 first.bytes.now)) in
    let more = take c.args.others.count c.args.others.bytes.now in
    let long = c.if-not-append_some.ensures {u = tt} ∙ (ap (λ (x : List ℕ). x ++ more) (c.if-not-append_prefix.ensures {u = tt}) ∙ append_assoc c.put-2.new.self rest more) in
    subst (λ (n : ℕ). AllDigits (drop n c.append_some.new.draft)) (sym c.len-start.ensures)
    (subst AllDigits (sym (behind-text c.put-2.new.self (rest ++ more) c.append_some.new.draft long)) (digits_append rest more (further-digits first.bytes.now first.count c.requires.some c.requires.first) c.requires.others.digits))

pub returns : goal.returns
returns c =
    let first = c.args.first in
    let others = c.args.others in
    let d = get_or first.bytes.now 0 0 in
    let rest = take (first.count - 1) (take (length first.bytes.now - 1) (drop 1 first.bytes.now)) in
    let more = take others.count others.bytes.now in
    let old = c.args.draft.now in
    let mark : List ℕ = if c.args.negative then 45 ∷ [] else [] in
    let start : c.put-2.new.self ≡ old ++ (mark ++ d ∷ 46 ∷ []) =
    c.if-not-put-2.ensures {u = tt}
    ∙ (ap (λ (x : List ℕ). x ++ 46 ∷ []) (c.if-not-put.ensures {u = tt} ∙ ap (λ (x : List ℕ). x ++ d ∷ []) (c.if-not-append_minus.ensures {u = tt}))
    ∙ (append_assoc (old ++ mark) (d ∷ []) (46 ∷ []) ∙ append_assoc old mark (d ∷ 46 ∷ []))) in
    let long = c.if-not-append_some.ensures {u = tt} ∙ (ap (λ (x : List ℕ). x ++ more) (c.if-not-append_prefix.ensures {u = tt}) ∙ append_assoc c.put-2.new.self rest more) in
    subst (λ (x : List ℕ). AppendsWithoutExponent true c.args.negative (x ++ more) old c.cut_zeros.new.self) (sym (first-split first.bytes.now first.count c.requires.some c.requires.first.within))
    (pointed-part c.args.negative d (rest ++ more) old c.put-2.new.self c.append_some.new.draft c.cut_zeros.new.self (first-digit first.bytes.now first.count c.requires.some c.requires.first)
    (first-significant first.bytes.now first.count c.requires.some c.requires.first c.requires.no_zero) start long
    (subst (λ (n : ℕ). take n c.cut_zeros.new.self ≡ take n c.append_some.new.draft) c.len-start.ensures c.cut_zeros.ensures.front)
    (subst (λ (n : ℕ). WithoutTrailingZeros (drop n c.append_some.new.draft) (drop n c.cut_zeros.new.self)) c.len-start.ensures c.cut_zeros.ensures.behind))
