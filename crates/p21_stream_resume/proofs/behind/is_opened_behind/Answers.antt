use Rattle.std.proofs.Common.{◌≡◌, ◌<◌, ◌+◌, ◌-◌, ℕ, List, true, false, sym, subst, ap, ◌∙◌, arith, refl}
use Rattle.p21_stream_resume.proofs.LastBytes.{IsSameBehind, same-behind_blank, says-closed, says-open}
use Rattle.p21_stream_resume.proofs.Opened.{opened_after}
use Rattle.p21_stream_resume.specs.declared.class.Class.{Class}
use Rattle.p21_stream_resume.specs.declared.class.Class.TheVariants as class
use Rattle.p21_stream_resume.proofs.behind.is_opened_behind.Goals as goal

-- a byte of no other class closes
closes : (k : Class) → (k ≡ class.Semicolon → ⊥) → (k ≡ class.Parenthesis → ⊥) → (k ≡ class.LineEnd → ⊥) → (k ≡ class.Blank → ⊥) → opened_after true k ≡ false
closes class.Digit a b c d = refl
closes class.Hash a b c d = refl
closes class.Equals a b c d = refl
closes class.Other a b c d = refl
closes class.Semicolon a b c d = absurd (a refl)
closes class.Parenthesis a b c d = absurd (b refl)
closes class.LineEnd a b c d = absurd (c refl)
closes class.Blank a b c d = absurd (d refl)

-- the byte that is looked at
same-here : (piece : List ℕ) (count : ℕ) → 0 < count → IsSameBehind piece count → IsSameBehind piece (count - 1 + 1)
same-here piece count low same = let one : count ≡ count - 1 + 1 = omega (arith, low) in subst (λ (k : ℕ). IsSameBehind piece k) one same

pub loop-count-preserved : goal.loop-count-preserved
loop-count-preserved c =
    let low = c.loop-count-test.true in
    let within = c.loop-count.invariant.0 in
    let k : ℕ = c.loop-count.count - 1 in (
      omega (arith, within),
      same-behind_blank c.args.piece.now k (omega (arith, low, within))
          (same-here c.args.piece.now c.loop-count.count low c.loop-count.invariant.1) (sym c.class_of.ensures ∙ c.in-Blank.is),
    )

pub returns-in-Semicolon : goal.returns-in-Semicolon
returns-in-Semicolon c =
    let low = c.loop-count-test.true in
    let within = c.loop-count.invariant.0 in
    says-open c.args.opened c.args.piece.now (c.loop-count.count - 1) (omega (arith, low, within))
    (same-here c.args.piece.now c.loop-count.count low c.loop-count.invariant.1)
    (ap (λ (k : Class). opened_after false k) (sym c.class_of.ensures ∙ c.in-Semicolon.is))

pub returns-in-Parenthesis : goal.returns-in-Parenthesis
returns-in-Parenthesis c =
    let low = c.loop-count-test.true in
    let within = c.loop-count.invariant.0 in
    says-open c.args.opened c.args.piece.now (c.loop-count.count - 1) (omega (arith, low, within))
    (same-here c.args.piece.now c.loop-count.count low c.loop-count.invariant.1)
    (ap (λ (k : Class). opened_after false k) (sym c.class_of.ensures ∙ c.in-Parenthesis.is))

pub returns-in-LineEnd : goal.returns-in-LineEnd
returns-in-LineEnd c =
    let low = c.loop-count-test.true in
    let within = c.loop-count.invariant.0 in
    says-open c.args.opened c.args.piece.now (c.loop-count.count - 1) (omega (arith, low, within))
    (same-here c.args.piece.now c.loop-count.count low c.loop-count.invariant.1)
    (ap (λ (k : Class). opened_after false k) (sym c.class_of.ensures ∙ c.in-LineEnd.is))

pub returns-in_default : goal.returns-in_default
returns-in_default c =
    let low = c.loop-count-test.true in
    let within = c.loop-count.invariant.0 in
    says-closed c.args.opened c.args.piece.now (c.loop-count.count - 1) (omega (arith, low, within))
    (same-here c.args.piece.now c.loop-count.count low c.loop-count.invariant.1)
    (ap (λ (k : Class). opened_after true k) (sym c.class_of.ensures)
    ∙ closes c.class_of.result c.in_default.not-Semicolon c.in_default.not-Parenthesis c.in_default.not-LineEnd c.in_default.not-Blank)
