use Rattle.std.proofs.Common.{◌≡◌, ◌+◌, ◌-◌, ◌^◌, ◌<◌, ◌≤◌, IfSome, ℕ, length, Option, Some, None, ap, subst, arith}
use Rattle.p21_stream_log.proofs.Passages.{further-far, further-found, further-taken}
use Rattle.p21_stream_log.specs.Passage.{IsFrontSize}
use Rattle.p21_stream_resume.specs.Seeking.{SeeksOn}
use Rattle.p21_stream_resume.specs.declared.signpost.Signpost.{Signpost}
use Rattle.p21_stream_log.proofs.log.Log.pass_on.Goals as goal

pub returns-in_default-clause-within : goal.returns-in_default-clause-within
returns-in_default-clause-within c =
    let low : c.in-Ok-Some.last < length c.args.piece.now =
    subst (λ (found : Option (ℕ × Signpost)). IfSome found (λ f. f.0 < length c.args.piece.now)) c.in-Ok-Some.field-0-is
    c.in-Ok-Some.ensures.within in
    omega (arith, low)

pub returns-in_default-clause-gives : goal.returns-in_default-clause-gives
returns-in_default-clause-gives c =
    let gives : SeeksOn c.args.seeker.now c.args.piece.now (Some (c.in-Ok-Some.last, c.in-Ok-Some.signpost)) c.seek.new.self =
    subst (λ (found : Option (ℕ × Signpost)). SeeksOn c.args.seeker.now c.args.piece.now found c.seek.new.self) c.in-Ok-Some.field-0-is
    c.in-Ok-Some.ensures.gives in
    let low : c.in-Ok-Some.last < length c.args.piece.now =
    subst (λ (found : Option (ℕ × Signpost)). IfSome found (λ f. f.0 < length c.args.piece.now)) c.in-Ok-Some.field-0-is
    c.in-Ok-Some.ensures.within in
    let begun_is : length c.signpost_bytes-size.result.now ≡ length c.seek.new.self.begun = ap length c.signpost_bytes-size.ensures in
    let many : 2 ^ 64 ≤ c.args.taken + (c.in-Ok-Some.last + 1) - length c.signpost_bytes-size.result.now =
    subst (λ (found : Option ℕ). IsFrontSize c.args.taken (c.in-Ok-Some.last + 1) (length c.signpost_bytes-size.result.now) found)
    c.in_default.is c.front_size.ensures in
    further-far c.signpost_laws.ensures.goes_by c.args.self.now c.args.seeker.now c.seek.new.self c.args.taken c.in-Ok-Some.last
    c.args.piece.now c.in-Ok-Some.signpost c.too_far.result low gives
    (subst (λ (n : ℕ). 2 ^ 64 ≤ c.args.taken + (c.in-Ok-Some.last + 1) - n) begun_is many) c.too_far.ensures

pub returns-in-Ok-None-clause-gives : goal.returns-in-Ok-None-clause-gives
returns-in-Ok-None-clause-gives c =
    let gives : SeeksOn c.args.seeker.now c.args.piece.now None c.seek.new.self =
    subst (λ (found : Option (ℕ × Signpost)). SeeksOn c.args.seeker.now c.args.piece.now found c.seek.new.self) c.in-Ok-None.field-0-is
    c.in-Ok-None.ensures.gives in
    further-taken c.args.self.now c.args.seeker.now c.seek.new.self c.args.taken c.args.piece.now gives

pub returns-in-Some-clause-within : goal.returns-in-Some-clause-within
returns-in-Some-clause-within c =
    let low : c.in-Ok-Some.last < length c.args.piece.now =
    subst (λ (found : Option (ℕ × Signpost)). IfSome found (λ f. f.0 < length c.args.piece.now)) c.in-Ok-Some.field-0-is
    c.in-Ok-Some.ensures.within in
    omega (arith, low)

pub returns-in-Some-clause-gives : goal.returns-in-Some-clause-gives
returns-in-Some-clause-gives c =
    let gives : SeeksOn c.args.seeker.now c.args.piece.now (Some (c.in-Ok-Some.last, c.in-Ok-Some.signpost)) c.seek.new.self =
    subst (λ (found : Option (ℕ × Signpost)). SeeksOn c.args.seeker.now c.args.piece.now found c.seek.new.self) c.in-Ok-Some.field-0-is
    c.in-Ok-Some.ensures.gives in
    let low : c.in-Ok-Some.last < length c.args.piece.now =
    subst (λ (found : Option (ℕ × Signpost)). IfSome found (λ f. f.0 < length c.args.piece.now)) c.in-Ok-Some.field-0-is
    c.in-Ok-Some.ensures.within in
    let begun_is : length c.signpost_bytes-size.result.now ≡ length c.seek.new.self.begun = ap length c.signpost_bytes-size.ensures in
    let front_is : c.in-Some.passed ≡ c.args.taken + (c.in-Ok-Some.last + 1) - length c.signpost_bytes-size.result.now =
    subst (λ (found : Option ℕ). IsFrontSize c.args.taken (c.in-Ok-Some.last + 1) (length c.signpost_bytes-size.result.now) found)
    c.in-Some.is c.front_size.ensures in
    further-found c.signpost_laws.ensures.goes_by c.args.self.now c.pass_to.new.self c.args.seeker.now c.seek.new.self c.args.taken
    c.in-Ok-Some.last c.in-Some.passed c.args.piece.now c.in-Ok-Some.signpost c.pass_to.result low gives
    (subst (λ (n : ℕ). c.in-Some.passed ≡ c.args.taken + (c.in-Ok-Some.last + 1) - n) begun_is front_is) c.pass_to.ensures.gives
