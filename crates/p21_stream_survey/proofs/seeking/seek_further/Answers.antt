use Rattle.std.proofs.Common.{ℕ, Option, refl, subst, arith}
use Rattle.p21_stream_log.specs.Passage.{FurtherGives}
use Rattle.p21_stream_log.specs.declared.passage.Passage.{Passage}
use Rattle.p21_stream_survey.proofs.Sought.{seeks-listed, seeks-none, seeks-past}
use Rattle.p21_stream_survey.proofs.seeking.seek_further.Goals as goal

pub returns-in-Ok-None-clause-seeks : goal.returns-in-Ok-None-clause-seeks
returns-in-Ok-None-clause-seeks c =
    seeks-none c.args.log.now c.pass_on.new.self c.args.listing.now c.args.seeker.now c.pass_on.new.seeker c.args.stretch.fault
    c.args.stretch.begins c.args.stretch.taken c.args.piece.now
    (subst (λ (found : Option (ℕ × Passage)). FurtherGives c.args.log.now c.args.seeker.now c.args.stretch.taken c.args.piece.now found
    c.pass_on.new.self c.pass_on.new.seeker) c.in-Ok-None.field-0-is c.in-Ok-None.ensures.gives)

pub returns-in-AtFileMark-clause-seeks : goal.returns-in-AtFileMark-clause-seeks
returns-in-AtFileMark-clause-seeks c = (
  refl,
  seeks-past c.args.log.now c.pass_on.new.self c.args.seeker.now c.pass_on.new.seeker c.args.stretch.fault c.args.stretch.begins
      c.args.stretch.taken c.in-Ok-Some.found.0 c.args.piece.now c.in-Ok-Some.found.1 _ c.in-AtFileMark.is
      (subst (λ (found : Option (ℕ × Passage)). FurtherGives c.args.log.now c.args.seeker.now c.args.stretch.taken c.args.piece.now found
      c.pass_on.new.self c.pass_on.new.seeker) c.in-Ok-Some.field-0-is c.in-Ok-Some.ensures.gives),
)

pub returns-in-TooLong-clause-seeks : goal.returns-in-TooLong-clause-seeks
returns-in-TooLong-clause-seeks c = (
  refl,
  seeks-past c.args.log.now c.pass_on.new.self c.args.seeker.now c.pass_on.new.seeker c.args.stretch.fault c.args.stretch.begins
      c.args.stretch.taken c.in-Ok-Some.found.0 c.args.piece.now c.in-Ok-Some.found.1 _ c.in-TooLong.is
      (subst (λ (found : Option (ℕ × Passage)). FurtherGives c.args.log.now c.args.seeker.now c.args.stretch.taken c.args.piece.now found
      c.pass_on.new.self c.pass_on.new.seeker) c.in-Ok-Some.field-0-is c.in-Ok-Some.ensures.gives),
)

pub returns-in-Sought-clause-seeks : goal.returns-in-Sought-clause-seeks
returns-in-Sought-clause-seeks c = (
  refl,
  seeks-past c.args.log.now c.pass_on.new.self c.args.seeker.now c.pass_on.new.seeker c.args.stretch.fault c.args.stretch.begins
      c.args.stretch.taken c.in-Ok-Some.found.0 c.args.piece.now c.in-Ok-Some.found.1 _ c.in-Sought.is
      (subst (λ (found : Option (ℕ × Passage)). FurtherGives c.args.log.now c.args.seeker.now c.args.stretch.taken c.args.piece.now found
      c.pass_on.new.self c.pass_on.new.seeker) c.in-Ok-Some.field-0-is c.in-Ok-Some.ensures.gives),
)

pub returns-in-Ok-clause-seeks : goal.returns-in-Ok-clause-seeks
returns-in-Ok-clause-seeks c =
    seeks-listed c.args.log.now c.pass_on.new.self c.args.listing.now _ c.args.seeker.now c.pass_on.new.seeker c.args.stretch.fault
    c.args.stretch.begins c.args.stretch.taken c.in-Ok-Some.found.0 c.in-GoesOn.passed c.saturating_add-size.result c.args.piece.now
    c.in-Ok-Some.found.1 c.in-Ok.listed c.in-GoesOn.is
    (subst (λ (found : Option (ℕ × Passage)). FurtherGives c.args.log.now c.args.seeker.now c.args.stretch.taken c.args.piece.now found
    c.pass_on.new.self c.pass_on.new.seeker) c.in-Ok-Some.field-0-is c.in-Ok-Some.ensures.gives)
    (λ some. omega (arith, c.saturating_add-size.ensures, some), λ some. omega (arith, c.saturating_add-size.ensures, some)) c.in-Ok.ensures
