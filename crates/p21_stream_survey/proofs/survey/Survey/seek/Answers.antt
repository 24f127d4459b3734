use Rattle.std.proofs.Common.{◌≡◌, ℕ, Option, Some, IfNone, IfSome, subst}
use Rattle.p21_stream_log.specs.Passage.{GoesOnAt, StaysAt}
use Rattle.p21_stream_log.specs.declared.passage.Passage.{Passage}
use Rattle.p21_stream_survey.proofs.Onward.{seeks-far_where, seeks-landmark_where, seeks-mark_where, seeks-on_where, sought-none}
use Rattle.p21_stream_survey.proofs.Onward.{sought-other}
use Rattle.p21_stream_survey.specs.Seeking.{SeeksFurther}
use Rattle.p21_stream_survey.proofs.survey.Survey.seek.Goals as goal

pub seek_on-requires : goal.seek_on-requires
seek_on-requires c =
    let seeks = subst (λ (f : Option (ℕ × Passage)). SeeksFurther c.args.self.now.log c.args.self.now.listing c.args.sought.seeker
    c.args.sought.stretch.fault c.args.sought.stretch.begins c.args.sought.stretch.taken c.args.rest.now f c.seek_further.new.log
    c.seek_further.new.listing c.seek_further.new.seeker) c.in_default.is c.in-Ok.ensures.seeks in
    let same = subst (λ (f : Option (ℕ × Passage)). IfNone f (c.seek_further.new.log ≡ c.args.self.now.log)) c.in_default.is
    c.in-Ok.ensures.stays in
    let (known, more, at) = c.requires.under_way in (
      known,
      more,
      sought-none c.args.self.now c.args.sought c.args.rest.now c.seek_further.new.log c.seek_further.new.listing
          c.seek_further.new.seeker c.requires.some seeks same known more at,
    )

pub returns-in_default-clause-goes : goal.returns-in_default-clause-goes
returns-in_default-clause-goes c =
    let seeks = subst (λ (f : Option (ℕ × Passage)). SeeksFurther c.args.self.now.log c.args.self.now.listing c.args.sought.seeker
    c.args.sought.stretch.fault c.args.sought.stretch.begins c.args.sought.stretch.taken c.args.rest.now f c.seek_further.new.log
    c.seek_further.new.listing c.seek_further.new.seeker) c.in_default.is c.in-Ok.ensures.seeks in
    let same = subst (λ (f : Option (ℕ × Passage)). IfNone f (c.seek_further.new.log ≡ c.args.self.now.log)) c.in_default.is
    c.in-Ok.ensures.stays in
    seeks-on_where c.args.self.now c.args.sought c.args.rest.now c.seek_further.new.log c.seek_further.new.listing c.seek_further.new.seeker
    c.requires.some c.seek_further.new.seeker c.seek_on.new.self c.seek_on.result
    (sought-none c.args.self.now c.args.sought c.args.rest.now c.seek_further.new.log c.seek_further.new.listing
    c.seek_further.new.seeker c.requires.some seeks same) seeks.0 c.seek_on.ensures.count c.seek_on.ensures.again c.seek_on.ensures.goes

pub returns-in-GoesOn-clause-goes : goal.returns-in-GoesOn-clause-goes
returns-in-GoesOn-clause-goes c =
    let found = subst (λ (f : Option (ℕ × Passage)). SeeksFurther c.args.self.now.log c.args.self.now.listing c.args.sought.seeker
    c.args.sought.stretch.fault c.args.sought.stretch.begins c.args.sought.stretch.taken c.args.rest.now f c.seek_further.new.log
    c.seek_further.new.listing c.seek_further.new.seeker) c.in-Some.is c.in-Ok.ensures.seeks in
    let seeks = subst (λ (p : Passage). SeeksFurther c.args.self.now.log c.args.self.now.listing c.args.sought.seeker
    c.args.sought.stretch.fault c.args.sought.stretch.begins c.args.sought.stretch.taken c.args.rest.now (Some (c.in-Some.count, p))
    c.seek_further.new.log c.seek_further.new.listing c.seek_further.new.seeker) c.in-GoesOn.is found in
    let anew = subst (λ (p : Passage). GoesOnAt c.args.self.now.log p c.seek_further.new.log) c.in-GoesOn.is
    (subst (λ (f : Option (ℕ × Passage)). IfSome f (λ g. GoesOnAt c.args.self.now.log g.1 c.seek_further.new.log)) c.in-Some.is
    c.in-Ok.ensures.begins) in
    seeks-landmark_where c.args.self.now c.args.sought c.args.rest.now c.seek_further.new.log c.seek_further.new.listing
    c.seek_further.new.seeker c.requires.some c.in-Some.count c.in-GoesOn.field-0 c.begun_again.result seeks anew.buffer
    c.requires.reading c.begun_again.ensures.count c.begun_again.ensures.again

pub returns-in-AtFileMark-clause-goes : goal.returns-in-AtFileMark-clause-goes
returns-in-AtFileMark-clause-goes c =
    let found = subst (λ (f : Option (ℕ × Passage)). SeeksFurther c.args.self.now.log c.args.self.now.listing c.args.sought.seeker
    c.args.sought.stretch.fault c.args.sought.stretch.begins c.args.sought.stretch.taken c.args.rest.now f c.seek_further.new.log
    c.seek_further.new.listing c.seek_further.new.seeker) c.in-Some.is c.in-Ok.ensures.seeks in
    let seeks = subst (λ (p : Passage). SeeksFurther c.args.self.now.log c.args.self.now.listing c.args.sought.seeker
    c.args.sought.stretch.fault c.args.sought.stretch.begins c.args.sought.stretch.taken c.args.rest.now (Some (c.in-Some.count, p))
    c.seek_further.new.log c.seek_further.new.listing c.seek_further.new.seeker) c.in-AtFileMark.is found in
    seeks-mark_where c.args.self.now c.args.sought c.args.rest.now c.seek_further.new.log c.seek_further.new.listing
    c.seek_further.new.seeker c.requires.some c.in-Some.count c.refusal_of.result c.end_behind.new.self c.end_behind.result seeks
    c.refusal_of.ensures c.end_behind.ensures.ends

pub returns-in-TooLong-clause-goes : goal.returns-in-TooLong-clause-goes
returns-in-TooLong-clause-goes c =
    let found = subst (λ (f : Option (ℕ × Passage)). SeeksFurther c.args.self.now.log c.args.self.now.listing c.args.sought.seeker
    c.args.sought.stretch.fault c.args.sought.stretch.begins c.args.sought.stretch.taken c.args.rest.now f c.seek_further.new.log
    c.seek_further.new.listing c.seek_further.new.seeker) c.in-Some.is c.in-Ok.ensures.seeks in
    let seeks = subst (λ (p : Passage). SeeksFurther c.args.self.now.log c.args.self.now.listing c.args.sought.seeker
    c.args.sought.stretch.fault c.args.sought.stretch.begins c.args.sought.stretch.taken c.args.rest.now (Some (c.in-Some.count, p))
    c.seek_further.new.log c.seek_further.new.listing c.seek_further.new.seeker) c.in-TooLong.is found in
    seeks-far_where c.args.self.now c.args.sought c.args.rest.now c.seek_further.new.log c.seek_further.new.listing
    c.seek_further.new.seeker c.requires.some c.log_laws.ensures.too_far c.in-Some.count c.too_long.result
    c.end_behind-in-TooLong.new.self c.end_behind-in-TooLong.result seeks c.too_long.ensures c.end_behind-in-TooLong.ensures.ends

pub seek_on-requires-in-Sought : goal.seek_on-requires-in-Sought
seek_on-requires-in-Sought c =
    let found = subst (λ (f : Option (ℕ × Passage)). SeeksFurther c.args.self.now.log c.args.self.now.listing c.args.sought.seeker
    c.args.sought.stretch.fault c.args.sought.stretch.begins c.args.sought.stretch.taken c.args.rest.now f c.seek_further.new.log
    c.seek_further.new.listing c.seek_further.new.seeker) c.in-Some.is c.in-Ok.ensures.seeks in
    let seeks = subst (λ (p : Passage). SeeksFurther c.args.self.now.log c.args.self.now.listing c.args.sought.seeker
    c.args.sought.stretch.fault c.args.sought.stretch.begins c.args.sought.stretch.taken c.args.rest.now (Some (c.in-Some.count, p))
    c.seek_further.new.log c.seek_further.new.listing c.seek_further.new.seeker) c.in-Sought.is found in
    let same = subst (λ (p : Passage). StaysAt p c.args.self.now.log c.seek_further.new.log) c.in-Sought.is
    (subst (λ (f : Option (ℕ × Passage)). IfSome f (λ g. StaysAt g.1 c.args.self.now.log c.seek_further.new.log)) c.in-Some.is
    c.in-Ok.ensures.stays_there) in
    let (known, more, at) = c.requires.under_way in (
      known,
      more,
      sought-other c.args.self.now c.args.sought c.args.rest.now c.seek_further.new.log c.seek_further.new.listing
          c.seek_further.new.seeker c.requires.some c.in-Some.count c.in-Sought.further seeks same known more at,
    )

pub returns-clause-goes : goal.returns-clause-goes
returns-clause-goes c =
    let found = subst (λ (f : Option (ℕ × Passage)). SeeksFurther c.args.self.now.log c.args.self.now.listing c.args.sought.seeker
    c.args.sought.stretch.fault c.args.sought.stretch.begins c.args.sought.stretch.taken c.args.rest.now f c.seek_further.new.log
    c.seek_further.new.listing c.seek_further.new.seeker) c.in-Some.is c.in-Ok.ensures.seeks in
    let seeks = subst (λ (p : Passage). SeeksFurther c.args.self.now.log c.args.self.now.listing c.args.sought.seeker
    c.args.sought.stretch.fault c.args.sought.stretch.begins c.args.sought.stretch.taken c.args.rest.now (Some (c.in-Some.count, p))
    c.seek_further.new.log c.seek_further.new.listing c.seek_further.new.seeker) c.in-Sought.is found in
    let same = subst (λ (p : Passage). StaysAt p c.args.self.now.log c.seek_further.new.log) c.in-Sought.is
    (subst (λ (f : Option (ℕ × Passage)). IfSome f (λ g. StaysAt g.1 c.args.self.now.log c.seek_further.new.log)) c.in-Some.is
    c.in-Ok.ensures.stays_there) in
    seeks-on_where c.args.self.now c.args.sought c.args.rest.now c.seek_further.new.log c.seek_further.new.listing c.seek_further.new.seeker
    c.requires.some c.in-Sought.further c.seek_on-in-Sought.new.self c.seek_on-in-Sought.result
    (sought-other c.args.self.now c.args.sought c.args.rest.now c.seek_further.new.log c.seek_further.new.listing
    c.seek_further.new.seeker c.requires.some c.in-Some.count c.in-Sought.further seeks same) seeks.0 c.seek_on-in-Sought.ensures.count
    c.seek_on-in-Sought.ensures.again c.seek_on-in-Sought.ensures.goes
