use Rattle.std.proofs.Common.{◌↔◌, IsTrue, Bool, true, false, ℕ, List, [], sym, subst}
use Rattle.p21_spec_survey.specs.Landmark.{IsOpened}
use Rattle.p21_stream_resume.proofs.Along.{begins-seeking}
use Rattle.p21_stream_resume.specs.Seeking.{Seeks}
use Rattle.p21_stream_resume.specs.declared.mode.Mode.{Mode}
use Rattle.p21_stream_resume.proofs.seeker.Seeker.new.Goals as goal
use Rattle.p21_stream_resume.proofs.seeker.Seeker.new.Goals.{then-opened, else-opened}

pub returns : goal.returns
returns c = λ before known. subst (λ (bs : List ℕ). Seeks before [] (record { mode = c.if-opened.result; begun = bs })) (sym c.new.ensures.items)
    (elim c.if-opened.branch [
      | then-opened w ↦ subst (λ (m : Mode). Seeks before [] (record { mode = m; begun = [] })) (sym w.result-is)
          (begins-seeking true before (subst (λ (o : Bool). IsTrue o ↔ IsOpened before) w.if-opened.true known))
      | else-opened w ↦ subst (λ (m : Mode). Seeks before [] (record { mode = m; begun = [] })) (sym w.result-is)
          (begins-seeking false before (subst (λ (o : Bool). IsTrue o ↔ IsOpened before) w.if-opened.false known))
    ])
