use Rattle.std.proofs.Common.{ℕ, refl, subst, true}
use Rattle.std.specs.BTreeSet.{Updates}
use Rattle.std.specs.Ordering.{nat_cmp}
use Rattle.p21_stream_survey.proofs.Followed.{leaves-out, stays}
use Rattle.p21_stream_survey.specs.Keeping.{kept_alone}
use Rattle.p21_stream_survey.specs.Sifted.{alone}
use Rattle.p21_stream_syntax.specs.Given.{kept_of}
use Rattle.p21_stream_survey.proofs.plain.PlainKeeper.leave_out.Goals as goal

pub returns-in-None-clause-leaves : goal.returns-in-None-clause-leaves
returns-in-None-clause-leaves c =
    stays c.args.log.now c.leave_out.new.self (kept_alone c.args.self.now) c.args.listing.now c.args.name c.args.fault c.in-None.ensures.gives

pub returns-in-Ok-list-clause-leaves : goal.returns-in-Ok-list-clause-leaves
returns-in-Ok-list-clause-leaves c =
    let kept = kept_of c.args.self.now.given in
    leaves-out c.args.log.now c.leave_out.new.self (kept_alone c.args.self.now) (alone kept c.insert.new.self) c.args.listing.now
    c.list.new.self c.args.name c.in-Some.begins c.args.fault _ c.in-Some.ensures.gives (
      refl,
      subst (λ (n : ℕ). Updates nat_cmp c.args.self.now.names c.insert.new.self n true) c.name.view_is c.in-Ok.ensures.updates,
    )
    refl c.in-Ok-list.ensures.list c.list.ensures.passed c.list.ensures.broken c.in-Ok-list.ensures.statement
