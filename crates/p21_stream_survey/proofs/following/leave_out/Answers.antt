use Rattle.std.proofs.Common.{refl}
use Rattle.p21_stream_survey.proofs.Followed.{leaves-out, stays}
use Rattle.p21_stream_survey.specs.Sifted.{sieved}
use Rattle.p21_stream_survey.proofs.following.leave_out.Goals as goal

pub returns-in-None-clause-leaves : goal.returns-in-None-clause-leaves
returns-in-None-clause-leaves c = stays c.args.log.now c.leave_out.new.self (sieved c.args.sieve.now) c.args.listing.now c.args.name c.args.fault
    c.in-None.ensures.gives

pub returns-in-Ok-list-clause-leaves : goal.returns-in-Ok-list-clause-leaves
returns-in-Ok-list-clause-leaves c =
    leaves-out c.args.log.now c.leave_out.new.self (sieved c.args.sieve.now) (sieved c.list_or_end.new.self) c.args.listing.now c.list.new.self c.args.name
    c.in-Some.begins c.args.fault _ c.in-Some.ensures.gives c.in-Ok.ensures.lists.0 refl c.in-Ok-list.ensures.list
    c.list.ensures.passed c.list.ensures.broken c.in-Ok-list.ensures.statement
