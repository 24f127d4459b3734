use Rattle.std.proofs.Common.{true, false, refl, ap, subst}
use Rattle.p21_stream_log.proofs.GoingOn.{goes-on, stays-there}
use Rattle.p21_stream_log.proofs.Openings.{not-true}
use Rattle.p21_stream_log.specs.Going.{GoOnGives}
use Rattle.p21_stream_log.specs.Log.{Held}
use Rattle.p21_stream_statements.specs.StatementReader as statements
use Rattle.p21_stream_log.proofs.log.Log.go_on.Goals as goal

pub returns-then-not-reopen-clause-gives : goal.returns-then-not-reopen-clause-gives
returns-then-not-reopen-clause-gives c =
    let old : Held = record {
      reader = c.self.inside.reader;
      start = c.self.inside.start;
      buffer = c.self.inside.buffer.items;
      opened =
          c.self.inside.opened;
    } in
    let new : Held = record {
      reader = c.reopen.new.self;
      start = c.self.inside.start;
      buffer = c.self.inside.buffer.items;
      opened =
          c.self.inside.opened;
    } in
    subst (λ (h : Held). GoOnGives h c.args.place false new) c.self.view_is
    (stays-there old c.args.place new
    (ap (λ (r : statements.Held). record {
      reader = r;
      start = c.self.inside.start;
      buffer = c.self.inside.buffer.items;
      opened =
          c.self.inside.opened;
    }) (c.if-not-reopen.ensures.left refl))
    (λ low. not-true (c.if-not-reopen.ensures.reopens.1 low)))

pub returns-clause-gives : goal.returns-clause-gives
returns-clause-gives c =
    let old : Held = record {
      reader = c.self.inside.reader;
      start = c.self.inside.start;
      buffer = c.self.inside.buffer.items;
      opened =
          c.self.inside.opened;
    } in
    let new : Held = record { reader = c.reopen.new.self; start = c.args.place; buffer = c.clear.new.self.items; opened = true } in
    subst (λ (h : Held). GoOnGives h c.args.place true new) c.self.view_is
    (goes-on c.whole_laws.ensures.gap old c.args.place new (c.if-not-reopen.ensures.gives refl) (c.if-not-reopen.ensures.between refl)
    c.if-not-reopen.ensures.limits refl c.clear.ensures.items refl)
