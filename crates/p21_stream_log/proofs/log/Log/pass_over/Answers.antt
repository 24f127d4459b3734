use Rattle.std.proofs.Common.{◌++◌, true, refl, sym, subst}
use Rattle.p21_stream_log.proofs.Passing.{pass-gives}
use Rattle.p21_stream_log.specs.Log.{Held, PassGives}
use Rattle.p21_stream_log.proofs.log.Log.pass_over.Goals as goal

pub returns-in-Ok-clause-gives : goal.returns-in-Ok-clause-gives
returns-in-Ok-clause-gives c =
    let old : Held = record {
      reader = c.self.inside.reader;
      start = c.self.inside.start;
      buffer = c.self.inside.buffer.items;
      opened =
          c.self.inside.opened;
    } in
    subst (λ (h : Held). PassGives h c.args.instance.now true c.keep.new.self) c.self.view_is
    (subst (λ (h : Held). PassGives old c.args.instance.now true h) (sym c.in-Ok.ensures)
    (pass-gives old c.pass_over.new.self c.args.instance.now (old.buffer ++ c.args.instance.now)
    (c.if-not-pass_over.ensures.gives refl) (c.if-not-pass_over.ensures.between refl) c.pass_over.ensures.limits refl))
