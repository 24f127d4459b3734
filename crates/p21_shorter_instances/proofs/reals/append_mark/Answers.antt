use Rattle.std.proofs.Common.{inl, inr, refl}
use Rattle.p21_shorter_instances.proofs.reals.append_mark.Goals as goal

pub returns-in-Some-clause-some : goal.returns-in-Some-clause-some
returns-in-Some-clause-some c = record {
  mark = 44;
  is_mark = inl refl;
  passes = c.in-Some.ensures.some.0;
  appended =
      c.in-Some.ensures.some.1;
}

pub returns-clause-some : goal.returns-clause-some
returns-clause-some c = record {
  mark = 41;
  is_mark = inr refl;
  passes = c.in_ok-rest.ensures.some.0;
  appended = rw c.in_default.ensures.none at c.in_ok-rest.ensures.some.1;
}
