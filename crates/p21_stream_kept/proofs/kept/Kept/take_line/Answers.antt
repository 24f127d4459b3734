use Rattle.std.proofs.Common.{◌≡◌, ◌+◌, true, ap, arith, length, subst, sym, Ok, Err}
use Rattle.p21_spec_laws.specs.Keeping.{Kept}
use Rattle.p21_spec_exchange.specs.Statement.{section}
use Rattle.p21_grammar.specs.Statements.{line_of}
use Rattle.p21_stream_statements.specs.declared.fault.Fault.TheVariants.{CanonicalTooLong}
use Rattle.p21_stream_kept.proofs.ByMembership.{sections_wider}
use Rattle.p21_stream_kept.proofs.Stepping.{refused-line, took-line}
use Rattle.p21_stream_kept.specs.Inside.{kept_of}
use Rattle.p21_stream_kept.specs.Steps.{FitsLimits, StepGives}
use Rattle.p21_stream_kept.proofs.kept.Kept.take_line.Goals as goal

pub returns-then-not-fits_limits-clause-gives : goal.returns-then-not-fits_limits-clause-gives
returns-then-not-fits_limits-clause-gives c = λ s.
    let old : Kept = kept_of c.self.inside in
    subst (λ (k : Kept). StepGives s c.args.limits k (section (line_of c.args.line)) (Err CanonicalTooLong) k) c.self.view_is
    (refused-line c.args.limits old old c.args.line
    (λ room.
    let passes : c.fits_limits.result ≡ true = c.fits_limits.ensures.decides.1
    (subst (λ n. FitsLimits c.args.limits (old.bytes + old.framing) n) (sym c.line_size-size.ensures) room) in
    let fails = c.if-not-fits_limits.true in
    cc)
    s)

pub returns-clause-gives : goal.returns-clause-gives
returns-clause-gives c = λ s.
    let old : Kept = kept_of c.self.inside in
    let headings = c.in-Ok.ensures.ok in
    let framing = ap (λ n. old.framing + (n + 1)) c.line_size-size.ensures in
    let new : Kept = record old { headings = c.begin.new.self; framing = old.framing + (c.line_size-size.result + 1) } in
    subst (λ (k : Kept). StepGives s c.args.limits k (section (line_of c.args.line)) (Ok tt) new) c.self.view_is
    (took-line c.args.limits old new c.args.line
    (subst (λ n. FitsLimits c.args.limits (old.bytes + old.framing) n) c.line_size-size.ensures
    (c.fits_limits.ensures.decides.0 c.if-not-fits_limits.false))
    (λ i. record old { headings = headings i; framing = framing i })
    s)

pub invariant_of-self : goal.invariant_of-self
invariant_of-self c = record {
  memberships = c.self.invariant.memberships;
  sections = sections_wider (length c.self.inside.sections) (length c.begin.new.self) c.self.inside.stored.memberships c.begin.ensures.more
      c.self.invariant.sections;
  named = c.self.invariant.named;
  counted = c.self.invariant.counted;
  looked = c.self.invariant.looked;
  patient = c.self.invariant.patient;
}

pub invariant_of-self-2 : goal.invariant_of-self-2
invariant_of-self-2 c = record {
  memberships = c.self.invariant.memberships;
  sections = sections_wider (length c.self.inside.sections) (length c.begin.new.self) c.self.inside.stored.memberships c.begin.ensures.more
      c.self.invariant.sections;
  named = c.self.invariant.named;
  counted = let fits = c.fits_limits.ensures.fits c.if-not-fits_limits.false in omega (arith, fits);
  looked = c.self.invariant.looked;
  patient = c.self.invariant.patient;
}
