use Rattle.std.proofs.Common.{◌≡◌, ◌+◌, true, ap, subst, sym, Ok, Err}
use Rattle.p21_spec_laws.specs.Keeping.{Kept}
use Rattle.p21_spec_exchange.specs.Statement.{header}
use Rattle.p21_grammar_tree.specs.View.{part_view}
use Rattle.p21_spec_schema.specs.SchemaName.{NamesSchema}
use Rattle.p21_stream_statements.specs.declared.fault.Fault.TheVariants.{CanonicalTooLong}
use Rattle.p21_stream_kept.proofs.Stepping.{other-header, refused-header, took-header}
use Rattle.p21_stream_kept.specs.Inside.{kept_of}
use Rattle.p21_stream_kept.specs.Steps.{FitsLimits, StepGives}
use Rattle.p21_stream_kept.proofs.kept.Kept.take_header.Goals as goal

pub returns-then-not-has_schema_name-clause-gives : goal.returns-then-not-has_schema_name-clause-gives
returns-then-not-has_schema_name-clause-gives c =
    let (chars, is, none) = c.has_schema_name.ensures.no c.if-not-has_schema_name.true in
    other-header c.args.schema.now c.args.limits c.args.self.now c.args.self.now (part_view c.args.part.now) chars is
    (λ names. none (subst (λ n. NamesSchema chars n) (sym c.name.ensures) names))

pub returns-then-not-fits_limits-clause-gives : goal.returns-then-not-fits_limits-clause-gives
returns-then-not-fits_limits-clause-gives c =
    let old : Kept = kept_of c.self.inside in
    subst (λ (k : Kept). StepGives c.args.schema.now c.args.limits k (header (part_view c.args.part.now)) (Err CanonicalTooLong) k)
    c.self.view_is
    (refused-header c.args.schema.now c.args.limits old old (part_view c.args.part.now) (λ room.
    let passes : c.fits_limits.result ≡ true = c.fits_limits.ensures.decides.1
    (subst (λ n. FitsLimits c.args.limits (old.bytes + old.framing) n) (sym c.in-Ok.ensures.size) room) in
    let fails = c.if-not-fits_limits.true in
    cc))

pub returns-clause-gives : goal.returns-clause-gives
returns-clause-gives c =
    let old : Kept = kept_of c.self.inside in
    let lines = c.in-Ok.ensures.line in
    let bytes = ap (λ n. old.bytes + n) c.in-Ok.ensures.size in
    let new : Kept = record old { header = c.append_record.new.out.items; bytes = old.bytes + c.in-Ok.size; framing = old.framing + 1 } in
    subst (λ (k : Kept). StepGives c.args.schema.now c.args.limits k (header (part_view c.args.part.now)) (Ok tt) new) c.self.view_is
    (took-header c.args.schema.now c.args.limits old new (part_view c.args.part.now)
    (subst (λ n. FitsLimits c.args.limits (old.bytes + old.framing) n) c.in-Ok.ensures.size
    (c.fits_limits.ensures.decides.0 c.if-not-fits_limits.false))
    (λ chars is. subst (λ n. NamesSchema chars n) c.name.ensures (c.has_schema_name.ensures.yes c.if-not-has_schema_name.false chars is))
    (λ i. record old { header = lines i; bytes = bytes i; framing = old.framing + 1 }))
