use Rattle.std.proofs.Common.{◌≡◌, ◌+◌, ◌++◌, ◌∷◌, [], ℕ, List, true, ap, length, subst, sym, ◌∙◌, Ok, Err, arith}
use Rattle.std.specs.Prelude.{vec_len}
use Rattle.p21_spec_laws.specs.Keeping.{Kept}
use Rattle.p21_spec_exchange.specs.DataSection.{Heading, heading_of}
use Rattle.p21_spec_exchange.specs.Statement.{data_start, section}
use Rattle.p21_grammar_tree.specs.View.{items_of, views}
use Rattle.p21_spec_schema.specs.SchemaName.{NamesSchema}
use Rattle.p21_stream_statements.specs.declared.fault.Fault.TheVariants.{CanonicalTooLong, SchemaName, SectionTwice}
use Rattle.p21_stream_kept.proofs.Stepping.{heading-again, other-heading, refused-heading, took-heading}
use Rattle.p21_stream_kept.specs.Inside.{kept_of}
use Rattle.p21_stream_kept.specs.Steps.{FitsLimits, StepGives}
use Rattle.p21_stream_kept.proofs.kept.Kept.take_heading.Goals as goal

pub returns-then-not-names_schema-clause-gives : goal.returns-then-not-names_schema-clause-gives
returns-then-not-names_schema-clause-gives c =
    let old : Kept = c.args.self.now in
    let P : Heading → Type 0 = λ h. StepGives c.args.schema.now c.args.limits old (section (data_start h)) (Err SchemaName) old in
    subst P (sym c.in-Some.ensures.some)
    (other-heading c.args.schema.now c.args.limits old old c.in-Some.name.now c.in-Some.text.now (λ names.
    let names_it : NamesSchema c.chars.result.now c.name.result.now =
    subst (λ (n : List ℕ). NamesSchema c.chars.result.now n) (sym c.name.ensures)
    (subst (λ (n : List ℕ). NamesSchema n c.args.schema.now.name) (sym c.chars.ensures) names) in
    let passes : c.names_schema.result ≡ true = c.names_schema.ensures.1 names_it in
    let fails = c.if-not-names_schema.true in
    cc))

pub returns-then-has_name-clause-gives : goal.returns-then-has_name-clause-gives
returns-then-has_name-clause-gives c =
    let old : Kept = kept_of c.self.inside in
    let P : Heading → Type 0 = λ h. StepGives c.args.schema.now c.args.limits old (section (data_start h)) (Err SectionTwice) old in
    subst (λ (k : Kept). StepGives c.args.schema.now c.args.limits k
    (section (data_start (heading_of (views (items_of c.args.part.params))))) (Err SectionTwice) k) c.self.view_is
    (subst P (sym c.in-Some.ensures.some)
    (heading-again c.args.schema.now c.args.limits old old c.in-Some.name.now c.in-Some.text.now
    (c.has_name.ensures.0 c.if-has_name.true)))

pub returns-then-not-fits_limits-clause-gives : goal.returns-then-not-fits_limits-clause-gives
returns-then-not-fits_limits-clause-gives c =
    let old : Kept = kept_of c.self.inside in
    let P : Heading → Type 0 = λ h. StepGives c.args.schema.now c.args.limits old (section (data_start h)) (Err CanonicalTooLong) old in
    subst (λ (k : Kept). StepGives c.args.schema.now c.args.limits k
    (section (data_start (heading_of (views (items_of c.args.part.params))))) (Err CanonicalTooLong) k) c.self.view_is
    (subst P (sym c.in-Some.ensures.some)
    (refused-heading c.args.schema.now c.args.limits old old c.in-Some.name.now c.in-Some.text.now (λ room.
    let same : vec_len c.in-Ok.line ≡ length c.in-Ok.line.items = omega (arith, c.in-Ok.line.ok.0) in
    let size = c.len-bytes.ensures ∙ same ∙ ap length c.in-Ok.ensures in
    let passes : c.fits_limits.result ≡ true = c.fits_limits.ensures.decides.1
    (subst (λ n. FitsLimits c.args.limits (old.bytes + old.framing) n) (sym size) room) in
    let fails = c.if-not-fits_limits.true in
    cc)))

pub returns-clause-gives : goal.returns-clause-gives
returns-clause-gives c =
    let old : Kept = kept_of c.self.inside in
    let same : vec_len c.in-Ok.line ≡ length c.in-Ok.line.items = omega (arith, c.in-Ok.line.ok.0) in
    let size = c.len-bytes.ensures ∙ same ∙ ap length c.in-Ok.ensures in
    let headings = c.in-Ok-add.ensures.ok ∙ ap (λ (h : Heading). old.headings ++ h ∷ []) c.in-Some.ensures.some in
    let framing = ap (λ n. old.framing + (n + 1)) size in
    let new : Kept = record old { headings = c.add.new.self; framing = old.framing + (c.len-bytes.result + 1) } in
    let P : Heading → Type 0 = λ h. StepGives c.args.schema.now c.args.limits old (section (data_start h)) (Ok tt) new in
    subst (λ (k : Kept). StepGives c.args.schema.now c.args.limits k
    (section (data_start (heading_of (views (items_of c.args.part.params))))) (Ok tt) new) c.self.view_is
    (subst P (sym c.in-Some.ensures.some)
    (took-heading c.args.schema.now c.args.limits old new c.in-Some.name.now c.in-Some.text.now
    (subst (λ (n : List ℕ). NamesSchema n c.args.schema.now.name) c.chars.ensures
    (subst (λ (n : List ℕ). NamesSchema c.chars.result.now n) c.name.ensures (c.names_schema.ensures.0 c.if-not-names_schema.false)))
    (λ had.
    let passes : c.has_name.result ≡ true = c.has_name.ensures.1 had in
    let fails = c.if-has_name.false in
    cc)
    (subst (λ n. FitsLimits c.args.limits (old.bytes + old.framing) n) size (c.fits_limits.ensures.decides.0 c.if-not-fits_limits.false))
    (λ i. record old { headings = headings i; framing = framing i })))
