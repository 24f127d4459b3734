use Rattle.std.proofs.Common.{◌≡◌, ◌∷◌, ◌++◌, [], List, true, ap, subst, sym, Ok, Err, ◌∙◌}
use Rattle.p21_spec_exchange.specs.DataSection.{Heading, heading_of, named}
use Rattle.p21_spec_exchange.specs.Statement.{data_start, section}
use Rattle.p21_grammar_tree.specs.View.{items_of, views}
use Rattle.p21_stream_statements.specs.declared.fault.Fault.TheVariants.{SchemaName, SectionTwice}
use Rattle.p21_stream_syntax.proofs.RefusedAlone.{again-refuses, heading-refuses}
use Rattle.p21_stream_syntax.proofs.Taking.{heading-again, other-heading, took-heading}
use Rattle.p21_stream_syntax.specs.Given.{Kept, Refuses, Takes, kept_of}
use Rattle.p21_stream_syntax.proofs.given.Given.take_heading.Goals as goal

pub returns-then-not-is_named_by-clause-gives : goal.returns-then-not-is_named_by-clause-gives
returns-then-not-is_named_by-clause-gives c =
    let old : Kept = kept_of c.args.self.now in
    let P : Heading → Type 0 = λ h. Takes old (section (data_start h)) (Err SchemaName) old in
    subst P (sym c.in-Some.ensures.some)
    (other-heading old old c.in-Some.name.now c.in-Some.text.now (λ both.
    let passes : c.is_named_by.result ≡ true = c.is_named_by.ensures.1 both in
    let fails = c.if-not-is_named_by.true in
    cc))

pub returns-then-has_name-clause-gives : goal.returns-then-has_name-clause-gives
returns-then-has_name-clause-gives c =
    let old : Kept = kept_of c.args.self.now in
    let P : Heading → Type 0 = λ h. Takes old (section (data_start h)) (Err SectionTwice) old in
    subst P (sym c.in-Some.ensures.some) (heading-again old old c.in-Some.name.now c.in-Some.text.now
    (c.has_name.ensures.0 c.if-has_name.true))

pub returns-clause-gives : goal.returns-clause-gives
returns-clause-gives c =
    let old : Kept = kept_of c.args.self.now in
    let known = c.is_named_by.ensures.0 c.if-not-is_named_by.false in
    let sections = c.in-Ok.ensures.ok ∙ ap (λ (h : Heading). old.sections ++ h ∷ []) c.in-Some.ensures.some in
    subst (λ (hs : List Heading). Takes old (section (data_start (heading_of (views (items_of c.args.part.params))))) (Ok tt)
    (record old { sections = hs })) (sym sections)
    (subst (λ (h : Heading). Takes old (section (data_start h)) (Ok tt)
    (record old { sections = old.sections ++ named c.in-Some.name.now c.in-Some.text.now ∷ [] })) (sym c.in-Some.ensures.some)
    (took-heading old c.in-Some.name.now c.in-Some.text.now known.0 known.1 (λ had.
    let passes : c.has_name.result ≡ true = c.has_name.ensures.1 had in
    let fails = c.if-has_name.false in
    cc)))

pub returns-then-not-is_named_by-clause-refuses : goal.returns-then-not-is_named_by-clause-refuses
returns-then-not-is_named_by-clause-refuses c =
    let old : Kept = kept_of c.args.self.now in
    let P : Heading → Type 0 = λ h. Refuses old (section (data_start h)) (Err SchemaName) in
    subst P (sym c.in-Some.ensures.some)
    (heading-refuses old c.in-Some.name.now c.in-Some.text.now (λ both.
    let passes : c.is_named_by.result ≡ true = c.is_named_by.ensures.1 both in
    let fails = c.if-not-is_named_by.true in
    cc))

pub returns-then-has_name-clause-refuses : goal.returns-then-has_name-clause-refuses
returns-then-has_name-clause-refuses c =
    let old : Kept = kept_of c.args.self.now in
    let P : Heading → Type 0 = λ h. Refuses old (section (data_start h)) (Err SectionTwice) in
    subst P (sym c.in-Some.ensures.some) (again-refuses old c.in-Some.name.now c.in-Some.text.now
    (c.has_name.ensures.0 c.if-has_name.true))
