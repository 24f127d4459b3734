use Rattle.p21_spec_schema.specs.Declared.{HasNoCircle, HasSupertype, Renames, HasSelect}
use Rattle.p21_express_outline.specs.DeclaredBy.{RenamesNoSelect}
use Rattle.p21_express_graph.specs.SchemaContents.{schema_of}
use Rattle.p21_express.proofs.Outlines.{test-refused, few-entities, few-types, outline-entities, outline-types, supertypes-refused, renaming-refused, no_select-refused, selects-refused}
use Rattle.p21_express.proofs.Holding.{outline-members}
use Rattle.p21_express.proofs.checked.check_parts.Goals as goal

pub check_supertypes-requires-clause-few : goal.check_supertypes-requires-clause-few
check_supertypes-requires-clause-few c = few-entities c.requires.0 c.args.parts.now c.requires.1 c.requires.2.0

pub check_supertypes-requires-clause-within : goal.check_supertypes-requires-clause-within
check_supertypes-requires-clause-within c = outline-entities c.requires.0 (schema_of c.args.parts.now) c.requires.2.0

pub returns-in_err-check_supertypes : goal.returns-in_err-check_supertypes
returns-in_err-check_supertypes c k text found =
    test-refused k c.args.parts.now (HasNoCircle (HasSupertype (schema_of c.args.parts.now))) c.in_err-check_supertypes.field-0.0
    c.from_residual.result c.from_residual.ensures.0 c.from_residual.ensures.1
    (λ s by. supertypes-refused k (schema_of c.args.parts.now) s found.0 by) c.in_err-check_supertypes.ensures

pub check_renaming-requires-clause-few : goal.check_renaming-requires-clause-few
check_renaming-requires-clause-few c = few-types c.requires.0 c.args.parts.now c.requires.1 c.requires.2.0

pub check_renaming-requires-clause-within : goal.check_renaming-requires-clause-within
check_renaming-requires-clause-within c = outline-types c.requires.0 (schema_of c.args.parts.now) c.requires.2.0

pub returns-in_err-check_renaming : goal.returns-in_err-check_renaming
returns-in_err-check_renaming c k text found =
    test-refused k c.args.parts.now (HasNoCircle (Renames (schema_of c.args.parts.now))) c.in_err-check_renaming.field-0.0
    c.from_residual-in_err-check_renaming.result c.from_residual-in_err-check_renaming.ensures.0
    c.from_residual-in_err-check_renaming.ensures.1 (λ s by. renaming-refused k (schema_of c.args.parts.now) s found.0 by)
    c.in_err-check_renaming.ensures

pub check_selects-requires-clause-few : goal.check_selects-requires-clause-few
check_selects-requires-clause-few c = few-types c.requires.0 c.args.parts.now c.requires.1 c.requires.2.0

pub check_selects-requires-clause-within : goal.check_selects-requires-clause-within
check_selects-requires-clause-within c = outline-members c.requires.0 (schema_of c.args.parts.now) c.requires.2.0

pub returns-in_err-check_selects : goal.returns-in_err-check_selects
returns-in_err-check_selects c k text found =
    test-refused k c.args.parts.now (HasNoCircle (HasSelect (schema_of c.args.parts.now))) c.in_err-check_selects.field-0.0
    c.from_residual-in_err-check_selects.result c.from_residual-in_err-check_selects.ensures.0
    c.from_residual-in_err-check_selects.ensures.1 (λ s by. selects-refused k (schema_of c.args.parts.now) s found.0 by)
    c.in_err-check_selects.ensures

pub returns-in_err-check_no_select : goal.returns-in_err-check_no_select
returns-in_err-check_no_select c k text found =
    test-refused k c.args.parts.now (RenamesNoSelect (schema_of c.args.parts.now)) c.in_err-check_no_select.field-0.0
    c.from_residual-in_err-check_no_select.result c.from_residual-in_err-check_no_select.ensures.0
    c.from_residual-in_err-check_no_select.ensures.1 (λ s by. no_select-refused k (schema_of c.args.parts.now) s found.0 by)
    c.in_err-check_no_select.ensures

pub returns : goal.returns
returns c k text found = (
  record {
    outline = found.0;
    is_bare = found.2;
    supertypes_end = c.in_ok-check_supertypes.ensures;
    renaming_ends = c.in_ok-check_renaming.ensures;
    no_select = c.in_ok-check_no_select.ensures;
    selects_end = c.in_ok-check_selects.ensures;
  },
  found.1,
)
