use Rattle.std.proofs.Common.{sym, subst, rules, Ok}
use Rattle.p21_express_graph.specs.Meaning.{place_type, type_use}
use Rattle.p21_spec_file.specs.BrokenValue.{BreaksAtPlace, derived_not_star}
use Rattle.p21_grammar_tree.specs.View.{view}
use Rattle.p21_mapping.proofs.Chains.{as_place, star_at_derived}
use Rattle.p21_mapping.specs.Outcome.{FitsPlaceOrBreaks}
use Rattle.p21_mapping_values.specs.declared.value.Value as value
use Rattle.p21_mapping.proofs.place.fit_place.Goals as goal

pub returns-in-Stored : goal.returns-in-Stored
returns-in-Stored c =
    subst (λ at. FitsPlaceOrBreaks c.args.schema.now (place_type at) (view c.args.param) c.args.needs.now.items c.fit_stored.result
    c.fit_stored.new.needs.items) (sym c.in-Stored.is)
    (as_place c.args.schema.now c.in-Stored.optional (type_use c.in-Stored.of.now) (view c.args.param) _ _ _ c.fit_stored.ensures)

pub returns-then-is_star : goal.returns-then-is_star
returns-then-is_star c =
    subst (λ at. FitsPlaceOrBreaks c.args.schema.now (place_type at) (view c.args.param) c.args.needs.now.items (Ok value.Derived)
    c.args.needs.now.items) (sym c.in-Derived.is)
    (star_at_derived c.args.schema.now (view c.args.param) c.args.needs.now.items (c.is_star.ensures.0 (search rules)))

pub returns-in-Derived : goal.returns-in-Derived
returns-in-Derived c = λ other.
    subst (λ at. BreaksAtPlace c.args.schema.now (place_type at) (view c.args.param) 48) (sym c.in-Derived.is)
    (derived_not_star (view c.args.param) (λ is. let yes = c.is_star.ensures.1 is in search rules))
