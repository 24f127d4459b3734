use Rattle.p21_express_graph.specs.Orders.{numbers}
use Rattle.p21_schema.proofs.Above.{above-risen}
use Rattle.p21_schema.proofs.Ascents.{are-above, next-all}
use Rattle.p21_schema.proofs.schema.Schema.all_above.Goals as goal

pub returns-clause-above : goal.returns-clause-above
returns-clause-above c =
    let s = c.args.self.now in
    let es = numbers c.args.entities.now in
    let next = c.find_next.new.ascent.above.items in
    let found = c.find_rest.new.ascent.above.items in
    above-risen s es found c.rising_numbers.result.items
    (are-above s c.holds_together.ensures.supertypes_end es next found
    (next-all s c.in_ok-ascent.ascent.above.items next es c.in_ok-ascent.ensures.empty c.in_ok-find_next.ensures.found)
    c.in_ok-find_rest.ensures.kept c.in_ok-find_rest.ensures.within c.in_ok-find_rest.ensures.closed)
    c.rising_numbers.ensures.same
