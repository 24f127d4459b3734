use Rattle.std.proofs.Common.{sym, ◌∙◌, ◌≡◌, true, false}
use Rattle.p21_express_graph.specs.Meaning.{place}
use Rattle.p21_express_graph.specs.Orders.{numbers}
use Rattle.p21_schema.proofs.schema.Schema.decision_by.Goals as goal
use Rattle.p21_schema.proofs.Decisions.{none-decides, lowest-decides}

pub returns-then-not-is_below : goal.returns-then-not-is_below
returns-then-not-is_below c set are stored =
    none-decides c.args.self.now (numbers c.args.entities.now) c.args.own (place c.args.place) set are c.args.lowest.0 c.requires.lowest
    stored (λ below. let t : true ≡ false = sym (c.is_below.ensures.1 below) ∙ c.if-not-is_below.true in cc)

pub returns : goal.returns
returns c set are stored = let (r, stands, is) = c.in-Some.ensures in (
  stored,
  (
    r,
    stands,
    lowest-decides c.args.self.now (numbers c.args.entities.now) c.args.own (place c.args.place) set are
        c.args.lowest.0 c.requires.lowest (c.is_below.ensures.0 c.if-not-is_below.false) c.in-Some.at r stands is,
  ),
)
