use Rattle.p21_model.proofs.Finding.{found-last, more-passed, none-found}
use Rattle.p21_model.proofs.attributes.Attributes.find.Goals as goal

pub returns-then-is_same : goal.returns-then-is_same
returns-then-is_same c rows tells = found-last c.loop-attribute.self c.next.new.self c.args.place rows c.in-Some.attribute
    (c.loop-attribute.invariant rows tells) c.in-Some.ensures.handed (rw c.if-is_same.true at c.is_same.ensures)

pub loop-attribute-preserved : goal.loop-attribute-preserved
loop-attribute-preserved c rows tells = more-passed c.loop-attribute.self c.next.new.self c.args.place rows c.in-Some.attribute
    (c.loop-attribute.invariant rows tells) c.in-Some.ensures.handed (rw c.if-is_same.false at c.is_same.ensures)

pub returns : goal.returns
returns c rows tells = none-found c.loop-attribute.self c.next.new.self c.args.place rows (c.loop-attribute.invariant rows tells)
    c.in_default.ensures.handed
