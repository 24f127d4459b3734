use Rattle.std.specs.Prelude.{refl}
use Rattle.p21_schema.proofs.Ascents.{goes-more, more-found, read_open}
use Rattle.p21_schema.proofs.ascent.Ascent.add_one.Goals as goal

pub returns-clause-goes_on : goal.returns-clause-goes_on
returns-clause-goes_on c =
    goes-more c.args.self.now _ c.args.supertype.0 c.requires.ascends
    (read_open c.args.self.now.marked.items c.args.supertype.0 c.index.result.now c.requires.within c.index.ensures c.if-index.false)
    c.requires.within refl c.in_ok-push.ensures.items

pub returns-clause-found : goal.returns-clause-found
returns-clause-found c = more-found c.args.self.now.above.items c.push.new.self.items c.args.supertype.0 c.in_ok-push.ensures.items
