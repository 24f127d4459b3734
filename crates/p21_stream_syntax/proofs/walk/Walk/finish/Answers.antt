use Rattle.std.proofs.Common.{refl}
use Rattle.p21_stream_syntax.proofs.Walking.{finish-missing, finish-refused, found-whole}
use Rattle.p21_stream_syntax.specs.Given.{kept_of}
use Rattle.p21_stream_syntax.proofs.walk.Walk.finish.Goals as goal

pub returns-in-Err-clause-gives : goal.returns-in-Err-clause-gives
returns-in-Err-clause-gives c = finish-refused c.args.self.statements (kept_of c.args.self.given) c.in-Err.fault c.refused.result
    c.refused.ensures c.in-Err.ensures.gives

pub returns-in-Some-clause-gives : goal.returns-in-Some-clause-gives
returns-in-Some-clause-gives c = finish-missing c.args.self.statements (kept_of c.args.self.given) c.refused-in-Some.result
    c.in-Some.holder c.in-Ok.ensures.gives c.in-Some.ensures.some

pub returns-clause-gives : goal.returns-clause-gives
returns-clause-gives c =
    found-whole c.args.self.statements (kept_of c.args.self.given) c.into_well_formed.result c.in-Ok.ensures.gives
    (c.in-None.ensures.none refl) c.into_well_formed.ensures.instances c.into_well_formed.ensures.schema
    c.into_well_formed.ensures.header c.into_well_formed.ensures.keywords
