use Rattle.p21_shorter_instances.proofs.InstanceBytes.{instance-some, mark-separates}
use Rattle.p21_stream.proofs.Taken.{begun-quiet, taken-ends, taken-follows, taken-none, taken-on, taken-quiet}
use Rattle.p21_stream.proofs.walk.Walk.take_instance.Goals as goal

pub take_found-requires : goal.take_found-requires
take_found-requires c =
    let old = c.args.self.now in
    let is = c.in-Ok.ensures.takes in
    taken-follows c.args.schema.now c.args.limits old.statements c.pass_over.new.self old.kept c.args.piece.now c.in-Ok.found.count
    c.in-Ok.found.number _ _ _ is c.in-Ok.ensures.within
    (c.pass_over.ensures.gives c.if-not-pass_over.false) c.pass_over.ensures.limits c.requires.way

pub returns-in-Ok-take_found-clause-gives : goal.returns-in-Ok-take_found-clause-gives
returns-in-Ok-take_found-clause-gives c =
    let old = c.args.self.now in
    let is = c.in-Ok.ensures.takes in
    taken-on c.args.schema.now c.args.limits old.statements c.pass_over.new.self old.kept c.args.piece.now c.in-Ok.found.count
    c.in-Ok.found.number _ _ _ is c.in-Ok.ensures.within
    (c.pass_over.ensures.gives c.if-not-pass_over.false) c.pass_over.ensures.limits c.take_found.new.self c.in-Ok-take_found.ensures.gives

pub returns-in-Err-clause-gives : goal.returns-in-Err-clause-gives
returns-in-Err-clause-gives c =
    let old = c.args.self.now in
    let is = c.in-Ok.ensures.takes in
    taken-ends c.args.schema.now c.args.limits old.statements c.pass_over.new.self old.kept c.args.piece.now c.in-Ok.found.count
    c.in-Ok.found.number _ _ _ is c.in-Ok.ensures.within
    (c.pass_over.ensures.gives c.if-not-pass_over.false) c.pass_over.ensures.limits c.well_formed-2.ensures c.take_found.new.self
    c.refused-in-Err.result c.in-Err.fault c.refused-in-Err.ensures c.in-Err.ensures.gives

pub returns-in-Err-clause-no_memory : goal.returns-in-Err-clause-no_memory
returns-in-Err-clause-no_memory c =
    let is = c.in-Ok.ensures.takes in
    taken-quiet c.args.schema.now c.args.limits c.args.self.now.statements c.pass_over.new.self c.args.self.now.kept c.args.piece.now
    c.in-Ok.found.count c.in-Ok.found.number _ _ _ is c.in-Ok.ensures.within c.refused-in-Err.result

pub returns-in-Ok-take_found-clause-no_token : goal.returns-in-Ok-take_found-clause-no_token
returns-in-Ok-take_found-clause-no_token c =
    let is = c.in-Ok.ensures.takes in
    taken-none c.args.schema.now c.args.limits c.args.self.now.statements c.pass_over.new.self c.args.self.now.kept c.args.piece.now
    c.in-Ok.found.count c.in-Ok.found.number _ _ _ is c.in-Ok.ensures.within c.in-Ok.found.count

pub returns-in-Err-NoMemory-clause-no_memory : goal.returns-in-Err-NoMemory-clause-no_memory
returns-in-Err-NoMemory-clause-no_memory c =
    begun-quiet c.args.schema.now c.args.limits c.args.self.now.statements c.args.self.now.kept c.args.piece.now c.refused.result
    (mark-separates c.args.piece.now (c.in-Err-NoMemory.ensures.at_mark c.in-Err-NoMemory.field-0-is))

pub returns-in-Ok-take_found-clause-some : goal.returns-in-Ok-take_found-clause-some
returns-in-Ok-take_found-clause-some c =
    let is = c.in-Ok.ensures.takes in
    instance-some c.args.schema.now c.in-Ok.found.number c.in-Ok.found.count _ c.args.piece.now _ _ is
