use Rattle.std.proofs.Common.{◌∙◌, ℕ, List, inl, subst}
use Rattle.p21_commands.specs.Command.{AnswersWith}
use Rattle.p21_commands.specs.Streams.{stream_of}
use Rattle.p21_commands.proofs.located_alone.write_told.Goals as goal

pub returns-in-Ok-clause-tells : goal.returns-in-Ok-clause-tells
returns-in-Ok-clause-tells g c =
    let output = stream_of g.W.Write.contents c.args.output.now c.answer.new.output in
    let faults = stream_of g.F.Write.contents c.args.faults.now c.answer.new.faults in
    inl (subst (λ (text : List ℕ). AnswersWith text c.answer.result output faults) (c.deref.ensures.value ∙ c.in-Ok.ensures)
    c.answer.ensures)
