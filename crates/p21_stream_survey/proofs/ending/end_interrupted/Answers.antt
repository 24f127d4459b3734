use Rattle.std.proofs.Common.{List, [], ◌∷◌, ◌++◌, ◌∙◌, ap, refl}
use Rattle.p21_stream_statements.specs.declared.fault.Fault.TheVariants.{Read}
use Rattle.p21_stream_statements.specs.declared.refusal.At.TheVariants.{Statement}
use Rattle.p21_stream_survey.proofs.Surveyed.{ends-interrupted}
use Rattle.p21_stream_survey.specs.declared.listed.Listed as code
use Rattle.p21_stream_survey.proofs.ending.end_interrupted.Goals as goal

pub returns-in-Ok-list-clause-ends : goal.returns-in-Ok-list-clause-ends
returns-in-Ok-list-clause-ends c = ends-interrupted c.args.listing.now c.list.new.self c.list-2.new.self c.args.fault c.args.at
    c.args.begins c.in-Ok.ensures.list c.in-Ok.ensures.statement c.in-Ok-list.ensures.list

pub returns-in-Ok-list-clause-list : goal.returns-in-Ok-list-clause-list
returns-in-Ok-list-clause-list c =
    let last : code.Listed = record { fault = Read; at = Statement c.list.new.self.statement; begins = c.args.begins } in
    record {
      refusal = last;
      list_is = c.in-Ok-list.ensures.list ∙ ap (λ (l : List code.Listed). l ++ last ∷ []) c.in-Ok.ensures.list;
      fault_is = refl;
      extent_is = refl;
    }
