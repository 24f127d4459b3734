use Rattle.std.proofs.Common.{IsTrue, subst, sym, ◌≡◌, ◌∙◌, append-nil, ℕ, List}
use Rattle.std.proofs.lemmas.Result.{IfOk-weaker}
use Rattle.p21_stream_log.specs.Broken.{BeginsIn}
use Rattle.p21_stream_statements.specs.Fault.{fault_number}
use Rattle.p21_stream_statements.specs.declared.fault.Fault.{Fault}
use Rattle.p21_stream_survey.proofs.AtEnd.{early-found, file-found, kept-whole, short-by}
use Rattle.p21_stream_survey.specs.Finishing.{FindsReferences, FindsRefusal, TellsEnd}
use Rattle.p21_stream_survey.specs.Keeping.{rules_of, sifted_of}
use Rattle.p21_stream_survey.specs.declared.listed.Found.{Found}
use Rattle.p21_stream_survey.proofs.Numbers.{bytes-number, end-number}
use Rattle.p21_stream_survey.specs.Kinds.{AreOfFile, IsOfFile}
use Rattle.p21_stream_survey.proofs.finishing.finish_file.Goals as goal

pub find_references-requires-clause-whole : goal.find_references-requires-clause-whole
find_references-requires-clause-whole c = kept-whole (rules_of c.args.keeper) c.args.log (sifted_of c.args.keeper) c.args.listing c.requires.stands
    c.in-Ok-finish.ensures.gives

pub returns-in-Ok-finish-clause-finds : goal.returns-in-Ok-finish-clause-finds
returns-in-Ok-finish-clause-finds c =
    IfOk-weaker _ _ _ (λ (found : Found) (finds : FindsReferences (rules_of c.args.keeper) (sifted_of c.args.keeper) c.args.listing found). file-found
    (rules_of c.args.keeper) c.args.limits c.args.log (sifted_of c.args.keeper) c.args.listing found c.in-Ok-finish.ensures.gives finds)
    c.find_references.ensures.finds

pub returns : goal.returns
returns c = record {
  finds =
      IfOk-weaker _ _ _ (λ (found : Found) (finds : FindsRefusal c.args.listing c.end_fault.result c.begins_in-begins.result found).
      early-found c.log_laws.ensures.early (rules_of c.args.keeper) c.args.limits c.args.log (sifted_of c.args.keeper) c.args.listing c.in-Ok.bytes.items
      c.in-Err-finish.fault c.tells_end-is_told.result c.begins_in-begins.result found
      (short-by c.args.limits _ c.file_source-most.ensures c.file_source-most.type_inv) (c.in-Ok.ensures ∙ append-nil c.args.log.buffer)
      (subst (λ (l : List ℕ). BeginsIn c.args.log l c.begins_in-begins.result) c.deref.ensures.value c.begins_in-begins.ensures.begins)
      (subst (λ (l : List ℕ). IsTrue c.tells_end-is_told.result → TellsEnd c.args.log l) c.deref-2.ensures.value
      c.tells_end-is_told.ensures) c.in-Err-finish.ensures.gives c.in_default.not-NoMemory
      (subst (λ (f : Fault). FindsRefusal c.args.listing f c.begins_in-begins.result found) c.end_fault.ensures finds))
      c.find_refusal.ensures.finds;
  counted = c.find_refusal.ensures.counted;
  of_file = λ are.
      let kind = bytes-number c.in-Err-finish.fault c.in-Err-finish.ensures.kind c.in_default.not-NoMemory in
      let number = subst (λ (f : Fault). IsOfFile (fault_number f)) (sym c.end_fault.ensures)
      (end-number c.in-Err-finish.fault c.tells_end-is_told.result kind) in
      c.find_refusal.ensures.of_file number are;
}

pub returns-in-Ok-finish-clause-of_file : goal.returns-in-Ok-finish-clause-of_file
returns-in-Ok-finish-clause-of_file c = λ are.
    IfOk-weaker c.find_references.result (λ (found : Found). found.list.items ≡ c.args.listing.list.items)
    (λ (found : Found). AreOfFile found.list.items)
    (λ found is. subst AreOfFile (sym is) are) c.find_references.ensures.list
