use Rattle.p21_shorter_instances.proofs.Leaving.{ok-to}
use Rattle.p21_shorter_instances.proofs.Joining.{numbered-from}
use Rattle.p21_shorter_instances.proofs.Values.{needs-same}
use Rattle.p21_shorter_instances.proofs.external.append_simple_records.Goals as goal
use Rattle.p21_values.proofs.Continuing.{continues-same}

pub returns-in-Err-NotUsual-clause-some : goal.returns-in-Err-NotUsual-clause-some
returns-in-Err-NotUsual-clause-some c =
    ok-to _ (λ found. numbered-from c.args.schema.now _ found.0 c.args.bytes.now found.1.now _ c.args.taken.now _
    c.in-Err-NotUsual.ensures.draft c.in-Err-NotUsual.ensures.needs) c.append_by_keywords.ensures.some

pub returns-in-Err-NotUsual-clause-draft : goal.returns-in-Err-NotUsual-clause-draft
returns-in-Err-NotUsual-clause-draft c = rw (← c.in-Err-NotUsual.ensures.draft) c.append_by_keywords.ensures.draft

pub returns-in-Err-NotUsual-clause-needs : goal.returns-in-Err-NotUsual-clause-needs
returns-in-Err-NotUsual-clause-needs c = rw (← c.in-Err-NotUsual.ensures.needs) c.append_by_keywords.ensures.needs

pub returns-in-Err-NoMemory-clause-draft : goal.returns-in-Err-NoMemory-clause-draft
returns-in-Err-NoMemory-clause-draft c = continues-same _ _ c.in-Err-NoMemory.ensures.draft

pub returns-in-Err-NoMemory-clause-needs : goal.returns-in-Err-NoMemory-clause-needs
returns-in-Err-NoMemory-clause-needs c = needs-same _ _ c.in-Err-NoMemory.ensures.needs
