-- What keeps the statements by the rules of a schema: an instance that is taken straight from its bytes.
use Rattle.std.proofs.Common.{ℕ, List, true, Result, take, sym, subst, append-nil}
use Rattle.p21_shorter_instances.proofs.InstanceBytes.{instance-some}
use Rattle.p21_shorter_instances.specs.Taker.{IsInstance}
use Rattle.p21_spec_basics.specs.Limits.{Limits}
use Rattle.p21_spec_exchange.specs.Laying.{Laid}
use Rattle.p21_spec_exchange.specs.Statement.{instance, statement_tokens}
use Rattle.p21_spec_exchange.specs.Token.{Token}
use Rattle.p21_spec_file.specs.Reference.{Need}
use Rattle.p21_stream_kept.specs.Found.{HasFound}
use Rattle.p21_stream_log.specs.Log as log
use Rattle.p21_stream_log.specs.Log.{Keeps, PassGives}
use Rattle.p21_stream_statements.specs.declared.fault.Fault.{Fault}
use Rattle.p21_stream_survey.specs.Judging.{FollowsFound, FoundGives}
use Rattle.p21_stream_survey.specs.Taking.{FollowsInstances, IsFirstInstance, IsJudgedInstance}
use Rattle.p21_stream_survey.specs.declared.judging.Judgement.{Judgement}
use Rattle.p21_stream_survey.specs.declared.keeper.Keeper.TheVariants.{OfSchema}
use Rattle.p21_stream_survey.specs.declared.keeper.SchemaKeeper.{SchemaKeeper}

module _ (old : SchemaKeeper) (limits : Limits) (held next : log.Held) (rest : List ℕ) (count n : ℕ) (entities text : List ℕ)
    (needs : List Need) (is : IsInstance old.schema.now n entities (take count rest) text needs)
    (gives : PassGives held (take count rest) true next) (keeps : Keeps held (take count rest) next) where
  first : IsFirstInstance rest count n is.record_
  first = record {
    are = record {
      laid = subst (λ (ts : List Token). Laid (take count rest) ts) (sym (append-nil (statement_tokens (instance n is.record_)))) is.laid;
      of_data = (is.data_record, tt);
    };
    front = is.front;
    ends = is.ends;
  }

  found : HasFound old.schema.now n is.record_ entities needs text
  found = record { meaning = is.meaning; meant = is.means; entities_are = is.entities_are; printed = is.printed }

  pub found-follows : FollowsInstances (OfSchema old) limits held rest
      → FollowsFound old.schema.now limits old.judge.sieve n entities needs text
  found-follows follows = record { record_ = is.record_; found = found; follows = follows next count n is.record_ first gives keeps }

  pub takes-one : (new : SchemaKeeper) (judgement : Result Judgement Fault)
      → FoundGives old.schema.now limits old.judge.sieve n entities needs text judgement new.judge.sieve
      → IsJudgedInstance (OfSchema old) limits held rest (record { count = count; judgement = judgement }) (OfSchema new) next
  takes-one new judgement judges = record {
    name = n;
    record_ = is.record_;
    first = first;
    some = instance-some old.schema.now n count entities rest text needs is;
    passes = gives;
    keeps = keeps;
    gives = judges is.record_ found;
  }
