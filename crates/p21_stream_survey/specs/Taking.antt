-- Instances that a survey takes straight from their bytes (this project's own).
use Rattle.std.specs.Prelude.{◌≡◌, ◌<◌, ◌∷◌, ◌++◌, ℕ, true, List, [], Option, Some, None, take}
use Rattle.p21_spec_basics.specs.Limits.{Limits}
use Rattle.p21_spec_exchange.specs.Record.{Record}
use Rattle.p21_spec_exchange.specs.Statement.{instance}
use Rattle.p21_stream_log.specs.Log as log
use Rattle.p21_stream_log.specs.Log.{Keeps, PassGives}
use Rattle.p21_stream_statements.specs.PassingOver.{AreInstances}
use Rattle.p21_stream_survey.specs.Judging.{Follows, JudgeGives}
use Rattle.p21_stream_survey.specs.Keeping.{StaysBy, kept_by, rules_of, sifted_of}
use Rattle.p21_stream_survey.specs.Walking.{Goes}
use Rattle.p21_stream_survey.specs.declared.keeper.JudgedInstance.{JudgedInstance}
use Rattle.p21_stream_survey.specs.declared.keeper.Keeper.{Keeper}
use Rattle.p21_stream_survey.specs.declared.stage.Stage.TheVariants as stage
use Rattle.p21_stream_survey.specs.declared.survey.Next.{Next}
use Rattle.p21_stream_survey.specs.declared.survey.Survey.{Survey}

-- ---- what is said of one

-- an instance of this name and record stands at the beginning of these bytes, and has so many of them, a `;` the last one
pub record IsFirstInstance (rest : List ℕ) (count n : ℕ) (record_ : Record) : Type 0 where
  pub are : AreInstances (take count rest) ((n, record_) ∷ [])
  pub front : List ℕ
  pub ends : take count rest ≡ front ++ 59 ∷ []

-- behind what is kept an instance that stands at the beginning of these bytes may follow, whichever it is: the log has passed over it
abbrev pub FollowsInstances : Keeper → Limits → log.Held → List ℕ → Type 0
FollowsInstances keeper limits held rest =
    (next : log.Held) (count n : ℕ) (record_ : Record) → IsFirstInstance rest count n record_ → PassGives held (take count rest) true next
    → Keeps held (take count rest) next → Follows (rules_of keeper) limits (sifted_of keeper) (instance n record_)

-- it was taken and judged, and the log has passed over it
pub record IsJudgedInstance (old : Keeper) (limits : Limits) (held : log.Held) (rest : List ℕ) (judged : JudgedInstance) (new : Keeper)
    (next : log.Held) : Type 0 where
  pub name : ℕ
  pub record_ : Record
  pub first : IsFirstInstance rest judged.count name record_
  pub some : 0 < judged.count
  pub passes : PassGives held (take judged.count rest) true next
  pub keeps : Keeps held (take judged.count rest) next
  pub gives : JudgeGives (rules_of old) limits (sifted_of old) (instance name record_) judged.judgement (sifted_of new)

-- or none was, and nothing has changed but what is known of the rules
abbrev pub TakesInstance : Keeper → Limits → log.Held → List ℕ → Option JudgedInstance → Keeper → log.Held → Type 0
TakesInstance old limits held rest None new next = (next ≡ held) × (sifted_of new ≡ sifted_of old)
TakesInstance old limits held rest (Some judged) new next = IsJudgedInstance old limits held rest judged new next

-- ---- what a survey does with them

-- nothing has changed but what is known of the rules, and of that for such instances
pub record OnlyPrepares (old new : Survey) : Type 0 where
  pub same : new ≡ record old { keeper = new.keeper }
  pub stays : StaysBy old.keeper new.keeper
  pub kept : kept_by new ≡ kept_by old

-- instances at the beginning of these bytes are taken; or none
abbrev pub TakesInstances : Survey → List ℕ → Option Next → Survey → Type 0
TakesInstances old rest None new = OnlyPrepares old new
TakesInstances old rest (Some next) new = Goes old stage.Reading rest next new
