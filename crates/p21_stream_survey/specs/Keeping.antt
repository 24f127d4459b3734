-- What judges the statements of a file and keeps them: its rules, and what it keeps (this project's own).
use Rattle.std.specs.Prelude.{◌≡◌, []}
use Rattle.p21_shorter_instances.specs.Taker.{IsTakerOf}
use Rattle.p21_spec_laws.specs.Keeping.{nothing_kept}
use Rattle.p21_spec_survey.specs.Rules.{Rules, by_itself, of_schema}
use Rattle.p21_stream_sieve.specs.Sifting.{HaveNames}
use Rattle.p21_stream_survey.specs.Sifted.{Sifted, alone, sieved}
use Rattle.p21_stream_survey.specs.declared.keeper.Keeper.{Keeper}
use Rattle.p21_stream_survey.specs.declared.keeper.Keeper.TheVariants.{ByItself, OfSchema}
use Rattle.p21_stream_survey.specs.declared.plain.PlainKeeper.{PlainKeeper}
use Rattle.p21_stream_survey.specs.declared.survey.Survey.{Survey}
use Rattle.p21_stream_syntax.specs.Given as own
use Rattle.p21_stream_syntax.specs.Given.{kept_of}

-- what is kept of statements by themselves
abbrev pub kept_alone : PlainKeeper → Sifted
kept_alone keeper = alone (kept_of keeper.given) keeper.names

abbrev pub rules_of : Keeper → Rules
rules_of (OfSchema keeper) = of_schema keeper.schema.now
rules_of (ByItself keeper) = by_itself

abbrev pub sifted_of : Keeper → Sifted
sifted_of (OfSchema keeper) = sieved keeper.judge.sieve
sifted_of (ByItself keeper) = kept_alone keeper

-- what is known of the schema is so, and what is kept of it for instances that are taken straight from their bytes
abbrev pub IsSoundKeeper : Keeper → Type 0
IsSoundKeeper (OfSchema keeper) = (keeper.judge.known ≡ keeper.schema.now) × IsTakerOf keeper.schema.now keeper.taker
IsSoundKeeper (ByItself keeper) = Unit {0}

-- nothing is kept yet
abbrev pub KeepsNothing : Keeper → Type 0
KeepsNothing (OfSchema keeper) = (keeper.judge.sieve.kept ≡ nothing_kept) × (keeper.judge.sieve.refusals.items ≡ [])
    × HaveNames keeper.judge.sieve.names [] × IsSoundKeeper (OfSchema keeper)
KeepsNothing (ByItself keeper) = (kept_of keeper.given ≡ own.nothing_kept) × (keeper.names.keys ≡ [])

-- it is still by these rules, and what it knows of them is so
pub record StaysBy (old new : Keeper) : Type 0 where
  pub rules : rules_of new ≡ rules_of old
  pub sound : IsSoundKeeper old → IsSoundKeeper new

-- the rules of a survey, and what it keeps
abbrev pub rules_by : Survey → Rules
rules_by survey = rules_of survey.keeper

abbrev pub kept_by : Survey → Sifted
kept_by survey = sifted_of survey.keeper
