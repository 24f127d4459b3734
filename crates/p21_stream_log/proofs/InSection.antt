-- A log that stands in a data section.
use Rattle.std.proofs.Common.{◌≡◌, ◌≢◌, Bool, true, List, [], ◌∷◌, ◌++◌, Result, Ok, Err, refl, sym, ap, subst, ◌∙◌}
use Rattle.std.specs.Prelude.{Contains}
use Rattle.p21_grammar.specs.Stage.{after, is_in_data, then_walk, walk}
use Rattle.p21_grammar.specs.declared.fault.GrammarFault.{GrammarFault}
use Rattle.p21_grammar.specs.declared.stage.Stage.{Stage}
use Rattle.p21_grammar.specs.declared.stage.Stage.TheVariants as stage
use Rattle.p21_spec_basics.proofs.Members.{Contains-first, Contains-later}
use Rattle.p21_spec_exchange.specs.DataSection.{Heading, named, unnamed}
use Rattle.p21_spec_exchange.specs.Statement.{Statement, begin, data_start, finish, header, header_start, instance, section, section_end}
use Rattle.p21_spec_survey.specs.Survey.{IsInData}
use Rattle.p21_stream_log.proofs.GoingOn.{reader-leads, same-stage, stage-is}
use Rattle.p21_stream_log.specs.Going.{TellsData}
use Rattle.p21_stream_log.specs.Log.{Held}
use Rattle.p21_stream_statements.specs.Laws.{StandsInData}

-- behind DATA one is open
data-on : (p q : Stage) (heading : Heading) → after p (section (data_start heading)) ≡ Ok q → is_in_data q ≡ true
data-on stage.Headed q unnamed is = ap is_in_data (sym (same-stage stage.Unnamed q is))
data-on stage.Headed q (named name schema) is = ap is_in_data (sym (same-stage stage.Named q is))
data-on stage.BehindNamed q unnamed is = absurd cc
data-on stage.BehindNamed q (named name schema) is = ap is_in_data (sym (same-stage stage.Named q is))
data-on _ q unnamed is = absurd cc
data-on _ q (named name schema) is = absurd cc

-- and stays open up to ENDSEC
data-stays : (p q : Stage) (st : Statement) → is_in_data p ≡ true → st ≢ section section_end → after p st ≡ Ok q → is_in_data q ≡ true
data-stays stage.Unnamed q (instance n record_) here other is = ap is_in_data (sym (same-stage stage.Unnamed q is))
data-stays stage.Named q (instance n record_) here other is = ap is_in_data (sym (same-stage stage.Named q is))
data-stays stage.Unnamed q (section section_end) here other is = absurd (other refl)
data-stays stage.Named q (section section_end) here other is = absurd (other refl)
data-stays stage.Unnamed q (section begin) here other is = absurd cc
data-stays stage.Unnamed q (section header_start) here other is = absurd cc
data-stays stage.Unnamed q (section finish) here other is = absurd cc
data-stays stage.Unnamed q (section (data_start heading)) here other is = absurd cc
data-stays stage.Unnamed q (header part) here other is = absurd cc
data-stays stage.Named q (section begin) here other is = absurd cc
data-stays stage.Named q (section header_start) here other is = absurd cc
data-stays stage.Named q (section finish) here other is = absurd cc
data-stays stage.Named q (section (data_start heading)) here other is = absurd cc
data-stays stage.Named q (header part) here other is = absurd cc
data-stays _ q st here other is = absurd cc

data-stays_all : (sts : List Statement) (p q : Stage) → is_in_data p ≡ true → ¬ Contains sts (section section_end) → walk sts p ≡ Ok q
    → is_in_data q ≡ true
data-stays_all [] p q here none is = ap is_in_data (sym (same-stage p q is)) ∙ here
data-stays_all (st ∷ sts) p q here none is = by (λ next. data-stays_all sts next q) (after p st) refl is
  where
    by : ((next : Stage) → is_in_data next ≡ true → ¬ Contains sts (section section_end) → walk sts next ≡ Ok q → is_in_data q ≡ true)
        → (found : Result Stage GrammarFault) → after p st ≡ found → then_walk (walk sts) found ≡ Ok q → is_in_data q ≡ true
    by deeper (Ok next) first rest =
        deeper next (data-stays p next st here (λ same. none
        (subst (λ (x : Statement). Contains (st ∷ sts) x) same (Contains-first st sts))) first)
        (λ later. none (Contains-later st sts (section section_end) later)) rest
    by deeper (Err fault) first rest = absurd cc

-- the stage between some statements and others
walk-between : (sts others : List Statement) (p q : Stage) → walk (sts ++ others) p ≡ Ok q → (r : Stage) × (walk others r ≡ Ok q)
walk-between [] others p q is = (p, is)
walk-between (st ∷ sts) others p q is = by (λ next. walk-between sts others next q) (after p st) is
  where
    by : ((next : Stage) → walk (sts ++ others) next ≡ Ok q → (r : Stage) × (walk others r ≡ Ok q)) → (found : Result Stage GrammarFault)
        → then_walk (walk (sts ++ others)) found ≡ Ok q → (r : Stage) × (walk others r ≡ Ok q)
    by deeper (Ok next) rest = deeper next rest
    by deeper (Err fault) rest = absurd cc

pub data-stage : (given : List Statement) (q : Stage) → IsInData given → walk given stage.Start ≡ Ok q → is_in_data q ≡ true
data-stage given q is leads =
    let (r, rest) = walk-between is.before (section (data_start is.heading) ∷ is.instances) stage.Start q
    (subst (λ (sts : List Statement). walk sts stage.Start ≡ Ok q) is.given_are leads) in
    by r (after r (section (data_start is.heading))) refl rest
  where
    by : (r : Stage) (found : Result Stage GrammarFault) → after r (section (data_start is.heading)) ≡ found
        → then_walk (walk is.instances) found ≡ Ok q → is_in_data q ≡ true
    by r (Ok next) first rest = data-stays_all is.instances next q (data-on r next is.heading first) is.no_end rest
    by r (Err fault) first rest = absurd cc

pub tells-data : StandsInData → (held : Held) (found : Bool) → found ≡ is_in_data held.reader.parser.stage → TellsData held found
tells-data stands held found found_is s limits known point stood =
    let began = stood.logs.began in
    let same = stage-is s limits known point held stood in (
      λ yes. stands began.earlier _ began.was_live (ap is_in_data same ∙ (sym found_is ∙ yes)),
      λ open_. found_is ∙ (ap is_in_data (sym same) ∙ data-stage point.read.given began.earlier.parser.stage open_
          (reader-leads began.earlier _ began.was_live)),
    )
