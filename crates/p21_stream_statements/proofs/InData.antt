-- A reader that stands in a data section.
use Rattle.std.proofs.Common.{◌≡◌, ◌≢◌, ◌⊎◌, Bool, true, false, List, [], ◌∷◌, None, Result, Ok, Err, inl, inr, refl, sym, ap, subst, ◌∙◌}
use Rattle.std.specs.Prelude.{Contains}
use Rattle.p21_grammar.specs.Held as grammar_held
use Rattle.p21_grammar.specs.Histories as grammar
use Rattle.p21_grammar.specs.Histories.{GrammarHistory}
use Rattle.p21_grammar.specs.Stage.{after, is_in_data, shaped, then_walk, walk}
use Rattle.p21_grammar.specs.declared.fault.GrammarFault.{GrammarFault}
use Rattle.p21_grammar.specs.declared.stage.Stage.{Stage}
use Rattle.p21_grammar.specs.declared.stage.Stage.TheVariants as stage
use Rattle.p21_spec_basics.proofs.Members.{Contains-cases, Contains-none}
use Rattle.p21_spec_exchange.specs.DataSection.{Heading}
use Rattle.p21_spec_exchange.specs.Statement.{Statement, begin, data_start, finish, header, header_start, instance, section, section_end}
use Rattle.p21_spec_survey.specs.Survey.{IsInData}
use Rattle.p21_stream_statements.specs.Laws.{StandsInData}

-- ---- one statement

-- in front of a statement that leaves it in a data section it stood in one, which the statement doesn't end; or the statement begins one
abbrev Leads : Stage → Statement → Type 0
Leads p s = ((is_in_data p ≡ true) × (s ≢ section section_end)) ⊎ ((heading : Heading) × (s ≡ section (data_start heading)))

same-shaped : (b : Bool) (p q : Stage) → shaped b p ≡ Ok q → is_in_data q ≡ true → is_in_data p ≡ true
same-shaped true p q same here = let is : p ≡ q = cc in ap is_in_data is ∙ here
same-shaped false p q same here = absurd cc

header-leads : (p q : Stage) (s : Statement) (b : Bool) (next : Stage) → shaped b next ≡ Ok q → is_in_data next ≡ false
    → is_in_data q ≡ true → Leads p s
header-leads p q s b next same other here = let clash : false ≡ true = sym other ∙ same-shaped b next q same here in absurd cc

line-leads : (p q : Stage) (s : Statement) (next : Stage) → (let found : Result Stage GrammarFault = Ok next in found) ≡ Ok q
    → is_in_data next ≡ false → is_in_data q ≡ true → Leads p s
line-leads p q s next same other here = let is : next ≡ q = cc in let clash : false ≡ true = sym other
    ∙ (ap is_in_data is ∙ here) in absurd cc

leads : (p q : Stage) (s : Statement) → after p s ≡ Ok q → is_in_data q ≡ true → Leads p s
leads p q (section (data_start heading)) is here = inr (heading, refl)
leads stage.Start q (section begin) is here = line-leads stage.Start q (section begin) stage.Begun is refl here
leads _ q (section begin) is here = absurd cc
leads stage.Begun q (section header_start) is here = line-leads stage.Begun q (section header_start) stage.Description is refl here
leads _ q (section header_start) is here = absurd cc
leads stage.Further q (section section_end) is here = line-leads stage.Further q (section section_end) stage.Headed is refl here
leads stage.Unnamed q (section section_end) is here = line-leads stage.Unnamed q (section section_end) stage.BehindUnnamed is refl here
leads stage.Named q (section section_end) is here = line-leads stage.Named q (section section_end) stage.BehindNamed is refl here
leads _ q (section section_end) is here = absurd cc
leads stage.BehindUnnamed q (section finish) is here = line-leads stage.BehindUnnamed q (section finish) stage.Ended is refl here
leads stage.BehindNamed q (section finish) is here = line-leads stage.BehindNamed q (section finish) stage.Ended is refl here
leads _ q (section finish) is here = absurd cc
leads stage.Description q (header part) is here = header-leads stage.Description q (header part) _ stage.FileName is refl here
leads stage.FileName q (header part) is here = header-leads stage.FileName q (header part) _ stage.FileSchema is refl here
leads stage.FileSchema q (header part) is here = header-leads stage.FileSchema q (header part) _ stage.Further is refl here
leads stage.Further q (header part) is here = header-leads stage.Further q (header part) _ stage.Further is refl here
leads _ q (header part) is here = absurd cc
leads stage.Unnamed q (instance n r) is here = inl (refl, λ same. cc)
leads stage.Named q (instance n r) is here = inl (refl, λ same. cc)
leads _ q (instance n r) is here = absurd cc

-- ---- statements one after the other

-- it stood in one before them and none of them ends it, or the last section that they begin is open
abbrev LeadsAll : Stage → List Statement → Type 0
LeadsAll p ss = ((is_in_data p ≡ true) × ¬ Contains ss (section section_end)) ⊎ IsInData ss

further : (s : Statement) (ss : List Statement) → IsInData ss → IsInData (s ∷ ss)
further s ss is = record {
  before = s ∷ is.before;
  heading = is.heading;
  instances = is.instances;
  given_are =
      ap (λ (l : List Statement). s ∷ l) is.given_are;
  no_end = is.no_end;
}

leads-more : (p q : Stage) (s : Statement) (ss : List Statement) → after p s ≡ Ok q → LeadsAll q ss → LeadsAll p (s ∷ ss)
leads-more p q s ss is (inr open_) = inr (further s ss open_)
leads-more p q s ss is (inl (here, none)) = elim (leads p q s is here) [
  | inl (before, other) ↦ inl (
    before,
    λ has. elim (Contains-cases s ss (section section_end) has)
        [ inl same ↦ other same | inr later ↦ none later ],
  )
  | inr (heading, same) ↦ inr (record {
    before = [];
    heading = heading;
    instances = ss;
    given_are =
        ap (λ (x : Statement). x ∷ ss) same;
    no_end = none;
  })
]

leads-all : (ss : List Statement) (p q : Stage) → walk ss p ≡ Ok q → is_in_data q ≡ true → LeadsAll p ss
leads-all [] p q is here = let same : p ≡ q = cc in inl (ap is_in_data same ∙ here, λ has. Contains-none (section section_end) has)
leads-all (s ∷ ss) p q is here = by (leads-all ss) (after p s) refl is
  where
    by : ((next last : Stage) → walk ss next ≡ Ok last → is_in_data last ≡ true → LeadsAll next ss) → (found : Result Stage GrammarFault)
        → after p s ≡ found → then_walk (walk ss) found ≡ Ok q → LeadsAll p (s ∷ ss)
    by deeper (Ok next) first rest = leads-more p next s ss first (deeper next q rest here)
    by deeper (Err fault) first rest = absurd cc

-- ---- a reader

parser-leads : (held : grammar_held.Held) (parsing : GrammarHistory) → grammar.Stands held parsing → parsing.refusal ≡ None
    → walk parsing.given stage.Start ≡ Ok held.stage
unfolding grammar.Stands
parser-leads held parsing stands alive = (stands.2 alive).leads

-- in the statements given a data section is open
pub in-data : StandsInData
in-data held reading live here = elim (leads-all live.parsing.given stage.Start held.parser.stage
    (parser-leads held.parser live.parsing live.parser live.parser_open) here) [
      | inl (start, none) ↦ absurd cc
      | inr open_ ↦ subst IsInData live.given_are open_
    ]
