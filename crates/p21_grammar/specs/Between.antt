-- Whole instances that a parser passes over: they were read elsewhere, and are as good as taken by it (ISO 10303-21, formal
-- definition of the exchange structure; data sections).
use Rattle.std.specs.Prelude.{◌≡◌, ℕ, true, List, [], map, None}
use Rattle.std.specs.List.{flat_map, AllByRecursion as Each}
use Rattle.p21_spec_basics.specs.History.{extended}
use Rattle.p21_spec_exchange.specs.Grammar.{IsDataRecord}
use Rattle.p21_spec_exchange.specs.Record.{Record}
use Rattle.p21_spec_exchange.specs.Statement.{Statement, instance, statement_tokens}
use Rattle.p21_grammar.specs.Held.{Held}
use Rattle.p21_grammar.specs.Histories.{GrammarHistory, BeginsFile, Stands, Answers}
use Rattle.p21_grammar.specs.Stage.{is_in_data}

-- in a data section, with no statement open
pub record IsBetweenInstances (held : Held) : Type 0 where
  pub refused : held.refused ≡ None
  pub in_data : is_in_data held.stage ≡ true
  pub pending : held.pending ≡ []

-- instances, each by its name and its record, as statements
abbrev pub instances_of : List (ℕ × Record) → List Statement
instances_of instances = map (λ i. instance i.0 i.1) instances

-- calls that took the tokens of instances, and gave these
abbrev pub instances_call : List (ℕ × Record) → GrammarHistory
instances_call instances = record { taken = flat_map statement_tokens (instances_of instances); seen = None; given = instances_of instances; refusal = None }

-- what holds behind calls of which the last gave a statement
pub record AnswersPassed (held : Held) (history : GrammarHistory) : Type 0 where
  pub answers : Answers held None history
  pub of_file : BeginsFile history.taken history.given

-- the parser stands, as it is, for each of its histories with instances of a data section more
abbrev pub StandsForMore : Held → Type 0
StandsForMore held =
    (history : GrammarHistory) (instances : List (ℕ × Record)) → Stands held history → Each (λ i. IsDataRecord i.1) instances → AnswersPassed held (extended history (instances_call instances))
