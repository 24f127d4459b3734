-- What is known of the files that begin with some bytes: tokens with which each laying begins, and statements with which
-- each tree begins.
use Rattle.std.specs.Prelude.{◌≡◌, ℕ, List, [], ◌∷◌, ◌++◌, map}
use Rattle.std.specs.List.{AllByRecursion as Each}
use Rattle.p21_spec_basics.specs.Digits.{IsByte}
use Rattle.p21_spec_exchange.specs.DataSection.{Heading, section_names}
use Rattle.p21_spec_exchange.specs.Grammar.{InGrammar, IsFile}
use Rattle.p21_spec_exchange.specs.Laying.{Laid}
use Rattle.p21_spec_exchange.specs.Record.{Record}
use Rattle.p21_spec_exchange.specs.Statement.{Statement, section, instance, data_start}
use Rattle.p21_spec_exchange.specs.Structure.{Structure, statements, tokens_of}
use Rattle.p21_spec_exchange.specs.Token.{Token}

-- the list begins with these
abbrev pub BeginsWith : {X : Type 0} → List X → List X → Type 0
BeginsWith {X} front whole = (rest : List X) × (whole ≡ front ++ rest)

-- the tokens laid in any bytes that begin so begin with these
abbrev pub AreTokensTaken : List ℕ → List Token → Type 0
AreTokensTaken bytes given = (more : List ℕ) → Each IsByte more → (tokens : List Token) → Laid (bytes ++ more) tokens → BeginsWith given tokens

-- a tree whose tokens begin with these begins with these statements
abbrev pub AreStatementsEnded : List Token → List Statement → Type 0
AreStatementsEnded given taken = (structure : Structure) (text : List ℕ) → IsFile structure text → BeginsWith given (tokens_of structure) → BeginsWith taken (statements structure)

-- each tree of bytes that begin so begins with these statements
abbrev pub AreStatementsTaken : List ℕ → List Statement → Type 0
AreStatementsTaken bytes taken = (more : List ℕ) → Each IsByte more → (structure : Structure) (text : List ℕ) → InGrammar (bytes ++ more) structure text → BeginsWith taken (statements structure)

-- the instances among statements, and their names
abbrev pub instances_among : List Statement → List (ℕ × Record)
instances_among [] = []
instances_among (instance n record_ ∷ rest) = (n, record_) ∷ instances_among rest
instances_among (other ∷ rest) = instances_among rest

abbrev pub names_among : List Statement → List ℕ
names_among taken = map (λ i. i.0) (instances_among taken)

-- how the data sections among statements begin, and the names of those that have one
abbrev pub headings_among : List Statement → List Heading
headings_among [] = []
headings_among (section (data_start heading) ∷ rest) = heading ∷ headings_among rest
headings_among (other ∷ rest) = headings_among rest

abbrev pub section_names_among : List Statement → List (List ℕ)
section_names_among taken = section_names (headings_among taken)
