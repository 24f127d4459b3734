-- What a parser has taken and answered, and what each call adds to it (ISO 10303-21, formal definition of the exchange
-- structure).
use Rattle.std.specs.Prelude.{◌≡◌, ℕ, List, [], ◌∷◌, ◌++◌, Option, Some, None, Result, Ok, Err}
use Rattle.std.specs.List.{flat_map, AllByRecursion as Each}
use Rattle.p21_spec_basics.specs.History.{History, extended}
use Rattle.p21_spec_exchange.specs.DataSection.{data_part}
use Rattle.p21_spec_exchange.specs.Grammar.{IsFile}
use Rattle.p21_spec_exchange.specs.OpenNesting.{IsDepth}
use Rattle.p21_spec_exchange.specs.Statement.{Statement, statement_tokens}
use Rattle.p21_spec_exchange.specs.Structure.{Structure, statements, tokens_of, AreFirstStatements}
use Rattle.p21_spec_exchange.specs.Token.{Token, left}
use Rattle.p21_grammar.specs.Held.{Held}
use Rattle.p21_grammar.specs.Sound.{IsSound}
use Rattle.p21_grammar.specs.Stage.{walk}
use Rattle.p21_grammar.specs.Statements.{statements_of}
use Rattle.p21_grammar.specs.declared.event.Event.{Event}
use Rattle.p21_grammar.specs.declared.event.Event.TheVariants.{Named}
use Rattle.p21_grammar.specs.declared.fault.GrammarFault.{GrammarFault}
use Rattle.p21_grammar.specs.declared.fault.GrammarFault.TheVariants.{AfterEnd, EndsEarly, NoMemory, TooDeep}
use Rattle.p21_grammar.specs.declared.stage.Stage.TheVariants.{Start}
use Rattle.p21_grammar_tree.specs.View.{part_view}

-- the tokens taken, the one behind them if it was looked at and refused, the statements given, and the refusal
abbrev pub GrammarHistory : Type 0
GrammarHistory = History Token Statement GrammarFault

-- ---- what a call adds

-- a call that took a token, and gave a statement or none
abbrev pub call_of : Token → Option Event → GrammarHistory
call_of token event = record { taken = token ∷ []; seen = None; given = statements_of event; refusal = None }

-- a call that refused a token, which it did not take
abbrev pub refused_call : Token → GrammarFault → GrammarHistory
refused_call token fault = record { taken = []; seen = Some token; given = []; refusal = Some fault }

-- ---- what holds of tokens and statements

-- the tokens of the tree begin with these
abbrev pub BeginsWithTokens : List Token → Structure → Type 0
BeginsWithTokens tokens structure = (rest : List Token) × (tokens_of structure ≡ tokens ++ rest)

-- each tree of a file whose tokens begin so begins with these statements
abbrev pub AreGivenFirst : List Token → List Statement → Type 0
AreGivenFirst taken given = (structure : Structure) (text : List ℕ) → IsFile structure text → BeginsWithTokens taken structure → AreFirstStatements given structure

-- there is a tree of a file whose tokens begin so, and whose first statements are these
pub record BeginsFile (taken : List Token) (given : List Statement) : Type 0 where
  pub structure : Structure
  pub text : List ℕ
  pub is_file : IsFile structure text
  pub tokens_begin : BeginsWithTokens taken structure
  pub are_first : AreFirstStatements given structure

-- there is a tree of a file with these tokens, and these are its statements
pub record IsWholeFile (taken : List Token) (given : List Statement) : Type 0 where
  pub structure : Structure
  pub text : List ℕ
  pub is_file : IsFile structure text
  pub tokens_are : tokens_of structure ≡ taken
  pub statements_are : statements structure ≡ given

-- no tree of a file has tokens that begin so; no tree of a file has these tokens
abbrev pub BeginNoFile : List Token → Type 0
BeginNoFile tokens = (structure : Structure) (text : List ℕ) → IsFile structure text → BeginsWithTokens tokens structure → ⊥

abbrev pub AreNoFile : List Token → Type 0
AreNoFile tokens = (structure : Structure) (text : List ℕ) → IsFile structure text → tokens_of structure ≡ tokens → ⊥

-- ---- the relation

-- the tokens taken are those of the statements given and those that are held; the statements given lead to the stage
pub record IsLive (held : Held) (history : GrammarHistory) : Type 0 where
  pub taken_are : history.taken ≡ flat_map statement_tokens history.given ++ held.pending
  pub leads : walk history.given Start ≡ Ok held.stage
  pub sound : Each IsSound history.given

-- what is held stands for a history: what it says is what `new`, `take` and `finish` say of it
unfoldable pub Stands : Held → GrammarHistory → Type 0
Stands held history = (held.refused ≡ history.refusal) × IsDepth history.taken held.depth × (history.refusal ≡ None → IsLive held history)

-- ---- the calls

-- where a statement was given, there is such a file
abbrev pub GivesOfFile : Option Event → GrammarHistory → Type 0
GivesOfFile None history = Unit {0}
GivesOfFile (Some event) history = BeginsFile history.taken history.given

-- what is given of a data section with a name has the form of one
abbrev pub HasHeadingForm : Option Event → Type 0
HasHeadingForm (Some (Named part)) = (name schema : List ℕ) × (part_view part ≡ data_part name schema)
HasHeadingForm other = Unit {0}

-- what holds behind a call that answered
pub record Answers (held : Held) (event : Option Event) (history : GrammarHistory) : Type 0 where
  pub stands : Stands held history
  pub given_first : AreGivenFirst history.taken history.given
  pub of_file : GivesOfFile event history
  pub depth_is : IsDepth history.taken held.depth
  -- the tokens that ended statements are those of the statements given
  pub ended_are : depth_is.open_statement.ended ≡ flat_map statement_tokens history.given

-- Why a call refuses a token: no file begins so. The 65th list or typed parameter opens with it; or the tokens taken are
-- those of a file
abbrev pub Refuses : List Token → List Statement → Token → GrammarFault → Type 0
Refuses taken given token NoMemory = Unit {0}
Refuses taken given token EndsEarly = ⊥
Refuses taken given token TooDeep = BeginNoFile (taken ++ token ∷ []) × (token ≡ left) × IsDepth taken 64
Refuses taken given token AfterEnd = BeginNoFile (taken ++ token ∷ []) × IsWholeFile taken given
Refuses taken given token fault = BeginNoFile (taken ++ token ∷ [])

-- a call refuses a token, for that reason; the token is not taken
pub record RefusesToken (history : GrammarHistory) (token : Token) (fault : GrammarFault) (new : Held) : Type 0 where
  pub refuses : Refuses history.taken history.given token fault
  pub stands : Stands new (extended history (refused_call token fault))

-- what a call of `take` gives, for each history that the parser stood for
abbrev pub TakeGives : Held → Token → Result (Option Event) GrammarFault → Held → Type 0
TakeGives old token (Ok event) new = (history : GrammarHistory) → Stands old history → (history.refusal ≡ None) × Answers new event (extended history (call_of token event))
TakeGives old token (Err fault) new = (history : GrammarHistory) → Stands old history → history.refusal ≡ None → RefusesToken history token fault new

-- a parser that has refused answers the same again, and stays as it is
abbrev pub RefusesAgain : Held → Result (Option Event) GrammarFault → Held → Type 0
RefusesAgain old result new = (fault : GrammarFault) → old.refused ≡ Some fault → (result ≡ Err fault) × (new ≡ old)

-- each history that it stands for has the refusal that it holds
abbrev pub RefusalIsKnown : Held → Type 0
RefusalIsKnown held = (history : GrammarHistory) → Stands held history → history.refusal ≡ held.refused

-- what the end of the tokens gives, for each history that the parser stood for
abbrev pub FinishGives : Held → Result (Unit {0}) GrammarFault → Type 0
FinishGives held (Ok done) = (history : GrammarHistory) → Stands held history → (history.refusal ≡ None) × IsWholeFile history.taken history.given
FinishGives held (Err fault) = (history : GrammarHistory) → Stands held history → history.refusal ≡ None → (fault ≡ EndsEarly) × AreNoFile history.taken
