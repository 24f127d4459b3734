-- Runs that are read over: a plain function between the code and the definitions, which nobody has to believe.
use Rattle.std.specs.Prelude.{◌≡◌, ℕ, zero, suc, Bool, true, false, List, [], ◌∷◌, ◌++◌, Option, Some, None, Result, Ok, Err, if◌then◌else◌}
use Rattle.p21_spec_schema.specs.Express.{Lexeme}
use Rattle.p21_spec_schema.specs.Run.{IsRun, is_word, is_symbol, none}
use Rattle.p21_express_lexemes.specs.Meaning.{Means}
use Rattle.p21_express_lexemes.specs.Taking.{Items, put, RefusalShows}
use Rattle.p21_express_lexemes.specs.declared.fault.SyntaxFault.{SyntaxFault}
use Rattle.p21_express_lexemes.specs.declared.lexeme.Lexeme.{Lexeme as CodeLexeme}
use Rattle.p21_express_lexemes.specs.declared.runs.Mark.{Mark}
use Rattle.p21_express_lexemes.specs.declared.runs.Mark.TheVariants.{Word, Symbol, Nothing}

-- the lexemes that a mark stands for
abbrev pub marks : Mark → Lexeme → Bool
marks (Word name) = is_word name.now
marks (Symbol byte) = is_symbol byte
marks Nothing = none

-- no lexeme opens and closes
abbrev pub AreApart : (Lexeme → Bool) → (Lexeme → Bool) → Type 0
AreApart opens closes = (lexeme : Lexeme) → closes lexeme ≡ true → opens lexeme ≡ false

-- the first lexeme, if there is one, passes
abbrev pub first_is : (Lexeme → Bool) → Items → Bool
first_is test [] = false
first_is test (None ∷ more) = false
first_is test (Some lexeme ∷ more) = test lexeme

-- whether the first lexeme was taken
abbrev pub HasAdvanced : Bool → Items → Items → Type 0
HasAdvanced true old new = (lexeme : Lexeme) × (old ≡ Some lexeme ∷ new)
HasAdvanced false old new = (new ≡ old) × ((lexeme : Lexeme) (more : Items) → old ≡ Some lexeme ∷ more → ⊥)

abbrev pub with_first : List Lexeme → Option (List Lexeme × Items) → Option (List Lexeme × Items)
with_first lexemes None = None
with_first lexemes (Some found) = Some (lexemes ++ found.0, found.1)

-- the lexemes up to the one that closes what so many open ones opened
unfoldable pub run_of : (Lexeme → Bool) → (Lexeme → Bool) → ℕ → Items → Option (List Lexeme × Items)
run_of opens closes zero items = Some ([], items)
run_of opens closes (suc depth) [] = None
run_of opens closes (suc depth) (None ∷ items) = None
run_of opens closes (suc depth) (Some lexeme ∷ items) =
    with_first (lexeme ∷ []) (if closes lexeme then run_of opens closes depth items else if opens lexeme then run_of opens closes (suc (suc depth)) items else run_of opens closes (suc depth) items)

abbrev pub RunRead : Bool → Option (List Lexeme × Items) → Items → Type 0
RunRead true read new = (taken : List Lexeme) × (read ≡ Some (taken, new))
RunRead false read new = read ≡ None

-- a run and the lexeme that closes it stand first
pub record HasRun (opens closes : Lexeme → Bool) (old new : Items) : Type 0 where
  pub run : List Lexeme
  pub last : Lexeme
  pub is_run : IsRun opens closes run
  pub closed : closes last ≡ true
  pub lexemes : old ≡ put run (Some last ∷ new)

-- what is left behind a run and the lexeme that closes it
abbrev pub left_of : Option (List Lexeme × Items) → Option Items
left_of None = None
left_of (Some found) = Some found.1

unfoldable pub behind_run : (Lexeme → Bool) → (Lexeme → Bool) → Items → Option Items
behind_run opens closes items = left_of (run_of opens closes 1 items)

-- a run and what closes it was read, and no other can be; a refusal, where none stands first
abbrev pub ReadsRun : Result (Unit {0}) SyntaxFault → (Lexeme → Bool) → (Lexeme → Bool) → Items → Items → Type 0
ReadsRun (Ok u) opens closes old new = HasRun opens closes old new × ((other : Items) → HasRun opens closes old other → other ≡ new)
ReadsRun (Err fault) opens closes old new = RefusalShows fault ((other : Items) → HasRun opens closes old other → ⊥)

-- whether the first lexeme passes, and is taken
abbrev pub WasTaken : Bool → (Lexeme → Bool) → Items → Items → Type 0
WasTaken true test old new = (lexeme : Lexeme) × (old ≡ Some lexeme ∷ new) × (test lexeme ≡ true)
WasTaken false test old new = (new ≡ old) × (first_is test old ≡ false)

-- what a lexeme of the reader is tested for
abbrev pub IsMarked : Bool → CodeLexeme → (Lexeme → Bool) → Type 0
IsMarked answer lexeme test = (meant : Lexeme) → Means lexeme meant → answer ≡ test meant
