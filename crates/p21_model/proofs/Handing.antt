-- The parameters that are left, handed out one by one.
use Rattle.std.proofs.Common.{◌≡◌, ℕ, List, [], ◌∷◌, Some, None, refl, sym, subst, ◌∙◌, arith}
use Rattle.std.proofs.lemmas.Bool.{true≢false}
use Rattle.std.specs.Prelude.{Option, IsNone, MatchOption}
use Rattle.p21_express_graph.specs.Meaning.{place as place_of}
use Rattle.p21_scan.specs.Digits.{BeginsWithoutByte}
use Rattle.p21_spec_basics.proofs.Members.{tail_is}
use Rattle.p21_spec_exchange.specs.Parameter.{Param}
use Rattle.p21_spec_exchange.specs.Record.{Part, Record, complex, simple}
use Rattle.p21_spec_schema.specs.Order.{places}
use Rattle.p21_spec_schema.specs.Schema.{Place, Schema}
use Rattle.p21_model.proofs.RowsLeft.{IsNextRow, opened, part-first}
use Rattle.p21_model.specs.declared.attributes.Attribute.{Attribute}
use Rattle.p21_model.specs.declared.attributes.Attributes.{Attributes}
use Rattle.p21_model.specs.Left.{AreLeftParts, AreLeftRows, HandsOutRow, IsRecordText, NoKeywordFirst, TellsRows}
use Rattle.p21_model.specs.Rows.{ArePartRows, ArePartsRows, AreRowsOf, Row}
use Rattle.p21_model_values.specs.Written.{AreLeft, IsTextOf}

-- ---- behind a simple record

some-none : (found : Attributes) → IsNone (Some found) → ⊥
some-none found none = true≢false none

told-none : (result : Option Attributes) (rows : List Row) → IsNone result → rows ≡ []
    → MatchOption result (rows ≡ []) (λ found. TellsRows found rows)
told-none None rows none are = are
told-none (Some found) rows none are = absurd (some-none found none)

told-some : (result : Option Attributes) (rows : List Row) → MatchOption result ⊥ (λ found. TellsRows found rows)
    → MatchOption result (rows ≡ []) (λ found. TellsRows found rows)
told-some None rows tells = absurd tells
told-some (Some found) rows tells = tells

pub behind-told : (s : Schema) (after : List ℕ) (rows : List Row) (result : Option Attributes) (parts : List Part) (end : List ℕ)
    → AreLeftParts parts end after → ArePartsRows s parts rows → (NoKeywordFirst after → IsNone result)
    → ((part : Part) (parts : List Part) (end : List ℕ) (rows : List Row) → AreLeftParts (part ∷ parts) end after
    → ArePartsRows s (part ∷ parts) rows → MatchOption result ⊥ (λ found. TellsRows found rows))
    → MatchOption result (rows ≡ []) (λ found. TellsRows found rows)
behind-told s after rows result [] end left are none some =
    told-none result rows (none (subst NoKeywordFirst (sym left.bytes_are) left.ends)) are
behind-told s after rows result (part ∷ parts) end left are none some = told-some result rows (some part parts end rows left are)

-- ---- the form of a record

abbrev TellsParts : Schema → List ℕ → Option Attributes → Type 0
TellsParts s bytes result = (part : Part) (parts : List Part) (end : List ℕ) (rows : List Row) → AreLeftParts (part ∷ parts) end bytes
    → ArePartsRows s (part ∷ parts) rows → MatchOption result ⊥ (λ found. TellsRows found rows)

abbrev TellsWhole : Schema → List ℕ → Option Attributes → Type 0
TellsWhole s bytes result = (part : Part) (end : List ℕ) (rows : List Row) → AreLeftParts (part ∷ []) end bytes
    → ArePartRows s (places s) part rows → MatchOption result ⊥ (λ found. TellsRows found rows)

pub form-parts : (s : Schema) (record_ : Record) (bytes parts : List ℕ) (rows : List Row) (result : Option Attributes)
    → IsRecordText record_ bytes → AreRowsOf s record_ rows → bytes ≡ 40 ∷ parts → TellsParts s parts result
    → MatchOption result ⊥ (λ found. TellsRows found rows)
form-parts s (simple part) bytes parts rows result text are is tells =
    absurd (part-first s part [] (59 ∷ []) bytes parts are.entity (opened s part [] (59 ∷ []) bytes are.entity text are.named) is)
form-parts s (complex []) bytes parts rows result text are is tells = absurd (omega (arith, text.3))
form-parts s (complex (part ∷ more)) bytes parts rows result text are is tells =
    let same : text.0 ≡ parts = tail_is 40 40 text.0 parts (sym text.1 ∙ is) in
    tells part more (41 ∷ 59 ∷ []) rows (subst (AreLeftParts (part ∷ more) (41 ∷ 59 ∷ [])) same text.2) are

pub form-whole : (s : Schema) (record_ : Record) (bytes : List ℕ) (rows : List Row) (result : Option Attributes)
    → IsRecordText record_ bytes → AreRowsOf s record_ rows → BeginsWithoutByte 40 bytes → TellsWhole s bytes result
    → MatchOption result ⊥ (λ found. TellsRows found rows)
form-whole s (simple part) bytes rows result text are none tells = tells part (59 ∷ []) rows text are
form-whole s (complex parts) bytes rows result text are none tells = absurd (subst (BeginsWithoutByte 40) text.1 none refl)

-- ---- the next parameter

pub none-rows : (rows : List Row) (new : Attributes) → rows ≡ [] → HandsOutRow rows None new
none-rows [] new are = tt
none-rows (row ∷ rows) new are = cc

pub next-left : (s other : Schema) (found places : List Place) (bytes rest : List ℕ) (rows : List Row) (r : IsNextRow s found bytes rows)
    → other ≡ s → places ≡ r.places → AreLeft r.ps r.after rest → AreLeftRows other places rest r.others
next-left s other found places bytes rest rows r same places_are left =
    subst (λ (x : Schema). AreLeftRows x places rest r.others) (sym same)
    (subst (λ (xs : List Place). AreLeftRows s xs rest r.others) (sym places_are) (r.go_on rest left))

pub row-handed : (rows : List Row) (place : Place) (p : Param) (others : List Row) (found : Attribute) (new : Attributes)
    → rows ≡ (place, p) ∷ others → place_of found.place ≡ place → IsTextOf found.value.text.now p → TellsRows new others
    → HandsOutRow rows (Some found) new
row-handed rows place p others found new are place_is text tells =
    subst (λ (xs : List Row). HandsOutRow xs (Some found) new) (sym are) (place_is, text, tells)
