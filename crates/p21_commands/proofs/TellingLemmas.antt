-- What the text about refusals ends with.
use Rattle.std.proofs.Common.{◌≡◌, ◌++◌, Bool, true, false, List, refl, ℕ}
use Rattle.p21_commands.specs.CheckAll.{count_line, listed_count}
use Rattle.p21_commands.specs.Tells.{CountsLast}
use Rattle.p21_commands.specs.declared.telling.Form.{Form}
use Rattle.p21_commands.specs.declared.telling.Form.TheVariants.{Json, Text}
use Rattle.p21_stream.specs.declared.listing.Refusals.{Refusals}

-- the text counts the refusals last, if it does so for people where that is asked for
pub counts-last : (form : Form) (counted : Bool) (refusals : Refusals) (text : List ℕ)
    → (form ≡ Text → counted ≡ true
    → (front : List ℕ) × (text ≡ front ++ count_line (listed_count refusals.list.items) refusals.extent))
    → CountsLast form counted refusals text
counts-last Text true refusals text counts = counts refl refl
counts-last Text false refusals text counts = tt
counts-last Json counted refusals text counts = tt
