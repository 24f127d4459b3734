-- Things of one kind, one behind the other: plain functions between the code and the definitions, which nobody has to believe.
use Rattle.std.specs.Prelude.{◌≡◌, ℕ, zero, suc, List, [], ◌∷◌, ◌++◌, length, Option, Some, None, Result, Ok, Err}
use Rattle.p21_express_lexemes.specs.Taking.{Items, RefusalShows}
use Rattle.p21_express_lexemes.specs.declared.fault.SyntaxFault.{SyntaxFault}

-- one of them, that what begins there is wrong, or none
abbrev pub Step : Type 0 → Type 0
Step A = Items → Option (Option (A × Items))

abbrev pub with_items : {A : Type 0} → List A → Option (List A × Items) → Option (List A × Items)
with_items xs None = None
with_items xs (Some found) = Some (xs ++ found.0, found.1)

abbrev pub many_from_step : {A : Type 0} → Option (Option (A × Items)) → Items → (Items → Option (List A × Items)) → Option (List A × Items)
many_from_step None items go = Some ([], items)
many_from_step (Some None) items go = None
many_from_step (Some (Some found)) items go = with_items (found.0 ∷ []) (go found.1)

-- at most so many
unfoldable pub many_within : {A : Type 0} → Step A → ℕ → Items → Option (List A × Items)
many_within step zero items = Some ([], items)
many_within step (suc count) items = many_from_step (step items) items (λ rest. many_within step count rest)

-- all of them: each takes a lexeme at least
unfoldable pub many_of : {A : Type 0} → Step A → Items → Option (List A × Items)
many_of step items = many_within step (suc (length items)) items

-- whether one was read, none stands first, or what stands there is wrong
abbrev pub StepRead : {A B : Type 0} → (A → B) → Result (Option A) SyntaxFault → Option (Option (B × Items)) → Items → Items → Type 0
StepRead view (Ok None) read old new = (read ≡ None) × (new ≡ old)
StepRead view (Ok (Some x)) read old new = read ≡ Some (Some (view x, new))
StepRead view (Err fault) read old new = RefusalShows fault (read ≡ Some None)
