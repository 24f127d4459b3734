-- What a step of resolving answers: what it looks for, or that there is none of it.
use Rattle.std.specs.Prelude.{◌≡◌, ◌≢◌, ℕ, List, ◌++◌, map, Result, Ok, Err, Vec}
use Rattle.std.specs.List.{AllZip, IsDistinct}
use Rattle.std.specs.Str.{bytes_eq}
use Rattle.p21_express_outline.specs.declared.fault.SchemaFault.{SchemaFault}
use Rattle.p21_express_outline.specs.declared.fault.SchemaFault.TheVariants.{NoMemory}

-- want of memory owes nothing
abbrev pub RefusalShows : SchemaFault → Type 0 → Type 0
RefusalShows fault claim = fault ≢ NoMemory → claim

-- the claim holds, or it doesn't
abbrev pub DecidesClaim : Type 0 → Result (Unit {0}) SchemaFault → Type 0
DecidesClaim claim (Ok u) = claim
DecidesClaim claim (Err fault) = RefusalShows fault (claim → ⊥)

-- one was found, or there is none
abbrev pub Finds : {A B : Type 0} → (A → B) → (B → Type 0) → Result A SchemaFault → Type 0
Finds view Is (Ok x) = Is (view x)
Finds {A} {B} view Is (Err fault) = RefusalShows fault ((y : B) → Is y → ⊥)

-- one was found for each, or there is a list of none
abbrev pub FindsEach : {A B X Z : Type 0} → (A → B) → (X → B → Type 0) → List X → Result (Vec A Z) SchemaFault → Type 0
FindsEach view Is xs (Ok found) = AllZip Is xs (map view found.items)
FindsEach {A} {B} view Is xs (Err fault) = RefusalShows fault ((ys : List B) → AllZip Is xs ys → ⊥)

-- the same, behind those that are there
abbrev pub AddsEach : {A B X Z : Type 0} → (A → B) → (X → B → Type 0) → List X → Result (Unit {0}) SchemaFault → Vec A Z → Vec A Z → Type 0
AddsEach {A} {B} view Is xs (Ok u) old new = (ys : List B) × (map view new.items ≡ map view old.items ++ ys) × AllZip Is xs ys
AddsEach {A} {B} view Is xs (Err fault) old new = RefusalShows fault ((ys : List B) → AllZip Is xs ys → ⊥)

-- the names, which are listed once each, or one of them is listed twice
abbrev pub KeepsNames : List (List ℕ) → Result (List (List ℕ)) SchemaFault → Type 0
KeepsNames listed (Ok names) = (names ≡ listed) × IsDistinct bytes_eq listed
KeepsNames listed (Err fault) = RefusalShows fault (IsDistinct bytes_eq listed → ⊥)
