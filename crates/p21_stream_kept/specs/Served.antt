-- The needs of instances, by what is stored: those that are served, those that wait, and the first that none serves.
use Rattle.std.specs.Prelude.{◌≡◌, ◌⊎◌, ℕ, List, [], ◌∷◌, ◌++◌, map, Option, Some, None, Contains}
use Rattle.std.specs.List.{AllByRecursion as Each}
use Rattle.p21_spec_laws.specs.Keeping.{IsServedBy, IsServedByNone}
use Rattle.p21_spec_laws.specs.Stored.{StoredEntry}
use Rattle.p21_spec_laws.specs.Waiting.{Reference}
use Rattle.p21_spec_file.specs.Reference.{Need, Serves}
use Rattle.p21_spec_schema.specs.Schema.{Schema}
use Rattle.p21_stream_statements.specs.declared.fault.Fault.{Fault}
use Rattle.p21_stream_statements.specs.declared.fault.Fault.TheVariants.{Dangling, WrongTarget}

-- no instance has the name, or the one that has it doesn't serve
abbrev pub RefusesNeed : Schema → List StoredEntry → Need → Fault → Type 0
RefusesNeed s stored need Dangling = ¬ Contains (map (λ (x : StoredEntry). x.name) stored) need.target
RefusesNeed s stored need WrongTarget = (x : StoredEntry) × Contains stored x × (x.name ≡ need.target) × ¬ Serves s need.wanted x.entities
RefusesNeed s stored need other = ⊥

-- a need is served, or it is refused
abbrev pub AnswersNeed : Schema → List StoredEntry → Need → Option Fault → Type 0
AnswersNeed s stored need None = IsServedBy s stored need
AnswersNeed s stored need (Some fault) = RefusesNeed s stored need fault

-- Of these, each with its need, the ones are left that none serves, in their order; an instance serves each of the others
abbrev pub LeavesUnserved : {X : Type 0} → Schema → List StoredEntry → (X → Need) → List X → List X → Type 0
LeavesUnserved s stored need [] left = left ≡ []
LeavesUnserved {X} s stored need (x ∷ xs) left =
    (IsServedBy s stored (need x) × LeavesUnserved s stored need xs left)
    ⊎ (IsServedByNone s stored (need x) × ((rest : List X) × (left ≡ x ∷ rest) × LeavesUnserved s stored need xs rest))

-- the references that none serves are left, in their order
abbrev pub DropsServed : Schema → List StoredEntry → List Reference → List Reference → Type 0
DropsServed s stored old left = LeavesUnserved s stored (λ (r : Reference). r.1) old left

-- the same of the references behind some that stay as they are
pub record DropsBehind (s : Schema) (stored : List StoredEntry) (front old new : List Reference) : Type 0 where
  pub left : List Reference
  pub drops : DropsServed s stored old left
  pub new_is : new ≡ front ++ left

-- the references with all that an instance adds behind them: its needs, in their order
abbrev pub with_needs : ℕ → List Need → List Reference → List Reference
with_needs holder needs old = old ++ map (λ (need : Need). (holder, need)) needs

-- a need of this instance is refused, and those in front of it are served
pub record IsFirstUnserved (s : Schema) (stored : List StoredEntry) (waiting : List Reference) (holder : ℕ) (fault : Fault) : Type 0 where
  pub before : List Reference
  pub need : Need
  pub behind : List Reference
  pub waiting_are : waiting ≡ before ++ (holder, need) ∷ behind
  pub before_served : Each (λ (r : Reference). IsServedBy s stored r.1) before
  pub refused : RefusesNeed s stored need fault

-- the first reference that none serves; where there is no such, all are served
abbrev pub AnswersUnserved : Schema → List StoredEntry → List Reference → Option (ℕ × Fault) → Type 0
AnswersUnserved s stored waiting None = Each (λ (r : Reference). IsServedBy s stored r.1) waiting
AnswersUnserved s stored waiting (Some (holder, fault)) = IsFirstUnserved s stored waiting holder fault
