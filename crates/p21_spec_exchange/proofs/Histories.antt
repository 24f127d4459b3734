-- Calls added to a history: none at all, the first, and one after another; and how a lexer takes `1.E2)` in two pieces.
use Rattle.std.proofs.Common.{◌≡◌, ℕ, pos, List, [], ◌∷◌, ◌++◌, Option, Some, None, refl, append_assoc}
use Rattle.std.proofs.lemmas.List.{append-nil}
use Rattle.std.specs.Prelude.{codes}
use Rattle.p21_spec_basics.specs.History.{History, empty, seen_behind, first_refusal, extended, looked_at, IsOfferedFirst}
use Rattle.p21_spec_exchange.specs.Number.{Decimal}
use Rattle.p21_spec_exchange.specs.Token.{Token, real, right}

seen_empty : {Input : Type 0} → (taken : List Input) (looked : Option Input) → seen_behind None taken looked ≡ looked
seen_empty [] None = refl
seen_empty [] (Some input) = refl
seen_empty (first ∷ rest) looked = refl

seen_twice : {Input : Type 0} → (before : Option Input) (taken taken_ : List Input) (looked looked_ : Option Input)
    → seen_behind (seen_behind before taken looked) taken_ looked_ ≡ seen_behind before (taken ++ taken_) (seen_behind looked taken_ looked_)
seen_twice before [] [] None None = refl
seen_twice before [] [] None (Some input) = refl
seen_twice before [] [] (Some input) None = refl
seen_twice before [] [] (Some input) (Some input_) = refl
seen_twice before [] (first ∷ rest) looked looked_ = refl
seen_twice before (first ∷ rest) taken_ looked looked_ = refl

first_of_none : {Fault : Type 0} → (refusal : Option Fault) → first_refusal refusal None ≡ refusal
first_of_none None = refl
first_of_none (Some fault) = refl

first_twice : {Fault : Type 0} → (one two three : Option Fault) → first_refusal (first_refusal one two) three ≡ first_refusal one (first_refusal two three)
first_twice None two three = refl
first_twice (Some fault) two three = refl

-- the empty history adds nothing, at either side
pub empty-extended : {Input Output Fault : Type 0} → (call : History Input Output Fault) → extended empty call ≡ call
empty-extended call = rw (seen_empty call.taken call.seen) refl

pub extended-empty : {Input Output Fault : Type 0} → (history : History Input Output Fault) → extended history empty ≡ history
extended-empty history = rw (append-nil history.taken, append-nil history.given, first_of_none history.refusal) refl

-- two calls are added in turn or as one
pub extended_twice : {Input Output Fault : Type 0} → (first second third : History Input Output Fault) → extended (extended first second) third ≡ extended first (extended second third)
extended_twice first second third =
    rw (append_assoc first.taken second.taken third.taken, append_assoc first.given second.given third.given, first_twice first.refusal second.refusal third.refusal, seen_twice first.seen second.taken third.taken second.seen third.seen)
    refl

-- A lexer takes `1.E` and gives nothing; offered `2)`, it takes the `2`, looks at the `)` and gives a real; then it takes the `)`
abbrev hundred : Decimal
hundred = record { significand = pos 1; exponent = pos 2 }

abbrev call : List ℕ → Option ℕ → List Token → History ℕ Token ℕ
call taken seen given = record { taken = taken; seen = seen; given = given; refusal = None }

abbrev two_calls : History ℕ Token ℕ
two_calls = extended (extended empty (call (codes "1.E") None [])) (call (codes "2") (Some 41) (real hundred ∷ []))

two_calls-are : two_calls ≡ call (codes "1.E2") (Some 41) (real hundred ∷ [])
two_calls-are = refl

looked : looked_at two_calls ≡ codes "1.E2)"
looked = refl

offered : IsOfferedFirst two_calls.seen (codes ")")
offered = refl

three_calls : extended two_calls (call (codes ")") None (right ∷ [])) ≡ call (codes "1.E2)") None (real hundred ∷ right ∷ [])
three_calls = refl
