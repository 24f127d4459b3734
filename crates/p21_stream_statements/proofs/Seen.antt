-- What was looked at in a piece without being taken.
use Rattle.std.proofs.Common.{◌≡◌, ◌+◌, ◌≤◌, ◌⊎◌, ℕ, zero, suc, List, [], ◌∷◌, ◌++◌, length, take, Option, Some, None, inl, inr, refl, sym, ap, ◌∙◌, append_assoc, arith}
use Rattle.std.proofs.lemmas.List.{append-nil}
use Rattle.std.proofs.lemmas.Option.{slice_get_within}
use Rattle.std.specs.List.{slice_get}
use Rattle.p21_spec_basics.specs.History.{IsOfferedFirst, seen_behind}
use Rattle.p21_stream_statements.specs.StatementReader.{IsSeenAt}
use Rattle.p21_tokens.proofs.Extending.{take-one}

-- what was seen is offered first
pub offered : (seen : Option ℕ) (piece : List ℕ) → IsSeenAt seen piece 0 → IsOfferedFirst seen piece
offered None piece at = tt
offered (Some byte) [] at = tt
offered (Some byte) (first ∷ rest) at = cc

-- what is seen behind a call
pub seen-behind : (before : Option ℕ) (piece : List ℕ) (count : ℕ) (call : Option ℕ) → IsSeenAt before piece 0 → (call ≡ None)
    ⊎ (call ≡ slice_get piece count) → IsSeenAt (seen_behind before (take count piece) call) piece count
seen-behind before piece count (Some byte) at (inl is) = cc
seen-behind before [] zero (Some byte) at (inr is) = cc
seen-behind before [] (suc count) (Some byte) at (inr is) = cc
seen-behind before (x ∷ xs) zero (Some byte) at (inr is) = sym is
seen-behind before (x ∷ xs) (suc count) (Some byte) at (inr is) = sym is
seen-behind None [] zero None at is = tt
seen-behind None [] (suc count) None at is = tt
seen-behind (Some byte) [] count None at is = cc
seen-behind None (x ∷ xs) zero None at is = tt
seen-behind (Some byte) (x ∷ xs) zero None at is = at
seen-behind before (x ∷ xs) (suc count) None at is = tt

-- where all was taken, nothing is seen
pub seen-none : (before : Option ℕ) (piece : List ℕ) → IsSeenAt before piece 0 → seen_behind before piece None ≡ None
seen-none None [] at = refl
seen-none (Some byte) [] at = cc
seen-none before (x ∷ xs) at = refl

-- what was looked at is the prefix of the piece up to some byte
pub record IsLookedUpTo (taken piece : List ℕ) (count : ℕ) (seen : Option ℕ) : Type 0 where
  pub upto : ℕ
  pub within : upto ≤ length piece
  pub looked_are : (taken ++ take count piece) ++ elim seen [ None ↦ [] | Some byte ↦ byte ∷ [] ] ≡ taken ++ take upto piece

pub looked-up_to : (taken piece : List ℕ) (count : ℕ) (seen : Option ℕ) → count ≤ length piece → IsSeenAt seen piece count
    → IsLookedUpTo taken piece count seen
looked-up_to taken piece count None within at = record {
  upto = count;
  within = within;
  looked_are =
      append-nil (taken ++ take count piece);
}
looked-up_to taken piece count (Some byte) within at = record {
  upto = count + 1;
  within = let below = slice_get_within piece count byte at in omega (arith, below);
  looked_are = append_assoc taken (take count piece) (byte ∷ []) ∙ ap (λ (l : List ℕ). taken ++ l) (sym (take-one piece count byte at));
}
