-- Bytes of a piece, and what was looked at behind them.
use Rattle.std.proofs.Common.{◌≡◌, ◌≤◌, ◌+◌, ◌-◌, ℕ, zero, suc, List, [], ◌∷◌, ◌++◌, length, take, drop, Option, Some, None, refl, sym, ap, subst, ◌∙◌, append_assoc, arith}
use Rattle.std.proofs.lemmas.List.{length-drop}
use Rattle.std.specs.List.{slice_get}
use Rattle.p21_stream_statements.proofs.Seen.{looked-up_to}
use Rattle.p21_stream_statements.specs.StatementReader.{IsSeenAt, StatementHistory, bytes_looked_at}

-- ---- pieces of pieces

pub take-add : (m k : ℕ) (l : List ℕ) → take (m + k) l ≡ take m l ++ take k (drop m l)
take-add zero k l = let same : zero + k ≡ k = omega arith in ap (λ (n : ℕ). take n l) same
take-add (suc m) zero [] = let same : suc m + zero ≡ suc m = omega arith in ap (λ (n : ℕ). take {A = ℕ} n []) same
take-add (suc m) (suc k) [] = let same : suc m + suc k ≡ suc (m + suc k) = omega arith in ap (λ (n : ℕ). take {A = ℕ} n []) same
take-add (suc m) k (x ∷ xs) = let same : suc m + k ≡ suc (m + k) = omega arith in ap (λ (n : ℕ). take n (x ∷ xs)) same
    ∙ ap (λ (l : List ℕ). x ∷ l) (take-add m k xs)

get-drop : (m k : ℕ) (l : List ℕ) → slice_get (drop m l) k ≡ slice_get l (m + k)
get-drop zero k l = let same : zero + k ≡ k = omega arith in ap (λ (n : ℕ). slice_get l n) (sym same)
get-drop (suc m) k [] = refl
get-drop (suc m) k (x ∷ xs) = let same : suc m + k ≡ suc (m + k) = omega arith in get-drop m k xs
    ∙ ap (λ (n : ℕ). slice_get (x ∷ xs) n) (sym same)

pub seen-first : (seen : Option ℕ) (m : ℕ) (l : List ℕ) → IsSeenAt seen l m → IsSeenAt seen (drop m l) 0
seen-first None m l at = tt
seen-first (Some byte) m l at = let same : m + 0 ≡ m = omega arith in get-drop m 0 l ∙ ap (λ (n : ℕ). slice_get l n) same ∙ at

pub seen-on : (seen : Option ℕ) (m k : ℕ) (l : List ℕ) → IsSeenAt seen (drop m l) k → IsSeenAt seen l (m + k)
seen-on None m k l at = tt
seen-on (Some byte) m k l at = sym (get-drop m k l) ∙ at

-- ---- what was looked at

-- what holds of the bytes looked at holds of the bytes taken and some of the piece
pub looked-within : (P : List ℕ → Type 0) (reading on : StatementHistory) (piece : List ℕ) (count : ℕ)
    → on.taken ≡ reading.taken ++ take count piece → IsSeenAt on.seen piece count → count ≤ length piece → P (bytes_looked_at on)
    → (upto : ℕ) × (upto ≤ length piece) × P (reading.taken ++ take upto piece)
looked-within P reading on piece count taken_are seen_at within holds =
    let up = looked-up_to reading.taken piece count on.seen within seen_at in
    let Bytes : List ℕ → Type 0 = λ taken. P (taken ++ elim on.seen [ None ↦ [] | Some byte ↦ byte ∷ [] ]) in
    (up.upto, up.within, subst P up.looked_are (subst Bytes taken_are holds))

-- what holds of the bytes behind so many of a piece and some more of it holds of the bytes before and some of the piece
pub within-on : (reading on : StatementHistory) (piece : List ℕ) (count : ℕ) (P : List ℕ → Type 0)
    → on.taken ≡ reading.taken ++ take count piece → count ≤ length piece → (upto : ℕ) → upto ≤ length (drop count piece)
    → P (on.taken ++ take upto (drop count piece))
    → (count + upto ≤ length piece) × P (reading.taken ++ take (count + upto) piece)
within-on reading on piece count P taken_are within upto below holds =
    let same : on.taken ++ take upto (drop count piece) ≡ reading.taken ++ take (count + upto) piece =
    ap (λ (l : List ℕ). l ++ take upto (drop count piece)) taken_are
    ∙ append_assoc reading.taken (take count piece) (take upto (drop count piece))
    ∙ ap (λ (l : List ℕ). reading.taken ++ l) (sym (take-add count upto piece)) in
    let rest : length (drop count piece) ≡ length piece - count = length-drop count piece in
    (omega (arith, below, rest, within), subst P same holds)
