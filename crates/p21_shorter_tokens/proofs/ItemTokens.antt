-- Enumeration items.
use Rattle.std.proofs.Common.{◌≡◌, ℕ, ◌+◌, ◌≤◌, List, [], ◌∷◌, ◌++◌, length, length-append, get_or, refl, arith}
use Rattle.p21_spec_exchange.specs.Keyword.{IsUpper}
use Rattle.p21_spec_exchange.specs.Token.{IsFollowed, item}
use Rattle.p21_shorter_tokens.proofs.LeadingTokens.{scanned}
use Rattle.p21_shorter_tokens.specs.LeadingToken.{IsCanonicalLeadingToken}

pub item-size : (word : List ℕ) → length word + 2 ≡ length (46 ∷ (word ++ 46 ∷ []))
item-size word = omega (arith, length-append word (46 ∷ []))

followed-item : (word spelling rest : List ℕ) → IsFollowed (item word) spelling rest
followed-item word spelling [] = tt
followed-item word spelling (byte ∷ rest) = tt

-- a letter between two points
pub letter-between : (bytes : List ℕ) (letter : ℕ) → 3 ≤ length bytes → get_or bytes 0 0 ≡ 46 → get_or bytes 1 0 ≡ letter → get_or bytes 2 0 ≡ 46 → IsUpper letter → IsCanonicalLeadingToken bytes 3 (item (letter ∷ []))
letter-between [] letter room e f g upper = absurd (omega arith)
letter-between (a ∷ []) letter room e f g upper = absurd (omega arith)
letter-between (a ∷ b ∷ []) letter room e f g upper = absurd (omega arith)
letter-between (a ∷ b ∷ c ∷ rest) letter room e f g upper =
    let bytes_are : a ∷ b ∷ c ∷ rest ≡ 46 ∷ letter ∷ 46 ∷ rest = rw (e, f, g) refl in
    scanned (a ∷ b ∷ c ∷ rest) rest 3 (item (letter ∷ [])) (record { bytes_are = bytes_are; spells = (refl, (upper, tt)); followed = followed-item (letter ∷ []) (46 ∷ letter ∷ 46 ∷ []) rest }) refl
