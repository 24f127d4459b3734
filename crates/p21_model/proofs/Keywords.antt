-- The keyword at the front of a simple record.
use Rattle.std.proofs.Common.{◌≡◌, ◌<◌, ℕ, zero, suc, List, [], ◌∷◌, ◌++◌, Some, length, refl, arith, inl, inr}
use Rattle.std.specs.Prelude.{slice_get}
use Rattle.p21_scan.proofs.Words.{keyword-once}
use Rattle.p21_scan.specs.Word.{IsTokenAt}
use Rattle.p21_spec_exchange.specs.Keyword.{IsKeyword, IsKeywordByte}
use Rattle.p21_spec_exchange.specs.Token.{keyword}
use Rattle.p21_spec_schema.specs.Schema.{EntityNamed, Schema}

left-no_byte : ¬ IsKeywordByte 40
left-no_byte (inl (inl h)) = omega (arith, h)
left-no_byte (inl (inr h)) = omega (arith, h)
left-no_byte (inr h) = omega (arith, h)

-- no other keyword stands in front of a parenthesis
pub keyword-found : (bytes word rest found behind : List ℕ) → IsKeyword word → bytes ≡ word ++ (40 ∷ rest)
    → IsTokenAt bytes (keyword found) behind → (found ≡ word) × (behind ≡ 40 ∷ rest)
keyword-found bytes word rest found behind is_keyword is at =
    keyword-once bytes found word behind (40 ∷ rest) at
    (record { bytes_are = is; spells = (refl, is_keyword); followed = (left-no_byte, λ e. omega (arith, e)) })

pub none-some : (bytes : List ℕ) (byte : ℕ) (rest : List ℕ) → length bytes ≡ 0 → bytes ≡ byte ∷ rest → ⊥
none-some [] byte rest none some = cc
none-some (first ∷ bytes) byte rest none some = omega (arith, none)

below : {X : Type 0} (xs : List X) (k : ℕ) (x : X) → slice_get xs k ≡ Some x → k < length xs
below [] k x is = cc
below (y ∷ ys) zero x is = omega arith
below (y ∷ ys) (suc k) x is = let more = below ys k x is in omega (arith, more)

pub named-within : (s : Schema) (e : ℕ) (word : List ℕ) → EntityNamed s e word → e < length s.entities
named-within s e word (x, at, named) = below s.entities e x at
