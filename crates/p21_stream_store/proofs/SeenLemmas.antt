-- Bits of names.
use Rattle.std.proofs.Common.{◌≡◌, ◌≢◌, ◌<◌, ◌/◌, ◌%◌, ◌*◌, ◌^◌, ℕ, List, [], ◌∷◌, ◌++◌, length, inl, inr, sym, ap, subst, ◌∙◌, bit_or, slice_set, w64}
use Rattle.std.proofs.lemmas.Bool.Decides.{eqb_tells}
use Rattle.std.proofs.lemmas.List.{get_or-set_same}
use Rattle.std.proofs.lemmas.List.Elements.{Contains-push_cases}
use Rattle.std.proofs.lemmas.Nat.Bits.{bit_at_set_other, bit_at_set_same}
use Rattle.std.specs.Prelude.{slice_index_or}
use Rattle.std.specs.Int.{bit_at}
use Rattle.std.specs.List.{Contains}
use Rattle.p21_stream_store.specs.Seen.{MayHaveCome}

-- the words with a bit more in one of them
abbrev with_bit : List ℕ → ℕ → ℕ → ℕ → List ℕ
with_bit words index word bit = slice_set words index (bit_or word (1 * 2 ^ bit % 18446744073709551616))

pub bit_set : (words : List ℕ) (index word bit : ℕ) → index < length words → bit < 64
    → bit_at (slice_index_or (with_bit words index word bit) index 0) bit ≡ 1
bit_set words index word bit within low = ap (λ (w : ℕ). bit_at w bit) (get_or-set_same words index _ 0 within)
    ∙ bit_at_set_same w64 word bit low

-- the bits that were set stay
pub bit_kept : (words : List ℕ) (index word bit : ℕ) → index < length words → bit < 64 → word ≡ slice_index_or words index 0 → (other : ℕ)
    → bit_at (slice_index_or words index 0) other ≡ 1 → bit_at (slice_index_or (with_bit words index word bit) index 0) other ≡ 1
bit_kept words index word bit within low is other was = elim (eqb_tells other bit) [
  | inl same ↦ subst (λ (k : ℕ). bit_at (slice_index_or (with_bit words index word bit) index 0) k ≡ 1) (sym same.1)
      (bit_set words index word bit within low)
  | inr differs ↦ ap (λ (w : ℕ). bit_at w other) (get_or-set_same words index _ 0 within)
      ∙ bit_at_set_other w64 word bit low other differs.1 ∙ ap (λ (w : ℕ). bit_at w other) is ∙ was
]

-- ---- names that may have come

-- words that are the same, and then a word with more bits
pub noted_others : (old grown new : List ℕ) (index : ℕ) → ((i : ℕ) → slice_index_or grown i 0 ≡ slice_index_or old i 0)
    → ((other : ℕ) → bit_at (slice_index_or grown index 0) other ≡ 1 → bit_at (slice_index_or new index 0) other ≡ 1)
    → ((other : ℕ) → other ≢ index → slice_index_or new other 0 ≡ slice_index_or grown other 0) → (name : ℕ) → MayHaveCome old name
    → MayHaveCome new name
noted_others old grown new index same bits words name seen low = elim (eqb_tells (name / 64) index) [
  | inl here ↦ subst (λ (i : ℕ). bit_at (slice_index_or new i 0) (name % 64) ≡ 1) (sym here.1)
      (bits (name % 64) (subst (λ (i : ℕ). bit_at (slice_index_or grown i 0) (name % 64) ≡ 1) here.1 (still low)))
  | inr other ↦ ap (λ (w : ℕ). bit_at w (name % 64)) (words (name / 64) other.1) ∙ still low
] where
  still : MayHaveCome grown name
  still less = ap (λ (w : ℕ). bit_at w (name % 64)) (same (name / 64)) ∙ seen less

-- ---- names that have come

-- each name is still seen
pub still_seen : (names words new : List ℕ) → ((name : ℕ) → Contains names name → MayHaveCome words name)
    → ((other : ℕ) → MayHaveCome words other → MayHaveCome new other) → (name : ℕ) → Contains names name → MayHaveCome new name
still_seen names words new seen stay name has = stay name (seen name has)

-- one more name is seen too
pub also_seen : (names all words new : List ℕ) (x : ℕ) → all ≡ names ++ x ∷ [] → ((name : ℕ) → Contains names name → MayHaveCome words name)
    → ((other : ℕ) → MayHaveCome words other → MayHaveCome new other) → MayHaveCome new x → (name : ℕ) → Contains all name
    → MayHaveCome new name
also_seen names all words new x is seen stay noted name has =
    elim (Contains-push_cases names x name (subst (λ (l : List ℕ). Contains l name) is has))
    [ inl before ↦ stay name (seen name before) | inr same ↦ subst (MayHaveCome new) same noted ]
