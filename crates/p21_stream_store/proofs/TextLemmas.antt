-- Texts one behind the other: where each starts and ends, and what one more text adds.
use Rattle.std.proofs.Common.{◌≡◌, ◌+◌, ◌-◌, ◌≤◌, ◌<◌, ℕ, zero, suc, List, [], ◌∷◌, ◌++◌, length, take, drop, get_or, Some, Vec, vec_capacity, vec_len, refl, sym, ap, ◌∙◌, arith, add-one}
use Rattle.std.proofs.lemmas.List.{length-append, length-drop, length-take, take-append-le, drop-append-le}
use Rattle.std.proofs.Math.Seq.{drop-append_seam, take-append_seam}
use Rattle.std.specs.List.{slice_get}
use Rattle.p21_spec_basics.proofs.Members.{rest_is}
use Rattle.std.specs.declared.alloc.Global.{Global}
use Rattle.p21_stream_store.specs.Texts.{texts_of, AreStarts, AreStartsFrom, room_in}

pub length-texts_of : (starts bytes : List ℕ) → length (texts_of starts bytes) ≡ length starts
length-texts_of [] bytes = refl
length-texts_of (s ∷ []) bytes = refl
length-texts_of (s ∷ t ∷ more) bytes = ap (λ (n : ℕ). suc n) (length-texts_of (t ∷ more) bytes)

pub starts_rise : (starts : List ℕ) (size i : ℕ) → AreStartsFrom starts size → suc i < length starts
    → get_or starts i 0 ≤ get_or starts (suc i) 0
starts_rise [] size i a h = absurd (omega (arith, h))
starts_rise (s ∷ []) size i a h = absurd (omega (arith, h))
starts_rise (s ∷ t ∷ more) size zero a h = a.0
starts_rise (s ∷ t ∷ more) size (suc i) a h = starts_rise (t ∷ more) size i a.1 (omega (arith, h))

pub starts_within : (starts : List ℕ) (size i : ℕ) → AreStartsFrom starts size → i < length starts → get_or starts i 0 ≤ size
starts_within [] size i a h = absurd (omega (arith, h))
starts_within (s ∷ []) size zero a h = a
starts_within (s ∷ []) size (suc i) a h = absurd (omega (arith, h))
starts_within (s ∷ t ∷ more) size zero a h =
    let later : t ≤ size = starts_within (t ∷ more) size zero a.1 (omega arith) in
    omega (arith, a.0, later)
starts_within (s ∷ t ∷ more) size (suc i) a h = starts_within (t ∷ more) size i a.1 (omega (arith, h))

pub from_starts : (starts bytes : List ℕ) → AreStarts starts bytes → AreStartsFrom starts (length bytes)
from_starts [] bytes a = tt
from_starts (s ∷ more) bytes a = a

-- a text that has another behind it
pub text_before : (starts bytes : List ℕ) (i : ℕ) → suc i < length starts
    → slice_get (texts_of starts bytes) i ≡ Some (take (get_or starts (suc i) 0 - get_or starts i 0) (drop (get_or starts i 0) bytes))
text_before [] bytes i h = absurd (omega (arith, h))
text_before (s ∷ []) bytes i h = absurd (omega (arith, h))
text_before (s ∷ t ∷ more) bytes zero h = refl
text_before (s ∷ t ∷ more) bytes (suc i) h = text_before (t ∷ more) bytes i (omega (arith, h))

-- the last text
pub text_last : (starts bytes : List ℕ) (i : ℕ) → suc i ≡ length starts
    → slice_get (texts_of starts bytes) i ≡ Some (drop (get_or starts i 0) bytes)
text_last [] bytes i h = absurd (omega (arith, h))
text_last (s ∷ []) bytes zero h = refl
text_last (s ∷ []) bytes (suc i) h = absurd (omega (arith, h))
text_last (s ∷ t ∷ more) bytes zero h = absurd (omega (arith, h))
text_last (s ∷ t ∷ more) bytes (suc i) h = text_last (t ∷ more) bytes i (omega (arith, h))

-- one more text
pub texts_more : (starts bytes text : List ℕ) → AreStartsFrom starts (length bytes)
    → texts_of (starts ++ length bytes ∷ []) (bytes ++ text) ≡ texts_of starts bytes ++ text ∷ []
texts_more [] bytes text a = ap (λ (x : List ℕ). x ∷ []) (drop-append_seam bytes text)
texts_more (s ∷ []) bytes text a =
    let front : drop s (bytes ++ text) ≡ drop s bytes ++ text = drop-append-le s bytes text a in
    let size : length bytes - s ≡ length (drop s bytes) = sym (length-drop s bytes) in
    let first : take (length bytes - s) (drop s (bytes ++ text)) ≡ drop s bytes =
    ap (λ (l : List ℕ). take (length bytes - s) l) front ∙ ap (λ (n : ℕ). take n (drop s bytes ++ text)) size
    ∙ take-append_seam (drop s bytes) text in
    let second : drop (length bytes) (bytes ++ text) ≡ text = drop-append_seam bytes text in
    ap (λ (x : List ℕ). x ∷ drop (length bytes) (bytes ++ text) ∷ []) first ∙ ap (λ (x : List ℕ). drop s bytes ∷ x ∷ []) second
texts_more (s ∷ t ∷ more) bytes text a =
    let within : t ≤ length bytes = starts_within (t ∷ more) (length bytes) zero a.1 (omega arith) in
    let front : drop s (bytes ++ text) ≡ drop s bytes ++ text = drop-append-le s bytes text (omega (arith, a.0, within)) in
    let kept : take (t - s) (drop s bytes ++ text) ≡ take (t - s) (drop s bytes) =
    take-append-le (t - s) (drop s bytes) text (simp length-drop (omega arith)) in
    ap (λ (x : List ℕ). take (t - s) x ∷ texts_of (t ∷ (more ++ length bytes ∷ [])) (bytes ++ text)) front
    ∙ ap (λ (x : List ℕ). x ∷ texts_of (t ∷ (more ++ length bytes ∷ [])) (bytes ++ text)) kept
    ∙ ap (λ (x : List (List ℕ)). take (t - s) (drop s bytes) ∷ x) (texts_more (t ∷ more) bytes text a.1)

pub starts_more : (starts bytes text : List ℕ) → AreStartsFrom starts (length bytes)
    → AreStartsFrom (starts ++ length bytes ∷ []) (length (bytes ++ text))
starts_more [] bytes text a = simp length-append (omega arith)
starts_more (s ∷ []) bytes text a = (a, simp length-append (omega arith))
starts_more (s ∷ t ∷ more) bytes text a = (a.0, starts_more (t ∷ more) bytes text a.1)

-- ---- as the code reads them

pub next_rises : (starts : List ℕ) (size i : ℕ) → AreStartsFrom starts size → i < length starts → (length starts - i ≡ 1 → ⊥)
    → get_or starts i 0 ≤ get_or starts (i + 1) 0
next_rises starts size i a h more = rw add-one (starts_rise starts size i a (omega (arith, h, more)))

pub next_within : (starts : List ℕ) (size i : ℕ) → AreStartsFrom starts size → i < length starts → (length starts - i ≡ 1 → ⊥)
    → get_or starts (i + 1) 0 ≤ size
next_within starts size i a h more = starts_within starts size (i + 1) a (omega (arith, h, more))

pub read_last : (starts bytes : List ℕ) (i : ℕ) → i < length starts → length starts - i ≡ 1
    → slice_get (texts_of starts bytes) i ≡ Some (take (length bytes - get_or starts i 0) (drop (get_or starts i 0) bytes))
read_last starts bytes i h e = text_last starts bytes i (omega (arith, h, e))
    ∙ ap (λ (x : List ℕ). Some x) (sym (rest_is bytes (get_or starts i 0)))

pub read_before : (starts bytes : List ℕ) (i : ℕ) → i < length starts → (length starts - i ≡ 1 → ⊥)
    → slice_get (texts_of starts bytes) i ≡ Some (take (get_or starts (i + 1) 0 - get_or starts i 0)
    (take (length bytes - get_or starts i 0) (drop (get_or starts i 0) bytes)))
read_before starts bytes i h more =
    rw add-one (text_before starts bytes i (omega (arith, h, more))
    ∙ ap (λ (x : List ℕ). Some (take (get_or starts (suc i) 0 - get_or starts i 0) x)) (sym (rest_is bytes (get_or starts i 0))))

pub part_length : (bytes : List ℕ) (start end_ : ℕ) → start ≤ end_ → end_ ≤ length bytes
    → end_ - start ≡ length (take (end_ - start) (take (length bytes - start) (drop start bytes)))
part_length bytes start end_ rise within = rw rest_is (simp (length-take, length-drop) (omega arith))

pub no_bytes : (starts bytes : List ℕ) → AreStarts starts bytes → length starts ≡ 0 → length bytes ≡ 0
no_bytes [] bytes a e = ap length a
no_bytes (s ∷ more) bytes a e = absurd (omega (arith, e))

-- one more text, with its position among the starts
pub record IsMore (starts bytes text new_starts new_bytes : List ℕ) : Type 0 where
  pub start : ℕ
  pub start_is : start ≡ length bytes
  pub starts_are : new_starts ≡ starts ++ start ∷ []
  pub bytes_are : new_bytes ≡ bytes ++ text

pub block_more : (starts bytes text new_starts new_bytes : List ℕ) → AreStarts starts bytes → IsMore starts bytes text new_starts new_bytes
    → texts_of new_starts new_bytes ≡ texts_of starts bytes ++ text ∷ []
block_more starts bytes text new_starts new_bytes a m =
    rw (m.starts_are, m.bytes_are, m.start_is) (texts_more starts bytes text (from_starts starts bytes a))

are_starts : (starts bytes : List ℕ) → AreStartsFrom starts (length bytes) → 0 < length starts → AreStarts starts bytes
are_starts [] bytes a h = absurd (omega (arith, h))
are_starts (s ∷ more) bytes a h = a

pub block_starts_more : (starts bytes text new_starts new_bytes : List ℕ) → AreStarts starts bytes
    → IsMore starts bytes text new_starts new_bytes → AreStarts new_starts new_bytes
block_starts_more starts bytes text new_starts new_bytes a m =
    rw (m.starts_are, m.bytes_are, m.start_is) (are_starts _ _ (starts_more starts bytes text (from_starts starts bytes a))
    (simp length-append (omega arith)))

-- ---- room for one more text

-- a text of fewer bytes than this has a place for its start, which 16 bits hold, and room for its bytes
pub has_place : (starts bytes : Vec ℕ Global) (size : ℕ) → size < room_in starts bytes
    → (vec_len starts < vec_capacity starts) × (vec_len bytes < 65536) × (vec_len bytes + size ≤ vec_capacity bytes)
has_place starts bytes size below = by (vec_capacity starts - vec_len starts) refl (65536 - vec_len bytes) refl below where
  by : (more : ℕ) → vec_capacity starts - vec_len starts ≡ more → (rest : ℕ) → 65536 - vec_len bytes ≡ rest
      → size < elim more [ zero ↦ 0 | suc m ↦ elim rest [ zero ↦ 0 | suc r ↦ vec_capacity bytes + 1 - vec_len bytes ] ]
      → (vec_len starts < vec_capacity starts) × (vec_len bytes < 65536) × (vec_len bytes + size ≤ vec_capacity bytes)
  by zero e rest f less = absurd (omega (arith, less))
  by (suc m) e zero f less = absurd (omega (arith, less))
  by (suc m) e (suc r) f less = (omega (arith, e), omega (arith, f), omega (arith, less))

pub has_room : (starts bytes : Vec ℕ Global) (size : ℕ) → vec_len starts < vec_capacity starts → vec_len bytes < 65536
    → vec_len bytes + size ≤ vec_capacity bytes → size < room_in starts bytes
has_room starts bytes size place low room = by (vec_capacity starts - vec_len starts) refl (65536 - vec_len bytes) refl where
  by : (more : ℕ) → vec_capacity starts - vec_len starts ≡ more → (rest : ℕ) → 65536 - vec_len bytes ≡ rest
      → size < elim more [ zero ↦ 0 | suc m ↦ elim rest [ zero ↦ 0 | suc r ↦ vec_capacity bytes + 1 - vec_len bytes ] ]
  by zero e rest f = absurd (omega (arith, place, e))
  by (suc m) e zero f = absurd (omega (arith, low, f))
  by (suc m) e (suc r) f = omega (arith, room)
