-- The text of a number among the blocks.
use Rattle.std.proofs.Common.{◌≡◌, ◌+◌, ◌-◌, ◌≤◌, ◌<◌, ℕ, zero, suc, List, [], ◌∷◌, ◌++◌, length, get_or, refl, sym, ap, subst, ◌∙◌, arith}
use Rattle.std.proofs.lemmas.List.{append_assoc, append-nil, length-append}
use Rattle.std.specs.List.{slice_get}
use Rattle.p21_stream_store.specs.Blocks.{AreFirsts, block_texts, first_at}
use Rattle.p21_stream_store.specs.declared.texts.FullBlock.{FullBlock}

pub get-append_left : {X : Type 0} (xs ys : List X) (i : ℕ) → i < length xs → slice_get (xs ++ ys) i ≡ slice_get xs i
get-append_left [] ys i h = absurd (omega (arith, h))
get-append_left (x ∷ xs) ys zero h = refl
get-append_left (x ∷ xs) ys (suc i) h = get-append_left xs ys i (omega (arith, h))

pub get-append_right : {X : Type 0} (xs ys : List X) (i j : ℕ) → i ≡ length xs + j → slice_get (xs ++ ys) i ≡ slice_get ys j
get-append_right [] ys i j e = ap (λ (n : ℕ). slice_get ys n) (omega (arith, e))
get-append_right (x ∷ xs) ys zero j e = absurd (omega (arith, e))
get-append_right (x ∷ xs) ys (suc i) j e = get-append_right xs ys i j (omega (arith, e))

pub first_at-get_or : (full : List FullBlock) (end_ i : ℕ) (d : FullBlock) → i < length full
    → first_at full end_ i ≡ (get_or full i d).first
first_at-get_or [] end_ i d h = absurd (omega (arith, h))
first_at-get_or (f ∷ rest) end_ zero d h = refl
first_at-get_or (f ∷ rest) end_ (suc i) d h = first_at-get_or rest end_ i d (omega (arith, h))

pub first_at-end : (full : List FullBlock) (end_ : ℕ) → first_at full end_ (length full) ≡ end_
first_at-end [] end_ = refl
first_at-end (f ∷ rest) end_ = first_at-end rest end_

pub first_at-start : (from : ℕ) (full : List FullBlock) (end_ : ℕ) → AreFirsts from full end_ → first_at full end_ 0 ≡ from
first_at-start from [] end_ a = a
first_at-start from (f ∷ rest) end_ a = a.0

pub length-block_texts : (from : ℕ) (full : List FullBlock) (end_ : ℕ) → AreFirsts from full end_ → from + length (block_texts full) ≡ end_
length-block_texts from [] end_ a = omega (arith, a)
length-block_texts from (f ∷ rest) end_ a =
    let later = length-block_texts (from + length f.block.texts) rest end_ a.1 in
    simp length-append (omega (arith, later))

pub from_first : (from : ℕ) (full : List FullBlock) (end_ i : ℕ) → AreFirsts from full end_ → from ≤ first_at full end_ i
from_first from [] end_ i a = omega (arith, a)
from_first from (f ∷ rest) end_ zero a = omega (arith, a.0)
from_first from (f ∷ rest) end_ (suc i) a =
    let later = from_first (from + length f.block.texts) rest end_ i a.1 in
    omega (arith, later)

-- the number lies in the block at this index
pub in_block : (from : ℕ) (full : List FullBlock) (end_ at i : ℕ) (d : FullBlock) → AreFirsts from full end_ → at < length full
    → first_at full end_ at ≤ i → i < first_at full end_ (suc at)
    → (i - (get_or full at d).first < length (get_or full at d).block.texts)
    × (slice_get (block_texts full) (i - from) ≡ slice_get (get_or full at d).block.texts (i - (get_or full at d).first))
in_block from [] end_ at i d a h low high = absurd (omega (arith, h))
in_block from (f ∷ rest) end_ zero i d a h low high =
    let next : first_at rest end_ 0 ≡ from + length f.block.texts = first_at-start (from + length f.block.texts) rest end_ a.1 in
    let within : i - f.first < length f.block.texts = omega (arith, a.0, low, high, next) in
    let same : i - from ≡ i - f.first = omega (arith, a.0) in (
      within,
      ap (λ (n : ℕ). slice_get (f.block.texts ++ block_texts rest) n) same
          ∙ get-append_left f.block.texts (block_texts rest) (i - f.first) within,
    )
in_block from (f ∷ rest) end_ (suc at) i d a h low high =
    let later = in_block (from + length f.block.texts) rest end_ at i d a.1 (omega (arith, h)) low high in
    let behind = from_first (from + length f.block.texts) rest end_ at a.1 in (
      later.0,
      get-append_right f.block.texts (block_texts rest) (i - from) (i - (from + length f.block.texts)) (omega (arith, low, behind))
          ∙ later.1,
    )

pub block_texts-more : (full : List FullBlock) (f : FullBlock) → block_texts (full ++ f ∷ []) ≡ block_texts full ++ f.block.texts
block_texts-more [] f = append-nil f.block.texts
block_texts-more (g ∷ rest) f = ap (λ (l : List (List ℕ)). g.block.texts ++ l) (block_texts-more rest f)
    ∙ sym (append_assoc g.block.texts (block_texts rest) f.block.texts)

pub firsts_more : (from : ℕ) (full : List FullBlock) (end_ : ℕ) (f : FullBlock) (new_end : ℕ) → AreFirsts from full end_ → f.first ≡ end_
    → new_end ≡ end_ + length f.block.texts → AreFirsts from (full ++ f ∷ []) new_end
firsts_more from [] end_ f new_end a first e = (first ∙ a, omega (arith, e, a))
firsts_more from (g ∷ rest) end_ f new_end a first e = (a.0, firsts_more (from + length g.block.texts) rest end_ f new_end a.1 first e)

-- ---- as the code reads them

pub search_starts : (full : List FullBlock) (end_ i : ℕ) → AreFirsts 0 full end_ → i < end_
    → (0 < length full) × (length full ≤ length full) × (first_at full end_ 0 ≤ i) × (i < first_at full end_ (length full))
search_starts [] end_ i a h = absurd (omega (arith, a, h))
search_starts (f ∷ rest) end_ i a h = (omega arith, omega arith, omega (arith, a.0), rw (first_at-end rest end_) h)

pub first_at-read : (full : List FullBlock) (end_ i : ℕ) (f : FullBlock) → i < length full → f ≡ get_or full i f
    → first_at full end_ i ≡ f.first
first_at-read full end_ i f h e = first_at-get_or full end_ i f h ∙ ap (λ (g : FullBlock). g.first) (sym e)

-- the block that is found at an index
pub record IsFound (full : List FullBlock) (i : ℕ) (f : FullBlock) : Type 0 where
  pub starts : f.first ≤ i
  pub within : i - f.first < length f.block.texts
  pub text : slice_get (block_texts full) i ≡ slice_get f.block.texts (i - f.first)

pub found : (full : List FullBlock) (end_ low high i : ℕ) (f : FullBlock) → AreFirsts 0 full end_
    → (low < high) × (high ≤ length full) × (first_at full end_ low ≤ i) × (i < first_at full end_ high) → high - low ≤ 1
    → f ≡ get_or full low f → IsFound full i f
found full end_ low high i f a inv near e =
    let next : high ≡ suc low = omega (arith, inv.0, near) in
    let inside : low < length full = omega (arith, inv.0, inv.1) in
    let first : first_at full end_ low ≡ f.first = first_at-read full end_ low f inside e in
    let upper : i < first_at full end_ (suc low) = subst (λ (n : ℕ). i < first_at full end_ n) next inv.3 in
    let both = in_block 0 full end_ low i f a inside inv.2 upper in
    let Both : FullBlock → Type 0 = λ g. (i - g.first < length g.block.texts)
    × (slice_get (block_texts full) (i - 0) ≡ slice_get g.block.texts (i - g.first)) in
    let here = subst Both (sym e) both in
    record {
      starts = omega (arith, inv.2, first);
      within = here.0;
      text = ap (λ (n : ℕ). slice_get (block_texts full) n) (let same : i ≡ i - 0 = omega arith in same) ∙ here.1;
    }

-- a number behind the full blocks is that of a text of the last block
pub last_within : (full : List FullBlock) (end_ i : ℕ) (last seen : List (List ℕ)) → AreFirsts 0 full end_ → block_texts full ++ last ≡ seen
    → i < length seen → end_ ≤ i → (i - end_ < length last) × (slice_get seen i ≡ slice_get last (i - end_))
last_within full end_ i last seen a e h behind =
    let size = length-block_texts 0 full end_ a in
    let whole : length (block_texts full) + length last ≡ length seen = sym (length-append (block_texts full) last) ∙ ap length e in (
      omega (arith, size, whole, h, behind),
      ap (λ (l : List (List ℕ)). slice_get l i) (sym e)
          ∙ get-append_right (block_texts full) last i (i - end_) (omega (arith, size, behind)),
    )

pub front_same : (full : List FullBlock) (end_ i : ℕ) (last seen : List (List ℕ)) → AreFirsts 0 full end_ → block_texts full ++ last ≡ seen
    → i < end_ → slice_get seen i ≡ slice_get (block_texts full) i
front_same full end_ i last seen a e h =
    let size = length-block_texts 0 full end_ a in
    ap (λ (l : List (List ℕ)). slice_get l i) (sym e) ∙ get-append_left (block_texts full) last i (omega (arith, size, h))

-- the last block becomes full, and an empty one follows
module _ (full new_full : List FullBlock) (end_ : ℕ) (last : List (List ℕ)) (block : FullBlock) (first : block.first ≡ end_)
    (texts : block.block.texts ≡ last) (is : new_full ≡ full ++ block ∷ []) where
  pub next_firsts : (size : ℕ) → size ≡ length last → AreFirsts 0 full end_ → AreFirsts 0 new_full (end_ + size)
  next_firsts size size_is a = rw is (firsts_more 0 full end_ block (end_ + size) a first
      (ap (λ (n : ℕ). end_ + n) (size_is ∙ ap length (sym texts))))

  pub next_same : (empty : List (List ℕ)) → empty ≡ [] → block_texts new_full ++ empty ≡ block_texts full ++ last
  next_same empty none =
      ap (λ (l : List (List ℕ)). block_texts new_full ++ l) none ∙ append-nil (block_texts new_full)
      ∙ ap block_texts is ∙ block_texts-more full block ∙ ap (λ (l : List (List ℕ)). block_texts full ++ l) texts

-- the number behind all texts is the count of the texts
pub end_within : (full : List FullBlock) (end_ size : ℕ) (last seen : List (List ℕ)) → AreFirsts 0 full end_
    → block_texts full ++ last ≡ seen → size ≡ length last → end_ + size ≡ length seen
end_within full end_ size last seen a e is =
    let blocks = length-block_texts 0 full end_ a in
    let whole : length (block_texts full) + length last ≡ length seen = sym (length-append (block_texts full) last) ∙ ap length e in
    omega (arith, blocks, whole, is)
