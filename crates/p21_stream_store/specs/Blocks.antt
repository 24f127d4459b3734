-- Blocks of texts, one behind the other.
use Rattle.std.specs.Prelude.{◌≡◌, ◌+◌, ℕ, zero, suc, List, [], ◌∷◌, ◌++◌, length}
use Rattle.p21_stream_store.specs.declared.texts.FullBlock.{FullBlock}

-- the texts of the blocks
abbrev pub block_texts : List FullBlock → List (List ℕ)
block_texts [] = []
block_texts (f ∷ rest) = f.block.texts ++ block_texts rest

-- each block has the number of its first text, counted from this; and so many texts stand before `end`
abbrev pub AreFirsts : ℕ → List FullBlock → ℕ → Type 0
AreFirsts from [] end = end ≡ from
AreFirsts from (f ∷ rest) end = (f.first ≡ from) × AreFirsts (from + length f.block.texts) rest end

-- the number of the first text of the block at an index; behind the last block it is `end`
abbrev pub first_at : List FullBlock → ℕ → ℕ → ℕ
first_at [] end i = end
first_at (f ∷ rest) end zero = f.first
first_at (f ∷ rest) end (suc i) = first_at rest end i
