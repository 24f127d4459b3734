-- How many records of instances have which keyword.
use Rattle.std.specs.Prelude.{◌≡◌, ◌<◌, ℕ, List, [], ◌∷◌, ◌++◌, count_by, decimal, if◌then◌else◌, map}
use Rattle.std.specs.Prelude as std
use Rattle.std.specs.Cmp.Lexicographic.{slice_cmp}
use Rattle.std.specs.List.{flat_map, AllByRecursion as Each}
use Rattle.std.specs.List.Sorted.{IsStrictlySortedBy}
use Rattle.std.specs.Ordering.{nat_cmp}
use Rattle.std.specs.Str.{bytes_eq}
use Rattle.std.specs.declared.alloc.Global.{Global}
use Rattle.p21_spec_exchange.specs.Record.{Part, Record, parts_of}
use Rattle.p21_syntax_words.specs.HeaderText.{key_text}

-- the keywords of the records of an instance, as they are written
abbrev pub record_keywords : Record → List (List ℕ)
record_keywords record_ = map (λ (part : Part). key_text part.key) (parts_of record_)

-- those of instances
abbrev pub keywords_of : List (ℕ × Record) → List (List ℕ)
keywords_of instances = flat_map (λ (i : ℕ × Record). record_keywords i.1) instances

-- the number beside a word, 0 where it has none
abbrev pub count_in : List (List ℕ × ℕ) → List ℕ → ℕ
count_in [] word = 0
count_in (c ∷ cs) word = if bytes_eq word c.0 then c.1 else count_in cs word

-- each word once, in the order of their bytes, with how often it stands among these
pub record AreCounts (words : List (List ℕ)) (counts : List (List ℕ × ℕ)) : Type 0 where
  pub counted : (word : List ℕ) → count_in counts word ≡ count_by (bytes_eq word) words
  pub some_of_each : Each (λ (c : List ℕ × ℕ). 0 < c.1) counts
  pub in_order : IsStrictlySortedBy (slice_cmp nat_cmp) (map (λ (c : List ℕ × ℕ). c.0) counts)

-- `KEYWORD N` and a line feed
abbrev pub count_line : List ℕ × ℕ → List ℕ
count_line c = c.0 ++ (32 ∷ (decimal c.1 ++ 10 ∷ []))

-- a line for each
abbrev pub counts_text : List (List ℕ × ℕ) → List ℕ
counts_text counts = flat_map count_line counts

-- the counts that entries hold
abbrev pub counts_of : List (std.Vec ℕ Global × ℕ) → List (List ℕ × ℕ)
counts_of entries = map (λ (e : std.Vec ℕ Global × ℕ). (e.0.items, e.1)) entries
