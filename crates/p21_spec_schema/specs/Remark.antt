-- What may stand between the lexical elements of EXPRESS: blanks, embedded remarks, which nest, and tail remarks (ISO 10303-11, Remarks).
use Rattle.std.specs.Prelude.{◌≡◌, ◌≢◌, ℕ, zero, suc, ◌≤◌, ◌⊎◌, List, [], ◌∷◌, ◌++◌}
use Rattle.std.specs.List.{flat_map, AllByRecursion as Each}

-- what stands in an embedded remark: the mark `(*` or `*)` of a remark in it, or one byte
pub data Mark : Type 0 where
  opening_mark : Mark
  closing_mark : Mark
  remark_byte : ℕ → Mark

-- `(*`, `*)` or the byte
abbrev pub mark_bytes : Mark → List ℕ
mark_bytes opening_mark = 40 ∷ 42 ∷ []
mark_bytes closing_mark = 42 ∷ 41 ∷ []
mark_bytes (remark_byte byte) = byte ∷ []

-- the first of the bytes, if there is one, is another
abbrev pub DoesNotBeginWith : ℕ → List ℕ → Type 0
DoesNotBeginWith byte [] = Unit {0}
DoesNotBeginWith byte (next ∷ bytes) = next ≢ byte

-- marks are taken from left to right, and no byte stands in two: where a mark can be taken, it is
abbrev pub AreMarks : List Mark → Type 0
AreMarks [] = Unit {0}
AreMarks (opening_mark ∷ marks) = AreMarks marks
AreMarks (closing_mark ∷ marks) = AreMarks marks
AreMarks (remark_byte byte ∷ marks) = (byte ≡ 40 → DoesNotBeginWith 42 (flat_map mark_bytes marks)) × (byte ≡ 42 → DoesNotBeginWith 41 (flat_map mark_bytes marks)) × AreMarks marks

-- within an open remark and `inner` open remarks in it, the last mark closes the outer remark, and no mark before it does
abbrev pub ClosesAtLastMark : ℕ → List Mark → Type 0
ClosesAtLastMark inner [] = ⊥
ClosesAtLastMark inner (opening_mark ∷ marks) = ClosesAtLastMark (suc inner) marks
ClosesAtLastMark zero (closing_mark ∷ marks) = marks ≡ []
ClosesAtLastMark (suc inner) (closing_mark ∷ marks) = ClosesAtLastMark inner marks
ClosesAtLastMark inner (remark_byte byte ∷ marks) = ClosesAtLastMark inner marks

-- a blank, an embedded remark behind its first `(*`, or a tail remark between `--` and the end of its line
pub data Separator : Type 0 where
  blank : ℕ → Separator
  embedded_remark : List Mark → Separator
  tail_remark : List ℕ → Separator

-- 10 ends a line
abbrev pub IsSeparator : Separator → Type 0
IsSeparator (blank byte) = (byte ≤ 32) ⊎ (byte ≡ 127)
IsSeparator (embedded_remark marks) = AreMarks marks × ClosesAtLastMark zero marks
IsSeparator (tail_remark line) = Each (λ byte. byte ≢ 10) line

-- the bytes of a separator
abbrev pub separator_bytes : Separator → List ℕ
separator_bytes (blank byte) = byte ∷ []
separator_bytes (embedded_remark marks) = 40 ∷ 42 ∷ flat_map mark_bytes marks
separator_bytes (tail_remark line) = 45 ∷ 45 ∷ line ++ 10 ∷ []

-- blanks and remarks in turn, possibly none
abbrev pub IsSeparatorText : List ℕ → Type 0
IsSeparatorText bytes = (separators : List Separator) × Each IsSeparator separators × (bytes ≡ flat_map separator_bytes separators)

-- at the end of the text a tail remark needs no end of line
abbrev pub IsLastSeparatorText : List ℕ → Type 0
IsLastSeparatorText bytes = IsSeparatorText bytes ⊎ ((gap line : List ℕ) × (bytes ≡ gap ++ 45 ∷ 45 ∷ line) × IsSeparatorText gap × Each (λ byte. byte ≢ 10) line)
