-- Two texts read piece by piece.
use Rattle.std.specs.Prelude.{◌≡◌, ◌≢◌, ◌↔◌, ◌<◌, ◌+◌, ℕ, List, [], ◌∷◌, ◌++◌, length, take, drop, refl}
use Rattle.std.proofs.Common.{arith, ap, ap₂, sym, ◌∙◌}
use Rattle.std.proofs.lemmas.List.{length-append, length-drop, nil_from_length, take-append-drop}
use Rattle.p21_stream_output.specs.Reading.{Takes}

take-front : (xs ys : List ℕ) → take (length xs) (xs ++ ys) ≡ xs
take-front [] ys = refl
take-front (x ∷ xs) ys = ap (λ (zs : List ℕ). x ∷ zs) (take-front xs ys)

-- what was put into the buffer is the beginning of the text
piece-is : (text left old new : List ℕ) (count : ℕ) → Takes text left old new count → take count new ≡ take (length old) text
piece-is text left old new count takes =
    ap₂ take takes.counted takes.filled ∙ take-front (take (length old) text) (drop count old)

-- a text is as long as both parts of it
both-long : (size : ℕ) (xs : List ℕ) → length (take size xs) + length (drop size xs) ≡ length xs
both-long size xs = sym (length-append (take size xs) (drop size xs)) ∙ ap length (take-append-drop size xs)

none-from : (size : ℕ) (xs : List ℕ) → 0 < size → length (take size xs) ≡ 0 → xs ≡ []
none-from size xs some none =
    let both = both-long size xs in
    let dropped = length-drop size xs in
    nil_from_length xs (omega (arith, both, dropped, some, none))

less-left : (size : ℕ) (xs : List ℕ) → length (take size xs) ≢ 0 → length (drop size xs) < length xs
less-left size xs more = let both = both-long size xs in omega (arith, both, more)

-- the buffer stays as long as it is
pub buffer-long : (text left old new : List ℕ) (count : ℕ) → Takes text left old new count → length new ≡ length old
buffer-long text left old new count takes =
    let front = take (length old) text in
    let both = both-long (length old) text in
    let behind = length-drop (length old) text in
    let new_is = ap length takes.filled ∙ length-append front (drop count old) in
    let dropped = length-drop count old in
    let counted = takes.counted in
    omega (arith, both, behind, new_is, dropped, counted)

module _ (size : ℕ) (some : 0 < size) (text left old new : List ℕ) (count : ℕ) (other rest before after : List ℕ) (many : ℕ)
    (takes : Takes text left old new count) (takes_ : Takes other rest before after many)
    (long : length old ≡ size) (long_ : length before ≡ size) where
  first : take count new ≡ take size text
  first = piece-is text left old new count takes ∙ ap (λ (n : ℕ). take n text) long

  second : take many after ≡ take size other
  second = piece-is other rest before after many takes_ ∙ ap (λ (n : ℕ). take n other) long_

  left-is : left ≡ drop size text
  left-is = takes.left_is ∙ ap (λ (n : ℕ). drop n text) long

  rest-is : rest ≡ drop size other
  rest-is = takes_.left_is ∙ ap (λ (n : ℕ). drop n other) long_

  count-is : count ≡ length (take size text)
  count-is = takes.counted ∙ ap (λ (n : ℕ). length (take n text)) long

  -- texts whose pieces differ are two
  pub pieces-differ : take count new ≢ take many after → text ≢ other
  pieces-differ differ same = differ (first ∙ ap (take size) same ∙ sym second)

  -- behind pieces that are equal
  pub pieces-same : take count new ≡ take many after → (left ≡ rest) ↔ (text ≡ other)
  pieces-same same = (
    λ equal. sym (take-append-drop size text) ∙ ap₂ (λ (xs ys : List ℕ). xs ++ ys) (sym first ∙ same ∙ second)
        (sym left-is ∙ equal ∙ rest-is) ∙ take-append-drop size other,
    λ equal. left-is ∙ ap (drop size) equal ∙ sym rest-is,
  )

  -- at the end of the first
  pub pieces-ended : take count new ≡ take many after → count ≡ 0 → text ≡ other
  pieces-ended same none =
      let empty : length (take size text) ≡ 0 = sym count-is ∙ none in
      let empty_ : length (take size other) ≡ 0 = sym (ap length (sym first ∙ same ∙ second)) ∙ empty in
      none-from size text some empty ∙ sym (none-from size other some empty_)

  -- before it, less is left
  pub pieces-shorter : count ≢ 0 → length left < length text
  pieces-shorter more =
      let is = ap length left-is in
      let less = less-left size text (λ none. more (count-is ∙ none)) in
      omega (arith, is, less)
