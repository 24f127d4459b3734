-- The bytes that come next, and how many these are.
use Rattle.std.proofs.Common.{◌≡◌, ◌≤◌, ◌<◌, ◌+◌, ℕ, List, [], ◌∷◌, ◌++◌, length, take, drop, Option, Some, None, sym, ap, ◌∙◌}
use Rattle.std.proofs.Common.{append_assoc, length-append, arith}
use Rattle.std.proofs.lemmas.List.{drop-append-le, drop_all, length-take-le, take-append-drop}
use Rattle.p21_stream_statements.proofs.Pieces.{seen-first}
use Rattle.p21_stream_statements.specs.StatementReader.{IsSeenAt}

-- ---- the byte that was looked at

seen-more : (seen : Option ℕ) (front more : List ℕ) → IsSeenAt seen front 0 → IsSeenAt seen (front ++ more) 0
seen-more None front more at = tt
seen-more (Some byte) [] more at = absurd cc
seen-more (Some byte) (x ∷ xs) more at = at

-- behind so many of a piece it is the first that comes next
pub seen-next : (seen : Option ℕ) (count : ℕ) (piece more : List ℕ) → IsSeenAt seen piece count → IsSeenAt seen (drop count piece ++ more) 0
seen-next seen count piece more at = seen-more seen (drop count piece) more (seen-first seen count piece at)

-- and the first of the front that is offered
pub seen-front : (seen : Option ℕ) (front more : List ℕ) → 0 < length front → IsSeenAt seen (front ++ more) 0 → IsSeenAt seen front 0
seen-front None front more some at = tt
seen-front (Some byte) [] more some at = absurd (omega (arith, some))
seen-front (Some byte) (x ∷ xs) more some at = at

-- ---- how many

pub parts-length : (count : ℕ) (l : List ℕ) → length (take count l) + length (drop count l) ≡ length l
parts-length count l = sym (length-append (take count l) (drop count l)) ∙ ap length (take-append-drop count l)

-- bytes that are taken from those that come next
pub counts-on : (start next size count : ℕ) (buffer on piece more : List ℕ) → next ≡ start → on ≡ buffer ++ take count piece
    → start + (length buffer + length (piece ++ more)) ≡ size → next + (length on + length (drop count piece ++ more)) ≡ size
counts-on start next size count buffer on piece more same on_is counted =
    let one = ap length on_is in
    let two = length-append buffer (take count piece) in
    let three = parts-length count piece in
    let four = length-append piece more in
    let five = length-append (drop count piece) more in
    omega (arith, same, one, two, three, four, five, counted)

-- bytes that are passed, with nothing of them in the buffer any more
pub counts-behind : (start next size passed : ℕ) (front bytes buffer more : List ℕ) → start ≡ length front
    → next ≡ length (front ++ take passed bytes) → buffer ≡ [] → start + (length bytes + length more) ≡ size
    → next + (length buffer + length (drop passed bytes ++ more)) ≡ size
counts-behind start next size passed front bytes buffer more start_is next_is anew counted =
    let one = length-append front (take passed bytes) in
    let two = ap length anew in
    let three = parts-length passed bytes in
    let four = length-append (drop passed bytes) more in
    omega (arith, start_is, next_is, one, two, three, four, counted)

-- the same of all of them
pub counts-closed : (start next size : ℕ) (front bytes buffer more : List ℕ) → start ≡ length front → next ≡ length (front ++ bytes)
    → buffer ≡ [] → start + (length bytes + length more) ≡ size → next + (length buffer + length more) ≡ size
counts-closed start next size front bytes buffer more start_is next_is anew counted =
    let one = length-append front bytes in
    let two = ap length anew in
    omega (arith, start_is, next_is, one, two, counted)

-- fewer bytes come next behind some of a piece
pub fewer-ahead : (count : ℕ) (piece more : List ℕ) → 0 < count → count ≤ length piece
    → length (drop count piece ++ more) < length (piece ++ more)
fewer-ahead count piece more some within =
    let one = parts-length count piece in
    let two : length (take count piece) ≡ count = length-take-le count piece within in
    let three = length-append piece more in
    let four = length-append (drop count piece) more in
    omega (arith, one, two, three, four, some)

-- what comes next where all of a piece is read
pub none-left : (again piece more : List ℕ) (count : ℕ) → again ≡ [] → count ≡ length piece → more ≡ again ++ (drop count piece ++ more)
none-left again piece more count none size =
    let rest : drop count piece ≡ [] = drop_all count piece (omega (arith, size)) in
    sym (ap (λ (l : List ℕ). l ++ (drop count piece ++ more)) none ∙ ap (λ (l : List ℕ). l ++ more) rest)

-- ---- windows

-- what is left behind so many of a front
pub behind-front : (count : ℕ) (front behind more : List ℕ) → count ≤ length front
    → drop count front ++ (behind ++ more) ≡ drop count (front ++ behind) ++ more
behind-front count front behind more within = sym (append_assoc (drop count front) behind more)
    ∙ ap (λ (l : List ℕ). l ++ more) (sym (drop-append-le count front behind within))
