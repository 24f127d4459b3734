-- The canonical file as it is read piece by piece.
use Rattle.std.proofs.Common.{◌≡◌, ◌+◌, ◌-◌, ◌<◌, ◌≤◌, ℕ, zero, suc, List, [], ◌∷◌, ◌++◌, codes, length, map, take, drop, get_or, refl, sym, ap, subst, ◌∙◌, arith}
use Rattle.std.proofs.lemmas.List.{append_assoc, append-nil, drop_at, drop-append-le, drop-drop, drop-take, drop_all, get_or-append-add, get_or_append_left, get_or-map, length-append, length-drop, length-map, length-take, length-take-le, take_at, take_rest, take-append-drop, take-append-le, take-take}
use Rattle.std.specs.List.{flat_map, AllByRecursion as Each}
use Rattle.p21_stream_output.specs.Output.{Output, WrittenSection, header_text, line_of, lines_of, output_text, section_text, sections_text, written_text}
use Rattle.p21_stream_output.specs.Reading.{IsFrontOf, behind_line, closed_lines, end_lines, header_lines, joined, line_at, lines_at, rest_at, rest_of, section_lines, start, written_parts}
use Rattle.p21_stream_output.specs.Stored.{texts_at, written_section}
use Rattle.p21_stream_output.specs.declared.accepted.Section.{Section}
use Rattle.p21_stream_output.proofs.Putting.{each-read}
use Rattle.p21_stream_store.specs.StoredInstance.{StoredInstance, text_at}

-- ---- an element and those behind it

first-and-later : {X : Type 0} (f : X → List ℕ) (xs : List X) (k : ℕ) (d : X) → f d ≡ []
    → flat_map f (drop k xs) ≡ f (get_or xs k d) ++ flat_map f (drop (suc k) xs)
first-and-later f [] zero d none = ap (λ (l : List ℕ). l ++ []) (sym none)
first-and-later f [] (suc k) d none = ap (λ (l : List ℕ). l ++ []) (sym none)
first-and-later f (x ∷ xs) zero d none = refl
first-and-later f (x ∷ xs) (suc k) d none = first-and-later f xs k d none

first-and-rest : {X : Type 0} (f : X → List ℕ) (xs : List X) (k : ℕ) (d : X) → f d ≡ []
    → flat_map f (drop k xs) ≡ f (get_or xs k d) ++ flat_map f (drop (k + 1) xs)
first-and-rest f xs k d none = let next : suc k ≡ k + 1 = omega arith in first-and-later f xs k d none
    ∙ ap (λ (n : ℕ). f (get_or xs k d) ++ flat_map f (drop n xs)) next

pub behind-first : {X : Type 0} (x : X) (xs : List X) (k : ℕ) (d : X) → 0 < k → get_or (x ∷ xs) k d ≡ get_or xs (k - 1) d
behind-first x xs zero d some = absurd (omega (arith, some))
behind-first x xs (suc k) d some = let e : suc k - 1 ≡ k = omega arith in rw e refl

-- ---- the lines of a section

pub length-closed : (first : List ℕ) (texts : List (List ℕ)) → length (closed_lines first texts) ≡ length texts + 1
length-closed first [] = refl
length-closed first (text ∷ texts) = omega (arith, length-closed text texts)

pub closed-at : (first : List ℕ) (texts : List (List ℕ)) (k : ℕ) → k < length texts
    → get_or (closed_lines first texts) k [] ≡ line_of (get_or (first ∷ texts) k [])
closed-at first [] k low = absurd (omega (arith, low))
closed-at first (text ∷ texts) zero low = refl
closed-at first (text ∷ texts) (suc k) low = closed-at text texts k (omega (arith, low))

pub closed-last : (first : List ℕ) (texts : List (List ℕ)) (k : ℕ) → k ≡ length texts
    → get_or (closed_lines first texts) k [] ≡ line_of (get_or (first ∷ texts) k []) ++ line_of (codes "ENDSEC;")
closed-last first [] zero last = refl
closed-last first [] (suc k) last = absurd (omega (arith, last))
closed-last first (text ∷ texts) zero last = absurd (omega (arith, last))
closed-last first (text ∷ texts) (suc k) last = closed-last text texts k (omega (arith, last))

joined-closed : (first : List ℕ) (texts : List (List ℕ))
    → joined (closed_lines first texts) ≡ line_of first ++ (lines_of texts ++ line_of (codes "ENDSEC;"))
joined-closed first [] = append-nil (line_of first ++ line_of (codes "ENDSEC;"))
joined-closed first (text ∷ texts) =
    ap (λ (l : List ℕ). line_of first ++ l) (joined-closed text texts
    ∙ sym (append_assoc (line_of text) (lines_of texts) (line_of (codes "ENDSEC;"))))

-- ---- the parts of a file

joined-sections : (ws : List WrittenSection) → flat_map joined (map section_lines ws ++ end_lines ∷ []) ≡ sections_text ws
    ++ line_of (codes "END-ISO-10303-21;")
joined-sections [] = append-nil (line_of (codes "END-ISO-10303-21;") ++ []) ∙ append-nil (line_of (codes "END-ISO-10303-21;"))
joined-sections (w ∷ ws) =
    ap (λ (l : List ℕ). l ++ flat_map joined (map section_lines ws ++ end_lines ∷ [])) (joined-closed w.line w.texts)
    ∙ ap (λ (l : List ℕ). section_text w ++ l) (joined-sections ws)
    ∙ sym (append_assoc (section_text w) (sections_text ws) (line_of (codes "END-ISO-10303-21;")))

joined-header : (header : List ℕ) → joined (header_lines header) ≡ header_text header
joined-header header =
    let end : List ℕ = line_of (codes "ENDSEC;") in
    ap (λ (l : List ℕ). (line_of (codes "ISO-10303-21;") ++ line_of (codes "HEADER;")) ++ l) (append-nil (header ++ end))

joined-parts : (header : List ℕ) (ws : List WrittenSection) → flat_map joined (written_parts header ws) ≡ written_text header ws
joined-parts header ws =
    ap (λ (l : List ℕ). l ++ flat_map joined (map section_lines ws ++ end_lines ∷ [])) (joined-header header)
    ∙ ap (λ (l : List ℕ). header_text header ++ l) (joined-sections ws)

pub length-parts : (header : List ℕ) (ws : List WrittenSection) → length (written_parts header ws) ≡ length ws + 2
length-parts header ws = omega (arith, length-append (map section_lines ws) (end_lines ∷ []), length-map ws section_lines)

part-section : (header : List ℕ) (ws : List WrittenSection) (part : ℕ) (d : WrittenSection) → 0 < part → part ≤ length ws
    → lines_at (written_parts header ws) part ≡ section_lines (get_or ws (part - 1) d)
part-section header ws part d some low =
    behind-first (header_lines header) (map section_lines ws ++ end_lines ∷ []) part [] some
    ∙ get_or_append_left (map section_lines ws) (end_lines ∷ []) [] (part - 1) (omega (arith, some, low, length-map ws section_lines))
    ∙ get_or-map section_lines ws (part - 1) d [] (omega (arith, some, low))

pub end-at : (parts : List (List (List ℕ))) (header : List ℕ) (ws : List WrittenSection) (part : ℕ) → parts ≡ written_parts header ws
    → length ws < part → part < length parts → lines_at parts part ≡ end_lines
end-at parts header ws part is behind within =
    let count : length parts ≡ length ws + 2 = ap (λ (l : List (List (List ℕ))). length l) is ∙ length-parts header ws in
    let at : part - 1 ≡ length (map section_lines ws) + 0 = omega (arith, behind, within, count, length-map ws section_lines) in
    ap (λ (l : List (List (List ℕ))). lines_at l part) is
    ∙ behind-first (header_lines header) (map section_lines ws ++ end_lines ∷ []) part [] (omega (arith, behind))
    ∙ ap (λ (n : ℕ). get_or (map section_lines ws ++ end_lines ∷ []) n []) at
    ∙ get_or-append-add (map section_lines ws) (end_lines ∷ []) 0 []

-- of sections that name positions
pub section-at : (parts : List (List (List ℕ))) (header : List ℕ) (kept : List StoredInstance) (sections : List Section) (part : ℕ)
    (d : Section) → parts ≡ written_parts header (map (written_section kept) sections) → 0 < part → part ≤ length sections
    → lines_at parts part ≡ section_lines (written_section kept (get_or sections (part - 1) d))
section-at parts header kept sections part d is some low =
    ap (λ (l : List (List (List ℕ))). lines_at l part) is
    ∙ part-section header (map (written_section kept) sections) part (written_section kept d) some
    (omega (arith, low, length-map sections (written_section kept)))
    ∙ ap section_lines (get_or-map (written_section kept) sections (part - 1) d (written_section kept d) (omega (arith, some, low)))

pub length-section : (parts : List (List (List ℕ))) (header : List ℕ) (kept : List StoredInstance) (sections : List Section) (part : ℕ)
    (d : Section) → parts ≡ written_parts header (map (written_section kept) sections) → 0 < part → part ≤ length sections
    → length (lines_at parts part) ≡ length (get_or sections (part - 1) d).instance_positions + 1
length-section parts header kept sections part d is some low =
    let x : Section = get_or sections (part - 1) d in
    ap (λ (l : List (List ℕ)). length l) (section-at parts header kept sections part d is some low)
    ∙ length-closed x.line.items (texts_at kept x.instance_positions)
    ∙ ap (λ (n : ℕ). n + 1) (length-map x.instance_positions (text_at kept))

-- each part has lines
abbrev HasLine : List (List ℕ) → Type 0
HasLine lines = 0 < length lines

sections-some : (ws : List WrittenSection) → Each HasLine (map section_lines ws ++ end_lines ∷ [])
sections-some [] = (omega arith, record {})
sections-some (w ∷ ws) = (omega (arith, length-closed w.line w.texts), sections-some ws)

pub lines-some : (parts : List (List (List ℕ))) (header : List ℕ) (kept : List StoredInstance) (sections : List Section) (part : ℕ)
    → parts ≡ written_parts header (map (written_section kept) sections) → part ≤ length sections + 1 → 0 < length (lines_at parts part)
lines-some parts header kept sections part is low =
    let ws : List WrittenSection = map (written_section kept) sections in
    let all : Each HasLine (written_parts header ws) = (omega arith, sections-some ws) in
    subst (λ (l : List (List (List ℕ))). 0 < length (lines_at l part)) (sym is)
    (each-read HasLine (written_parts header ws) part [] all
    (omega (arith, low, length-parts header ws, length-map sections (written_section kept))))

-- ---- what stands behind a cursor

-- behind the last byte of a line stands the next line
pub next-line : (parts : List (List (List ℕ))) (part line : ℕ)
    → behind_line parts part line ≡ rest_of parts (record { part = part; line = line + 1; byte = 0 })
next-line parts part line =
    ap (λ (l : List ℕ). l ++ flat_map joined (drop (part + 1) parts))
    (first-and-rest (λ (x : List ℕ). x) (lines_at parts part) (line + 1) [] refl)
    ∙ append_assoc (line_at parts part (line + 1)) (joined (drop (line + 1 + 1) (lines_at parts part)))
    (flat_map joined (drop (part + 1) parts))

from-first-line : (lines : List (List ℕ)) → joined lines ≡ get_or lines 0 [] ++ joined (drop 1 lines)
from-first-line lines = first-and-rest (λ (x : List ℕ). x) lines 0 [] refl

-- from a part on
pub from-part : (parts : List (List (List ℕ))) (part : ℕ)
    → flat_map joined (drop part parts) ≡ rest_of parts (record { part = part; line = 0; byte = 0 })
from-part parts part =
    first-and-rest joined parts part [] refl
    ∙ ap (λ (l : List ℕ). l ++ flat_map joined (drop (part + 1) parts)) (from-first-line (lines_at parts part))
    ∙ append_assoc (line_at parts part 0) (joined (drop 1 (lines_at parts part))) (flat_map joined (drop (part + 1) parts))

-- behind the last line of a part stands the next part
pub next-part : (parts : List (List (List ℕ))) (part line : ℕ) → length (lines_at parts part) ≤ line + 1
    → behind_line parts part line ≡ rest_of parts (record { part = part + 1; line = 0; byte = 0 })
next-part parts part line last =
    ap (λ (l : List (List ℕ)). joined l ++ flat_map joined (drop (part + 1) parts)) (drop_all (line + 1) (lines_at parts part) last)
    ∙ from-part parts (part + 1)

-- behind the last line of the last part stands nothing
pub at-end : (parts : List (List (List ℕ))) (part line : ℕ) → length (lines_at parts part) ≤ line + 1 → length parts ≤ part + 1
    → behind_line parts part line ≡ []
at-end parts part line last last-part =
    ap (λ (l : List (List ℕ)). joined l ++ flat_map joined (drop (part + 1) parts)) (drop_all (line + 1) (lines_at parts part) last)
    ∙ ap (flat_map joined) (drop_all (part + 1) parts last-part)

-- at the beginning stands the whole file
pub from-start : (o : Output) → rest_at o start ≡ output_text o
from-start o = sym (from-part (written_parts o.header o.sections) 0) ∙ joined-parts o.header o.sections

-- ---- a line in two places

pub front-of-end : (text end all : List ℕ) (byte : ℕ) → all ≡ text ++ end → length text ≤ byte
    → IsFrontOf (take (length end - (byte - length text)) (drop (byte - length text) end)) (drop byte all)
front-of-end text end all byte is past =
    let k : ℕ = byte - length text in
    let at : byte ≡ length text + k = omega (arith, past) in
    let rest : drop byte all ≡ drop k end =
    ap (drop byte) is ∙ ap (λ (n : ℕ). drop n (text ++ end)) at ∙ sym (drop-drop k (length text) (text ++ end))
    ∙ ap (drop k) (drop_at text end (length text) refl) in
    record {
      more = [];
      whole = rest ∙ sym (take_rest end k) ∙ sym (append-nil (take (length end - k) (drop k end)));
      some = λ none. rest ∙ sym (take_rest end k) ∙ none;
    }

-- ---- a buffer that is filled

-- so many bytes of a text stand in a buffer, and this is left of the text
pub record Stands (text rest old now : List ℕ) (filled : ℕ) : Type 0 where
  pub within : filled ≤ length text
  pub room : filled ≤ length old
  pub bytes : now ≡ take filled text ++ drop filled old
  pub rest_is : rest ≡ drop filled text

pub same-stands : (text rest other old now : List ℕ) (filled : ℕ) → other ≡ rest → Stands text rest old now filled
    → Stands text other old now filled
same-stands text rest other old now filled same s = record { within = s.within; room = s.room; bytes = s.bytes; rest_is = same ∙ s.rest_is }

pub same-room : (text rest old now : List ℕ) (filled : ℕ) → Stands text rest old now filled → length now ≡ length old
same-room text rest old now filled s =
    omega (
      arith,
      s.within,
      s.room,
      ap (λ (l : List ℕ). length l) s.bytes,
      length-append (take filled text) (drop filled old),
      length-take-le filled text s.within,
      length-drop filled old,
    )

take-more : (text : List ℕ) (n k : ℕ) → take (n + k) text ≡ take n text ++ take k (drop n text)
take-more text n k =
    sym (take-append-drop n (take (n + k) text))
    ∙ ap (λ (l : List ℕ). l ++ drop n (take (n + k) text)) (take-take n (n + k) text (omega arith))
    ∙ ap (λ (l : List ℕ). take n text ++ l) (drop-take n k text)

-- more bytes are put: so many of a piece in front of what is left of a line
pub more-filled : (text old now new piece line behind : List ℕ) (byte filled count : ℕ)
    → Stands text (drop byte line ++ behind) old now filled → IsFrontOf piece (drop byte line)
    → count ≡ length (take (length now - filled) piece)
    → new ≡ take filled now ++ (take count piece ++ drop (filled + count) now)
    → Stands text (drop (byte + count) line ++ behind) old new (filled + count)
more-filled text old now new piece line behind byte filled count s front counted put =
    let rest : List ℕ = drop byte line ++ behind in
    let filled_bytes : length (take filled text) ≡ filled = length-take-le filled text s.within in
    let few : count ≤ length piece = omega (arith, counted, length-take (length now - filled) piece) in
    let room : count ≤ length old - filled = omega (
      arith,
      counted,
      length-take (length now - filled) piece,
      same-room text rest old now
          filled s,
    ) in
    let of_line : count ≤ length (drop byte line) = omega
    (arith, few, ap (λ (l : List ℕ). length l) front.whole, length-append piece front.more) in
    let of_rest : count ≤ length text - filled =
    omega (arith, of_line, length-append (drop byte line) behind, ap (λ (l : List ℕ). length l) s.rest_is, length-drop filled text) in
    let begun : take filled now ≡ take filled text = ap (take filled) s.bytes
    ∙ take_at (take filled text) (drop filled old) filled filled_bytes in
    let added : take count piece ≡ take count (drop filled text) =
    sym (take-append-le count piece front.more few)
    ∙ ap (take count) (sym front.whole)
    ∙ sym (take-append-le count (drop byte line) behind of_line)
    ∙ ap (take count) s.rest_is in
    let left : drop (filled + count) now ≡ drop (filled + count) old =
    sym (drop-drop count filled now)
    ∙ ap (λ (l : List ℕ). drop count (drop filled l)) s.bytes
    ∙ ap (drop count) (drop_at (take filled text) (drop filled old) filled filled_bytes)
    ∙ drop-drop count filled old in
    record {
      within = omega (arith, of_rest, s.within);
      room = omega (arith, room, s.room);
      bytes =
          put
          ∙ ap (λ (l : List ℕ). l ++ (take count piece ++ drop (filled + count) now)) begun
          ∙ ap (λ (l : List ℕ). take filled text ++ (l ++ drop (filled + count) now)) added
          ∙ ap (λ (l : List ℕ). take filled text ++ (take count (drop filled text) ++ l)) left
          ∙ sym (append_assoc (take filled text) (take count (drop filled text)) (drop (filled + count) old))
          ∙ ap (λ (l : List ℕ). l ++ drop (filled + count) old) (sym (take-more text filled count));
      rest_is =
          ap (λ (l : List ℕ). l ++ behind) (sym (drop-drop count byte line))
          ∙ sym (drop-append-le count (drop byte line) behind of_line)
          ∙ ap (drop count) s.rest_is
          ∙ drop-drop count filled text;
    }
