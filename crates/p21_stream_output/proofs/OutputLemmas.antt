-- What is written is the canonical file of blocks.
use Rattle.std.proofs.Common.{◌≡◌, ℕ, List, [], ◌∷◌, ◌++◌, codes, map, refl, ap, ◌∙◌}
use Rattle.std.proofs.lemmas.List.{append_assoc}
use Rattle.std.specs.List.{AllZip, flat_map}
use Rattle.p21_spec_laws.specs.CompleteFile.{Block, Line, block_bytes, line_bytes}
use Rattle.p21_spec_laws.specs.Keeping.{text_with_header}
use Rattle.p21_spec_exchange.specs.CanonicalText.{statement_text}
use Rattle.p21_spec_exchange.specs.Statement.{data_start, section}
use Rattle.p21_stream_output.specs.Output.{WrittenSection, line_of, lines_of, section_text, sections_text, written_text}
use Rattle.p21_stream_output.specs.Writing.{IsWrittenBlock}

lines-are : (ls : List Line) → lines_of (map (λ (l : Line). l.1) ls) ≡ flat_map line_bytes ls
lines-are [] = refl
lines-are (l ∷ ls) = ap (λ (xs : List ℕ). line_of l.1 ++ xs) (lines-are ls)

section-is : (w : WrittenSection) (b : Block) → IsWrittenBlock w b → section_text w ≡ block_bytes b
section-is w b is =
    ap (λ (l : List ℕ). line_of l ++ (lines_of w.texts ++ line_of (codes "ENDSEC;"))) is.line_is
    ∙ ap (λ (ts : List (List ℕ)). line_of (statement_text (section (data_start b.heading))) ++ (lines_of ts ++ line_of (codes "ENDSEC;")))
    is.texts_are
    ∙ ap (λ (xs : List ℕ). line_of (statement_text (section (data_start b.heading))) ++ (xs ++ line_of (codes "ENDSEC;")))
    (lines-are b.lines)

sections-are : (ws : List WrittenSection) (bs : List Block) → AllZip IsWrittenBlock ws bs → sections_text ws ≡ flat_map block_bytes bs
sections-are [] [] all = refl
sections-are [] (b ∷ bs) all = absurd all
sections-are (w ∷ ws) [] all = absurd all
sections-are (w ∷ ws) (b ∷ bs) all = ap (λ (xs : List ℕ). xs ++ sections_text ws) (section-is w b all.0)
    ∙ ap (λ (xs : List ℕ). block_bytes b ++ xs) (sections-are ws bs all.1)

pub output-is : (header : List ℕ) (ws : List WrittenSection) (bs : List Block) → AllZip IsWrittenBlock ws bs
    → written_text header ws ≡ text_with_header header bs
output-is header ws bs all =
    let end : List ℕ = line_of (codes "END-ISO-10303-21;") in
    let first : List ℕ = line_of (codes "ISO-10303-21;") ++ line_of (codes "HEADER;") in
    append_assoc first (header ++ line_of (codes "ENDSEC;")) (sections_text ws ++ end)
    ∙ ap (λ (xs : List ℕ). first ++ xs) (append_assoc header (line_of (codes "ENDSEC;")) (sections_text ws ++ end))
    ∙ ap (λ (xs : List ℕ). first ++ (header ++ (line_of (codes "ENDSEC;") ++ (xs ++ end)))) (sections-are ws bs all)
