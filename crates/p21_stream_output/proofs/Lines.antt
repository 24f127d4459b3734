-- The line of an instance in the file that is written.
use Rattle.std.proofs.Common.{◌≡◌, ℕ, List, [], ◌∷◌, ◌++◌, codes, sym, ap, subst, ◌∙◌, inl, inr}
use Rattle.std.proofs.lemmas.List.{append_assoc}
use Rattle.std.specs.Prelude.{Contains}
use Rattle.p21_spec_basics.proofs.Members.{Contains-cases, Contains-none}
use Rattle.p21_stream_output.specs.Output.{Output, IsWholeLine, WrittenSection, header_text, line_of, lines_of, output_text, section_text, sections_text}

-- ---- with more in front of it, or behind it

alone-behind : (front text file : List ℕ) → IsWholeLine text file → IsWholeLine text (front ++ file)
alone-behind front text file alone = record {
  before = front ++ alone.before;
  after = alone.after;
  stands = ap (λ (xs : List ℕ). front ++ xs) alone.stands ∙ sym (append_assoc front alone.before (10 ∷ (text ++ (10 ∷ alone.after))));
}

alone-before : (text file back : List ℕ) → IsWholeLine text file → IsWholeLine text (file ++ back)
alone-before text file back alone = record {
  before = alone.before;
  after = alone.after ++ back;
  stands =
      ap (λ (xs : List ℕ). xs ++ back) alone.stands
      ∙ append_assoc alone.before (10 ∷ (text ++ (10 ∷ alone.after))) back
      ∙ ap (λ (xs : List ℕ). alone.before ++ (10 ∷ xs)) (append_assoc text (10 ∷ alone.after) back);
}

-- ---- among lines, in a section, in a file

alone-in_lines : (front : List ℕ) (texts : List (List ℕ)) (text : List ℕ) → Contains texts text
    → IsWholeLine text (front ++ (10 ∷ lines_of texts))
alone-in_lines front [] text among = absurd (Contains-none text among)
alone-in_lines front (first ∷ texts) text among = elim (Contains-cases first texts text among) [
  | inl same ↦
      let P : List ℕ → Type 0 = λ t. IsWholeLine text (front ++ (10 ∷ (line_of t ++ lines_of texts))) in
      subst P (sym same) (record {
        before = front;
        after = lines_of texts;
        stands =
            ap (λ (xs : List ℕ). front ++ (10 ∷ xs)) (append_assoc text (10 ∷ []) (lines_of texts));
      })
  | inr later ↦
      let moved : front ++ (10 ∷ (line_of first ++ lines_of texts)) ≡ (front ++ (10 ∷ first)) ++ (10 ∷ lines_of texts) =
      ap (λ (xs : List ℕ). front ++ (10 ∷ xs)) (append_assoc first (10 ∷ []) (lines_of texts))
      ∙ sym (append_assoc front (10 ∷ first) (10 ∷ lines_of texts)) in
      subst (IsWholeLine text) (sym moved) (alone-in_lines (front ++ (10 ∷ first)) texts text later)
]

alone-in_section : (w : WrittenSection) (text : List ℕ) → Contains w.texts text → IsWholeLine text (section_text w)
alone-in_section w text among =
    let end : List ℕ = line_of (codes "ENDSEC;") in
    let moved : section_text w ≡ (w.line ++ (10 ∷ lines_of w.texts)) ++ end =
    append_assoc w.line (10 ∷ []) (lines_of w.texts ++ end) ∙ sym (append_assoc w.line (10 ∷ lines_of w.texts) end) in
    subst (IsWholeLine text) (sym moved) (alone-before text (w.line ++ (10 ∷ lines_of w.texts)) end
    (alone-in_lines w.line w.texts text among))

alone-in_sections : (ws : List WrittenSection) (w : WrittenSection) (text : List ℕ) → Contains ws w → Contains w.texts text
    → IsWholeLine text (sections_text ws)
alone-in_sections [] w text at among = absurd (Contains-none w at)
alone-in_sections (first ∷ ws) w text at among = elim (Contains-cases first ws w at) [
  | inl same ↦
      let P : WrittenSection → Type 0 = λ x. IsWholeLine text (section_text x ++ sections_text ws) in
      subst P (sym same) (alone-before text (section_text w) (sections_text ws) (alone-in_section w text among))
  | inr later ↦ alone-behind (section_text first) text (sections_text ws) (alone-in_sections ws w text later among)
]

pub alone-in_file : (o : Output) (w : WrittenSection) (text : List ℕ) → Contains o.sections w → Contains w.texts text
    → IsWholeLine text (output_text o)
alone-in_file o w text at among =
    let end : List ℕ = line_of (codes "END-ISO-10303-21;") in
    alone-behind (header_text o.header) text (sections_text o.sections ++ end)
    (alone-before text (sections_text o.sections) end (alone-in_sections o.sections w text at among))
