-- Lines of values, over the trees of the code.
use Rattle.std.proofs.Common.{◌≡◌, ◌≤◌, ℕ, true, false, codes, append_assoc, List, [], ◌∷◌, ◌++◌, length, take, map, refl, sym, ap, arith, ◌∙◌}
use Rattle.std.proofs.lemmas.List.{take_all}
use Rattle.std.specs.List.{flat_map}
use Rattle.p21_spec_exchange.proofs.Parameters.{listed-params}
use Rattle.p21_grammar_tree.specs.View.{items_of, key_view, part_view, part_views, view, views}
use Rattle.p21_grammar_tree.specs.declared.param.Param.{Param}
use Rattle.p21_grammar_tree.specs.declared.record.Part.{Part}
use Rattle.p21_spec_exchange.specs.Parameter.{listed}
use Rattle.p21_grammar_tree.proofs.Views.{view-List}
use Rattle.p21_grammar_tree.specs.declared.param.Params.{Params}
use Rattle.p21_grammar_tree.specs.declared.param.Param as param
use Rattle.p21_syntax_words.specs.HeaderText.{file_name_words, header_text, is_keyword, record_lines, string_lines, value_lines, values_lines}

-- the lines of each text of a list
strings-viewed : (word : List ℕ) (items : List Param) → flat_map (λ value. string_lines word (view value)) items ≡ flat_map (string_lines word) (listed (views items))
strings-viewed word [] = refl
strings-viewed word (p ∷ ps) = ap (λ (l : List ℕ). string_lines word (view p) ++ l) (strings-viewed word ps)

pub list-lines : (word : List ℕ) (value : Param) (values : Params) (items : List Param) → value ≡ param.List values → items ≡ items_of values → flat_map (λ p. string_lines word (view p)) items ≡ value_lines word (view value)
list-lines word value values items value_is items_are =
    strings-viewed word items ∙ ap (λ (ps : List Param). flat_map (string_lines word) (listed (views ps))) items_are
    ∙ sym (ap (value_lines word) (ap view value_is ∙ view-List values))

-- of no values, whatever their words
pub no-values : (words : List (List ℕ)) (values : List Param) → length values ≡ 0 → values_lines words (map view values) ≡ []
no-values [] values none = refl
no-values (w ∷ ws) [] none = refl
no-values (w ∷ ws) (p ∷ ps) none = absurd (omega (arith, none))

-- the second of the three records
pub file_name-lines : (part : Part) (values : List Param) → is_keyword (key_view part.key) (codes "FILE_DESCRIPTION") ≡ false → is_keyword (key_view part.key) (codes "FILE_NAME") ≡ true → values ≡ items_of part.params → values_lines file_name_words (map view values) ≡ record_lines (part_view part)
file_name-lines part values another second are = rw (another, second) (ap (values_lines file_name_words) (ap (map view) are ∙ sym (listed-params (map view (items_of part.params)))))

-- three texts behind what was there
pub put-three : (old first second third a b d : List ℕ) → first ≡ old ++ a → second ≡ first ++ b → third ≡ second ++ d → third ≡ old ++ (a ++ (b ++ d))
put-three old first second third a b d is_first is_second is_third =
    is_third ∙ ap (λ (l : List ℕ). l ++ d) (is_second ∙ ap (λ (l : List ℕ). l ++ b) is_first) ∙ append_assoc (old ++ a) b d ∙ append_assoc old a (b ++ d)

-- the records of a header, one by one
records-viewed : (parts : List Part) → flat_map (λ part. record_lines (part_view part)) parts ≡ header_text (part_views parts)
records-viewed [] = refl
records-viewed (p ∷ ps) = ap (λ (l : List ℕ). record_lines (part_view p) ++ l) (records-viewed ps)

pub whole-header : (parts : List Part) (text : List ℕ) (k : ℕ) → length parts ≤ k → text ≡ flat_map (λ part. record_lines (part_view part)) (take k parts) → text ≡ header_text (part_views parts)
whole-header parts text k ended is = is ∙ ap (flat_map (λ (part : Part). record_lines (part_view part))) (take_all k parts ended) ∙ records-viewed parts
