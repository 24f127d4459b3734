-- Texts at positions of a list.
use Rattle.std.proofs.Common.{◌≡◌, ◌+◌, ℕ, List, [], ◌∷◌, ◌++◌, map, take, drop, get_or, Option, Some, None, ap, ◌∙◌, arith}
use Rattle.std.proofs.lemmas.List.{get_or-drop, length-drop, map-append, take_more}
use Rattle.std.proofs.lemmas.Option.{get_or_from_slice_get, slice_get_within}
use Rattle.std.specs.List.{slice_get}
use Rattle.p21_stream_store.specs.StoredInstance.{StoredInstance, text_at}

text-got : (kept : List StoredInstance) (place : ℕ) (x : StoredInstance) → slice_get kept place ≡ Some x → text_at kept place ≡ x.text
text-got kept place x got = ap (λ (o : Option StoredInstance). elim o [ Some y ↦ y.text | None ↦ [] ]) got

-- the text at one position more
pub one_more_text : (kept : List StoredInstance) (places : List ℕ) (from k place : ℕ) (x : StoredInstance)
    → slice_get places (from + k) ≡ Some place → slice_get kept place ≡ Some x
    → map (text_at kept) (take (k + 1) (drop from places)) ≡ map (text_at kept) (take k (drop from places)) ++ x.text ∷ []
one_more_text kept places from k place x at got =
    let within = slice_get_within places (from + k) place at in
    let here : get_or (drop from places) k 0 ≡ place = get_or-drop from places k 0 ∙ get_or_from_slice_get places (from + k) place 0 at in
    ap (map (text_at kept)) (take_more (drop from places) k 0 (omega (arith, within, length-drop from places)))
    ∙ map-append (text_at kept) (take k (drop from places)) (get_or (drop from places) k 0 ∷ [])
    ∙ ap (λ (text : List ℕ). map (text_at kept) (take k (drop from places)) ++ text ∷ [])
    (ap (text_at kept) here ∙ text-got kept place x got)
