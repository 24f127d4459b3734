-- The nodes of a file are those of its graph.
use Rattle.std.specs.Prelude.{◌≡◌, ◌<◌, ℕ, List, [], ◌∷◌, ◌++◌, map, length, suc, refl}
use Rattle.std.specs.Cmp.Lexicographic.{slice_cmp}
use Rattle.std.specs.Ordering.{nat_cmp, is_lt, ordering_then}
use Rattle.std.proofs.Common.{ap, sym, ◌∙◌}
use Rattle.p21_spec_basics.proofs.Shuffles.{Shuffled-none_twice, Shuffled-symmetric}
use Rattle.p21_spec_file.specs.File.{FileMeaning}
use Rattle.p21_spec_file.specs.Sorting.{is_below}
use Rattle.p21_spec_schema.specs.Schema.{Schema}
use Rattle.p21_spec_numbering.specs.Numbered.{graph_of}
use Rattle.p21_spec_numbering.specs.Renamed.{IsWhole, names}
use Rattle.p21_spec_numbering.specs.Uses.{Use, places_to}
use Rattle.p21_spec_numbering.proofs.Moved.{label-is, names-none_twice, places-is}
use Rattle.p21_numbering.specs.Nodes.{IsGraph, Node, name_at, names as names_of, node_at}
use Rattle.p21_numbering.specs.NodesOf.{AreNodesOf, row_of_texts}
use Rattle.p21_numbering.proofs.Terminated.{ends-compare}

-- rows compare as the texts in them
pub rows-compare : (ts us : List (List ℕ)) → slice_cmp nat_cmp (row_of_texts ts) (row_of_texts us) ≡ slice_cmp (slice_cmp nat_cmp) ts us
rows-compare [] [] = refl
rows-compare [] (u ∷ us) = nothing-first u
  where
    nothing-first : (u : List ℕ) → slice_cmp nat_cmp [] (map suc u ++ (0 ∷ row_of_texts us)) ≡ slice_cmp (slice_cmp nat_cmp) [] (u ∷ us)
    nothing-first [] = refl
    nothing-first (x ∷ xs) = refl
rows-compare (t ∷ ts) [] = nothing-last t
  where
    nothing-last : (t : List ℕ) → slice_cmp nat_cmp (map suc t ++ (0 ∷ row_of_texts ts)) [] ≡ slice_cmp (slice_cmp nat_cmp) (t ∷ ts) []
    nothing-last [] = refl
    nothing-last (x ∷ xs) = refl
rows-compare (t ∷ ts) (u ∷ us) =
    ends-compare t u (row_of_texts ts) (row_of_texts us) ∙ ap (ordering_then (slice_cmp nat_cmp t u)) (rows-compare ts us)

module _ (s : Schema) (m : FileMeaning) (whole_ : IsWhole m) (nodes : List Node) (are : AreNodesOf s m nodes) where
  label-row : (k : ℕ) → k < length nodes → (node_at nodes k).label ≡ row_of_texts ((graph_of s m).label (name_at nodes k))
  label-row k low =
      let is = are.each k low in
      is.label_is ∙ ap row_of_texts (sym (label-is s m whole_ (name_at nodes k) is.typed is.heading is.instance is.section))

  -- so their ranks are those of the file
  pub file-graph : IsGraph (graph_of s m) nodes
  file-graph = record {
    names_are = are.names_are;
    differ = Shuffled-none_twice (names m) (names_of nodes) (Shuffled-symmetric (names_of nodes) (names m) are.names_are)
        (names-none_twice m whole_);
    labels = λ j k low low_.
        let label : ℕ → List (List ℕ) = λ i. (graph_of s m).label (name_at nodes i) in
        ap is_lt (sym (rows-compare (label j) (label k)))
        ∙ ap (λ (x : List ℕ). is_below x (row_of_texts (label k))) (sym (label-row j low))
        ∙ ap (is_below (node_at nodes j).label) (sym (label-row k low_));
    places = λ j k low low_. let is = are.each j low in
        places-is s m whole_ (name_at nodes j) (name_at nodes k) is.typed is.instance
        ∙ ap (λ (us : List Use). places_to (name_at nodes k) us) (sym is.uses_are);
  }
