-- Counts of words as they grow.
use Rattle.std.proofs.Common.{◌≡◌, ◌<◌, ◌+◌, ℕ, append_assoc, get_or, length, take, Bool, true, false, cond, List, [], ◌∷◌, ◌++◌, Some, None, Option, map, arith, refl, sym, ap, subst, ◌∙◌, unwrap_or}
use Rattle.std.proofs.lemmas.List.{map-append, take_more}
use Rattle.std.proofs.lemmas.List.Sums.{sum_by_push}
use Rattle.std.proofs.lemmas.Map.Text.{is_eq-slice_cmp}
use Rattle.std.proofs.lemmas.Option.{none-some}
use Rattle.std.specs.BTreeMap.{insert_entry, is_at}
use Rattle.std.specs.Cmp.Lexicographic.{bytes_decides, nat_list_eq_equiv, slice_cmp}
use Rattle.std.specs.List.{AllByRecursion as Each}
use Rattle.std.specs.List.Sorted.{IsStrictlySortedBy}
use Rattle.std.specs.Map.{keys_of, lookup, set_value}
use Rattle.std.specs.Ordering.{is_eq, match_ordering, nat_cmp}
use Rattle.std.specs.Prelude.{count_by, if◌then◌else◌}
use Rattle.std.specs.Prelude as std
use Rattle.std.specs.Str.{bytes_eq}
use Rattle.std.specs.declared.alloc.Global.{Global}
use Rattle.std.specs.declared.cmp.Ordering.{Ordering}
use Rattle.std.specs.declared.cmp.Ordering.TheVariants.{Less, Equal, Greater}
use Rattle.p21_grammar_tree.specs.View.{part_view, part_views}
use Rattle.p21_grammar_tree.specs.declared.record.Part.{Part}
use Rattle.p21_spec_exchange.specs.Record as meaning
use Rattle.p21_syntax_words.specs.HeaderText.{key_text}
use Rattle.p21_syntax_words.specs.KeywordCounts.{AreCounts, count_in, counts_of}

abbrev pub Word : Type 0
Word = std.Vec ℕ Global

abbrev pub Entries : Type 0
Entries = List (Word × ℕ)

abbrev pub by_word : Word → Word → Ordering
by_word a b = slice_cmp nat_cmp a.items b.items

-- the test of a key by the bytes of a word
abbrev pub at : List ℕ → Word → Bool
at word = is_at (λ (key : Word). slice_cmp nat_cmp word key.items)

-- ---- one count

-- a count put at a word that stands here
put-here : (q w k : List ℕ) (v n m : ℕ) → w ≡ k → (if bytes_eq q k then v else m) ≡ (if bytes_eq q w then v else (if bytes_eq q k then n else m))
put-here q w k v n m is = subst (λ (x : List ℕ). (if bytes_eq q k then v else m) ≡ (if bytes_eq q x then v else (if bytes_eq q k then n else m))) (sym is) (by (bytes_eq q k)) where
  by : (b : Bool) → (if b then v else m) ≡ (if b then v else (if b then n else m))
  by true = refl
  by false = refl

-- or behind another word
put-behind : (q w k : List ℕ) (v n m rest : ℕ) → bytes_eq w k ≡ false → rest ≡ (if bytes_eq q w then v else m) → (if bytes_eq q k then n else rest) ≡ (if bytes_eq q w then v else (if bytes_eq q k then n else m))
put-behind q w k v n m rest differs is = by (bytes_eq q k) refl where
  by : (b : Bool) → bytes_eq q k ≡ b → (if b then n else rest) ≡ (if bytes_eq q w then v else (if b then n else m))
  by true same = rw (subst (λ (x : List ℕ). bytes_eq x w ≡ false) (sym ((bytes_decides q k).0 same)) (nat_list_eq_equiv.symm k w ∙ differs)) refl
  by false other = is

-- the count of a word is what is found under it
found-count : (w : List ℕ) (es : Entries) → count_in (counts_of es) w ≡ unwrap_or (lookup (at w) es) 0
found-count w [] = refl
found-count w (e ∷ es) = rw (is_eq-slice_cmp w e.0.items) (by (bytes_eq w e.0.items) (found-count w es)) where
  by : (b : Bool) → count_in (counts_of es) w ≡ unwrap_or (lookup (at w) es) 0 → (if b then e.1 else count_in (counts_of es) w) ≡ unwrap_or (cond b (Some e.1) (lookup (at w) es)) 0
  by true behind = refl
  by false behind = behind

count-set : (w : List ℕ) (v old : ℕ) (es : Entries) (q : List ℕ) → lookup (at w) es ≡ Some old → count_in (counts_of (set_value (at w) es v)) q ≡ (if bytes_eq q w then v else count_in (counts_of es) q)
count-set w v old [] q found = absurd (none-some old found)
count-set w v old (e ∷ es) q found = by (at w e.0) refl (count-set w v old es q) where
  by : (b : Bool) → at w e.0 ≡ b → (lookup (at w) es ≡ Some old → count_in (counts_of (set_value (at w) es v)) q ≡ (if bytes_eq q w then v else count_in (counts_of es) q))
      → count_in (counts_of (set_value (at w) (e ∷ es) v)) q ≡ (if bytes_eq q w then v else count_in (counts_of (e ∷ es)) q)
  by true is behind = rw is (put-here q w e.0.items v e.1 (count_in (counts_of es) q) ((bytes_decides w e.0.items).0 (sym (is_eq-slice_cmp w e.0.items) ∙ is)))
  by false is behind = rw is (put-behind q w e.0.items v e.1 (count_in (counts_of es) q) _ (sym (is_eq-slice_cmp w e.0.items) ∙ is)
      (behind (sym (ap (λ (b : Bool). cond b (Some e.1) (lookup (at w) es)) is) ∙ found)))

count-inserted : (k : Word) (v : ℕ) (es : Entries) (q : List ℕ) → count_in (counts_of (insert_entry by_word es k v)) q ≡ (if bytes_eq q k.items then v else count_in (counts_of es) q)
count-inserted k v [] q = refl
count-inserted k v (e ∷ es) q = by (by_word k e.0) refl (count-inserted k v es q) where
  by : (o : Ordering) → by_word k e.0 ≡ o → count_in (counts_of (insert_entry by_word es k v)) q ≡ (if bytes_eq q k.items then v else count_in (counts_of es) q)
      → count_in (counts_of (insert_entry by_word (e ∷ es) k v)) q ≡ (if bytes_eq q k.items then v else count_in (counts_of (e ∷ es)) q)
  by Less is behind = rw is refl
  by Equal is behind = rw is (put-here q k.items e.0.items v e.1 (count_in (counts_of es) q) ((bytes_decides k.items e.0.items).0 (sym (is_eq-slice_cmp k.items e.0.items) ∙ ap is_eq is)))
  by Greater is behind = rw is (put-behind q k.items e.0.items v e.1 (count_in (counts_of es) q) _ (sym (is_eq-slice_cmp k.items e.0.items) ∙ ap is_eq is) behind)

-- ---- all counts

abbrev IsSome : List ℕ × ℕ → Type 0
IsSome c = 0 < c.1

some-set : (w : List ℕ) (v : ℕ) (es : Entries) → 0 < v → Each IsSome (counts_of es) → Each IsSome (counts_of (set_value (at w) es v))
some-set w v [] more each = tt
some-set w v (e ∷ es) more each = by (at w e.0) (some-set w v es more each.1) where
  by : (b : Bool) → Each IsSome (counts_of (set_value (at w) es v)) → Each IsSome (counts_of (cond b ((e.0, v) ∷ es) (e ∷ set_value (at w) es v)))
  by true behind = (more, each.1)
  by false behind = (each.0, behind)

some-inserted : (k : Word) (v : ℕ) (es : Entries) → 0 < v → Each IsSome (counts_of es) → Each IsSome (counts_of (insert_entry by_word es k v))
some-inserted k v [] more each = (more, tt)
some-inserted k v (e ∷ es) more each = by (by_word k e.0) (some-inserted k v es more each.1) where
  by : (o : Ordering) → Each IsSome (counts_of (insert_entry by_word es k v)) → Each IsSome (counts_of (match_ordering o ((k, v) ∷ e ∷ es) ((e.0, v) ∷ es) (e ∷ insert_entry by_word es k v)))
  by Less behind = (more, each)
  by Equal behind = (more, each.1)
  by Greater behind = (each.0, behind)

below-each : (k : Word) (es : Entries) → Each (λ (y : Word). by_word k y ≡ Less) (keys_of es) → Each (λ (y : List ℕ). slice_cmp nat_cmp k.items y ≡ Less) (map (λ (c : List ℕ × ℕ). c.0) (counts_of es))
below-each k [] each = tt
below-each k (e ∷ es) each = (each.0, below-each k es each.1)

in-order : (es : Entries) → IsStrictlySortedBy by_word (keys_of es) → IsStrictlySortedBy (slice_cmp nat_cmp) (map (λ (c : List ℕ × ℕ). c.0) (counts_of es))
unfolding IsStrictlySortedBy
in-order [] sorted = tt
in-order (e ∷ es) sorted = (below-each e.0 es sorted.0, in-order es sorted.1)

-- ---- one word more

one-more : (words : List (List ℕ)) (w q : List ℕ) (old new put : ℕ) → old ≡ count_by (bytes_eq q) words → (bytes_eq q w ≡ true → put ≡ old + 1) → new ≡ (if bytes_eq q w then put else old) → new ≡ count_by (bytes_eq q) (words ++ w ∷ [])
one-more words w q old new put counted is_put is = is ∙ by (bytes_eq q w) refl where
  by : (b : Bool) → bytes_eq q w ≡ b → (if b then put else old) ≡ count_by (bytes_eq q) (words ++ w ∷ [])
  by true same = is_put same ∙ ap (λ (n : ℕ). n + 1) counted ∙ sym (sum_by_push _ words w ∙ ap (λ (b : Bool). count_by (bytes_eq q) words + (if b then 1 else 0)) same)
  by false other = counted ∙ sym (sum_by_push _ words w ∙ ap (λ (b : Bool). count_by (bytes_eq q) words + (if b then 1 else 0)) other ∙ omega arith)

-- a word that stands among them
pub again : (words : List (List ℕ)) (w : List ℕ) (es next : Entries) (old more : ℕ) → AreCounts words (counts_of es) → lookup (at w) es ≡ Some old → more ≡ old + 1 → next ≡ set_value (at w) es more → IsStrictlySortedBy by_word (keys_of next) → AreCounts (words ++ w ∷ []) (counts_of next)
again words w es next old more are found is_more next_is sorted = record {
  counted = λ q. one-more words w q (count_in (counts_of es) q) _ more (are.counted q) (λ same. is_more ∙ ap (λ (n : ℕ). n + 1) (here q same)) (ap (λ (l : Entries). count_in (counts_of l) q) next_is ∙ count-set w more old es q found);
  some_of_each = subst (λ (l : Entries). Each IsSome (counts_of l)) (sym next_is) (some-set w more es (omega (arith, is_more)) are.some_of_each);
  in_order = in-order next sorted;
} where
  here : (q : List ℕ) → bytes_eq q w ≡ true → old ≡ count_in (counts_of es) q
  here q same = ap (λ (o : Option ℕ). unwrap_or o 0) (sym found) ∙ sym (found-count w es) ∙ ap (count_in (counts_of es)) (sym ((bytes_decides q w).0 same))

-- a word that doesn't
pub first : (words : List (List ℕ)) (w : List ℕ) (k : Word) (es next : Entries) → AreCounts words (counts_of es) → lookup (at w) es ≡ None → k.items ≡ w → next ≡ insert_entry by_word es k 1 → IsStrictlySortedBy by_word (keys_of next) → AreCounts (words ++ w ∷ []) (counts_of next)
first words w k es next are none is_w next_is sorted = record {
  counted = λ q. one-more words w q (count_in (counts_of es) q) _ 1 (are.counted q) (λ same. ap (λ (n : ℕ). n + 1) (here q same)) (ap (λ (l : Entries). count_in (counts_of l) q) next_is ∙ count-inserted k 1 es q ∙ ap (λ (x : List ℕ). if bytes_eq q x then 1 else count_in (counts_of es) q) is_w);
  some_of_each = subst (λ (l : Entries). Each IsSome (counts_of l)) (sym next_is) (some-inserted k 1 es (omega arith) are.some_of_each);
  in_order = in-order next sorted;
} where
  here : (q : List ℕ) → bytes_eq q w ≡ true → 0 ≡ count_in (counts_of es) q
  here q same = ap (λ (o : Option ℕ). unwrap_or o 0) (sym none) ∙ sym (found-count w es) ∙ ap (count_in (counts_of es)) (sym ((bytes_decides q w).0 same))

-- none yet
no-words : IsStrictlySortedBy by_word []
unfolding IsStrictlySortedBy
no-words = tt

pub none-counted : AreCounts [] []
none-counted = record { counted = λ q. refl; some_of_each = tt; in_order = in-order [] no-words }

-- ---- the keywords of several records

-- one more word behind others
pub word-behind : {X : Type 0} (word : X → List ℕ) (words : List (List ℕ)) (xs : List X) (i : ℕ) (x : X) (counts : List (List ℕ × ℕ)) → i < length xs → x ≡ get_or xs i x → AreCounts ((words ++ map word (take i xs)) ++ word x ∷ []) counts → AreCounts (words ++ map word (take (i + 1) xs)) counts
word-behind {X} word words xs i x counts below is are =
    let more : take (i + 1) xs ≡ take i xs ++ x ∷ [] = take_more xs i x below ∙ ap (λ (y : X). take i xs ++ y ∷ []) (sym is) in
    let behind = append_assoc words (map word (take i xs)) (word x ∷ []) ∙ ap (λ (l : List (List ℕ)). words ++ l) (sym (ap (map word) more ∙ map-append word (take i xs) (x ∷ []))) in
    subst (λ (l : List (List ℕ)). AreCounts l counts) behind are

-- those of all parts, over the trees of the code
pub keywords-viewed : (parts : List Part) → map (λ (part : Part). key_text (part_view part).key) parts ≡ map (λ (part : meaning.Part). key_text part.key) (part_views parts)
keywords-viewed [] = refl
keywords-viewed (p ∷ ps) = ap (λ (l : List (List ℕ)). key_text (part_view p).key ∷ l) (keywords-viewed ps)
