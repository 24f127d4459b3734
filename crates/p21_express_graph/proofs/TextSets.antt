-- A set of texts that grows.
use Rattle.std.proofs.Common.{◌≡◌, ◌||◌, ℕ, Bool, true, false, List, [], ◌∷◌, ◌++◌, IsTrue, inl, inr, refl, sym, ap, subst, ◌∙◌}
use Rattle.std.proofs.lemmas.List.Elements.{Contains-append_cases, Contains-append_left, Contains-append_right}
use Rattle.std.proofs.lemmas.Map.Text.{is_eq-slice_cmp}
use Rattle.std.proofs.lemmas.Slice.Eq.{bytes_eq-Decides}
use Rattle.std.specs.BTreeSet.{BTreeSet, insert_key}
use Rattle.std.specs.Cmp.Lexicographic.{slice_cmp}
use Rattle.std.specs.List.{Contains, list_any}
use Rattle.std.specs.Ordering.{is_eq, match_ordering, nat_cmp}
use Rattle.std.specs.Prelude as std
use Rattle.std.specs.declared.alloc.Global.{Global}
use Rattle.std.specs.declared.cmp.Ordering.{Ordering}
use Rattle.std.specs.declared.cmp.Ordering.TheVariants.{Equal, Greater, Less}
use Rattle.std.proofs.lemmas.Bool.{or_cases, or_left, or_right}
use Rattle.p21_spec_basics.proofs.Members.{Contains-cases, Contains-first, Contains-none}
use Rattle.p21_express_graph.specs.TextSet.{HasTexts, has_text}

abbrev pub Text : Type 0
Text = std.Vec ℕ Global

abbrev pub by_text : Text → Text → Ordering
by_text a b = slice_cmp nat_cmp a.items b.items

abbrev is_text : List ℕ → Text → Bool
is_text text other = is_eq (slice_cmp nat_cmp text other.items)

is_same : (xs ys : List ℕ) → is_eq (slice_cmp nat_cmp xs ys) ≡ true → xs ≡ ys
is_same xs ys e = (bytes_eq-Decides xs ys).0 (sym (is_eq-slice_cmp xs ys) ∙ e)

is_itself : (xs : List ℕ) → is_eq (slice_cmp nat_cmp xs xs) ≡ true
is_itself xs = is_eq-slice_cmp xs xs ∙ (bytes_eq-Decides xs xs).1 refl

or_again : (a b : Bool) → a || b ≡ a || (a || b)
or_again true b = refl
or_again false b = refl

or_past : (a b c : Bool) → a || (b || c) ≡ b || (a || c)
or_past true true c = refl
or_past true false c = refl
or_past false b c = refl

has_inserted : (text : List ℕ) (keys : List Text) (key : Text) → list_any (is_text text) (insert_key by_text keys key) ≡ is_text text key || list_any (is_text text) keys
has_inserted text [] key = refl
has_inserted text (x ∷ xs) key = by (by_text key x) refl (has_inserted text xs key) where
  by : (r : Ordering) → by_text key x ≡ r → list_any (is_text text) (insert_key by_text xs key) ≡ is_text text key || list_any (is_text text) xs → list_any (is_text text) (match_ordering r (key ∷ x ∷ xs) (x ∷ xs) (x ∷ insert_key by_text xs key)) ≡ is_text text key || (is_text text x || list_any (is_text text) xs)
  by Less e behind = refl
  by Equal e behind =
      let same : key.items ≡ x.items = is_same key.items x.items (ap is_eq e) in
      let alike : is_text text key ≡ is_text text x = ap (λ (ys : List ℕ). is_eq (slice_cmp nat_cmp text ys)) same in
      or_again (is_text text x) (list_any (is_text text) xs) ∙ ap (λ (b : Bool). b || (is_text text x || list_any (is_text text) xs)) (sym alike)
  by Greater e behind =
      ap (λ (b : Bool). is_text text x || b) behind ∙ or_past (is_text text x) (is_text text key) (list_any (is_text text) xs)

-- no text
pub has_none : (set : BTreeSet Text) → set.keys ≡ [] → HasTexts set []
has_none set no_key text = (
  λ has. (let no : has_text set text ≡ false = ap (list_any (is_text text)) no_key in cc),
  λ among. absurd (Contains-none text among),
)

-- a text more
pub has_added : (set added : BTreeSet Text) (texts : List (List ℕ)) (key : Text) → added.keys ≡ insert_key by_text set.keys key → HasTexts set texts → HasTexts added (texts ++ key.items ∷ [])
has_added set added texts key keys has = λ text. (to text, from text) where
  now : (text : List ℕ) → has_text added text ≡ is_text text key || has_text set text
  now text = ap (list_any (is_text text)) keys ∙ has_inserted text set.keys key

  to : (text : List ℕ) → IsTrue (has_text added text) → Contains (texts ++ key.items ∷ []) text
  to text e = elim (or_cases (is_text text key) (has_text set text) (sym (now text) ∙ e)) [
    | inl here ↦ Contains-append_right texts (key.items ∷ []) text (subst (λ (t : List ℕ). Contains (key.items ∷ []) t) (sym (is_same text key.items here)) (Contains-first key.items []))
    | inr before ↦ Contains-append_left texts (key.items ∷ []) text ((has text).0 before)
  ]

  from : (text : List ℕ) → Contains (texts ++ key.items ∷ []) text → IsTrue (has_text added text)
  from text among = now text ∙ elim (Contains-append_cases texts (key.items ∷ []) text among) [
    | inl before ↦ or_right (is_text text key) (has_text set text) ((has text).1 before)
    | inr here ↦ elim (Contains-cases key.items [] text here) [
      | inl is ↦ or_left (is_text text key) (has_text set text) (subst (λ (t : List ℕ). is_eq (slice_cmp nat_cmp t key.items) ≡ true) is (is_itself key.items))
      | inr none ↦ absurd (Contains-none text none)
    ]
  ]
