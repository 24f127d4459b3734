-- Words byte by byte, and lexemes by their tests.
use Rattle.std.proofs.Common.{◌≡◌, ◌≢◌, ℕ, zero, suc, ◌+◌, ◌<◌, ◌≤◌, true, false, List, [], ◌∷◌, ◌==◌, ◌||◌, map, length, drop, get_or, refl, ap, sym, ◌∙◌, add-one, arith}
use Rattle.std.specs.Borrow.{Bor}
use Rattle.std.proofs.Math.ListN.{drop_of_length-le}
use Rattle.std.proofs.Math.Seq.{drop-cons}
use Rattle.p21_express_lexemes.specs.Words.{is_among, all_bytes_seen}
use Rattle.std.specs.Str.{bytes_eq}
use Rattle.std.proofs.lemmas.Bool.{and_left, and_right, ne_eqb, eq-eqb}
use Rattle.std.proofs.lemmas.Bool.Decides.{nat_tests}
use Rattle.p21_spec_schema.specs.Express.{upper}

pub same_length : (bytes word : List ℕ) → (length bytes == length word) ≡ false → bytes_eq (map upper bytes) word ≡ false
same_length [] [] h = cc
same_length [] (w ∷ word) h = refl
same_length (b ∷ bytes) [] h = refl
same_length (b ∷ bytes) (w ∷ word) h = and_right (upper b == w) _ (same_length bytes word (grind (arith, nat_tests)))

pub same_each : (bytes word : List ℕ) (count : ℕ) → length bytes ≡ length word → length bytes ≤ count → ((k : ℕ) → k < count → upper (get_or bytes k 0) ≡ get_or word k 0) → bytes_eq (map upper bytes) word ≡ true
same_each [] [] count h w each = refl
same_each [] (x ∷ word) count h w each = absurd (omega arith)
same_each (b ∷ bytes) [] count h w each = absurd (omega arith)
same_each (b ∷ bytes) (x ∷ word) zero h w each = absurd (omega arith)
same_each (b ∷ bytes) (x ∷ word) (suc count) h w each = rw (eq-eqb (upper b) x (each 0 (omega arith))) (same_each bytes word count (omega arith) (omega arith) (λ k l. each (suc k) (omega arith)))

pub differs_at : (bytes word : List ℕ) (k : ℕ) → length bytes ≡ length word → k < length bytes → (upper (get_or bytes k 0) ≢ get_or word k 0) → bytes_eq (map upper bytes) word ≡ false
differs_at [] word k h l n = absurd (omega arith)
differs_at (b ∷ bytes) [] k h l n = refl
differs_at (b ∷ bytes) (x ∷ word) zero h l n = and_left (upper b == x) _ (ne_eqb (upper b) x n)
differs_at (b ∷ bytes) (x ∷ word) (suc k) h l n = and_right (upper b == x) _ (differs_at bytes word k (omega arith) (omega arith) n)

pub among_next : (words : List (Bor (List ℕ))) (i : ℕ) (d : Bor (List ℕ)) (name : List ℕ) → i < length words → is_among (all_bytes_seen (drop i words)) name ≡ (bytes_eq name (get_or words i d).now || is_among (all_bytes_seen (drop (i + 1) words)) name)
among_next words i d name lt = ap (λ (x : List (Bor (List ℕ))). is_among (all_bytes_seen x) name) (drop-cons words i d lt) ∙ ap (λ (k : ℕ). bytes_eq name (get_or words i d).now || is_among (all_bytes_seen (drop k words)) name) (sym (add-one i))

pub among_end : (words : List (Bor (List ℕ))) (i : ℕ) (name : List ℕ) → length words ≤ i → is_among (all_bytes_seen (drop i words)) name ≡ false
among_end words i name past = ap (λ (x : List (Bor (List ℕ))). is_among (all_bytes_seen x) name) (drop_of_length-le words past)
