-- Words that open and words that close, told apart, and the end of lexemes.
use Rattle.std.proofs.Common.{◌≡◌, ◌↔◌, ℕ, Bool, true, false, IsTrue, List, [], ◌∷◌, codes, refl}
use Rattle.p21_express_lexemes.specs.Taking.{Items}
use Rattle.p21_express_syntax.specs.Declaring.{has_nothing_left}
use Rattle.std.specs.Str.{bytes_eq}
use Rattle.std.proofs.lemmas.Slice.Eq.{bytes_eq-Decides}
use Rattle.p21_spec_schema.specs.Express.{identifier, digits, simple_string, encoded_string, symbol}
use Rattle.p21_spec_schema.specs.Run.{is_word}
use Rattle.p21_express_lexemes.specs.Runs.{AreApart}

words_apart : (v w : List ℕ) → bytes_eq w v ≡ false → AreApart (is_word v) (is_word w)
words_apart v w n (identifier name) h = let e : name ≡ w = (bytes_eq-Decides name w).0 h in rw e n
words_apart v w n (symbol other) h = refl
words_apart v w n (digits ds) h = refl
words_apart v w n (simple_string inside) h = refl
words_apart v w n (encoded_string inside) h = refl

pub functions_apart : AreApart (is_word (codes "FUNCTION")) (is_word (codes "END_FUNCTION"))
functions_apart = words_apart (codes "FUNCTION") (codes "END_FUNCTION") refl

pub procedures_apart : AreApart (is_word (codes "PROCEDURE")) (is_word (codes "END_PROCEDURE"))
procedures_apart = words_apart (codes "PROCEDURE") (codes "END_PROCEDURE") refl

pub ended_of : (answer : Bool) (items : Items) → IsTrue answer ↔ (items ≡ []) → answer ≡ has_nothing_left items
ended_of true [] h = refl
ended_of false [] h = absurd (let e : IsTrue false = h.1 refl in cc)
ended_of true (item ∷ items) h = absurd (let e = h.0 refl in cc)
ended_of false (item ∷ items) h = refl
