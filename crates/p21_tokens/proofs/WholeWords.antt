-- User-defined keywords and enumeration items that are all of the bytes.
use Rattle.std.proofs.Common.{◌≡◌, ℕ, List, [], length, refl, ap}
use Rattle.p21_spec_exchange.specs.Token as meaning
use Rattle.p21_tokens_automaton.specs.Meaning.{Means}
use Rattle.p21_tokens_automaton.specs.Reading.{item, spelled, user_keyword}
use Rattle.p21_scan.proofs.Words.{item-once, token-whole, user_keyword-once}
use Rattle.p21_scan.specs.Word.{IsTokenAt, NoTokenAt}

pub no-own_keyword : (bytes : List ℕ) → NoTokenAt meaning.user_keyword bytes → (t : meaning.Token) → Means (spelled user_keyword bytes) t → ⊥
no-own_keyword bytes none_there (meaning.user_keyword word) m = none_there word [] (token-whole bytes (meaning.user_keyword word) m.1.0 (refl, m.1.1))
no-own_keyword bytes none_there _ m = absurd m.0

pub own_keyword-left : (bytes word rest : List ℕ) → IsTokenAt bytes (meaning.user_keyword word) rest → (length rest ≡ 0 → ⊥) → (t : meaning.Token) → Means (spelled user_keyword bytes) t → ⊥
own_keyword-left bytes word rest x left (meaning.user_keyword other) m =
    left (ap length (user_keyword-once bytes word other rest [] x (token-whole bytes (meaning.user_keyword other) m.1.0 (refl, m.1.1))).1)
own_keyword-left bytes word rest x left _ m = absurd m.0

pub no-item : (bytes : List ℕ) → NoTokenAt meaning.item bytes → (t : meaning.Token) → Means (spelled item bytes) t → ⊥
no-item bytes none_there (meaning.item word) m = none_there word [] (token-whole bytes (meaning.item word) m.1.0 (refl, m.1.1))
no-item bytes none_there _ m = absurd m.0

pub item-left : (bytes word rest : List ℕ) → IsTokenAt bytes (meaning.item word) rest → (length rest ≡ 0 → ⊥) → (t : meaning.Token) → Means (spelled item bytes) t → ⊥
item-left bytes word rest x left (meaning.item other) m =
    left (ap length (item-once bytes word other rest [] x (token-whole bytes (meaning.item other) m.1.0 (refl, m.1.1))).1)
item-left bytes word rest x left _ m = absurd m.0
