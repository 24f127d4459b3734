-- What is found of a spelling means one token, and the token that is spelled is meant.
use Rattle.std.proofs.Common.{◌≡◌, ℕ, ℤ, Bool, List, [], ◌∷◌, ◌++◌, refl, sym, ap, ◌∙◌}
use Rattle.std.proofs.lemmas.List.{append_cancel_right}
use Rattle.p21_spec_exchange.proofs.BitSpellings.{bits_once}
use Rattle.p21_spec_basics.proofs.Members.{tail_is}
use Rattle.p21_spec_exchange.proofs.RealSpellings.{real_once}
use Rattle.p21_spec_exchange.proofs.WholeSpellings.{whole_once}
use Rattle.p21_spec_exchange.specs.Binary.{SpellsBits}
use Rattle.p21_spec_exchange.specs.Number.{Decimal, SpellsReal, SpellsWhole}
use Rattle.p21_spec_exchange.specs.Token.{Token, Spells}
use Rattle.p21_spec_exchange.specs.Token as token
use Rattle.p21_tokens_automaton.specs.Meaning.{IsOfTokenClass, Means, found_of}
use Rattle.p21_tokens_automaton.specs.Reading.{TokenClass, keyword, user_keyword, whole, real, item, bits, FoundToken, known, spelled}

-- ---- the tokens of each kind

keyword-parts : (t : Token) (spelling : List ℕ) → IsOfTokenClass keyword t → Spells t spelling → (w : List ℕ) × (t ≡ token.keyword w) × (spelling ≡ w)
keyword-parts (token.keyword w) spelling k h = (w, refl, h.0)
keyword-parts _ spelling k h = absurd k

user_keyword-parts : (t : Token) (spelling : List ℕ) → IsOfTokenClass user_keyword t → Spells t spelling → (w : List ℕ) × (t ≡ token.user_keyword w) × (spelling ≡ 33 ∷ w)
user_keyword-parts (token.user_keyword w) spelling k h = (w, refl, h.0)
user_keyword-parts _ spelling k h = absurd k

item-parts : (t : Token) (spelling : List ℕ) → IsOfTokenClass item t → Spells t spelling → (w : List ℕ) × (t ≡ token.item w) × (spelling ≡ 46 ∷ (w ++ (46 ∷ [])))
item-parts (token.item w) spelling k h = (w, refl, h.0)
item-parts _ spelling k h = absurd k

whole-parts : (t : Token) (spelling : List ℕ) → IsOfTokenClass whole t → Spells t spelling → (z : ℤ) × (t ≡ token.whole z) × SpellsWhole spelling z
whole-parts (token.whole z) spelling k h = (z, refl, h)
whole-parts _ spelling k h = absurd k

real-parts : (t : Token) (spelling : List ℕ) → IsOfTokenClass real t → Spells t spelling → (d : Decimal) × (t ≡ token.real d) × SpellsReal spelling d
real-parts (token.real d) spelling k h = (d, refl, h)
real-parts _ spelling k h = absurd k

bits-parts : (t : Token) (spelling : List ℕ) → IsOfTokenClass bits t → Spells t spelling → (value : List Bool) × (t ≡ token.bits value) × SpellsBits spelling value
bits-parts (token.bits value) spelling k h = (value, refl, h)
bits-parts _ spelling k h = absurd k

kind-once : (kind : TokenClass) (spelling : List ℕ) (t u : Token) → IsOfTokenClass kind t → Spells t spelling → IsOfTokenClass kind u → Spells u spelling → t ≡ u
kind-once keyword spelling t u k h l i =
    let a = keyword-parts t spelling k h in
    let b = keyword-parts u spelling l i in
    a.1 ∙ ap token.keyword (sym a.2 ∙ b.2) ∙ sym b.1
kind-once user_keyword spelling t u k h l i =
    let a = user_keyword-parts t spelling k h in
    let b = user_keyword-parts u spelling l i in
    a.1 ∙ ap token.user_keyword (tail_is 33 33 a.0 b.0 (sym a.2 ∙ b.2)) ∙ sym b.1
kind-once item spelling t u k h l i =
    let a = item-parts t spelling k h in
    let b = item-parts u spelling l i in
    a.1 ∙ ap token.item (append_cancel_right a.0 b.0 (46 ∷ []) (tail_is 46 46 _ _ (sym a.2 ∙ b.2))) ∙ sym b.1
kind-once whole spelling t u k h l i =
    let a = whole-parts t spelling k h in
    let b = whole-parts u spelling l i in
    a.1 ∙ ap token.whole (whole_once spelling a.0 b.0 a.2 b.2) ∙ sym b.1
kind-once real spelling t u k h l i =
    let a = real-parts t spelling k h in
    let b = real-parts u spelling l i in
    a.1 ∙ ap token.real (real_once spelling a.0 b.0 a.2 b.2) ∙ sym b.1
kind-once bits spelling t u k h l i =
    let a = bits-parts t spelling k h in
    let b = bits-parts u spelling l i in
    a.1 ∙ ap token.bits (bits_once spelling a.0 b.0 a.2 b.2) ∙ sym b.1

pub means-once : (f : FoundToken) (t u : Token) → Means f t → Means f u → t ≡ u
means-once (known v) t u p q = sym p ∙ q
means-once (spelled kind spelling) t u p q = kind-once kind spelling t u p.0 p.1 q.0 q.1

pub spells-means : (t : Token) (spelling : List ℕ) → Spells t spelling → Means (found_of t spelling) t
spells-means (token.keyword w) spelling h = (tt, h)
spells-means (token.user_keyword w) spelling h = (tt, h)
spells-means (token.whole z) spelling h = (tt, h)
spells-means (token.real d) spelling h = (tt, h)
spells-means (token.item w) spelling h = (tt, h)
spells-means (token.bits value) spelling h = (tt, h)
spells-means _ spelling h = refl
