-- The word of a keyword or an enumeration item is known from the bytes.
use Rattle.std.proofs.Common.{◌≡◌, ℕ, zero, suc, ◌<◌, false, inl, List, [], ◌∷◌, ◌++◌, length, take, drop, slice_index, refl, sym, ◌∙◌, subst, arith, append_assoc, append-nil}
use Rattle.std.specs.List.{AllByRecursion as Each}
use Rattle.std.proofs.lemmas.List.{take-append-drop}
use Rattle.p21_spec_basics.proofs.Members.{tail_is}
use Rattle.p21_spec_exchange.specs.Keyword.{IsKeyword, IsKeywordByte, IsUpper}
use Rattle.p21_spec_exchange.specs.Spelling.{spelling}
use Rattle.p21_spec_exchange.specs.Token as meaning
use Rattle.p21_spec_exchange.specs.Token.{item, keyword, user_keyword}
use Rattle.p21_scan.proofs.Classes.{keyword_byte-decides}
use Rattle.p21_scan.specs.Class.{AreOfClass, is_of_class}
use Rattle.p21_scan.specs.declared.class.Class.TheVariants.{KeywordByte}
use Rattle.p21_scan.specs.Digits.{BeginsWithoutByte}
use Rattle.p21_scan.specs.Word.{IsTokenAt, IsWordAt, NoKeywordByteFirst, NoTokenAt}

-- ---- the characters of a keyword

split_words : (a b r s : List ℕ) → Each IsKeywordByte a → Each IsKeywordByte b → NoKeywordByteFirst r → NoKeywordByteFirst s → a ++ r ≡ b ++ s → (a ≡ b) × (r ≡ s)
split_words [] [] r s p q m n e = (refl, e)
split_words [] (y ∷ b) [] s p q m n e = cc
split_words [] (y ∷ b) (z ∷ r) s p q m n e = let same : z ≡ y = cc in absurd (m (rw same q.0))
split_words (x ∷ a) [] r [] p q m n e = cc
split_words (x ∷ a) [] r (z ∷ s) p q m n e = let same : z ≡ x = cc in absurd (n (rw same p.0))
split_words (x ∷ a) (y ∷ b) r s p q m n e =
    let head : x ≡ y = cc in
    let tail : a ++ r ≡ b ++ s = cc in
    let rest = split_words a b r s p.1 q.1 m n tail in
    let front : a ≡ b = rest.0 in
    ((cc), rest.1)

keyword-each : (word : List ℕ) → IsKeyword word → Each IsKeywordByte word
keyword-each [] is = tt
keyword-each (byte ∷ bytes) is = (inl is.0, is.1)

word-once : (bytes a b r s : List ℕ) → IsWordAt bytes a r → IsWordAt bytes b s → (a ≡ b) × (r ≡ s)
word-once bytes a b r s x y = split_words a b r s (keyword-each a x.is_keyword) (keyword-each b y.is_keyword) x.ends y.ends (sym x.bytes_are ∙ y.bytes_are)

class-each : (bytes : List ℕ) (count : ℕ) → AreOfClass KeywordByte bytes count → Each IsKeywordByte (take count bytes)
class-each bytes zero h = tt
class-each [] (suc count) h = tt
class-each (b ∷ bytes) (suc count) h = ((keyword_byte-decides b).0 (h.each 0 (omega arith)), class-each bytes count (record { within = let w = h.within in omega arith; each = λ k l. h.each (suc k) (omega arith) }))

no_byte-behind : (bytes : List ℕ) (count : ℕ) → (count < length bytes → is_of_class KeywordByte (slice_index bytes count) ≡ false) → NoKeywordByteFirst (drop count bytes)
no_byte-behind [] zero h = tt
no_byte-behind [] (suc count) h = tt
no_byte-behind (b ∷ bytes) zero h = λ is. let yes = (keyword_byte-decides b).1 is in let no = h (omega arith) in cc
no_byte-behind (b ∷ bytes) (suc count) h = no_byte-behind bytes count (λ l. h (omega arith))

-- so many bytes of a keyword at the front, the first of which may begin one
pub word-at : (first : ℕ) (bytes rest : List ℕ) (count : ℕ) → bytes ≡ first ∷ rest → IsUpper first → AreOfClass KeywordByte bytes count → (count < length bytes → is_of_class KeywordByte (slice_index bytes count) ≡ false) → IsWordAt bytes (take count bytes) (drop count bytes)
word-at first bytes rest count e upper run ends =
    subst (λ (b : List ℕ). AreOfClass KeywordByte b count → (count < length b → is_of_class KeywordByte (slice_index b count) ≡ false) → IsWordAt b (take count b) (drop count b)) (sym e) (at count) run ends
  where
    at : (n : ℕ) → AreOfClass KeywordByte (first ∷ rest) n → (n < length (first ∷ rest) → is_of_class KeywordByte (slice_index (first ∷ rest) n) ≡ false) → IsWordAt (first ∷ rest) (take n (first ∷ rest)) (drop n (first ∷ rest))
    at zero h k = absurd (let yes = (keyword_byte-decides first).1 (inl upper) in let no = k (omega arith) in cc)
    at (suc n) h k = record {
      bytes_are = sym (take-append-drop (suc n) (first ∷ rest));
      is_keyword = (upper, (class-each (first ∷ rest) (suc n) h).1);
      ends = no_byte-behind (first ∷ rest) (suc n) k;
    }

-- a token that is all of the bytes
pub token-all : (bytes : List ℕ) (token : meaning.Token) (rest : List ℕ) → IsTokenAt bytes token rest → length rest ≡ 0 → meaning.Spells token bytes
token-all bytes token [] x none = subst (meaning.Spells token) (sym (x.bytes_are ∙ append-nil (spelling token))) x.spells
token-all bytes token (byte ∷ rest) x none = absurd (omega arith)

pub token-whole : (bytes : List ℕ) (token : meaning.Token) → bytes ≡ spelling token → meaning.Spells token (spelling token) → IsTokenAt bytes token []
token-whole bytes token e s = record { bytes_are = e ∙ sym (append-nil (spelling token)); spells = s; followed = tt }

-- ---- keywords

keyword-word : (bytes word rest : List ℕ) → IsTokenAt bytes (keyword word) rest → IsWordAt bytes word rest × BeginsWithoutByte 45 rest
keyword-word bytes word [] x = (record { bytes_are = x.bytes_are; is_keyword = x.spells.1; ends = tt }, tt)
keyword-word bytes word (byte ∷ rest) x = (record { bytes_are = x.bytes_are; is_keyword = x.spells.1; ends = x.followed.0 }, x.followed.1)

pub no_keyword-dash : (bytes word rest behind : List ℕ) → IsWordAt bytes word rest → rest ≡ 45 ∷ behind → NoTokenAt keyword bytes
no_keyword-dash bytes word rest behind x e other tail y =
    let found = keyword-word bytes other tail y in
    let same : tail ≡ 45 ∷ behind = sym (word-once bytes word other rest tail x found.0).1 ∙ e in
    subst (BeginsWithoutByte 45) same found.1 refl

pub keyword-once : (bytes a b r s : List ℕ) → IsTokenAt bytes (keyword a) r → IsTokenAt bytes (keyword b) s → (a ≡ b) × (r ≡ s)
keyword-once bytes a b r s x y = word-once bytes a b r s (keyword-word bytes a r x).0 (keyword-word bytes b s y).0

-- ---- user-defined keywords

followed-own : (word spelling other rest : List ℕ) → meaning.IsFollowed (user_keyword word) spelling rest → meaning.IsFollowed (keyword word) other rest
followed-own word spelling other [] h = tt
followed-own word spelling other (byte ∷ rest) h = h

own-keyword : (bytes marked word rest : List ℕ) → bytes ≡ 33 ∷ marked → IsTokenAt bytes (user_keyword word) rest → IsTokenAt marked (keyword word) rest
own-keyword bytes marked word rest e x = record { bytes_are = tail_is 33 33 marked (word ++ rest) (sym e ∙ x.bytes_are); spells = (refl, x.spells.1); followed = followed-own word (33 ∷ word) word rest x.followed }

pub user_keyword-once : (bytes a b r s : List ℕ) → IsTokenAt bytes (user_keyword a) r → IsTokenAt bytes (user_keyword b) s → (a ≡ b) × (r ≡ s)
user_keyword-once bytes a b r s x y = keyword-once (a ++ r) a b r s (own-keyword bytes (a ++ r) a r x.bytes_are x) (own-keyword bytes (a ++ r) b s x.bytes_are y)

-- ---- enumeration items

between : (word rest : List ℕ) → (word ++ 46 ∷ []) ++ rest ≡ word ++ 46 ∷ rest
between word rest = append_assoc word (46 ∷ []) rest

item-inside : (bytes inside word rest : List ℕ) → bytes ≡ 46 ∷ inside → IsTokenAt bytes (item word) rest → IsWordAt inside word (46 ∷ rest)
item-inside bytes inside word rest e x = record {
  bytes_are = tail_is 46 46 inside ((word ++ 46 ∷ []) ++ rest) (sym e ∙ x.bytes_are) ∙ between word rest;
  is_keyword = x.spells.1;
  ends = λ is. omega (arith, is);
}

pub no_item-end : (bytes inside word end : List ℕ) → bytes ≡ 46 ∷ inside → IsWordAt inside word end → BeginsWithoutByte 46 end → NoTokenAt item bytes
no_item-end bytes inside word end e x other found rest y =
    let same = word-once inside word found end (46 ∷ rest) x (item-inside bytes inside found rest e y) in
    subst (BeginsWithoutByte 46) same.1 other refl

pub item-once : (bytes a b r s : List ℕ) → IsTokenAt bytes (item a) r → IsTokenAt bytes (item b) s → (a ≡ b) × (r ≡ s)
item-once bytes a b r s x y =
    let inside = (a ++ 46 ∷ []) ++ r in
    let both = word-once inside a b (46 ∷ r) (46 ∷ s) (item-inside bytes inside a r x.bytes_are x) (item-inside bytes inside b s x.bytes_are y) in
    (both.0, tail_is 46 46 r s both.1)
