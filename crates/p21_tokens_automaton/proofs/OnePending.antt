-- The pending count of bytes is one, whatever laying it is counted by.
use Rattle.std.proofs.Common.{◌≡◌, ℕ, ◌+◌, List, [], ◌∷◌, ◌++◌, length, refl, sym, ap, ◌∙◌, subst, append_assoc, append-nil, Some, inl, inr, arith}
use Rattle.p21_spec_exchange.specs.Laying.{Lexeme, count_behind, open_bytes}
use Rattle.p21_spec_exchange.specs.Pending.{Tail, nothing, unfinished, slash, open_comment, tail_bytes, tail_size, BeginsWithNoSeparator, IsTail, LaidUpTo, IsPending}
use Rattle.p21_spec_exchange.specs.Separator.{blank, comment}
use Rattle.p21_spec_exchange.specs.Token.{Token, begin, finish, keyword, user_keyword, name, whole, real, text, item, bits, left, right, comma, semicolon, equals, dollar, star, Spells, IsFollowed, IsWholeAtOnce}
use Rattle.p21_spec_exchange.proofs.FirstBytes.{spelling_begins, no-spelling, slash-first}
use Rattle.p21_spec_exchange.proofs.OneGap.{HasNoSeparator, gap-one, begins-on}
use Rattle.p21_spec_basics.proofs.Members.{head_is, tail_is}
use Rattle.p21_tokens_automaton.specs.Meaning.{Means, found_of}
use Rattle.p21_tokens_automaton.specs.Reading.{State, start, Answer, FoundToken, without_tokens, open_at, before, SizedToken, ended_token, lex}
use Rattle.p21_tokens_automaton.proofs.Once.{means-once, spells-means}
use Rattle.p21_tokens_automaton.proofs.Steps.{lex-nil, lex-end}
use Rattle.p21_tokens_automaton.proofs.Theorems.{readings}

pub begins-no_separator : (bytes : List ℕ) → BeginsWithNoSeparator bytes → HasNoSeparator bytes
begins-no_separator [] begins separator rest is same = begins
begins-no_separator (byte ∷ bytes) begins (blank b) rest (inl low) same = let h : byte ≡ b = head_is byte b _ _ same in omega (arith, h, low, begins.0)
begins-no_separator (byte ∷ bytes) begins (blank b) rest (inr delete) same = begins.1 (head_is byte b _ _ same ∙ delete)
begins-no_separator (byte ∷ bytes) begins (comment inside) rest is same = begins.2 (head_is byte 47 _ _ same)

-- nothing, a token that is not whole, a lone `/` and an open comment begin with no separator
tail-begins : (tail : Tail) → IsTail tail → HasNoSeparator (tail_bytes tail)
tail-begins nothing is (blank b) rest separates same = cc
tail-begins nothing is (comment inside) rest separates same = cc
tail-begins (unfinished bytes) is separator rest separates same = begins-no_separator bytes is.first separator rest separates same
tail-begins slash is (blank b) rest (inl low) same = let h : 47 ≡ b = head_is 47 b _ _ same in omega (arith, h, low)
tail-begins slash is (blank b) rest (inr delete) same = let h : 47 ≡ b = head_is 47 b _ _ same in omega (arith, h, delete)
tail-begins slash is (comment inside) rest separates same = let h : [] ≡ 42 ∷ ((inside ++ (42 ∷ 47 ∷ [])) ++ rest) = tail_is 47 47 _ _ same in cc
tail-begins (open_comment inside) is (blank b) rest (inl low) same = let h : 47 ≡ b = head_is 47 b _ _ same in omega (arith, h, low)
tail-begins (open_comment inside) is (blank b) rest (inr delete) same = let h : 47 ≡ b = head_is 47 b _ _ same in omega (arith, h, delete)
tail-begins (open_comment inside) is (comment closed_token) rest separates same = is closed_token rest (tail_is 42 42 _ _ (tail_is 47 47 _ _ same) ∙ append_assoc closed_token (42 ∷ 47 ∷ []) rest)

-- two tokens at the front of the same bytes, each followed by what may follow it, are one
pub record SameFront (t u : Token) (p q : List ℕ) : Type 0 where
  pub token : t ≡ u
  pub size : length p ≡ length q

found-one : (t u : Token) (p q : List ℕ) → Spells t p → Spells u q → found_of t p ≡ found_of u q → t ≡ u
found-one t u p q s r same = means-once (found_of u q) t u (subst (λ (f : FoundToken). Means f t) same (spells-means t p s)) (spells-means u q r)

first-found : (x y : SizedToken) (a b : Answer) → before x a ≡ before y b → x ≡ y
first-found x y a b same = let h : x ∷ a.given ≡ y ∷ b.given = ap (λ (z : Answer). z.given) same in cc

-- what reading the bytes gives first: the token, or where it may go on a state that it waits in
data Read (t : Token) (p rest : List ℕ) : Type 0 where
  given : (more : Answer) → lex start (p ++ rest) ≡ before (record { found = found_of t p; size = length p }) more → Read t p rest
  waiting : (e : State) → rest ≡ [] → ended_token e ≡ Some (found_of t p) → e.size ≡ length p → lex start (p ++ rest) ≡ without_tokens (open_at e) → Read t p rest

reads : (t : Token) (p rest : List ℕ) → Spells t p → IsFollowed t p rest → Read t p rest
reads t p [] s followed = elim (readings t p s) [
  | inl w ↦ waiting w.state refl w.ended_is w.size_is (w.reaches [] ∙ lex-nil w.state)
  | inr g ↦ given (lex start []) (g.run [])
]
reads t p (b ∷ rest) s followed = elim (readings t p s) [
  | inl w ↦ given (lex start (b ∷ rest)) (w.reaches (b ∷ rest) ∙ (lex-end w.state (found_of t p) b rest (w.ends b followed) w.ended_is ∙ ap (λ (n : ℕ). before (record { found = found_of t p; size = n }) (lex start (b ∷ rest))) w.size_is))
  | inr g ↦ given (lex start (b ∷ rest)) (g.run (b ∷ rest))
]

pub front-one : (t u : Token) (p q r w : List ℕ) → Spells t p → Spells u q → IsFollowed t p r → IsFollowed u q w → p ++ r ≡ q ++ w → SameFront t u p q
front-one t u p q r w s z followed followed_ same = by (reads t p r s followed) (reads u q w z followed_)
  where
    one : lex start (p ++ r) ≡ lex start (q ++ w)
    one = ap (λ (bytes : List ℕ). lex start bytes) same

    not_waiting : (x : SizedToken) (a : Answer) (e : State) → before x a ≡ without_tokens (open_at e) → ⊥
    not_waiting x a e h = let k : x ∷ a.given ≡ [] = ap (λ (y : Answer). y.given) h in cc

    by : Read t p r → Read u q w → SameFront t u p q
    by (given a is) (given b is_) =
        let first = first-found _ _ a b (sym is ∙ one ∙ is_) in
        record { token = found-one t u p q s z (ap (λ (x : SizedToken). x.found) first); size = ap (λ (x : SizedToken). x.size) first }
    by (given a is) (waiting e empty ended_is size_is is_) = absurd (not_waiting _ a e (sym is ∙ one ∙ is_))
    by (waiting e empty ended_is size_is is) (given b is_) = absurd (not_waiting _ b e (sym is_ ∙ sym one ∙ is))
    by (waiting e empty ended_is size_is is) (waiting f empty_ ended_is_ size_is_ is_) =
        let state : e ≡ f = (let h : open_at e ≡ open_at f = ap (λ (a : Answer). a.ending) (sym is ∙ one ∙ is_) in cc) in
        let found : found_of t p ≡ found_of u q = (let h : Some (found_of t p) ≡ Some (found_of u q) = sym ended_is ∙ ap (λ (x : State). ended_token x) state ∙ ended_is_ in cc) in
        record { token = found-one t u p q s z found; size = sym size_is ∙ ap (λ (x : State). x.size) state ∙ size_is_ }

pub append-rest : (p q r w : List ℕ) → length p ≡ length q → p ++ r ≡ q ++ w → r ≡ w
append-rest [] [] r w size same = same
append-rest [] (y ∷ q) r w size same = absurd (omega (arith, size))
append-rest (x ∷ p) [] r w size same = absurd (omega (arith, size))
append-rest (x ∷ p) (y ∷ q) r w size same = append-rest p q r w (omega (arith, size)) (tail_is x y _ _ same)

-- a token that is not whole by its last byte counts
pub count-more : (token : Token) (size count : ℕ) → (IsWholeAtOnce token → ⊥) → count_behind count (record { token = token; size = size }) ≡ count + size
count-more begin size count open_ = refl
count-more finish size count open_ = refl
count-more (keyword word) size count open_ = refl
count-more (user_keyword word) size count open_ = refl
count-more (name n) size count open_ = refl
count-more (whole z) size count open_ = refl
count-more (real d) size count open_ = refl
count-more (text chars) size count open_ = refl
count-more (item word) size count open_ = refl
count-more (bits value) size count open_ = refl
count-more left size count open_ = refl
count-more right size count open_ = refl
count-more comma size count open_ = refl
count-more semicolon size count open_ = absurd (open_ tt)
count-more equals size count open_ = refl
count-more dollar size count open_ = refl
count-more star size count open_ = refl

nothing-in : (gap rest : List ℕ) → [] ≡ gap ++ rest → rest ≡ []
nothing-in [] rest same = sym same
nothing-in (byte ∷ gap) rest same = cc

-- no bytes have no token bytes
pub none-pending : (lexemes : List Lexeme) (tail : Tail) (count : ℕ) → LaidUpTo [] lexemes tail → open_bytes count lexemes + tail_size tail ≡ count
none-pending [] nothing count laid = omega arith
none-pending [] slash count laid = omega arith
none-pending [] (open_comment inside) count laid = omega arith
none-pending [] (unfinished bytes) count (gap, is, separates, tail_is_) = absurd (subst BeginsWithNoSeparator (nothing-in gap bytes is) tail_is_.first)
none-pending (lexeme ∷ lexemes) tail count (gap, spelling, rest, is, separates, spells, size, followed, more) = absurd (no-spelling lexeme.token spelling rest spells (nothing-in gap (spelling ++ rest) is))

-- a last token counts as much as one that is not known to be whole
last-counts : (l : Lexeme) (lexemes : List Lexeme) (tail other : Tail) (spelling rest : List ℕ) (count : ℕ) → Spells l.token spelling → l.size ≡ length spelling → IsFollowed l.token spelling rest → LaidUpTo rest lexemes tail → IsTail other → spelling ++ rest ≡ tail_bytes other
    → open_bytes (count_behind count l) lexemes + tail_size tail ≡ count + tail_size other
last-counts l lexemes tail nothing spelling rest count spells size followed laid is same = absurd (no-spelling l.token spelling rest spells same)
last-counts l lexemes tail slash spelling rest count spells size followed laid is same = absurd (slash-first l.token spelling rest [] spells same)
last-counts l lexemes tail (open_comment inside) spelling rest count spells size followed laid is same = absurd (slash-first l.token spelling rest (42 ∷ inside) spells same)
last-counts l lexemes tail (unfinished bytes) spelling (byte ∷ rest) count spells size followed laid is same = absurd (is.not_whole l.token spelling (byte ∷ rest) (sym same) spells followed)
last-counts l lexemes tail (unfinished bytes) spelling [] count spells size followed laid is same =
    let counted : count_behind count l ≡ count + l.size = count-more l.token l.size count (λ whole_. is.not_whole l.token spelling [] (sym same) spells whole_) in
    let long : length spelling ≡ length bytes = ap length (sym (append-nil spelling) ∙ same) in
    omega (arith, none-pending lexemes tail (count_behind count l) laid, counted, size, long)

-- tails of the same bytes count the same
tails-count : (tail other : Tail) → IsTail tail → IsTail other → tail_bytes tail ≡ tail_bytes other → tail_size tail ≡ tail_size other
tails-count (unfinished a) (unfinished b) is is_ same = ap length same
tails-count (unfinished a) nothing is is_ same = absurd (subst BeginsWithNoSeparator same is.first)
tails-count (unfinished a) slash is is_ same = absurd ((subst BeginsWithNoSeparator same is.first).2 refl)
tails-count (unfinished a) (open_comment inside) is is_ same = absurd ((subst BeginsWithNoSeparator same is.first).2 refl)
tails-count nothing (unfinished b) is is_ same = absurd (subst BeginsWithNoSeparator (sym same) is_.first)
tails-count slash (unfinished b) is is_ same = absurd ((subst BeginsWithNoSeparator (sym same) is_.first).2 refl)
tails-count (open_comment inside) (unfinished b) is is_ same = absurd ((subst BeginsWithNoSeparator (sym same) is_.first).2 refl)
tails-count nothing nothing is is_ same = refl
tails-count nothing slash is is_ same = refl
tails-count nothing (open_comment inside) is is_ same = refl
tails-count slash nothing is is_ same = refl
tails-count slash slash is is_ same = refl
tails-count slash (open_comment inside) is is_ same = refl
tails-count (open_comment inside) nothing is is_ same = refl
tails-count (open_comment inside) slash is is_ same = refl
tails-count (open_comment inside) (open_comment other) is is_ same = refl

counts-one : (ls ms : List Lexeme) (tail other : Tail) (bytes : List ℕ) (count : ℕ) → LaidUpTo bytes ls tail → LaidUpTo bytes ms other → open_bytes count ls + tail_size tail ≡ open_bytes count ms + tail_size other
counts-one [] [] tail other bytes count (gap, is, separates, tail_) (gap_, is_, separates_, tail__) =
    ap (λ (n : ℕ). count + n) (tails-count tail other tail_ tail__ (gap-one gap gap_ (tail_bytes tail) (tail_bytes other) separates separates_ (tail-begins tail tail_) (tail-begins other tail__) (sym is ∙ is_)))
counts-one (l ∷ ls) [] tail other bytes count (gap, spelling, rest, is, separates, spells, size, followed, laid) (gap_, is_, separates_, tail_) =
    last-counts l ls tail other spelling rest count spells size followed laid tail_
    (gap-one gap gap_ (spelling ++ rest) (tail_bytes other) separates separates_ (begins-no_separator (spelling ++ rest) (begins-on spelling rest (spelling_begins l.token spelling spells))) (tail-begins other tail_) (sym is ∙ is_))
counts-one [] (m ∷ ms) tail other bytes count (gap, is, separates, tail_) (gap_, spelling, rest, is_, separates_, spells, size, followed, laid) =
    sym (last-counts m ms other tail spelling rest count spells size followed laid tail_
    (gap-one gap_ gap (spelling ++ rest) (tail_bytes tail) separates_ separates (begins-no_separator (spelling ++ rest) (begins-on spelling rest (spelling_begins m.token spelling spells))) (tail-begins tail tail_) (sym is_ ∙ is)))
counts-one (l ∷ ls) (m ∷ ms) tail other bytes count (gap, p, r, is, separates, spells, size, followed, laid) (gap_, q, w, is_, separates_, spells_, size_, followed_, laid_) =
    let same : p ++ r ≡ q ++ w = gap-one gap gap_ (p ++ r) (q ++ w) separates separates_ (begins-no_separator (p ++ r) (begins-on p r (spelling_begins l.token p spells))) (begins-no_separator (q ++ w) (begins-on q w (spelling_begins m.token q spells_))) (sym is ∙ is_) in
    let one = front-one l.token m.token p q r w spells spells_ followed followed_ same in
    let size_is : l.size ≡ m.size = size ∙ one.size ∙ sym size_ in
    let lexeme : l ≡ m = ap (λ (t : Token). record { token = t; size = l.size }) one.token ∙ ap (λ (n : ℕ). record { token = m.token; size = n }) size_is in
    let behind : r ≡ w = append-rest p q r w one.size same in
    let P : List ℕ → Type 0 = λ x. LaidUpTo x ls tail in
    counts-one ls ms tail other w (count_behind count l) (subst P behind laid) laid_ ∙ ap (λ (x : Lexeme). open_bytes (count_behind count x) ms + tail_size other) lexeme

-- the pending count of bytes is one
pub pending-one : (taken : List ℕ) (x y : ℕ) → IsPending taken x → IsPending taken y → x ≡ y
pending-one taken x y a b = a.pending_is ∙ counts-one a.lexemes b.lexemes a.tail b.tail taken 0 a.laid b.laid ∙ sym b.pending_is
