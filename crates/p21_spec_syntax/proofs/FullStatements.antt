-- No tokens are laid, with each statement within its limit, in bytes that begin with one more byte of a statement than it may have.
use Rattle.std.proofs.Common.{◌≡◌, ℕ, suc, ◌+◌, ◌<◌, ◌≤◌, ◌⊎◌, inl, inr, List, [], ◌∷◌, ◌++◌, length, length-append, append_assoc, append-nil, ap, sym, subst, ◌∙◌, refl, arith}
use Rattle.p21_spec_basics.proofs.Members.{tail_is}
use Rattle.p21_spec_exchange.proofs.FirstBytes.{spelling_begins}
use Rattle.p21_spec_exchange.proofs.OneGap.{gap-one, nothing-first, begins-on}
use Rattle.p21_spec_exchange.specs.Laying.{AreStatementsWithin, LaidAs, Lexeme, count_behind, open_bytes}
use Rattle.p21_spec_exchange.specs.Pending.{BeginsWithNoSeparator, IsTokenByte, LaidUpTo, Tail, nothing, open_comment, slash, tail_size, unfinished}
use Rattle.p21_spec_exchange.specs.Separator.{IsSeparatorText}
use Rattle.p21_spec_exchange.specs.Token.{IsFollowed, MayFollow, Spells, Token, semicolon}
use Rattle.p21_tokens_automaton.proofs.OnePending.{append-rest, begins-no_separator, count-more, front-one}

-- one of two fronts of a list begins the other
abbrev Begins : List ℕ → List ℕ → List ℕ → List ℕ → Type 0
Begins x y q w = (p : List ℕ) × (x ≡ q ++ p) × (w ≡ p ++ y)

fronts : (x y q w : List ℕ) → x ++ y ≡ q ++ w → Begins x y q w ⊎ (length x < length q)
fronts x y [] w same = inl (x, refl, sym same)
fronts [] y (c ∷ q) w same = inr (omega arith)
fronts (b ∷ x) y (c ∷ q) w same = elim (fronts x y q w (tail_is b c _ _ same)) [
  | inl (p, is, rest) ↦ (let first : b ≡ c = cc in inl (p, ap (λ (z : ℕ). z ∷ x) first ∙ ap (λ (zs : List ℕ). c ∷ zs) is, rest))
  | inr shorter ↦ inr (omega (arith, shorter))
]

no-front : (gap : List ℕ) (b : ℕ) (bytes : List ℕ) → [] ≡ gap ++ (b ∷ bytes) → ⊥
no-front [] b bytes same = cc
no-front (c ∷ gap) b bytes same = cc

-- separator text is no token's front
no-token : (gap x bytes : List ℕ) → IsSeparatorText gap → BeginsWithNoSeparator x → bytes ≡ gap ++ x → IsSeparatorText bytes → ⊥
no-token gap x bytes separates begins is separates_ =
    let none : [] ≡ x = gap-one bytes gap [] x separates_ separates nothing-first (begins-no_separator x begins) (append-nil bytes ∙ is) in
    subst BeginsWithNoSeparator (sym none) begins

some-bytes : (token : Token) (q : List ℕ) → Spells token q → 1 ≤ length q
some-bytes token [] spells = absurd (spelling_begins token [] spells)
some-bytes token (byte ∷ q) spells = omega arith

-- a byte that separates nothing is one of a token
first-counts : (most count : ℕ) (gap more : List ℕ) (byte : ℕ) (ls : List Lexeme) → IsSeparatorText gap → BeginsWithNoSeparator (byte ∷ []) → LaidAs (gap ++ (byte ∷ more)) ls → AreStatementsWithin most count ls → count + 1 ≤ most
first-counts most count gap more byte [] separates begins laid within = absurd (no-token gap (byte ∷ more) (gap ++ (byte ∷ more)) separates begins refl laid)
first-counts most count gap more byte (m ∷ ms) separates begins (gap_, q, w, is, separates_, spells, size, followed, rest) within =
    let some = some-bytes m.token q spells in
    let short = within.0 in
    omega (arith, some, short, size)

count-most : (count : ℕ) (l : Lexeme) → count_behind count l ≤ count + l.size
count-most count l = at l.token
  where
    at : (token : Token) → count_behind count (record { token = token; size = l.size }) ≤ count + l.size
    at semicolon = omega arith
    at other = omega arith

-- what stands behind the last byte of a token
behind-last : (lexemes : List Lexeme) (tail : Tail) (count byte : ℕ) → LaidUpTo [] lexemes tail → IsTokenByte tail byte → BeginsWithNoSeparator (byte ∷ []) × (open_bytes count lexemes + tail_size tail ≡ count)
behind-last [] nothing count byte laid counts = (counts, omega arith)
behind-last [] slash count byte laid counts = absurd counts
behind-last [] (open_comment inside) count byte laid counts = absurd counts
behind-last [] (unfinished []) count byte laid counts = absurd laid.3.first
behind-last [] (unfinished (b ∷ bytes)) count byte (gap, is, separates, tail_) counts = absurd (no-front gap b bytes is)
behind-last (l ∷ lexemes) tail count byte (gap, [], r, is, separates, spells, size, followed, more) counts = absurd (spelling_begins l.token [] spells)
behind-last (l ∷ lexemes) tail count byte (gap, b ∷ p, r, is, separates, spells, size, followed, more) counts = absurd (no-front gap b (p ++ r) is)

-- the token bytes of the open statement and one more are within the limit, where statements are
within : (lexemes : List Lexeme) (tail : Tail) (bytes more : List ℕ) (byte : ℕ) (ls : List Lexeme) (most count : ℕ) → LaidUpTo bytes lexemes tail → IsTokenByte tail byte → LaidAs (bytes ++ (byte ∷ more)) ls → AreStatementsWithin most count ls
    → open_bytes count lexemes + tail_size tail + 1 ≤ most
within [] slash bytes more byte ls most count up_to counts laid short = absurd counts
within [] (open_comment inside) bytes more byte ls most count up_to counts laid short = absurd counts
within [] nothing bytes more byte ls most count (gap, is, separates, tail_) counts laid short =
    let front : bytes ≡ gap = is ∙ append-nil gap in
    let P : List ℕ → Type 0 = λ x. LaidAs (x ++ (byte ∷ more)) ls in
    let h = first-counts most count gap more byte ls separates counts (subst P front laid) short in
    omega (arith, h)
within [] (unfinished inside) bytes more byte [] most count (gap, is, separates, tail_) counts laid short =
    let whole : bytes ++ (byte ∷ more) ≡ gap ++ (inside ++ (byte ∷ more)) = ap (λ (x : List ℕ). x ++ (byte ∷ more)) is ∙ append_assoc gap inside (byte ∷ more) in
    absurd (no-token gap (inside ++ (byte ∷ more)) (bytes ++ (byte ∷ more)) separates (begins-on inside (byte ∷ more) tail_.first) whole laid)
within [] (unfinished inside) bytes more byte (m ∷ ms) most count (gap, is, separates, tail_) counts (gap_, q, w, is_, separates_, spells, size, followed, rest) short =
    let whole : bytes ++ (byte ∷ more) ≡ gap ++ (inside ++ (byte ∷ more)) = ap (λ (x : List ℕ). x ++ (byte ∷ more)) is ∙ append_assoc gap inside (byte ∷ more) in
    let same : inside ++ (byte ∷ more) ≡ q ++ w =
    gap-one gap gap_ (inside ++ (byte ∷ more)) (q ++ w) separates separates_ (begins-no_separator (inside ++ (byte ∷ more)) (begins-on inside (byte ∷ more) tail_.first)) (begins-no_separator (q ++ w) (begins-on q w (spelling_begins m.token q spells))) (sym whole ∙ is_) in
    by (fronts inside (byte ∷ more) q w same)
  where
    first : count + m.size ≤ most
    first = short.0

    by : Begins inside (byte ∷ more) q w ⊎ (length inside < length q) → count + length inside + 1 ≤ most
    by (inr longer) = omega (arith, longer, size, first)
    by (inl ([], front, behind)) =
        let own : inside ≡ q = front ∙ append-nil q in
        let open_ : count_behind count m ≡ count + m.size = count-more m.token m.size count (λ whole_. tail_.not_whole m.token q [] front spells whole_) in
        let F : List ℕ → Type 0 = λ x. IsFollowed m.token q x in
        let S : List ℕ → Type 0 = λ x. Spells m.token x × MayFollow m.token x byte in
        let (spells_, may) = subst S (sym own) (spells, subst F behind followed) in
        let L : List ℕ → Type 0 = λ x. LaidAs x ms in
        let h = first-counts most (count_behind count m) [] more byte ms ([], tt, refl) (counts m.token spells_ may) (subst L behind rest) short.1 in
        let long : length inside ≡ length q = ap length own in
        omega (arith, h, open_, long, size)
    by (inl (c ∷ p, front, behind)) =
        let F : List ℕ → Type 0 = λ x. IsFollowed m.token q x in
        absurd (tail_.not_whole m.token q (c ∷ p) front spells (subst F behind followed))
within (l ∷ lexemes) tail bytes more byte [] most count (gap, p, r, is, separates, spells, size, followed, up_to) counts laid short =
    let whole : bytes ++ (byte ∷ more) ≡ gap ++ ((p ++ r) ++ (byte ∷ more)) = ap (λ (x : List ℕ). x ++ (byte ∷ more)) is ∙ append_assoc gap (p ++ r) (byte ∷ more) in
    absurd (no-token gap ((p ++ r) ++ (byte ∷ more)) (bytes ++ (byte ∷ more)) separates (begins-on (p ++ r) (byte ∷ more) (begins-on p r (spelling_begins l.token p spells))) whole laid)
within (l ∷ lexemes) tail bytes more byte (m ∷ ms) most count (gap, p, r, is, separates, spells, size, followed, up_to) counts (gap_, q, w, is_, separates_, spells_, size_, followed_, rest) short =
    let whole : bytes ++ (byte ∷ more) ≡ gap ++ (p ++ (r ++ (byte ∷ more))) =
    ap (λ (x : List ℕ). x ++ (byte ∷ more)) is ∙ append_assoc gap (p ++ r) (byte ∷ more) ∙ ap (λ (x : List ℕ). gap ++ x) (append_assoc p r (byte ∷ more)) in
    let same : p ++ (r ++ (byte ∷ more)) ≡ q ++ w =
    gap-one gap gap_ (p ++ (r ++ (byte ∷ more))) (q ++ w) separates separates_ (begins-no_separator (p ++ (r ++ (byte ∷ more))) (begins-on p (r ++ (byte ∷ more)) (spelling_begins l.token p spells)))
    (begins-no_separator (q ++ w) (begins-on q w (spelling_begins m.token q spells_))) (sym whole ∙ is_) in
    by r up_to followed same (λ (x : List ℕ) (n : ℕ) up_to_ laid_ short_. within lexemes tail x more byte ms most n up_to_ counts laid_ short_)
  where
    first : count + m.size ≤ most
    first = short.0

    by : (r : List ℕ) → LaidUpTo r lexemes tail → IsFollowed l.token p r → p ++ (r ++ (byte ∷ more)) ≡ q ++ w
        → ((x : List ℕ) (n : ℕ) → LaidUpTo x lexemes tail → LaidAs (x ++ (byte ∷ more)) ms → AreStatementsWithin most n ms → open_bytes n lexemes + tail_size tail + 1 ≤ most) → open_bytes (count_behind count l) lexemes + tail_size tail + 1 ≤ most
    by [] up_to_ follows same later =
        let (begins, none) = behind-last lexemes tail (count_behind count l) byte up_to_ counts in
        let at_most = count-most count l in
        elim (fronts p (byte ∷ more) q w same) [
          | inr longer ↦ omega (arith, longer, size, size_, first, none, at_most)
          | inl found ↦ last found.0 found.1 found.2 begins none
        ]
      where
        last : (x : List ℕ) → p ≡ q ++ x → w ≡ x ++ (byte ∷ more) → BeginsWithNoSeparator (byte ∷ []) → open_bytes (count_behind count l) lexemes + tail_size tail ≡ count_behind count l → open_bytes (count_behind count l) lexemes + tail_size tail + 1 ≤ most
        last [] front behind begins none =
            let one = front-one l.token m.token p q [] [] spells spells_ tt tt (append-nil p ∙ front) in
            let size_is : l.size ≡ m.size = size ∙ one.size ∙ sym size_ in
            let counted : count_behind count l ≡ count_behind count m = ap (λ (t : Token). count_behind count (record { token = t; size = l.size })) one.token ∙ ap (λ (n : ℕ). count_behind count (record { token = m.token; size = n })) size_is in
            let L : List ℕ → Type 0 = λ x. LaidAs x ms in
            let h = first-counts most (count_behind count m) [] more byte ms ([], tt, refl) begins (subst L behind rest) short.1 in
            omega (arith, h, counted, none)
        last (c ∷ x) front behind begins none =
            let F : List ℕ → Type 0 = λ z. IsFollowed m.token q z in
            let one = front-one m.token l.token q p (c ∷ x) [] spells_ spells (subst F behind followed_) tt (sym (append-nil p ∙ front)) in
            let long : length p ≡ length q + suc (length x) = ap length front ∙ length-append q (c ∷ x) in
            let equal = one.size in
            absurd (omega (arith, long, equal))
    by (c ∷ r_) up_to_ follows same later =
        let one = front-one l.token m.token p q ((c ∷ r_) ++ (byte ∷ more)) w spells spells_ follows followed_ same in
        let size_is : l.size ≡ m.size = size ∙ one.size ∙ sym size_ in
        let lexeme : count_behind count m ≡ count_behind count l = sym (ap (λ (t : Token). count_behind count (record { token = t; size = l.size })) one.token ∙ ap (λ (n : ℕ). count_behind count (record { token = m.token; size = n })) size_is) in
        let behind : (c ∷ r_) ++ (byte ∷ more) ≡ w = append-rest p q ((c ∷ r_) ++ (byte ∷ more)) w one.size same in
        let L : List ℕ → Type 0 = λ z. LaidAs z ms in
        let W : ℕ → Type 0 = λ n. AreStatementsWithin most n ms in
        later (c ∷ r_) (count_behind count l) up_to_ (subst L (sym behind) rest) (subst W lexeme short.1)

pub full-unlaid : (most : ℕ) (bytes : List ℕ) (lexemes : List Lexeme) (tail : Tail) (byte : ℕ) → LaidUpTo bytes lexemes tail → IsTokenByte tail byte → most ≤ open_bytes 0 lexemes + tail_size tail → (more : List ℕ) (ls : List Lexeme) → LaidAs ((bytes ++ (byte ∷ [])) ++ more) ls → AreStatementsWithin most 0 ls → ⊥
full-unlaid most bytes lexemes tail byte up_to counts full more ls laid short =
    let P : List ℕ → Type 0 = λ x. LaidAs x ls in
    let h = within lexemes tail bytes more byte ls most 0 up_to counts (subst P (append_assoc bytes (byte ∷ []) more) laid) short in
    omega (arith, h, full)
