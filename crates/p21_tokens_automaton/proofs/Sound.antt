-- What is read is laid: the tokens that the reading finds are laid in the bytes, up to an unfinished token or comment.
use Rattle.std.proofs.Common.{◌≡◌, ◌≢◌, false, ℕ, ◌+◌, ◌<◌, List, [], ◌∷◌, ◌++◌, ◌⊎◌, inl, inr, length, length-append, refl, sym, ap, ◌∙◌, subst, append_assoc, append-nil, Option, Some, None, arith}
use Rattle.std.proofs.lemmas.Bool.{cond_both, eqb-true, eqb-false}
use Rattle.std.proofs.lemmas.Bool.Decides.{nat_tests}
use Rattle.std.proofs.lemmas.Option.{same_Some}
use Rattle.p21_spec_exchange.specs.Token.{Token, item, bits, Spells, IsFollowed, MayFollow}
use Rattle.p21_spec_exchange.specs.Separator.{Separator, blank, comment, IsCommentText, IsSeparator, separator_bytes, IsSeparatorText}
use Rattle.p21_spec_exchange.specs.Laying.{Lexeme}
use Rattle.p21_spec_exchange.specs.Pending.{Tail, nothing, unfinished, slash, open_comment, tail_bytes, BeginsWithNoSeparator}
use Rattle.p21_spec_exchange.proofs.OneGap.{begins-on}
use Rattle.p21_tokens_automaton.specs.Meaning.{Means, MeanAll}
use Rattle.p21_scan.specs.Bytes.{is_blank}
use Rattle.p21_tokens_automaton.specs.Step.{advance, between_action}
use Rattle.p21_tokens_automaton.specs.Reading.{State, start, pass, skip, keep, put, Answer, without_tokens, open_at, stopped, Ending, before, FoundToken, known, spelled, item as item_kind, bits as bits_kind, SizedToken, ended_token, closed_token, marker_of, with_token_in_front, continue_marker, single_token, first, act, lex}
use Rattle.p21_tokens_automaton.specs.declared.mode.Mode.{Mode}
use Rattle.p21_tokens_automaton.specs.declared.mode.Mode.TheVariants.{Between, Slash, Comment, Star, Number, Word, Name, Binary, Text}
use Rattle.p21_tokens_automaton.specs.declared.mode.Single.{Single}
use Rattle.p21_tokens_automaton.specs.declared.mode.Single.TheVariants as single
use Rattle.p21_tokens_automaton.specs.declared.mode.Wrong.{Wrong}
use Rattle.p21_tokens_automaton.specs.declared.mode.Action.{Action}
use Rattle.p21_tokens_automaton.specs.declared.mode.Action.TheVariants.{Pass, Skip, Keep, Put, Give, Close, End, Dash, Refuse}
use Rattle.p21_tokens_automaton.proofs.Fits.{ModeFits, EndFits, StepFits}
use Rattle.p21_tokens_automaton.proofs.Gaps.{gap}
use Rattle.p21_tokens_automaton.proofs.Steps.{lex-nil, lex-byte, first-act}

-- ---- what a reading up to the end of the bytes says

abbrev pub read : List SizedToken → State → Answer
read founds e = record { given = founds; ending = open_at e }

pub before-read : (x : SizedToken) (a : Answer) (founds : List SizedToken) (e : State) → before x a ≡ read founds e → (more : List SizedToken) × (founds ≡ x ∷ more) × (a ≡ read more e)
before-read x a founds e r =
    (a.given, sym (ap (λ (y : Answer). y.given) r), let P : Ending → Answer = λ y. record { given = a.given; ending = y } in ap P (ap (λ (y : Answer). y.ending) r))

pub not-read : (w : Wrong) (founds : List SizedToken) (e : State) → without_tokens (stopped w) ≡ read founds e → ⊥
not-read w founds e r = let p : stopped w ≡ open_at e = ap (λ (y : Answer). y.ending) r in cc

pub cons-parts : {A : Type 0} (a b : A) (x y : List A) → a ∷ x ≡ b ∷ y → (a ≡ b) × (x ≡ y)
cons-parts a b x y e = (cc, cc)

-- ---- laid up to some bytes

abbrev pub LaidTo : List ℕ → List Lexeme → List ℕ → Type 0
LaidTo bytes [] tail = (gap : List ℕ) × (bytes ≡ gap ++ tail) × IsSeparatorText gap
LaidTo bytes (lexeme ∷ lexemes) tail =
    (gap spelling rest : List ℕ) × (bytes ≡ gap ++ (spelling ++ rest)) × IsSeparatorText gap
    × Spells lexeme.token spelling × (lexeme.size ≡ length spelling) × IsFollowed lexeme.token spelling rest × LaidTo rest lexemes tail

-- no comment ends in the bytes
abbrev pub NoEnd : List ℕ → Type 0
NoEnd bytes = (front behind : List ℕ) → bytes ≡ front ++ (42 ∷ 47 ∷ behind) → ⊥

-- what stands behind the last token that was found, by the state in which the bytes end
abbrev pub TailIs : State → Tail → Type 0
TailIs e nothing = e ≡ start
TailIs e slash = e ≡ gap Slash
TailIs e (open_comment inside) = ((e ≡ gap Comment) ⊎ (e ≡ gap Star)) × NoEnd inside
TailIs e (unfinished bytes) =
    ModeFits e.mode e.pending_bytes e.characters bytes × (e.size ≡ length bytes) × (lex start bytes ≡ without_tokens (open_at e)) × BeginsWithNoSeparator bytes

abbrev pub UpTo : List ℕ → List Lexeme → State → Type 0
UpTo bytes lexemes e = (tail : Tail) × LaidTo bytes lexemes (tail_bytes tail) × TailIs e tail

no-gap : IsSeparatorText []
no-gap = ([], tt, refl)

gap-cons : (u : Separator) → IsSeparator u → (bytes : List ℕ) → IsSeparatorText bytes → IsSeparatorText (separator_bytes u ++ bytes)
gap-cons u h bytes s = (u ∷ s.0, (h, s.1), ap (λ x. separator_bytes u ++ x) s.2)

separator-front : (u : Separator) → IsSeparator u → (ls : List Lexeme) (bytes tail : List ℕ) → LaidTo bytes ls tail → LaidTo (separator_bytes u ++ bytes) ls tail
separator-front u h [] bytes tail l =
    (separator_bytes u ++ l.0, ap (λ x. separator_bytes u ++ x) l.1 ∙ sym (append_assoc (separator_bytes u) l.0 tail), gap-cons u h l.0 l.2)
separator-front u h (x ∷ ls) bytes tail l =
    (separator_bytes u ++ l.0, l.1, l.2, ap (λ y. separator_bytes u ++ y) l.3 ∙ sym (append_assoc (separator_bytes u) l.0 (l.1 ++ l.2)), gap-cons u h l.0 l.4, l.5, l.6, l.7, l.8)

up-to-separator : (u : Separator) → IsSeparator u → (ls : List Lexeme) (bytes : List ℕ) (e : State) → UpTo bytes ls e → UpTo (separator_bytes u ++ bytes) ls e
up-to-separator u h ls bytes e l = (l.0, separator-front u h ls bytes (tail_bytes l.0) l.1, l.2)

up-to-token : (x : Lexeme) (ls : List Lexeme) (spelling rest : List ℕ) (e : State) → Spells x.token spelling → x.size ≡ length spelling → IsFollowed x.token spelling rest → UpTo rest ls e → UpTo (spelling ++ rest) (x ∷ ls) e
up-to-token x ls spelling rest e s n f l = (l.0, ([], spelling, rest, refl, no-gap, s, n, f, l.1), l.2)

-- ---- comments

-- the rest of a comment behind its mark
abbrev CommentRest : List ℕ → List Lexeme → State → Type 0
CommentRest bytes ls e =
    ((inside rest : List ℕ) × (bytes ≡ inside ++ (42 ∷ 47 ∷ rest)) × IsCommentText inside × UpTo rest ls e)
    ⊎ ((ls ≡ []) × ((e ≡ gap Comment) ⊎ (e ≡ gap Star)) × NoEnd bytes)

EndsOnce-nil : IsCommentText []
EndsOnce-nil [] y e = cc
EndsOnce-nil (c ∷ []) y e = cc
EndsOnce-nil (c ∷ d ∷ []) y e = cc
EndsOnce-nil (c ∷ d ∷ e ∷ x) y h = cc

-- a byte in front that makes no `*/`
EndsOnce-cons : (c : ℕ) (inside : List ℕ) → IsCommentText inside → ((y : List ℕ) → c ≡ 42 → inside ++ (42 ∷ 47 ∷ []) ≡ 47 ∷ y → ⊥) → IsCommentText (c ∷ inside)
EndsOnce-cons c inside h n [] y e = let p = cons-parts c 42 (inside ++ (42 ∷ 47 ∷ [])) (47 ∷ y) e in absurd (n y p.0 p.1)
EndsOnce-cons c inside h n (d ∷ x) y e = h x y (cons-parts c d (inside ++ (42 ∷ 47 ∷ [])) (x ++ (42 ∷ 47 ∷ y)) e).1

NoEnd-cons : (b : ℕ) (bs : List ℕ) → ((behind : List ℕ) → b ≡ 42 → bs ≡ 47 ∷ behind → ⊥) → NoEnd bs → NoEnd (b ∷ bs)
NoEnd-cons b bs n h [] behind e = let p = cons-parts b 42 bs (47 ∷ behind) e in n behind p.0 p.1
NoEnd-cons b bs n h (c ∷ front) behind e = h front behind (cons-parts b c bs (front ++ (42 ∷ 47 ∷ behind)) e).1

NoEnd-nil : NoEnd []
NoEnd-nil [] behind e = cc
NoEnd-nil (c ∷ front) behind e = cc

comment-byte : (b : ℕ) (bs : List ℕ) (ls : List Lexeme) (e : State) → (b ≡ 42 → ⊥) → CommentRest bs ls e → CommentRest (b ∷ bs) ls e
comment-byte b bs ls e n (inl i) = inl (b ∷ i.0, i.1, ap (λ x. b ∷ x) i.2, EndsOnce-cons b i.0 i.3 (λ y q _. n q), i.4)
comment-byte b bs ls e n (inr i) = inr (i.0, i.1, NoEnd-cons b bs (λ y q _. n q) i.2)

-- a star in front of what does not begin with a slash
star-byte : (b : ℕ) (bs : List ℕ) (ls : List Lexeme) (e : State) → (b ≡ 47 → ⊥) → CommentRest (b ∷ bs) ls e → CommentRest (42 ∷ b ∷ bs) ls e
star-byte b bs ls e n (inl i) = inl (42 ∷ i.0, i.1, ap (λ x. 42 ∷ x) i.2, EndsOnce-cons 42 i.0 i.3 (λ y _ q. starts i.0 i.1 y i.2 q), i.4)
  where
    starts : (inside rest y : List ℕ) → b ∷ bs ≡ inside ++ (42 ∷ 47 ∷ rest) → inside ++ (42 ∷ 47 ∷ []) ≡ 47 ∷ y → ⊥
    starts [] rest y e f = let p = (cons-parts 42 47 (47 ∷ []) y f).0 in omega arith
    starts (c ∷ inside) rest y e f = n ((cons-parts b c bs (inside ++ (42 ∷ 47 ∷ rest)) e).0 ∙ (cons-parts c 47 (inside ++ (42 ∷ 47 ∷ [])) y f).0)
star-byte b bs ls e n (inr i) = inr (i.0, i.1, NoEnd-cons 42 (b ∷ bs) (λ y _ q. n (cons-parts b 47 bs y q).0) i.2)

-- the mark of a comment in front
comment-front : (bytes : List ℕ) (ls : List Lexeme) (e : State) → CommentRest bytes ls e → UpTo (47 ∷ 42 ∷ bytes) ls e
comment-front bytes ls e (inl i) =
    subst (λ x. UpTo x ls e) (ap (λ x. 47 ∷ 42 ∷ x) (append_assoc i.0 (42 ∷ 47 ∷ []) i.1 ∙ sym i.2)) (up-to-separator (comment i.0) i.3 ls i.1 e i.4)
comment-front bytes ls e (inr i) = subst (λ (x : List Lexeme). UpTo (47 ∷ 42 ∷ bytes) x e) (sym i.0) (open_comment bytes, ([], refl, no-gap), (i.1, i.2))

-- ---- tokens

-- the token behind these bytes ends in the rest
pub record Ended (front bytes : List ℕ) (ls : List Lexeme) (e : State) : Type 0 where
  pub lexeme : Lexeme
  pub others : List Lexeme
  pub more : List ℕ
  pub rest : List ℕ
  pub ls_are : ls ≡ lexeme ∷ others
  pub bytes_are : bytes ≡ more ++ rest
  pub spells : Spells lexeme.token (front ++ more)
  pub size_is : lexeme.size ≡ length (front ++ more)
  pub followed : IsFollowed lexeme.token (front ++ more) rest
  pub laid : UpTo rest others e

-- it does not end
pub record Unended (front bytes : List ℕ) (ls : List Lexeme) (e : State) : Type 0 where
  pub none : ls ≡ []
  pub fits : ModeFits e.mode e.pending_bytes e.characters (front ++ bytes)
  pub size_is : e.size ≡ length (front ++ bytes)

abbrev TokenRest : List ℕ → List ℕ → List Lexeme → State → Type 0
TokenRest front bytes ls e = Ended front bytes ls e ⊎ Unended front bytes ls e

shift : (front : List ℕ) (b : ℕ) (bs : List ℕ) (ls : List Lexeme) (e : State) → TokenRest (front ++ b ∷ []) bs ls e → TokenRest front (b ∷ bs) ls e
shift front b bs ls e (inl i) =
    let same : (front ++ b ∷ []) ++ i.more ≡ front ++ (b ∷ i.more) = append_assoc front (b ∷ []) i.more in
    inl (record {
      lexeme = i.lexeme;
      others = i.others;
      more = b ∷ i.more;
      rest = i.rest;
      ls_are = i.ls_are;
      bytes_are = ap (λ x. b ∷ x) i.bytes_are;
      spells = subst (λ x. Spells i.lexeme.token x) same i.spells;
      size_is = i.size_is ∙ ap length same;
      followed = subst (λ x. IsFollowed i.lexeme.token x i.rest) same i.followed;
      laid = i.laid;
    })
shift front b bs ls e (inr i) =
    let same : (front ++ b ∷ []) ++ bs ≡ front ++ (b ∷ bs) = append_assoc front (b ∷ []) bs in
    inr (record { none = i.none; fits = subst (λ x. ModeFits e.mode e.pending_bytes e.characters x) same i.fits; size_is = i.size_is ∙ ap length same })

-- ---- what the rest of the bytes is, by the state

abbrev RestAt : Mode → State → List ℕ → List Lexeme → State → Type 0
RestAt Between s bytes ls e = s ≡ start → UpTo bytes ls e
RestAt Slash s bytes ls e = s ≡ gap Slash → UpTo (47 ∷ bytes) ls e
RestAt Comment s bytes ls e = s ≡ gap Comment → CommentRest bytes ls e
RestAt Star s bytes ls e = s ≡ gap Star → CommentRest (42 ∷ bytes) ls e
RestAt other s bytes ls e = (front : List ℕ) → BeginsWithNoSeparator front → ModeFits s.mode s.pending_bytes s.characters front → s.size ≡ length front → TokenRest front bytes ls e

token-rest : (m : Mode) (s : State) (bytes : List ℕ) (ls : List Lexeme) (e : State) (front : List ℕ) → RestAt m s bytes ls e → ModeFits m s.pending_bytes s.characters front → BeginsWithNoSeparator front → ModeFits s.mode s.pending_bytes s.characters front → s.size ≡ length front → TokenRest front bytes ls e
token-rest Between s bytes ls e front r f n g z = absurd f
token-rest Slash s bytes ls e front r f n g z = absurd f
token-rest Comment s bytes ls e front r f n g z = absurd f
token-rest Star s bytes ls e front r f n g z = absurd f
token-rest (Number m) s bytes ls e front r f n g z = r front n g z
token-rest (Word m) s bytes ls e front r f n g z = r front n g z
token-rest (Name m) s bytes ls e front r f n g z = r front n g z
token-rest (Binary m) s bytes ls e front r f n g z = r front n g z
token-rest (Text m) s bytes ls e front r f n g z = r front n g z

abbrev Sound : List ℕ → Type 0
Sound bytes = (s : State) (founds : List SizedToken) (ls : List Lexeme) (e : State) → lex s bytes ≡ read founds e → MeanAll founds ls → RestAt s.mode s bytes ls e

-- what a byte between tokens begins
abbrev pub FirstFits : ℕ → Action → Type 0
FirstFits b (Pass n) = ((n ≡ Between) × IsSeparator (blank b)) ⊎ ((n ≡ Slash) × (b ≡ 47))
FirstFits b (Skip n) = ModeFits n [] [] (b ∷ [])
FirstFits b (Keep n) = ModeFits n (b ∷ []) [] (b ∷ [])
FirstFits b (Give one) = Spells (single_token one) (b ∷ [])
FirstFits b (Refuse w) = Unit {0}
FirstFits b other = ⊥

single-followed : (one : Single) (spelling rest : List ℕ) → IsFollowed (single_token one) spelling rest
single-followed one spelling [] = tt
single-followed single.Left spelling (b ∷ rest) = tt
single-followed single.Right spelling (b ∷ rest) = tt
single-followed single.Comma spelling (b ∷ rest) = tt
single-followed single.Semicolon spelling (b ∷ rest) = tt
single-followed single.Equals spelling (b ∷ rest) = tt
single-followed single.Dollar spelling (b ∷ rest) = tt
single-followed single.Star spelling (b ∷ rest) = tt

closed_token-followed : (m : Mode) (pending_bytes : List ℕ) (f : FoundToken) (t : Token) (spelling rest : List ℕ) → closed_token m pending_bytes ≡ Some f → Means f t → IsFollowed t spelling rest
closed_token-followed m pending_bytes f t spelling [] e means = tt
closed_token-followed (Word m) pending_bytes f t spelling (b ∷ rest) e means = by_item t (subst (λ (x : FoundToken). Means x t) (sym (same_Some _ f e)) means)
  where
    by_item : (t : Token) → Means (spelled item_kind pending_bytes) t → IsFollowed t spelling (b ∷ rest)
    by_item (item word) h = tt
    by_item other h = absurd h.0
closed_token-followed (Binary m) pending_bytes f t spelling (b ∷ rest) e means = by_bits t (subst (λ (x : FoundToken). Means x t) (sym (same_Some _ f e)) means)
  where
    by_bits : (t : Token) → Means (spelled bits_kind pending_bytes) t → IsFollowed t spelling (b ∷ rest)
    by_bits (bits value) h = tt
    by_bits other h = absurd h.0
closed_token-followed _ pending_bytes f t spelling (b ∷ rest) e means = cc

-- a byte between tokens that opens one is no separator and no `/`
abbrev Opens : Action → Type 0
Opens (Skip n) = Unit {0}
Opens (Keep n) = Unit {0}
Opens other = ⊥

opens-first : (b : ℕ) → Opens (between_action b) → BeginsWithNoSeparator (b ∷ [])
opens-first b o =
    let no_blank = blank-or b o in (no_blank.0, no_blank.1, λ e. subst (λ (c : ℕ). Opens (between_action c)) e o)
  where
    no_blank : (b : ℕ) → is_blank b ≡ false → (32 < b) × (b ≢ 127)
    no_blank b e = (grind (arith, nat_tests), λ q. grind (arith, nat_tests))

    blank-or : (b : ℕ) → Opens (between_action b) → (32 < b) × (b ≢ 127)
    blank-or b = cond_both (is_blank b) _ _ (λ a. Opens a → (32 < b) × (b ≢ 127)) (λ e o. absurd o) (λ e o. no_blank b e)

nil-means : (ls : List Lexeme) (founds : List SizedToken) → ls ≡ [] → MeanAll founds ls → founds ≡ []
nil-means [] [] e m = refl
nil-means [] (x ∷ founds) e m = absurd m
nil-means (l ∷ ls) founds e m = cc

means-nil : (ls : List Lexeme) → MeanAll [] ls → ls ≡ []
means-nil [] m = refl
means-nil (l ∷ ls) m = absurd m

-- a token found in front
record FoundFirst (x : SizedToken) (more : List SizedToken) (ls : List Lexeme) : Type 0 where
  lexeme : Lexeme
  others : List Lexeme
  ls_are : ls ≡ lexeme ∷ others
  means : Means x.found lexeme.token
  size_is : lexeme.size ≡ x.size
  rest : MeanAll more others

found-first : (x : SizedToken) (more founds : List SizedToken) (ls : List Lexeme) → founds ≡ x ∷ more → MeanAll founds ls → FoundFirst x more ls
found-first x more founds ls e m = at ls (subst (λ (y : List SizedToken). MeanAll y ls) e m)
  where
    at : (ls : List Lexeme) → MeanAll (x ∷ more) ls → FoundFirst x more ls
    at [] m = absurd m
    at (l ∷ ls) m = record { lexeme = l; others = ls; ls_are = refl; means = m.0; size_is = m.1; rest = m.2 }

module _ (first-fits : (b : ℕ) → FirstFits b (between_action b))
    (mode-fits : (m : Mode) (b : ℕ) (pending_bytes characters front : List ℕ) → ModeFits m pending_bytes characters front → StepFits m pending_bytes characters front b (advance m b))
    (mode-ends : (m : Mode) (pending_bytes characters front : List ℕ) → ModeFits m pending_bytes characters front → EndFits m pending_bytes characters front) where
  module _ (b : ℕ) (bs : List ℕ) (sound : Sound bs) where
    -- a token that the byte opens
    opened : (founds : List SizedToken) (ls : List Lexeme) (e : State) → lex start (b ∷ bs) ≡ read founds e → MeanAll founds ls → BeginsWithNoSeparator (b ∷ []) → TokenRest (b ∷ []) bs ls e → UpTo (b ∷ bs) ls e
    opened founds ls e r m n (inl i) =
        subst (λ (x : List Lexeme). UpTo (b ∷ bs) x e) (sym i.ls_are)
        (subst (λ (x : List ℕ). UpTo x (i.lexeme ∷ i.others) e) (ap (λ (x : List ℕ). b ∷ x) (sym i.bytes_are))
        (up-to-token i.lexeme i.others (b ∷ i.more) i.rest e i.spells i.size_is i.followed i.laid))
    opened founds ls e r m n (inr i) =
        subst (λ (x : List Lexeme). UpTo (b ∷ bs) x e) (sym i.none)
        (unfinished (b ∷ bs), ([], refl, no-gap), (i.fits, i.size_is, r ∙ ap (λ (x : List SizedToken). read x e) (nil-means ls founds i.none m), n))

    between-step : (founds : List SizedToken) (ls : List Lexeme) (e : State) → lex start (b ∷ bs) ≡ read founds e → MeanAll founds ls → UpTo (b ∷ bs) ls e
    between-step founds ls e r m = at (between_action b) refl (first-fits b) (sym (lex-byte start b bs) ∙ r)
      where
        at : (a : Action) → between_action b ≡ a → FirstFits b a → act a start b (λ next. lex next bs) ≡ read founds e → UpTo (b ∷ bs) ls e
        at (Pass n) q f z = elim f [
          | inl x ↦ up-to-separator (blank b) x.1 ls bs e (sound start founds ls e (ap (λ (k : Mode). lex (pass start k) bs) (sym x.0) ∙ z) m refl)
          | inr x ↦ subst (λ (c : ℕ). UpTo (c ∷ bs) ls e) (sym x.1) (sound (gap Slash) founds ls e (ap (λ (k : Mode). lex (pass start k) bs) (sym x.0) ∙ z) m refl)
        ]
        at (Skip n) q f z =
            let n1 = opens-first b (subst Opens (sym q) tt) in
            opened founds ls e r m n1 (token-rest n (skip start n) bs ls e (b ∷ []) (sound (skip start n) founds ls e z m) f n1 f (omega arith))
        at (Keep n) q f z =
            let n1 = opens-first b (subst Opens (sym q) tt) in
            opened founds ls e r m n1 (token-rest n (keep start n b) bs ls e (b ∷ []) (sound (keep start n b) founds ls e z m) f n1 f (omega arith))
        at (Give one) q f z =
            let p = before-read (record { found = known (single_token one); size = 1 }) (lex start bs) founds e z in
            let x = found-first _ p.0 founds ls p.1 m in
            subst (λ (y : List Lexeme). UpTo (b ∷ bs) y e) (sym x.ls_are)
            (up-to-token x.lexeme x.others (b ∷ []) bs e (subst (λ (t : Token). Spells t (b ∷ [])) x.means f) (x.size_is ∙ omega arith)
            (subst (λ (t : Token). IsFollowed t (b ∷ []) bs) x.means (single-followed one (b ∷ []) bs)) (sound start p.0 x.others e p.2 x.rest refl))
        at (Refuse w) q f z = absurd (not-read w founds e z)
        at (Put n c) q f z = absurd f
        at Close q f z = absurd f
        at End q f z = absurd f
        at Dash q f z = absurd f

    slash-step : (founds : List SizedToken) (ls : List Lexeme) (e : State) → act (advance Slash b) (gap Slash) b (λ next. lex next bs) ≡ read founds e → MeanAll founds ls → UpTo (47 ∷ b ∷ bs) ls e
    slash-step founds ls e r m = cond_both _ _ _ (λ a. act a (gap Slash) b (λ next. lex next bs) ≡ read founds e → UpTo (47 ∷ b ∷ bs) ls e)
        (λ q z. subst (λ (c : ℕ). UpTo (47 ∷ c ∷ bs) ls e) (sym (eqb-true b 42 q)) (comment-front bs ls e (sound (gap Comment) founds ls e z m refl)))
        (λ q z. absurd (not-read _ founds e z)) r

    comment-step : (founds : List SizedToken) (ls : List Lexeme) (e : State) → act (advance Comment b) (gap Comment) b (λ next. lex next bs) ≡ read founds e → MeanAll founds ls → CommentRest (b ∷ bs) ls e
    comment-step founds ls e r m = cond_both _ _ _ (λ a. act a (gap Comment) b (λ next. lex next bs) ≡ read founds e → CommentRest (b ∷ bs) ls e)
        (λ q z. subst (λ (c : ℕ). CommentRest (c ∷ bs) ls e) (sym (eqb-true b 42 q)) (sound (gap Star) founds ls e z m refl))
        (λ q z. comment-byte b bs ls e (eqb-false b 42 q) (sound (gap Comment) founds ls e z m refl)) r

    star-step : (founds : List SizedToken) (ls : List Lexeme) (e : State) → act (advance Star b) (gap Star) b (λ next. lex next bs) ≡ read founds e → MeanAll founds ls → CommentRest (42 ∷ b ∷ bs) ls e
    star-step founds ls e r m =
        let P : Action → Type 0 = λ a. act a (gap Star) b (λ next. lex next bs) ≡ read founds e → CommentRest (42 ∷ b ∷ bs) ls e in
        cond_both _ _ _ P
        (λ q z. subst (λ (c : ℕ). CommentRest (42 ∷ c ∷ bs) ls e) (sym (eqb-true b 47 q)) (inl ([], bs, refl, EndsOnce-nil, sound start founds ls e z m refl)))
        (λ f. cond_both _ _ _ P
        (λ q z. star-byte b bs ls e (eqb-false b 47 f) (subst (λ (c : ℕ). CommentRest (c ∷ bs) ls e) (sym (eqb-true b 42 q)) (sound (gap Star) founds ls e z m refl)))
        (λ q z. star-byte b bs ls e (eqb-false b 47 f) (comment-byte b bs ls e (eqb-false b 42 q) (sound (gap Comment) founds ls e z m refl)))) r

    -- a byte of or behind a token
    token-step : (s : State) (founds : List SizedToken) (ls : List Lexeme) (e : State) (front : List ℕ) → lex s (b ∷ bs) ≡ read founds e → MeanAll founds ls → BeginsWithNoSeparator front → ModeFits s.mode s.pending_bytes s.characters front → s.size ≡ length front → TokenRest front (b ∷ bs) ls e
    token-step s founds ls e front r m n f z = at (advance s.mode b) (mode-fits s.mode b s.pending_bytes s.characters front f) (sym (lex-byte s b bs) ∙ r)
      where
        more : BeginsWithNoSeparator (front ++ b ∷ [])
        more = begins-on front (b ∷ []) n

        longer : s.size + 1 ≡ length (front ++ b ∷ [])
        longer = omega (arith, z, length-append front (b ∷ []))

        goes : (next : State) → ModeFits next.mode next.pending_bytes next.characters (front ++ b ∷ []) → next.size ≡ s.size + 1 → lex next bs ≡ read founds e → TokenRest front (b ∷ bs) ls e
        goes next g k q = shift front b bs ls e (token-rest next.mode next bs ls e (front ++ b ∷ []) (sound next founds ls e q m) g more g (k ∙ longer))

        closes : (o : Option FoundToken) → closed_token s.mode (s.pending_bytes ++ b ∷ []) ≡ o → ((found : FoundToken) (token : Token) → closed_token s.mode (s.pending_bytes ++ b ∷ []) ≡ Some found → Means found token → Spells token (front ++ b ∷ [])) → with_token_in_front o (s.size + 1) (lex start bs) ≡ read founds e → TokenRest front (b ∷ bs) ls e
        closes None q g h = absurd (not-read _ founds e h)
        closes (Some x) q g h =
            let p = before-read (record { found = x; size = s.size + 1 }) (lex start bs) founds e h in
            let y = found-first _ p.0 founds ls p.1 m in
            inl (record {
              lexeme = y.lexeme;
              others = y.others;
              more = b ∷ [];
              rest = bs;
              ls_are = y.ls_are;
              bytes_are = refl;
              spells = g x y.lexeme.token q y.means;
              size_is = y.size_is ∙ longer;
              followed = closed_token-followed s.mode (s.pending_bytes ++ b ∷ []) x y.lexeme.token (front ++ b ∷ []) bs q y.means;
              laid = sound start p.0 y.others e p.2 y.rest refl;
            })

        ends : (o : Option FoundToken) → ended_token s ≡ o → ((found : FoundToken) (token : Token) → ended_token s ≡ Some found → Means found token → MayFollow token front b) → with_token_in_front o s.size (first (advance Between b) b (λ next. lex next bs)) ≡ read founds e → TokenRest front (b ∷ bs) ls e
        ends None q g h = absurd (not-read _ founds e h)
        ends (Some x) q g h =
            let p = before-read (record { found = x; size = s.size }) (first (advance Between b) b (λ next. lex next bs)) founds e h in
            let y = found-first _ p.0 founds ls p.1 m in
            let same : front ++ [] ≡ front = append-nil front in
            inl (record {
              lexeme = y.lexeme;
              others = y.others;
              more = [];
              rest = b ∷ bs;
              ls_are = y.ls_are;
              bytes_are = refl;
              spells = subst (λ (c : List ℕ). Spells y.lexeme.token c) (sym same) (mode-ends s.mode s.pending_bytes s.characters front f x y.lexeme.token q y.means);
              size_is = y.size_is ∙ (z ∙ ap length (sym same));
              followed = subst (λ (c : List ℕ). MayFollow y.lexeme.token c b) (sym same) (g x y.lexeme.token q y.means);
              laid = between-step p.0 y.others e (lex-byte start b bs ∙ (sym (first-act (advance Between b) b (λ next. lex next bs)) ∙ p.2)) y.rest;
            })

        dashes : (o : Option Mode) → marker_of s.pending_bytes ≡ o → ((next : Mode) → marker_of s.pending_bytes ≡ Some next → ModeFits next (s.pending_bytes ++ b ∷ []) s.characters (front ++ b ∷ [])) → continue_marker o s b (λ next. lex next bs) ≡ read founds e → TokenRest front (b ∷ bs) ls e
        dashes None q g h = absurd (not-read _ founds e h)
        dashes (Some x) q g h = goes (keep s x b) (g x q) refl h

        at : (a : Action) → StepFits s.mode s.pending_bytes s.characters front b a → act a s b (λ next. lex next bs) ≡ read founds e → TokenRest front (b ∷ bs) ls e
        at (Pass x) g h = absurd g
        at (Skip x) g h = goes (skip s x) g refl h
        at (Keep x) g h = goes (keep s x b) g refl h
        at (Put x c) g h = goes (put s x c) g refl h
        at (Give one) g h = absurd g
        at Close g h = closes (closed_token s.mode (s.pending_bytes ++ b ∷ [])) refl g h
        at End g h = ends (ended_token s) refl g.follows h
        at Dash g h = dashes (marker_of s.pending_bytes) refl g h
        at (Refuse w) g h = absurd (not-read w founds e h)

    step : Sound (b ∷ bs)
    step s founds ls e r m = at s.mode refl
      where
        by_gap : (k : Mode) → s ≡ gap k → act (advance k b) (gap k) b (λ next. lex next bs) ≡ read founds e
        by_gap k q = sym (lex-byte (gap k) b bs) ∙ (ap (λ (x : State). lex x (b ∷ bs)) (sym q) ∙ r)

        at : (k : Mode) → s.mode ≡ k → RestAt k s (b ∷ bs) ls e
        at Between p = λ q. between-step founds ls e (ap (λ (x : State). lex x (b ∷ bs)) (sym q) ∙ r) m
        at Slash p = λ q. slash-step founds ls e (by_gap Slash q) m
        at Comment p = λ q. comment-step founds ls e (by_gap Comment q) m
        at Star p = λ q. star-step founds ls e (by_gap Star q) m
        at (Number k) p = λ front n f z. token-step s founds ls e front r m n f z
        at (Word k) p = λ front n f z. token-step s founds ls e front r m n f z
        at (Name k) p = λ front n f z. token-step s founds ls e front r m n f z
        at (Binary k) p = λ front n f z. token-step s founds ls e front r m n f z
        at (Text k) p = λ front n f z. token-step s founds ls e front r m n f z

  at-end : Sound []
  at-end s founds ls e r m = at s.mode refl
    where
      same : s ≡ e
      same = let p : open_at s ≡ open_at e = ap (λ (y : Answer). y.ending) (sym (lex-nil s) ∙ r) in cc

      none : ls ≡ []
      none = means-nil ls (subst (λ (x : List SizedToken). MeanAll x ls) (sym (ap (λ (y : Answer). y.given) (sym (lex-nil s) ∙ r))) m)

      up-to : (tail : Tail) → TailIs e tail → UpTo (tail_bytes tail) ls e
      up-to tail t = subst (λ (x : List Lexeme). UpTo (tail_bytes tail) x e) (sym none) (tail, ([], refl, no-gap), t)

      in-token : (front : List ℕ) → BeginsWithNoSeparator front → ModeFits s.mode s.pending_bytes s.characters front → s.size ≡ length front → TokenRest front [] ls e
      in-token front n f z =
          let whole : front ≡ front ++ [] = sym (append-nil front) in
          inr (record { none = none; fits = subst (λ (c : List ℕ). ModeFits e.mode e.pending_bytes e.characters c) whole (subst (λ (x : State). ModeFits x.mode x.pending_bytes x.characters front) same f); size_is = ap (λ (x : State). x.size) (sym same) ∙ (z ∙ ap length whole) })

      at : (k : Mode) → s.mode ≡ k → RestAt k s [] ls e
      at Between p = λ q. up-to nothing (sym same ∙ q)
      at Slash p = λ q. up-to slash (sym same ∙ q)
      at Comment p = λ q. inr (none, inl (sym same ∙ q), NoEnd-nil)
      at Star p = λ q. inr (none, inr (sym same ∙ q), NoEnd-cons 42 [] (λ y _ x. let z : [] ≡ 47 ∷ y = x in cc) NoEnd-nil)
      at (Number k) p = in-token
      at (Word k) p = in-token
      at (Name k) p = in-token
      at (Binary k) p = in-token
      at (Text k) p = in-token

  sound-all : (bytes : List ℕ) → Sound bytes
  sound-all [] = at-end
  sound-all (b ∷ bs) = step b bs (sound-all bs)

  -- the tokens that are found are laid in the bytes, up to what the state says
  pub read-laid : (bytes : List ℕ) (founds : List SizedToken) (ls : List Lexeme) (e : State) → lex start bytes ≡ read founds e → MeanAll founds ls → UpTo bytes ls e
  read-laid bytes founds ls e r m = sound-all bytes start founds ls e r m refl
