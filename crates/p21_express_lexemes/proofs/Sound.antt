-- What is read is laid in the text.
use Rattle.std.proofs.Common.{◌≡◌, ◌≢◌, ℕ, zero, suc, ◌<◌, ◌⊎◌, Bool, true, false, inl, inr, List, [], ◌∷◌, ◌++◌, ◌==◌, ◌&&◌, map, length, Option, Some, None, refl, ap, sym, subst, ◌∙◌, append_assoc, append-nil, arith}
use Rattle.std.specs.List.{flat_map, AllByRecursion as Each}
use Rattle.std.proofs.lemmas.Bool.{cases_Bool, eqb-true, eqb-false, and_parts, and_cases, both_ways}
use Rattle.std.proofs.lemmas.Bool.Decides.{nat_tests}
use Rattle.p21_spec_basics.specs.Digits.{AllDigits}
use Rattle.p21_spec_schema.specs.Express.{Lexeme, identifier, digits, simple_string, encoded_string, symbol, IsIdentifierByte, SpellsLexeme, quote_twice, upper}
use Rattle.p21_spec_schema.specs.ExpressLaying.{LexemeIsFollowed, LaidLexemes}
use Rattle.p21_spec_schema.specs.Remark.{Mark, opening_mark, closing_mark, remark_byte, mark_bytes, DoesNotBeginWith, AreMarks, ClosesAtLastMark, Separator, blank, embedded_remark, tail_remark, IsSeparator, separator_bytes, IsSeparatorText, IsLastSeparatorText}
use Rattle.p21_express_lexemes.specs.Bytes.{is_of, begins, begins_of, begins_both, front, behind}
use Rattle.p21_express_lexemes.specs.Skipping.{Gap, between, opened, closed, dash, line, remark, closing, skip}
use Rattle.p21_express_lexemes.specs.FirstLexeme.{found, ended, wrong, Quoted, quoted, unquoted, after, unquote, simple_of, encoded_of, lexeme_at, lexeme_of, first_lexeme_within, first_lexeme_of}
use Rattle.p21_express_lexemes.specs.declared.bytes.Class.{Class}
use Rattle.p21_express_lexemes.specs.declared.bytes.Class.TheVariants.{Blank, Letter, Digit, IdentifierByte, Encoded, SymbolByte}
use Rattle.p21_express_lexemes.proofs.Classes.{blank_only, letter_is, letter_only, digit_is, digit_only, identifier_is, identifier_only, encoded_only, symbol_only}
use Rattle.p21_express_lexemes.proofs.Spans.{front_and_behind}

-- ---- separators

-- bytes are separators and what is left, which none begins
pub record SkipsTo (bytes rest : List ℕ) : Type 0 where
  pub gap : List ℕ
  pub is : bytes ≡ gap ++ rest
  pub last : IsLastSeparatorText gap
  pub inner : 0 < length rest → IsSeparatorText gap
  pub no_remark : begins_both 40 42 rest ≡ false
  pub no_line : begins_both 45 45 rest ≡ false

text_more : (s : Separator) (gap : List ℕ) → IsSeparator s → IsSeparatorText gap → IsSeparatorText (separator_bytes s ++ gap)
text_more s gap h g = (s ∷ g.0, (h, g.1), ap (λ (x : List ℕ). separator_bytes s ++ x) g.2)

last_more : (s : Separator) (gap : List ℕ) → IsSeparator s → IsLastSeparatorText gap → IsLastSeparatorText (separator_bytes s ++ gap)
last_more s gap h (inl g) = inl (text_more s gap h g)
last_more s gap h (inr (front_gap, l, is, g, each)) =
    inr (separator_bytes s ++ front_gap, l, ap (λ (x : List ℕ). separator_bytes s ++ x) is ∙ sym (append_assoc (separator_bytes s) front_gap (45 ∷ 45 ∷ l)), text_more s front_gap h g, each)

prepend : (s : Separator) (bytes rest : List ℕ) → IsSeparator s → SkipsTo bytes rest → SkipsTo (separator_bytes s ++ bytes) rest
prepend s bytes rest h t = record {
  gap = separator_bytes s ++ t.gap;
  is = ap (λ (x : List ℕ). separator_bytes s ++ x) t.is ∙ sym (append_assoc (separator_bytes s) t.gap rest);
  last = last_more s t.gap h t.last;
  inner = λ some. text_more s t.gap h (t.inner some);
  no_remark = t.no_remark;
  no_line = t.no_line;
}

-- within a tail remark
abbrev LineTo : List ℕ → List ℕ → Type 0
LineTo bytes rest = (l more : List ℕ) × (bytes ≡ l ++ more) × Each (λ byte. byte ≢ 10) l × (((more ≡ []) × (rest ≡ [])) ⊎ ((next : List ℕ) × (more ≡ 10 ∷ next) × SkipsTo next rest))

-- within an embedded remark
abbrev RemarkTo : ℕ → List ℕ → List ℕ → Type 0
RemarkTo inner bytes rest = (marks : List Mark) × (more : List ℕ) × (bytes ≡ flat_map mark_bytes marks ++ more) × AreMarks marks × ClosesAtLastMark inner marks × SkipsTo more rest

-- behind one byte
abbrev Behind : (List ℕ → Type 0) → List ℕ → Type 0
Behind P bytes = (c : ℕ) × (tail : List ℕ) × (bytes ≡ c ∷ tail) × P tail

abbrev Skipped : Gap → List ℕ → List ℕ → Type 0
Skipped between bytes rest = SkipsTo bytes rest
Skipped (opened inner) bytes rest = Behind (λ tail. RemarkTo inner tail rest) bytes
Skipped closed bytes rest = Behind (λ tail. SkipsTo tail rest) bytes
Skipped dash bytes rest = Behind (λ tail. LineTo tail rest) bytes
Skipped line bytes rest = LineTo bytes rest
Skipped (remark inner) bytes rest = RemarkTo inner bytes rest

nothing_left : (bytes rest : List ℕ) → rest ≡ [] → IsLastSeparatorText bytes → SkipsTo bytes rest
nothing_left bytes rest none h = record {
  gap = bytes;
  is = sym (append-nil bytes) ∙ ap (λ (x : List ℕ). bytes ++ x) (sym none);
  last = h;
  inner = λ some. absurd (let e = ap length none in omega arith);
  no_remark = rw none refl;
  no_line = rw none refl;
}

line_done : (bytes rest : List ℕ) → LineTo bytes rest → SkipsTo (45 ∷ 45 ∷ bytes) rest
line_done bytes rest (l, more, is, each, inl ends) =
    let all : bytes ≡ l = is ∙ (ap (λ (x : List ℕ). l ++ x) ends.0 ∙ append-nil l) in
    nothing_left (45 ∷ 45 ∷ bytes) rest ends.1 (inr ([], l, ap (λ (x : List ℕ). 45 ∷ 45 ∷ x) all, ([], tt, refl), each))
line_done bytes rest (l, more, is, each, inr (next, more_is, t)) =
    let all : (45 ∷ 45 ∷ (l ++ 10 ∷ [])) ++ next ≡ 45 ∷ 45 ∷ bytes = ap (λ (x : List ℕ). 45 ∷ 45 ∷ x) (append_assoc l (10 ∷ []) next ∙ (ap (λ (x : List ℕ). l ++ x) (sym more_is) ∙ sym is)) in
    subst (λ (x : List ℕ). SkipsTo x rest) all (prepend (tail_remark l) next rest each t)

remark_done : (bytes rest : List ℕ) → RemarkTo zero bytes rest → SkipsTo (40 ∷ 42 ∷ bytes) rest
remark_done bytes rest (marks, more, is, a, c, t) =
    subst (λ (x : List ℕ). SkipsTo x rest) (ap (λ (x : List ℕ). 40 ∷ 42 ∷ x) (sym is)) (prepend (embedded_remark marks) more rest (a, c) t)

second_is : (first second b c : ℕ) (bytes tail : List ℕ) → (b == first && begins second bytes) ≡ true → bytes ≡ c ∷ tail → first ∷ second ∷ tail ≡ b ∷ bytes
second_is first second b c bytes tail h is =
    let p = and_parts (b == first) (begins second bytes) h in
    let q : (c == second) ≡ true = ap (begins second) (sym is) ∙ p.1 in
    let d : b ≡ first = eqb-true b first p.0 in
    let e : c ≡ second = eqb-true c second q in
    cc

head_is_not : (c : ℕ) (xs more : List ℕ) → begins c (xs ++ more) ≡ false → DoesNotBeginWith c xs
head_is_not c [] more h = tt
head_is_not c (x ∷ xs) more h = λ e. eqb-false x c h e

mark_apart : (first second b : ℕ) (xs more bytes : List ℕ) → bytes ≡ xs ++ more → (b == first && begins second bytes) ≡ false → b ≡ first → DoesNotBeginWith second xs
mark_apart first second b xs more bytes is h e = elim (and_cases (b == first) (begins second bytes) h) [
  | inl n ↦ absurd (eqb-false b first n e)
  | inr n ↦ head_is_not second xs more (ap (begins second) (sym is) ∙ n)
]

opens_again : (inner b : ℕ) (bytes rest : List ℕ) → (b == 40 && begins 42 bytes) ≡ true → Behind (λ tail. RemarkTo (suc inner) tail rest) bytes → RemarkTo inner (b ∷ bytes) rest
opens_again inner b bytes rest h (c, tail, is, (marks, more, tail_is, a, cl, t)) =
    (opening_mark ∷ marks, more, sym (second_is 40 42 b c bytes tail h is) ∙ ap (λ (x : List ℕ). 40 ∷ 42 ∷ x) tail_is, a, cl, t)

closes_one : (inner b : ℕ) (bytes rest : List ℕ) → (b == 42 && begins 41 bytes) ≡ true → Skipped (closing inner) bytes rest → RemarkTo inner (b ∷ bytes) rest
closes_one zero b bytes rest h (c, tail, is, t) = (closing_mark ∷ [], tail, sym (second_is 42 41 b c bytes tail h is), tt, refl, t)
closes_one (suc inner) b bytes rest h (c, tail, is, (marks, more, tail_is, a, cl, t)) =
    (closing_mark ∷ marks, more, sym (second_is 42 41 b c bytes tail h is) ∙ ap (λ (x : List ℕ). 42 ∷ 41 ∷ x) tail_is, a, cl, t)

stays : (inner b : ℕ) (bytes rest : List ℕ) → (b == 40 && begins 42 bytes) ≡ false → (b == 42 && begins 41 bytes) ≡ false → RemarkTo inner bytes rest → RemarkTo inner (b ∷ bytes) rest
stays inner b bytes rest n m (marks, more, is, a, cl, t) =
    (remark_byte b ∷ marks, more, ap (λ (x : List ℕ). b ∷ x) is, (mark_apart 40 42 b (flat_map mark_bytes marks) more bytes is n, mark_apart 42 41 b (flat_map mark_bytes marks) more bytes is m, a), cl, t)

some_same : (xs ys : List ℕ) → Some xs ≡ Some ys → xs ≡ ys
some_same xs ys e = cc

stop_here : (bytes rest : List ℕ) → begins_both 40 42 bytes ≡ false → begins_both 45 45 bytes ≡ false → Some bytes ≡ Some rest → SkipsTo bytes rest
stop_here bytes rest n m e = subst (λ (x : List ℕ). SkipsTo bytes x) (some_same bytes rest e) (record { gap = []; is = refl; last = inl ([], tt, refl); inner = λ _. ([], tt, refl); no_remark = n; no_line = m })

pub skipped : (gap : Gap) (bytes rest : List ℕ) → skip gap bytes ≡ Some rest → Skipped gap bytes rest
unfolding skip
skipped between [] rest e = nothing_left [] rest (sym (some_same [] rest e)) (inl ([], tt, refl))
skipped (opened inner) [] rest e = cc
skipped closed [] rest e = cc
skipped dash [] rest e = cc
skipped line [] rest e = ([], [], refl, tt, inl (refl, sym (some_same [] rest e)))
skipped (remark inner) [] rest e = cc
skipped between (b ∷ bytes) rest e = elim (cases_Bool (b == 40 && begins 42 bytes)) [
  | inl h ↦
      let t = skipped (opened zero) bytes rest (rw h at e) in
      subst (λ (x : List ℕ). SkipsTo x rest) (second_is 40 42 b t.0 bytes t.1 h t.2) (remark_done t.1 rest t.3)
  | inr n ↦ elim (cases_Bool (b == 45 && begins 45 bytes)) [
    | inl h ↦
        let t = skipped dash bytes rest (rw (n, h) at e) in
        subst (λ (x : List ℕ). SkipsTo x rest) (second_is 45 45 b t.0 bytes t.1 h t.2) (line_done t.1 rest t.3)
    | inr m ↦ elim (cases_Bool (is_of Blank b)) [
      | inl h ↦ prepend (blank b) bytes rest (blank_only b h) (skipped between bytes rest (rw (n, m, h) at e))
      | inr k ↦ stop_here (b ∷ bytes) rest n m (rw (n, m, k) at e)
    ]
  ]
]
skipped (opened inner) (b ∷ bytes) rest e = (b, bytes, refl, skipped (remark inner) bytes rest e)
skipped closed (b ∷ bytes) rest e = (b, bytes, refl, skipped between bytes rest e)
skipped dash (b ∷ bytes) rest e = (b, bytes, refl, skipped line bytes rest e)
skipped line (b ∷ bytes) rest e = elim (cases_Bool (b == 10)) [
  | inl h ↦ ([], b ∷ bytes, refl, tt, inr (bytes, ap (λ (x : ℕ). x ∷ bytes) (eqb-true b 10 h), skipped between bytes rest (rw h at e)))
  | inr n ↦ let t = skipped line bytes rest (rw n at e) in (b ∷ t.0, t.1, ap (λ (x : List ℕ). b ∷ x) t.2, (eqb-false b 10 n, t.3), t.4)
]
skipped (remark inner) (b ∷ bytes) rest e = elim (cases_Bool (b == 40 && begins 42 bytes)) [
  | inl h ↦ opens_again inner b bytes rest h (skipped (opened (suc inner)) bytes rest (rw h at e))
  | inr n ↦ elim (cases_Bool (b == 42 && begins 41 bytes)) [
    | inl h ↦ closes_one inner b bytes rest h (skipped (closing inner) bytes rest (rw (n, h) at e))
    | inr m ↦ stays inner b bytes rest n m (skipped (remark inner) bytes rest (rw (n, m) at e))
  ]
]

-- ---- lexemes

-- bytes begin with a lexeme
abbrev pub Begins : Lexeme → List ℕ → List ℕ → Type 0
Begins lexeme bytes rest = (spelling : List ℕ) × (bytes ≡ spelling ++ rest) × SpellsLexeme lexeme spelling × LexemeIsFollowed lexeme rest

begins_same : (l m : Lexeme) (bytes r s : List ℕ) → Begins l bytes r → found l r ≡ found m s → Begins m bytes s
begins_same l m bytes r s h e =
    let p : l ≡ m = cc in
    let q : r ≡ s = cc in
    subst (λ (x : Lexeme). Begins x bytes s) p (subst (λ (x : List ℕ). Begins l bytes x) q h)

identifier_front : (bytes : List ℕ) → Each IsIdentifierByte (front IdentifierByte bytes)
identifier_front [] = tt
identifier_front (b ∷ bytes) = elim (cases_Bool (is_of IdentifierByte b)) [ inl h ↦ rw h (identifier_only b h, identifier_front bytes) | inr n ↦ rw n tt ]

digit_front : (bytes : List ℕ) → AllDigits (front Digit bytes)
digit_front [] = tt
digit_front (b ∷ bytes) = elim (cases_Bool (is_of Digit b)) [ inl h ↦ rw h (digit_only b h, digit_front bytes) | inr n ↦ rw n tt ]

encoded_front : (bytes : List ℕ) → Each (λ byte. byte ≢ 34) (front Encoded bytes)
encoded_front [] = tt
encoded_front (b ∷ bytes) = elim (cases_Bool (is_of Encoded b)) [ inl h ↦ rw h (encoded_only b h, encoded_front bytes) | inr n ↦ rw n tt ]

behind_ends : (class : Class) (bytes : List ℕ) → begins_of class (behind class bytes) ≡ false
behind_ends class [] = refl
behind_ends class (b ∷ bytes) = elim (cases_Bool (is_of class b)) [ inl h ↦ rw h (behind_ends class bytes) | inr n ↦ rw (n, n) refl ]

identifier_followed : (name rest : List ℕ) → begins_of IdentifierByte rest ≡ false → LexemeIsFollowed (identifier name) rest
identifier_followed name [] h = tt
identifier_followed name (b ∷ rest) h = λ i. both_ways _ h (identifier_is b i)

digits_followed : (ds rest : List ℕ) → begins_of Digit rest ≡ false → LexemeIsFollowed (digits ds) rest
digits_followed ds [] h = tt
digits_followed ds (b ∷ rest) h = λ i. both_ways _ h (digit_is b i)

simple_followed : (inside rest : List ℕ) → begins 39 rest ≡ false → LexemeIsFollowed (simple_string inside) rest
simple_followed inside [] h = tt
simple_followed inside (b ∷ rest) h = eqb-false b 39 h

encoded_followed : (inside rest : List ℕ) → LexemeIsFollowed (encoded_string inside) rest
encoded_followed inside [] = tt
encoded_followed inside (b ∷ rest) = tt

symbol_followed : (b : ℕ) (rest : List ℕ) → begins_both 40 42 (b ∷ rest) ≡ false → begins_both 45 45 (b ∷ rest) ≡ false → LexemeIsFollowed (symbol b) rest
symbol_followed b [] n m = tt
symbol_followed b (c ∷ rest) n m = (mark_apart 40 42 b (c ∷ []) rest (c ∷ rest) refl n, mark_apart 45 45 b (c ∷ []) rest (c ∷ rest) refl m)

-- what an apostrophe or a byte in front leaves
after_one : (x : ℕ) (q : Quoted) (inside rest : List ℕ) → after (x ∷ []) q ≡ quoted inside rest → (more : List ℕ) × (q ≡ quoted more rest) × (inside ≡ x ∷ more)
after_one x (quoted more last) inside rest e = let p : last ≡ rest = cc in (more, ap (quoted more) p, (cc))
after_one x unquoted inside rest e = cc

abbrev Unquotes : Bool → List ℕ → List ℕ → List ℕ → Type 0
Unquotes false bytes inside rest = (bytes ≡ flat_map quote_twice inside ++ 39 ∷ rest) × (begins 39 rest ≡ false)
Unquotes true bytes inside rest = (39 ∷ bytes ≡ flat_map quote_twice inside ++ 39 ∷ rest) × (begins 39 rest ≡ false)

ends_with : (bytes last inside rest : List ℕ) → quoted [] last ≡ quoted inside rest → begins 39 last ≡ false → (39 ∷ last ≡ flat_map quote_twice inside ++ 39 ∷ rest) × (begins 39 rest ≡ false)
ends_with bytes last inside rest e n =
    let p : [] ≡ inside = cc in
    let q : last ≡ rest = cc in
    (subst (λ (x : List ℕ). 39 ∷ last ≡ flat_map quote_twice x ++ 39 ∷ rest) p (ap (λ (x : List ℕ). 39 ∷ x) q), ap (begins 39) (sym q) ∙ n)

unquotes : (mode : Bool) (bytes inside rest : List ℕ) → unquote mode bytes ≡ quoted inside rest → Unquotes mode bytes inside rest
unfolding unquote
unquotes false [] inside rest e = cc
unquotes true [] inside rest e = ends_with [] [] inside rest e refl
unquotes false (b ∷ bytes) inside rest e = elim (cases_Bool (b == 39)) [
  | inl h ↦ let t = unquotes true bytes inside rest (rw h at e) in (ap (λ (x : ℕ). x ∷ bytes) (eqb-true b 39 h) ∙ t.0, t.1)
  | inr n ↦
      let o = after_one b (unquote false bytes) inside rest (rw n at e) in
      let t = unquotes false bytes o.0 rest o.1 in
      (subst (λ (x : List ℕ). b ∷ bytes ≡ flat_map quote_twice x ++ 39 ∷ rest) (sym o.2) (rw n (ap (λ (x : List ℕ). b ∷ x) t.0)), t.1)
]
unquotes true (b ∷ bytes) inside rest e = elim (cases_Bool (b == 39)) [
  | inl h ↦
      let o = after_one 39 (unquote false bytes) inside rest (rw h at e) in
      let t = unquotes false bytes o.0 rest o.1 in
      (subst (λ (x : List ℕ). 39 ∷ b ∷ bytes ≡ flat_map quote_twice x ++ 39 ∷ rest) (sym o.2) (ap (λ (x : ℕ). 39 ∷ x ∷ bytes) (eqb-true b 39 h) ∙ ap (λ (x : List ℕ). 39 ∷ 39 ∷ x) t.0), t.1)
  | inr n ↦ ends_with [] (b ∷ bytes) inside rest (rw n at e) n
]

simple_begins : (bytes : List ℕ) (q : Quoted) (lexeme : Lexeme) (rest : List ℕ) → unquote false bytes ≡ q → simple_of q ≡ found lexeme rest → Begins lexeme (39 ∷ bytes) rest
simple_begins bytes (quoted inside last) lexeme rest q e =
    let t = unquotes false bytes inside last q in
    begins_same (simple_string inside) lexeme (39 ∷ bytes) last rest
    (39 ∷ flat_map quote_twice inside ++ 39 ∷ [], ap (λ (x : List ℕ). 39 ∷ x) (t.0 ∙ sym (append_assoc (flat_map quote_twice inside) (39 ∷ []) last)), refl, simple_followed inside last t.1) e
simple_begins bytes unquoted lexeme rest q e = cc

encoded_not : (b : ℕ) → is_of Encoded b ≡ false → b ≡ 34
unfolding is_of
encoded_not b h = grind (arith, nat_tests)

encoded_begins : (bytes inside last : List ℕ) (lexeme : Lexeme) (rest : List ℕ) → bytes ≡ inside ++ last → Each (λ byte. byte ≢ 34) inside → begins_of Encoded last ≡ false → encoded_of inside last ≡ found lexeme rest → Begins lexeme (34 ∷ bytes) rest
encoded_begins bytes inside [] lexeme rest is each n e = cc
encoded_begins bytes inside (mark ∷ last) lexeme rest is each n e =
    let m : mark ≡ 34 = encoded_not mark n in
    begins_same (encoded_string inside) lexeme (34 ∷ bytes) last rest
    (34 ∷ inside ++ 34 ∷ [], ap (λ (x : List ℕ). 34 ∷ x) (is ∙ (ap (λ (x : ℕ). inside ++ x ∷ last) m ∙ sym (append_assoc inside (34 ∷ []) last))), (refl, each), encoded_followed inside last) e

pub lexeme_begins : (b : ℕ) (bytes : List ℕ) (lexeme : Lexeme) (rest : List ℕ) → begins_both 40 42 (b ∷ bytes) ≡ false → begins_both 45 45 (b ∷ bytes) ≡ false → lexeme_at b bytes ≡ found lexeme rest → Begins lexeme (b ∷ bytes) rest
unfolding lexeme_at
lexeme_begins b bytes lexeme rest no_remark no_line e = elim (cases_Bool (is_of Letter b)) [
  | inl h ↦
      let inside = front IdentifierByte bytes in
      let last = behind IdentifierByte bytes in
      begins_same (identifier (map upper (b ∷ inside))) lexeme (b ∷ bytes) last rest
      (b ∷ inside, ap (λ (x : List ℕ). b ∷ x) (front_and_behind IdentifierByte bytes), ((letter_only b h, identifier_front bytes), refl), identifier_followed (map upper (b ∷ inside)) last (behind_ends IdentifierByte bytes)) (rw h at e)
  | inr n ↦ elim (cases_Bool (is_of Digit b)) [
    | inl h ↦
        let inside = front Digit bytes in
        let last = behind Digit bytes in
        begins_same (digits (b ∷ inside)) lexeme (b ∷ bytes) last rest
        (b ∷ inside, ap (λ (x : List ℕ). b ∷ x) (front_and_behind Digit bytes), (refl, omega arith, (digit_only b h, digit_front bytes)), digits_followed (b ∷ inside) last (behind_ends Digit bytes)) (rw (n, h) at e)
    | inr m ↦ elim (cases_Bool (b == 39)) [
      | inl h ↦ subst (λ (x : ℕ). Begins lexeme (x ∷ bytes) rest) (sym (eqb-true b 39 h)) (simple_begins bytes (unquote false bytes) lexeme rest refl (rw (n, m, h) at e))
      | inr k ↦ elim (cases_Bool (b == 34)) [
        | inl h ↦ subst (λ (x : ℕ). Begins lexeme (x ∷ bytes) rest) (sym (eqb-true b 34 h))
            (encoded_begins bytes (front Encoded bytes) (behind Encoded bytes) lexeme rest (front_and_behind Encoded bytes) (encoded_front bytes) (behind_ends Encoded bytes) (rw (n, m, k, h) at e))
        | inr o ↦ elim (cases_Bool (is_of SymbolByte b)) [
          | inl h ↦
              let r = symbol_only b h in
              begins_same (symbol b) lexeme (b ∷ bytes) bytes rest
              (b ∷ [], refl, (refl, r.0, r.1, (λ i. both_ways _ n (letter_is b i)), (λ i. both_ways _ m (digit_is b i)), eqb-false b 39 k, eqb-false b 34 o), symbol_followed b bytes no_remark no_line) (rw (n, m, k, o, h) at e)
          | inr p ↦ absurd (nothing (rw (n, m, k, o, p) at e))
        ]
      ]
    ]
  ]
]
  where
    nothing : wrong ≡ found lexeme rest → ⊥
    nothing q = cc

-- ---- a text

lexeme_laid : (bytes left : List ℕ) (lexeme : Lexeme) (rest : List ℕ) (lexemes : List Lexeme) → SkipsTo bytes left → lexeme_of left ≡ found lexeme rest → LaidLexemes lexemes rest → LaidLexemes (lexeme ∷ lexemes) bytes
lexeme_laid bytes [] lexeme rest lexemes t e l = cc
lexeme_laid bytes (b ∷ left) lexeme rest lexemes t e l =
    let h = lexeme_begins b left lexeme rest t.no_remark t.no_line e in
    (t.gap, h.0, rest, t.is ∙ (ap (λ (x : List ℕ). t.gap ++ x) h.1 ∙ sym (append_assoc t.gap h.0 rest)), t.inner (omega arith), h.2, h.3, l)

within_found : (bytes : List ℕ) (s : Option (List ℕ)) (lexeme : Lexeme) (rest : List ℕ) (lexemes : List Lexeme) → skip between bytes ≡ s → first_lexeme_within s ≡ found lexeme rest → LaidLexemes lexemes rest → LaidLexemes (lexeme ∷ lexemes) bytes
within_found bytes None lexeme rest lexemes s e l = cc
within_found bytes (Some left) lexeme rest lexemes s e l = lexeme_laid bytes left lexeme rest lexemes (skipped between bytes left s) e l

pub read_laid : (bytes : List ℕ) (lexeme : Lexeme) (rest : List ℕ) (lexemes : List Lexeme) → first_lexeme_of bytes ≡ found lexeme rest → LaidLexemes lexemes rest → LaidLexemes (lexeme ∷ lexemes) bytes
read_laid bytes lexeme rest lexemes e l = within_found bytes (skip between bytes) lexeme rest lexemes refl e l

nothing_begins : (b : ℕ) (bytes : List ℕ) → lexeme_at b bytes ≡ ended → ⊥
unfolding lexeme_at
nothing_begins b bytes e = elim (cases_Bool (is_of Letter b)) [
  | inl h ↦ (let q = rw h at e in cc)
  | inr n ↦ elim (cases_Bool (is_of Digit b)) [
    | inl h ↦ (let q = rw (n, h) at e in cc)
    | inr m ↦ elim (cases_Bool (b == 39)) [
      | inl h ↦ simple_goes_on (unquote false bytes) (rw (n, m, h) at e)
      | inr k ↦ elim (cases_Bool (b == 34)) [
        | inl h ↦ encoded_goes_on (front Encoded bytes) (behind Encoded bytes) (rw (n, m, k, h) at e)
        | inr o ↦ elim (cases_Bool (is_of SymbolByte b)) [ inl h ↦ (let q = rw (n, m, k, o, h) at e in cc) | inr p ↦ (let q = rw (n, m, k, o, p) at e in cc) ]
      ]
    ]
  ]
]
  where
    simple_goes_on : (q : Quoted) → simple_of q ≡ ended → ⊥
    simple_goes_on (quoted inside rest) f = cc
    simple_goes_on unquoted f = cc

    encoded_goes_on : (inside rest : List ℕ) → encoded_of inside rest ≡ ended → ⊥
    encoded_goes_on inside [] f = cc
    encoded_goes_on inside (mark ∷ rest) f = cc

end_laid : (bytes left : List ℕ) → SkipsTo bytes left → lexeme_of left ≡ ended → LaidLexemes [] bytes
end_laid bytes [] t e = subst (λ (x : List ℕ). IsLastSeparatorText x) (sym (t.is ∙ append-nil t.gap)) t.last
end_laid bytes (b ∷ left) t e = absurd (nothing_begins b left e)

within_ended : (bytes : List ℕ) (s : Option (List ℕ)) → skip between bytes ≡ s → first_lexeme_within s ≡ ended → LaidLexemes [] bytes
within_ended bytes None s e = cc
within_ended bytes (Some left) s e = end_laid bytes left (skipped between bytes left s) e

pub ended_laid : (bytes : List ℕ) → first_lexeme_of bytes ≡ ended → LaidLexemes [] bytes
ended_laid bytes e = within_ended bytes (skip between bytes) refl e
