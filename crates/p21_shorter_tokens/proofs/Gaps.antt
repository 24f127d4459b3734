-- What stands between tokens, separator by separator.
use Rattle.std.proofs.Common.{◌≡◌, ℕ, ◌+◌, ◌-◌, ◌<◌, ◌≤◌, List, [], ◌∷◌, ◌++◌, length, take, drop, get_or, refl, ap, sym, subst, ◌∙◌, append_assoc, length-append, length-take-le, arith}
use Rattle.std.proofs.lemmas.List.{get_or-append-add, get_or-take, take_more, take-append-drop}
use Rattle.std.proofs.Math.Seq.{get_or-append_seam}
use Rattle.p21_spec_basics.proofs.Members.{head_is, tail_is}
use Rattle.p21_spec_exchange.proofs.FirstBytes.{spelling_begins}
use Rattle.p21_spec_exchange.proofs.OneGap.{HasNoSeparator, begins-on, nothing-first}
use Rattle.p21_spec_exchange.specs.Pending.{BeginsWithNoSeparator}
use Rattle.p21_spec_exchange.specs.Separator.{IsCommentText, IsSeparator, Separator, blank, comment, separator_bytes}
use Rattle.p21_spec_exchange.specs.Token.{Token}
use Rattle.p21_tokens_automaton.proofs.OnePending.{begins-no_separator}
use Rattle.p21_shorter_tokens.specs.LeadingToken.{IsLeadingToken}
use Rattle.p21_shorter_tokens.specs.Gaps.{BeginsComment, HasNoLeadingBlank, PassesBlank, PassesSeparator, PassesSeparators}

-- ---- no separator

pub no_blank_or_comment : (bytes : List ℕ) → HasNoLeadingBlank bytes → ((inside rest : List ℕ) → IsCommentText inside → BeginsComment inside bytes rest → ⊥) → HasNoSeparator bytes
no_blank_or_comment [] no_blank none separator rest is same = nothing-first separator rest is same
no_blank_or_comment (byte ∷ bytes) no_blank none (blank b) rest is same = no_blank (subst (λ (x : ℕ). IsSeparator (blank x)) (sym (head_is byte b _ _ same)) is)
no_blank_or_comment (byte ∷ bytes) no_blank none (comment inside) rest is same = none inside rest is (same ∙ ap (λ (x : List ℕ). 47 ∷ 42 ∷ x) (append_assoc inside (42 ∷ 47 ∷ []) rest))

pub not_ended : (bytes star text : List ℕ) → bytes ≡ 47 ∷ star → star ≡ 42 ∷ text → ((front rest : List ℕ) → text ≡ front ++ (42 ∷ 47 ∷ rest) → ⊥) → (inside rest : List ℕ) → IsCommentText inside → BeginsComment inside bytes rest → ⊥
not_ended bytes star text slash opened none inside rest once is = none inside rest (tail_is 42 42 _ _ (sym opened ∙ tail_is 47 47 _ _ (sym slash ∙ is)))

pub comment_begins : (bytes star text rest : List ℕ) → bytes ≡ 47 ∷ star → star ≡ 42 ∷ text → (front : List ℕ) × IsCommentText front × (text ≡ front ++ (42 ∷ 47 ∷ rest)) → (inside : List ℕ) × IsCommentText inside × BeginsComment inside bytes rest
comment_begins bytes star text rest slash opened (front, once, is) = (front, once, slash ∙ ap (λ (x : List ℕ). 47 ∷ x) (opened ∙ ap (λ (x : List ℕ). 42 ∷ x) is))

-- ---- one separator, and more

pub blank_passes : (bytes rest : List ℕ) → PassesBlank bytes rest → PassesSeparator bytes rest
blank_passes bytes rest h = record { separator = blank h.byte; is = h.is; bytes_are = h.bytes_are }

pub comment_passes : (bytes rest : List ℕ) → (inside : List ℕ) × IsCommentText inside × BeginsComment inside bytes rest → PassesSeparator bytes rest
comment_passes bytes rest (inside, once, is) = record {
  separator = comment inside;
  is = once;
  bytes_are = is ∙ sym (ap (λ (x : List ℕ). 47 ∷ 42 ∷ x) (append_assoc inside (42 ∷ 47 ∷ []) rest));
}

some_bytes : (separator : Separator) → 0 < length (separator_bytes separator)
some_bytes (blank b) = omega arith
some_bytes (comment inside) = omega arith

pub none_passed : (bytes : List ℕ) → HasNoSeparator bytes → PassesSeparators bytes bytes
none_passed bytes ends = record { gap = []; bytes_are = refl; is_gap = ([], tt, refl); ends = ends }

-- a token is no separator
pub token-first : (bytes : List ℕ) (count : ℕ) (one : Token) → IsLeadingToken bytes count one → PassesSeparators bytes bytes
token-first bytes count one h =
    none_passed bytes (begins-no_separator bytes (subst BeginsWithNoSeparator (take-append-drop count bytes) (begins-on (take count bytes) (drop count bytes) (spelling_begins one (take count bytes) h.spells))))

pub one_more : (bytes middle rest : List ℕ) → PassesSeparator bytes middle → PassesSeparators middle rest → PassesSeparators bytes rest
one_more bytes middle rest first others = record {
  gap = separator_bytes first.separator ++ others.gap;
  bytes_are = first.bytes_are ∙ (ap (λ (x : List ℕ). separator_bytes first.separator ++ x) others.bytes_are ∙ sym (append_assoc (separator_bytes first.separator) others.gap rest));
  is_gap = (first.separator ∷ others.is_gap.0, (first.is, others.is_gap.1), ap (λ (x : List ℕ). separator_bytes first.separator ++ x) others.is_gap.2);
  ends = others.ends;
}

-- ---- the end of a comment

-- no `*/` ends before this place
abbrev pub HasNoEnd : List ℕ → ℕ → Type 0
HasNoEnd inside i = (k : ℕ) → k + 1 < i → get_or inside k 0 ≡ 42 → get_or inside (k + 1) 0 ≡ 47 → ⊥

-- what stands where two bytes stand behind others
at_seam : (front after : List ℕ) (a b : ℕ) → (get_or (front ++ a ∷ b ∷ after) (length front) 0 ≡ a) × (get_or (front ++ a ∷ b ∷ after) (length front + 1) 0 ≡ b)
at_seam front after a b = (get_or-append_seam front a (b ∷ after) 0, get_or-append-add front (a ∷ b ∷ after) 1 0)

pub no_end : (inside : List ℕ) (i : ℕ) → length inside ≤ i → HasNoEnd inside i → (front rest : List ℕ) → inside ≡ front ++ (42 ∷ 47 ∷ rest) → ⊥
no_end inside i all none front rest is =
    let seam = at_seam front rest 42 47 in
    none (length front) (omega (arith, ap length is, length-append front (42 ∷ 47 ∷ rest))) (ap (λ (x : List ℕ). get_or x (length front) 0) is ∙ seam.0) (ap (λ (x : List ℕ). get_or x (length front + 1) 0) is ∙ seam.1)

module _ (inside : List ℕ) (j : ℕ) (room : j + 1 < length inside) (star : get_or inside j 0 ≡ 42) (slash : get_or inside (j + 1) 0 ≡ 47) (none : HasNoEnd inside (j + 1)) where
  two : take (j + 1 + 1) inside ≡ take j inside ++ (42 ∷ 47 ∷ [])
  two =
      take_more inside (j + 1) 0 room
      ∙ (ap (λ (x : List ℕ). x ++ get_or inside (j + 1) 0 ∷ []) (take_more inside j 0 (omega arith))
      ∙ (append_assoc (take j inside) (get_or inside j 0 ∷ []) (get_or inside (j + 1) 0 ∷ [])
      ∙ (ap (λ (x : ℕ). take j inside ++ x ∷ get_or inside (j + 1) 0 ∷ []) star ∙ ap (λ (x : ℕ). take j inside ++ 42 ∷ x ∷ []) slash)))

  once : IsCommentText (take j inside)
  once before [] same = refl
  once before (c ∷ after) same =
      let whole : take (j + 1 + 1) inside ≡ before ++ (42 ∷ 47 ∷ c ∷ after) = two ∙ same in
      let seam = at_seam before (c ∷ after) 42 47 in
      let long = ap length same in
      let short : length before < j = omega (arith, long, length-append (take j inside) (42 ∷ 47 ∷ []), length-append before (42 ∷ 47 ∷ c ∷ after), length-take-le j inside (omega arith)) in
      absurd (none (length before) (omega arith)
      (sym (get_or-take (j + 1 + 1) inside (length before) 0 (omega arith)) ∙ (ap (λ (x : List ℕ). get_or x (length before) 0) whole ∙ seam.0))
      (sym (get_or-take (j + 1 + 1) inside (length before + 1) 0 (omega arith)) ∙ (ap (λ (x : List ℕ). get_or x (length before + 1) 0) whole ∙ seam.1)))

  pub end_found : (rest : List ℕ) → rest ≡ drop (j + 1 + 1) inside → (front : List ℕ) × IsCommentText front × (inside ≡ front ++ (42 ∷ 47 ∷ rest))
  end_found rest is = (
    take j inside,
    once,
    sym (take-append-drop (j + 1 + 1) inside) ∙ (ap (λ (x : List ℕ). x ++ drop (j + 1 + 1) inside) two ∙ (append_assoc (take j inside) (42 ∷ 47 ∷ []) (drop (j + 1 + 1) inside) ∙ ap (λ (x : List ℕ). take j inside ++ 42 ∷ 47 ∷ x) (sym is))),
  )

-- a star and a slash behind it are the first
pub ends_at : (inside rest : List ℕ) (i : ℕ) → 0 < i → i < length inside → get_or inside (i - 1) 0 ≡ 42 → get_or inside i 0 ≡ 47 → HasNoEnd inside i → rest ≡ drop (i + 1) inside → (front : List ℕ) × IsCommentText front × (inside ≡ front ++ (42 ∷ 47 ∷ rest))
ends_at inside rest i some room star slash none is =
    let next : i ≡ i - 1 + 1 = omega arith in
    end_found inside (i - 1) (omega arith) star (subst (λ (k : ℕ). get_or inside k 0 ≡ 47) next slash) (subst (HasNoEnd inside) next none) rest (is ∙ ap (λ (k : ℕ). drop (k + 1) inside) next)
