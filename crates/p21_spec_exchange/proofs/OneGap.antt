-- Separator text in front of what begins with no separator is one.
use Rattle.std.proofs.Common.{◌≡◌, ℕ, List, [], ◌∷◌, ◌++◌, ap, sym, ◌∙◌, append_assoc, arith, inl, inr}
use Rattle.std.specs.List.{flat_map, AllByRecursion as Each}
use Rattle.p21_spec_basics.proofs.Members.{head_is, tail_is}
use Rattle.p21_spec_exchange.specs.Separator.{Separator, blank, comment, IsCommentText, IsSeparator, separator_bytes, IsSeparatorText}
use Rattle.p21_spec_exchange.specs.Pending.{BeginsWithNoSeparator}

-- no separator stands in front
abbrev pub HasNoSeparator : List ℕ → Type 0
HasNoSeparator bytes = (separator : Separator) (rest : List ℕ) → IsSeparator separator → bytes ≡ separator_bytes separator ++ rest → ⊥

-- nor in front of no bytes
pub nothing-first : HasNoSeparator []
nothing-first (blank b) rest is same = cc
nothing-first (comment inside) rest is same = cc

-- what begins with no separator still does with more behind it
pub begins-on : (bytes more : List ℕ) → BeginsWithNoSeparator bytes → BeginsWithNoSeparator (bytes ++ more)
begins-on [] more begins = absurd begins
begins-on (byte ∷ bytes) more begins = begins

pub EndsOnce-tail : (byte : ℕ) (inside : List ℕ) → IsCommentText (byte ∷ inside) → IsCommentText inside
EndsOnce-tail byte inside once before after same = once (byte ∷ before) after (ap (λ bytes. byte ∷ bytes) same)

-- no `*/` stands in front of the one that ends a comment
early : (a : ℕ) (inside rest more : List ℕ) → IsCommentText (a ∷ inside) → 42 ∷ 47 ∷ rest ≡ a ∷ (inside ++ (42 ∷ 47 ∷ more)) → ⊥
early a [] rest more once same = let h : 47 ≡ 42 = head_is 47 42 _ _ (tail_is 42 a _ _ same) in omega (arith, h)
early a (c ∷ inside) rest more once same =
    let star : 42 ≡ a = head_is 42 a _ _ same in
    let slash : 47 ≡ c = head_is 47 c _ _ (tail_is 42 a _ _ same) in
    none inside (once [] (inside ++ (42 ∷ 47 ∷ [])) (ap (λ (x : ℕ). x ∷ c ∷ (inside ++ (42 ∷ 47 ∷ []))) (sym star) ∙ ap (λ (x : ℕ). 42 ∷ x ∷ (inside ++ (42 ∷ 47 ∷ []))) (sym slash)))
  where
    none : (xs : List ℕ) → xs ++ (42 ∷ 47 ∷ []) ≡ [] → ⊥
    none [] h = cc
    none (x ∷ xs) h = cc

-- so what stands behind a comment is one
ends-one : (a b r q : List ℕ) → IsCommentText a → IsCommentText b → a ++ (42 ∷ 47 ∷ r) ≡ b ++ (42 ∷ 47 ∷ q) → r ≡ q
ends-one [] [] r q once once_ same = tail_is 47 47 _ _ (tail_is 42 42 _ _ same)
ends-one [] (y ∷ b) r q once once_ same = absurd (early y b r q once_ same)
ends-one (x ∷ a) [] r q once once_ same = absurd (early x a q r once (sym same))
ends-one (x ∷ a) (y ∷ b) r q once once_ same = ends-one a b r q (EndsOnce-tail x a once) (EndsOnce-tail y b once_) (tail_is x y _ _ same)

separator-one : (s t : Separator) (r q : List ℕ) → IsSeparator s → IsSeparator t → separator_bytes s ++ r ≡ separator_bytes t ++ q → r ≡ q
separator-one (blank a) (blank b) r q is is_ same = tail_is a b _ _ same
separator-one (blank a) (comment inside) r q (inl low) is_ same = let h : a ≡ 47 = head_is a 47 _ _ same in absurd (omega (arith, h, low))
separator-one (blank a) (comment inside) r q (inr delete) is_ same = let h : a ≡ 47 = head_is a 47 _ _ same in absurd (omega (arith, h, delete))
separator-one (comment inside) (blank b) r q is (inl low) same = let h : 47 ≡ b = head_is 47 b _ _ same in absurd (omega (arith, h, low))
separator-one (comment inside) (blank b) r q is (inr delete) same = let h : 47 ≡ b = head_is 47 b _ _ same in absurd (omega (arith, h, delete))
separator-one (comment a) (comment b) r q is is_ same =
    ends-one a b r q is is_ (sym (append_assoc a (42 ∷ 47 ∷ []) r) ∙ tail_is 42 42 _ _ (tail_is 47 47 _ _ same) ∙ append_assoc b (42 ∷ 47 ∷ []) q)

separators-one : (ss ts : List Separator) (x y : List ℕ) → Each IsSeparator ss → Each IsSeparator ts → HasNoSeparator x → HasNoSeparator y → flat_map separator_bytes ss ++ x ≡ flat_map separator_bytes ts ++ y → x ≡ y
separators-one [] [] x y are are_ no_x no_y same = same
separators-one [] (t ∷ ts) x y are are_ no_x no_y same = absurd (no_x t (flat_map separator_bytes ts ++ y) are_.0 (same ∙ append_assoc (separator_bytes t) (flat_map separator_bytes ts) y))
separators-one (s ∷ ss) [] x y are are_ no_x no_y same = absurd (no_y s (flat_map separator_bytes ss ++ x) are.0 (sym same ∙ append_assoc (separator_bytes s) (flat_map separator_bytes ss) x))
separators-one (s ∷ ss) (t ∷ ts) x y are are_ no_x no_y same =
    separators-one ss ts x y are.1 are_.1 no_x no_y
    (separator-one s t (flat_map separator_bytes ss ++ x) (flat_map separator_bytes ts ++ y) are.0 are_.0
    (sym (append_assoc (separator_bytes s) (flat_map separator_bytes ss) x) ∙ same ∙ append_assoc (separator_bytes t) (flat_map separator_bytes ts) y))

pub gap-one : (gap other x y : List ℕ) → IsSeparatorText gap → IsSeparatorText other → HasNoSeparator x → HasNoSeparator y → gap ++ x ≡ other ++ y → x ≡ y
gap-one gap other x y (ss, are, is) (ts, are_, is_) no_x no_y same =
    separators-one ss ts x y are are_ no_x no_y (ap (λ (bytes : List ℕ). bytes ++ x) (sym is) ∙ same ∙ ap (λ (bytes : List ℕ). bytes ++ y) is_)
