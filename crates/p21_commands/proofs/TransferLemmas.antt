-- How the known bytes of a reader go on over several calls.
use Rattle.std.proofs.Common.{◌≡◌, ◌≤◌, ◌+◌, ℕ, List, [], ◌++◌, length, take, Option, Some, None, IfSome, refl, subst, sym, ap, ◌∙◌}
use Rattle.std.proofs.lemmas.List.{append_assoc, append-nil, length-append, take_all}
use Rattle.std.proofs.Math.Seq.{take-append_seam}
use Rattle.std.specs.Io.KnownBytes.{Consumes, IsAtEnd, Keeps}

-- A reader gave this text so far, and has room for more.
pub record IsRead (most : ℕ) (old now : Option (List ℕ)) (text : List ℕ) : Type 0 where
  pub consumed : Consumes old now text
  pub within : length text ≤ most

pub consumes_none : (reader : Option (List ℕ)) → Consumes reader reader []
consumes_none None = tt
consumes_none (Some xs) = refl

pub consumes_more : (old now new : Option (List ℕ)) (xs ys : List ℕ) → Consumes old now xs → Consumes now new ys
    → Consumes old new (xs ++ ys)
consumes_more None now new xs ys a b = tt
consumes_more (Some zs) None new xs ys a b = absurd a
consumes_more (Some zs) (Some rs) None xs ys a b = absurd b
consumes_more (Some zs) (Some rs) (Some ss) xs ys a b = a ∙ ap (λ (l : List ℕ). xs ++ l) b ∙ sym (append_assoc xs ys ss)

pub consumes_kept : (old now new : Option (List ℕ)) (xs : List ℕ) → Consumes old now xs → Keeps now new → Consumes old new xs
consumes_kept None now new xs a b = tt
consumes_kept (Some zs) None new xs a b = absurd a
consumes_kept (Some zs) (Some rs) None xs a b = absurd b
consumes_kept (Some zs) (Some rs) (Some ss) xs a b = a ∙ ap (λ (l : List ℕ). xs ++ l) (sym b)

pub read_more : (most : ℕ) (old now new : Option (List ℕ)) (text piece : List ℕ) → IsRead most old now text → Consumes now new piece
    → length text + length piece ≤ most → IsRead most old new (text ++ piece)
read_more most old now new text piece a b h =
    record {
      consumed = consumes_more old now new text piece a.consumed b;
      within = simp length-append h;
    }

-- all that was left was read
pub gives_all : (most : ℕ) (old now : Option (List ℕ)) (text : List ℕ) → IsRead most old now text → IsAtEnd now
    → IfSome old (λ bytes. text ≡ take most bytes)
gives_all most None now text a e = tt
gives_all most (Some bytes) None text a e = absurd a.consumed
gives_all most (Some bytes) (Some rest) text a e =
    let all : bytes ≡ text = a.consumed ∙ ap (λ (l : List ℕ). text ++ l) e ∙ append-nil text in
    sym (ap (λ (l : List ℕ). take most l) all ∙ take_all most text a.within)

-- no more is read
pub gives_most : (most : ℕ) (old now : Option (List ℕ)) (text : List ℕ) → IsRead most old now text → length text ≡ most
    → IfSome old (λ bytes. text ≡ take most bytes)
gives_most most None now text a e = tt
gives_most most (Some bytes) None text a e = absurd a.consumed
gives_most most (Some bytes) (Some rest) text a e =
    let seam = take-append_seam text rest in
    sym (ap (λ (l : List ℕ). take most l) a.consumed ∙ ap (λ (n : ℕ). take n (text ++ rest)) (sym e) ∙ seam)

pub consumes_nothing : (most n : ℕ) (old now new : Option (List ℕ)) (text piece : List ℕ) → IsRead most old now text
    → Consumes now new (take n piece) → n ≡ 0 → IsRead most old new text
consumes_nothing most n old now new text piece a b e =
    let none : take n piece ≡ [] = rw e refl in
    record {
      consumed = subst (λ (l : List ℕ). Consumes old new l) (append-nil text)
          (consumes_more old now new text [] a.consumed (subst (λ (l : List ℕ). Consumes now new l) none b));
      within = a.within;
    }
