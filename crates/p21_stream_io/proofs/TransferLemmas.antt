-- How the known bytes of a writer go on over several calls.
use Rattle.std.proofs.Common.{◌≡◌, ◌+◌, ◌-◌, ℕ, zero, suc, Ok, List, [], ◌∷◌, ◌++◌, length, take, drop, Option, Some, None, refl, sym, ap, ◌∙◌, arith}
use Rattle.std.proofs.lemmas.List.{append_assoc, append-nil, length-drop, take_all, take-append-drop}
use Rattle.std.specs.Io.KnownBytes.{Appends}
use Rattle.p21_stream_io.specs.Transfer.{AppendsAllBut}
use Rattle.p21_stream_io.specs.Watch.{failures_after_write}

pub appends_none : (writer : Option (List ℕ)) → Appends writer writer []
appends_none None = tt
appends_none (Some xs) = sym (append-nil xs)

pub appends_more : (old now new : Option (List ℕ)) (xs ys : List ℕ) → Appends old now xs → Appends now new ys → Appends old new (xs ++ ys)
appends_more None now new xs ys a b = tt
appends_more (Some zs) None new xs ys a b = absurd a
appends_more (Some zs) (Some rs) None xs ys a b = absurd b
appends_more (Some zs) (Some rs) (Some ss) xs ys a b = b ∙ ap (λ (l : List ℕ). l ++ ys) a ∙ append_assoc zs xs ys

pub written_more : (old now new : Option (List ℕ)) (bytes rest left taken : List ℕ) → AppendsAllBut old now bytes rest → Appends now new taken → rest ≡ taken ++ left → AppendsAllBut old new bytes left
written_more old now new bytes rest left taken a b e =
    record {
      written = a.written ++ taken;
      whole = a.whole ∙ ap (λ (l : List ℕ). a.written ++ l) e ∙ sym (append_assoc a.written taken left);
      appended = appends_more old now new a.written taken a.appended b;
    }

pub rest_after : (n : ℕ) (xs : List ℕ) → xs ≡ take n xs ++ take (length xs - n) (drop n xs)
rest_after n xs =
    let whole = take_all (length xs - n) (drop n xs) (simp length-drop (omega arith)) in
    sym (ap (λ (l : List ℕ). take n xs ++ l) whole ∙ take-append-drop n xs)

-- a write that took some bytes did not fail
pub took_some : (count taken : ℕ) (bytes : List ℕ) → (taken ≡ 0 → ⊥) → failures_after_write {E = Unit {0}} count bytes (Ok taken) ≡ count
took_some count zero bytes some = absurd (some refl)
took_some count (suc n) [] some = refl
took_some count (suc n) (b ∷ bs) some = refl

-- all of the bytes in two writes
pub all_in_two : (old now new : Option (List ℕ)) (xs ys rest : List ℕ) → Appends old now xs → Appends now new ys → rest ≡ [] → AppendsAllBut old new (xs ++ ys) rest
all_in_two old now new xs ys rest a b e =
    record {
      written = xs ++ ys;
      whole = sym (append-nil (xs ++ ys)) ∙ ap (λ (l : List ℕ). (xs ++ ys) ++ l) (sym e);
      appended = appends_more old now new xs ys a b;
    }
