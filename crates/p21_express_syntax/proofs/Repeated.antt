-- Things of one kind, one behind the other, whatever they are and whatever is kept of them.
use Rattle.std.proofs.Common.{◌≡◌, ℕ, zero, suc, ◌+◌, ◌<◌, List, [], ◌∷◌, ◌++◌, map, length, Option, Some, None, refl, ap, sym, ◌∙◌, append_assoc, append-nil, arith}
use Rattle.std.specs.List.{flat_map, AllByRecursion as Each}
use Rattle.p21_spec_schema.specs.Express.{Lexeme}
use Rattle.p21_express_lexemes.specs.Taking.{Items, put}
use Rattle.p21_express_lexemes.proofs.Put.{put-append}
use Rattle.p21_express_syntax.specs.Many.{Step, with_items, many_from_step, many_within, many_of}
use Rattle.p21_express_syntax.proofs.Sounding.{OfSome, of_some, Written}

-- each takes a lexeme at least
abbrev pub Shortens : {A : Type 0} → Step A → Type 0
Shortens {A} step = (items : Items) (x : A) (rest : Items) → ◌≡◌ {A = Option (Option (A × Items))} (step items) (Some (Some (x, rest))) → length rest < length items

by_same : {A : Type 0} (o : Option (Option (A × Items))) (items : Items) (f g : Items → Option (List A × Items)) → ((x : A) (rest : Items) → ◌≡◌ {A = Option (Option (A × Items))} o (Some (Some (x, rest))) → f rest ≡ g rest) → many_from_step o items f ≡ many_from_step o items g
by_same None items f g h = refl
by_same (Some None) items f g h = refl
by_same (Some (Some (x, rest))) items f g h = ap (with_items (x ∷ [])) (h x rest refl)

enough : {A : Type 0} (step : Step A) → Shortens step → (m n : ℕ) (items : Items) → length items < m → length items < n → many_within step m items ≡ many_within step n items
unfolding many_within
enough step short zero n items p q = absurd (omega arith)
enough step short (suc m) zero items p q = absurd (omega arith)
enough step short (suc m) (suc n) items p q = by_same (step items) items (λ rest. many_within step m rest) (λ rest. many_within step n rest) (λ x rest e. let less = short items x rest e in enough step short m n rest (omega arith) (omega arith))

-- ---- one step

pub many_next : {A : Type 0} (step : Step A) → Shortens step → (items : Items) (x : A) (rest : Items) → ◌≡◌ {A = Option (Option (A × Items))} (step items) (Some (Some (x, rest))) → many_of step items ≡ with_items (x ∷ []) (many_of step rest)
unfolding many_of many_within
many_next {A} step short items x rest e =
    let less = short items x rest e in
    ap (λ (o : Option (Option (A × Items))). many_from_step o items (λ r. many_within step (length items) r)) e ∙ ap (with_items (x ∷ [])) (enough step short (length items) (suc (length rest)) rest less (omega arith))

pub many_none : {A : Type 0} (step : Step A) (items : Items) → ◌≡◌ {A = Option (Option (A × Items))} (step items) None → ◌≡◌ {A = Option (List A × Items)} (many_of step items) (Some ([], items))
unfolding many_of many_within
many_none {A} step items e = ap (λ (o : Option (Option (A × Items))). many_from_step o items (λ r. many_within step (length items) r)) e

pub many_wrong : {A : Type 0} (step : Step A) (items : Items) → ◌≡◌ {A = Option (Option (A × Items))} (step items) (Some None) → ◌≡◌ {A = Option (List A × Items)} (many_of step items) None
unfolding many_of many_within
many_wrong {A} step items e = ap (λ (o : Option (Option (A × Items))). many_from_step o items (λ r. many_within step (length items) r)) e

-- ---- loops: what was read stands in front of what is read of the rest

with_nothing : {A : Type 0} (o : Option (List A × Items)) → with_items [] o ≡ o
with_nothing None = refl
with_nothing (Some found) = refl

with_both : {A : Type 0} (a b : List A) (o : Option (List A × Items)) → with_items a (with_items b o) ≡ with_items (a ++ b) o
with_both a b None = refl
with_both {A} a b (Some found) = ap (λ (x : List A). Some (x, found.1)) (sym (append_assoc a b found.0))

pub loop_first : {A : Type 0} (step : Step A) (items : Items) → many_of step items ≡ with_items [] (many_of step items)
loop_first step items = sym (with_nothing (many_of step items))

pub loop_more : {A : Type 0} (step : Step A) → Shortens step → (start : Option (List A × Items)) (before : List A) (now new : Items) (x : A) → ◌≡◌ {A = Option (List A × Items)} start (with_items before (many_of step now)) → ◌≡◌ {A = Option (Option (A × Items))} (step now) (Some (Some (x, new)))
    → ◌≡◌ {A = Option (List A × Items)} start (with_items (before ++ x ∷ []) (many_of step new))
loop_more step short start before now new x l e = l ∙ (ap (with_items before) (many_next step short now x new e) ∙ with_both before (x ∷ []) (many_of step new))

pub loop_stop : {A : Type 0} (step : Step A) (start : Option (List A × Items)) (before : List A) (now new : Items) → ◌≡◌ {A = Option (List A × Items)} start (with_items before (many_of step now)) → ◌≡◌ {A = Option (Option (A × Items))} (step now) None → new ≡ now
    → ◌≡◌ {A = Option (List A × Items)} start (Some (before, new))
loop_stop {A} step start before now new l e same = l ∙ (ap (with_items before) (many_none step now e) ∙ (ap (λ (x : List A). Some (x, now)) (append-nil before) ∙ ap (λ (x : Items). Some (before, x)) (sym same)))

pub loop_wrong : {A : Type 0} (step : Step A) (start : Option (List A × Items)) (before : List A) (now : Items) → ◌≡◌ {A = Option (List A × Items)} start (with_items before (many_of step now)) → ◌≡◌ {A = Option (Option (A × Items))} (step now) (Some None)
    → ◌≡◌ {A = Option (List A × Items)} start None
loop_wrong step start before now l e = l ∙ ap (with_items before) (many_wrong step now e)

-- ---- complete: where each is read and something else stands behind the last

pub many_read : {A K : Type 0} (step : Step K) → Shortens step → (f : A → List Lexeme) (P : A → Type 0) (kept : A → K) → ((x : A) (more : Items) → P x → ◌≡◌ {A = Option (Option (K × Items))} (step (put (f x) more)) (Some (Some (kept x, more))))
    → (xs : List A) (more : Items) → Each P xs → ◌≡◌ {A = Option (Option (K × Items))} (step more) None → ◌≡◌ {A = Option (List K × Items)} (many_of step (put (flat_map f xs) more)) (Some (map kept xs, more))
many_read step short f P kept read [] more each ends = many_none step more ends
many_read step short f P kept read (x ∷ xs) more each ends =
    ap (many_of step) (put-append (f x) (flat_map f xs) more)
    ∙ (many_next step short (put (f x) (put (flat_map f xs) more)) (kept x) (put (flat_map f xs) more) (read x (put (flat_map f xs) more) each.0)
    ∙ ap (with_items (kept x ∷ [])) (many_read step short f P kept read xs more each.1 ends))

-- ---- sound: what was read is written so

abbrev pub StepWritten : {A K : Type 0} → Step K → (A → List Lexeme) → (A → Type 0) → (A → K) → Type 0
StepWritten {A} {K} step f P kept = (items : Items) (x : K) (rest : Items) → ◌≡◌ {A = Option (Option (K × Items))} (step items) (Some (Some (x, rest))) → Written f P kept x items rest

abbrev pub ManyWritten : {A K : Type 0} → (A → List Lexeme) → (A → Type 0) → (A → K) → List K → Items → Items → Type 0
ManyWritten {A} {K} f P kept xs items rest = Written {A = List A} {K = List K} (flat_map f) (Each P) (map kept) xs items rest

nothing_is : {A K : Type 0} (f : A → List Lexeme) (P : A → Type 0) (kept : A → K) (items : Items) → ManyWritten f P kept [] items items
nothing_is f P kept items = record { tree = []; stands = refl; is_one = tt; same = refl }

pub one_more : {A K : Type 0} (f : A → List Lexeme) (P : A → Type 0) (kept : A → K) (x : K) (items left : Items) → Written f P kept x items left → (o : Option (List K × Items)) → OfSome o (λ r. ManyWritten f P kept r.0 left r.1) → OfSome (with_items (x ∷ []) o) (λ r. ManyWritten f P kept r.0 items r.1)
one_more f P kept x items left w None h = tt
one_more {A} {K} f P kept x items left w (Some (xs, rest)) h = record {
  tree = w.tree ∷ h.tree;
  stands = w.stands ∙ (ap (put (f w.tree)) h.stands ∙ sym (put-append (f w.tree) (flat_map f h.tree) rest));
  is_one = (w.is_one, h.is_one);
  same = ap (λ (y : K). y ∷ map kept h.tree) w.same ∙ ap (λ (y : List K). x ∷ y) h.same;
}

by_is : {A K : Type 0} (step : Step K) (f : A → List Lexeme) (P : A → Type 0) (kept : A → K) → StepWritten step f P kept
    → (go : Items → Option (List K × Items)) → ((items : Items) → OfSome (go items) (λ r. ManyWritten f P kept r.0 items r.1))
    → (items : Items) (o : Option (Option (K × Items))) → ◌≡◌ {A = Option (Option (K × Items))} (step items) o → OfSome (many_from_step o items go) (λ r. ManyWritten f P kept r.0 items r.1)
by_is step f P kept is go inner items None o = nothing_is f P kept items
by_is step f P kept is go inner items (Some None) o = tt
by_is step f P kept is go inner items (Some (Some (x, left))) o = one_more f P kept x items left (is items x left o) (go left) (inner left)

within_is : {A K : Type 0} (step : Step K) (f : A → List Lexeme) (P : A → Type 0) (kept : A → K) → StepWritten step f P kept → (n : ℕ) (items : Items) → OfSome (many_within step n items) (λ r. ManyWritten f P kept r.0 items r.1)
unfolding many_within
within_is step f P kept is zero items = nothing_is f P kept items
within_is step f P kept is (suc n) items = by_is step f P kept is (λ r. many_within step n r) (λ r. within_is step f P kept is n r) items (step items) refl

pub many_is : {A K : Type 0} (step : Step K) (f : A → List Lexeme) (P : A → Type 0) (kept : A → K) → StepWritten step f P kept → (items : Items) → OfSome (many_of step items) (λ r. ManyWritten f P kept r.0 items r.1)
unfolding many_of
many_is step f P kept is items = within_is step f P kept is (suc (length items)) items

-- ---- each that is written so takes a lexeme, where its lexemes are some

put_longer : (xs : List Lexeme) (more : Items) → length (put xs more) ≡ length xs + length more
put_longer [] more = omega arith
put_longer (x ∷ xs) more = let h = put_longer xs more in omega arith

pub written_shortens : {A K : Type 0} (step : Step K) (f : A → List Lexeme) (P : A → Type 0) (kept : A → K) → StepWritten step f P kept → ((x : A) → 0 < length (f x)) → Shortens step
written_shortens step f P kept is some items x rest e =
    let w = is items x rest e in
    let l = ap length w.stands ∙ put_longer (f w.tree) rest in
    let s = some w.tree in
    omega arith

pub step_written : {A K : Type 0} (step : Step K) (f : A → List Lexeme) (P : A → Type 0) (kept : A → K) → ((items : Items) → OfSome (step items) (λ o. OfSome o (λ r. Written f P kept r.0 items r.1))) → StepWritten step f P kept
step_written {A} {K} step f P kept h items x rest e =
    of_some {A = Option (K × Items)} (step items) (λ o. OfSome o (λ r. Written f P kept r.0 items r.1)) (h items) (Some (x, rest)) e

pub map_push : {A K : Type 0} (f : A → K) (xs : List A) (x : A) → map f (xs ++ x ∷ []) ≡ map f xs ++ f x ∷ []
map_push f [] x = refl
map_push {A} {K} f (y ∷ xs) x = ap (λ (z : List K). f y ∷ z) (map_push f xs x)
