-- Supertypes that are found on the way up.
use Rattle.std.specs.Prelude.{◌≡◌, ◌≢◌, ◌↔◌, ◌⊎◌, ℕ, zero, suc, ◌+◌, ◌<◌, ◌≤◌, Bool, true, false, List, [], ◌∷◌, ◌++◌, Some, length, slice_get, slice_set, Contains, refl}
use Rattle.std.specs.List.{AllClonesOf}
use Rattle.std.proofs.Common.{arith, ap, sym, ◌∙◌, subst, inl, inr, append_assoc, get_or}
use Rattle.std.proofs.lemmas.Bool.{cases_lt}
use Rattle.std.proofs.lemmas.List.{append-nil, get_or_default, length-append}
use Rattle.std.proofs.lemmas.List.Elements.{Contains-append_left, Contains-push, Contains-push_cases}
use Rattle.std.proofs.lemmas.Option.{slice_get_within}
use Rattle.p21_spec_basics.proofs.Members.{Contains-at, Contains-found, Contains-none}
use Rattle.p21_spec_schema.specs.Declared.{HasNoCircle, HasSupertype}
use Rattle.p21_spec_schema.specs.Schema.{Schema}
use Rattle.p21_spec_schema.specs.Supertype.{IsA, itself, above}
use Rattle.p21_spec_schema.proofs.PlaceTypes.{IsA-antisymmetric, IsA-transitive}
use Rattle.p21_express_graph.specs.Walk.{IsDone, IsOpen, open_count}
use Rattle.p21_express_graph.proofs.Walks.{set_count, set_keeps, set_length, set_only}
use Rattle.p21_schema.specs.Above.{AreAbove}
use Rattle.p21_schema.specs.Ascent.{Ascends, AscendsFurther}
use Rattle.p21_schema.specs.declared.ascent.Ascent.{Ascent}

-- ---- marks

set_done : (done : List Bool) (x : ℕ) → x < length done → IsDone (slice_set done x true) x
set_done [] x below = absurd (omega (arith, below))
set_done (b ∷ done) zero below = refl
set_done (b ∷ done) (suc x) below = set_done done x (omega (arith, below))

done_within : (done : List Bool) (x : ℕ) → IsDone done x → x < length done
done_within [] x is = cc
done_within (b ∷ done) zero is = omega arith
done_within (b ∷ done) (suc x) is = omega (arith, done_within done x is)

pub unmarked : (marks : List Bool) → AllClonesOf (λ x y. y ≡ x) false marks → (x : ℕ) → IsDone marks x → ⊥
unmarked [] all x is = cc
unmarked (b ∷ marks) all zero is = elim all.0 [ inl h ↦ cc | inr h ↦ cc ]
unmarked (b ∷ marks) all (suc x) is = unmarked marks all.1 x is

-- where nothing is marked nothing is found
all_open : (done : List Bool) → ((x : ℕ) → IsDone done x → ⊥) → open_count done ≡ length done
all_open [] none = refl
all_open (true ∷ done) none = absurd (none zero refl)
all_open (false ∷ done) none = ap suc (all_open done (λ x is. none (suc x) is))

pub none-found : (ascent : Ascent) → ((x : ℕ) → IsDone ascent.marked.items x → ⊥) → ascent.above.items ≡ [] → Ascends ascent
none-found ascent none empty = record {
  same = λ f. (
    λ among. let P : List ℕ → Type 0 = λ fs. Contains fs f in
        absurd (Contains-none f (subst P empty among)),
    λ is. absurd (none f is),
  );
  once = let many = all_open ascent.marked.items none in omega (arith, many, ap length empty);
}

-- ---- steps

pub stays : (a : Ascent) → Ascends a → AscendsFurther a a
stays a is = record { ascends = is; size = refl; begins = ([], sym (append-nil a.above.items)) }

pub goes-on : (a b c : Ascent) → AscendsFurther a b → AscendsFurther b c → AscendsFurther a c
goes-on a b c first second = record {
  ascends = second.ascends;
  size = second.size ∙ first.size;
  begins = (
    first.begins.0 ++ second.begins.0,
    second.begins.1 ∙ ap (λ xs. xs ++ second.begins.0) first.begins.1
        ∙ append_assoc a.above.items first.begins.0 second.begins.0,
  );
}

-- what was found stays found
pub found-kept : (a b : Ascent) → AscendsFurther a b → (f : ℕ) → Contains a.above.items f → Contains b.above.items f
found-kept a b goes f among = let P : List ℕ → Type 0 = λ fs. Contains fs f in
    subst P (sym goes.begins.1) (Contains-append_left a.above.items goes.begins.0 f among)

-- those that are found are so many at most
pub found-many : (a : Ascent) → Ascends a → length a.above.items ≤ length a.marked.items
found-many a is = omega (arith, is.once)

pub found-within : (a : Ascent) → Ascends a → (f : ℕ) → Contains a.above.items f → f < length a.marked.items
found-within a is f among = done_within a.marked.items f ((is.same f).0 among)

-- one more is found
pub more-found : (before after : List ℕ) (f : ℕ) → after ≡ before ++ f ∷ [] → (g : ℕ) → Contains after g ↔ (Contains before g ⊎ (g ≡ f))
more-found before after f is g = let P : List ℕ → Type 0 = λ fs. Contains fs g in (
  λ among. elim (Contains-push_cases before f g (subst P is among)) [ inl old ↦ inl old | inr same ↦ inr (sym same) ],
  λ h. subst P (sym is) (elim h [
    | inl old ↦ Contains-append_left before (f ∷ []) g old
    | inr same ↦ (let Q : ℕ → Type 0 = λ x. Contains (before ++ f ∷ []) x in subst Q (sym same) (Contains-push before f))
  ]),
)

pub read_open : (marks : List Bool) (x : ℕ) (mark : Bool) → x < length marks → mark ≡ get_or marks x mark → mark ≡ false → IsOpen marks x
read_open marks x mark below is unset = get_or_default marks x true mark below ∙ sym is ∙ unset

module _ (a b : Ascent) (f : ℕ) (is : Ascends a) (open_is : IsOpen a.marked.items f) (below : f < length a.marked.items)
    (marked_is : b.marked.items ≡ slice_set a.marked.items f true) (above_is : b.above.items ≡ a.above.items ++ f ∷ []) where
  marked-more : (g : ℕ) → IsDone b.marked.items g ↔ (IsDone a.marked.items g ⊎ (g ≡ f))
  marked-more g = let P : List Bool → Type 0 = λ d. IsDone d g in (
    λ done. set_only a.marked.items f g (subst P marked_is done),
    λ h. subst P (sym marked_is) (elim h [
      | inl old ↦ set_keeps a.marked.items f g old
      | inr same ↦ (let Q : ℕ → Type 0 = λ x. IsDone (slice_set a.marked.items f true) x in
          subst Q (sym same) (set_done a.marked.items f below))
    ]),
  )

  pub goes-more : AscendsFurther a b
  goes-more =
      let found : (g : ℕ) → Contains b.above.items g ↔ (Contains a.above.items g ⊎ (g ≡ f)) =
      more-found a.above.items b.above.items f above_is in
      let count = set_count a.marked.items f open_is in
      let long = set_length a.marked.items f in
      let more = length-append a.above.items (f ∷ []) in
      record {
        ascends = record {
          same = λ g. (
            λ among. (marked-more g).1 (elim ((found g).0 among) [ inl old ↦ inl ((is.same g).0 old) | inr same ↦ inr same ]),
            λ done. (found g).1 (elim ((marked-more g).0 done) [ inl old ↦ inl ((is.same g).1 old) | inr same ↦ inr same ]),
          );
          once = omega (arith, is.once, count, long, ap length marked_is, ap open_count marked_is, ap length above_is, more);
        };
        size = ap length marked_is ∙ long;
        begins = (f ∷ [], above_is);
      }

-- of a list one more is found
pub found-more : (before now after seen : List ℕ) (x : ℕ) → ((f : ℕ) → Contains now f ↔ (Contains before f ⊎ Contains seen f))
    → ((f : ℕ) → Contains after f ↔ (Contains now f ⊎ (f ≡ x))) → (f : ℕ) → Contains after f
    ↔ (Contains before f ⊎ Contains (seen ++ x ∷ []) f)
found-more before now after seen x so_far one f = (
  λ among. elim ((one f).0 among) [
    | inl old ↦ elim ((so_far f).0 old) [ inl h ↦ inl h | inr h ↦ inr (Contains-append_left seen (x ∷ []) f h) ]
    | inr same ↦ inr (let P : ℕ → Type 0 = λ g. Contains (seen ++ x ∷ []) g in subst P (sym same) (Contains-push seen x))
  ],
  λ h. (one f).1 (elim h [
    | inl old ↦ inl ((so_far f).1 (inl old))
    | inr among ↦ elim (Contains-push_cases seen x f among) [ inl old ↦ inl ((so_far f).1 (inr old)) | inr same ↦ inr (sym same) ]
  ]),
)

-- ---- supertypes

-- the entities of which f is a direct supertype
abbrev pub HasBelow : Schema → List ℕ → ℕ → Type 0
HasBelow s es f = (e : ℕ) × Contains es e × HasSupertype s e f

-- where nothing was found before, these are all
pub next-all : (s : Schema) (before now es : List ℕ) → before ≡ [] → ((f : ℕ) → Contains now f ↔ (Contains before f ⊎ HasBelow s es f))
    → (f : ℕ) → Contains now f ↔ HasBelow s es f
next-all s before now es empty found f = let P : List ℕ → Type 0 = λ fs. Contains fs f in (
  λ among. elim ((found f).0 among) [ inl old ↦ absurd (Contains-none f (subst P empty old)) | inr below ↦ below ],
  λ below. (found f).1 (inr below),
)

-- the direct supertypes of one entity more are found
pub next-more : (s : Schema) (before now after seen : List ℕ) (e : ℕ) → ((f : ℕ) → Contains now f ↔ (Contains before f ⊎ HasBelow s seen f))
    → ((f : ℕ) → Contains after f ↔ (Contains now f ⊎ HasSupertype s e f)) → (f : ℕ) → Contains after f
    ↔ (Contains before f ⊎ HasBelow s (seen ++ e ∷ []) f)
next-more s before now after seen e so_far one f = (
  λ among. elim ((one f).0 among) [
    | inl old ↦ elim ((so_far f).0 old) [ inl h ↦ inl h | inr h ↦ inr (h.0, Contains-append_left seen (e ∷ []) h.0 h.1, h.2) ]
    | inr up ↦ inr (e, Contains-push seen e, up)
  ],
  λ h. (one f).1 (elim h [
    | inl old ↦ inl ((so_far f).1 (inl old))
    | inr (g, among, up) ↦ elim (Contains-push_cases seen e g among) [
      | inl old ↦ inl ((so_far f).1 (inr (g, old, up)))
      | inr same ↦ inr (let P : ℕ → Type 0 = λ x. HasSupertype s x f in subst P (sym same) up)
    ]
  ]),
)

-- those of the first so many that were found are found
pub record AreUpTo (s : Schema) (before now : List ℕ) (k : ℕ) : Type 0 where
  pub within : (f : ℕ) → Contains now f → (e : ℕ) × Contains before e × IsA s e f
  pub closed : (j e f : ℕ) → j < k → slice_get now j ≡ Some e → HasSupertype s e f → Contains now f

pub up-none : (s : Schema) (before : List ℕ) → AreUpTo s before before 0
up-none s before = record { within = λ f among. (f, among, itself f); closed = λ j e f below. absurd (omega (arith, below)) }

front-get : (xs ys : List ℕ) (k : ℕ) → k < length xs → slice_get (xs ++ ys) k ≡ slice_get xs k
front-get [] ys k below = absurd (omega (arith, below))
front-get (x ∷ xs) ys zero below = refl
front-get (x ∷ xs) ys (suc k) below = front-get xs ys k (omega (arith, below))

pub up-more : (s : Schema) (before now after left : List ℕ) (k e : ℕ) → AreUpTo s before now k → slice_get now k ≡ Some e
    → after ≡ now ++ left → ((f : ℕ) → Contains after f ↔ (Contains now f ⊎ HasSupertype s e f)) → AreUpTo s before after (k + 1)
up-more s before now after left k e so_far at after_is one = record {
  within = λ f among. elim ((one f).0 among) [
    | inl old ↦ so_far.within f old
    | inr up ↦ (let (g, g_among, is) = so_far.within e (Contains-found now k e at) in
        (g, g_among, IsA-transitive s g e f is (above e f f up (itself f))))
  ];
  closed = λ j x f below x_at up.
      let inside = slice_get_within now k e at in
      let old_at : slice_get now j ≡ Some x = sym (front-get now left j (omega (arith, below, inside)))
      ∙ ap (λ xs. slice_get xs j) (sym after_is) ∙ x_at in
      elim (cases_lt j k) [
        | inl h ↦ (one f).1 (inl (so_far.closed j x f h old_at up))
        | inr h ↦
            let last : j ≡ k = omega (arith, h, below) in
            let same : Some x ≡ Some e = sym old_at ∙ ap (slice_get now) last ∙ at in
            let is : x ≡ e = cc in
            (one f).1 (inr (let P : ℕ → Type 0 = λ g. HasSupertype s g f in subst P is up))
      ];
}

-- once those of all are found, there are no more
pub up-all : (s : Schema) (before now : List ℕ) (k : ℕ) → AreUpTo s before now k → length now ≤ k → (e f : ℕ) → Contains now e
    → HasSupertype s e f → Contains now f
up-all s before now k so_far all e f among up =
    let (j, at) = Contains-at now e among in
    let inside = slice_get_within now j e at in
    so_far.closed j e f (omega (arith, inside, all)) at up

-- what has the direct supertypes of all that it has has all supertypes of these
pub climbs : (s : Schema) (found : List ℕ) → ((e f : ℕ) → Contains found e → HasSupertype s e f → Contains found f) → (e f : ℕ) → IsA s e f
    → Contains found e → Contains found f
climbs s found closed _ _ (itself e) among = among
climbs s found closed _ _ (above sub next sup up more) among = climbs s found closed next sup more (closed sub next among up)

-- the supertypes of the direct ones are the proper ones
module _ (s : Schema) (ends : HasNoCircle (HasSupertype s)) (es next found : List ℕ)
    (next_are : (f : ℕ) → Contains next f ↔ HasBelow s es f) (kept : (f : ℕ) → Contains next f → Contains found f)
    (within : (f : ℕ) → Contains found f → (e : ℕ) × Contains next e × IsA s e f)
    (closed : (e f : ℕ) → Contains found e → HasSupertype s e f → Contains found f) where
  apart : (e g : ℕ) → HasSupertype s e g → IsA s g e → ⊥
  apart e g up back =
      let same : e ≡ g = IsA-antisymmetric s ends e g (above e g g up (itself g)) back in
      let falls = ends.1 e g up in
      omega (arith, falls, ap ends.0 same)

  reached : (e f : ℕ) → IsA s e f → Contains es e → (f ≢ e) → Contains found f
  reached _ _ (itself e) among other = absurd (other refl)
  reached _ _ (above e g f up more) among other = climbs s found closed g f more (kept g ((next_are g).1 (e, among, up)))

  pub are-above : AreAbove s es found
  are-above f = (
    λ among.
        let (g, g_among, is) = within f among in
        let (e, e_among, up) = (next_are g).0 g_among in
        (e, e_among, (above e g f up is, λ same. let P : ℕ → Type 0 = λ x. IsA s g x in apart e g up (subst P same is))),
    λ (e, among, (is, other)). reached e f is among other,
  )
