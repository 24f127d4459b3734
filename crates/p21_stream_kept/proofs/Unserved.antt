-- Needs that are served by what is stored, those that wait, and the first that none serves.
use Rattle.std.proofs.Common.{◌≡◌, ◌+◌, ◌<◌, ◌⊎◌, ◌∙◌, ℕ, suc, List, [], ◌∷◌, ◌++◌, length, map, get_or, take, drop, false, true, Option, Some, None, inl, inr, refl, sym, ap, subst, add-one, append_assoc}
use Rattle.std.proofs.Math.Seq.{drop-cons}
use Rattle.std.proofs.lemmas.List.{map-append, take_more}
use Rattle.std.proofs.lemmas.List.Elements.{Contains-append_right}
use Rattle.std.specs.Prelude.{Contains, is_some}
use Rattle.p21_spec_basics.proofs.Members.{Contains-first, Contains-later, Each-weaker}
use Rattle.std.specs.List.{AllByRecursion as Each}
use Rattle.p21_spec_basics.specs.Limits.{Limits}
use Rattle.p21_spec_laws.proofs.Keeps.{keeps-unserved}
use Rattle.p21_spec_laws.specs.Keeping.{IsServedBy, IsServedByNone, Keeps, Kept}
use Rattle.p21_spec_laws.specs.Stored.{StoredEntry}
use Rattle.p21_spec_laws.specs.Waiting.{Reference}
use Rattle.p21_spec_exchange.specs.Laying.{Laid}
use Rattle.p21_spec_exchange.specs.Statement.{Statement}
use Rattle.p21_spec_exchange.specs.Structure.{Structure, statements, tokens_of}
use Rattle.p21_spec_file.specs.Accepted.{IsAccepted}
use Rattle.p21_spec_file.specs.Reference.{Need}
use Rattle.p21_spec_schema.specs.Schema.{Schema}
use Rattle.p21_spec_schema.specs.WellFormed.{IsWellFormed}
use Rattle.p21_stream_statements.specs.declared.fault.Fault.{Fault}
use Rattle.p21_stream_statements.specs.declared.fault.Fault.TheVariants.{Dangling, WrongTarget}
use Rattle.p21_stream_kept.proofs.Instances.{stored-names}
use Rattle.p21_stream_kept.specs.Inside.{reference_of, references_of, stored_of}
use Rattle.p21_mapping.specs.Checked.{needs_view}
use Rattle.p21_mapping_values.specs.TypedView.{need_view}
use Rattle.p21_mapping_values.specs.declared.need.Need as need
use Rattle.p21_stream_kept.specs.declared.kept.Reference as held
use Rattle.p21_stream_kept.specs.Served.{AnswersNeed, AnswersUnserved, IsFirstUnserved, LeavesUnserved, RefusesNeed, with_needs}
use Rattle.p21_stream_store.specs.Memberships.{Membership}
use Rattle.p21_stream_store.specs.StoredInstance as store
use Rattle.p21_stream_store.specs.StoredInstance.{instance_names}

-- ---- one need

-- no instance has the name
pub none-of_name : (s : Schema) (memberships : List Membership) (instances : List store.StoredInstance) (need : Need)
    → (Contains (instance_names instances) need.target → ⊥) → RefusesNeed s (stored_of memberships instances) need Dangling
none-of_name s memberships instances need none = λ among. none
    (subst (λ (names : List ℕ). Contains names need.target) (stored-names memberships instances) among)

-- what is not refused is served
pub none-refused : (s : Schema) (stored : List StoredEntry) (need : Need) (answer : Option Fault) → is_some answer ≡ false
    → AnswersNeed s stored need answer → IsServedBy s stored need
none-refused s stored need None none served = served
none-refused s stored need (Some fault) none refused = cc

none-serves : (s : Schema) (stored : List StoredEntry) (need : Need) (fault : Fault) → RefusesNeed s stored need fault
    → IsServedByNone s stored need
none-serves s stored need Dangling none = inl none
none-serves s stored need WrongTarget unfit = inr unfit
none-serves s stored need other refused = absurd refused

-- what is refused is served by none
pub some-refused : (s : Schema) (stored : List StoredEntry) (need : Need) (answer : Option Fault) → is_some answer ≡ true
    → AnswersNeed s stored need answer → IsServedByNone s stored need
some-refused s stored need None some served = cc
some-refused s stored need (Some fault) some refused = none-serves s stored need fault refused

-- ---- needs that wait

module _ {X : Type 0} (s : Schema) (stored : List StoredEntry) (need : X → Need) where
  -- what is left is among them
  pub left-among : (xs left : List X) → LeavesUnserved s stored need xs left → Each (Contains xs) left
  left-among [] left is = subst (Each (Contains [])) (sym is) tt
  left-among (x ∷ xs) left is = elim is [
    | inl (served, are) ↦ Each-weaker (Contains xs) (Contains (x ∷ xs)) (λ y at. Contains-later x xs y at) left (left-among xs left are)
    | inr (none, (rest, same, are)) ↦
        subst (Each (Contains (x ∷ xs))) (sym same) (
          Contains-first x xs,
          Each-weaker (Contains xs) (Contains (x ∷ xs))
              (λ y at. Contains-later x xs y at) rest (left-among xs rest are),
        )
  ]

  -- each of them is left or served
  pub left-or_served : (xs left : List X) → LeavesUnserved s stored need xs left
      → Each (λ (x : X). Contains left x ⊎ IsServedBy s stored (need x)) xs
  left-or_served [] left is = tt
  left-or_served (x ∷ xs) left is = elim is [
    | inl (served, are) ↦ (inr served, left-or_served xs left are)
    | inr (none, (rest, same, are)) ↦
        let Left : List X → X → Type 0 = λ ys y. Contains ys y ⊎ IsServedBy s stored (need y) in
        subst (λ (ys : List X). Each (Left ys) (x ∷ xs)) (sym same) (
          inl (Contains-first x rest),
          Each-weaker (Left rest) (Left (x ∷ rest)) (λ y it. elim it
              [ inl at ↦ inl (Contains-later x rest y at) | inr served ↦ inr served ]) xs (left-or_served xs rest are),
        )
  ]

-- one need more
needs-added : (holder : ℕ) (needs : List Need) (need : Need) (old : List Reference)
    → with_needs holder (needs ++ need ∷ []) old ≡ with_needs holder needs old ++ (holder, need) ∷ []
needs-added holder needs need old =
    let named : Need → Reference = λ x. (holder, x) in
    ap (λ (rs : List Reference). old ++ rs) (map-append named needs (need ∷ []))
    ∙ sym (append_assoc old (map named needs) ((holder, need) ∷ []))

-- ---- the first that none serves

pub unserved-behind : (s : Schema) (stored : List StoredEntry) (r : Reference) (rest : List Reference) → IsServedBy s stored r.1
    → (result : Option (ℕ × Fault)) → AnswersUnserved s stored rest result → AnswersUnserved s stored (r ∷ rest) result
unserved-behind s stored r rest served None each = (served, each)
unserved-behind s stored r rest served (Some (holder, fault)) is = record {
  before = r ∷ is.before;
  need = is.need;
  behind = is.behind;
  waiting_are = ap (λ (rs : List Reference). r ∷ rs) is.waiting_are;
  before_served = (served, is.before_served);
  refused = is.refused;
}

pub unserved-here : (s : Schema) (stored : List StoredEntry) (holder : ℕ) (need : Need) (rest : List Reference) (fault : Fault)
    → RefusesNeed s stored need fault → AnswersUnserved s stored ((holder, need) ∷ rest) (Some (holder, fault))
unserved-here s stored holder need rest fault refused = record {
  before = [];
  need = need;
  behind = rest;
  waiting_are = refl;
  before_served = tt;
  refused = refused;
}

-- the bytes of a file with such a reference are not accepted
pub unserved-not_accepted : (s : Schema) → IsWellFormed s → (limits : Limits) (bytes : List ℕ) (given : List Statement) (kept : Kept)
    → Keeps s limits given kept → (structure : Structure) → statements structure ≡ given → Laid bytes (tokens_of structure)
    → (holder : ℕ) (fault : Fault) → IsFirstUnserved s kept.stored kept.waiting holder fault → ¬ IsAccepted s limits bytes
unserved-not_accepted s formed limits bytes given kept keeps structure same laid holder fault is =
    let P : List Reference → Type 0 = λ rs. Contains rs (holder, is.need) in
    keeps-unserved s formed limits bytes given kept keeps structure same laid (holder, is.need)
    (subst P (sym is.waiting_are) (Contains-append_right is.before ((holder, is.need) ∷ is.behind) (holder, is.need)
    (Contains-first (holder, is.need) is.behind)))
    (none-serves s kept.stored is.need fault is.refused)

-- ---- as they are gone through

needs-more : (xs : List need.Need) (i : ℕ) (x : need.Need) → x ≡ get_or xs i x → i < length xs
    → needs_view (take (i + 1) xs) ≡ needs_view (take i xs) ++ need_view x ∷ []
needs-more xs i x is low = ap needs_view (take_more xs i x low ∙ ap (λ (y : need.Need). take i xs ++ y ∷ []) (sym is))
    ∙ map-append need_view (take i xs) (x ∷ [])

pub references-more : (xs : List held.Reference) (i : ℕ) (x : held.Reference) → x ≡ get_or xs i x → i < length xs
    → references_of (take (i + 1) xs) ≡ references_of (take i xs) ++ reference_of x ∷ []
references-more xs i x is low = ap references_of (take_more xs i x low ∙ ap (λ (y : held.Reference). take i xs ++ y ∷ []) (sym is))
    ∙ map-append reference_of (take i xs) (x ∷ [])

-- with a reference for one need more
pub waiting-more : (holder : ℕ) (needs : List need.Need) (i : ℕ) (x : need.Need) → x ≡ get_or needs i x → i < length needs
    → (old : List Reference) (before after : List held.Reference) → after ≡ before ++ record { holder = holder; need = x } ∷ []
    → references_of before ≡ with_needs holder (needs_view (take i needs)) old
    → references_of after ≡ with_needs holder (needs_view (take (i + 1) needs)) old
waiting-more holder needs i x is low old before after pushed same =
    ap references_of pushed ∙ map-append reference_of before (record { holder = holder; need = x } ∷ [])
    ∙ ap (λ (rs : List Reference). rs ++ (holder, need_view x) ∷ []) same
    ∙ sym (needs-added holder (needs_view (take i needs)) (need_view x) old)
    ∙ ap (λ (ns : List Need). with_needs holder ns old) (sym (needs-more needs i x is low))

pub references-from : (xs : List held.Reference) (i : ℕ) (x : held.Reference) → x ≡ get_or xs i x → i < length xs
    → references_of (drop i xs) ≡ reference_of x ∷ references_of (drop (i + 1) xs)
references-from xs i x is low = ap references_of (drop-cons xs i x low ∙ ap (λ (y : held.Reference). y ∷ drop (suc i) xs) (sym is))
    ∙ ap (λ (k : ℕ). reference_of x ∷ references_of (drop k xs)) (sym (add-one i))
