-- References that are added, and those that are dropped.
use Rattle.std.proofs.Common.{◌≡◌, ◌⊎◌, ◌<◌, ◌≤◌, ◌+◌, ◌∙◌, ℕ, suc, List, [], ◌∷◌, ◌++◌, Contains, length, map, take, drop, set, get_or, append_assoc, append-nil, ap, arith, inl, inr, refl, subst, sym}
use Rattle.std.proofs.lemmas.Grind.{flat_map-append}
use Rattle.std.proofs.lemmas.List.{drop-set-lt, drop_all, map-append, take-set, take_all, take_more, take_more_set}
use Rattle.std.proofs.lemmas.List.Elements.{Contains-append_left, Contains-append_right}
use Rattle.std.proofs.Math.Seq.{drop-cons}
use Rattle.std.specs.List.{AllByRecursion as Each}
use Rattle.p21_grammar_tree.specs.View.{part_view, part_views, view, views}
use Rattle.p21_grammar_tree.specs.declared.param.Param.{Param}
use Rattle.p21_grammar_tree.specs.declared.record.Part as tree
use Rattle.p21_spec_basics.proofs.Members.{Contains-first, Contains-later, Contains-mapped, Each-append, Each-weaker}
use Rattle.p21_spec_exchange.specs.Parameter as meant
use Rattle.p21_spec_exchange.specs.Parameter.{params_of}
use Rattle.p21_spec_exchange.specs.Record.{complex}
use Rattle.p21_spec_file.specs.Reference.{param_references, record_references, references}
use Rattle.p21_stream_syntax.specs.Waiting.{Adds, Claim, Drops, claims_in, claims_of, parts_references}
use Rattle.p21_stream_syntax.specs.declared.references.Reference.{Reference}

-- a reference waits, or its name is given
abbrev Served : List ℕ → List Claim → Claim → Type 0
Served names waiting c = Contains waiting c ⊎ Contains names c.1

-- ---- references that are added

pub adds-none : (names : List ℕ) (old : List Claim) → Adds names [] old old
adds-none names old = record { more = []; new_is = sym (append-nil old); are_added = tt; others_given = tt }

pub adds-given : (names : List ℕ) (old : List Claim) (c : Claim) → Contains names c.1 → Adds names (c ∷ []) old old
adds-given names old c given = record { more = []; new_is = sym (append-nil old); are_added = tt; others_given = (inr given, tt) }

pub adds-one : (names : List ℕ) (old : List Claim) (c : Claim) → Adds names (c ∷ []) old (old ++ c ∷ [])
adds-one names old c = record {
  more = c ∷ [];
  new_is = refl;
  are_added = (Contains-first c [], tt);
  others_given =
      (inl (Contains-first c []), tt);
}

pub adds-joined : (names : List ℕ) (first second old middle new : List Claim) → Adds names first old middle → Adds names second middle new
    → Adds names (first ++ second) old new
adds-joined names first second old middle new one two = record {
  more = one.more ++ two.more;
  new_is = two.new_is ∙ ap (λ (l : List Claim). l ++ two.more) one.new_is ∙ append_assoc old one.more two.more;
  are_added = Each-append (Contains (first ++ second)) one.more two.more
      (Each-weaker (Contains first) (Contains (first ++ second)) (λ n among. Contains-append_left first second n among) one.more
      one.are_added)
      (Each-weaker (Contains second) (Contains (first ++ second)) (λ n among. Contains-append_right first second n among) two.more
      two.are_added);
  others_given = Each-append (Served names (one.more ++ two.more)) first second
      (Each-weaker (Served names one.more) (Served names (one.more ++ two.more))
      (λ n served. elim served [ inl among ↦ inl (Contains-append_left one.more two.more n among) | inr given ↦ inr given ]) first
      one.others_given)
      (Each-weaker (Served names two.more) (Served names (one.more ++ two.more))
      (λ n served. elim served [ inl among ↦ inl (Contains-append_right one.more two.more n among) | inr given ↦ inr given ]) second
      two.others_given);
}

-- ---- of parameters one by one

references-behind : (ps : List meant.Param) (p : meant.Param)
    → references (params_of (ps ++ p ∷ [])) ≡ references (params_of ps) ++ param_references p
references-behind [] p = append-nil (param_references p)
references-behind (q ∷ ps) p = ap (λ (l : List ℕ). param_references q ++ l) (references-behind ps p)
    ∙ sym (append_assoc (param_references q) (references (params_of ps)) (param_references p))

views-more : (ps : List Param) (i : ℕ) (d : Param) → i < length ps
    → references (views (take (i + 1) ps)) ≡ references (views (take i ps)) ++ param_references (view (get_or ps i d))
views-more ps i d low =
    ap (λ (l : List Param). references (views l)) (take_more ps i d low)
    ∙ ap (λ (l : List meant.Param). references (params_of l)) (map-append view (take i ps) (get_or ps i d ∷ []))
    ∙ references-behind (map view (take i ps)) (view (get_or ps i d))

-- the references of one instance to the names of two lists
claims-append : (holder : ℕ) (xs ys : List ℕ) → claims_of holder (xs ++ ys) ≡ claims_of holder xs ++ claims_of holder ys
claims-append holder xs ys = map-append (λ (n : ℕ). (holder, n)) xs ys

adds-more : (names : List ℕ) (holder : ℕ) (xs ys zs : List ℕ) (old middle new : List Claim) → zs ≡ xs ++ ys
    → Adds names (claims_of holder xs) old middle → Adds names (claims_of holder ys) middle new → Adds names (claims_of holder zs) old new
adds-more names holder xs ys zs old middle new is one two =
    subst (λ (l : List Claim). Adds names l old new) (sym (ap (claims_of holder) is ∙ claims-append holder xs ys))
    (adds-joined names (claims_of holder xs) (claims_of holder ys) old middle new one two)

-- those of the records as the definitions have them
pub references-mapped : (parts : List tree.Part) → record_references (complex (part_views parts)) ≡ parts_references parts
references-mapped [] = refl
references-mapped (part ∷ parts) = ap (λ (l : List ℕ). references (part_view part).params ++ l) (references-mapped parts)

-- the references of so many parameters are added, and of one more
pub adds-param : (names : List ℕ) (holder : ℕ) (old middle new : List Claim) (ps : List Param) (i : ℕ) (p : Param) → i < length ps
    → p ≡ get_or ps i p → Adds names (claims_of holder (references (views (take i ps)))) old middle
    → Adds names (claims_of holder (param_references (view p))) middle new
    → Adds names (claims_of holder (references (views (take (i + 1) ps)))) old new
adds-param names holder old middle new ps i p low is one two =
    adds-more names holder (references (views (take i ps))) (param_references (view p)) (references (views (take (i + 1) ps))) old middle new
    (views-more ps i p low ∙ ap (λ (q : Param). references (views (take i ps)) ++ param_references (view q)) (sym is)) one two

pub adds-part : (names : List ℕ) (holder : ℕ) (old middle new : List Claim) (parts : List tree.Part) (i : ℕ) (part : tree.Part)
    → i < length parts → part ≡ get_or parts i part → Adds names (claims_of holder (parts_references (take i parts))) old middle
    → Adds names (claims_of holder (references (part_view part).params)) middle new
    → Adds names (claims_of holder (parts_references (take (i + 1) parts))) old new
adds-part names holder old middle new parts i part low is one two =
    let last : parts_references (part ∷ []) ≡ references (part_view part).params = append-nil (references (part_view part).params) in
    let more : parts_references (take (i + 1) parts) ≡ parts_references (take i parts) ++ references (part_view part).params =
    ap parts_references (take_more parts i part low ∙ ap (λ (x : tree.Part). take i parts ++ x ∷ []) (sym is))
    ∙ flat_map-append (λ (x : tree.Part). references (part_view x).params) (take i parts) (part ∷ [])
    ∙ ap (λ (l : List ℕ). parts_references (take i parts) ++ l) last in
    adds-more names holder (parts_references (take i parts)) (references (part_view part).params) (parts_references (take (i + 1) parts))
    old middle new more one two

-- those of all of them
pub all-params : (names : List ℕ) (holder : ℕ) (old new : List Claim) (ps : List Param) (i : ℕ) → length ps ≤ i
    → Adds names (claims_of holder (references (views (take i ps)))) old new → Adds names (claims_of holder (references (views ps))) old new
all-params names holder old new ps i past adds =
    subst (λ (l : List Param). Adds names (claims_of holder (references (views l))) old new) (take_all i ps past) adds

pub all-parts : (names : List ℕ) (holder : ℕ) (old new : List Claim) (parts : List tree.Part) (i : ℕ) → length parts ≤ i
    → Adds names (claims_of holder (parts_references (take i parts))) old new → Adds names (claims_of holder (parts_references parts)) old new
all-parts names holder old new parts i past adds =
    subst (λ (l : List tree.Part). Adds names (claims_of holder (parts_references l)) old new) (take_all i parts past) adds

-- ---- references that are dropped

pub drops-none : (names : List ℕ) (old : List Claim) → Drops names old old
drops-none names old = record { are_old = each old; others_given = others old }
  where
    each : (xs : List Claim) → Each (Contains xs) xs
    each [] = tt
    each (x ∷ xs) = (
      Contains-first x xs,
      Each-weaker (Contains xs) (Contains (x ∷ xs)) (λ n among. Contains-later x xs n among) xs
          (each xs),
    )

    others : (xs : List Claim) → Each (λ (c : Claim). Contains xs c ⊎ Contains names c.1) xs
    others xs = Each-weaker (Contains xs) (λ (c : Claim). Contains xs c ⊎ Contains names c.1) (λ n among. inl among) xs (each xs)

drops-first : (names : List ℕ) (old new : List Claim) (n : Claim) → Drops names old new → Drops names (n ∷ old) (n ∷ new)
drops-first names old new n drops = record {
  are_old = (
    Contains-first n old,
    Each-weaker (Contains old) (Contains (n ∷ old)) (λ m among. Contains-later n old m among) new
        drops.are_old,
  );
  others_given = (
    inl (Contains-first n new),
    Each-weaker (λ (m : Claim). Contains new m ⊎ Contains names m.1) (λ (m : Claim). Contains (n ∷ new) m ⊎ Contains names m.1)
        (λ m served. elim served [ inl among ↦ inl (Contains-later n new m among) | inr given ↦ inr given ]) old drops.others_given,
  );
}

drops-given : (names : List ℕ) (old new : List Claim) (n : Claim) → Contains names n.1 → Drops names old new → Drops names (n ∷ old) new
drops-given names old new n given drops = record {
  are_old = Each-weaker (Contains old) (Contains (n ∷ old)) (λ m among. Contains-later n old m among) new drops.are_old;
  others_given = (inr given, drops.others_given);
}

-- ---- references as they are looked at

-- Those that are left of the first stand in front, and those that are still to be looked at behind an index: what is left of these
-- follows those in front
pub record AreLooked (names : List ℕ) (old : List Claim) (now : List Reference) (left index : ℕ) : Type 0 where
  pub in_front : left ≤ index
  pub follow : (rest : List Claim) → Drops names (claims_in (drop index now)) rest → Drops names old (claims_in (take left now) ++ rest)

pub looked-none : (names : List ℕ) (now : List Reference) → AreLooked names (claims_in now) now 0 0
looked-none names now = record { in_front = omega arith; follow = λ rest drops. drops }

claims-from : (now : List Reference) (index : ℕ) (x : Reference) → x ≡ get_or now index x → index < length now
    → claims_in (drop index now) ≡ (x.holder, x.target) ∷ claims_in (drop (index + 1) now)
claims-from now index x is low =
    let next : suc index ≡ index + 1 = omega arith in
    ap claims_in (drop-cons now index x low) ∙ ap (λ (y : Reference). (y.holder, y.target) ∷ claims_in (drop (suc index) now)) (sym is)
    ∙ ap (λ (i : ℕ). (x.holder, x.target) ∷ claims_in (drop i now)) next

moved-one : (now : List Reference) (left : ℕ) (x : Reference) → left < length now → (rest : List Claim)
    → claims_in (take left now) ++ (x.holder, x.target) ∷ rest ≡ claims_in (take (left + 1) (set now left x)) ++ rest
moved-one now left x low rest =
    sym (append_assoc (claims_in (take left now)) ((x.holder, x.target) ∷ []) rest)
    ∙ ap (λ (ns : List Claim). ns ++ rest) (sym (map-append (λ (r : Reference). (r.holder, r.target)) (take left now) (x ∷ [])))
    ∙ ap (λ (xs : List Reference). claims_in xs ++ rest) (sym (take_more_set now left x low))

module _ (names : List ℕ) (old : List Claim) (now : List Reference) (left index : ℕ) (are : AreLooked names old now left index) (x : Reference)
    (is : x ≡ get_or now index x) (low : index < length now) where
  -- what is left of those behind the next one, which was moved to the front
  next-left : (rest : List Claim) → Drops names (claims_in (drop (index + 1) (set now left x))) rest
      → Drops names (claims_in (drop (index + 1) now)) rest
  next-left rest drops = subst (λ (xs : List Reference). Drops names (claims_in xs) rest)
      (drop-set-lt (index + 1) now left x (omega (arith, are.in_front))) drops

  -- its instance has come
  pub looked-given : Contains names x.target → AreLooked names old (set now left x) left (index + 1)
  looked-given given = record {
    in_front = omega (arith, are.in_front);
    follow = λ rest drops.
        subst (λ (xs : List Reference). Drops names old (claims_in xs ++ rest)) (sym (take-set now left x))
        (are.follow rest (subst (λ (ns : List Claim). Drops names ns rest) (sym (claims-from now index x is low))
        (drops-given names (claims_in (drop (index + 1) now)) rest (x.holder, x.target) given (next-left rest drops))));
  }

  -- it has not
  pub looked-left : AreLooked names old (set now left x) (left + 1) (index + 1)
  looked-left = record {
    in_front = omega (arith, are.in_front);
    follow = λ rest drops.
        subst (Drops names old) (moved-one now left x (omega (arith, are.in_front, low)) rest)
        (are.follow ((x.holder, x.target) ∷ rest) (subst (λ (ns : List Claim). Drops names ns ((x.holder, x.target) ∷ rest)) (sym (claims-from now index x is low))
        (drops-first names (claims_in (drop (index + 1) now)) rest (x.holder, x.target) (next-left rest drops))));
  }

pub looked-all : (names : List ℕ) (old : List Claim) (now : List Reference) (left index : ℕ) → AreLooked names old now left index → length now ≤ index
    → Drops names old (claims_in (take left now))
looked-all names old now left index are past =
    subst (Drops names old) (append-nil (claims_in (take left now)))
    (are.follow [] (subst (λ (ns : List Claim). Drops names ns []) (sym (ap claims_in (drop_all index now past))) (drops-none names [])))

-- ---- references one by one

pub target-there : (items : List Reference) (index : ℕ) (x : Reference) → x ≡ get_or items index x → index < length items
    → Contains (claims_in items) (x.holder, x.target)
target-there items index x is low = Contains-mapped (λ (r : Reference). (r.holder, r.target)) items x (index, low, sym is)

-- its name has come
abbrev pub HasCome : List ℕ → Claim → Type 0
HasCome names c = Contains names c.1

pub one-come : (names : List ℕ) (items : List Reference) (index : ℕ) (x : Reference) → x ≡ get_or items index x → index < length items
    → Each (HasCome names) (claims_in (take index items)) → Contains names x.target
    → Each (HasCome names) (claims_in (take (index + 1) items))
one-come names items index x is low each given =
    let more : claims_in (take (index + 1) items) ≡ claims_in (take index items) ++ (x.holder, x.target) ∷ [] =
    ap claims_in (take_more items index x low ∙ ap (λ (y : Reference). take index items ++ y ∷ []) (sym is))
    ∙ map-append (λ (r : Reference). (r.holder, r.target)) (take index items) (x ∷ []) in
    subst (Each (HasCome names)) (sym more)
    (Each-append (HasCome names) (claims_in (take index items)) ((x.holder, x.target) ∷ []) each (given, tt))
