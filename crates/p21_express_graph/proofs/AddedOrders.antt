-- Orders that are gathered where some of their entities are there.
use Rattle.std.specs.Prelude.{◌≡◌, ◌↔◌, ℕ, ◌⊎◌, Bool, true, false, List, [], ◌∷◌, ◌++◌, Some, slice_get, take, nat_eq, Contains, refl}
use Rattle.std.specs.List.{list_any}
use Rattle.std.proofs.Common.{arith, ap, sym, ◌∙◌, subst, inl, inr}
use Rattle.std.proofs.lemmas.Bool.{cases_eq}
use Rattle.std.proofs.lemmas.List.Elements.{Contains-append_cases, Contains-append_left, Contains-append_right}
use Rattle.p21_spec_basics.proofs.Members.{Contains-none, Contains-first, Contains-later, Contains-cases}
use Rattle.p21_spec_schema.specs.Schema.{Schema}
use Rattle.p21_spec_schema.specs.Supertype.{IsA, itself, above, supertypes_of}
use Rattle.p21_spec_schema.specs.Order.{order}
use Rattle.p21_spec_schema.proofs.PlaceTypes.{IsA-transitive}
use Rattle.p21_express_graph.specs.Closed.{AreClosed}
use Rattle.p21_express_graph.specs.Gathering.{add_first, add_firsts}
use Rattle.p21_express_graph.specs.Orders.{supertype_lists}
use Rattle.p21_express_graph.specs.Resolved.{HoldsTogether}
use Rattle.p21_express_graph.specs.SettledOrder.{nexts_of, IsSettledOrder}
use Rattle.p21_express_graph.proofs.Gatherings.{add-new, add-old, among-any, any-among}
use Rattle.p21_express_graph.proofs.OrderTables.{AreSoFar, order-tells, supertypes-listed}

-- what is there with one number more
in-first : (xs : List ℕ) (y f : ℕ) → Contains (add_first xs y) f ↔ (Contains xs f ⊎ (f ≡ y))
in-first xs y f = cases (list_any (nat_eq y) xs) refl
  where
    cases : (b : Bool) → list_any (nat_eq y) xs ≡ b → Contains (add_first xs y) f ↔ (Contains xs f ⊎ (f ≡ y))
    cases true is =
        let P : List ℕ → Type 0 = λ zs. Contains zs f in
        let Q : ℕ → Type 0 = λ z. Contains xs z in
        let same : add_first xs y ≡ xs = add-old xs y (sym is) in
        (λ among. inl (subst P same among), λ either. subst P (sym same) (elim either [ inl h ↦ h | inr h ↦ subst Q (sym h) (any-among xs y is) ]))
    cases false is =
        let P : List ℕ → Type 0 = λ zs. Contains zs f in
        let same : add_first xs y ≡ xs ++ y ∷ [] = add-new xs y (sym is) in (
          λ among. elim (Contains-append_cases xs (y ∷ []) f (subst P same among)) [
            | inl h ↦ inl h
            | inr h ↦ elim (Contains-cases y [] f h) [ inl is_y ↦ inr (sym is_y) | inr none ↦ absurd (Contains-none f none) ]
          ],
          λ either. subst P (sym same) (elim either [ inl h ↦ Contains-append_left xs (y ∷ []) f h | inr h ↦ Contains-append_right xs (y ∷ []) f (0, omega arith, sym h) ]),
        )

-- and with each of some numbers
pub in-added : (xs ys : List ℕ) (f : ℕ) → Contains (add_firsts xs ys) f ↔ (Contains xs f ⊎ Contains ys f)
in-added xs [] f = (λ among. inl among, λ either. elim either [ inl h ↦ h | inr h ↦ absurd (Contains-none f h) ])
in-added xs (y ∷ ys) f =
    let (rest, back) = in-added (add_first xs y) ys f in
    let (one, put) = in-first xs y f in (
      λ among. elim (rest among) [
        | inl h ↦ elim (one h) [ inl k ↦ inl k | inr k ↦ inr (0, omega arith, sym k) ]
        | inr h ↦ inr (Contains-later y ys f h)
      ],
      λ either. back (elim either [
        | inl h ↦ inl (put (inl h))
        | inr h ↦ elim (Contains-cases y ys f h) [ inl k ↦ inl (put (inr (sym k))) | inr k ↦ inr k ]
      ]),
    )

-- numbers that are there are added in vain
all-known : (xs ys : List ℕ) → ((y : ℕ) → Contains ys y → Contains xs y) → add_firsts xs ys ≡ xs
all-known xs [] known = refl
all-known xs (y ∷ ys) known = ap (λ zs. add_firsts zs ys) (add-old xs y (sym (among-any xs y (known y (Contains-first y ys))))) ∙ all-known xs ys (λ z among. known z (Contains-later y ys z among))

-- and so are all but one
pub add-known : (xs ys : List ℕ) (x : ℕ) → Contains ys x → ((y : ℕ) → Contains ys y → Contains xs y ⊎ (y ≡ x)) → add_firsts xs ys ≡ add_first xs x
add-known xs [] x among known = absurd (Contains-none x among)
add-known xs (y ∷ ys) x among known = elim (cases_eq y x) [
  | inl same ↦ ap (λ z. add_firsts (add_first xs z) ys) same ∙ all-known (add_first xs x) ys (λ z is. (in-first xs x z).1 (known z (Contains-later y ys z is)))
  | inr other ↦ elim (known y (Contains-first y ys)) [
    | inl there ↦ ap (λ zs. add_firsts zs ys) (add-old xs y (sym (among-any xs y there)))
        ∙ add-known xs ys x (elim (Contains-cases y ys x among) [ inl same ↦ absurd (other same) | inr more ↦ more ]) (λ z is. known z (Contains-later y ys z is))
    | inr same ↦ absurd (other same)
  ]
]

itself-or-up : (s : Schema) (e f : ℕ) → IsA s e f → (f ≡ e) ⊎ ((next : ℕ) × Contains (supertypes_of s e) next × IsA s next f)
itself-or-up s e f (itself _) = inl refl
itself-or-up s e f (above _ next _ up more) = inr (next, up, more)

module _ (s : Schema) (holds : HoldsTogether s) (xs : List ℕ) (closed : AreClosed s xs) (e : ℕ) where
  -- where all supertypes of an entity are there, only itself is added of its order
  pub add-itself : ((f : ℕ) → Contains (supertypes_of s e) f → Contains xs f) → add_firsts xs (order s e) ≡ add_first xs e
  add-itself known = add-known xs (order s e) e ((order-tells s holds e e).1 (itself e)) (λ f among. elim (itself-or-up s e f ((order-tells s holds e f).0 among)) [
    | inl same ↦ inr same
    | inr h ↦ let (next, up, more) = h in inl (closed next f (known next up) more)
  ])

  -- with an order more it stays so
  pub closed-more : AreClosed s (add_firsts xs (order s e))
  closed-more f g among is = (in-added xs (order s e) g).1 (elim ((in-added xs (order s e) f).0 among) [
    | inl h ↦ inl (closed f g h is)
    | inr h ↦ inr ((order-tells s holds e g).1 (IsA-transitive s e f g ((order-tells s holds e f).0 h) is))
  ])

-- the supertypes of the next entity have their orders
pub supertypes-done : (s : Schema) (listed : List ℕ) → IsSettledOrder (supertype_lists s) listed → (lists : List (List ℕ)) (k e : ℕ) → slice_get listed k ≡ Some e → AreSoFar s lists (take k listed) → (f : ℕ) → Contains (supertypes_of s e) f → nexts_of lists f ≡ order s f
supertypes-done s listed settled_order lists k e at so_far f up = so_far.orders f (settled_order.behind k e f at (let P : List ℕ → Type 0 = λ xs. Contains xs f in subst P (sym (supertypes-listed s e)) up))
