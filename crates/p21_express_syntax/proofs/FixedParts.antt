-- Parts of declarations, each fixed by its lexemes: what stands there is compared part by part, from the front.
use Rattle.std.proofs.Common.{◌≡◌, ℕ, Bool, true, false, List, [], ◌∷◌, ◌++◌, codes, Option, Some, None, IfSome, refl, ap, sym, subst, ◌∙◌, lit<, arith}
use Rattle.std.specs.List.{Contains, flat_map, AllByRecursion as Each}
use Rattle.p21_spec_schema.specs.Express.{Lexeme, identifier, symbol}
use Rattle.p21_spec_schema.specs.ReservedWord.{reserved_words, IsName, AreNames}
use Rattle.p21_spec_schema.specs.Run.{IsRun, is_symbol, none}
use Rattle.p21_spec_schema.specs.WrittenType.{WrittenType, optional_word}
use Rattle.p21_spec_schema.specs.SupertypeConstraint.{SupertypeExpression, one_of, other_run, SupertypeConstraint, no_constraint, abstract_entity, abstract_supertype, abstract_supertype_of, supertype_of, expression_lexemes, constraint_lexemes, IsExpression, IsConstraint}
use Rattle.p21_spec_schema.specs.EntityDeclaration.{AttributeName, own, redeclared, ExplicitAttributes, DerivedAttribute, attribute_lexemes, explicit_lexemes, derived_lexemes, subtype_lexemes, IsAttributeName, AreExplicit, IsDerived}
use Rattle.p21_express_lexemes.specs.Runs.{AreApart, run_of}
use Rattle.p21_express_lexemes.specs.Taking.{Items, put, take_symbol, take_word, take_name}
use Rattle.p21_express_lexemes.proofs.Put.{put-append}
use Rattle.p21_express_lexemes.proofs.Running.{runs, nothing_apart, parentheses_apart}
use Rattle.p21_express_syntax.specs.Declaring.{names_of, one_of_of}
use Rattle.p21_express_syntax.specs.DataTypes.{bind, choose, flag_of}
use Rattle.p21_express_syntax.proofs.Declared.{one_of_read, put_supertype_of}
use Rattle.p21_express_syntax.proofs.DeclaredRead.{NoConstraint, no_one_of, snoc_same}
use Rattle.p21_express_syntax.proofs.Lists.{comma, put_explicit, put_derived}
use Rattle.p21_express_syntax.proofs.ListsRead.{names_read, semicolon_ends}
use Rattle.p21_express_syntax.proofs.Sounding.{name_read, name_apart}
use Rattle.p21_express_syntax.proofs.TypesRead.{type_first}
use Rattle.p21_express_syntax.proofs.TypesSound.{over}
use Rattle.p21_express_syntax.proofs.TypeTrees.{one_type}
use Rattle.p21_spec_basics.proofs.Members.{some_pair_is}

-- ---- what stands first

pub none_is : {A : Type 0} (x : A) → None ≡ Some x → ⊥
none_is x e = cc

apart : true ≡ false → ⊥
apart e = cc

-- the same lexeme, and the same behind it
pub first_same : (x y : Lexeme) (more rest : Items) → over x more ≡ over y rest → (x ≡ y) × (more ≡ rest)
first_same x y more rest e = (cc, cc)

pub behind : (x y : Lexeme) (more rest : Items) → over x more ≡ over y rest → more ≡ rest
behind x y more rest e = (first_same x y more rest e).1

pub words_same : (a b : List ℕ) (more rest : Items) → over (identifier a) more ≡ over (identifier b) rest → (a ≡ b) × (more ≡ rest)
words_same a b more rest e = let f = first_same (identifier a) (identifier b) more rest e in (let g : identifier a ≡ identifier b = f.0 in cc, f.1)

-- a name is no word of the grammar
not_word : (name w : List ℕ) → Contains reserved_words w → IsName name → name ≡ w → ⊥
not_word name w among is e = is (subst (λ (x : List ℕ). Contains reserved_words x) (sym e) among)

-- ---- lists of like things

-- each is fixed by its lexemes, whatever stands behind them
abbrev pub IsFixed : {A : Type 0} → (A → List Lexeme) → (A → Type 0) → Type 0
IsFixed {A} f P = (x y : A) (more rest : Items) → P x → P y → put (f x) more ≡ put (f y) rest → (x ≡ y) × (more ≡ rest)

-- each begins so
abbrev pub AllBegin : {A : Type 0} → (A → List Lexeme) → (A → Type 0) → (Items → Bool) → Type 0
AllBegin {A} f P first = (x : A) (more : Items) → P x → first (put (f x) more) ≡ true

pub many_fixed : {A : Type 0} (f : A → List Lexeme) (P : A → Type 0) (first : Items → Bool) → IsFixed f P → AllBegin f P first → (xs ys : List A) (more rest : Items) → Each P xs → Each P ys → first more ≡ false → first rest ≡ false
    → put (flat_map f xs) more ≡ put (flat_map f ys) rest → (xs ≡ ys) × (more ≡ rest)
many_fixed f P first is begin [] [] more rest are_x are_y n m e = (refl, e)
many_fixed f P first is begin [] (y ∷ ys) more rest are_x are_y n m e = absurd (apart (sym (begin y (put (flat_map f ys) rest) are_y.0) ∙ (ap first (sym (put-append (f y) (flat_map f ys) rest)) ∙ (ap first (sym e) ∙ n))))
many_fixed f P first is begin (x ∷ xs) [] more rest are_x are_y n m e = absurd (apart (sym (begin x (put (flat_map f xs) more) are_x.0) ∙ (ap first (sym (put-append (f x) (flat_map f xs) more)) ∙ (ap first e ∙ m))))
many_fixed {A} f P first is begin (x ∷ xs) (y ∷ ys) more rest are_x are_y n m e =
    let one = is x y (put (flat_map f xs) more) (put (flat_map f ys) rest) are_x.0 are_y.0 (sym (put-append (f x) (flat_map f xs) more) ∙ (e ∙ put-append (f y) (flat_map f ys) rest)) in
    let all = many_fixed f P first is begin xs ys more rest are_x.1 are_y.1 n m one.1 in
    (ap (λ (z : A). z ∷ xs) one.0 ∙ ap (λ (zs : List A). y ∷ zs) all.0, all.1)

-- something was taken
abbrev found : {A : Type 0} → Option A → Bool
found None = false
found (Some x) = true

-- ---- runs

-- with the lexeme that closes it
pub run_fixed : (opens closes : Lexeme → Bool) → AreApart opens closes → (last : Lexeme) → closes last ≡ true → (run other : List Lexeme) (more rest : Items) → IsRun opens closes run → IsRun opens closes other → put run (over last more) ≡ put other (over last rest) → (run ≡ other) × (more ≡ rest)
run_fixed opens closes apart last closed run other more rest is is_other e =
    let a = runs opens closes apart (put run (over last more)) more (record { run = run; last = last; is_run = is; closed = closed; lexemes = refl }) in
    let b = runs opens closes apart (put run (over last more)) rest (record { run = other; last = last; is_run = is_other; closed = closed; lexemes = e }) in
    let p = some_pair_is {X = List Lexeme} (run ++ last ∷ []) (other ++ last ∷ []) more rest (sym a ∙ b) in
    (snoc_same run other last p.0, p.1)

-- ---- supertype constraints

-- without the last one
abbrev front : List Lexeme → List Lexeme
front [] = []
front (x ∷ []) = []
front (x ∷ y ∷ xs) = x ∷ front (y ∷ xs)

front_is : (run : List Lexeme) (last : Lexeme) → front (run ++ last ∷ []) ≡ run
front_is [] last = refl
front_is (x ∷ []) last = refl
front_is (x ∷ y ∷ run) last = ap (λ (v : List Lexeme). x ∷ v) (front_is (y ∷ run) last)

abbrev expression_by : Option (List (List ℕ) × Items) → Option (List Lexeme × Items) → Option (SupertypeExpression × Items)
expression_by (Some names) run = Some (one_of names.0, names.1)
expression_by None run = bind run (λ r. Some (other_run (front r.0), r.1))

abbrev expression_at : Items → Option (SupertypeExpression × Items)
expression_at items = bind (take_symbol 40 items) (λ a. expression_by (one_of_of a) (run_of (is_symbol 40) (is_symbol 41) 1 a))

expression_back : (x : SupertypeExpression) (more : Items) → IsExpression x → ◌≡◌ {A = Option (SupertypeExpression × Items)} (expression_at (over (symbol 40) (put (expression_lexemes x) (over (symbol 41) more)))) (Some (x, more))
unfolding take_symbol
expression_back (one_of names) more is = rw (one_of_read names more is) refl
expression_back (other_run run) more is =
    rw (no_one_of run more is) (rw (runs (is_symbol 40) (is_symbol 41) parentheses_apart (put run (over (symbol 41) more)) more (record { run = run; last = symbol 41; is_run = is.0; closed = refl; lexemes = refl })) (rw (front_is run (symbol 41)) refl))

abbrev abstract_at : Items → Option (SupertypeConstraint × Items)
abstract_at items = choose (take_word (codes "SUPERTYPE") items) (λ b. choose (take_word (codes "OF") b) (λ c. bind (expression_at c) (λ e. Some (abstract_supertype_of e.0, e.1))) (Some (abstract_supertype, b))) (Some (abstract_entity, items))

abbrev constraint_at : Items → Option (SupertypeConstraint × Items)
constraint_at items = choose (take_word (codes "ABSTRACT") items) abstract_at (choose (take_word (codes "SUPERTYPE") items) (λ b. bind (take_word (codes "OF") b) (λ c. bind (expression_at c) (λ e. Some (supertype_of e.0, e.1)))) (Some (no_constraint, items)))

constraint_back : (x : SupertypeConstraint) (more : Items) → IsConstraint x → NoConstraint more → ◌≡◌ {A = Option (SupertypeConstraint × Items)} (constraint_at (put (constraint_lexemes x) more)) (Some (x, more))
unfolding take_word
constraint_back no_constraint more is n = rw (n.no_abstract, n.no_supertype) refl
constraint_back abstract_entity more is n = rw n.no_supertype refl
constraint_back abstract_supertype more is n = rw n.no_of refl
constraint_back (abstract_supertype_of x) more is n = ap (λ (y : Items). constraint_at (over (identifier (codes "ABSTRACT")) y)) (put_supertype_of x more) ∙ rw (expression_back x more is) refl
constraint_back (supertype_of x) more is n = ap constraint_at (put_supertype_of x more) ∙ rw (expression_back x more is) refl

pub constraint_fixed : (x y : SupertypeConstraint) (more rest : Items) → IsConstraint x → IsConstraint y → NoConstraint more → NoConstraint rest → put (constraint_lexemes x) more ≡ put (constraint_lexemes y) rest → (x ≡ y) × (more ≡ rest)
constraint_fixed x y more rest is_x is_y n m e = some_pair_is {X = SupertypeConstraint} x y more rest (sym (constraint_back x more is_x n) ∙ (ap constraint_at e ∙ constraint_back y rest is_y m))

abbrev supertypes_at : Items → Option (Option (List (List ℕ)) × Items)
supertypes_at items = choose (take_word (codes "SUBTYPE") items) (λ a. bind (take_word (codes "OF") a) (λ b. bind (names_of b) (λ n. Some (Some n.0, n.1)))) (Some (None, items))

supertypes_back : (names : Option (List (List ℕ))) (more : Items) → IfSome names AreNames → take_word (codes "SUBTYPE") more ≡ None → ◌≡◌ {A = Option (Option (List (List ℕ)) × Items)} (supertypes_at (put (subtype_lexemes names) more)) (Some (names, more))
unfolding take_word
supertypes_back None more is n = rw n refl
supertypes_back (Some names) more is n = rw (names_read names more is) refl

pub supertypes_fixed : (x y : Option (List (List ℕ))) (more rest : Items) → IfSome x AreNames → IfSome y AreNames → take_word (codes "SUBTYPE") more ≡ None → take_word (codes "SUBTYPE") rest ≡ None → put (subtype_lexemes x) more ≡ put (subtype_lexemes y) rest → (x ≡ y) × (more ≡ rest)
supertypes_fixed x y more rest is_x is_y n m e = some_pair_is {X = Option (List (List ℕ))} x y more rest (sym (supertypes_back x more is_x n) ∙ (ap supertypes_at e ∙ supertypes_back y rest is_y m))

-- ---- attributes

attribute_fixed : IsFixed attribute_lexemes IsAttributeName
attribute_fixed (own a) (own b) more rest is_x is_y e = let f = words_same a b more rest e in (ap own f.0, f.1)
attribute_fixed (own a) (redeclared c d) more rest is_x is_y e = absurd (not_word a (codes "SELF") (13, lit< tt, refl) is_x (words_same a (codes "SELF") more _ e).0)
attribute_fixed (redeclared a b) (own d) more rest is_x is_y e = absurd (not_word d (codes "SELF") (13, lit< tt, refl) is_y (sym (words_same (codes "SELF") d _ rest e).0))
attribute_fixed (redeclared a b) (redeclared c d) more rest is_x is_y e =
    let f = words_same a c _ _ (behind _ _ _ _ (behind _ _ _ _ e)) in
    let g = words_same b d more rest (behind _ _ _ _ f.1) in
    (ap (λ (v : List ℕ). redeclared v b) f.0 ∙ ap (λ (v : List ℕ). redeclared c v) g.0, g.1)

comma_fixed : IsFixed (comma attribute_lexemes) IsAttributeName
comma_fixed x y more rest is_x is_y e = attribute_fixed x y more rest is_x is_y (behind _ _ _ _ e)

abbrev begins_comma : Items → Bool
begins_comma items = found (take_symbol 44 items)

comma_begins : AllBegin (comma attribute_lexemes) IsAttributeName begins_comma
unfolding take_symbol
comma_begins x more is = refl

no_comma : (more : Items) → begins_comma (over (symbol 58) more) ≡ false
unfolding take_symbol
no_comma more = refl

abbrev pub begins_attribute : Items → Bool
begins_attribute items = choose (take_word (codes "SELF") items) (λ a. true) (found (take_name items))

attribute_begins : AllBegin attribute_lexemes IsAttributeName begins_attribute
unfolding take_word
attribute_begins (own name) more is = rw (name_apart name (codes "SELF") (13, lit< tt, refl) is) (rw (name_read name more is) refl)
attribute_begins (redeclared a b) more is = refl

abbrev optional_at : Items → Option (Bool × Items)
optional_at items = Some (flag_of (codes "OPTIONAL") items)

optional_back : (optional : Bool) (more : Items) → take_word (codes "OPTIONAL") more ≡ None → ◌≡◌ {A = Option (Bool × Items)} (optional_at (put (optional_word optional (codes "OPTIONAL")) more)) (Some (optional, more))
unfolding take_word
optional_back true more n = refl
optional_back false more n = rw n refl

optional_fixed : (x y : Bool) (more rest : Items) → take_word (codes "OPTIONAL") more ≡ None → take_word (codes "OPTIONAL") rest ≡ None → put (optional_word x (codes "OPTIONAL")) more ≡ put (optional_word y (codes "OPTIONAL")) rest → (x ≡ y) × (more ≡ rest)
optional_fixed x y more rest n m e = some_pair_is {X = Bool} x y more rest (sym (optional_back x more n) ∙ (ap optional_at e ∙ optional_back y rest m))

explicit_same : (a b : AttributeName) (others these : List AttributeName) (o p : Bool) (t u : WrittenType) → a ≡ b → others ≡ these → o ≡ p → t ≡ u → ◌≡◌ {A = ExplicitAttributes} (record { names = a ∷ others; optional = o; type = t }) (record { names = b ∷ these; optional = p; type = u })
explicit_same a b others these o p t u e f g h = rw (e, f, g, h) refl

explicit_by : (a b : AttributeName) (others these : List AttributeName) (o p : Bool) (t u : WrittenType) (more rest : Items) → AreExplicit (record { names = a ∷ others; optional = o; type = t }) → AreExplicit (record { names = b ∷ these; optional = p; type = u })
    → put (explicit_lexemes (record { names = a ∷ others; optional = o; type = t })) more ≡ put (explicit_lexemes (record { names = b ∷ these; optional = p; type = u })) rest
    → ◌≡◌ {A = ExplicitAttributes} (record { names = a ∷ others; optional = o; type = t }) (record { names = b ∷ these; optional = p; type = u }) × (more ≡ rest)
explicit_by a b others these o p t u more rest is_x is_y e =
    let ends = over (symbol 59) more in
    let stops = over (symbol 59) rest in
    let first = attribute_fixed a b _ _ is_x.1.0 is_y.1.0 (sym (put_explicit a others o t more) ∙ (e ∙ put_explicit b these p u rest)) in
    let listed = many_fixed (comma attribute_lexemes) IsAttributeName begins_comma comma_fixed comma_begins others these _ _ is_x.1.1 is_y.1.1 (no_comma _) (no_comma _) first.1 in
    let flag = optional_fixed o p _ _ (type_first t ends is_x.2).0 (type_first u stops is_y.2).0 (behind _ _ _ _ listed.1) in
    let type = one_type t u ends stops is_x.2 is_y.2 (semicolon_ends more) (semicolon_ends rest) flag.1 in
    (explicit_same a b others these o p t u first.0 listed.0 flag.0 type.0, behind _ _ _ _ type.1)

pub explicit_fixed : IsFixed explicit_lexemes AreExplicit
explicit_fixed x y more rest is_x is_y e = by x.names y.names is_x is_y e
  where
    by : (others these : List AttributeName) → AreExplicit (record { names = others; optional = x.optional; type = x.type }) → AreExplicit (record { names = these; optional = y.optional; type = y.type })
        → put (explicit_lexemes (record { names = others; optional = x.optional; type = x.type })) more ≡ put (explicit_lexemes (record { names = these; optional = y.optional; type = y.type })) rest
        → ◌≡◌ {A = ExplicitAttributes} (record { names = others; optional = x.optional; type = x.type }) (record { names = these; optional = y.optional; type = y.type }) × (more ≡ rest)
    by [] these h k e = absurd (let some = h.0 in omega arith)
    by (a ∷ others) [] h k e = absurd (let some = k.0 in omega arith)
    by (a ∷ others) (b ∷ these) h k e = explicit_by a b others these x.optional y.optional x.type y.type more rest h k e

pub explicit_begins : AllBegin explicit_lexemes AreExplicit begins_attribute
explicit_begins x more is = by x.names is
  where
    by : (names : List AttributeName) → AreExplicit (record { names = names; optional = x.optional; type = x.type }) → begins_attribute (put (explicit_lexemes (record { names = names; optional = x.optional; type = x.type })) more) ≡ true
    by [] h = absurd (let some = h.0 in omega arith)
    by (a ∷ others) h = ap begins_attribute (put_explicit a others x.optional x.type more) ∙ attribute_begins a _ h.1.0

derived_same : (a b : AttributeName) (run other : List Lexeme) → a ≡ b → run ≡ other → ◌≡◌ {A = DerivedAttribute} (record { name = a; run = run }) (record { name = b; run = other })
derived_same a b run other e f = rw (e, f) refl

pub derived_fixed : IsFixed derived_lexemes IsDerived
derived_fixed x y more rest is_x is_y e =
    let name = attribute_fixed x.name y.name _ _ is_x.0 is_y.0 (sym (put_derived x.name x.run more) ∙ (e ∙ put_derived y.name y.run rest)) in
    let run = run_fixed none (is_symbol 59) (nothing_apart (is_symbol 59)) (symbol 59) refl x.run y.run more rest is_x.1 is_y.1 (behind _ _ _ _ name.1) in
    (derived_same x.name y.name x.run y.run name.0 run.0, run.1)

pub derived_begins : AllBegin derived_lexemes IsDerived begins_attribute
derived_begins x more is = ap begins_attribute (put_derived x.name x.run more) ∙ attribute_begins x.name _ is.0
