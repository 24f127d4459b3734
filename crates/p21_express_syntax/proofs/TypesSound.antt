-- A type that was read is written so.
use Rattle.std.proofs.Common.{◌≡◌, ℕ, zero, suc, ◌<◌, ◌≤◌, Bool, true, false, nat_le, ◌&&◌, List, ◌∷◌, ◌++◌, codes, Option, Some, None, refl, ap, sym, ◌∙◌, arith}
use Rattle.std.proofs.lemmas.Bool.{and_parts}
use Rattle.p21_spec_basics.specs.Digits.{number}
use Rattle.p21_spec_schema.specs.Express.{Lexeme, identifier, digits, symbol}
use Rattle.p21_spec_schema.specs.DeclaredType.{DenotesUpperBound}
use Rattle.p21_spec_schema.specs.WrittenType.{UpperBound, bounded, unbounded, Bounds, WrittenType, integer_type, real_type, number_type, boolean_type, logical_type, string_type, binary_type, named_type, array_type, list_type, set_type, bag_type, word, optional_word, precision_lexemes, width_lexemes, upper_bound_lexemes, bounds_lexemes, type_lexemes, IsWrittenType, nesting}
use Rattle.p21_express_lexemes.specs.Taking.{Items, put, take_symbol, take_word, take_digits, take_name}
use Rattle.p21_express_lexemes.proofs.Put.{put-append}
use Rattle.p21_express_syntax.specs.Digest.{TypeDigest}
use Rattle.p21_express_syntax.specs.Digesting.{width_digest, high_digest, range_digest, array_high, type_digest, of}
use Rattle.p21_express_syntax.specs.DataTypes.{flag_of, low_of, top_of, high_of, range_of, array_of, most_of, width_of, precision_of, kind_of, aggregate_at, simple_of, element_of, under, type_by, type_of}
use Rattle.p21_express_syntax.specs.Within.{HasWidth, HasBounds, HasBothBounds, HasNumbers}
use Rattle.p21_express_syntax.specs.declared.types.Aggregate.{Aggregate}
use Rattle.p21_express_syntax.specs.declared.types.Aggregate.TheVariants as aggregate
use Rattle.p21_express_syntax.specs.declared.types.Kind.{Kind}
use Rattle.p21_express_syntax.specs.declared.types.Kind.TheVariants as kind
use Rattle.p21_express_syntax.specs.declared.types.Range.{Range}
use Rattle.p21_express_syntax.specs.declared.types.Width.{Width}
use Rattle.p21_express_syntax.proofs.Sounding.{OfSome, of_some, of_bind, of_choose, of_guard, some_of, symbol_taken, word_taken, digits_taken, name_taken, flag_is, le_of, Written}

abbrev pub over : Lexeme → Items → Items
over lexeme items = Some lexeme ∷ items

range_same : (a b : ℕ) (c d : Option ℕ) → a ≡ b → c ≡ d → ◌≡◌ {A = Range} (record { low = b; high = d }) (record { low = a; high = c })
range_same a b c d e f = rw (e, f) refl

width_same : (a b : ℕ) (fixed : Bool) → a ≡ b → ◌≡◌ {A = Option Width} (Some (record { most = b; fixed = fixed })) (Some (record { most = a; fixed = fixed }))
width_same a b fixed e = rw e refl

array_same : (a b c d : ℕ) (optional unique : Bool) → a ≡ b → c ≡ d → ◌≡◌ {A = Aggregate} (aggregate.Array b d optional unique) (aggregate.Array a c optional unique)
array_same a b c d optional unique e f = rw (e, f) refl

-- ---- bounds and widths

low_is : (items : Items) → OfSome (low_of items) (λ f. (ds : List ℕ) × (items ≡ over (digits ds) f.1) × (f.0 ≡ number ds) × (number ds ≤ 4294967295))
unfolding low_of
low_is items = of_bind (take_digits items) _ _ (λ d e. of_guard (nat_le (number d.0) 4294967295) _ _ (λ t. (d.0, digits_taken items d.0 d.1 e, refl, le_of _ _ t)))

top_is : (low : ℕ) (items : Items) → OfSome (top_of low items) (λ f. (ds : List ℕ) × (items ≡ over (digits ds) f.1) × (f.0 ≡ number ds) × (number ds ≤ 4294967295) × (low ≤ number ds))
unfolding top_of
top_is low items = of_bind (take_digits items) _ _ (λ d e. of_guard (nat_le (number d.0) 4294967295 && nat_le low (number d.0)) _ _ (λ t.
    let both = and_parts (nat_le (number d.0) 4294967295) (nat_le low (number d.0)) t in
    (d.0, digits_taken items d.0 d.1 e, refl, le_of _ _ both.0, le_of _ _ both.1)))

high_is : (low : ℕ) (items : Items) → OfSome (high_of low items) (λ f. (high : UpperBound) × (items ≡ put (upper_bound_lexemes high) f.1) × (f.0 ≡ high_digest high) × DenotesUpperBound low high f.0)
unfolding high_of
high_is low items = of_choose (take_symbol 63 items) _ _ _
    (λ r e. (unbounded, symbol_taken 63 items r e, refl, refl))
    (λ n. of_bind (top_of low items) _ _ (λ t e.
    let h = of_some (top_of low items) _ (top_is low items) t e in
    (bounded h.0, h.1, ap Some h.2, (ap Some h.2, h.4, h.3))))

pub put_bounds : (low : List ℕ) (high : UpperBound) (more : Items) → put (bounds_lexemes (Some (record { low = low; high = high }))) more ≡ over (symbol 91) (over (digits low) (over (symbol 58) (put (upper_bound_lexemes high) (over (symbol 93) more))))
put_bounds low unbounded more = refl
put_bounds low (bounded high) more = refl

bounded_is : (items a b c d rest : Items) (low : List ℕ) (high : UpperBound) → items ≡ over (symbol 91) a → a ≡ over (digits low) b → b ≡ over (symbol 58) c → c ≡ put (upper_bound_lexemes high) d → d ≡ over (symbol 93) rest
    → items ≡ put (bounds_lexemes (Some (record { low = low; high = high }))) rest
bounded_is items a b c d rest low high e f g h i = rw (e, f, g, h, i) (sym (put_bounds low high rest))

pub range_is : (items : Items) → OfSome (range_of items) (λ f. Written bounds_lexemes HasBounds range_digest f.0 items f.1)
unfolding range_of
range_is items = of_choose (take_symbol 91 items) _ _ _
    (λ a ea. of_bind (low_of a) _ _ (λ low el. of_bind (take_symbol 58 low.1) _ _ (λ b eb. of_bind (high_of low.0 b) _ _ (λ high eh. of_bind (take_symbol 93 high.1) _ _ (λ rest er.
    let l = of_some (low_of a) _ (low_is a) low el in
    let h = of_some (high_of low.0 b) _ (high_is low.0 b) high eh in
    record {
      tree = Some (record { low = l.0; high = h.0 });
      stands = bounded_is items a low.1 b high.1 rest l.0 h.0 (symbol_taken 91 items a ea) l.1 (symbol_taken 58 low.1 b eb) h.1 (symbol_taken 93 high.1 rest er);
      is_one = (low.0, high.0, (l.2, (rw l.2 l.3), h.3));
      same = range_same low.0 (number l.0) high.0 (high_digest h.0) l.2 h.2;
    })))))
    (λ n. record { tree = None; stands = refl; is_one = (0, None, (refl, refl)); same = refl })

most_is : (items : Items) → OfSome (most_of items) (λ f. (ds : List ℕ) × (items ≡ over (digits ds) f.1) × (f.0 ≡ number ds) × (number ds ≤ 4294967295) × (0 < number ds))
unfolding most_of
most_is items = of_bind (take_digits items) _ _ (λ d e. of_guard (nat_le (number d.0) 4294967295 && nat_le 1 (number d.0)) _ _ (λ t.
    let both = and_parts (nat_le (number d.0) 4294967295) (nat_le 1 (number d.0)) t in
    let some = le_of 1 (number d.0) both.1 in
    (d.0, digits_taken items d.0 d.1 e, refl, le_of _ _ both.0, omega arith)))

pub put_width : (most : List ℕ) (fixed : Bool) (more : Items) → put (width_lexemes (Some (record { most = most; fixed = fixed }))) more ≡ over (symbol 40) (over (digits most) (over (symbol 41) (put (optional_word fixed (codes "FIXED")) more)))
put_width most true more = refl
put_width most false more = refl

wide_is : (items a b c rest : Items) (most : List ℕ) (fixed : Bool) → items ≡ over (symbol 40) a → a ≡ over (digits most) b → b ≡ over (symbol 41) c → c ≡ put (optional_word fixed (codes "FIXED")) rest → items ≡ put (width_lexemes (Some (record { most = most; fixed = fixed }))) rest
wide_is items a b c rest most fixed e f g h = rw (e, f, g, h) (sym (put_width most fixed rest))

pub width_is : (items : Items) → OfSome (width_of items) (λ f. Written width_lexemes HasWidth width_digest f.0 items f.1)
unfolding width_of
width_is items = of_choose (take_symbol 40 items) _ _ _
    (λ a ea. of_bind (most_of a) _ _ (λ n en. of_bind (take_symbol 41 n.1) _ _ (λ b eb.
    let m = of_some (most_of a) _ (most_is a) n en in
    let flag = flag_of (codes "FIXED") b in
    record {
      tree = Some (record { most = m.0; fixed = flag.0 });
      stands = wide_is items a n.1 b flag.1 m.0 flag.0 (symbol_taken 40 items a ea) m.1 (symbol_taken 41 n.1 b eb) (flag_is (codes "FIXED") b);
      is_one = (Some (record { most = number m.0; fixed = flag.0 }), (refl, m.4, m.3));
      same = width_same n.0 (number m.0) flag.0 m.2;
    })))
    (λ n. record { tree = None; stands = refl; is_one = (None, refl); same = refl })

pub precision_is : (items : Items) → OfSome (precision_of items) (λ r. (precision : Option (List ℕ)) × (items ≡ put (precision_lexemes precision) r))
unfolding precision_of
precision_is items = of_choose (take_symbol 40 items) _ _ _
    (λ a ea. of_bind (take_digits a) _ _ (λ n en. some_of (take_symbol 41 n.1) _ (λ rest er.
    (Some n.0, symbol_taken 40 items a ea ∙ ap (over (symbol 40)) (digits_taken a n.0 n.1 en ∙ ap (over (digits n.0)) (symbol_taken 41 n.1 rest er))))))
    (λ n. (None, refl))

-- ---- aggregates

-- an aggregate without the type of its elements
pub data Layer : Type 0 where
  array_layer : Bounds → Bool → Bool → Layer
  list_layer : Option Bounds → Bool → Layer
  set_layer : Option Bounds → Layer
  bag_layer : Option Bounds → Layer

abbrev pub built : Layer → WrittenType → WrittenType
built (array_layer bounds optional unique) element = array_type bounds optional unique element
built (list_layer bounds unique) element = list_type bounds unique element
built (set_layer bounds) element = set_type bounds element
built (bag_layer bounds) element = bag_type bounds element

abbrev pub layer_lexemes : Layer → List Lexeme
layer_lexemes (array_layer bounds optional unique) = word (codes "ARRAY") ++ bounds_lexemes (Some bounds) ++ word (codes "OF") ++ optional_word optional (codes "OPTIONAL") ++ optional_word unique (codes "UNIQUE")
layer_lexemes (list_layer bounds unique) = word (codes "LIST") ++ bounds_lexemes bounds ++ word (codes "OF") ++ optional_word unique (codes "UNIQUE")
layer_lexemes (set_layer bounds) = word (codes "SET") ++ bounds_lexemes bounds ++ word (codes "OF")
layer_lexemes (bag_layer bounds) = word (codes "BAG") ++ bounds_lexemes bounds ++ word (codes "OF")

abbrev pub IsLayer : Layer → Type 0
IsLayer (array_layer bounds optional unique) = HasBothBounds bounds
IsLayer (list_layer bounds unique) = HasBounds bounds
IsLayer (set_layer bounds) = HasBounds bounds
IsLayer (bag_layer bounds) = HasBounds bounds

abbrev pub layer_digest : Layer → Aggregate
layer_digest (array_layer bounds optional unique) = aggregate.Array (number bounds.low) (array_high bounds.high) optional unique
layer_digest (list_layer bounds unique) = aggregate.List (range_digest bounds) unique
layer_digest (set_layer bounds) = aggregate.Set (range_digest bounds)
layer_digest (bag_layer bounds) = aggregate.Bag (range_digest bounds)

abbrev pub kind_word : Kind → List ℕ
kind_word kind.Array = codes "ARRAY"
kind_word kind.List = codes "LIST"
kind_word kind.Set = codes "SET"
kind_word kind.Bag = codes "BAG"

abbrev pub LayerWritten : Aggregate → Items → Items → Type 0
LayerWritten first items rest = Written layer_lexemes IsLayer layer_digest first items rest

pub three : (a b c : List Lexeme) (more : Items) → put (a ++ b ++ c) more ≡ put a (put b (put c more))
three a b c more = put-append (a ++ b) c more ∙ put-append a b (put c more)

pub four : (a b c d : List Lexeme) (more : Items) → put (a ++ b ++ c ++ d) more ≡ put a (put b (put c (put d more)))
four a b c d more = put-append (a ++ b ++ c) d more ∙ three a b c (put d more)

pub five : (a b c d e : List Lexeme) (more : Items) → put (a ++ b ++ c ++ d ++ e) more ≡ put a (put b (put c (put d (put e more))))
five a b c d e more = put-append (a ++ b ++ c ++ d) e more ∙ four a b c d (put e more)

array_is : (items : Items) → OfSome (array_of items) (λ f. LayerWritten f.0 (over (identifier (codes "ARRAY")) items) f.1)
unfolding array_of
array_is items = of_bind (take_symbol 91 items) _ _ (λ a ea. of_bind (low_of a) _ _ (λ low el. of_bind (take_symbol 58 low.1) _ _ (λ b eb. of_bind (top_of low.0 b) _ _ (λ high eh. of_bind (take_symbol 93 high.1) _ _ (λ c ec. of_bind (take_word (codes "OF") c) _ _ (λ d ed.
    let l = of_some (low_of a) _ (low_is a) low el in
    let h = of_some (top_of low.0 b) _ (top_is low.0 b) high eh in
    let optional = flag_of (codes "OPTIONAL") d in
    let unique = flag_of (codes "UNIQUE") optional.1 in
    record {
      tree = array_layer (record { low = l.0; high = bounded h.0 }) optional.0 unique.0;
      stands = ap (over (identifier (codes "ARRAY"))) (bounded_is items a low.1 b high.1 c l.0 (bounded h.0) (symbol_taken 91 items a ea) l.1 (symbol_taken 58 low.1 b eb) h.1 (symbol_taken 93 high.1 c ec)
          ∙ ap (put (bounds_lexemes (Some (record { low = l.0; high = bounded h.0 })))) (word_taken (codes "OF") c d ed
          ∙ ap (over (identifier (codes "OF"))) (flag_is (codes "OPTIONAL") d ∙ ap (put (optional_word optional.0 (codes "OPTIONAL"))) (flag_is (codes "UNIQUE") optional.1))))
          ∙ sym (five (word (codes "ARRAY")) (bounds_lexemes (Some (record { low = l.0; high = bounded h.0 }))) (word (codes "OF")) (optional_word optional.0 (codes "OPTIONAL")) (optional_word unique.0 (codes "UNIQUE")) unique.1);
      is_one = (low.0, high.0, (l.2, (rw l.2 l.3), (ap Some h.2, h.4, h.3)));
      same = array_same low.0 (number l.0) high.0 (number h.0) optional.0 unique.0 l.2 h.2;
    }))))))

layer_is : (k : Kind) (items : Items) → OfSome (aggregate_at k items) (λ f. LayerWritten f.0 (over (identifier (kind_word k)) items) f.1)
unfolding aggregate_at
layer_is kind.Array items = array_is items
layer_is kind.List items = of_bind (range_of items) _ _ (λ r er. of_bind (take_word (codes "OF") r.1) _ _ (λ a ea.
    let w = of_some (range_of items) _ (range_is items) r er in
    let unique = flag_of (codes "UNIQUE") a in
    record {
      tree = list_layer w.tree unique.0;
      stands = ap (over (identifier (codes "LIST"))) (w.stands ∙ ap (put (bounds_lexemes w.tree)) (word_taken (codes "OF") r.1 a ea ∙ ap (over (identifier (codes "OF"))) (flag_is (codes "UNIQUE") a)))
          ∙ sym (four (word (codes "LIST")) (bounds_lexemes w.tree) (word (codes "OF")) (optional_word unique.0 (codes "UNIQUE")) unique.1);
      is_one = w.is_one;
      same = rw w.same refl;
    }))
layer_is kind.Set items = of_bind (range_of items) _ _ (λ r er. of_bind (take_word (codes "OF") r.1) _ _ (λ a ea.
    let w = of_some (range_of items) _ (range_is items) r er in
    record {
      tree = set_layer w.tree;
      stands = ap (over (identifier (codes "SET"))) (w.stands ∙ ap (put (bounds_lexemes w.tree)) (word_taken (codes "OF") r.1 a ea)) ∙ sym (three (word (codes "SET")) (bounds_lexemes w.tree) (word (codes "OF")) a);
      is_one = w.is_one;
      same = rw w.same refl;
    }))
layer_is kind.Bag items = of_bind (range_of items) _ _ (λ r er. of_bind (take_word (codes "OF") r.1) _ _ (λ a ea.
    let w = of_some (range_of items) _ (range_is items) r er in
    record {
      tree = bag_layer w.tree;
      stands = ap (over (identifier (codes "BAG"))) (w.stands ∙ ap (put (bounds_lexemes w.tree)) (word_taken (codes "OF") r.1 a ea)) ∙ sym (three (word (codes "BAG")) (bounds_lexemes w.tree) (word (codes "OF")) a);
      is_one = w.is_one;
      same = rw w.same refl;
    }))

kind_is : (items : Items) → OfSome (kind_of items) (λ f. items ≡ over (identifier (kind_word f.0)) f.1)
unfolding kind_of
kind_is items = of_choose (take_word (codes "LIST") items) _ _ _ (λ r e. word_taken (codes "LIST") items r e) (λ n1. of_choose (take_word (codes "SET") items) _ _ _ (λ r e. word_taken (codes "SET") items r e)
    (λ n2. of_choose (take_word (codes "ARRAY") items) _ _ _ (λ r e. word_taken (codes "ARRAY") items r e) (λ n3. of_choose (take_word (codes "BAG") items) _ _ _ (λ r e. word_taken (codes "BAG") items r e) (λ n4. tt))))

-- ---- types

-- within so many aggregates
abbrev pub IsTypeIn : ℕ → WrittenType → Type 0
IsTypeIn n t = IsWrittenType t × HasNumbers t × (nesting t ≤ n)

abbrev pub TypeWritten : ℕ → TypeDigest → Items → Items → Type 0
TypeWritten n value items rest = Written type_lexemes (IsTypeIn n) type_digest value items rest

element_is : (n : ℕ) (items : Items) → OfSome (element_of items) (λ f. TypeWritten n f.0 items f.1)
unfolding simple_of
element_is n items = of_bind (simple_of items) _ _ (λ s es. of_some (simple_of items) (λ f. TypeWritten n (of f.0) items f.1)
    (of_choose (take_word (codes "REAL") items) _ _ _ (λ r e. of_bind (precision_of r) _ _ (λ p ep.
    let w = of_some (precision_of r) _ (precision_is r) p ep in
    record { tree = real_type w.0; stands = word_taken (codes "REAL") items r e ∙ ap (over (identifier (codes "REAL"))) w.1; is_one = (tt, tt, omega arith); same = refl }))
    (λ n0. of_choose (take_word (codes "INTEGER") items) _ _ _ (λ r e. record { tree = integer_type; stands = word_taken (codes "INTEGER") items r e; is_one = (tt, tt, omega arith); same = refl })
    (λ n1. of_choose (take_word (codes "NUMBER") items) _ _ _ (λ r e. record { tree = number_type; stands = word_taken (codes "NUMBER") items r e; is_one = (tt, tt, omega arith); same = refl })
    (λ n2. of_choose (take_word (codes "BOOLEAN") items) _ _ _ (λ r e. record { tree = boolean_type; stands = word_taken (codes "BOOLEAN") items r e; is_one = (tt, tt, omega arith); same = refl })
    (λ n3. of_choose (take_word (codes "LOGICAL") items) _ _ _ (λ r e. record { tree = logical_type; stands = word_taken (codes "LOGICAL") items r e; is_one = (tt, tt, omega arith); same = refl })
    (λ n4. of_choose (take_word (codes "STRING") items) _ _ _ (λ r e. of_bind (width_of r) _ _ (λ p ep.
    let w = of_some (width_of r) _ (width_is r) p ep in
    record { tree = string_type w.tree; stands = word_taken (codes "STRING") items r e ∙ ap (over (identifier (codes "STRING"))) w.stands; is_one = (tt, w.is_one, omega arith); same = rw w.same refl }))
    (λ n5. of_choose (take_word (codes "BINARY") items) _ _ _ (λ r e. of_bind (width_of r) _ _ (λ p ep.
    let w = of_some (width_of r) _ (width_is r) p ep in
    record { tree = binary_type w.tree; stands = word_taken (codes "BINARY") items r e ∙ ap (over (identifier (codes "BINARY"))) w.stands; is_one = (tt, w.is_one, omega arith); same = rw w.same refl }))
    (λ n6. of_bind (take_name items) _ _ (λ p ep.
    let w = name_taken items p.0 p.1 ep in
    record { tree = named_type p.0; stands = w.0; is_one = (w.1, tt, omega arith); same = refl })))))))))
    s es)

of_layer : (n : ℕ) (layer : Layer) (element : WrittenType) (first : Aggregate) (inner : TypeDigest) (items left rest : Items) → items ≡ put (layer_lexemes layer) left → IsLayer layer → layer_digest layer ≡ first → left ≡ put (type_lexemes element) rest → IsTypeIn n element → type_digest element ≡ inner
    → TypeWritten (suc n) (record { aggregates = first ∷ inner.aggregates; element = inner.element }) items rest
of_layer n (array_layer bounds optional unique) element first inner items left rest e l k f i m = record {
  tree = array_type bounds optional unique element;
  stands = e ∙ (ap (put (layer_lexemes (array_layer bounds optional unique))) f ∙ sym (put-append (layer_lexemes (array_layer bounds optional unique)) (type_lexemes element) rest));
  is_one = (i.0, (l, i.1), let d = i.2 in omega arith);
  same = rw (k, m) refl;
}
of_layer n (list_layer bounds unique) element first inner items left rest e l k f i m = record {
  tree = list_type bounds unique element;
  stands = e ∙ (ap (put (layer_lexemes (list_layer bounds unique))) f ∙ sym (put-append (layer_lexemes (list_layer bounds unique)) (type_lexemes element) rest));
  is_one = (i.0, (l, i.1), let d = i.2 in omega arith);
  same = rw (k, m) refl;
}
of_layer n (set_layer bounds) element first inner items left rest e l k f i m = record {
  tree = set_type bounds element;
  stands = e ∙ (ap (put (layer_lexemes (set_layer bounds))) f ∙ sym (put-append (layer_lexemes (set_layer bounds)) (type_lexemes element) rest));
  is_one = (i.0, (l, i.1), let d = i.2 in omega arith);
  same = rw (k, m) refl;
}
of_layer n (bag_layer bounds) element first inner items left rest e l k f i m = record {
  tree = bag_type bounds element;
  stands = e ∙ (ap (put (layer_lexemes (bag_layer bounds))) f ∙ sym (put-append (layer_lexemes (bag_layer bounds)) (type_lexemes element) rest));
  is_one = (i.0, (l, i.1), let d = i.2 in omega arith);
  same = rw (k, m) refl;
}

under_is : (n : ℕ) (first : Aggregate) (items left : Items) → LayerWritten first items left → (o : Option (TypeDigest × Items)) → OfSome o (λ f. TypeWritten n f.0 left f.1) → OfSome (under first o) (λ f. TypeWritten (suc n) f.0 items f.1)
under_is n first items left w None h = tt
under_is n first items left w (Some (inner, rest)) h = of_layer n w.tree h.tree first inner items left rest w.stands w.is_one w.same h.stands h.is_one h.same

by_is : (n : ℕ) (items : Items) (o : Option (Kind × Items)) → kind_of items ≡ o → (go : Kind → Items → Option (TypeDigest × Items)) → ((k : Kind) (r : Items) → kind_of items ≡ Some (k, r) → OfSome (go k r) (λ f. TypeWritten n f.0 items f.1)) → OfSome (type_by o (element_of items) go) (λ f. TypeWritten n f.0 items f.1)
by_is n items None o go h = element_is n items
by_is n items (Some (k, r)) o go h = h k r o

pub type_is : (n : ℕ) (items : Items) → OfSome (type_of n items) (λ f. TypeWritten n f.0 items f.1)
unfolding type_of
type_is zero items = by_is 0 items (kind_of items) refl _ (λ k r e. tt)
type_is (suc n) items = by_is (suc n) items (kind_of items) refl _ (λ k r e. of_bind (aggregate_at k r) _ _ (λ a ea.
    let w = of_some (aggregate_at k r) _ (layer_is k r) a ea in
    let s = of_some (kind_of items) _ (kind_is items) (k, r) e in
    under_is n a.0 items a.1 (record { tree = w.tree; stands = s ∙ w.stands; is_one = w.is_one; same = w.same }) (type_of n a.1) (type_is n a.1)))
