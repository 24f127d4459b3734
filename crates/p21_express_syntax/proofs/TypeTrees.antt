-- The tree of a type is fixed by its lexemes: a reader of them, of which nobody must believe anything, reads back the type.
use Rattle.std.proofs.Common.{◌≡◌, ℕ, zero, suc, ◌+◌, ◌<◌, Bool, true, false, List, ◌++◌, codes, Option, Some, None, refl, ap, sym, ◌∙◌, lit<, arith}
use Rattle.p21_spec_schema.specs.Express.{identifier, digits, symbol}
use Rattle.p21_spec_schema.specs.ReservedWord.{IsName}
use Rattle.p21_spec_schema.specs.WrittenType.{Width, UpperBound, bounded, unbounded, Bounds, WrittenType, integer_type, real_type, number_type, boolean_type, logical_type, string_type, binary_type, named_type, array_type, list_type, set_type, bag_type, word, optional_word, precision_lexemes, width_lexemes, upper_bound_lexemes, bounds_lexemes, type_lexemes, IsWrittenType, nesting}
use Rattle.p21_express_lexemes.specs.Taking.{Items, put, take_symbol, take_word, take_digits, take_name}
use Rattle.p21_express_lexemes.proofs.Put.{put-append}
use Rattle.p21_express_syntax.specs.DataTypes.{bind, choose, flag_of, kind_of}
use Rattle.p21_express_syntax.specs.declared.types.Kind.{Kind}
use Rattle.p21_express_syntax.specs.declared.types.Kind.TheVariants as kind
use Rattle.p21_express_syntax.proofs.Sounding.{name_read, name_apart}
use Rattle.p21_express_syntax.proofs.TypesSound.{over, kind_word, three, four, five, put_bounds, put_width}
use Rattle.p21_express_syntax.proofs.TypesRead.{Ends, type_first, no_bracket}
use Rattle.p21_spec_basics.proofs.Members.{some_pair_is}

-- ---- bounds and widths

abbrev upper_bound_at : Items → Option (UpperBound × Items)
upper_bound_at items = choose (take_symbol 63 items) (λ rest. Some (unbounded, rest)) (bind (take_digits items) (λ d. Some (bounded d.0, d.1)))

abbrev bounds_at : Items → Option (Option Bounds × Items)
bounds_at items =
    choose (take_symbol 91 items) (λ a. bind (take_digits a) (λ low. bind (take_symbol 58 low.1) (λ b. bind (upper_bound_at b) (λ high. bind (take_symbol 93 high.1) (λ rest. Some (Some (record { low = low.0; high = high.0 }), rest)))))) (Some (None, items))

bounds_by : (low : List ℕ) (high : UpperBound) (more : Items)
    → ◌≡◌ {A = Option (Option Bounds × Items)} (bounds_at (over (symbol 91) (over (digits low) (over (symbol 58) (put (upper_bound_lexemes high) (over (symbol 93) more)))))) (Some (Some (record { low = low; high = high }), more))
unfolding take_symbol take_digits
bounds_by low unbounded more = refl
bounds_by low (bounded high) more = refl

bounds_back : (bounds : Option Bounds) (more : Items) → take_symbol 91 more ≡ None → ◌≡◌ {A = Option (Option Bounds × Items)} (bounds_at (put (bounds_lexemes bounds) more)) (Some (bounds, more))
bounds_back None more n = rw n refl
bounds_back (Some b) more n = ap bounds_at (put_bounds b.low b.high more) ∙ bounds_by b.low b.high more

abbrev fixed_at : List ℕ → Bool × Items → Option (Option Width × Items)
fixed_at most flag = Some (Some (record { most = most; fixed = flag.0 }), flag.1)

abbrev width_at : Items → Option (Option Width × Items)
width_at items = choose (take_symbol 40 items) (λ a. bind (take_digits a) (λ n. bind (take_symbol 41 n.1) (λ b. fixed_at n.0 (flag_of (codes "FIXED") b)))) (Some (None, items))

width_by : (most : List ℕ) (fixed : Bool) (more : Items) → take_word (codes "FIXED") more ≡ None
    → ◌≡◌ {A = Option (Option Width × Items)} (width_at (over (symbol 40) (over (digits most) (over (symbol 41) (put (optional_word fixed (codes "FIXED")) more))))) (Some (Some (record { most = most; fixed = fixed }), more))
unfolding take_symbol take_digits take_word
width_by most true more n = refl
width_by most false more n = rw n refl

width_back : (width : Option Width) (more : Items) → Ends more → ◌≡◌ {A = Option (Option Width × Items)} (width_at (put (width_lexemes width) more)) (Some (width, more))
width_back None more ends = rw ends.no_width refl
width_back (Some w) more ends = ap width_at (put_width w.most w.fixed more) ∙ width_by w.most w.fixed more ends.no_fixed

abbrev precision_at : Items → Option (Option (List ℕ) × Items)
precision_at items = choose (take_symbol 40 items) (λ a. bind (take_digits a) (λ n. bind (take_symbol 41 n.1) (λ rest. Some (Some n.0, rest)))) (Some (None, items))

precision_back : (precision : Option (List ℕ)) (more : Items) → Ends more → ◌≡◌ {A = Option (Option (List ℕ) × Items)} (precision_at (put (precision_lexemes precision) more)) (Some (precision, more))
unfolding take_symbol take_digits
precision_back None more ends = rw ends.no_width refl
precision_back (Some ds) more ends = refl

-- ---- types that are no aggregates

abbrev simple_at : Items → Option (WrittenType × Items)
simple_at items =
    choose (take_word (codes "REAL") items) (λ r. bind (precision_at r) (λ p. Some (real_type p.0, p.1)))
    (choose (take_word (codes "INTEGER") items) (λ r. Some (integer_type, r)) (choose (take_word (codes "NUMBER") items) (λ r. Some (number_type, r))
    (choose (take_word (codes "BOOLEAN") items) (λ r. Some (boolean_type, r)) (choose (take_word (codes "LOGICAL") items) (λ r. Some (logical_type, r))
    (choose (take_word (codes "STRING") items) (λ r. bind (width_at r) (λ w. Some (string_type w.0, w.1)))
    (choose (take_word (codes "BINARY") items) (λ r. bind (width_at r) (λ w. Some (binary_type w.0, w.1)))
    (bind (take_name items) (λ n. Some (named_type n.0, n.1)))))))))

-- ---- aggregates, whose elements another function reads

abbrev array_at : (Items → Option (WrittenType × Items)) → Option Bounds → Bool × Items → Option (WrittenType × Items)
array_at element None flag = None
array_at element (Some bounds) flag = let unique = flag_of (codes "UNIQUE") flag.1 in bind (element unique.1) (λ t. Some (array_type bounds flag.0 unique.0 t.0, t.1))

abbrev list_at : (Items → Option (WrittenType × Items)) → Option Bounds → Bool × Items → Option (WrittenType × Items)
list_at element bounds flag = bind (element flag.1) (λ t. Some (list_type bounds flag.0 t.0, t.1))

abbrev layer_at : Kind → (Items → Option (WrittenType × Items)) → Items → Option (WrittenType × Items)
layer_at kind.Array element items = bind (bounds_at items) (λ b. bind (take_word (codes "OF") b.1) (λ rest. array_at element b.0 (flag_of (codes "OPTIONAL") rest)))
layer_at kind.List element items = bind (bounds_at items) (λ b. bind (take_word (codes "OF") b.1) (λ rest. list_at element b.0 (flag_of (codes "UNIQUE") rest)))
layer_at kind.Set element items = bind (bounds_at items) (λ b. bind (take_word (codes "OF") b.1) (λ rest. bind (element rest) (λ t. Some (set_type b.0 t.0, t.1))))
layer_at kind.Bag element items = bind (bounds_at items) (λ b. bind (take_word (codes "OF") b.1) (λ rest. bind (element rest) (λ t. Some (bag_type b.0 t.0, t.1))))

abbrev by_kind : Option (Kind × Items) → (Items → Option (WrittenType × Items)) → Items → Option (WrittenType × Items)
by_kind None element items = simple_at items
by_kind (Some found) element items = layer_at found.0 element found.1

-- fewer aggregates than that
unfoldable pub type_at : ℕ → Items → Option (WrittenType × Items)
type_at zero items = None
type_at (suc n) items = by_kind (kind_of items) (type_at n) items

-- what stands behind an aggregate is read back
abbrev ReadBack : (Items → Option (WrittenType × Items)) → WrittenType → Items → Type 0
ReadBack reader t more = ◌≡◌ {A = Option (WrittenType × Items)} (reader (put (type_lexemes t) more)) (Some (t, more))

array_by : (element : Items → Option (WrittenType × Items)) (items : Items) (bounds : Bounds) (optional unique : Bool) (t : WrittenType) (more : Items) → ReadBack element t more
    → take_word (codes "OPTIONAL") (put (type_lexemes t) more) ≡ None → take_word (codes "UNIQUE") (put (type_lexemes t) more) ≡ None
    → ◌≡◌ {A = Option (Option Bounds × Items)} (bounds_at items) (Some (Some bounds, over (identifier (codes "OF")) (put (optional_word optional (codes "OPTIONAL")) (put (optional_word unique (codes "UNIQUE")) (put (type_lexemes t) more)))))
    → ◌≡◌ {A = Option (WrittenType × Items)} (layer_at kind.Array element items) (Some (array_type bounds optional unique t, more))
unfolding take_word
array_by element items bounds true true t more back n m e = rw e (rw back refl)
array_by element items bounds true false t more back n m e = rw e (rw m (rw back refl))
array_by element items bounds false true t more back n m e = rw e (rw back refl)
array_by element items bounds false false t more back n m e = rw e (rw n (rw m (rw back refl)))

list_by : (element : Items → Option (WrittenType × Items)) (items : Items) (bounds : Option Bounds) (unique : Bool) (t : WrittenType) (more : Items) → ReadBack element t more → take_word (codes "UNIQUE") (put (type_lexemes t) more) ≡ None
    → ◌≡◌ {A = Option (Option Bounds × Items)} (bounds_at items) (Some (bounds, over (identifier (codes "OF")) (put (optional_word unique (codes "UNIQUE")) (put (type_lexemes t) more))))
    → ◌≡◌ {A = Option (WrittenType × Items)} (layer_at kind.List element items) (Some (list_type bounds unique t, more))
unfolding take_word
list_by element items bounds true t more back m e = rw e (rw back refl)
list_by element items bounds false t more back m e = rw e (rw m (rw back refl))

set_by : (element : Items → Option (WrittenType × Items)) (items : Items) (bounds : Option Bounds) (t : WrittenType) (more : Items) → ReadBack element t more
    → ◌≡◌ {A = Option (Option Bounds × Items)} (bounds_at items) (Some (bounds, over (identifier (codes "OF")) (put (type_lexemes t) more)))
    → ◌≡◌ {A = Option (WrittenType × Items)} (layer_at kind.Set element items) (Some (set_type bounds t, more))
unfolding take_word
set_by element items bounds t more back e = rw e (rw back refl)

bag_by : (element : Items → Option (WrittenType × Items)) (items : Items) (bounds : Option Bounds) (t : WrittenType) (more : Items) → ReadBack element t more
    → ◌≡◌ {A = Option (Option Bounds × Items)} (bounds_at items) (Some (bounds, over (identifier (codes "OF")) (put (type_lexemes t) more)))
    → ◌≡◌ {A = Option (WrittenType × Items)} (layer_at kind.Bag element items) (Some (bag_type bounds t, more))
unfolding take_word
bag_by element items bounds t more back e = rw e (rw back refl)

-- ---- each type is read back

at_layer : (n : ℕ) (k : Kind) (behind : Items) → type_at (suc n) (over (identifier (kind_word k)) behind) ≡ layer_at k (type_at n) behind
unfolding type_at kind_of take_word
at_layer n kind.Array behind = refl
at_layer n kind.List behind = refl
at_layer n kind.Set behind = refl
at_layer n kind.Bag behind = refl

at_real : (n : ℕ) (precision : Option (List ℕ)) (more : Items) → Ends more → ReadBack (type_at (suc n)) (real_type precision) more
unfolding type_at kind_of take_word
at_real n precision more ends = rw (precision_back precision more ends) refl

at_string : (n : ℕ) (width : Option Width) (more : Items) → Ends more → ReadBack (type_at (suc n)) (string_type width) more
unfolding type_at kind_of take_word
at_string n width more ends = rw (width_back width more ends) refl

at_binary : (n : ℕ) (width : Option Width) (more : Items) → Ends more → ReadBack (type_at (suc n)) (binary_type width) more
unfolding type_at kind_of take_word
at_binary n width more ends = rw (width_back width more ends) refl

at_word : (n : ℕ) (more : Items) → ReadBack (type_at (suc n)) integer_type more × ReadBack (type_at (suc n)) number_type more × ReadBack (type_at (suc n)) boolean_type more × ReadBack (type_at (suc n)) logical_type more
unfolding type_at kind_of take_word
at_word n more = (refl, refl, refl, refl)

at_name : (n : ℕ) (name : List ℕ) (more : Items) → IsName name → ReadBack (type_at (suc n)) (named_type name) more
unfolding type_at kind_of take_word
at_name n name more is =
    rw (name_apart name (codes "LIST") (27, lit< tt, refl) is) (rw (name_apart name (codes "SET") (28, lit< tt, refl) is) (rw (name_apart name (codes "ARRAY") (26, lit< tt, refl) is) (rw (name_apart name (codes "BAG") (29, lit< tt, refl) is)
    (rw (name_apart name (codes "REAL") (19, lit< tt, refl) is) (rw (name_apart name (codes "INTEGER") (18, lit< tt, refl) is) (rw (name_apart name (codes "NUMBER") (20, lit< tt, refl) is)
    (rw (name_apart name (codes "BOOLEAN") (21, lit< tt, refl) is) (rw (name_apart name (codes "LOGICAL") (22, lit< tt, refl) is) (rw (name_apart name (codes "STRING") (23, lit< tt, refl) is)
    (rw (name_apart name (codes "BINARY") (24, lit< tt, refl) is) (rw (name_read name more is) refl)))))))))))

at_array : (n : ℕ) (bounds : Bounds) (optional unique : Bool) (t : WrittenType) (more : Items) → IsWrittenType t → ReadBack (type_at n) t more → ReadBack (type_at (suc n)) (array_type bounds optional unique t) more
at_array n bounds optional unique t more is back =
    let inner : Items = put (type_lexemes t) more in
    let behind : Items = put (word (codes "OF")) (put (optional_word optional (codes "OPTIONAL")) (put (optional_word unique (codes "UNIQUE")) inner)) in
    let first = type_first t more is in
    ap (type_at (suc n)) (put-append (word (codes "ARRAY") ++ bounds_lexemes (Some bounds) ++ word (codes "OF") ++ optional_word optional (codes "OPTIONAL") ++ optional_word unique (codes "UNIQUE")) (type_lexemes t) more
    ∙ five (word (codes "ARRAY")) (bounds_lexemes (Some bounds)) (word (codes "OF")) (optional_word optional (codes "OPTIONAL")) (optional_word unique (codes "UNIQUE")) inner)
    ∙ (at_layer n kind.Array (put (bounds_lexemes (Some bounds)) behind) ∙ array_by (type_at n) (put (bounds_lexemes (Some bounds)) behind) bounds optional unique t more back first.0 first.1 (bounds_back (Some bounds) behind (no_bracket _)))

at_list : (n : ℕ) (bounds : Option Bounds) (unique : Bool) (t : WrittenType) (more : Items) → IsWrittenType t → ReadBack (type_at n) t more → ReadBack (type_at (suc n)) (list_type bounds unique t) more
at_list n bounds unique t more is back =
    let inner : Items = put (type_lexemes t) more in
    let behind : Items = put (word (codes "OF")) (put (optional_word unique (codes "UNIQUE")) inner) in
    ap (type_at (suc n)) (put-append (word (codes "LIST") ++ bounds_lexemes bounds ++ word (codes "OF") ++ optional_word unique (codes "UNIQUE")) (type_lexemes t) more ∙ four (word (codes "LIST")) (bounds_lexemes bounds) (word (codes "OF")) (optional_word unique (codes "UNIQUE")) inner)
    ∙ (at_layer n kind.List (put (bounds_lexemes bounds) behind) ∙ list_by (type_at n) (put (bounds_lexemes bounds) behind) bounds unique t more back (type_first t more is).1 (bounds_back bounds behind (no_bracket _)))

at_set : (n : ℕ) (bounds : Option Bounds) (t : WrittenType) (more : Items) → ReadBack (type_at n) t more → ReadBack (type_at (suc n)) (set_type bounds t) more
at_set n bounds t more back =
    let inner : Items = put (type_lexemes t) more in
    let behind : Items = put (word (codes "OF")) inner in
    ap (type_at (suc n)) (put-append (word (codes "SET") ++ bounds_lexemes bounds ++ word (codes "OF")) (type_lexemes t) more ∙ three (word (codes "SET")) (bounds_lexemes bounds) (word (codes "OF")) inner)
    ∙ (at_layer n kind.Set (put (bounds_lexemes bounds) behind) ∙ set_by (type_at n) (put (bounds_lexemes bounds) behind) bounds t more back (bounds_back bounds behind (no_bracket _)))

at_bag : (n : ℕ) (bounds : Option Bounds) (t : WrittenType) (more : Items) → ReadBack (type_at n) t more → ReadBack (type_at (suc n)) (bag_type bounds t) more
at_bag n bounds t more back =
    let inner : Items = put (type_lexemes t) more in
    let behind : Items = put (word (codes "OF")) inner in
    ap (type_at (suc n)) (put-append (word (codes "BAG") ++ bounds_lexemes bounds ++ word (codes "OF")) (type_lexemes t) more ∙ three (word (codes "BAG")) (bounds_lexemes bounds) (word (codes "OF")) inner)
    ∙ (at_layer n kind.Bag (put (bounds_lexemes bounds) behind) ∙ bag_by (type_at n) (put (bounds_lexemes bounds) behind) bounds t more back (bounds_back bounds behind (no_bracket _)))

pub type_back : (t : WrittenType) (n : ℕ) (more : Items) → nesting t < n → IsWrittenType t → Ends more → ReadBack (type_at n) t more
type_back t zero more deep is ends = absurd (omega arith)
type_back integer_type (suc n) more deep is ends = (at_word n more).0
type_back (real_type precision) (suc n) more deep is ends = at_real n precision more ends
type_back number_type (suc n) more deep is ends = (at_word n more).1
type_back boolean_type (suc n) more deep is ends = (at_word n more).2
type_back logical_type (suc n) more deep is ends = (at_word n more).3
type_back (string_type width) (suc n) more deep is ends = at_string n width more ends
type_back (binary_type width) (suc n) more deep is ends = at_binary n width more ends
type_back (named_type name) (suc n) more deep is ends = at_name n name more is
type_back (array_type bounds optional unique t) (suc n) more deep is ends = at_array n bounds optional unique t more is (type_back t n more (omega arith) is ends)
type_back (list_type bounds unique t) (suc n) more deep is ends = at_list n bounds unique t more is (type_back t n more (omega arith) is ends)
type_back (set_type bounds t) (suc n) more deep is ends = at_set n bounds t more (type_back t n more (omega arith) is ends)
type_back (bag_type bounds t) (suc n) more deep is ends = at_bag n bounds t more (type_back t n more (omega arith) is ends)

-- types with the same lexemes in front of what is no part of a type are one
pub one_type : (x y : WrittenType) (more rest : Items) → IsWrittenType x → IsWrittenType y → Ends more → Ends rest → put (type_lexemes x) more ≡ put (type_lexemes y) rest → (x ≡ y) × (more ≡ rest)
one_type x y more rest is_x is_y ends stops e =
    let n = suc (nesting x + nesting y) in
    some_pair_is {X = WrittenType} x y more rest (sym (type_back x n more (omega arith) is_x ends) ∙ (ap (type_at n) e ∙ type_back y n rest (omega arith) is_y stops))
