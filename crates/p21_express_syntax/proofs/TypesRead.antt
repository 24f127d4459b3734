-- What a type is written with is read.
use Rattle.std.proofs.Common.{◌≡◌, ℕ, zero, suc, ◌≤◌, Bool, true, false, List, ◌++◌, codes, Option, Some, None, refl, ap, sym, subst, ◌∙◌, lit<, arith}
use Rattle.p21_spec_basics.specs.Digits.{number}
use Rattle.p21_spec_schema.specs.Express.{identifier, digits, symbol}
use Rattle.p21_spec_schema.specs.ReservedWord.{IsName}
use Rattle.p21_spec_schema.specs.DeclaredType.{DenotesUpperBound, DenotesBounds}
use Rattle.p21_spec_schema.specs.WrittenType.{Width as WrittenWidth, UpperBound, bounded, unbounded, Bounds, WrittenType, integer_type, real_type, number_type, boolean_type, logical_type, string_type, binary_type, named_type, array_type, list_type, set_type, bag_type, word, optional_word, precision_lexemes, width_lexemes, upper_bound_lexemes, bounds_lexemes, type_lexemes, IsWrittenType, nesting}
use Rattle.p21_express_lexemes.specs.Taking.{Items, put, take_symbol, take_word, take_digits}
use Rattle.p21_express_lexemes.proofs.Put.{put-append}
use Rattle.p21_express_syntax.specs.Digest.{TypeDigest}
use Rattle.p21_express_syntax.specs.Digesting.{width_digest, high_digest, range_digest, array_high, type_digest, of}
use Rattle.p21_express_syntax.specs.DataTypes.{low_of, top_of, high_of, range_of, array_of, most_of, width_of, precision_of, kind_of, aggregate_at, simple_of, under, type_of, around}
use Rattle.p21_express_syntax.specs.Within.{HasWidth, HasBounds, HasNumbers}
use Rattle.p21_express_syntax.specs.declared.types.Aggregate.{Aggregate}
use Rattle.p21_express_syntax.specs.declared.types.Aggregate.TheVariants as aggregate
use Rattle.p21_express_syntax.specs.declared.types.Kind.{Kind}
use Rattle.p21_express_syntax.specs.declared.types.Kind.TheVariants as kind
use Rattle.p21_express_syntax.specs.declared.types.Range.{Range}
use Rattle.p21_express_syntax.specs.declared.types.SimpleType.{SimpleType}
use Rattle.p21_express_syntax.specs.declared.types.SimpleType.TheVariants as simple
use Rattle.p21_express_syntax.specs.declared.types.Width.{Width}
use Rattle.p21_express_syntax.proofs.Sounding.{name_read, name_apart, of_le}
use Rattle.p21_express_syntax.proofs.TypesSound.{over, Layer, array_layer, list_layer, set_layer, bag_layer, layer_lexemes, IsLayer, layer_digest, kind_word, three, four, five, put_bounds, put_width}

-- ---- bounds and widths

low_read : (ds : List ℕ) (more : Items) → number ds ≤ 4294967295 → ◌≡◌ {A = Option (ℕ × Items)} (low_of (over (digits ds) more)) (Some (number ds, more))
unfolding low_of take_digits
low_read ds more h = rw (of_le (number ds) 4294967295 h) refl

top_read : (low : ℕ) (ds : List ℕ) (more : Items) → number ds ≤ 4294967295 → low ≤ number ds → ◌≡◌ {A = Option (ℕ × Items)} (top_of low (over (digits ds) more)) (Some (number ds, more))
unfolding top_of take_digits
top_read low ds more h k = rw (of_le (number ds) 4294967295 h) (rw (of_le low (number ds) k) refl)

high_read : (low : ℕ) (high : UpperBound) (value : Option ℕ) (more : Items) → DenotesUpperBound low high value → ◌≡◌ {A = Option (Option ℕ × Items)} (high_of low (put (upper_bound_lexemes high) more)) (Some (high_digest high, more))
unfolding high_of take_symbol
high_read low unbounded value more h = refl
high_read low (bounded ds) value more h = rw (top_read low ds more h.2 h.1) refl

low_within : (b : Bounds) (low : ℕ) (high : Option ℕ) → DenotesBounds (Some b) low high → (number b.low ≤ 4294967295) × DenotesUpperBound (number b.low) b.high high
low_within b low high h = (subst (λ (x : ℕ). x ≤ 4294967295) h.0 h.1, subst (λ (x : ℕ). DenotesUpperBound x b.high high) h.0 h.2)

range_by : (low : List ℕ) (high : UpperBound) (value : Option ℕ) (more : Items) → number low ≤ 4294967295 → DenotesUpperBound (number low) high value
    → ◌≡◌ {A = Option (Range × Items)} (range_of (over (symbol 91) (over (digits low) (over (symbol 58) (put (upper_bound_lexemes high) (over (symbol 93) more)))))) (Some (record { low = number low; high = high_digest high }, more))
unfolding range_of take_symbol
range_by low high value more h k = rw (low_read low (over (symbol 58) (put (upper_bound_lexemes high) (over (symbol 93) more))) h) (rw (high_read (number low) high value (over (symbol 93) more) k) refl)

pub range_read : (bounds : Option Bounds) (more : Items) → HasBounds bounds → take_symbol 91 more ≡ None → ◌≡◌ {A = Option (Range × Items)} (range_of (put (bounds_lexemes bounds) more)) (Some (range_digest bounds, more))
unfolding range_of
range_read None more h n = rw n refl
range_read (Some b) more h n = let w = low_within b h.0 h.1 h.2 in ap range_of (put_bounds b.low b.high more) ∙ range_by b.low b.high h.1 more w.0 w.1

most_read : (ds : List ℕ) (more : Items) → number ds ≤ 4294967295 → 1 ≤ number ds → ◌≡◌ {A = Option (ℕ × Items)} (most_of (over (digits ds) more)) (Some (number ds, more))
unfolding most_of take_digits
most_read ds more h k = rw (of_le (number ds) 4294967295 h) (rw (of_le 1 (number ds) k) refl)

width_by : (most : List ℕ) (fixed : Bool) (more : Items) → number most ≤ 4294967295 → 1 ≤ number most → take_word (codes "FIXED") more ≡ None
    → ◌≡◌ {A = Option (Option Width × Items)} (width_of (over (symbol 40) (over (digits most) (over (symbol 41) (put (optional_word fixed (codes "FIXED")) more))))) (Some (Some (record { most = number most; fixed = fixed }), more))
unfolding width_of take_symbol take_word
width_by most true more h k n = rw (most_read most (over (symbol 41) (put (optional_word true (codes "FIXED")) more)) h k) refl
width_by most false more h k n = rw (most_read most (over (symbol 41) (put (optional_word false (codes "FIXED")) more)) h k) (rw n refl)

pub width_read : (width : Option WrittenWidth) (more : Items) → HasWidth width → take_symbol 40 more ≡ None → take_word (codes "FIXED") more ≡ None → ◌≡◌ {A = Option (Option Width × Items)} (width_of (put (width_lexemes width) more)) (Some (width_digest width, more))
unfolding width_of
width_read None more h n m = rw n refl
width_read (Some w) more h n m = ap width_of (put_width w.most w.fixed more) ∙ width_by w.most w.fixed more h.1.2 (let s = h.1.1 in omega arith) m

precision_read : (precision : Option (List ℕ)) (more : Items) → take_symbol 40 more ≡ None → ◌≡◌ {A = Option Items} (precision_of (put (precision_lexemes precision) more)) (Some more)
unfolding precision_of take_symbol take_digits
precision_read None more n = rw n refl
precision_read (Some ds) more n = refl

-- ---- aggregates

-- the type of the elements begins with neither of these words
pub type_first : (t : WrittenType) (more : Items) → IsWrittenType t → (take_word (codes "OPTIONAL") (put (type_lexemes t) more) ≡ None) × (take_word (codes "UNIQUE") (put (type_lexemes t) more) ≡ None)
unfolding take_word
type_first integer_type more is = (refl, refl)
type_first (real_type precision) more is = (refl, refl)
type_first number_type more is = (refl, refl)
type_first boolean_type more is = (refl, refl)
type_first logical_type more is = (refl, refl)
type_first (string_type width) more is = (refl, refl)
type_first (binary_type width) more is = (refl, refl)
type_first (named_type name) more is = (rw (name_apart name (codes "OPTIONAL") (12, lit< tt, refl) is) refl, rw (name_apart name (codes "UNIQUE") (10, lit< tt, refl) is) refl)
type_first (array_type bounds optional unique element) more is = (refl, refl)
type_first (list_type bounds unique element) more is = (refl, refl)
type_first (set_type bounds element) more is = (refl, refl)
type_first (bag_type bounds element) more is = (refl, refl)

pub no_bracket : (more : Items) → take_symbol 91 (over (identifier (codes "OF")) more) ≡ None
unfolding take_symbol
no_bracket more = refl

array_by : (low ds : List ℕ) (optional unique : Bool) (more : Items) → number low ≤ 4294967295 → number ds ≤ 4294967295 → number low ≤ number ds → take_word (codes "OPTIONAL") more ≡ None → take_word (codes "UNIQUE") more ≡ None
    → ◌≡◌ {A = Option (Aggregate × Items)} (array_of (over (symbol 91) (over (digits low) (over (symbol 58) (over (digits ds) (over (symbol 93) (over (identifier (codes "OF")) (put (optional_word optional (codes "OPTIONAL")) (put (optional_word unique (codes "UNIQUE")) more)))))))))
    (Some (aggregate.Array (number low) (number ds) optional unique, more))
unfolding array_of take_symbol take_word
array_by low ds true true more a b c n m = rw (low_read low _ a) (rw (top_read (number low) ds _ b c) refl)
array_by low ds true false more a b c n m = rw (low_read low _ a) (rw (top_read (number low) ds _ b c) (rw m refl))
array_by low ds false true more a b c n m = rw (low_read low _ a) (rw (top_read (number low) ds _ b c) refl)
array_by low ds false false more a b c n m = rw (low_read low _ a) (rw (top_read (number low) ds _ b c) (rw n (rw m refl)))

array_read : (low : List ℕ) (high : UpperBound) (l h : ℕ) (optional unique : Bool) (more : Items) → DenotesBounds (Some (record { low = low; high = high })) l (Some h) → take_word (codes "OPTIONAL") more ≡ None → take_word (codes "UNIQUE") more ≡ None
    → ◌≡◌ {A = Option (Aggregate × Items)} (array_of (put (bounds_lexemes (Some (record { low = low; high = high }))) (put (word (codes "OF")) (put (optional_word optional (codes "OPTIONAL")) (put (optional_word unique (codes "UNIQUE")) more)))))
    (Some (aggregate.Array (number low) (array_high high) optional unique, more))
array_read low unbounded l h optional unique more b n m = absurd (none_is h (sym b.2))
  where
    none_is : (x : ℕ) → None ≡ Some x → ⊥
    none_is x q = cc
array_read low (bounded ds) l h optional unique more b n m = let w = low_within (record { low = low; high = bounded ds }) l (Some h) b in array_by low ds optional unique more w.0 w.1.2 w.1.1 n m

list_by : (items : Items) (range : Range) (unique : Bool) (more : Items) → ◌≡◌ {A = Option (Range × Items)} (range_of items) (Some (range, over (identifier (codes "OF")) (put (optional_word unique (codes "UNIQUE")) more))) → take_word (codes "UNIQUE") more ≡ None
    → ◌≡◌ {A = Option (Aggregate × Items)} (aggregate_at kind.List items) (Some (aggregate.List range unique, more))
unfolding aggregate_at take_word
list_by items range true more e n = rw e refl
list_by items range false more e n = rw e (rw n refl)

set_by : (items : Items) (range : Range) (more : Items) → ◌≡◌ {A = Option (Range × Items)} (range_of items) (Some (range, over (identifier (codes "OF")) more)) → ◌≡◌ {A = Option (Aggregate × Items)} (aggregate_at kind.Set items) (Some (aggregate.Set range, more))
unfolding aggregate_at take_word
set_by items range more e = rw e refl

bag_by : (items : Items) (range : Range) (more : Items) → ◌≡◌ {A = Option (Range × Items)} (range_of items) (Some (range, over (identifier (codes "OF")) more)) → ◌≡◌ {A = Option (Aggregate × Items)} (aggregate_at kind.Bag items) (Some (aggregate.Bag range, more))
unfolding aggregate_at take_word
bag_by items range more e = rw e refl

-- an aggregate, whatever stands behind it
pub record LayerRead (layer : Layer) (items more : Items) : Type 0 where
  pub first : Kind
  pub behind : Items
  pub begins : ◌≡◌ {A = Option (Kind × Items)} (kind_of items) (Some (first, behind))
  pub goes_on : ◌≡◌ {A = Option (Aggregate × Items)} (aggregate_at first behind) (Some (layer_digest layer, more))

kind_read : (k : Kind) (more : Items) → ◌≡◌ {A = Option (Kind × Items)} (kind_of (over (identifier (kind_word k)) more)) (Some (k, more))
unfolding kind_of take_word
kind_read kind.Array more = refl
kind_read kind.List more = refl
kind_read kind.Set more = refl
kind_read kind.Bag more = refl

pub layer_read : (layer : Layer) (more : Items) → IsLayer layer → take_word (codes "OPTIONAL") more ≡ None → take_word (codes "UNIQUE") more ≡ None → LayerRead layer (put (layer_lexemes layer) more) more
unfolding aggregate_at
layer_read (array_layer bounds optional unique) more h n m =
    let behind : Items = put (bounds_lexemes (Some bounds)) (put (word (codes "OF")) (put (optional_word optional (codes "OPTIONAL")) (put (optional_word unique (codes "UNIQUE")) more))) in
    record {
      first = kind.Array;
      behind = behind;
      begins = ap kind_of (five (word (codes "ARRAY")) (bounds_lexemes (Some bounds)) (word (codes "OF")) (optional_word optional (codes "OPTIONAL")) (optional_word unique (codes "UNIQUE")) more) ∙ kind_read kind.Array behind;
      goes_on = array_read bounds.low bounds.high h.0 h.1 optional unique more h.2 n m;
    }
layer_read (list_layer bounds unique) more h n m =
    let behind : Items = put (bounds_lexemes bounds) (put (word (codes "OF")) (put (optional_word unique (codes "UNIQUE")) more)) in
    record {
      first = kind.List;
      behind = behind;
      begins = ap kind_of (four (word (codes "LIST")) (bounds_lexemes bounds) (word (codes "OF")) (optional_word unique (codes "UNIQUE")) more) ∙ kind_read kind.List behind;
      goes_on = list_by behind (range_digest bounds) unique more (range_read bounds (put (word (codes "OF")) (put (optional_word unique (codes "UNIQUE")) more)) h (no_bracket _)) m;
    }
layer_read (set_layer bounds) more h n m =
    let behind : Items = put (bounds_lexemes bounds) (put (word (codes "OF")) more) in
    record {
      first = kind.Set;
      behind = behind;
      begins = ap kind_of (three (word (codes "SET")) (bounds_lexemes bounds) (word (codes "OF")) more) ∙ kind_read kind.Set behind;
      goes_on = set_by behind (range_digest bounds) more (range_read bounds (put (word (codes "OF")) more) h (no_bracket _));
    }
layer_read (bag_layer bounds) more h n m =
    let behind : Items = put (bounds_lexemes bounds) (put (word (codes "OF")) more) in
    record {
      first = kind.Bag;
      behind = behind;
      begins = ap kind_of (three (word (codes "BAG")) (bounds_lexemes bounds) (word (codes "OF")) more) ∙ kind_read kind.Bag behind;
      goes_on = bag_by behind (range_digest bounds) more (range_read bounds (put (word (codes "OF")) more) h (no_bracket _));
    }

-- ---- types

-- what stands behind a type is neither `(` nor FIXED
pub record Ends (more : Items) : Type 0 where
  pub no_width : take_symbol 40 more ≡ None
  pub no_fixed : take_word (codes "FIXED") more ≡ None

at_simple : (n : ℕ) (items : Items) (element : SimpleType) (rest : Items) → ◌≡◌ {A = Option (Kind × Items)} (kind_of items) None → ◌≡◌ {A = Option (SimpleType × Items)} (simple_of items) (Some (element, rest)) → ◌≡◌ {A = Option (TypeDigest × Items)} (type_of n items) (Some (of element, rest))
unfolding type_of
at_simple zero items element rest e f = rw e (rw f refl)
at_simple (suc n) items element rest e f = rw e (rw f refl)

name_no_kind : (name : List ℕ) (more : Items) → IsName name → ◌≡◌ {A = Option (Kind × Items)} (kind_of (over (identifier name) more)) None
unfolding kind_of take_word
name_no_kind name more is =
    rw (name_apart name (codes "LIST") (27, lit< tt, refl) is) (rw (name_apart name (codes "SET") (28, lit< tt, refl) is) (rw (name_apart name (codes "ARRAY") (26, lit< tt, refl) is) (rw (name_apart name (codes "BAG") (29, lit< tt, refl) is) refl)))

named_read : (name : List ℕ) (more : Items) → IsName name → ◌≡◌ {A = Option (SimpleType × Items)} (simple_of (over (identifier name) more)) (Some (simple.Named name, more))
unfolding simple_of take_word
named_read name more is =
    rw (name_apart name (codes "REAL") (19, lit< tt, refl) is) (rw (name_apart name (codes "INTEGER") (18, lit< tt, refl) is) (rw (name_apart name (codes "NUMBER") (20, lit< tt, refl) is)
    (rw (name_apart name (codes "BOOLEAN") (21, lit< tt, refl) is) (rw (name_apart name (codes "LOGICAL") (22, lit< tt, refl) is) (rw (name_apart name (codes "STRING") (23, lit< tt, refl) is)
    (rw (name_apart name (codes "BINARY") (24, lit< tt, refl) is) (rw (name_read name more is) refl)))))))

word_no_kind : (more : Items) → ◌≡◌ {A = Option (Kind × Items)} (kind_of (over (identifier (codes "REAL")) more)) None × ◌≡◌ {A = Option (Kind × Items)} (kind_of (over (identifier (codes "STRING")) more)) None × ◌≡◌ {A = Option (Kind × Items)} (kind_of (over (identifier (codes "BINARY")) more)) None
    × ◌≡◌ {A = Option (Kind × Items)} (kind_of (over (identifier (codes "INTEGER")) more)) None × ◌≡◌ {A = Option (Kind × Items)} (kind_of (over (identifier (codes "NUMBER")) more)) None × ◌≡◌ {A = Option (Kind × Items)} (kind_of (over (identifier (codes "BOOLEAN")) more)) None × ◌≡◌ {A = Option (Kind × Items)} (kind_of (over (identifier (codes "LOGICAL")) more)) None
unfolding kind_of take_word
word_no_kind more = (refl, refl, refl, refl, refl, refl, refl)

real_read : (precision : Option (List ℕ)) (more : Items) → take_symbol 40 more ≡ None → ◌≡◌ {A = Option (SimpleType × Items)} (simple_of (over (identifier (codes "REAL")) (put (precision_lexemes precision) more))) (Some (simple.Real, more))
unfolding simple_of take_word
real_read precision more n = rw (precision_read precision more n) refl

string_read : (width : Option WrittenWidth) (more : Items) → HasWidth width → Ends more → ◌≡◌ {A = Option (SimpleType × Items)} (simple_of (over (identifier (codes "STRING")) (put (width_lexemes width) more))) (Some (simple.String (width_digest width), more))
unfolding simple_of take_word
string_read width more h ends = rw (width_read width more h ends.no_width ends.no_fixed) refl

binary_read : (width : Option WrittenWidth) (more : Items) → HasWidth width → Ends more → ◌≡◌ {A = Option (SimpleType × Items)} (simple_of (over (identifier (codes "BINARY")) (put (width_lexemes width) more))) (Some (simple.Binary (width_digest width), more))
unfolding simple_of take_word
binary_read width more h ends = rw (width_read width more h ends.no_width ends.no_fixed) refl

words_read : (more : Items) → ◌≡◌ {A = Option (SimpleType × Items)} (simple_of (over (identifier (codes "INTEGER")) more)) (Some (simple.Integer, more)) × ◌≡◌ {A = Option (SimpleType × Items)} (simple_of (over (identifier (codes "NUMBER")) more)) (Some (simple.Number, more))
    × ◌≡◌ {A = Option (SimpleType × Items)} (simple_of (over (identifier (codes "BOOLEAN")) more)) (Some (simple.Boolean, more)) × ◌≡◌ {A = Option (SimpleType × Items)} (simple_of (over (identifier (codes "LOGICAL")) more)) (Some (simple.Logical, more))
unfolding simple_of take_word
words_read more = (refl, refl, refl, refl)

at_layer : (n : ℕ) (items : Items) (k : Kind) (behind : Items) (first : Aggregate) (rest : Items) → ◌≡◌ {A = Option (Kind × Items)} (kind_of items) (Some (k, behind)) → ◌≡◌ {A = Option (Aggregate × Items)} (aggregate_at k behind) (Some (first, rest)) → type_of (suc n) items ≡ under first (type_of n rest)
unfolding type_of
at_layer n items k behind first rest e f = rw e (rw f refl)

layered : (layer : Layer) (element : WrittenType) (n : ℕ) (more : Items) → IsLayer layer → IsWrittenType element → ◌≡◌ {A = Option (TypeDigest × Items)} (type_of n (put (type_lexemes element) more)) (Some (type_digest element, more))
    → ◌≡◌ {A = Option (TypeDigest × Items)} (type_of (suc n) (put (layer_lexemes layer ++ type_lexemes element) more)) (Some (around (layer_digest layer) (type_digest element), more))
layered layer element n more h is inner =
    let first = type_first element more is in
    let r = layer_read layer (put (type_lexemes element) more) h first.0 first.1 in
    ap (type_of (suc n)) (put-append (layer_lexemes layer) (type_lexemes element) more)
    ∙ (at_layer n (put (layer_lexemes layer) (put (type_lexemes element) more)) r.first r.behind (layer_digest layer) (put (type_lexemes element) more) r.begins r.goes_on ∙ ap (under (layer_digest layer)) inner)

pub type_read : (t : WrittenType) (n : ℕ) (more : Items) → nesting t ≤ n → IsWrittenType t → HasNumbers t → Ends more → ◌≡◌ {A = Option (TypeDigest × Items)} (type_of n (put (type_lexemes t) more)) (Some (type_digest t, more))
type_read integer_type n more deep is has ends = at_simple n _ _ _ (word_no_kind more).3 (words_read more).0
type_read (real_type precision) n more deep is has ends = at_simple n _ _ _ (word_no_kind (put (precision_lexemes precision) more)).0 (real_read precision more ends.no_width)
type_read number_type n more deep is has ends = at_simple n _ _ _ (word_no_kind more).4 (words_read more).1
type_read boolean_type n more deep is has ends = at_simple n _ _ _ (word_no_kind more).5 (words_read more).2
type_read logical_type n more deep is has ends = at_simple n _ _ _ (word_no_kind more).6 (words_read more).3
type_read (string_type width) n more deep is has ends = at_simple n _ _ _ (word_no_kind (put (width_lexemes width) more)).1 (string_read width more has ends)
type_read (binary_type width) n more deep is has ends = at_simple n _ _ _ (word_no_kind (put (width_lexemes width) more)).2 (binary_read width more has ends)
type_read (named_type name) n more deep is has ends = at_simple n _ _ _ (name_no_kind name more is) (named_read name more is)
type_read (array_type bounds optional unique element) zero more deep is has ends = absurd (omega arith)
type_read (array_type bounds optional unique element) (suc n) more deep is has ends = layered (array_layer bounds optional unique) element n more has.0 is (type_read element n more (omega arith) is has.1 ends)
type_read (list_type bounds unique element) zero more deep is has ends = absurd (omega arith)
type_read (list_type bounds unique element) (suc n) more deep is has ends = layered (list_layer bounds unique) element n more has.0 is (type_read element n more (omega arith) is has.1 ends)
type_read (set_type bounds element) zero more deep is has ends = absurd (omega arith)
type_read (set_type bounds element) (suc n) more deep is has ends = layered (set_layer bounds) element n more has.0 is (type_read element n more (omega arith) is has.1 ends)
type_read (bag_type bounds element) zero more deep is has ends = absurd (omega arith)
type_read (bag_type bounds element) (suc n) more deep is has ends = layered (bag_layer bounds) element n more has.0 is (type_read element n more (omega arith) is has.1 ends)
