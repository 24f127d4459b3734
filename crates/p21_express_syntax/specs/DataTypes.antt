-- Data types read from the lexemes that are left, as far as they are kept: plain functions between the code and the
-- definitions, which nobody has to believe.
use Rattle.std.specs.Prelude.{◌≡◌, ℕ, zero, suc, Bool, true, false, nat_le, ◌&&◌, List, [], ◌∷◌, codes, Option, Some, None, Result, Ok, Err}
use Rattle.p21_spec_basics.specs.Digits.{number}
use Rattle.p21_express_lexemes.specs.Taking.{Items, RefusalShows, take_symbol, take_word, take_digits, take_name}
use Rattle.p21_express_lexemes.specs.declared.fault.SyntaxFault.{SyntaxFault}
use Rattle.p21_express_syntax.specs.Digest.{TypeDigest}
use Rattle.p21_express_syntax.specs.declared.types.Aggregate.{Aggregate}
use Rattle.p21_express_syntax.specs.declared.types.Aggregate.TheVariants as aggregate
use Rattle.p21_express_syntax.specs.declared.types.Kind.{Kind}
use Rattle.p21_express_syntax.specs.declared.types.Kind.TheVariants as kind
use Rattle.p21_express_syntax.specs.declared.types.Range.{Range}
use Rattle.p21_express_syntax.specs.declared.types.SimpleType.{SimpleType}
use Rattle.p21_express_syntax.specs.declared.types.SimpleType.TheVariants as simple
use Rattle.p21_express_syntax.specs.declared.types.Width.{Width}
use Rattle.p21_spec_schema.specs.DeclaredType.{largest_bound}

abbrev pub identity : {A : Type 0} → A → A
identity x = x

-- ---- one thing behind another

abbrev pub bind : {A B : Type 0} → Option A → (A → Option B) → Option B
bind None go = None
bind (Some x) go = go x

-- what stands there, where it was taken, or else another
abbrev pub choose : {A : Type 0} → Option Items → (Items → A) → A → A
choose None go other = other
choose (Some rest) go other = go rest

abbrev pub guard : {A : Type 0} → Bool → A → Option A
guard true x = Some x
guard false x = None

-- ---- what an answer says

-- a word of the name
abbrev pub IsWordOf : List ℕ → Result (List ℕ) SyntaxFault → Type 0
IsWordOf name (Ok word) = word ≡ name
IsWordOf name (Err fault) = RefusalShows fault ⊥

-- whether the symbol was passed
abbrev pub Passed : ℕ → Result (Unit {0}) SyntaxFault → Items → Items → Type 0
Passed byte (Ok u) old new = take_symbol byte old ≡ Some new
Passed byte (Err fault) old new = RefusalShows fault (take_symbol byte old ≡ None)

abbrev pub NumberRead : Result (Unit {0}) SyntaxFault → Option Items → Items → Type 0
NumberRead (Ok u) read new = read ≡ Some new
NumberRead (Err fault) read new = RefusalShows fault (read ≡ None)

abbrev pub KindRead : Option Kind → Option (Kind × Items) → Items → Items → Type 0
KindRead None read old new = (read ≡ None) × (new ≡ old)
KindRead (Some k) read old new = read ≡ Some (k, new)

-- ---- bounds and widths, which are within limits

unfoldable pub low_of : Items → Option (ℕ × Items)
low_of items = bind (take_digits items) (λ d. guard (nat_le (number d.0) largest_bound) (number d.0, d.1))

unfoldable pub top_of : ℕ → Items → Option (ℕ × Items)
top_of low items = bind (take_digits items) (λ d. guard (nat_le (number d.0) largest_bound && nat_le low (number d.0)) (number d.0, d.1))

unfoldable pub high_of : ℕ → Items → Option (Option ℕ × Items)
high_of low items = choose (take_symbol 63 items) (λ rest. Some (None, rest)) (bind (top_of low items) (λ high. Some (Some high.0, high.1)))

-- behind `[`
abbrev pub range_at : Items → Option (Range × Items)
range_at items = bind (low_of items) (λ low. bind (take_symbol 58 low.1) (λ a. bind (high_of low.0 a) (λ high. bind (take_symbol 93 high.1) (λ rest. Some (record { low = low.0; high = high.0 }, rest)))))

unfoldable pub range_of : Items → Option (Range × Items)
range_of items = choose (take_symbol 91 items) range_at (Some (record { low = 0; high = None }, items))

-- a word that may be left out
abbrev pub flag_of : List ℕ → Items → Bool × Items
flag_of name items = choose (take_word name items) (λ rest. (true, rest)) (false, items)

abbrev pub flags_of : ℕ → ℕ → Items → Option (Aggregate × Items)
flags_of low high items = let optional = flag_of (codes "OPTIONAL") items in let unique = flag_of (codes "UNIQUE") optional.1 in Some (aggregate.Array low high optional.0 unique.0, unique.1)

unfoldable pub array_of : Items → Option (Aggregate × Items)
array_of items =
    bind (take_symbol 91 items) (λ a. bind (low_of a) (λ low. bind (take_symbol 58 low.1) (λ b. bind (top_of low.0 b) (λ high. bind (take_symbol 93 high.1) (λ c. bind (take_word (codes "OF") c) (λ rest. flags_of low.0 high.0 rest))))))

unfoldable pub most_of : Items → Option (ℕ × Items)
most_of items = bind (take_digits items) (λ d. guard (nat_le (number d.0) largest_bound && nat_le 1 (number d.0)) (number d.0, d.1))

-- behind `)` of a width
abbrev pub fixed_of : ℕ → Bool × Items → Option (Option Width × Items)
fixed_of most flag = Some (Some (record { most = most; fixed = flag.0 }), flag.1)

unfoldable pub width_of : Items → Option (Option Width × Items)
width_of items = choose (take_symbol 40 items) (λ a. bind (most_of a) (λ n. bind (take_symbol 41 n.1) (λ b. fixed_of n.0 (flag_of (codes "FIXED") b)))) (Some (None, items))

-- what is left behind a precision, if it stands there
unfoldable pub precision_of : Items → Option Items
precision_of items = choose (take_symbol 40 items) (λ a. bind (take_digits a) (λ n. take_symbol 41 n.1)) (Some items)

-- ---- types

unfoldable pub kind_of : Items → Option (Kind × Items)
kind_of items =
    choose (take_word (codes "LIST") items) (λ r. Some (kind.List, r)) (choose (take_word (codes "SET") items) (λ r. Some (kind.Set, r))
    (choose (take_word (codes "ARRAY") items) (λ r. Some (kind.Array, r)) (choose (take_word (codes "BAG") items) (λ r. Some (kind.Bag, r)) None)))

abbrev pub unique_of : Range → Bool × Items → Option (Aggregate × Items)
unique_of range flag = Some (aggregate.List range flag.0, flag.1)

-- behind the word of an aggregate
unfoldable pub aggregate_at : Kind → Items → Option (Aggregate × Items)
aggregate_at kind.Array items = array_of items
aggregate_at kind.List items = bind (range_of items) (λ b. bind (take_word (codes "OF") b.1) (λ rest. unique_of b.0 (flag_of (codes "UNIQUE") rest)))
aggregate_at kind.Set items = bind (range_of items) (λ b. bind (take_word (codes "OF") b.1) (λ rest. Some (aggregate.Set b.0, rest)))
aggregate_at kind.Bag items = bind (range_of items) (λ b. bind (take_word (codes "OF") b.1) (λ rest. Some (aggregate.Bag b.0, rest)))

-- a type that is no aggregate
unfoldable pub simple_of : Items → Option (SimpleType × Items)
simple_of items =
    choose (take_word (codes "REAL") items) (λ r. bind (precision_of r) (λ p. Some (simple.Real, p)))
    (choose (take_word (codes "INTEGER") items) (λ r. Some (simple.Integer, r)) (choose (take_word (codes "NUMBER") items) (λ r. Some (simple.Number, r))
    (choose (take_word (codes "BOOLEAN") items) (λ r. Some (simple.Boolean, r)) (choose (take_word (codes "LOGICAL") items) (λ r. Some (simple.Logical, r))
    (choose (take_word (codes "STRING") items) (λ r. bind (width_of r) (λ w. Some (simple.String w.0, w.1)))
    (choose (take_word (codes "BINARY") items) (λ r. bind (width_of r) (λ w. Some (simple.Binary w.0, w.1)))
    (bind (take_name items) (λ n. Some (simple.Named n.0, n.1)))))))))

abbrev pub around : Aggregate → TypeDigest → TypeDigest
around first type = record { aggregates = first ∷ type.aggregates; element = type.element }

abbrev pub under : Aggregate → Option (TypeDigest × Items) → Option (TypeDigest × Items)
under first None = None
under first (Some found) = Some (around first found.0, found.1)

abbrev pub element_of : Items → Option (TypeDigest × Items)
element_of items = bind (simple_of items) (λ s. Some (record { aggregates = []; element = s.0 }, s.1))

abbrev pub type_by : Option (Kind × Items) → Option (TypeDigest × Items) → (Kind → Items → Option (TypeDigest × Items)) → Option (TypeDigest × Items)
type_by None base go = base
type_by (Some found) base go = go found.0 found.1

-- a type of at most so many aggregates
unfoldable pub type_of : ℕ → Items → Option (TypeDigest × Items)
type_of zero items = type_by (kind_of items) (element_of items) (λ k rest. None)
type_of (suc count) items = type_by (kind_of items) (element_of items) (λ k rest. bind (aggregate_at k rest) (λ a. under a.0 (type_of count a.1)))
