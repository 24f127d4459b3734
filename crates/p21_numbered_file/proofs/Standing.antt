-- Where a statement stands in a tree.
use Rattle.std.proofs.Common.{◌≡◌, ℕ, zero, suc, List, [], ◌∷◌, ◌++◌, length, map, Some, Contains, refl, ap, arith}
use Rattle.std.specs.List.{AllZip, slice_get}
use Rattle.p21_spec_basics.proofs.Members.{Contains-first, Contains-later}
use Rattle.p21_spec_exchange.specs.DataSection.{DataSection, Heading}
use Rattle.p21_spec_exchange.specs.Record.{Record}
use Rattle.p21_spec_exchange.specs.Statement.{Statement, section, header, instance, begin, header_start, section_end, data_start, finish}
use Rattle.p21_spec_laws.specs.Among.{instances_before, sections_among}
use Rattle.p21_spec_laws.specs.Taken.{headings_among}

-- ---- lists side by side

-- what stands beside the one behind so many
pub zip-next : {X Y : Type 0} (R : X → Y → Type 0) (xs : List X) (a : X) (ys : List X) (got more : List Y)
    → AllZip R (xs ++ a ∷ ys) (got ++ more) → length got ≡ length xs
    → (b : Y) × (rest : List Y) × (more ≡ b ∷ rest) × R a b
zip-next R [] a ys [] [] zipped same = absurd zipped
zip-next R [] a ys [] (b ∷ more) zipped same = (b, more, refl, zipped.0)
zip-next R [] a ys (g ∷ got) more zipped same = cc
zip-next R (x ∷ xs) a ys [] more zipped same = cc
zip-next R (x ∷ xs) a ys (g ∷ got) more zipped same = zip-next R xs a ys got more zipped.1 (omega (arith, same))

pub mapped-at : {X Y : Type 0} (g : X → Y) (xs : List X) (k : ℕ) (x : X) → slice_get xs k ≡ Some x → slice_get (map g xs) k ≡ Some (g x)
mapped-at g [] k x at = cc
mapped-at {X} g (z ∷ xs) zero x at = let same : z ≡ x = cc in ap (λ (y : X). Some (g y)) same
mapped-at g (z ∷ xs) (suc k) x at = mapped-at g xs k x at

-- ---- headings

pub headings-append : (xs ys : List Statement) → headings_among (xs ++ ys) ≡ headings_among xs ++ headings_among ys
headings-append [] ys = refl
headings-append (section (data_start h) ∷ xs) ys = ap (λ (hs : List Heading). h ∷ hs) (headings-append xs ys)
headings-append (other ∷ xs) ys = headings-append xs ys

-- ---- the section of an instance

-- an instance behind no data section stands in front of the first one
before-has : (front later : List Statement) (n : ℕ) (r : Record) → length (headings_among front) ≡ 0
    → Contains (instances_before (front ++ instance n r ∷ later)) (n, r)
before-has [] later n r none = Contains-first (n, r) (instances_before later)
before-has (section (data_start h) ∷ front) later n r none = cc
before-has (section begin ∷ front) later n r none = before-has front later n r none
before-has (section header_start ∷ front) later n r none = before-has front later n r none
before-has (section section_end ∷ front) later n r none = before-has front later n r none
before-has (section finish ∷ front) later n r none = before-has front later n r none
before-has (header part ∷ front) later n r none = before-has front later n r none
before-has (instance m q ∷ front) later n r none =
    Contains-later (m, q) (instances_before (front ++ instance n r ∷ later)) (n, r) (before-has front later n r none)

-- it stands in the last section that has begun
pub in-last : (front later : List Statement) (n : ℕ) (r : Record) (k : ℕ) → length (headings_among front) ≡ suc k
    → (x : DataSection) × (slice_get (sections_among (front ++ instance n r ∷ later)) k ≡ Some x) × Contains x.instances (n, r)
in-last [] later n r k size = cc
in-last (section (data_start h) ∷ front) later n r zero size = (
  record { heading = h; instances = instances_before (front ++ instance n r ∷ later) },
  refl,
  before-has front later n r
      (omega (arith, size)),
)
in-last (section (data_start h) ∷ front) later n r (suc k) size = in-last front later n r k (omega (arith, size))
in-last (section begin ∷ front) later n r k size = in-last front later n r k size
in-last (section header_start ∷ front) later n r k size = in-last front later n r k size
in-last (section section_end ∷ front) later n r k size = in-last front later n r k size
in-last (section finish ∷ front) later n r k size = in-last front later n r k size
in-last (header part ∷ front) later n r k size = in-last front later n r k size
in-last (instance m q ∷ front) later n r k size = in-last front later n r k size
