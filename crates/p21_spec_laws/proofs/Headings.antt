-- The headings of sections that rise by their names.
use Rattle.std.specs.Prelude.{◌≡◌, ℕ, List, [], ◌∷◌, map}
use Rattle.std.specs.List.{AllByRecursion as Each}
use Rattle.std.specs.List.Sorted.{IsStrictlySortedBy}
use Rattle.std.specs.Ordering.{nat_cmp}
use Rattle.std.specs.Cmp.Lexicographic.{slice_cmp}
use Rattle.std.proofs.Common.{Less}
use Rattle.std.proofs.lemmas.Cmp.{nat_list_cmp_total}
use Rattle.p21_spec_file.specs.Canonical.{AreSectionsRising}
use Rattle.p21_spec_exchange.specs.DataSection.{Heading, unnamed, named, IsNamed, AreHeadings, section_names}
use Rattle.p21_spec_exchange.specs.Spelling.{text_spelling}
use Rattle.p21_spec_basics.proofs.RisingLists.{Rises, rises-once, rises-none_twice}
use Rattle.p21_spec_basics.proofs.Shuffles.{NoneTwice, AreMembers}

-- the spelling of the name; nothing for a section without one
abbrev pub heading_text : Heading → List ℕ
heading_text unnamed = []
heading_text (named name schema) = text_spelling name

abbrev pub DoRise : List Heading → Type 0
DoRise found = Rises (slice_cmp nat_cmp) heading_text found

named-rise : (found : List Heading) → Each IsNamed found → AreSectionsRising found → DoRise found
unfolding IsStrictlySortedBy
named-rise [] are rises = tt
named-rise (unnamed ∷ more) are rises = absurd are.0
named-rise (named name schema ∷ more) are rises = (each more are.1 rises.0, named-rise more are.1 rises.1)
  where
    each : (hs : List Heading) → Each IsNamed hs → Each (λ k. slice_cmp nat_cmp (text_spelling name) k ≡ Less) (map text_spelling (section_names hs)) → Each (λ h. slice_cmp nat_cmp (text_spelling name) (heading_text h) ≡ Less) hs
    each [] are all = tt
    each (unnamed ∷ hs) are all = absurd are.0
    each (named other text ∷ hs) are all = (all.0, each hs are.1 all.1)

rise-named : (found : List Heading) → Each IsNamed found → DoRise found → AreSectionsRising found
unfolding IsStrictlySortedBy
rise-named [] are rises = tt
rise-named (unnamed ∷ more) are rises = absurd are.0
rise-named (named name schema ∷ more) are rises = (each more are.1 rises.0, rise-named more are.1 rises.1)
  where
    each : (hs : List Heading) → Each IsNamed hs → Each (λ h. slice_cmp nat_cmp (text_spelling name) (heading_text h) ≡ Less) hs → Each (λ k. slice_cmp nat_cmp (text_spelling name) k ≡ Less) (map text_spelling (section_names hs))
    each [] are all = tt
    each (unnamed ∷ hs) are all = absurd are.0
    each (named other text ∷ hs) are all = (all.0, each hs are.1 all.1)

pub headings-rise : (found : List Heading) → AreHeadings found → AreSectionsRising found → DoRise found
headings-rise [] are rises = absurd are
headings-rise (unnamed ∷ []) are rises = (tt, tt)
headings-rise (unnamed ∷ next ∷ more) are rises = absurd are
headings-rise (named name schema ∷ more) are rises = named-rise (named name schema ∷ more) (tt, are) rises

pub rise-headings : (found : List Heading) → AreHeadings found → DoRise found → AreSectionsRising found
unfolding IsStrictlySortedBy
rise-headings [] are rises = absurd are
rise-headings (unnamed ∷ []) are rises = tt
rise-headings (unnamed ∷ next ∷ more) are rises = absurd are
rise-headings (named name schema ∷ more) are rises = rise-named (named name schema ∷ more) (tt, are) rises

-- rising headings are fixed by their members, and none is there twice
pub headings-once : (xs ys : List Heading) → AreHeadings xs → AreHeadings ys → AreSectionsRising xs → AreSectionsRising ys → AreMembers xs ys → AreMembers ys xs → xs ≡ ys
headings-once xs ys are are_ rise rise_ onto back = rises-once (slice_cmp nat_cmp) nat_list_cmp_total heading_text xs ys (headings-rise xs are rise) (headings-rise ys are_ rise_) onto back

pub headings-none_twice : (xs : List Heading) → AreHeadings xs → AreSectionsRising xs → NoneTwice xs
headings-none_twice xs are rise = rises-none_twice (slice_cmp nat_cmp) nat_list_cmp_total heading_text xs (headings-rise xs are rise)
