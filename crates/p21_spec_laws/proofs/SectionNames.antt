-- The names of a file's sections, and their spellings, where none is there twice.
use Rattle.std.specs.Prelude.{◌≡◌, ℕ, List, [], ◌∷◌, map, Contains}
use Rattle.std.specs.List.{AllByRecursion as Each}
use Rattle.std.proofs.Common.{arith, ap, sym, subst, ◌∙◌, inl, inr, append-nil}
use Rattle.p21_spec_basics.proofs.Members.{Contains-none, Contains-first, Contains-later, Contains-cases, Each-member, Each-of_members}
use Rattle.p21_spec_exchange.specs.DataSection.{Heading, unnamed, named, IsNamed, AreHeadings, section_names}
use Rattle.p21_spec_exchange.specs.Parameter as parameter
use Rattle.p21_spec_exchange.specs.Spelling.{text_spelling}
use Rattle.p21_spec_exchange.specs.Statement.{section, data_start}
use Rattle.p21_spec_exchange.specs.Token as token
use Rattle.p21_spec_laws.proofs.Headings.{heading_text}
use Rattle.p21_spec_laws.proofs.LaidTexts.{one-text}
use Rattle.p21_spec_laws.specs.Written.{IsWrittenStatement}
use Rattle.p21_spec_basics.proofs.Shuffles.{Shuffled, Shuffled-first, Shuffled-none, Shuffled-members, Shuffled-symmetric, NoneTwice, Taken, taken_first, taken_later}
use Rattle.p21_spec_exchange.specs.Token.{IsSpelled}

-- the name has a spelling, where there is one
abbrev pub IsNameSpelled : Heading → Type 0
IsNameSpelled unnamed = Unit {0}
IsNameSpelled (named name schema) = IsSpelled (token.text name)

pub heading-spelled : (heading : Heading) → IsWrittenStatement (section (data_start heading)) → IsNameSpelled heading
heading-spelled unnamed said_ = tt
heading-spelled (named name schema) said_ = said_.1.1.0

-- texts of one spelling are one
one-spelling : (a b : List ℕ) → IsSpelled (token.text a) → IsSpelled (token.text b) → text_spelling a ≡ text_spelling b → a ≡ b
one-spelling a b spelled spelled_ same =
    let one : parameter.text a ≡ parameter.text b = one-text (parameter.text a) (parameter.text b) (spelled, tt) (spelled_, tt) (append-nil (text_spelling a) ∙ same ∙ sym (append-nil (text_spelling b))) in
    cc

named-texts_none_twice : (found : List Heading) → Each IsNamed found → Each IsNameSpelled found → NoneTwice (section_names found) → NoneTwice (map heading_text found)
named-texts_none_twice [] are spelled none = tt
named-texts_none_twice (unnamed ∷ more) are spelled none = absurd are.0
named-texts_none_twice (named name schema ∷ more) are spelled none = (λ among. none.0 (back more are.1 spelled.1 among), named-texts_none_twice more are.1 spelled.1 none.1)
  where
    back : (hs : List Heading) → Each IsNamed hs → Each IsNameSpelled hs → Contains (map heading_text hs) (text_spelling name) → Contains (section_names hs) name
    back [] are spelled_ among = absurd (Contains-none (text_spelling name) among)
    back (unnamed ∷ hs) are spelled_ among = absurd are.0
    back (named other text ∷ hs) are spelled_ among = elim (Contains-cases (text_spelling other) (map heading_text hs) (text_spelling name) among) [
      | inl h ↦ (0, omega arith, one-spelling other name spelled_.0 spelled.0 h)
      | inr h ↦ Contains-later other (section_names hs) name (back hs are.1 spelled_.1 h)
    ]

-- where the names differ, so do their spellings
pub texts_none_twice : (found : List Heading) → AreHeadings found → Each IsNameSpelled found → NoneTwice (section_names found) → NoneTwice (map heading_text found)
texts_none_twice [] are spelled none = absurd are
texts_none_twice (unnamed ∷ []) are spelled none = (λ among. Contains-none [] among, tt)
texts_none_twice (unnamed ∷ next ∷ more) are spelled none = absurd are
texts_none_twice (named name schema ∷ more) are spelled none = named-texts_none_twice (named name schema ∷ more) (tt, are) spelled none

some-headings : (found : List Heading) (h : Heading) → Contains found h → Each IsNamed found → AreHeadings found
some-headings [] h among are = absurd (Contains-none h among)
some-headings (unnamed ∷ more) h among are = absurd are.0
some-headings (named name schema ∷ more) h among are = are.1

only-taken : (x : Heading) (ys rest : List Heading) → Taken x ys rest → rest ≡ [] → ys ≡ x ∷ []
only-taken x ys rest (taken_first y _ same) none = ap (λ (z : Heading). z ∷ rest) (sym same) ∙ ap (λ (zs : List Heading). x ∷ zs) none
only-taken x ys rest (taken_later y more rest_ taken) none = cc

-- headings in another order
pub headings-shuffled : (xs ys : List Heading) → AreHeadings xs → Shuffled xs ys → AreHeadings ys
headings-shuffled [] ys are mixed = absurd are
headings-shuffled (unnamed ∷ []) ys are mixed =
    let (rest, taken, more) = Shuffled-first unnamed [] ys mixed in
    subst AreHeadings (sym (only-taken unnamed ys rest taken (Shuffled-none rest more))) tt
headings-shuffled (unnamed ∷ next ∷ more) ys are mixed = absurd are
headings-shuffled (named name schema ∷ more) ys are mixed =
    some-headings ys (named name schema) (Shuffled-members (named name schema ∷ more) ys mixed (named name schema) (Contains-first (named name schema) more))
    (Each-of_members IsNamed ys (λ h among. Each-member IsNamed (named name schema ∷ more) h (tt, are) (Shuffled-members ys (named name schema ∷ more) (Shuffled-symmetric (named name schema ∷ more) ys mixed) h among)))
