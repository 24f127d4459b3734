-- Rows of shared names, name by name.
use Rattle.std.specs.Prelude.{◌≡◌, ◌≤◌, ◌<◌, ◌+◌, ◌^◌, ◌⊎◌, ℕ, List, [], ◌∷◌, ◌++◌, Contains, refl}
use Rattle.std.proofs.Common.{arith, ap, sym, subst, ◌∙◌, inl, inr}
use Rattle.std.proofs.lemmas.Grind.{flat_map-append}
use Rattle.std.proofs.lemmas.List.{append-nil}
use Rattle.p21_difference_rows.proofs.Beside.{member-alone, member-back, member-front, member-of}
use Rattle.p21_difference_rows.proofs.Walk.{name-low}
use Rattle.p21_difference_rows.specs.Pairs.{AddsPair, ArePairRows, ArePairRowsBelow, Rise, pair_line, pair_lines}
use Rattle.p21_difference_rows.specs.declared.row.RowForm.{RowForm}
use Rattle.p21_differences.specs.Lines.{AreLinesOf}
use Rattle.p21_spec_basics.proofs.Members.{Contains-first, Contains-later, Contains-none, Each-append, Each-of_members}
use Rattle.p21_spec_file.specs.File.{FileMeaning}
use Rattle.p21_spec_numbering.specs.Renamed.{names}
use Rattle.p21_spec_schema.specs.Schema.{Schema}
use Rattle.p21_spec_schema.specs.WellFormed.{IsWellFormed}
use Rattle.p21_stream_store.specs.StoredInstance.{StoredInstance, instance_names}

either : (x y : ℕ) → (x < y) ⊎ (y ≤ x)
either x y = grind arith

rise-more : (xs ys : List ℕ) → Rise xs → Rise ys → ((x y : ℕ) → Contains xs x → Contains ys y → x < y) → Rise (xs ++ ys)
rise-more [] ys rise rise_ below = rise_
rise-more (x ∷ xs) ys rise rise_ below = (
  Each-append (λ (m : ℕ). x < m) xs ys rise.0 (Each-of_members (λ (m : ℕ). x < m) ys (λ y among. below x y (Contains-first x xs) among)),
  rise-more xs ys rise.1 rise_ (λ z y among among_. below z y (Contains-later x xs z among) among_),
)

module _ (form : RowForm) (real : ℕ → ℕ) where
  -- ---- the row of a name

  pub pair-added : (ns : List ℕ) (name : ℕ) (old new : List ℕ) → Contains ns name → new ≡ old ++ pair_line form (real name) name
      → AddsPair form real ns name old new
  pair-added ns name old new has is = record {
    added = name ∷ [];
    all = λ n. (
      λ among. (let same = member-alone name n among in (subst (Contains ns) same has, sym same)),
      λ (has_, same). (let P : ℕ → Type 0 = λ m. Contains (name ∷ []) m in subst P (sym same) (Contains-first name [])),
    );
    rise = (tt, tt);
    new_is = is ∙ ap (λ (t : List ℕ). old ++ t) (sym (append-nil (pair_line form (real name) name)));
  }

  pub none-added : (ns : List ℕ) (name : ℕ) (old new : List ℕ) → ¬ Contains ns name → new ≡ old → AddsPair form real ns name old new
  none-added ns name old new lacks is = record {
    added = [];
    all = λ n. (λ among. absurd (Contains-none n among), λ (has, same). absurd (lacks (subst (Contains ns) same has)));
    rise = tt;
    new_is = is ∙ sym (append-nil old);
  }

  module _ (ns others : List ℕ) where
    -- ---- the rows of all names

    pub none-below : ArePairRowsBelow form real ns others 0 []
    none-below = record {
      common = [];
      all = λ n. (λ among. absurd (Contains-none n among), λ (has, has_, low). absurd (omega (arith, low)));
      rise = tt;
      text_is = refl;
    }

    pub more-below : (least found : ℕ) (text new : List ℕ) → Contains others found → least ≤ found
        → ((n : ℕ) → least ≤ n → n < found → Contains others n → ⊥)
        → ArePairRowsBelow form real ns others least text → AddsPair form real ns found text new
        → ArePairRowsBelow form real ns others (found + 1) new
    more-below least found text new at from between rows adds = record {
      common = rows.common ++ adds.added;
      all = λ n. (there n, back n);
      rise = rise-more rows.common adds.added rows.rise adds.rise (λ x y among among_.
          (let (has, has_, low) = (rows.all x).0 among in let (has_y, is) = (adds.all y).0 among_ in omega (arith, low, is, from)));
      text_is = adds.new_is ∙ ap (λ (t : List ℕ). t ++ pair_lines form real adds.added) rows.text_is
          ∙ sym (flat_map-append (λ n. pair_line form (real n) n) rows.common adds.added);
    }
      where
        there : (n : ℕ) → Contains (rows.common ++ adds.added) n → Contains ns n × Contains others n × (n < found + 1)
        there n among = elim (member-of rows.common adds.added n among) [
          | inl front ↦ let (has, has_, low) = (rows.all n).0 front in (has, has_, omega (arith, low, from))
          | inr end ↦ let (has, is) = (adds.all n).0 end in (has, subst (Contains others) (sym is) at, omega (arith, is))
        ]

        back : (n : ℕ) → Contains ns n × Contains others n × (n < found + 1) → Contains (rows.common ++ adds.added) n
        back n (has, has_, low) = elim (either n least) [
          | inl before ↦ member-front rows.common adds.added n ((rows.all n).1 (has, has_, before))
          | inr behind ↦ elim (either n found) [
            | inl within ↦ absurd (between n behind within has_)
            | inr over ↦ member-back rows.common adds.added n ((adds.all n).1 (has, omega (arith, low, over)))
          ]
        ]

  -- ---- of two files

  module _ (s : Schema) (formed : IsWellFormed s) (a b : FileMeaning) (kept others : List StoredInstance) (are : AreLinesOf s a kept)
      (are_ : AreLinesOf s b others) where
    bounded : (bound : ℕ) (text : List ℕ) → ((n : ℕ) → Contains (instance_names others) n → n < bound)
        → ArePairRowsBelow form real (instance_names kept) (instance_names others) bound text
        → ArePairRows form real (names a) (names b) text
    bounded bound text low rows = record {
      common = rows.common;
      all = λ n. (
        λ among. (let (has, has_, below) = (rows.all n).0 among in ((are.names_are n).1 has, (are_.names_are n).1 has_)),
        λ (has, has_). (rows.all n).1 ((are.names_are n).0 has, (are_.names_are n).0 has_, low n ((are_.names_are n).0 has_)),
      );
      rise = rows.rise;
      text_is = rows.text_is;
    }

    -- no name is left
    pub all-listed : (least : ℕ) (text : List ℕ) → ((n : ℕ) → least ≤ n → Contains (instance_names others) n → ⊥)
        → ArePairRowsBelow form real (instance_names kept) (instance_names others) least text
        → ArePairRows form real (names a) (names b) text
    all-listed least text none rows = bounded least text
        (λ n has. elim (either n least) [ inl below ↦ below | inr behind ↦ absurd (none n behind has) ]) rows

    -- nor is one behind the last name of 64 bits
    pub last-listed : (least found : ℕ) (text new : List ℕ) → Contains (instance_names others) found → least ≤ found
        → ((n : ℕ) → least ≤ n → n < found → Contains (instance_names others) n → ⊥) → ¬ (found + 1 < 2 ^ 64)
        → ArePairRowsBelow form real (instance_names kept) (instance_names others) least text
        → AddsPair form real (instance_names kept) found text new
        → ArePairRows form real (names a) (names b) new
    last-listed least found text new at from between last rows adds =
        bounded (found + 1) new (λ n has. (let low = name-low s formed b others are_ n ((are_.names_are n).1 has) in
        omega (arith, low, last)))
        (more-below (instance_names kept) (instance_names others) least found text new at from between rows adds)
