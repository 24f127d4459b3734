-- Rows behind others.
use Rattle.std.specs.Prelude.{◌≡◌, ◌≢◌, ℕ, Bool, true, false, List, [], ◌∷◌, ◌++◌, refl}
use Rattle.std.proofs.Common.{ap, ap₂, sym, subst, ◌∙◌}
use Rattle.std.proofs.lemmas.Grind.{flat_map-append}
use Rattle.std.proofs.lemmas.List.{append-nil, append_assoc}
use Rattle.p21_difference_rows.specs.Fronts.{first_front, front}
use Rattle.p21_difference_rows.specs.Listed.{HoldsNoFeed, MayStand, Row, all_told, row_line, rows_text, told}
use Rattle.p21_difference_rows.specs.Steps.{AddsFirst, AddsRest, AddsRows, AddsText, TellsAlone, TellsNone}
use Rattle.p21_difference_rows.specs.declared.row.RowForm.{RowForm}
use Rattle.p21_difference_rows.specs.declared.row.Subject.{Subject}
use Rattle.p21_spec_basics.proofs.Members.{Each-append}
use Rattle.p21_spec_differences.specs.Difference.{Difference}
use Rattle.p21_spec_differences.specs.LeftOut.{LeftOut}
use Rattle.p21_spec_schema.specs.Schema.{Schema}

-- ---- the rest of a row, byte by byte

pub no-text : (old : List ℕ) → AddsText old old
no-text old = record { rest = []; holds_none = tt; new_is = sym (append-nil old) }

pub byte-added : (old new : List ℕ) (byte : ℕ) → byte ≢ 10 → new ≡ old ++ (byte ∷ []) → AddsText old new
byte-added old new byte is_none is = record { rest = byte ∷ []; holds_none = (is_none, tt); new_is = is }

pub text-added : (old text new : List ℕ) → AddsText old text → AddsText text new → AddsText old new
text-added old text new adds more = record {
  rest = adds.rest ++ more.rest;
  holds_none = Each-append (λ (byte : ℕ). byte ≢ 10) adds.rest more.rest adds.holds_none more.holds_none;
  new_is = more.new_is ∙ ap (λ (t : List ℕ). t ++ more.rest) adds.new_is ∙ append_assoc old adds.rest more.rest;
}

pub rest-ended : (old text new : List ℕ) → AddsText old text → new ≡ text ++ (10 ∷ []) → AddsRest old new
rest-ended old text new adds is = record {
  rest = adds.rest;
  holds_none = adds.holds_none;
  new_is = is ∙ ap (λ (t : List ℕ). t ++ (10 ∷ [])) adds.new_is ∙ append_assoc old adds.rest (10 ∷ []);
}

-- ---- the first line

pub no-first : (form : RowForm) (asked : Bool) (old : List ℕ) → asked ≡ false → AddsFirst form asked old old
no-first form asked old is =
    let P : Bool → Type 0 = λ b. AddsFirst form b old old in
    subst P (sym is) (record { first = []; is_line = refl; new_is = sym (append-nil old) })

pub one-first : (form : RowForm) (asked : Bool) (old text new : List ℕ) → asked ≡ true → text ≡ old ++ first_front form
    → AddsRest text new → AddsFirst form asked old new
one-first form asked old text new is text_is adds =
    let P : Bool → Type 0 = λ b. AddsFirst form b old new in
    subst P (sym is) (record {
      first = first_front form ++ (adds.rest ++ (10 ∷ []));
      is_line = (adds.rest, adds.holds_none, refl);
      new_is = adds.new_is ∙ ap (λ (t : List ℕ). t ++ (adds.rest ++ (10 ∷ []))) text_is
          ∙ append_assoc old (first_front form) (adds.rest ++ (10 ∷ []));
    })

-- ---- rows

module _ (form : RowForm) (s : Schema) (real : ℕ → ℕ) (left : LeftOut) where
  pub none-added : (IsTold : List Difference → Type 0) (old : List ℕ) → IsTold [] → AddsRows form s real left IsTold old old
  none-added IsTold old is = record { rows = []; are_lines = tt; may_stand = tt; new_is = sym (append-nil old); is_told = is }

  -- a row, by its beginning and its rest
  pub one-added : (subject : Subject) (old text new : List ℕ) → MayStand left subject → text ≡ old ++ front form s real subject
      → AddsRest text new → AddsRows form s real left (TellsAlone (told subject)) old new
  one-added subject old text new stands is adds =
      let row : Row = record { subject = subject; rest = adds.rest } in record {
        rows = row ∷ [];
        are_lines = (adds.holds_none, tt);
        may_stand = (stands, tt);
        new_is = adds.new_is ∙ ap (λ (t : List ℕ). t ++ (adds.rest ++ (10 ∷ []))) is
            ∙ append_assoc old (front form s real subject) (adds.rest ++ (10 ∷ []))
            ∙ ap (λ (t : List ℕ). old ++ t) (sym (append-nil (row_line form s real row)));
        is_told = append-nil (told subject);
      }

  pub weaker-added : (IsTold IsSaid : List Difference → Type 0) (old new : List ℕ) → ((list : List Difference) → IsTold list → IsSaid list)
      → AddsRows form s real left IsTold old new → AddsRows form s real left IsSaid old new
  weaker-added IsTold IsSaid old new to adds = record {
    rows = adds.rows;
    are_lines = adds.are_lines;
    may_stand = adds.may_stand;
    new_is = adds.new_is;
    is_told =
        to (all_told adds.rows) adds.is_told;
  }

  -- rows and more rows
  pub more-added : (IsTold IsMore IsAll : List Difference → Type 0) (old text new : List ℕ)
      → ((list more : List Difference) → IsTold list → IsMore more → IsAll (list ++ more))
      → AddsRows form s real left IsTold old text → AddsRows form s real left IsMore text new → AddsRows form s real left IsAll old new
  more-added IsTold IsMore IsAll old text new to adds more = record {
    rows = adds.rows ++ more.rows;
    are_lines = Each-append (λ (row : Row). HoldsNoFeed row.rest) adds.rows more.rows adds.are_lines more.are_lines;
    may_stand = Each-append (λ (row : Row). MayStand left row.subject) adds.rows more.rows adds.may_stand more.may_stand;
    new_is = more.new_is ∙ ap (λ (t : List ℕ). t ++ rows_text form s real more.rows) adds.new_is
        ∙ append_assoc old (rows_text form s real adds.rows) (rows_text form s real more.rows)
        ∙ ap (λ (t : List ℕ). old ++ t) (sym (flat_map-append (row_line form s real) adds.rows more.rows));
    is_told = subst IsAll (sym (flat_map-append (λ (row : Row). told row.subject) adds.rows more.rows))
        (to (all_told adds.rows) (all_told more.rows) adds.is_told more.is_told);
  }

  -- rows that tell nothing, and more of them
  pub none-more : (old text new : List ℕ) → AddsRows form s real left TellsNone old text → AddsRows form s real left TellsNone text new
      → AddsRows form s real left TellsNone old new
  none-more old text new adds more =
      more-added TellsNone TellsNone TellsNone old text new
      (λ list others none none_. ap₂ (λ (xs ys : List Difference). xs ++ ys) none none_) adds more
