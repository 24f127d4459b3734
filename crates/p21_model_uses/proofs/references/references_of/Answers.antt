use Rattle.std.specs.Prelude.{◌≡◌, ◌+◌, ◌∷◌, [], List, Contains, map, take}
use Rattle.std.specs.List.{AllByRecursion as Each}
use Rattle.std.proofs.Common.{refl, sym, subst}
use Rattle.std.proofs.lemmas.List.Elements.{Contains-get_or}
use Rattle.p21_spec_basics.proofs.Members.{Each-append}
use Rattle.p21_model_uses.proofs.Grouped.{one-more-told}
use Rattle.p21_model_uses.specs.Tables.{IsWithin, told_by, user_and_place}
use Rattle.p21_model_uses.specs.UseRows.{UseRow}
use Rattle.p21_model_uses.specs.declared.references.Reference.{Reference}
use Rattle.p21_model_uses.proofs.references.references_of.Goals as goal

pub loop-at-preserved : goal.loop-at-preserved
loop-at-preserved c =
    let users = c.args.users.now in
    let places = c.args.places.now in
    let rows = c.args.rows.now in
    let k = c.loop-at.at in
    let P : List Reference → Type 0 = λ rs. (map (told_by users places) rs ≡ map user_and_place (take (k + 1) rows))
    × Each (IsWithin users places) rs in
    subst P (sym c.in_ok-push.ensures.items) (
      one-more-told users places c.loop-at.references.items c.in-Some.reference rows k (0, 0, 0, 0) c.row_at.result c.loop-at.invariant.0
          c.in-Some.ensures.told c.loop-at-test.true c.row_at.ensures,
      Each-append (IsWithin users places) c.loop-at.references.items (c.in-Some.reference ∷ []) c.loop-at.invariant.1
          (c.in-Some.ensures.within, tt),
    )

pub returns-in_default-clause-fault : goal.returns-in_default-clause-fault
returns-in_default-clause-fault c users places =
    let rows = c.args.rows.now in
    let among = subst (λ (u : UseRow). Contains rows u) (sym c.row_at.ensures)
    (Contains-get_or rows c.loop-at.at (0, 0, 0, 0) c.loop-at-test.true) in
    c.in_default.ensures.none rows among users places refl
