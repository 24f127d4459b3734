-- Lists that are told one by one in the room that there is for them.
use Rattle.std.proofs.Common.{◌≡◌, ◌<◌, ◌+◌, ℕ, List, [], ◌∷◌, ◌++◌, None, Some, length, take, set, refl, sym, ap, arith, subst, ◌∙◌, append_assoc, inl, inr}
use Rattle.std.proofs.lemmas.List.{take_more_set}
use Rattle.std.specs.List.{AllZip}
use Rattle.p21_c.specs.Filled.{AreFirst, IsToldNumber, IsToldRow, IsToldUse}
use Rattle.p21_c.specs.Spans.{span_of}
use Rattle.p21_c.specs.declared.model_instances.AttributeValue.{AttributeValue}
use Rattle.p21_c.specs.declared.model_users.UseOf.{UseOf}
use Rattle.p21_express_graph.specs.Orders.{numbers}
use Rattle.p21_express_graph.specs.declared.number.EntityId.{EntityId}
use Rattle.p21_model.specs.EntitiesLeft.{HandsOutEntity, TellsEntities}
use Rattle.p21_model.specs.Left.{HandsOutRow, TellsRows}
use Rattle.p21_model.specs.Rows.{Row}
use Rattle.p21_model.specs.Uses.{HandsOutUse}
use Rattle.p21_model.specs.declared.attributes.Attribute.{Attribute}
use Rattle.p21_model.specs.declared.attributes.Attributes.{Attributes}
use Rattle.p21_model.specs.declared.entities.Entities.{Entities}
use Rattle.p21_model.specs.declared.users.Use.{Use}
use Rattle.p21_model_uses.specs.UseRows.{UseRow}
use Rattle.p21_model_values.specs.Spelled.{AreLeftCharacters, HandsOutCharacter}

-- some of these are told, so many, and this holds of the others
pub record AreTold {X Y : Type 0} (IsTold : X → Y → Type 0) (Left : List X → Type 0) (xs : List X) (room : List Y) (count : ℕ) : Type
    0 where
  pub front : List X
  pub rest : List X
  pub parts : xs ≡ front ++ rest
  pub told : AllZip IsTold front (take count room)
  pub left : Left rest

-- the next one is told, and this holds of those behind it
pub record IsNextTold {X Y : Type 0} (IsTold : X → Y → Type 0) (Left : List X → Type 0) (told : Y) (xs : List X) : Type 0 where
  pub next : X
  pub behind : List X
  pub are : xs ≡ next ∷ behind
  pub is_told : IsTold next told
  pub left : Left behind

zip-more : {X Y : Type 0} (R : X → Y → Type 0) (xs : List X) (ys : List Y) (x : X) (y : Y) → AllZip R xs ys → R x y
    → AllZip R (xs ++ x ∷ []) (ys ++ y ∷ [])
zip-more R [] [] x y all one = (one, tt)
zip-more R [] (b ∷ ys) x y all one = absurd all
zip-more R (a ∷ xs) [] x y all one = absurd all
zip-more R (a ∷ xs) (b ∷ ys) x y all one = (all.0, zip-more R xs ys x y all.1 one)

pub none-told : {X Y : Type 0} (R : X → Y → Type 0) (Left : List X → Type 0) (xs : List X) (room : List Y) → Left xs
    → AreTold R Left xs room 0
none-told R Left xs [] left = record { front = []; rest = xs; parts = refl; told = tt; left = left }
none-told R Left xs (y ∷ room) left = record { front = []; rest = xs; parts = refl; told = tt; left = left }

pub one-told : {X Y : Type 0} (R : X → Y → Type 0) (Old New : List X → Type 0) (xs : List X) (room : List Y) (at : ℕ) (y : Y)
    → at < length room → AreTold R Old xs room at
    → ((rest : List X) → Old rest → IsNextTold R New y rest) → AreTold R New xs (set room at y) (at + 1)
one-told {X} R Old New xs room at y within so_far hands =
    let step = hands so_far.rest so_far.left in
    let joined : xs ≡ so_far.front ++ step.next ∷ step.behind = so_far.parts ∙ ap (λ rest. so_far.front ++ rest) step.are in
    record {
      front = so_far.front ++ step.next ∷ [];
      rest = step.behind;
      parts = joined ∙ sym (append_assoc so_far.front (step.next ∷ []) step.behind);
      told = subst (AllZip R (so_far.front ++ step.next ∷ [])) (sym (take_more_set room at y within))
          (zip-more R so_far.front (take at room) step.next y so_far.told step.is_told);
      left = step.left;
    }

-- no other one is left
pub all-told : {X Y : Type 0} (R : X → Y → Type 0) (Left : List X → Type 0) (xs : List X) (room : List Y) (count : ℕ)
    → AreTold R Left xs room count → ((rest : List X) → Left rest → rest ≡ []) → AreFirst R xs room count
all-told R Left xs room count told ends = record {
  front = told.front;
  rest = told.rest;
  parts = told.parts;
  told = told.told;
  all =
      inl (ends told.rest told.left);
}

-- no room is left
pub room-told : {X Y : Type 0} (R : X → Y → Type 0) (Left : List X → Type 0) (xs : List X) (room : List Y) (count at : ℕ) → at ≡ count
    → count ≡ length room → AreTold R Left xs room at → AreFirst R xs room count
room-told R Left xs room count at same full told =
    record {
      front = told.front;
      rest = told.rest;
      parts = told.parts;
      told =
          subst (λ n. AllZip R told.front (take n room)) same told.told;
      all = inr full;
    }

-- ---- what is handed out

pub row-handed : (found : Attribute) (new : Attributes) (told : AttributeValue)
    → told ≡ record { entity = found.place.entity.0; index = found.place.index; value = span_of found.value.text } → (rows : List Row)
    → HandsOutRow rows (Some found) new
    → IsNextTold IsToldRow (TellsRows new) told rows
row-handed found new told is [] wrong = absurd wrong
row-handed found new told is (row ∷ rows) handed =
    let shown : IsToldRow row record { entity = found.place.entity.0; index = found.place.index; value = span_of found.value.text } =
    (ap (λ p. p.entity) handed.0, ap (λ p. p.index) handed.0, (found.value.text, handed.1, refl)) in
    record { next = row; behind = rows; are = refl; is_told = subst (IsToldRow row) (sym is) shown; left = handed.2 }

pub no-row : (new : Attributes) (rows : List Row) → HandsOutRow rows None new → rows ≡ []
no-row new [] none = refl
no-row new (row ∷ rows) wrong = absurd wrong

pub entity-handed : (found : EntityId) (new : Entities) (entities : List ℕ) → HandsOutEntity entities (Some found) new
    → IsNextTold IsToldNumber (TellsEntities new) found.0 entities
entity-handed found new [] wrong = absurd wrong
entity-handed found new (e ∷ entities) handed = record { next = e; behind = entities; are = refl; is_told = handed.0; left = handed.1 }

pub no-entity-left : (new : Entities) (entities : List ℕ) → HandsOutEntity entities None new → entities ≡ []
no-entity-left new [] none = refl
no-entity-left new (e ∷ entities) wrong = absurd wrong

pub character-handed : (found told : ℕ) (rest : List ℕ) → told ≡ found → (characters : List ℕ)
    → HandsOutCharacter characters (Some found) rest → IsNextTold IsToldNumber (λ cs. AreLeftCharacters cs rest) told characters
character-handed found told rest is [] wrong = absurd wrong
character-handed found told rest is (c ∷ characters) handed =
    record { next = c; behind = characters; are = refl; is_told = is ∙ handed.0; left = handed.1 }

pub no-character : (rest : List ℕ) (characters : List ℕ) → HandsOutCharacter characters None rest → characters ≡ []
no-character rest [] none = refl
no-character rest (c ∷ characters) wrong = absurd wrong

pub use-handed : (found : Use) (told : UseOf) (old new : List UseRow)
    → told ≡ record { user = found.user; entity = found.place.entity.0; index = found.place.index } → HandsOutUse old (Some found) new
    → IsNextTold IsToldUse (λ left. left ≡ new) told old
use-handed found told [] new is wrong = absurd wrong
use-handed found told (u ∷ uses) new is handed =
    let shown : IsToldUse u record { user = found.user; entity = found.place.entity.0; index = found.place.index } =
    (handed.0, ap (λ p. p.entity) handed.1, ap (λ p. p.index) handed.1) in
    record { next = u; behind = uses; are = refl; is_told = subst (IsToldUse u) (sym is) shown; left = sym handed.2 }

pub no-use : (old new : List UseRow) → HandsOutUse old None new → old ≡ []
no-use [] new none = refl
no-use (u ∷ uses) new wrong = absurd wrong

-- ---- numbers of entities

pub number-handed : (old rest : List EntityId) (e : EntityId) → old ≡ e ∷ rest → (left : List ℕ) → left ≡ numbers old
    → IsNextTold IsToldNumber (λ left. left ≡ numbers rest) e.0 left
number-handed old rest e is left same = record {
  next = e.0;
  behind = numbers rest;
  are = same
      ∙ ap numbers is;
  is_told = refl;
  left = refl;
}

pub no-number : (old : List EntityId) → length old ≡ 0 → (left : List ℕ) → left ≡ numbers old → left ≡ []
no-number [] none left same = same
no-number (e ∷ old) none left same = let no : ⊥ = omega (arith, none) in absurd no
