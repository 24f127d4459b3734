-- The parameters that are left of a record, one by one.
use Rattle.std.proofs.Common.{◌≡◌, ℕ, true, false, List, [], ◌∷◌, ◌++◌, length, refl, ap, sym, subst, ◌∙◌, arith, append-nil, append_assoc, inl, inr}
use Rattle.std.specs.Prelude.{Contains}
use Rattle.std.specs.List.{flat_map, zip, AllByRecursion as Each}
use Rattle.p21_express_graph.specs.declared.number.EntityId.{EntityId}
use Rattle.p21_express_graph.specs.Orders.{numbers}
use Rattle.p21_spec_basics.proofs.Members.{Contains-cases, Each-front, head_is}
use Rattle.p21_spec_exchange.specs.CanonicalText.{tokens_text}
use Rattle.p21_spec_exchange.specs.Keyword.{IsKeyword, IsUpper}
use Rattle.p21_spec_exchange.specs.Parameter.{Key, Param, Params, no_params, param, key_of, key_token, listed, params_tokens}
use Rattle.p21_spec_exchange.specs.Record.{Part}
use Rattle.p21_spec_exchange.specs.Token as token
use Rattle.p21_spec_exchange.specs.Token.{IsSpelled, Token}
use Rattle.p21_spec_file.specs.Meaning.{NamesEntity}
use Rattle.p21_spec_laws.proofs.ParamTexts.{tokens_text-append}
use Rattle.p21_spec_schema.proofs.Orders.{order_within-self}
use Rattle.p21_spec_schema.specs.Order.{order, places, own_places}
use Rattle.p21_spec_schema.specs.Schema.{EntityNamed, Place, Schema}
use Rattle.p21_model_values.proofs.Handing.{first-of}
use Rattle.p21_model_values.proofs.FirstBytes.{param-first}
use Rattle.p21_model_values.specs.Ends.{is_at_end}
use Rattle.p21_model_values.specs.Written.{AreLeft}
use Rattle.p21_model.specs.Left.{AreLeftParts, AreLeftRows, parts_text, places_left}
use Rattle.p21_model.specs.Rows.{ArePartRows, ArePartsRows, Row}

-- ---- the beginning of a simple record

-- its keyword, and what stands behind the parenthesis that follows
pub record IsOpened (s : Schema) (part : Part) (parts : List Part) (end bytes : List ℕ) (e : ℕ) : Type 0 where
  pub word : List ℕ
  pub rest : List ℕ
  pub after : List ℕ
  pub keyword : IsKeyword word
  pub named : EntityNamed s e word
  pub bytes_are : bytes ≡ word ++ (40 ∷ rest)
  pub left : AreLeft part.params after rest
  pub behind : AreLeftParts parts end after

pub opened : (s : Schema) (part : Part) (parts : List Part) (end bytes : List ℕ) (e : ℕ) → AreLeftParts (part ∷ parts) end bytes
    → NamesEntity s part.key e → IsOpened s part parts end bytes e
opened s part parts end bytes e left (name, named, is) =
    let params_text = tokens_text (params_tokens part.params) in
    let after = parts_text parts ++ end in
    let closed : List Token = params_tokens part.params ++ (token.right ∷ []) in
    let spelled : Each IsSpelled (key_token (key_of name) ∷ token.left ∷ closed) =
    subst (λ (k : Key). Each IsSpelled (key_token k ∷ token.left ∷ closed)) is left.written.0 in
    let written : bytes ≡ (tokens_text (key_token (key_of name) ∷ token.left ∷ closed) ++ parts_text parts) ++ end =
    left.bytes_are ∙ ap (λ (k : Key). (tokens_text (key_token k ∷ token.left ∷ closed) ++ parts_text parts) ++ end) is in
    let closing : tokens_text closed ≡ params_text ++ (41 ∷ []) = tokens_text-append (params_tokens part.params) (token.right ∷ []) in
    record {
      word = name;
      rest = params_text ++ (41 ∷ after);
      after = after;
      keyword = spelled.0.1.1;
      named = named;
      bytes_are = written ∙ by_text name params_text (tokens_text closed) closing;
      left = record { written = Each-front IsSpelled (params_tokens part.params) (token.right ∷ []) spelled.1.1; bytes_are = refl };
      behind = record { written = left.written.1; bytes_are = refl; ends = left.ends };
    }
  where
    by_text : (word inside closed : List ℕ) → closed ≡ inside ++ (41 ∷ [])
        → ((word ++ (40 ∷ closed)) ++ parts_text parts) ++ end ≡ word ++ (40 ∷ (inside ++ (41 ∷ (parts_text parts ++ end))))
    by_text word inside closed e =
        ap (λ (xs : List ℕ). ((word ++ (40 ∷ xs)) ++ parts_text parts) ++ end) e
        ∙ append_assoc (word ++ (40 ∷ (inside ++ (41 ∷ [])))) (parts_text parts) end
        ∙ append_assoc word (40 ∷ (inside ++ (41 ∷ []))) (parts_text parts ++ end)
        ∙ ap (λ (xs : List ℕ). word ++ (40 ∷ xs)) (append_assoc inside (41 ∷ []) (parts_text parts ++ end))

-- the parameters of a simple record at the places of one entity, and those of the simple records behind it
pub part-rows : (s : Schema) (part : Part) (parts : List Part) (end bytes rest : List ℕ) (places_of : ℕ → List Place)
    (own later rows : List Row) (rows_part : ArePartRows s places_of part own) → (o : IsOpened s part parts end bytes rows_part.entity)
    → ArePartsRows s parts later → rows ≡ own ++ later → (found : List Place) → found ≡ places_of rows_part.entity → rest ≡ o.rest
    → AreLeftRows s found rest rows
part-rows s part parts end bytes rest places_of own later rows rows_part o later_are rows_are found found_is rest_is = record {
  params = part.params;
  after = o.after;
  left = subst (AreLeft part.params o.after) (sym rest_is) o.left;
  as_many = ap length found_is ∙ rows_part.as_many;
  parts = parts;
  end = end;
  behind = o.behind;
  later = later;
  later_are = later_are;
  rows_are = rows_are ∙ ap (λ (xs : List Row). xs ++ later)
      (rows_part.rows_are ∙ ap (λ (xs : List Place). zip xs (listed part.params)) (sym found_is));
}

-- the places of one entity alone, and those of an order
pub alone-places : (s : Schema) (e : ℕ) → places_left s (e ∷ []) 0 ≡ own_places s e
alone-places s e = append-nil (own_places s e)

pub order-places : (s : Schema) (es : List ℕ) → places_left s es 0 ≡ flat_map (own_places s) es
order-places s [] = refl
order-places s (e ∷ es) = refl

pub alone-found : (s : Schema) (listed_ alone : List ℕ) (found e : ℕ) → listed_ ≡ order s found
    → (Contains listed_ found → alone ≡ found ∷ []) → found ≡ e → places_left s alone 0 ≡ own_places s e
alone-found s listed_ alone found e is one same =
    let Has : List ℕ → Type 0 = λ xs. Contains xs found in
    ap (λ (es : List ℕ). places_left s es 0) (one (subst Has (sym is) (order_within-self s (length s.entities) found)))
    ∙ alone-places s found ∙ ap (own_places s) same

pub order-found : (s : Schema) (listed_ : List ℕ) (found e : ℕ) → listed_ ≡ order s found → found ≡ e → places_left s listed_ 0 ≡ places s e
order-found s listed_ found e is same = order-places s listed_ ∙ ap (flat_map (own_places s)) is ∙ ap (places s) same

-- a simple record begins with no parenthesis
pub part-first : (s : Schema) (part : Part) (parts : List Part) (end bytes rest : List ℕ) (e : ℕ) → IsOpened s part parts end bytes e
    → bytes ≡ 40 ∷ rest → ⊥
part-first s part parts end bytes rest e o is = by_word o.word o.keyword (sym is ∙ o.bytes_are)
  where
    not-left : (byte : ℕ) → IsUpper byte → 40 ≡ byte → ⊥
    not-left byte (inl h) same = omega (arith, h, same)
    not-left byte (inr h) same = omega (arith, h, same)

    by_word : (word : List ℕ) → IsKeyword word → 40 ∷ rest ≡ word ++ (40 ∷ o.rest) → ⊥
    by_word [] keyword same = absurd keyword
    by_word (byte ∷ word) keyword same = not-left byte keyword.0 (head_is 40 byte rest (word ++ (40 ∷ o.rest)) same)

-- ---- the end of a simple record

-- where no parameter is left, the rows are those of the simple records behind it
pub record IsAtEnd (s : Schema) (bytes : List ℕ) (rows : List Row) : Type 0 where
  pub after : List ℕ
  pub bytes_are : bytes ≡ 41 ∷ after
  pub parts : List Part
  pub end : List ℕ
  pub behind : AreLeftParts parts end after
  pub rows_are : ArePartsRows s parts rows

pub at-end : (s : Schema) (found : List Place) (bytes : List ℕ) (rows : List Row) → AreLeftRows s found bytes rows → is_at_end bytes ≡ true
    → IsAtEnd s bytes rows
at-end s found bytes rows l ends = by_params l.params found l.left l.as_many l.rows_are
  where
    by_params : (ps : Params) (found : List Place) → AreLeft ps l.after bytes → length found ≡ length (listed ps)
        → rows ≡ zip found (listed ps) ++ l.later → IsAtEnd s bytes rows
    by_params no_params [] left many are = record {
      after = l.after;
      bytes_are = left.bytes_are;
      parts = l.parts;
      end = l.end;
      behind =
          l.behind;
      rows_are = subst (ArePartsRows s l.parts) (sym are) l.later_are;
    }
    by_params no_params (place ∷ more) left many are = absurd (omega (arith, many))
    by_params (param p ps) found left many are =
        let first = first-of bytes p ps l.after left in
        let none : is_at_end bytes ≡ false = ap is_at_end first.bytes_are ∙ param-first p first.written _ in
        cc

-- ---- the next parameter

pub record IsNextRow (s : Schema) (found : List Place) (bytes : List ℕ) (rows : List Row) : Type 0 where
  pub place : Place
  pub places : List Place
  pub p : Param
  pub ps : Params
  pub after : List ℕ
  pub others : List Row
  pub places_are : found ≡ place ∷ places
  pub left : AreLeft (param p ps) after bytes
  pub rows_are : rows ≡ (place, p) ∷ others
  pub go_on : (rest : List ℕ) → AreLeft ps after rest → AreLeftRows s places rest others

pub next-row : (s : Schema) (found : List Place) (bytes : List ℕ) (rows : List Row) → AreLeftRows s found bytes rows
    → is_at_end bytes ≡ false → IsNextRow s found bytes rows
next-row s found bytes rows l more = by_params l.params found l.left l.as_many l.rows_are
  where
    by_params : (ps : Params) (found : List Place) → AreLeft ps l.after bytes → length found ≡ length (listed ps)
        → rows ≡ zip found (listed ps) ++ l.later → IsNextRow s found bytes rows
    by_params no_params found left many are = let yes : is_at_end bytes ≡ true = ap is_at_end left.bytes_are in cc
    by_params (param p ps) [] left many are = absurd (omega (arith, many))
    by_params (param p ps) (place ∷ places) left many are = record {
      place = place;
      places = places;
      p = p;
      ps = ps;
      after = l.after;
      others = zip places (listed ps) ++ l.later;
      places_are = refl;
      left = left;
      rows_are = are;
      go_on = λ rest next. record {
        params = ps;
        after = l.after;
        left = next;
        as_many = omega (arith, many);
        parts = l.parts;
        end =
            l.end;
        behind = l.behind;
        later = l.later;
        later_are = l.later_are;
        rows_are = refl;
      };
    }

-- ---- one entity among others

pub among-later : (all rest behind : List EntityId) (first : EntityId) (e : ℕ) → (Contains (numbers all) e → Contains (numbers rest) e)
    → rest ≡ first ∷ behind → (first.0 ≡ e → ⊥) → Contains (numbers all) e → Contains (numbers behind) e
among-later all rest behind first e among is other has =
    let Has : List EntityId → Type 0 = λ xs. Contains (numbers xs) e in
    elim (Contains-cases first.0 (numbers behind) e (subst Has is (among has))) [ inl h ↦ absurd (other h) | inr h ↦ h ]
