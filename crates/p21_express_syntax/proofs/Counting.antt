-- All declarations, one more at a time, and how many of them are kept.
use Rattle.std.proofs.Common.{◌≡◌, ◌≢◌, inl, inr, ℕ, ◌+◌, ◌≤◌, Bool, true, false, nat_le, List, [], ◌∷◌, ◌++◌, length, length-append, codes, Option, Some, None, refl, ap, sym, ◌∙◌, arith}
use Rattle.std.proofs.lemmas.Bool.{false_from_ne_true}
use Rattle.p21_express_lexemes.specs.Taking.{Items, take_word}
use Rattle.p21_express_syntax.specs.Declaring.{DeclarationDigest, entity, defined, passed, entity_at, defined_at, over_by, over_of, passed_word_of, passed_behind, declaration_of, entity_digests, defined_type_digests, count, if_few, begins_entity_or_type, declarations_of, digest_of, with_declaration}
use Rattle.p21_express_syntax.specs.Digest.{EntityDigest, DefinedTypeDigest, SchemaDigest}
use Rattle.p21_express_syntax.specs.Many.{with_items, many_of}
use Rattle.p21_express_syntax.specs.ReadSchema.{digest_count, SaysOneTooMany}
use Rattle.p21_express_syntax.specs.DataTypes.{bind, choose}
use Rattle.p21_express_syntax.specs.declared.schema.PassedWord.{PassedWord}
use Rattle.p21_express_syntax.proofs.Repeated.{loop_first, loop_more, loop_stop, loop_wrong, many_next, many_wrong}
use Rattle.p21_express_syntax.proofs.Schemas.{declaration_shortens}
use Rattle.p21_express_syntax.proofs.Sounding.{OfSome, of_some, of_bind, le_of, of_le}

entities_append : (a b : List DeclarationDigest) → entity_digests (a ++ b) ≡ entity_digests a ++ entity_digests b
entities_append [] b = refl
entities_append (entity x ∷ a) b = ap (λ (y : List EntityDigest). x ∷ y) (entities_append a b)
entities_append (defined x ∷ a) b = entities_append a b
entities_append (passed ∷ a) b = entities_append a b

types_append : (a b : List DeclarationDigest) → defined_type_digests (a ++ b) ≡ defined_type_digests a ++ defined_type_digests b
types_append [] b = refl
types_append (entity x ∷ a) b = types_append a b
types_append (defined x ∷ a) b = ap (λ (y : List DefinedTypeDigest). x ∷ y) (types_append a b)
types_append (passed ∷ a) b = types_append a b

count_append : (a b : List DeclarationDigest) → count (a ++ b) ≡ count a + count b
count_append a b =
    let e = ap length (entities_append a b) ∙ length-append (entity_digests a) (entity_digests b) in
    let t = ap length (types_append a b) ∙ length-append (defined_type_digests a) (defined_type_digests b) in
    omega arith

one_more : (name : List ℕ) (ds : List DeclarationDigest) (x : DeclarationDigest) → with_declaration (digest_of name ds) x ≡ digest_of name (ds ++ x ∷ [])
one_more name ds x = rw (entities_append ds (x ∷ []), types_append ds (x ∷ [])) refl

-- ---- what begins with the word of an entity or a type

over_passed : (o : Option (PassedWord × Items)) → OfSome (over_by o) (λ p. OfSome p (λ f. f.0 ≡ passed))
over_passed None = tt
over_passed (Some (w, r)) = of_bind (passed_behind w r) _ _ (λ rest e. refl)

no_entity_or_type : (items : Items) → begins_entity_or_type items ≡ false → OfSome (declaration_of items) (λ p. OfSome p (λ f. f.0 ≡ passed))
unfolding begins_entity_or_type declaration_of over_of
no_entity_or_type items h = by (take_word (codes "ENTITY") items) (take_word (codes "TYPE") items) h
  where
    by : (o p : Option Items) → choose {A = Bool} o (λ r. true) (choose {A = Bool} p (λ r. true) false) ≡ false
        → OfSome (choose {A = Option (Option (DeclarationDigest × Items))} o (λ a. Some (bind (entity_at a) (λ e. Some (entity e.0, e.1)))) (choose {A = Option (Option (DeclarationDigest × Items))} p (λ a. Some (bind (defined_at a) (λ t. Some (defined t.0, t.1)))) (over_by (passed_word_of items)))) (λ p. OfSome p (λ f. f.0 ≡ passed))
    by None None h = over_passed (passed_word_of items)
    by None (Some r) h = cc
    by (Some r) p h = cc

-- something is read, and what is kept of it counts
abbrev pub CountsOne : Option (Option (DeclarationDigest × Items)) → Type 0
CountsOne None = ⊥
CountsOne (Some None) = Unit {0}
CountsOne (Some (Some found)) = count (found.0 ∷ []) ≡ 1

entity_counts : (o : Option (EntityDigest × Items)) → CountsOne (Some (bind o (λ e. Some (entity e.0, e.1))))
entity_counts None = tt
entity_counts (Some found) = refl

type_counts : (o : Option (DefinedTypeDigest × Items)) → CountsOne (Some (bind o (λ t. Some (defined t.0, t.1))))
type_counts None = tt
type_counts (Some found) = refl

entity_or_type_counts : (items : Items) → begins_entity_or_type items ≡ true → CountsOne (declaration_of items)
unfolding begins_entity_or_type declaration_of
entity_or_type_counts items h = by (take_word (codes "ENTITY") items) (take_word (codes "TYPE") items) h
  where
    by : (o p : Option Items) → choose {A = Bool} o (λ r. true) (choose {A = Bool} p (λ r. true) false) ≡ true
        → CountsOne (choose {A = Option (Option (DeclarationDigest × Items))} o (λ a. Some (bind (entity_at a) (λ e. Some (entity e.0, e.1)))) (choose {A = Option (Option (DeclarationDigest × Items))} p (λ a. Some (bind (defined_at a) (λ t. Some (defined t.0, t.1)))) (over_of items)))
    by (Some a) p h = entity_counts (entity_at a)
    by None (Some a) h = type_counts (defined_at a)
    by None None h = cc

-- ---- the loop

pub record AllLead (start : Option (List DeclarationDigest × Items)) (name : List ℕ) (now : Items) (held : SchemaDigest) : Type 0 where
  pub ds : List DeclarationDigest
  pub leads : ◌≡◌ {A = Option (List DeclarationDigest × Items)} start (with_items ds (many_of declaration_of now))
  pub held_is : held ≡ digest_of name ds
  pub are_few : count ds ≤ 65535

pub leads_first : (name : List ℕ) (old : Items) (held : SchemaDigest) → held ≡ digest_of name [] → AllLead (many_of declaration_of old) name old held
leads_first name old held e = record { ds = []; leads = loop_first declaration_of old; held_is = e; are_few = omega arith }

digest_counts : (name : List ℕ) (ds : List DeclarationDigest) (held : SchemaDigest) → held ≡ digest_of name ds → digest_count held ≡ count ds
digest_counts name ds held e = ap digest_count e

pub leads_more : (start : Option (List DeclarationDigest × Items)) (name : List ℕ) (now new : Items) (held after : SchemaDigest) (x : DeclarationDigest) → AllLead start name now held → ◌≡◌ {A = Option (Option (DeclarationDigest × Items))} (declaration_of now) (Some (Some (x, new))) → after ≡ with_declaration held x
    → SaysOneTooMany false held now → AllLead start name new after
leads_more start name now new held after x l e a room = record {
  ds = l.ds ++ x ∷ [];
  leads = loop_more declaration_of declaration_shortens start l.ds now new x l.leads e;
  held_is = a ∙ (ap (λ (h : SchemaDigest). with_declaration h x) l.held_is ∙ one_more name l.ds x);
  are_few = few_more room;
}
  where
    counted : count (l.ds ++ x ∷ []) ≡ count l.ds + count (x ∷ [])
    counted = count_append l.ds (x ∷ [])

    most_one : (y : DeclarationDigest) → count (y ∷ []) ≤ 1
    most_one (entity z) = omega arith
    most_one (defined z) = omega arith
    most_one passed = omega arith

    few_more : SaysOneTooMany false held now → count (l.ds ++ x ∷ []) ≤ 65535
    few_more (inl n) = let c = counted in let h = digest_counts name l.ds held l.held_is in let m = most_one x in let f = l.are_few in let k : count l.ds ≢ 65535 = λ q. n (h ∙ q) in omega arith
    few_more (inr n) =
        let p : x ≡ passed = of_some {A = Option (DeclarationDigest × Items)} (declaration_of now) (λ p. OfSome p (λ f. f.0 ≡ passed)) (no_entity_or_type now n) (Some (x, new)) e in
        let c = counted in let z : count (x ∷ []) ≡ 0 = ap (λ (y : DeclarationDigest). count (y ∷ [])) p in let f = l.are_few in omega arith

few_read : (ds : List DeclarationDigest) (rest : Items) → count ds ≤ 65535 → if_few (ds, rest) ≡ Some (ds, rest)
few_read ds rest h = rw (of_le (count ds) 65535 h) refl

pub leads_stop : (old : Items) (name : List ℕ) (now new : Items) (held : SchemaDigest) → AllLead (many_of declaration_of old) name now held → ◌≡◌ {A = Option (Option (DeclarationDigest × Items))} (declaration_of now) None → new ≡ now
    → (ds : List DeclarationDigest) × ◌≡◌ {A = Option (List DeclarationDigest × Items)} (declarations_of old) (Some (ds, new)) × (held ≡ digest_of name ds)
unfolding declarations_of
leads_stop old name now new held l e same =
    (l.ds, rw (loop_stop declaration_of (many_of declaration_of old) l.ds now new l.leads e same) (few_read l.ds new l.are_few), l.held_is)

pub leads_wrong : (old : Items) (name : List ℕ) (now : Items) (held : SchemaDigest) → AllLead (many_of declaration_of old) name now held → ◌≡◌ {A = Option (Option (DeclarationDigest × Items))} (declaration_of now) (Some None) → ◌≡◌ {A = Option (List DeclarationDigest × Items)} (declarations_of old) None
unfolding declarations_of
leads_wrong old name now held l e = rw (loop_wrong declaration_of (many_of declaration_of old) l.ds now l.leads e) refl

not_few : (ds : List DeclarationDigest) (x : DeclarationDigest) (o : Option (List DeclarationDigest × Items)) → count ds ≡ 65535 → count (x ∷ []) ≡ 1 → bind (with_items ds (with_items (x ∷ []) o)) if_few ≡ None
not_few ds x None full one = refl
not_few ds x (Some (ys, rest)) full one =
    let c = count_append ds (x ∷ ys) in
    let d = count_append (x ∷ []) ys in
    let over : nat_le (count (ds ++ x ∷ ys)) 65535 ≡ false = false_from_ne_true (nat_le (count (ds ++ x ∷ ys)) 65535) (λ t. let w = le_of (count (ds ++ x ∷ ys)) 65535 t in omega arith) in
    rw over refl

too_many : (ds : List DeclarationDigest) (now : Items) (o : Option (Option (DeclarationDigest × Items))) → ◌≡◌ {A = Option (Option (DeclarationDigest × Items))} (declaration_of now) o → CountsOne o → count ds ≡ 65535 → bind (with_items ds (many_of declaration_of now)) if_few ≡ None
too_many ds now None e c full = absurd c
too_many ds now (Some None) e c full = rw (many_wrong declaration_of now e) refl
too_many ds now (Some (Some (x, rest))) e c full = rw (many_next declaration_of declaration_shortens now x rest e) (not_few ds x (many_of declaration_of rest) full c)

pub leads_full : (old : Items) (name : List ℕ) (now : Items) (held : SchemaDigest) → AllLead (many_of declaration_of old) name now held → SaysOneTooMany true held now → ◌≡◌ {A = Option (List DeclarationDigest × Items)} (declarations_of old) None
unfolding declarations_of
leads_full old name now held l room =
    rw l.leads (too_many l.ds now (declaration_of now) refl (entity_or_type_counts now room.1) (sym (digest_counts name l.ds held l.held_is) ∙ room.0))
