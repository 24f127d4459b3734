-- Lists of names and of attributes, and what is declared with them, as they are written.
use Rattle.std.proofs.Common.{◌≡◌, ℕ, ◌<◌, Bool, true, List, [], ◌∷◌, ◌++◌, map, length, codes, Option, Some, None, refl, ap, sym, subst, ◌∙◌, arith}
use Rattle.std.specs.List.{flat_map, AllByRecursion as Each}
use Rattle.std.proofs.lemmas.Bool.{eqb-true}
use Rattle.std.proofs.lemmas.Slice.Eq.{bytes_eq-Decides}
use Rattle.p21_spec_schema.specs.Express.{Lexeme, identifier, digits, simple_string, encoded_string, symbol}
use Rattle.p21_spec_schema.specs.ReservedWord.{IsName, AreNames}
use Rattle.p21_spec_schema.specs.WrittenType.{WrittenType, word, symbols, optional_word, type_lexemes}
use Rattle.p21_spec_schema.specs.Separated.{comma_separated, names_lexemes}
use Rattle.p21_spec_schema.specs.EntityDeclaration as written
use Rattle.p21_spec_schema.specs.EntityDeclaration.{own, redeclared, attribute_lexemes, IsAttributeName, ExplicitAttributes, explicit_lexemes, AreExplicit, derived_lexemes, IsDerived}
use Rattle.p21_spec_schema.specs.Run.{IsRun, is_word, is_symbol, none}
use Rattle.p21_express_lexemes.specs.Runs.{AreApart, behind_run, run_of, left_of}
use Rattle.p21_express_lexemes.specs.Taking.{Items, put, take_symbol, take_word, take_name}
use Rattle.p21_express_lexemes.proofs.Put.{put-append}
use Rattle.p21_express_lexemes.proofs.Running.{nothing_apart, has_one_run}
use Rattle.p21_express_syntax.specs.Declaring.{comma_name_of, names_from, names_of, redeclared_at, own_of, attribute_of, comma_attribute_of, attributes_from, attributes_behind, explicit_of, derived_behind, derived_of, flat, step_bind}
use Rattle.p21_express_syntax.specs.Digest.{TypeDigest, AttributesDigest}
use Rattle.p21_express_syntax.specs.Digesting.{type_digest, name_digest, attributes_digest, derived_digest}
use Rattle.p21_express_syntax.specs.Many.{with_items, many_of}
use Rattle.p21_express_syntax.specs.DataTypes.{flag_of, type_of}
use Rattle.p21_express_syntax.specs.Within.{AreAttributesWithin}
use Rattle.p21_express_syntax.specs.declared.attributes.AttributeName.{AttributeName}
use Rattle.p21_express_syntax.proofs.Repeated.{Shortens, StepWritten, ManyWritten, step_written, many_is, written_shortens}
use Rattle.p21_express_syntax.proofs.Sounding.{OfSome, of_some, of_bind, of_choose, some_of, symbol_taken, word_taken, name_taken, flag_is, Written}
use Rattle.p21_express_syntax.proofs.TypesSound.{over, type_is}

-- ---- separated by commas

-- `,` and one more
abbrev pub comma : {A : Type 0} → (A → List Lexeme) → A → List Lexeme
comma f x = symbol 44 ∷ f x

pub put_separated : {A : Type 0} (f : A → List Lexeme) (first : A) (others : List A) (more : Items) → put (comma_separated f (first ∷ others)) more ≡ put (f first) (put (flat_map (comma f) others) more)
put_separated f first [] more = refl
put_separated f first (x ∷ others) more =
    put-append (f first ++ symbols (codes ",")) (comma_separated f (x ∷ others)) more
    ∙ (put-append (f first) (symbols (codes ",")) (put (comma_separated f (x ∷ others)) more)
    ∙ ap (λ (y : Items). put (f first) (Some (symbol 44) ∷ y)) (put_separated f x others more ∙ sym (put-append (f x) (flat_map (comma f) others) more)))

comma_some : {A : Type 0} (f : A → List Lexeme) (x : A) → 0 < length (comma f x)
comma_some f x = omega arith

-- ---- names

abbrev pub same_name : List ℕ → List ℕ
same_name name = name

pub map_same : (names : List (List ℕ)) → map same_name names ≡ names
map_same [] = refl
map_same (name ∷ names) = ap (λ (x : List (List ℕ)). name ∷ x) (map_same names)

pub comma_name_written : StepWritten comma_name_of (comma word) IsName same_name
unfolding comma_name_of
comma_name_written = step_written comma_name_of (comma word) IsName same_name (λ items. of_choose (take_symbol 44 items) _ _ _
    (λ r er. some_of (take_name r) _ (λ n en. let w = name_taken r n.0 n.1 en in record { tree = n.0; stands = symbol_taken 44 items r er ∙ ap (over (symbol 44)) w.0; is_one = w.1; same = refl }))
    (λ n. tt))

pub comma_name_shortens : Shortens comma_name_of
comma_name_shortens = written_shortens comma_name_of (comma word) IsName same_name comma_name_written (λ x. comma_some word x)

-- names behind a first one
pub record NamesFrom (first : List ℕ) (all : List (List ℕ)) (items rest : Items) : Type 0 where
  pub others : List (List ℕ)
  pub all_are : all ≡ first ∷ others
  pub stands : items ≡ put (flat_map (comma word) others) rest
  pub are_names : Each IsName others

from_others : (first : List ℕ) (items : Items) (o : Option (List (List ℕ) × Items)) → OfSome o (λ r. ManyWritten (comma word) IsName same_name r.0 items r.1) → OfSome (with_items (first ∷ []) o) (λ r. NamesFrom first r.0 items r.1)
from_others first items None h = tt
from_others first items (Some (names, rest)) h = record {
  others = names;
  all_are = refl;
  stands = subst (λ (x : List (List ℕ)). items ≡ put (flat_map (comma word) x) rest) (sym (map_same h.tree) ∙ h.same) h.stands;
  are_names = subst (λ (x : List (List ℕ)). Each IsName x) (sym (map_same h.tree) ∙ h.same) h.is_one;
}

from_is : (first : List ℕ) (items : Items) → OfSome (names_from first items) (λ r. NamesFrom first r.0 items r.1)
unfolding names_from
from_is first items = from_others first items (many_of comma_name_of items) (many_is comma_name_of (comma word) IsName same_name comma_name_written items)

pub put_names : (first : List ℕ) (names : List (List ℕ)) (more : Items) → put (names_lexemes (first ∷ names)) more ≡ over (symbol 40) (over (identifier first) (put (flat_map (comma word) names) (over (symbol 41) more)))
put_names first names more =
    ap (over (symbol 40)) (put-append (comma_separated word (first ∷ names)) (symbols (codes ")")) more ∙ put_separated word first names (over (symbol 41) more))

abbrev pub NamesWritten : List (List ℕ) → Items → Items → Type 0
NamesWritten names items rest = (items ≡ put (names_lexemes names) rest) × AreNames names

listed : (items a b c rest : Items) (first : List ℕ) (all : List (List ℕ)) → items ≡ over (symbol 40) a → a ≡ over (identifier first) b → IsName first → NamesFrom first all b c → c ≡ over (symbol 41) rest → NamesWritten all items rest
listed items a b c rest first all e f is n g =
    subst (λ (x : List (List ℕ)). NamesWritten x items rest) (sym n.all_are)
    (e ∙ (ap (over (symbol 40)) (f ∙ ap (over (identifier first)) (n.stands ∙ ap (put (flat_map (comma word) n.others)) g)) ∙ sym (put_names first n.others rest)), (omega arith, (is, n.are_names)))

pub names_are : (items : Items) → OfSome (names_of items) (λ f. NamesWritten f.0 items f.1)
unfolding names_of
names_are items = of_bind (take_symbol 40 items) _ _ (λ a ea. of_bind (take_name a) _ _ (λ first ef. of_bind (names_from first.0 first.1) _ _ (λ all el. of_bind (take_symbol 41 all.1) _ _ (λ rest er.
    let w = name_taken a first.0 first.1 ef in
    let n = of_some (names_from first.0 first.1) _ (from_is first.0 first.1) all el in
    listed items a first.1 all.1 rest first.0 all.0 (symbol_taken 40 items a ea) w.0 w.1 n (symbol_taken 41 all.1 rest er)))))

-- ---- attributes

abbrev pub AttributeWritten : AttributeName → Items → Items → Type 0
AttributeWritten value items rest = Written attribute_lexemes IsAttributeName name_digest value items rest

redeclared_is : (items : Items) → OfSome (redeclared_at items) (λ f. AttributeWritten f.0 (over (identifier (codes "SELF")) items) f.1)
unfolding redeclared_at
redeclared_is items = of_bind (take_symbol 92 items) _ _ (λ a ea. of_bind (take_name a) _ _ (λ e ee. of_bind (take_symbol 46 e.1) _ _ (λ b eb. of_bind (take_name b) _ _ (λ n en.
    let entity = name_taken a e.0 e.1 ee in
    let name = name_taken b n.0 n.1 en in
    record {
      tree = redeclared e.0 n.0;
      stands = ap (over (identifier (codes "SELF"))) (symbol_taken 92 items a ea ∙ ap (over (symbol 92)) (entity.0 ∙ ap (over (identifier e.0)) (symbol_taken 46 e.1 b eb ∙ ap (over (symbol 46)) name.0)));
      is_one = (entity.1, name.1);
      same = refl;
    }))))

own_is : (items : Items) (o : Option (List ℕ × Items)) → take_name items ≡ o → OfSome (own_of o) (λ p. OfSome p (λ f. AttributeWritten f.0 items f.1))
own_is items None e = tt
own_is items (Some (name, rest)) e = let w = name_taken items name rest e in record { tree = own name; stands = w.0; is_one = w.1; same = refl }

pub attribute_is : (items : Items) → OfSome (attribute_of items) (λ p. OfSome p (λ f. AttributeWritten f.0 items f.1))
unfolding attribute_of
attribute_is items = of_choose (take_word (codes "SELF") items) _ _ _
    (λ r er. some_of (redeclared_at r) _ (λ f ef.
    let w = of_some (redeclared_at r) _ (redeclared_is r) f ef in
    record { tree = w.tree; stands = word_taken (codes "SELF") items r er ∙ w.stands; is_one = w.is_one; same = w.same }))
    (λ n. own_is items (take_name items) refl)

flat_is : {A : Type 0} (o : Option (Option A)) (claim : A → Type 0) → OfSome o (λ p. OfSome p claim) → OfSome (flat o) claim
flat_is None claim h = tt
flat_is (Some None) claim h = tt
flat_is (Some (Some x)) claim h = h

pub comma_attribute_written : StepWritten comma_attribute_of (comma attribute_lexemes) IsAttributeName name_digest
unfolding comma_attribute_of
comma_attribute_written = step_written comma_attribute_of (comma attribute_lexemes) IsAttributeName name_digest (λ items. of_choose (take_symbol 44 items) _ _ _
    (λ r er. some_of (flat (attribute_of r)) _ (λ f ef.
    let w = of_some (flat (attribute_of r)) _ (flat_is (attribute_of r) _ (attribute_is r)) f ef in
    record { tree = w.tree; stands = symbol_taken 44 items r er ∙ ap (over (symbol 44)) w.stands; is_one = w.is_one; same = w.same }))
    (λ n. tt))

pub comma_attribute_shortens : Shortens comma_attribute_of
comma_attribute_shortens = written_shortens comma_attribute_of (comma attribute_lexemes) IsAttributeName name_digest comma_attribute_written (λ x. comma_some attribute_lexemes x)

-- attributes behind a first one
pub record AttributesFrom (first : AttributeName) (all : List AttributeName) (items rest : Items) : Type 0 where
  pub others : List written.AttributeName
  pub all_are : all ≡ first ∷ map name_digest others
  pub stands : items ≡ put (flat_map (comma attribute_lexemes) others) rest
  pub are_names : Each IsAttributeName others

all_others : (first : AttributeName) (items : Items) (o : Option (List AttributeName × Items)) → OfSome o (λ r. ManyWritten (comma attribute_lexemes) IsAttributeName name_digest r.0 items r.1) → OfSome (with_items (first ∷ []) o) (λ r. AttributesFrom first r.0 items r.1)
all_others first items None h = tt
all_others first items (Some (names, rest)) h = record { others = h.tree; all_are = ap (λ (x : List AttributeName). first ∷ x) (sym h.same); stands = h.stands; are_names = h.is_one }

attributes_are : (first : AttributeName) (items : Items) → OfSome (attributes_from first items) (λ r. AttributesFrom first r.0 items r.1)
unfolding attributes_from
attributes_are first items = all_others first items (many_of comma_attribute_of items) (many_is comma_attribute_of (comma attribute_lexemes) IsAttributeName name_digest comma_attribute_written items)

-- ---- explicit attributes

abbrev pub AreAttributes : ExplicitAttributes → Type 0
AreAttributes x = AreExplicit x × AreAttributesWithin x

pub put_explicit : (first : written.AttributeName) (others : List written.AttributeName) (optional : Bool) (type : WrittenType) (more : Items)
    → put (explicit_lexemes (record { names = first ∷ others; optional = optional; type = type })) more
    ≡ put (attribute_lexemes first) (put (flat_map (comma attribute_lexemes) others) (over (symbol 58) (put (optional_word optional (codes "OPTIONAL")) (put (type_lexemes type) (over (symbol 59) more)))))
put_explicit first others optional type more =
    put-append (comma_separated attribute_lexemes (first ∷ others) ++ symbols (codes ":") ++ optional_word optional (codes "OPTIONAL") ++ type_lexemes type) (symbols (codes ";")) more
    ∙ (put-append (comma_separated attribute_lexemes (first ∷ others) ++ symbols (codes ":") ++ optional_word optional (codes "OPTIONAL")) (type_lexemes type) (over (symbol 59) more)
    ∙ (put-append (comma_separated attribute_lexemes (first ∷ others) ++ symbols (codes ":")) (optional_word optional (codes "OPTIONAL")) (put (type_lexemes type) (over (symbol 59) more))
    ∙ (put-append (comma_separated attribute_lexemes (first ∷ others)) (symbols (codes ":")) (put (optional_word optional (codes "OPTIONAL")) (put (type_lexemes type) (over (symbol 59) more)))
    ∙ put_separated attribute_lexemes first others (over (symbol 58) (put (optional_word optional (codes "OPTIONAL")) (put (type_lexemes type) (over (symbol 59) more)))))))

attributes_same : (first : AttributeName) (tree : written.AttributeName) (others : List written.AttributeName) (all : List AttributeName) (optional : Bool) (type : WrittenType) (value : TypeDigest) → name_digest tree ≡ first → all ≡ first ∷ map name_digest others → type_digest type ≡ value
    → ◌≡◌ {A = AttributesDigest} (attributes_digest (record { names = tree ∷ others; optional = optional; type = type })) (record { names = all; optional = optional; type = value })
attributes_same first tree others all optional type value e f g = rw (f, ← e, ← g) refl

explicit_stands : (items a b c d e rest : Items) (first : written.AttributeName) (others : List written.AttributeName) (optional : Bool) (type : WrittenType) → items ≡ put (attribute_lexemes first) a → a ≡ put (flat_map (comma attribute_lexemes) others) b → b ≡ over (symbol 58) c → c ≡ put (optional_word optional (codes "OPTIONAL")) d
    → d ≡ put (type_lexemes type) e → e ≡ over (symbol 59) rest → items ≡ put (explicit_lexemes (record { names = first ∷ others; optional = optional; type = type })) rest
explicit_stands items a b c d e rest first others optional type p q r s t u = rw (p, q, r, s, t, u) (sym (put_explicit first others optional type rest))

behind_is : (first : AttributeName) (items behind : Items) → AttributeWritten first items behind → OfSome (attributes_behind first behind) (λ f. Written explicit_lexemes AreAttributes attributes_digest f.0 items f.1)
unfolding attributes_behind
behind_is first items behind w = of_bind (attributes_from first behind) _ _ (λ all el. of_bind (take_symbol 58 all.1) _ _ (λ a ea.
    let flag = flag_of (codes "OPTIONAL") a in
    of_bind (type_of 32 flag.1) _ _ (λ t et. of_bind (take_symbol 59 t.1) _ _ (λ rest er.
    let n = of_some (attributes_from first behind) _ (attributes_are first behind) all el in
    let ty = of_some (type_of 32 flag.1) _ (type_is 32 flag.1) t et in
    record {
      tree = record { names = w.tree ∷ n.others; optional = flag.0; type = ty.tree };
      stands = explicit_stands items behind all.1 a flag.1 t.1 rest w.tree n.others flag.0 ty.tree w.stands n.stands (symbol_taken 58 all.1 a ea) (flag_is (codes "OPTIONAL") a) ty.stands (symbol_taken 59 t.1 rest er);
      is_one = ((omega arith, (w.is_one, n.are_names), ty.is_one.0), (ty.is_one.1, ty.is_one.2));
      same = attributes_same first w.tree n.others all.0 flag.0 ty.tree t.0 w.same n.all_are ty.same;
    }))))

step_is : {A B : Type 0} (o : Option (Option (A × Items))) (go : A → Items → Option (B × Items)) (claim : B × Items → Type 0) → ((x : A) (r : Items) → ◌≡◌ {A = Option (Option (A × Items))} o (Some (Some (x, r))) → OfSome (go x r) claim) → OfSome (step_bind o go) (λ p. OfSome p claim)
step_is None go claim h = tt
step_is (Some None) go claim h = tt
step_is (Some (Some (x, r))) go claim h = h x r refl

one_attribute : (items : Items) (x : AttributeName) (r : Items) → ◌≡◌ {A = Option (Option (AttributeName × Items))} (attribute_of items) (Some (Some (x, r))) → AttributeWritten x items r
one_attribute items x r e = of_some {A = Option (AttributeName × Items)} (attribute_of items) (λ p. OfSome p (λ f. AttributeWritten f.0 items f.1)) (attribute_is items) (Some (x, r)) e

pub explicit_written : StepWritten explicit_of explicit_lexemes AreAttributes attributes_digest
unfolding explicit_of
explicit_written = step_written explicit_of explicit_lexemes AreAttributes attributes_digest (λ items. step_is (attribute_of items) attributes_behind _ (λ x r e. behind_is x items r (one_attribute items x r e)))

longer : (a b : List Lexeme) → 0 < length b → 0 < length (a ++ b)
longer [] b h = h
longer (x ∷ a) b h = omega arith

pub explicit_shortens : Shortens explicit_of
explicit_shortens = written_shortens explicit_of explicit_lexemes AreAttributes attributes_digest explicit_written (λ x. longer (comma_separated attribute_lexemes x.names ++ symbols (codes ":") ++ optional_word x.optional (codes "OPTIONAL") ++ type_lexemes x.type) (symbols (codes ";")) (omega arith))

-- ---- derived attributes

-- what is left behind a run is behind one
pub behind_has : (opens closes : Lexeme → Bool) (items : Items) (rest : Items) → behind_run opens closes items ≡ Some rest → (taken : List Lexeme) × (run_of opens closes 1 items ≡ Some (taken, rest))
unfolding behind_run
behind_has opens closes items rest e = by (run_of opens closes 1 items) e
  where
    by : (o : Option (List Lexeme × Items)) → left_of o ≡ Some rest → (taken : List Lexeme) × (o ≡ Some (taken, rest))
    by None q = cc
    by (Some (taken, left)) q = (taken, let f : left ≡ rest = cc in ap (λ (x : Items). Some (taken, x)) f)

pub symbol_only : (byte : ℕ) (last : Lexeme) → is_symbol byte last ≡ true → last ≡ symbol byte
symbol_only byte (symbol other) h = ap symbol (eqb-true other byte h)
symbol_only byte (identifier name) h = cc
symbol_only byte (digits ds) h = cc
symbol_only byte (simple_string inside) h = cc
symbol_only byte (encoded_string inside) h = cc

pub word_only : (name : List ℕ) (last : Lexeme) → is_word name last ≡ true → last ≡ identifier name
word_only name (identifier other) h = ap identifier ((bytes_eq-Decides other name).0 h)
word_only name (symbol other) h = cc
word_only name (digits ds) h = cc
word_only name (simple_string inside) h = cc
word_only name (encoded_string inside) h = cc

-- a run and the one lexeme that closes it
abbrev pub RunWritten : (Lexeme → Bool) → (Lexeme → Bool) → Lexeme → Items → Items → Type 0
RunWritten opens closes last items rest = (run : List Lexeme) × IsRun opens closes run × (items ≡ put run (over last rest))

pub run_written : (opens closes : Lexeme → Bool) (last : Lexeme) → AreApart opens closes → ((x : Lexeme) → closes x ≡ true → x ≡ last) → (items rest : Items) → behind_run opens closes items ≡ Some rest → RunWritten opens closes last items rest
run_written opens closes last apart sole items rest e =
    let taken = behind_has opens closes items rest e in
    let h = (has_one_run opens closes apart items rest taken).0 in
    (h.run, h.is_run, h.lexemes ∙ ap (λ (x : Lexeme). put h.run (over x rest)) (sole h.last h.closed))

pub put_derived : (name : written.AttributeName) (run : List Lexeme) (more : Items) → put (derived_lexemes (record { name = name; run = run })) more ≡ put (attribute_lexemes name) (over (symbol 58) (put run (over (symbol 59) more)))
put_derived name run more =
    put-append (attribute_lexemes name ++ symbols (codes ":") ++ run) (symbols (codes ";")) more
    ∙ (put-append (attribute_lexemes name ++ symbols (codes ":")) run (over (symbol 59) more) ∙ put-append (attribute_lexemes name) (symbols (codes ":")) (put run (over (symbol 59) more)))

derived_stands : (items a b rest : Items) (name : written.AttributeName) (run : List Lexeme) → items ≡ put (attribute_lexemes name) a → a ≡ over (symbol 58) b → b ≡ put run (over (symbol 59) rest) → items ≡ put (derived_lexemes (record { name = name; run = run })) rest
derived_stands items a b rest name run e f g = rw (e, f, g) (sym (put_derived name run rest))

derived_is : (name : AttributeName) (items behind : Items) → AttributeWritten name items behind → OfSome (derived_behind name behind) (λ f. Written derived_lexemes IsDerived derived_digest f.0 items f.1)
unfolding derived_behind
derived_is name items behind w = of_bind (take_symbol 58 behind) _ _ (λ a ea. of_bind (behind_run none (is_symbol 59) a) _ _ (λ rest er.
    let r = run_written none (is_symbol 59) (symbol 59) (nothing_apart (is_symbol 59)) (symbol_only 59) a rest er in
    record {
      tree = record { name = w.tree; run = r.0 };
      stands = derived_stands items behind a rest w.tree r.0 w.stands (symbol_taken 58 behind a ea) r.2;
      is_one = (w.is_one, r.1);
      same = w.same;
    }))

pub derived_written : StepWritten derived_of derived_lexemes IsDerived derived_digest
unfolding derived_of
derived_written = step_written derived_of derived_lexemes IsDerived derived_digest (λ items. step_is (attribute_of items) derived_behind _ (λ x r e. derived_is x items r (one_attribute items x r e)))

pub derived_shortens : Shortens derived_of
derived_shortens = written_shortens derived_of derived_lexemes IsDerived derived_digest derived_written (λ x. longer (attribute_lexemes x.name ++ symbols (codes ":") ++ x.run) (symbols (codes ";")) (omega arith))
