-- Declarations that were read are written so.
use Rattle.std.proofs.Common.{◌≡◌, ℕ, Bool, true, false, List, [], ◌∷◌, ◌++◌, map, codes, Option, Some, None, IfSome, refl, ap, sym, ◌∙◌, lit<}
use Rattle.std.specs.List.{Contains, flat_map, AllByRecursion as Each}
use Rattle.p21_spec_schema.specs.Express.{Lexeme, identifier, symbol}
use Rattle.p21_spec_schema.specs.ReservedWord.{AreNames}
use Rattle.p21_spec_schema.specs.Run.{IsRun, is_word, is_symbol, none}
use Rattle.p21_spec_schema.specs.WrittenType.{word, symbols}
use Rattle.p21_spec_schema.specs.Separated.{names_lexemes}
use Rattle.p21_spec_schema.specs.SupertypeConstraint.{SupertypeExpression, one_of, other_run, SupertypeConstraint, no_constraint, abstract_entity, abstract_supertype, abstract_supertype_of, supertype_of, one_of_lexemes, expression_lexemes, supertype_of_lexemes, constraint_lexemes, IsOneOf, IsExpression, IsConstraint}
use Rattle.p21_spec_schema.specs.EntityDeclaration.{ExplicitAttributes, DerivedAttribute, Rules, EntityDeclaration, explicit_lexemes, derived_lexemes, subtype_lexemes, derive_lexemes, rules_lexemes, entity_lexemes, AreExplicit, IsDerived, AreRules, IsEntityDeclaration}
use Rattle.p21_spec_schema.specs.TypeDeclaration as type_declaration
use Rattle.p21_spec_schema.specs.TypeDeclaration.{TypeDeclaration, body_lexemes, where_lexemes, type_declaration_lexemes, IsBody, IsTypeDeclaration}
use Rattle.p21_express_lexemes.specs.Runs.{behind_run}
use Rattle.p21_express_lexemes.specs.Taking.{Items, put, take_symbol, take_word, take_name}
use Rattle.p21_express_lexemes.proofs.Put.{put-append}
use Rattle.p21_express_lexemes.proofs.Running.{nothing_apart, parentheses_apart}
use Rattle.p21_express_syntax.specs.Declaring.{names_of, one_of_of, expression_by, expression_of, abstract_at, constraint_of, supertypes_of, derive_of, take_rules, entity_end, entity_at, body_of, type_end, defined_at, explicit_of, derived_of}
use Rattle.p21_express_syntax.specs.Digest.{ConstraintDigest, AttributesDigest, EntityDigest, BodyDigest, underlying, DefinedTypeDigest}
use Rattle.p21_express_syntax.specs.Digesting.{attributes_digest, expression_digest, constraint_digest, derived_digest, derived_digests, entity_digest, body_digest, defined_type_digest}
use Rattle.p21_express_syntax.specs.Many.{many_of}
use Rattle.p21_express_syntax.specs.DataTypes.{bind, type_of}
use Rattle.p21_express_syntax.specs.Within.{AreAttributesWithin, IsEntityWithin, IsBodyWithin, IsDefinedWithin}
use Rattle.p21_express_syntax.specs.declared.attributes.AttributeName.{AttributeName}
use Rattle.p21_express_syntax.proofs.Lists.{names_are, AreAttributes, explicit_written, derived_written, run_written, symbol_only, word_only}
use Rattle.p21_express_syntax.proofs.ListsRead.{names_read}
use Rattle.p21_express_syntax.proofs.Repeated.{many_is}
use Rattle.p21_express_syntax.proofs.Sounding.{OfSome, of_some, of_bind, of_choose, some_of, symbol_taken, word_taken, name_taken, Written}
use Rattle.p21_express_syntax.proofs.TypesSound.{over, type_is}
use Rattle.p21_spec_schema.specs.DeclaredEntity.{names_of as names_written}

-- ---- supertype constraints

pub one_of_read : (names : List (List ℕ)) (more : Items) → AreNames names → ◌≡◌ {A = Option (List (List ℕ) × Items)} (one_of_of (put (one_of_lexemes names) (over (symbol 41) more))) (Some (names, more))
unfolding one_of_of take_word take_symbol
one_of_read names more are =
    ap (λ (o : Option (List (List ℕ) × Items)). bind o (λ n. bind (take_symbol 41 n.1) (λ rest. Some (n.0, rest)))) (names_read names (over (symbol 41) more) are)

pub one_of_is : (items : Items) → OfSome (one_of_of items) (λ f. (items ≡ put (one_of_lexemes f.0) (over (symbol 41) f.1)) × AreNames f.0)
unfolding one_of_of
one_of_is items = of_bind (take_word (codes "ONEOF") items) _ _ (λ a ea. of_bind (names_of a) _ _ (λ n en. of_bind (take_symbol 41 n.1) _ _ (λ rest er.
    let w = of_some (names_of a) _ (names_are a) n en in
    (word_taken (codes "ONEOF") items a ea ∙ ap (over (identifier (codes "ONEOF"))) (w.0 ∙ ap (put (names_lexemes n.0)) (symbol_taken 41 n.1 rest er)), w.1))))

none_is : (x : List (List ℕ) × Items) → None ≡ Some x → ⊥
none_is x q = cc

no_one_of : (items : Items) (run : List Lexeme) (rest : Items) → one_of_of items ≡ None → items ≡ put run (over (symbol 41) rest) → ¬ IsOneOf run
no_one_of items run rest none e (names, are, is) = none_is (names, rest) (sym none ∙ (ap one_of_of (e ∙ ap (λ (x : List Lexeme). put x (over (symbol 41) rest)) is) ∙ one_of_read names rest are))

-- within the parentheses
pub record ExpressionWritten (value : Option (List (List ℕ))) (items rest : Items) : Type 0 where
  pub tree : SupertypeExpression
  pub stands : items ≡ put (expression_lexemes tree) (over (symbol 41) rest)
  pub is_one : IsExpression tree
  pub same : expression_digest tree ≡ value

expression_by_is : (items : Items) (o : Option (List (List ℕ) × Items)) → one_of_of items ≡ o → OfSome (expression_by o (behind_run (is_symbol 40) (is_symbol 41) items)) (λ f. ExpressionWritten f.0 items f.1)
expression_by_is items None e = of_bind (behind_run (is_symbol 40) (is_symbol 41) items) _ _ (λ rest er.
    let r = run_written (is_symbol 40) (is_symbol 41) (symbol 41) parentheses_apart (symbol_only 41) items rest er in
    record { tree = other_run r.0; stands = r.2; is_one = (r.1, no_one_of items r.0 rest e r.2); same = refl })
expression_by_is items (Some (names, rest)) e =
    let w = of_some (one_of_of items) _ (one_of_is items) (names, rest) e in
    record { tree = one_of names; stands = w.0; is_one = w.1; same = refl }

expression_is : (items : Items) → OfSome (expression_of items) (λ f. (a : Items) × (items ≡ over (symbol 40) a) × ExpressionWritten f.0 a f.1)
unfolding expression_of
expression_is items = of_bind (take_symbol 40 items) _ _ (λ a ea. some_of (expression_by (one_of_of a) (behind_run (is_symbol 40) (is_symbol 41) a)) _ (λ f ef.
    (a, symbol_taken 40 items a ea, of_some (expression_by (one_of_of a) (behind_run (is_symbol 40) (is_symbol 41) a)) _ (expression_by_is a (one_of_of a) refl) f ef)))

pub put_supertype_of : (e : SupertypeExpression) (more : Items) → put (supertype_of_lexemes e) more ≡ over (identifier (codes "SUPERTYPE")) (over (identifier (codes "OF")) (over (symbol 40) (put (expression_lexemes e) (over (symbol 41) more))))
put_supertype_of e more =
    put-append (word (codes "SUPERTYPE") ++ word (codes "OF") ++ symbols (codes "(") ++ expression_lexemes e) (symbols (codes ")")) more
    ∙ put-append (word (codes "SUPERTYPE") ++ word (codes "OF") ++ symbols (codes "(")) (expression_lexemes e) (over (symbol 41) more)

abbrev pub ConstraintWritten : ConstraintDigest → Items → Items → Type 0
ConstraintWritten value items rest = Written constraint_lexemes IsConstraint constraint_digest value items rest

constraint_same : (is_abstract : Bool) (tree : SupertypeExpression) (value : Option (List (List ℕ))) → expression_digest tree ≡ value → ◌≡◌ {A = ConstraintDigest} (record { is_abstract = is_abstract; one_of = expression_digest tree }) (record { is_abstract = is_abstract; one_of = value })
constraint_same is_abstract tree value e = rw e refl

supertype_stands : (items a b c rest : Items) (e : SupertypeExpression) → items ≡ over (identifier (codes "SUPERTYPE")) a → a ≡ over (identifier (codes "OF")) b → b ≡ over (symbol 40) c → c ≡ put (expression_lexemes e) (over (symbol 41) rest) → items ≡ put (supertype_of_lexemes e) rest
supertype_stands items a b c rest e p q r s = rw (p, q, r, s) (sym (put_supertype_of e rest))

abstract_is : (items behind : Items) → items ≡ over (identifier (codes "ABSTRACT")) behind → OfSome (abstract_at behind) (λ f. ConstraintWritten f.0 items f.1)
unfolding abstract_at
abstract_is items behind e = of_choose (take_word (codes "SUPERTYPE") behind) _ _ _
    (λ b eb. of_choose (take_word (codes "OF") b) _ _ _
    (λ c ec. of_bind (expression_of c) _ _ (λ x ex.
    let w = of_some (expression_of c) _ (expression_is c) x ex in
    record {
      tree = abstract_supertype_of w.2.tree;
      stands = e ∙ ap (over (identifier (codes "ABSTRACT"))) (supertype_stands behind b c w.0 x.1 w.2.tree (word_taken (codes "SUPERTYPE") behind b eb) (word_taken (codes "OF") b c ec) w.1 w.2.stands);
      is_one = w.2.is_one;
      same = constraint_same true w.2.tree x.0 w.2.same;
    }))
    (λ n. record { tree = abstract_supertype; stands = e ∙ ap (over (identifier (codes "ABSTRACT"))) (word_taken (codes "SUPERTYPE") behind b eb); is_one = tt; same = refl }))
    (λ n. record { tree = abstract_entity; stands = e; is_one = tt; same = refl })

constraint_is : (items : Items) → OfSome (constraint_of items) (λ f. ConstraintWritten f.0 items f.1)
unfolding constraint_of
constraint_is items = of_choose (take_word (codes "ABSTRACT") items) _ _ _
    (λ a ea. abstract_is items a (word_taken (codes "ABSTRACT") items a ea))
    (λ n. of_choose (take_word (codes "SUPERTYPE") items) _ _ _
    (λ b eb. of_bind (take_word (codes "OF") b) _ _ (λ c ec. of_bind (expression_of c) _ _ (λ x ex.
    let w = of_some (expression_of c) _ (expression_is c) x ex in
    record {
      tree = supertype_of w.2.tree;
      stands = supertype_stands items b c w.0 x.1 w.2.tree (word_taken (codes "SUPERTYPE") items b eb) (word_taken (codes "OF") b c ec) w.1 w.2.stands;
      is_one = w.2.is_one;
      same = constraint_same false w.2.tree x.0 w.2.same;
    })))
    (λ m. record { tree = no_constraint; stands = refl; is_one = tt; same = refl }))

-- ---- the clauses of an entity

pub record SupertypesWritten (value : List (List ℕ)) (items rest : Items) : Type 0 where
  pub tree : Option (List (List ℕ))
  pub stands : items ≡ put (subtype_lexemes tree) rest
  pub is_one : IfSome tree AreNames
  pub same : names_written tree ≡ value

supertypes_are : (items : Items) → OfSome (supertypes_of items) (λ f. SupertypesWritten f.0 items f.1)
unfolding supertypes_of
supertypes_are items = of_choose (take_word (codes "SUBTYPE") items) _ _ _
    (λ a ea. of_bind (take_word (codes "OF") a) _ _ (λ b eb. some_of (names_of b) _ (λ n en.
    let w = of_some (names_of b) _ (names_are b) n en in
    record { tree = Some n.0; stands = word_taken (codes "SUBTYPE") items a ea ∙ ap (over (identifier (codes "SUBTYPE"))) (word_taken (codes "OF") a b eb ∙ ap (over (identifier (codes "OF"))) w.0); is_one = w.1; same = refl })))
    (λ n. record { tree = None; stands = refl; is_one = tt; same = refl })

pub record DeriveWritten (value : List AttributeName) (items rest : Items) : Type 0 where
  pub tree : Option (List DerivedAttribute)
  pub stands : items ≡ put (derive_lexemes tree) rest
  pub is_one : IfSome tree (Each IsDerived)
  pub same : derived_digests tree ≡ value

derive_is : (items : Items) → OfSome (derive_of items) (λ f. DeriveWritten f.0 items f.1)
unfolding derive_of
derive_is items = of_choose (take_word (codes "DERIVE") items) _ _ _
    (λ a ea. some_of (many_of derived_of a) _ (λ n en.
    let w = of_some (many_of derived_of a) _ (many_is derived_of derived_lexemes IsDerived derived_digest derived_written a) n en in
    record { tree = Some w.tree; stands = word_taken (codes "DERIVE") items a ea ∙ ap (over (identifier (codes "DERIVE"))) w.stands; is_one = w.is_one; same = w.same }))
    (λ n. record { tree = None; stands = refl; is_one = tt; same = refl })

pub record EndWritten (items rest : Items) : Type 0 where
  pub tree : Option Rules
  pub stands : items ≡ put (rules_lexemes tree) (over (identifier (codes "END_ENTITY")) rest)
  pub is_one : IfSome tree AreRules

abbrev rule_words : List (List ℕ)
rule_words = codes "INVERSE" ∷ codes "UNIQUE" ∷ codes "WHERE" ∷ []

rules_is : (items : Items) → OfSome (take_rules items) (λ r. (first : List ℕ) × Contains rule_words first × (items ≡ over (identifier first) r))
unfolding take_rules
rules_is items = of_choose (take_word (codes "INVERSE") items) _ _ _ (λ r e. (codes "INVERSE", (0, lit< tt, refl), word_taken (codes "INVERSE") items r e))
    (λ n. of_choose (take_word (codes "UNIQUE") items) _ _ _ (λ r e. (codes "UNIQUE", (1, lit< tt, refl), word_taken (codes "UNIQUE") items r e))
    (λ m. some_of (take_word (codes "WHERE") items) _ (λ r e. (codes "WHERE", (2, lit< tt, refl), word_taken (codes "WHERE") items r e))))

end_is : (items : Items) → OfSome (entity_end items) (λ rest. EndWritten items rest)
unfolding entity_end
end_is items = of_choose (take_rules items) _ _ _
    (λ a ea. some_of (behind_run none (is_word (codes "END_ENTITY")) a) _ (λ rest er.
    let r = run_written none (is_word (codes "END_ENTITY")) (identifier (codes "END_ENTITY")) (nothing_apart (is_word (codes "END_ENTITY"))) (word_only (codes "END_ENTITY")) a rest er in
    let w = of_some (take_rules items) _ (rules_is items) a ea in
    record { tree = Some (record { first = w.0; run = r.0 }); stands = w.2 ∙ ap (over (identifier w.0)) r.2; is_one = (w.1, r.1) }))
    (λ n. some_of (take_word (codes "END_ENTITY") items) _ (λ rest er. record { tree = None; stands = word_taken (codes "END_ENTITY") items rest er; is_one = tt }))

-- ---- entities

abbrev pub IsEntity : EntityDeclaration → Type 0
IsEntity x = IsEntityDeclaration x × IsEntityWithin x

pub put_entity : (x : EntityDeclaration) (more : Items)
    → put (entity_lexemes x) more
    ≡ over (identifier (codes "ENTITY")) (over (identifier x.name) (put (constraint_lexemes x.constraint) (put (subtype_lexemes x.subtype_of) (over (symbol 59) (put (flat_map explicit_lexemes x.explicit) (put (derive_lexemes x.derive) (put (rules_lexemes x.rules)
    (over (identifier (codes "END_ENTITY")) (over (symbol 59) more)))))))))
put_entity x more = simp put-append

explicit_parts : (xs : List ExplicitAttributes) → Each AreAttributes xs → Each AreExplicit xs × Each AreAttributesWithin xs
explicit_parts [] h = (tt, tt)
explicit_parts (x ∷ xs) h = let r = explicit_parts xs h.1 in ((h.0.0, r.0), (h.0.1, r.1))

entity_stands : (x : EntityDeclaration) (items a b c d e f g h i rest : Items) → items ≡ over (identifier (codes "ENTITY")) a → a ≡ over (identifier x.name) b → b ≡ put (constraint_lexemes x.constraint) c → c ≡ put (subtype_lexemes x.subtype_of) d → d ≡ over (symbol 59) e → e ≡ put (flat_map explicit_lexemes x.explicit) f
    → f ≡ put (derive_lexemes x.derive) g → g ≡ put (rules_lexemes x.rules) (over (identifier (codes "END_ENTITY")) i) → i ≡ over (symbol 59) rest → items ≡ put (entity_lexemes x) rest
entity_stands x items a b c d e f g h i rest p q r s t u v w y = rw (p, q, r, s, t, u, v, w, y) (sym (put_entity x rest))

entity_same : (name : List ℕ) (constraint : SupertypeConstraint) (subtype_of : Option (List (List ℕ))) (explicit : List ExplicitAttributes) (derive : Option (List DerivedAttribute)) (rules : Option Rules) (c : ConstraintDigest) (s : List (List ℕ)) (e : List AttributesDigest) (d : List AttributeName)
    → constraint_digest constraint ≡ c → names_written subtype_of ≡ s → map attributes_digest explicit ≡ e → derived_digests derive ≡ d
    → ◌≡◌ {A = EntityDigest} (entity_digest (record { name = name; constraint = constraint; subtype_of = subtype_of; explicit = explicit; derive = derive; rules = rules })) (record { name = name; constraint = c; supertypes = s; explicit = e; derived = d })
entity_same name tree subtype_of explicit derive rules c s e d p q r t = rw (← p, ← q, ← r, ← t) refl

pub entity_is : (items : Items) → OfSome (entity_at items) (λ f. Written entity_lexemes IsEntity entity_digest f.0 (over (identifier (codes "ENTITY")) items) f.1)
unfolding entity_at
entity_is items = of_bind (take_name items) _ _ (λ n en. of_bind (constraint_of n.1) _ _ (λ c ec. of_bind (supertypes_of c.1) _ _ (λ s es. of_bind (take_symbol 59 s.1) _ _ (λ a ea. of_bind (many_of explicit_of a) _ _ (λ e ee. of_bind (derive_of e.1) _ _ (λ d ed. of_bind (entity_end d.1) _ _ (λ b eb. of_bind (take_symbol 59 b) _ _ (λ rest er.
    let name = name_taken items n.0 n.1 en in
    let constraint = of_some (constraint_of n.1) _ (constraint_is n.1) c ec in
    let supertypes = of_some (supertypes_of c.1) _ (supertypes_are c.1) s es in
    let explicit = of_some (many_of explicit_of a) _ (many_is explicit_of explicit_lexemes AreAttributes attributes_digest explicit_written a) e ee in
    let derive = of_some (derive_of e.1) _ (derive_is e.1) d ed in
    let end = of_some (entity_end d.1) _ (end_is d.1) b eb in
    let parts = explicit_parts explicit.tree explicit.is_one in
    let tree : EntityDeclaration = record { name = n.0; constraint = constraint.tree; subtype_of = supertypes.tree; explicit = explicit.tree; derive = derive.tree; rules = end.tree } in
    record {
      tree = tree;
      stands = entity_stands tree (over (identifier (codes "ENTITY")) items) items n.1 c.1 s.1 a e.1 d.1 d.1 b rest refl name.0 constraint.stands supertypes.stands (symbol_taken 59 s.1 a ea) explicit.stands derive.stands end.stands (symbol_taken 59 b rest er);
      is_one = (record { name_is = name.1; constraint_is = constraint.is_one; supertypes_are = supertypes.is_one; explicit_are = parts.0; derived_are = derive.is_one; rules_are = end.is_one }, parts.1);
      same = entity_same n.0 constraint.tree supertypes.tree explicit.tree derive.tree end.tree c.0 s.0 e.0 d.0 constraint.same supertypes.same explicit.same derive.same;
    }))))))))

-- ---- types

abbrev pub IsBodyOf : type_declaration.Body → Type 0
IsBodyOf x = IsBody x × IsBodyWithin x

body_is : (items : Items) → OfSome (body_of items) (λ f. Written body_lexemes IsBodyOf body_digest f.0 items f.1)
unfolding body_of
body_is items = of_choose (take_word (codes "ENUMERATION") items) _ _ _
    (λ a ea. of_bind (take_word (codes "OF") a) _ _ (λ b eb. of_bind (names_of b) _ _ (λ n en.
    let w = of_some (names_of b) _ (names_are b) n en in
    record { tree = type_declaration.enumeration n.0; stands = word_taken (codes "ENUMERATION") items a ea ∙ ap (over (identifier (codes "ENUMERATION"))) (word_taken (codes "OF") a b eb ∙ ap (over (identifier (codes "OF"))) w.0); is_one = (w.1, tt); same = refl })))
    (λ m. of_choose (take_word (codes "SELECT") items) _ _ _
    (λ a ea. of_bind (names_of a) _ _ (λ n en.
    let w = of_some (names_of a) _ (names_are a) n en in
    record { tree = type_declaration.select n.0; stands = word_taken (codes "SELECT") items a ea ∙ ap (over (identifier (codes "SELECT"))) w.0; is_one = (w.1, tt); same = refl }))
    (λ k. of_bind (type_of 32 items) _ _ (λ t et.
    let w = of_some (type_of 32 items) _ (type_is 32 items) t et in
    record { tree = type_declaration.underlying w.tree; stands = w.stands; is_one = (w.is_one.0, (w.is_one.1, w.is_one.2)); same = ap underlying w.same })))

pub record WhereWritten (items rest : Items) : Type 0 where
  pub tree : Option (List Lexeme)
  pub stands : items ≡ put (where_lexemes tree) (over (identifier (codes "END_TYPE")) rest)
  pub is_one : IfSome tree (IsRun none (is_word (codes "END_TYPE")))

where_is : (items : Items) → OfSome (type_end items) (λ rest. WhereWritten items rest)
unfolding type_end
where_is items = of_choose (take_word (codes "WHERE") items) _ _ _
    (λ a ea. some_of (behind_run none (is_word (codes "END_TYPE")) a) _ (λ rest er.
    let r = run_written none (is_word (codes "END_TYPE")) (identifier (codes "END_TYPE")) (nothing_apart (is_word (codes "END_TYPE"))) (word_only (codes "END_TYPE")) a rest er in
    record { tree = Some r.0; stands = word_taken (codes "WHERE") items a ea ∙ ap (over (identifier (codes "WHERE"))) r.2; is_one = r.1 }))
    (λ n. some_of (take_word (codes "END_TYPE") items) _ (λ rest er. record { tree = None; stands = word_taken (codes "END_TYPE") items rest er; is_one = tt }))

abbrev pub IsDefined : TypeDeclaration → Type 0
IsDefined x = IsTypeDeclaration x × IsDefinedWithin x

pub put_defined : (x : TypeDeclaration) (more : Items)
    → put (type_declaration_lexemes x) more
    ≡ over (identifier (codes "TYPE")) (over (identifier x.name) (over (symbol 61) (put (body_lexemes x.body) (over (symbol 59) (put (where_lexemes x.rules) (over (identifier (codes "END_TYPE")) (over (symbol 59) more)))))))
put_defined x more = simp put-append

defined_stands : (x : TypeDeclaration) (items a b c d e f rest : Items) → items ≡ over (identifier x.name) a → a ≡ over (symbol 61) b → b ≡ put (body_lexemes x.body) c → c ≡ over (symbol 59) d → d ≡ put (where_lexemes x.rules) (over (identifier (codes "END_TYPE")) f) → f ≡ over (symbol 59) rest
    → over (identifier (codes "TYPE")) items ≡ put (type_declaration_lexemes x) rest
defined_stands x items a b c d e f rest p q r s t u = rw (p, q, r, s, t, u) (sym (put_defined x rest))

defined_same : (name : List ℕ) (body : type_declaration.Body) (rules : Option (List Lexeme)) (b : BodyDigest) → body_digest body ≡ b → ◌≡◌ {A = DefinedTypeDigest} (defined_type_digest (record { name = name; body = body; rules = rules })) (record { name = name; body = b })
defined_same name body rules b p = rw (← p) refl

pub defined_is : (items : Items) → OfSome (defined_at items) (λ f. Written type_declaration_lexemes IsDefined defined_type_digest f.0 (over (identifier (codes "TYPE")) items) f.1)
unfolding defined_at
defined_is items = of_bind (take_name items) _ _ (λ n en. of_bind (take_symbol 61 n.1) _ _ (λ a ea. of_bind (body_of a) _ _ (λ b eb. of_bind (take_symbol 59 b.1) _ _ (λ c ec. of_bind (type_end c) _ _ (λ d ed. of_bind (take_symbol 59 d) _ _ (λ rest er.
    let name = name_taken items n.0 n.1 en in
    let body = of_some (body_of a) _ (body_is a) b eb in
    let end = of_some (type_end c) _ (where_is c) d ed in
    let tree : TypeDeclaration = record { name = n.0; body = body.tree; rules = end.tree } in
    record {
      tree = tree;
      stands = defined_stands tree items n.1 a b.1 c c d rest name.0 (symbol_taken 61 n.1 a ea) body.stands (symbol_taken 59 b.1 c ec) end.stands (symbol_taken 59 d rest er);
      is_one = (record { name_is = name.1; body_is = body.is_one.0; rules_are = end.is_one }, body.is_one.1);
      same = defined_same n.0 body.tree end.tree b.0 body.same;
    }))))))
