-- A run over the tokens of statements gives the statements.
use Rattle.std.proofs.Common.{◌≡◌, ℕ, Bool, true, false, List, [], ◌∷◌, ◌++◌, Option, Some, None, Result, Ok, Err, refl, ap, sym, ◌∙◌, arith, append_assoc, subst}
use Rattle.std.proofs.lemmas.List.{append-nil}
use Rattle.std.specs.List.{flat_map, AllByRecursion as Each}
use Rattle.p21_spec_exchange.specs.DataSection.{unnamed, named}
use Rattle.p21_spec_exchange.specs.Grammar.{IsNoUserKeyword, IsShallowPart, IsDataRecord}
use Rattle.p21_spec_exchange.specs.Parameter.{key_token, params_tokens}
use Rattle.p21_spec_exchange.specs.Record.{Part, Record, simple, complex, part_tokens, record_tokens}
use Rattle.p21_spec_exchange.specs.Statement.{SectionLine, Statement, section, header, instance, begin, header_start, section_end, data_start, finish, statement_tokens}
use Rattle.p21_spec_exchange.specs.Token as token
use Rattle.p21_spec_exchange.specs.Token.{Token}
use Rattle.p21_grammar.specs.Machine.{Head, bare, simply, among, part_row, idle, named as name_taken, equal, inside, keyed, instance_end, emit, ended, at_idle, at_header, end_record, closed_part}
use Rattle.p21_grammar.specs.Stage.{is_in_header, after, after_line, after_part, then_walk, walk}
use Rattle.p21_grammar.specs.declared.fault.GrammarFault.{GrammarFault}
use Rattle.p21_grammar.specs.declared.stage.Stage.{Stage}
use Rattle.p21_grammar.specs.declared.stage.Stage.TheVariants.{Start, Begun, Description, FileName, FileSchema, Further, Headed, Unnamed, Named, BehindUnnamed, BehindNamed, Ended}
use Rattle.p21_grammar.specs.Runs.{RunOutcome, run_outcome, with_first_statements, moved, run}
use Rattle.p21_grammar.specs.Sound.{IsSound}
use Rattle.p21_grammar.proofs.RunsParams.{IsAllowed, AreAllowed, Each-front, Each-back, run-row}

pub ok-same : (p q : Stage) → ◌≡◌ {A = Result Stage GrammarFault} (Ok p) (Ok q) → p ≡ q
ok-same p q e = cc

-- elsewhere than in the header
allowed-data : (p : Stage) → is_in_header p ≡ false → (ts : List Token) → Each IsNoUserKeyword ts → AreAllowed p ts
allowed-data p e ts all = subst (λ b. Each (IsAllowed b) ts) (sym e) all

allowed-header : (p : Stage) → is_in_header p ≡ true → (ts : List Token) → Each (IsAllowed true) ts → AreAllowed p ts
allowed-header p e ts all = subst (λ b. Each (IsAllowed b) ts) (sym e) all

run-part : (part : Part) (p : Stage) (h : Head) (x : List Token) → AreAllowed p (params_tokens part.params) → IsShallowPart part
    → run (token.left ∷ (params_tokens part.params ++ token.right ∷ x)) p (keyed h part.key) ≡ run x p (closed_part h part)
run-part part p h x allowed shallow = run-row part.params p (part_row h part.key) [] x tt allowed (omega (arith, shallow))

run-inside_key : (p : Stage) (n : ℕ) (done : List Part) (user : Bool) (w : List ℕ) (x : List Token) → IsNoUserKeyword (key_token (record { user = user; word = w }))
    → run (key_token (record { user = user; word = w }) ∷ x) p (inside n done) ≡ run x p (keyed (among n done) (record { user = user; word = w }))
run-inside_key p n done false w x none = refl
run-inside_key p n done true w x none = absurd none

run-equal_key : (p : Stage) (n : ℕ) (user : Bool) (w : List ℕ) (x : List Token) → IsNoUserKeyword (key_token (record { user = user; word = w }))
    → run (key_token (record { user = user; word = w }) ∷ x) p (equal n) ≡ run x p (keyed (simply n) (record { user = user; word = w }))
run-equal_key p n false w x none = refl
run-equal_key p n true w x none = absurd none

-- the tokens of a part with others behind it
part-with : (part : Part) (x : List Token) → part_tokens part ++ x ≡ key_token part.key ∷ token.left ∷ (params_tokens part.params ++ token.right ∷ x)
part-with part x = ap (λ z. key_token part.key ∷ token.left ∷ z) (append_assoc (params_tokens part.params) (token.right ∷ []) x)

params-none : (part : Part) → Each IsNoUserKeyword (part_tokens part) → Each IsNoUserKeyword (params_tokens part.params)
params-none part none = Each-front IsNoUserKeyword (params_tokens part.params) (token.right ∷ []) none.1.1

run-parts : (parts done : List Part) (p : Stage) (n : ℕ) (x : List Token) → is_in_header p ≡ false → Each IsNoUserKeyword (flat_map part_tokens parts) → Each IsShallowPart parts
    → run (flat_map part_tokens parts ++ x) p (inside n done) ≡ run x p (inside n (done ++ parts))
run-parts [] done p n x outside none shallow = ap (λ z. run x p (inside n z)) (sym (append-nil done))
run-parts (part ∷ parts) done p n x outside none shallow =
    let here : Each IsNoUserKeyword (part_tokens part) = Each-front IsNoUserKeyword (part_tokens part) (flat_map part_tokens parts) none in
    let rest : List Token = flat_map part_tokens parts ++ x in
    ap (λ z. run z p (inside n done)) (append_assoc (part_tokens part) (flat_map part_tokens parts) x ∙ part-with part rest)
    ∙ run-inside_key p n done part.key.user part.key.word (token.left ∷ (params_tokens part.params ++ token.right ∷ rest)) here.0
    ∙ run-part part p (among n done) rest (allowed-data p outside (params_tokens part.params) (params-none part here)) shallow.0
    ∙ run-parts parts (done ++ part ∷ []) p n x outside (Each-back IsNoUserKeyword (part_tokens part) (flat_map part_tokens parts) none) shallow.1
    ∙ ap (λ z. run x p (inside n z)) (append_assoc done (part ∷ []) parts)

run-record : (r : Record) (p : Stage) (n : ℕ) (x : List Token) → is_in_header p ≡ false → IsDataRecord r → run (record_tokens r ++ x) p (equal n) ≡ run x p (instance_end n r)
run-record (simple part) p n x outside is =
    ap (λ z. run z p (equal n)) (part-with part x)
    ∙ run-equal_key p n part.key.user part.key.word (token.left ∷ (params_tokens part.params ++ token.right ∷ x)) is.no_user_keywords.0
    ∙ run-part part p (simply n) x (allowed-data p outside (params_tokens part.params) (params-none part is.no_user_keywords)) is.shallow.0
run-record (complex []) p n x outside is = absurd (omega (arith, is.some_parts))
run-record (complex (part ∷ parts)) p n x outside is =
    ap (λ z. run (token.left ∷ z) p (equal n)) (append_assoc (flat_map part_tokens (part ∷ parts)) (token.right ∷ []) x)
    ∙ run-parts (part ∷ parts) [] p n (token.right ∷ x) outside (Each-front IsNoUserKeyword (flat_map part_tokens (part ∷ parts)) (token.right ∷ []) is.no_user_keywords.1) is.shallow

run-instance : (p : Stage) (n : ℕ) (r : Record) (q : Stage) (x : List Token) → after p (instance n r) ≡ Ok q → IsDataRecord r
    → run (statement_tokens (instance n r) ++ x) p idle ≡ with_first_statements (instance n r ∷ []) (run x q idle)
run-instance Unnamed n r q x e is =
    ap (λ z. run (token.equals ∷ z) Unnamed (name_taken n)) (append_assoc (record_tokens r) (token.semicolon ∷ []) x)
    ∙ run-record r Unnamed n (token.semicolon ∷ x) refl is
    ∙ ap (λ z. with_first_statements (instance n r ∷ []) (run x z idle)) (ok-same Unnamed q e)
run-instance Named n r q x e is =
    ap (λ z. run (token.equals ∷ z) Named (name_taken n)) (append_assoc (record_tokens r) (token.semicolon ∷ []) x)
    ∙ run-record r Named n (token.semicolon ∷ x) refl is
    ∙ ap (λ z. with_first_statements (instance n r ∷ []) (run x z idle)) (ok-same Named q e)
run-instance other n r q x e is = absurd cc

idle-header : (p : Stage) → is_in_header p ≡ true → (t : Token) → at_idle p t ≡ at_header p t
idle-header Description h t = refl
idle-header FileName h t = refl
idle-header FileSchema h t = refl
idle-header Further h t = refl
idle-header other h t = absurd cc

pub part-in_header : (p : Stage) (part : Part) (q : Stage) → after_part p part ≡ Ok q → is_in_header p ≡ true
part-in_header Description part q e = refl
part-in_header FileName part q e = refl
part-in_header FileSchema part q e = refl
part-in_header Further part q e = refl
part-in_header other part q e = absurd cc

run-header_key : (p : Stage) (user : Bool) (w : List ℕ) (x : List Token)
    → moved (at_header p (key_token (record { user = user; word = w }))) (run x) ≡ run x p (keyed bare (record { user = user; word = w }))
run-header_key p true w x = refl
run-header_key p false w x = refl

end-header : (p : Stage) (part : Part) (q : Stage) → is_in_header p ≡ true → after_part p part ≡ Ok q → end_record p part ≡ emit (header part) q
end-header p part q h e = rw h (ap (ended (header part)) e)

run-header : (p : Stage) (part : Part) (q : Stage) (x : List Token) → after p (header part) ≡ Ok q → IsSound (header part)
    → run (statement_tokens (header part) ++ x) p idle ≡ with_first_statements (header part ∷ []) (run x q idle)
run-header p part q x e is =
    let h = part-in_header p part q e in
    ap (λ z. run z p idle) (append_assoc (part_tokens part) (token.semicolon ∷ []) x ∙ part-with part (token.semicolon ∷ x))
    ∙ ap (λ z. moved z (run (token.left ∷ (params_tokens part.params ++ token.right ∷ token.semicolon ∷ x)))) (idle-header p h (key_token part.key))
    ∙ run-header_key p part.key.user part.key.word (token.left ∷ (params_tokens part.params ++ token.right ∷ token.semicolon ∷ x))
    ∙ run-part part p bare (token.semicolon ∷ x) (allowed-header p h (params_tokens part.params) (Each-front (IsAllowed true) (params_tokens part.params) (token.right ∷ []) is.1.1.1)) is.0
    ∙ ap (λ z. moved z (run x)) (end-header p part q h e)

run-line : (p : Stage) (l : SectionLine) (q : Stage) (x : List Token) → after_line p l ≡ Ok q → run (statement_tokens (section l) ++ x) p idle ≡ with_first_statements (section l ∷ []) (run x q idle)
run-line Start begin q x e = ap (λ z. with_first_statements (section begin ∷ []) (run x z idle)) (ok-same Begun q e)
run-line Begun header_start q x e = ap (λ z. with_first_statements (section header_start ∷ []) (run x z idle)) (ok-same Description q e)
run-line Further section_end q x e = ap (λ z. with_first_statements (section section_end ∷ []) (run x z idle)) (ok-same Headed q e)
run-line Headed (data_start unnamed) q x e = ap (λ z. with_first_statements (section (data_start unnamed) ∷ []) (run x z idle)) (ok-same Unnamed q e)
run-line Headed (data_start (named name schema)) q x e = ap (λ z. with_first_statements (section (data_start (named name schema)) ∷ []) (run x z idle)) (ok-same Named q e)
run-line Unnamed section_end q x e = ap (λ z. with_first_statements (section section_end ∷ []) (run x z idle)) (ok-same BehindUnnamed q e)
run-line Named section_end q x e = ap (λ z. with_first_statements (section section_end ∷ []) (run x z idle)) (ok-same BehindNamed q e)
run-line BehindNamed (data_start (named name schema)) q x e = ap (λ z. with_first_statements (section (data_start (named name schema)) ∷ []) (run x z idle)) (ok-same Named q e)
run-line BehindUnnamed finish q x e = ap (λ z. with_first_statements (section finish ∷ []) (run x z idle)) (ok-same Ended q e)
run-line BehindNamed finish q x e = ap (λ z. with_first_statements (section finish ∷ []) (run x z idle)) (ok-same Ended q e)
run-line Description section_end q x e = absurd cc
run-line FileName section_end q x e = absurd cc
run-line FileSchema section_end q x e = absurd cc
run-line Ended section_end q x e = absurd cc
run-line p l q x e = absurd cc

run-statement : (s : Statement) (p q : Stage) (x : List Token) → after p s ≡ Ok q → IsSound s → run (statement_tokens s ++ x) p idle ≡ with_first_statements (s ∷ []) (run x q idle)
run-statement (section l) p q x e is = run-line p l q x e
run-statement (header part) p q x e is = run-header p part q x e is
run-statement (instance n r) p q x e is = run-instance p n r q x e is

pub with_first_statements-none : (o : Option RunOutcome) → with_first_statements [] o ≡ o
with_first_statements-none None = refl
with_first_statements-none (Some (run_outcome fs p sp)) = refl

pub with_first_statements-append : (es fs : List Statement) (o : Option RunOutcome) → with_first_statements es (with_first_statements fs o) ≡ with_first_statements (es ++ fs) o
with_first_statements-append es fs None = refl
with_first_statements-append es fs (Some (run_outcome gs p sp)) = ap (λ z. Some (run_outcome z p sp)) (sym (append_assoc es fs gs))

pub run-statements : (ss : List Statement) (p q : Stage) (x : List Token) → walk ss p ≡ Ok q → Each IsSound ss → run (flat_map statement_tokens ss ++ x) p idle ≡ with_first_statements ss (run x q idle)
run-statements [] p q x w are = sym (with_first_statements-none _) ∙ ap (λ z. with_first_statements [] (run x z idle)) (ok-same p q w)
run-statements (s ∷ ss) p q x w are = by (λ next v. run-statements ss next q x v are.1) (after p s) refl w where
  by : ((next : Stage) → walk ss next ≡ Ok q → run (flat_map statement_tokens ss ++ x) next idle ≡ with_first_statements ss (run x q idle))
      → (r : Result Stage GrammarFault) → after p s ≡ r → then_walk (walk ss) r ≡ Ok q → run (flat_map statement_tokens (s ∷ ss) ++ x) p idle ≡ with_first_statements (s ∷ ss) (run x q idle)
  by again (Ok next) e v =
      ap (λ z. run z p idle) (append_assoc (statement_tokens s) (flat_map statement_tokens ss) x)
      ∙ run-statement s p next (flat_map statement_tokens ss ++ x) e are.0
      ∙ ap (with_first_statements (s ∷ [])) (again next v)
      ∙ with_first_statements-append (s ∷ []) ss _
  by again (Err why) e v = absurd cc
