-- What a step leaves: the tokens that are held, how they stand, and the stage of the file.
use Rattle.std.proofs.Common.{◌≡◌, ℕ, ◌+◌, ◌<◌, ◌≤◌, suc, max, Bool, true, false, List, [], ◌∷◌, ◌++◌, length, Result, Ok, Err, refl, ap, sym, ◌∙◌, arith, append_assoc}
use Rattle.std.proofs.lemmas.Bool.{ltb-true}
use Rattle.std.proofs.lemmas.List.{append-nil}
use Rattle.std.proofs.lemmas.Slice.Eq.{bytes_eq-Decides}
use Rattle.std.specs.Prelude.{if◌then◌else◌, nat_lt, codes}
use Rattle.std.specs.List.{flat_map, AllByRecursion as Each}
use Rattle.std.specs.Str.{bytes_eq}
use Rattle.p21_spec_exchange.specs.DataSection.{unnamed, heading_of}
use Rattle.p21_spec_exchange.specs.Grammar.{IsShallowPart}
use Rattle.p21_spec_exchange.specs.Nesting.{depth, params_depth}
use Rattle.p21_spec_exchange.specs.Parameter.{Key, key_of, Param, dollar, star, whole, real, text, name, item, bits, list, typed, Params, no_params, param, key_token, param_tokens, params_tokens, more_tokens}
use Rattle.p21_spec_exchange.specs.Record.{Part, Record, parts_of, part_tokens}
use Rattle.p21_spec_exchange.specs.Statement.{SectionLine, Statement, section, header, instance, header_start, section_end, data_start, section_tokens, statement_tokens}
use Rattle.p21_spec_exchange.specs.Token as token
use Rattle.p21_spec_exchange.specs.Token.{Token}
use Rattle.p21_grammar.specs.Machine.{Head, bare, simply, among, Opening, part_row, list_row, typed_row, Open, open_at, Spot, idle, line, named as name_taken, equal, inside, keyed, next, word, behind, record_end, instance_end, Move, go, emit, refuse, ended, step, push, pushed, put, enter, close, close_typed, close_empty, closed_part, comma, at_next, at_keyed, end_keyword, end_heading, end_record, at_idle}
use Rattle.p21_grammar.specs.Stage.{is_in_header, after, after_heading}
use Rattle.p21_grammar.specs.Shape.{is_key, is_heading}
use Rattle.p21_grammar.specs.declared.fault.GrammarFault.{GrammarFault}
use Rattle.p21_grammar.specs.declared.fault.GrammarFault.TheVariants.{Unexpected, TooDeep, LeftOut, SectionShape}
use Rattle.p21_tokens_automaton.specs.declared.mode.Absent.TheVariants.{UserKeyword}
use Rattle.p21_grammar.specs.declared.stage.Stage.{Stage}
use Rattle.p21_grammar.specs.declared.stage.Stage.TheVariants.{Start, Begun, Description, FileName, FileSchema, Further, Headed, Unnamed, Named, BehindUnnamed, BehindNamed, Ended}
use Rattle.p21_grammar.proofs.Shapes.{key-is, heading-tokens}
use Rattle.p21_grammar.specs.Runs.{ready_tokens, head_tokens, opening_tokens, row_tokens, stack_tokens, filled_tokens, pending}
use Rattle.p21_spec_basics.proofs.Members.{Each-append}

-- where a parameter may begin: a typed parameter has none yet
abbrev pub IsReady : Open → Type 0
IsReady (open_at (part_row h k) ps) = Unit {0}
IsReady (open_at list_row ps) = Unit {0}
IsReady (open_at (typed_row k) ps) = ps ≡ no_params

-- behind a parameter
abbrev pub IsFilled : Open → Type 0
IsFilled (open_at (part_row h k) ps) = (q : Param) × (us : Params) × (ps ≡ param q us)
IsFilled (open_at list_row ps) = (q : Param) × (us : Params) × (ps ≡ param q us)
IsFilled (open_at (typed_row k) ps) = (q : Param) × (ps ≡ param q no_params)

abbrev pub IsShallowHead : Head → Type 0
IsShallowHead bare = Unit {0}
IsShallowHead (simply n) = Unit {0}
IsShallowHead (among n parts) = Each IsShallowPart parts

-- the outermost row is that of a simple record, and none is nested too deep
abbrev pub IsNested : Open → List Open → Type 0
IsNested (open_at (part_row h k) ps) st = (st ≡ []) × (params_depth ps ≤ 64) × IsShallowHead h
IsNested (open_at list_row ps) [] = ⊥
IsNested (open_at list_row ps) (row ∷ st) = (params_depth ps + suc (length st) ≤ 64) × IsReady row × IsNested row st
IsNested (open_at (typed_row k) ps) [] = ⊥
IsNested (open_at (typed_row k) ps) (row ∷ st) = (params_depth ps + suc (length st) ≤ 64) × IsReady row × IsNested row st

-- one part at least, and none nested too deep
abbrev pub IsShallowRecord : Record → Type 0
IsShallowRecord r = (0 < length (parts_of r)) × Each IsShallowPart (parts_of r)

abbrev pub IsFine : Spot → Type 0
IsFine (inside n parts) = Each IsShallowPart parts
IsFine (keyed h k) = IsShallowHead h
IsFine (next row st) = IsReady row × IsNested row st
IsFine (word k row st) = IsReady row × IsNested row st
IsFine (behind row st) = IsFilled row × IsNested row st
IsFine (record_end part) = IsShallowPart part
IsFine (instance_end n r) = IsShallowRecord r
IsFine other = Unit {0}

abbrev pub IsShallowStatement : Statement → Type 0
IsShallowStatement (section l) = Unit {0}
IsShallowStatement (header part) = IsShallowPart part
IsShallowStatement (instance n r) = IsShallowRecord r

-- a move from where these tokens are held, the newest among them
abbrev pub Follows : Move → List Token → Type 0
Follows (go p sp) h = IsFine sp × (h ≡ pending sp)
Follows (emit s p) h = IsShallowStatement s × (h ≡ statement_tokens s)
Follows (refuse why) h = Unit {0}

more-push : (ps : Params) (q : Param) → more_tokens (push ps q) ≡ token.comma ∷ (ready_tokens ps ++ param_tokens q)
more-push no_params q = ap (λ z. token.comma ∷ z) (append-nil (param_tokens q))
more-push (param u ps) q =
    ap (λ z. token.comma ∷ (param_tokens u ++ z)) (more-push ps q)
    ∙ ap (λ z. token.comma ∷ z) (sym (append_assoc (param_tokens u) (token.comma ∷ ready_tokens ps) (param_tokens q)))

first-push : (ps : Params) (q : Param) → params_tokens (push ps q) ≡ ready_tokens ps ++ param_tokens q
first-push no_params q = append-nil (param_tokens q)
first-push (param u ps) q =
    ap (λ z. param_tokens u ++ z) (more-push ps q)
    ∙ sym (append_assoc (param_tokens u) (token.comma ∷ ready_tokens ps) (param_tokens q))

ready-more : (us : Params) → token.comma ∷ ready_tokens us ≡ more_tokens us ++ token.comma ∷ []
ready-more no_params = refl
ready-more (param q us) =
    ap (λ z. token.comma ∷ (param_tokens q ++ z)) (ready-more us)
    ∙ ap (λ z. token.comma ∷ z) (sym (append_assoc (param_tokens q) (more_tokens us) (token.comma ∷ [])))

ready-first : (q : Param) (us : Params) → ready_tokens (param q us) ≡ params_tokens (param q us) ++ token.comma ∷ []
ready-first q us = ap (λ z. param_tokens q ++ z) (ready-more us) ∙ sym (append_assoc (param_tokens q) (more_tokens us) (token.comma ∷ []))

depth-push : (ps : Params) (q : Param) → params_depth (push ps q) ≡ max (params_depth ps) (depth q)
depth-push no_params q = omega arith
depth-push (param u ps) q = omega (arith, depth-push ps q)

flat_map-push : {A B : Type 0} (f : A → List B) (xs : List A) (x : A) → flat_map f (xs ++ x ∷ []) ≡ flat_map f xs ++ f x
flat_map-push f [] x = append-nil (f x)
flat_map-push f (y ∷ xs) x = ap (λ z. f y ++ z) (flat_map-push f xs x) ∙ sym (append_assoc (f y) (flat_map f xs) (f x))

-- ---- parameters

pushed-filled : (row : Open) (q : Param) → IsReady row → IsFilled (pushed row q)
pushed-filled (open_at (part_row h k) no_params) q ready = (q, no_params, refl)
pushed-filled (open_at (part_row h k) (param u ps)) q ready = (u, push ps q, refl)
pushed-filled (open_at list_row no_params) q ready = (q, no_params, refl)
pushed-filled (open_at list_row (param u ps)) q ready = (u, push ps q, refl)
pushed-filled (open_at (typed_row k) ps) q ready = (q, ap (λ z. push z q) ready)

pushed-nested : (row : Open) (st : List Open) (q : Param) → IsNested row st → depth q + length st ≤ 64 → IsNested (pushed row q) st
pushed-nested (open_at (part_row h k) ps) st q nested deep = (nested.0, omega (arith, depth-push ps q, nested.1, deep), nested.2)
pushed-nested (open_at list_row ps) [] q nested deep = absurd nested
pushed-nested (open_at list_row ps) (row ∷ st) q nested deep = (omega (arith, depth-push ps q, nested.0, deep), nested.1, nested.2)
pushed-nested (open_at (typed_row k) ps) [] q nested deep = absurd nested
pushed-nested (open_at (typed_row k) ps) (row ∷ st) q nested deep = (omega (arith, depth-push ps q, nested.0, deep), nested.1, nested.2)

pushed-tokens : (row : Open) (st : List Open) (q : Param) → (stack_tokens st ++ row_tokens row) ++ param_tokens q ≡ stack_tokens st ++ filled_tokens (pushed row q)
pushed-tokens (open_at o ps) st q =
    append_assoc (stack_tokens st) (opening_tokens o ++ ready_tokens ps) (param_tokens q)
    ∙ ap (λ z. stack_tokens st ++ z) (append_assoc (opening_tokens o) (ready_tokens ps) (param_tokens q) ∙ ap (λ z. opening_tokens o ++ z) (sym (first-push ps q)))

put-follows : (p : Stage) (row : Open) (st : List Open) (q : Param) (h : List Token) → IsReady row → IsNested row st → depth q + length st ≤ 64
    → h ≡ (stack_tokens st ++ row_tokens row) ++ param_tokens q → Follows (put p row st q) h
put-follows p row st q h ready nested deep e = ((pushed-filled row q ready, pushed-nested row st q nested deep), e ∙ pushed-tokens row st q)

pub room-of : (row : Open) (st : List Open) → IsNested row st → length st ≤ 64
room-of (open_at (part_row h k) ps) st nested = rw nested.0 (omega arith)
room-of (open_at list_row ps) [] nested = absurd nested
room-of (open_at list_row ps) (row ∷ st) nested = omega (arith, nested.0)
room-of (open_at (typed_row k) ps) [] nested = absurd nested
room-of (open_at (typed_row k) ps) (row ∷ st) nested = omega (arith, nested.0)

scalar-room : (row : Open) (st : List Open) → IsNested row st → 0 + length st ≤ 64
scalar-room row st nested = omega (arith, room-of row st nested)

enter-follows : (p : Stage) (o : Opening) (row : Open) (st : List Open) (h : List Token) → IsReady row → IsNested row st → IsReady (open_at o no_params)
    → ((length st < 64) → IsNested (open_at o no_params) (row ∷ st)) → h ≡ (stack_tokens st ++ row_tokens row) ++ opening_tokens o → Follows (enter p o row st) h
enter-follows p o row st h ready nested new inner e = by (nat_lt (length st) 64) refl where
  by : (b : Bool) → nat_lt (length st) 64 ≡ b → Follows (if b then go p (next (open_at o no_params) (row ∷ st)) else refuse TooDeep) h
  by true room = ((new, inner (ltb-true (length st) 64 room)), e ∙ ap (λ z. (stack_tokens st ++ row_tokens row) ++ z) (sym (append-nil (opening_tokens o))))
  by false room = tt

list-follows : (p : Stage) (row : Open) (st : List Open) (h : List Token) → IsReady row → IsNested row st → h ≡ (stack_tokens st ++ row_tokens row) ++ token.left ∷ [] → Follows (enter p list_row row st) h
list-follows p row st h ready nested e = enter-follows p list_row row st h ready nested tt (λ room. (omega (arith, room), ready, nested)) e

typed-follows : (p : Stage) (k : Key) (row : Open) (st : List Open) (h : List Token) → IsReady row → IsNested row st → h ≡ (stack_tokens st ++ row_tokens row) ++ key_token k ∷ token.left ∷ [] → Follows (enter p (typed_row k) row st) h
typed-follows p k row st h ready nested e = enter-follows p (typed_row k) row st h ready nested refl (λ room. (omega (arith, room), ready, nested)) e

part-follows : (p : Stage) (h : Head) (part : Part) (tokens : List Token) → IsShallowHead h → IsShallowPart part → tokens ≡ head_tokens h ++ part_tokens part → Follows (go p (closed_part h part)) tokens
part-follows p bare part tokens head shallow e = (shallow, e)
part-follows p (simply n) part tokens head shallow e = ((omega arith, (shallow, tt)), e)
part-follows p (among n parts) part tokens head shallow e =
    (Each-append IsShallowPart parts (part ∷ []) head (shallow, tt), e ∙ ap (λ z. token.name n ∷ token.equals ∷ token.left ∷ z) (sym (flat_map-push part_tokens parts part)))

close_typed-follows : (p : Stage) (k : Key) (ps : Params) (row : Open) (st : List Open) (h : List Token) → params_depth ps + suc (length st) ≤ 64 → IsReady row → IsNested row st
    → h ≡ ((stack_tokens st ++ row_tokens row) ++ key_token k ∷ token.left ∷ params_tokens ps) ++ token.right ∷ [] → Follows (close_typed p (row ∷ st) k ps) h
close_typed-follows p k no_params row st h deep ready nested e = tt
close_typed-follows p k (param q no_params) row st h deep ready nested e =
    put-follows p row st (typed k q) h ready nested (omega (arith, deep))
    (e ∙ append_assoc (stack_tokens st ++ row_tokens row) (key_token k ∷ token.left ∷ (param_tokens q ++ [])) (token.right ∷ [])
    ∙ ap (λ z. (stack_tokens st ++ row_tokens row) ++ key_token k ∷ token.left ∷ (z ++ token.right ∷ [])) (append-nil (param_tokens q)))
close_typed-follows p k (param q (param r us)) row st h deep ready nested e = tt

close-follows : (p : Stage) (row : Open) (st : List Open) (h : List Token) → IsNested row st → h ≡ (stack_tokens st ++ filled_tokens row) ++ token.right ∷ [] → Follows (close p row st) h
close-follows p (open_at (part_row hd k) ps) st h nested e =
    part-follows p hd (record { key = k; params = ps }) h nested.2 nested.1
    (e ∙ ap (λ z. (stack_tokens z ++ ((head_tokens hd ++ key_token k ∷ token.left ∷ []) ++ params_tokens ps)) ++ token.right ∷ []) nested.0
    ∙ ap (λ z. z ++ token.right ∷ []) (append_assoc (head_tokens hd) (key_token k ∷ token.left ∷ []) (params_tokens ps))
    ∙ append_assoc (head_tokens hd) (key_token k ∷ token.left ∷ params_tokens ps) (token.right ∷ []))
close-follows p (open_at list_row ps) [] h nested e = absurd nested
close-follows p (open_at list_row ps) (row ∷ st) h nested e =
    put-follows p row st (list ps) h nested.1 nested.2 (omega (arith, nested.0)) (e ∙ append_assoc (stack_tokens (row ∷ st)) (token.left ∷ params_tokens ps) (token.right ∷ []))
close-follows p (open_at (typed_row k) ps) [] h nested e = absurd nested
close-follows p (open_at (typed_row k) ps) (row ∷ st) h nested e = close_typed-follows p k ps row st h nested.0 nested.1 nested.2 e

close_empty-follows : (p : Stage) (row : Open) (st : List Open) (h : List Token) → IsNested row st → h ≡ (stack_tokens st ++ row_tokens row) ++ token.right ∷ [] → Follows (close_empty p row st) h
close_empty-follows p (open_at o no_params) st h nested e = close-follows p (open_at o no_params) st h nested e
close_empty-follows p (open_at o (param q us)) st h nested e = tt

comma-tokens : (o : Opening) (ps : Params) (st : List Open) → (q : Param) × (us : Params) × (ps ≡ param q us) → (stack_tokens st ++ filled_tokens (open_at o ps)) ++ token.comma ∷ [] ≡ stack_tokens st ++ row_tokens (open_at o ps)
comma-tokens o ps st (q, us, is) =
    append_assoc (stack_tokens st) (opening_tokens o ++ params_tokens ps) (token.comma ∷ [])
    ∙ ap (λ z. stack_tokens st ++ z)
    (append_assoc (opening_tokens o) (params_tokens ps) (token.comma ∷ [])
    ∙ ap (λ z. opening_tokens o ++ z) (ap (λ z. params_tokens z ++ token.comma ∷ []) is ∙ sym (ready-first q us) ∙ ap ready_tokens (sym is)))

comma-follows : (p : Stage) (row : Open) (st : List Open) → IsFilled row → IsNested row st → Follows (comma p row st) ((stack_tokens st ++ filled_tokens row) ++ token.comma ∷ [])
comma-follows p (open_at (part_row h k) ps) st filled nested = ((tt, nested), comma-tokens (part_row h k) ps st filled)
comma-follows p (open_at list_row ps) st filled nested = ((tt, nested), comma-tokens list_row ps st filled)
comma-follows p (open_at (typed_row k) ps) st filled nested = tt

at_next-follows : (p : Stage) (row : Open) (st : List Open) (t : Token) → IsReady row → IsNested row st → Follows (at_next p row st t) ((stack_tokens st ++ row_tokens row) ++ t ∷ [])
at_next-follows p row st token.dollar ready nested = put-follows p row st dollar _ ready nested (scalar-room row st nested) refl
at_next-follows p row st token.star ready nested = put-follows p row st star _ ready nested (scalar-room row st nested) refl
at_next-follows p row st (token.whole z) ready nested = put-follows p row st (whole z) _ ready nested (scalar-room row st nested) refl
at_next-follows p row st (token.real d) ready nested = put-follows p row st (real d) _ ready nested (scalar-room row st nested) refl
at_next-follows p row st (token.text chars) ready nested = put-follows p row st (text chars) _ ready nested (scalar-room row st nested) refl
at_next-follows p row st (token.item w) ready nested = put-follows p row st (item w) _ ready nested (scalar-room row st nested) refl
at_next-follows p row st (token.bits value) ready nested = put-follows p row st (bits value) _ ready nested (scalar-room row st nested) refl
at_next-follows p row st (token.name n) ready nested = by (is_in_header p) where
  by : (b : Bool) → Follows (if b then refuse Unexpected else put p row st (name n)) ((stack_tokens st ++ row_tokens row) ++ token.name n ∷ [])
  by true = tt
  by false = put-follows p row st (name n) _ ready nested (scalar-room row st nested) refl
at_next-follows p row st (token.keyword w) ready nested = ((ready, nested), refl)
at_next-follows p row st (token.user_keyword w) ready nested = by (is_in_header p) where
  by : (b : Bool) → Follows (if b then go p (word (record { user = true; word = w }) row st) else refuse (LeftOut UserKeyword)) ((stack_tokens st ++ row_tokens row) ++ token.user_keyword w ∷ [])
  by true = ((ready, nested), refl)
  by false = tt
at_next-follows p row st token.left ready nested = list-follows p row st _ ready nested refl
at_next-follows p row st token.right ready nested = close_empty-follows p row st _ nested refl
at_next-follows p row st token.begin ready nested = tt
at_next-follows p row st token.finish ready nested = tt
at_next-follows p row st token.comma ready nested = tt
at_next-follows p row st token.semicolon ready nested = tt
at_next-follows p row st token.equals ready nested = tt

-- ---- statements

ended-follows : (s : Statement) (r : Result Stage GrammarFault) (h : List Token) → IsShallowStatement s → h ≡ statement_tokens s → Follows (ended s r) h
ended-follows s (Ok p) h shallow e = (shallow, e)
ended-follows s (Err why) h shallow e = tt

word-follows : (p : Stage) (w wanted : List ℕ) (sp : Spot) (why : GrammarFault) → IsFine sp → (w ≡ wanted → token.keyword w ∷ [] ≡ pending sp) → Follows (if bytes_eq w wanted then go p sp else refuse why) (token.keyword w ∷ [])
word-follows p w wanted sp why fine held = by (bytes_eq w wanted) refl where
  by : (b : Bool) → bytes_eq w wanted ≡ b → Follows (if b then go p sp else refuse why) (token.keyword w ∷ [])
  by true e = (fine, held ((bytes_eq-Decides w wanted).0 e))
  by false e = tt

key-follows : (k : Key) (wanted : List ℕ) (l : SectionLine) (r : Result Stage GrammarFault) (why : GrammarFault) → section_tokens l ≡ token.keyword wanted ∷ [] → Follows (if is_key wanted k then ended (section l) r else refuse why) (key_token k ∷ token.semicolon ∷ [])
key-follows k wanted l r why tokens = by (is_key wanted k) refl where
  by : (b : Bool) → is_key wanted k ≡ b → Follows (if b then ended (section l) r else refuse why) (key_token k ∷ token.semicolon ∷ [])
  by true e = ended-follows (section l) r _ tt (ap (λ z. key_token z ∷ token.semicolon ∷ []) (key-is wanted k e) ∙ ap (λ z. z ++ token.semicolon ∷ []) (sym tokens))
  by false e = tt

end_keyword-follows : (p : Stage) (k : Key) → Follows (end_keyword p k) (key_token k ∷ token.semicolon ∷ [])
end_keyword-follows p k = by (is_in_header p) where
  by : (b : Bool) → Follows (if b
      then (if is_key (codes "ENDSEC") k then ended (section section_end) (after p (section section_end)) else refuse Unexpected)
      else (if is_key (codes "DATA") k then ended (section (data_start unnamed)) (after p (section (data_start unnamed))) else refuse Unexpected)) (key_token k ∷ token.semicolon ∷ [])
  by true = key-follows k (codes "ENDSEC") section_end (after p (section section_end)) Unexpected refl
  by false = key-follows k (codes "DATA") (data_start unnamed) (after p (section (data_start unnamed))) Unexpected refl

end_heading-follows : (p : Stage) (part : Part) → Follows (end_heading p part) (part_tokens part ++ token.semicolon ∷ [])
end_heading-follows p part = by (is_heading part) refl where
  by : (b : Bool) → is_heading part ≡ b → Follows (if b then ended (section (data_start (heading_of part.params))) (after_heading p) else refuse SectionShape) (part_tokens part ++ token.semicolon ∷ [])
  by true e = ended-follows (section (data_start (heading_of part.params))) (after_heading p) _ tt (ap (λ z. z ++ token.semicolon ∷ []) (sym (heading-tokens part e)))
  by false e = tt

end_record-follows : (p : Stage) (part : Part) → IsShallowPart part → Follows (end_record p part) (part_tokens part ++ token.semicolon ∷ [])
end_record-follows p part shallow = by (is_in_header p) where
  by : (b : Bool) → Follows (if b then ended (header part) (after p (header part)) else end_heading p part) (part_tokens part ++ token.semicolon ∷ [])
  by true = ended-follows (header part) (after p (header part)) _ shallow refl
  by false = end_heading-follows p part

at_idle-follows : (p : Stage) (t : Token) → Follows (at_idle p t) (t ∷ [])
at_idle-follows Start token.begin = (tt, refl)
at_idle-follows Start other = tt
at_idle-follows Begun (token.keyword w) = word-follows Begun w (codes "HEADER") (line header_start) _ tt (ap (λ z. token.keyword z ∷ []))
at_idle-follows Begun other = tt
at_idle-follows Description (token.keyword w) = (tt, refl)
at_idle-follows Description (token.user_keyword w) = (tt, refl)
at_idle-follows Description other = tt
at_idle-follows FileName (token.keyword w) = (tt, refl)
at_idle-follows FileName (token.user_keyword w) = (tt, refl)
at_idle-follows FileName other = tt
at_idle-follows FileSchema (token.keyword w) = (tt, refl)
at_idle-follows FileSchema (token.user_keyword w) = (tt, refl)
at_idle-follows FileSchema other = tt
at_idle-follows Further (token.keyword w) = (tt, refl)
at_idle-follows Further (token.user_keyword w) = (tt, refl)
at_idle-follows Further other = tt
at_idle-follows Headed (token.keyword w) = word-follows Headed w (codes "DATA") (keyed bare (key_of w)) _ tt (λ e. refl)
at_idle-follows Headed other = tt
at_idle-follows Unnamed (token.name n) = (tt, refl)
at_idle-follows Unnamed (token.keyword w) = word-follows Unnamed w (codes "ENDSEC") (line section_end) Unexpected tt (ap (λ z. token.keyword z ∷ []))
at_idle-follows Unnamed other = tt
at_idle-follows Named (token.name n) = (tt, refl)
at_idle-follows Named (token.keyword w) = word-follows Named w (codes "ENDSEC") (line section_end) Unexpected tt (ap (λ z. token.keyword z ∷ []))
at_idle-follows Named other = tt
at_idle-follows BehindUnnamed token.finish = (tt, refl)
at_idle-follows BehindUnnamed other = tt
at_idle-follows BehindNamed (token.keyword w) = word-follows BehindNamed w (codes "DATA") (keyed bare (key_of w)) _ tt (λ e. refl)
at_idle-follows BehindNamed token.finish = (tt, refl)
at_idle-follows BehindNamed other = tt
at_idle-follows Ended (token.keyword w) = tt
at_idle-follows Ended other = tt

open-follows : (p : Stage) (h : Head) (k : Key) → IsShallowHead h → Follows (go p (next (open_at (part_row h k) no_params) [])) ((head_tokens h ++ key_token k ∷ []) ++ token.left ∷ [])
open-follows p h k shallow = ((tt, (refl, omega arith, shallow)), append_assoc (head_tokens h) (key_token k ∷ []) (token.left ∷ []) ∙ sym (append-nil (head_tokens h ++ key_token k ∷ token.left ∷ [])))

at_keyed-follows : (p : Stage) (h : Head) (k : Key) (t : Token) → IsShallowHead h → Follows (at_keyed p h k t) ((head_tokens h ++ key_token k ∷ []) ++ t ∷ [])
at_keyed-follows p bare k token.left shallow = open-follows p bare k shallow
at_keyed-follows p (simply n) k token.left shallow = open-follows p (simply n) k shallow
at_keyed-follows p (among n parts) k token.left shallow = open-follows p (among n parts) k shallow
at_keyed-follows p bare k token.semicolon shallow = end_keyword-follows p k
at_keyed-follows p h k other shallow = tt

pub step-follows : (p : Stage) (sp : Spot) (t : Token) → IsFine sp → Follows (step p sp t) (pending sp ++ t ∷ [])
step-follows p idle t fine = at_idle-follows p t
step-follows p (line l) token.semicolon fine = ended-follows (section l) (after p (section l)) _ tt refl
step-follows p (line l) other fine = tt
step-follows p (name_taken n) token.equals fine = (tt, refl)
step-follows p (name_taken n) other fine = tt
step-follows p (equal n) (token.keyword w) fine = (tt, refl)
step-follows p (equal n) token.left fine = (tt, refl)
step-follows p (equal n) other fine = tt
step-follows p (inside n parts) (token.keyword w) fine = (fine, refl)
step-follows p (inside n []) token.right fine = tt
step-follows p (inside n (part ∷ parts)) token.right fine = ((omega arith, fine), refl)
step-follows p (inside n parts) other fine = tt
step-follows p (keyed h k) t fine = at_keyed-follows p h k t fine
step-follows p (next row st) t fine = at_next-follows p row st t fine.0 fine.1
step-follows p (word k row st) token.left fine = typed-follows p k row st _ fine.0 fine.1 (append_assoc (stack_tokens st ++ row_tokens row) (key_token k ∷ []) (token.left ∷ []))
step-follows p (word k row st) other fine = tt
step-follows p (behind row st) token.comma fine = comma-follows p row st fine.0 fine.1
step-follows p (behind row st) token.right fine = close-follows p row st _ fine.1 refl
step-follows p (behind row st) other fine = tt
step-follows p (record_end part) token.semicolon fine = end_record-follows p part fine
step-follows p (record_end part) other fine = tt
step-follows p (instance_end n r) token.semicolon fine = ended-follows (instance n r) (after p (instance n r)) _ fine (ap (λ z. token.name n ∷ token.equals ∷ z) refl)
step-follows p (instance_end n r) other fine = tt
