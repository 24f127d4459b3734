-- A tree is fixed by its tokens: a reader of the token list, of which nobody must believe anything, reads back the tree that was flattened.
use Rattle.std.proofs.Common.{◌≡◌, ℕ, zero, suc, ◌+◌, ◌≤◌, Bool, true, false, List, [], ◌∷◌, ◌++◌, Option, Some, None, map, refl, ap, sym, ◌∙◌, arith, append_assoc}
use Rattle.std.proofs.lemmas.List.{append-nil}
use Rattle.std.specs.Prelude.{◌==◌, if◌then◌else◌}
use Rattle.std.specs.List.{flat_map}
use Rattle.p21_spec_exchange.specs.DataSection.{unnamed, named, data_part, DataSection, heading_of}
use Rattle.p21_spec_exchange.specs.Parameter.{Key, key_of, Param, dollar, star, whole, real, text, name, item, bits, list, typed, Params, no_params, param, key_token, param_tokens, params_tokens, more_tokens}
use Rattle.p21_spec_exchange.specs.Record.{Part, Record, simple, complex, part_tokens, record_tokens}
use Rattle.p21_spec_exchange.specs.Statement.{SectionLine, begin, header_start, section_end, data_start, finish, Statement, section, header, instance, statement_tokens}
use Rattle.p21_spec_exchange.specs.Structure.{Structure, section_statements, statements, tokens_of, AreFirstStatements}
use Rattle.p21_spec_exchange.specs.Token as token
use Rattle.p21_spec_exchange.specs.Token.{Token}
use Rattle.p21_spec_exchange.proofs.SectionOrder.{Part_of_file, in_header, in_data, AreInOrder, instance_of, sections_with, statements-in_order, first-in_order}

-- what was read, and the tokens behind it
abbrev Reading : Type 0 → Type 0
Reading A = Option (A × List Token)

abbrev then_read : {A B : Type 0} → (A → List Token → Reading B) → Reading A → Reading B
then_read next None = None
then_read next (Some read) = next read.0 read.1

abbrev user_key : List ℕ → Key
user_key word = record { user = true; word = word }

-- a token that is to stand next
abbrev read_right : {A : Type 0} → A → List Token → Reading A
read_right a (token.right ∷ rest) = Some (a, rest)
read_right a other = None

abbrev read_semicolon : {A : Type 0} → A → List Token → Reading A
read_semicolon a (token.semicolon ∷ rest) = Some (a, rest)
read_semicolon a other = None

-- nothing where a parenthesis closes at once
abbrev or_none : List Token → Reading Params → Reading Params
or_none tokens (Some read) = Some read
or_none tokens None = read_right no_params tokens

-- with turns enough
abbrev mutual
  read_param : ℕ → List Token → Reading Param
  read_param zero tokens = None
  read_param (suc n) (token.dollar ∷ rest) = Some (dollar, rest)
  read_param (suc n) (token.star ∷ rest) = Some (star, rest)
  read_param (suc n) (token.whole z ∷ rest) = Some (whole z, rest)
  read_param (suc n) (token.real d ∷ rest) = Some (real d, rest)
  read_param (suc n) (token.text chars ∷ rest) = Some (text chars, rest)
  read_param (suc n) (token.name k ∷ rest) = Some (name k, rest)
  read_param (suc n) (token.item word ∷ rest) = Some (item word, rest)
  read_param (suc n) (token.bits value ∷ rest) = Some (bits value, rest)
  read_param (suc n) (token.left ∷ rest) = then_read (λ ps more. Some (list ps, more)) (read_params n rest)
  read_param (suc n) (token.keyword word ∷ token.left ∷ rest) = then_read (λ p more. read_right (typed (key_of word) p) more) (read_param n rest)
  read_param (suc n) (token.user_keyword word ∷ token.left ∷ rest) = then_read (λ p more. read_right (typed (user_key word) p) more) (read_param n rest)
  read_param (suc n) other = None

  -- up to the closing parenthesis and with it
  read_params : ℕ → List Token → Reading Params
  read_params zero tokens = None
  read_params (suc n) tokens = or_none tokens (read_some n tokens)

  read_some : ℕ → List Token → Reading Params
  read_some zero tokens = None
  read_some (suc n) tokens = then_read (λ p more. then_read (λ ps last. Some (param p ps, last)) (read_more n more)) (read_param n tokens)

  read_more : ℕ → List Token → Reading Params
  read_more zero tokens = None
  read_more (suc n) (token.comma ∷ rest) = read_some n rest
  read_more (suc n) other = read_right no_params other

-- how many turns that takes
abbrev mutual
  turns : Param → ℕ
  turns (list ps) = suc (turns_all ps)
  turns (typed key p) = suc (turns p)
  turns other = 0

  turns_all : Params → ℕ
  turns_all no_params = 0
  turns_all (param p ps) = suc (suc (turns p + turns_all ps))

read-typed : (user : Bool) (word : List ℕ) (n : ℕ) (rest : List Token)
    → read_param (suc n) (key_token (record { user = user; word = word }) ∷ token.left ∷ rest) ≡ then_read (λ p more. read_right (typed (record { user = user; word = word }) p) more) (read_param n rest)
read-typed true word n rest = refl
read-typed false word n rest = refl

right_is_none : (n : ℕ) (x : List Token) → read_some n (token.right ∷ x) ≡ None
right_is_none zero x = refl
right_is_none (suc zero) x = refl
right_is_none (suc (suc n)) x = refl

read-some : (p : Param) (ps : Params) (n : ℕ) (x : List Token)
    → read_param (suc n) (param_tokens p ++ (more_tokens ps ++ token.right ∷ x)) ≡ Some (p, more_tokens ps ++ token.right ∷ x)
    → read_more (suc n) (more_tokens ps ++ token.right ∷ x) ≡ Some (ps, x)
    → read_some (suc (suc n)) ((param_tokens p ++ more_tokens ps) ++ token.right ∷ x) ≡ Some (param p ps, x)
read-some p ps n x first more =
    let after : Reading Param → Reading Params = then_read (λ q rest. then_read (λ qs last. Some (param q qs, last)) (read_more (suc n) rest)) in
    ap (λ z. after (read_param (suc n) z)) (append_assoc (param_tokens p) (more_tokens ps) (token.right ∷ x))
    ∙ ap after first
    ∙ ap (then_read (λ qs last. Some (param p qs, last))) more

mutual
  read-param : (p : Param) (n : ℕ) (x : List Token) → turns p ≤ n → read_param (suc n) (param_tokens p ++ x) ≡ Some (p, x)
  read-param dollar n x h = refl
  read-param star n x h = refl
  read-param (whole z) n x h = refl
  read-param (real d) n x h = refl
  read-param (text chars) n x h = refl
  read-param (name k) n x h = refl
  read-param (item word) n x h = refl
  read-param (bits value) n x h = refl
  read-param (list ps) zero x h = absurd (omega (arith, h))
  read-param (list ps) (suc n) x h =
      ap (λ z. then_read (λ qs more. Some (list qs, more)) (read_params (suc n) z)) (append_assoc (params_tokens ps) (token.right ∷ []) x)
      ∙ ap (then_read (λ qs more. Some (list qs, more))) (read-params ps n x (omega (arith, h)))
  read-param (typed key p) zero x h = absurd (omega (arith, h))
  read-param (typed key p) (suc n) x h =
      ap (λ z. read_param (suc (suc n)) (key_token key ∷ token.left ∷ z)) (append_assoc (param_tokens p) (token.right ∷ []) x)
      ∙ read-typed key.user key.word (suc n) (param_tokens p ++ token.right ∷ x)
      ∙ ap (then_read (λ q more. read_right (typed key q) more)) (read-param p n (token.right ∷ x) (omega (arith, h)))

  read-params : (ps : Params) (n : ℕ) (x : List Token) → turns_all ps ≤ n → read_params (suc n) (params_tokens ps ++ token.right ∷ x) ≡ Some (ps, x)
  read-params no_params n x h = ap (or_none (token.right ∷ x)) (right_is_none n x)
  read-params (param p ps) zero x h = absurd (omega (arith, h))
  read-params (param p ps) (suc zero) x h = absurd (omega (arith, h))
  read-params (param p ps) (suc (suc n)) x h = ap (or_none ((param_tokens p ++ more_tokens ps) ++ token.right ∷ x)) (read-some p ps n x (read-param p n (more_tokens ps ++ token.right ∷ x) (omega (arith, h))) (read-more ps n x (omega (arith, h))))

  read-more : (ps : Params) (n : ℕ) (x : List Token) → turns_all ps ≤ n → read_more (suc n) (more_tokens ps ++ token.right ∷ x) ≡ Some (ps, x)
  read-more no_params n x h = refl
  read-more (param p ps) zero x h = absurd (omega (arith, h))
  read-more (param p ps) (suc zero) x h = absurd (omega (arith, h))
  read-more (param p ps) (suc (suc n)) x h = read-some p ps n x (read-param p n (more_tokens ps ++ token.right ∷ x) (omega (arith, h))) (read-more ps n x (omega (arith, h)))

-- ---- records, statements and the whole

abbrev read_part : ℕ → List Token → Reading Part
read_part n (token.keyword word ∷ token.left ∷ rest) = then_read (λ ps more. Some (record { key = key_of word; params = ps }, more)) (read_params n rest)
read_part n (token.user_keyword word ∷ token.left ∷ rest) = then_read (λ ps more. Some (record { key = user_key word; params = ps }, more)) (read_params n rest)
read_part n other = None

abbrev none_here : List Token → Reading (List Part) → Reading (List Part)
none_here tokens (Some read) = Some read
none_here tokens None = read_right [] tokens

abbrev read_parts : ℕ → List Token → Reading (List Part)
read_parts zero tokens = None
read_parts (suc n) tokens = none_here tokens (then_read (λ part more. then_read (λ parts last. Some (part ∷ parts, last)) (read_parts n more)) (read_part n tokens))

abbrev read_record : ℕ → List Token → Reading Record
read_record n (token.left ∷ rest) = then_read (λ parts more. Some (complex parts, more)) (read_parts n rest)
read_record n other = then_read (λ part more. Some (simple part, more)) (read_part n other)

-- HEADER, ENDSEC or DATA without a name, told apart by the first byte
abbrev line_of : List ℕ → SectionLine
line_of [] = data_start unnamed
line_of (byte ∷ bytes) = if byte == 72 then header_start else if byte == 69 then section_end else data_start unnamed

abbrev read_statement : ℕ → List Token → Reading Statement
read_statement n (token.begin ∷ rest) = read_semicolon (section begin) rest
read_statement n (token.finish ∷ rest) = read_semicolon (section finish) rest
read_statement n (token.keyword word ∷ token.semicolon ∷ rest) = Some (section (line_of word), rest)
read_statement n (token.name k ∷ token.equals ∷ rest) = then_read (λ r more. read_semicolon (instance k r) more) (read_record n rest)
read_statement n other = then_read (λ part more. read_semicolon (header part) more) (read_part n other)

abbrev read_statements : ℕ → List Token → List Statement
read_statements zero tokens = []
read_statements (suc n) tokens = elim (read_statement n tokens) [ Some read ↦ read.0 ∷ read_statements n read.1 | None ↦ [] ]

abbrev turns_parts : List Part → ℕ
turns_parts [] = 0
turns_parts (part ∷ parts) = suc (turns_all part.params + turns_parts parts)

abbrev turns_record : Record → ℕ
turns_record (simple part) = turns_all part.params
turns_record (complex parts) = turns_parts parts

abbrev turns_statement : Statement → ℕ
turns_statement (section (data_start (named chars schema))) = turns_all (data_part chars schema).params
turns_statement (section line) = 0
turns_statement (header part) = turns_all part.params
turns_statement (instance k r) = turns_record r

abbrev turns_statements : List Statement → ℕ
turns_statements [] = 0
turns_statements (s ∷ ss) = suc (turns_statement s + turns_statements ss)

abbrev to_part : Key → Params → List Token → Reading Part
to_part key ps more = Some (record { key = key; params = ps }, more)

read-keyed : (user : Bool) (word : List ℕ) (n : ℕ) (rest : List Token)
    → read_part n (key_token (record { user = user; word = word }) ∷ token.left ∷ rest) ≡ then_read (to_part (record { user = user; word = word })) (read_params n rest)
read-keyed true word n rest = refl
read-keyed false word n rest = refl

read-part : (part : Part) (n : ℕ) (x : List Token) → turns_all part.params ≤ n → read_part (suc n) (part_tokens part ++ x) ≡ Some (part, x)
read-part part n x h =
    ap (λ z. read_part (suc n) (key_token part.key ∷ token.left ∷ z)) (append_assoc (params_tokens part.params) (token.right ∷ []) x)
    ∙ read-keyed part.key.user part.key.word (suc n) (params_tokens part.params ++ token.right ∷ x)
    ∙ ap (then_read (to_part part.key)) (read-params part.params n x h)

read-parts : (parts : List Part) (n : ℕ) (x : List Token) → turns_parts parts ≤ n → read_parts (suc n) (flat_map part_tokens parts ++ token.right ∷ x) ≡ Some (parts, x)
read-parts [] n x h = refl
read-parts (part ∷ parts) zero x h = absurd (omega (arith, h))
read-parts (part ∷ parts) (suc n) x h =
    let tokens : List Token = flat_map part_tokens (part ∷ parts) ++ token.right ∷ x in
    let after : Reading Part → Reading (List Part) = then_read (λ q more. then_read (λ qs last. Some (q ∷ qs, last)) (read_parts (suc n) more)) in
    ap (λ z. none_here tokens (after (read_part (suc n) z))) (append_assoc (part_tokens part) (flat_map part_tokens parts) (token.right ∷ x))
    ∙ ap (λ z. none_here tokens (after z)) (read-part part n (flat_map part_tokens parts ++ token.right ∷ x) (omega (arith, h)))
    ∙ ap (λ z. none_here tokens (then_read (λ qs last. Some (part ∷ qs, last)) z)) (read-parts parts n x (omega (arith, h)))

read-simple : (user : Bool) (word : List ℕ) (n : ℕ) (rest : List Token)
    → read_record n (key_token (record { user = user; word = word }) ∷ rest) ≡ then_read (λ part more. Some (simple part, more)) (read_part n (key_token (record { user = user; word = word }) ∷ rest))
read-simple true word n rest = refl
read-simple false word n rest = refl

read-record : (r : Record) (n : ℕ) (x : List Token) → turns_record r ≤ n → read_record (suc n) (record_tokens r ++ x) ≡ Some (r, x)
read-record (simple part) n x h =
    read-simple part.key.user part.key.word (suc n) (token.left ∷ ((params_tokens part.params ++ (token.right ∷ [])) ++ x))
    ∙ ap (then_read (λ q more. Some (simple q, more))) (read-part part n x h)
read-record (complex parts) n x h =
    ap (λ z. then_read (λ qs more. Some (complex qs, more)) (read_parts (suc n) z)) (append_assoc (flat_map part_tokens parts) (token.right ∷ []) x)
    ∙ ap (then_read (λ qs more. Some (complex qs, more))) (read-parts parts n x h)

read-header : (user : Bool) (word : List ℕ) (n : ℕ) (rest : List Token)
    → read_statement n (key_token (record { user = user; word = word }) ∷ token.left ∷ rest)
    ≡ then_read (λ part more. read_semicolon (header part) more) (read_part n (key_token (record { user = user; word = word }) ∷ token.left ∷ rest))
read-header true word n rest = refl
read-header false word n rest = refl

-- a DATA with a name is read as a header record: only the place among the statements tells the two apart
abbrev as_read : Statement → Statement
as_read (section (data_start (named chars schema))) = header (data_part chars schema)
as_read (section line) = section line
as_read (header part) = header part
as_read (instance k r) = instance k r

read-part_statement : (part : Part) (n : ℕ) (x : List Token) → turns_all part.params ≤ n → read_statement (suc n) ((part_tokens part ++ (token.semicolon ∷ [])) ++ x) ≡ Some (header part, x)
read-part_statement part n x h =
    ap (read_statement (suc n)) (append_assoc (part_tokens part) (token.semicolon ∷ []) x)
    ∙ read-header part.key.user part.key.word (suc n) ((params_tokens part.params ++ (token.right ∷ [])) ++ token.semicolon ∷ x)
    ∙ ap (then_read (λ q more. read_semicolon (header q) more)) (read-part part n (token.semicolon ∷ x) h)

read-statement : (s : Statement) (n : ℕ) (x : List Token) → turns_statement s ≤ n → read_statement (suc n) (statement_tokens s ++ x) ≡ Some (as_read s, x)
read-statement (section begin) n x h = refl
read-statement (section header_start) n x h = refl
read-statement (section section_end) n x h = refl
read-statement (section (data_start unnamed)) n x h = refl
read-statement (section (data_start (named chars schema))) n x h = read-part_statement (data_part chars schema) n x h
read-statement (section finish) n x h = refl
read-statement (header part) n x h = read-part_statement part n x h
read-statement (instance k r) n x h =
    ap (λ z. then_read (λ q more. read_semicolon (instance k q) more) (read_record (suc n) z)) (append_assoc (record_tokens r) (token.semicolon ∷ []) x)
    ∙ ap (then_read (λ q more. read_semicolon (instance k q) more)) (read-record r n (token.semicolon ∷ x) h)

abbrev then_statements : ℕ → Reading Statement → List Statement
then_statements n None = []
then_statements n (Some read) = read.0 ∷ read_statements n read.1

read-statements : (ss : List Statement) (n : ℕ) → turns_statements ss ≤ n → read_statements (suc n) (flat_map statement_tokens ss) ≡ map as_read ss
read-statements [] n h = refl
read-statements (s ∷ ss) zero h = absurd (omega (arith, h))
read-statements (s ∷ ss) (suc n) h =
    ap (then_statements (suc n)) (read-statement s n (flat_map statement_tokens ss) (omega (arith, h)))
    ∙ ap (λ z. as_read s ∷ z) (read-statements ss n (omega (arith, h)))

-- each statement as its place says
abbrev restored : Part_of_file → List Statement → List Statement
restored at [] = []
restored in_header (section section_end ∷ ss) = section section_end ∷ restored in_data ss
restored in_header (s ∷ ss) = s ∷ restored in_header ss
restored in_data (header part ∷ ss) = section (data_start (heading_of part.params)) ∷ restored in_data ss
restored in_data (s ∷ ss) = s ∷ restored in_data ss

restored-is : (at : Part_of_file) (ss : List Statement) → AreInOrder at ss → restored at (map as_read ss) ≡ ss
restored-is at [] are = refl
restored-is in_header (section begin ∷ ss) are = ap (λ z. section begin ∷ z) (restored-is in_header ss are)
restored-is in_header (section header_start ∷ ss) are = ap (λ z. section header_start ∷ z) (restored-is in_header ss are)
restored-is in_header (section section_end ∷ ss) are = ap (λ z. section section_end ∷ z) (restored-is in_data ss are)
restored-is in_header (section (data_start heading) ∷ ss) are = absurd are
restored-is in_header (section finish ∷ ss) are = ap (λ z. section finish ∷ z) (restored-is in_header ss are)
restored-is in_header (header part ∷ ss) are = ap (λ z. header part ∷ z) (restored-is in_header ss are)
restored-is in_header (instance k r ∷ ss) are = ap (λ z. instance k r ∷ z) (restored-is in_header ss are)
restored-is in_data (section begin ∷ ss) are = ap (λ z. section begin ∷ z) (restored-is in_data ss are)
restored-is in_data (section header_start ∷ ss) are = ap (λ z. section header_start ∷ z) (restored-is in_data ss are)
restored-is in_data (section section_end ∷ ss) are = ap (λ z. section section_end ∷ z) (restored-is in_data ss are)
restored-is in_data (section (data_start unnamed) ∷ ss) are = ap (λ z. section (data_start unnamed) ∷ z) (restored-is in_data ss are)
restored-is in_data (section (data_start (named chars schema)) ∷ ss) are = ap (λ z. section (data_start (named chars schema)) ∷ z) (restored-is in_data ss are)
restored-is in_data (section finish ∷ ss) are = ap (λ z. section finish ∷ z) (restored-is in_data ss are)
restored-is in_data (header part ∷ ss) are = absurd are
restored-is in_data (instance k r ∷ ss) are = ap (λ z. instance k r ∷ z) (restored-is in_data ss are)

-- statements in the order of a tree are fixed by their tokens
pub one_statements : (ss us : List Statement) → AreInOrder in_header ss → AreInOrder in_header us → flat_map statement_tokens ss ≡ flat_map statement_tokens us → ss ≡ us
one_statements ss us are are_ same =
    let n = turns_statements ss + turns_statements us in
    let read : map as_read ss ≡ map as_read us = sym (read-statements ss n (omega arith)) ∙ ap (read_statements (suc n)) same ∙ read-statements us n (omega arith) in
    sym (restored-is in_header ss are) ∙ ap (restored in_header) read ∙ restored-is in_header us are_

-- so the first statements of any two trees are fixed by their tokens
pub one_front : (ss us : List Statement) (t u : Structure) → AreFirstStatements ss t → AreFirstStatements us u → flat_map statement_tokens ss ≡ flat_map statement_tokens us → ss ≡ us
one_front ss us t u first first_ = one_statements ss us (first-in_order ss t first) (first-in_order us u first_)

-- the header records among statements
abbrev headers : List Statement → List Part
headers [] = []
headers (header part ∷ ss) = part ∷ headers ss
headers (s ∷ ss) = headers ss

-- the instances before the first DATA, and the data sections
abbrev Gathered : Type 0
Gathered = List (ℕ × Record) × List DataSection

abbrev gather_one : Statement → Gathered → Gathered
gather_one (instance k r) found = ((k, r) ∷ found.0, found.1)
gather_one (section (data_start heading)) found = ([], record { heading = heading; instances = found.0 } ∷ found.1)
gather_one s found = found

abbrev gather : List Statement → Gathered
gather [] = ([], [])
gather (s ∷ ss) = gather_one s (gather ss)

headers-header : (parts : List Part) (ss : List Statement) → headers (map header parts ++ ss) ≡ parts ++ headers ss
headers-header [] ss = refl
headers-header (part ∷ parts) ss = ap (λ z. part ∷ z) (headers-header parts ss)

headers-instance : (is : List (ℕ × Record)) (ss : List Statement) → headers (map instance_of is ++ ss) ≡ headers ss
headers-instance [] ss = refl
headers-instance (i ∷ is) ss = headers-instance is ss

headers-sections : (xs : List DataSection) (ss : List Statement) → headers (flat_map section_statements xs ++ ss) ≡ headers ss
headers-sections [] ss = refl
headers-sections (x ∷ xs) ss =
    ap headers (sections_with x xs ss)
    ∙ headers-instance x.instances (section section_end ∷ (flat_map section_statements xs ++ ss))
    ∙ headers-sections xs ss

gather-header : (parts : List Part) (ss : List Statement) → gather (map header parts ++ ss) ≡ gather ss
gather-header [] ss = refl
gather-header (part ∷ parts) ss = gather-header parts ss

gather-instance : (is : List (ℕ × Record)) (ss : List Statement) → gather (map instance_of is ++ ss) ≡ (is ++ (gather ss).0, (gather ss).1)
gather-instance [] ss = refl
gather-instance (i ∷ is) ss = ap (gather_one (instance i.0 i.1)) (gather-instance is ss)

gather-sections : (xs : List DataSection) (ss : List Statement) → (gather ss).0 ≡ [] → gather (flat_map section_statements xs ++ ss) ≡ ([], xs ++ (gather ss).1)
gather-sections [] ss none = ap (λ (z : List (ℕ × Record)). (z, (gather ss).1)) none
gather-sections (x ∷ xs) ss none =
    let rest : List Statement = flat_map section_statements xs ++ ss in
    let start : Gathered → Gathered = gather_one (section (data_start x.heading)) in
    ap gather (sections_with x xs ss)
    ∙ ap start (gather-instance x.instances (section section_end ∷ rest))
    ∙ ap (λ (z : Gathered). start (x.instances ++ z.0, z.1)) (gather-sections xs ss none)
    ∙ ap (λ (z : List (ℕ × Record)). start (z, xs ++ (gather ss).1)) (append-nil x.instances)

headers-are : (t : Structure) → headers (statements t) ≡ t.header
headers-are t =
    headers-header t.header (section section_end ∷ (flat_map section_statements t.sections ++ (section finish ∷ [])))
    ∙ ap (λ z. t.header ++ z) (headers-sections t.sections (section finish ∷ []))
    ∙ append-nil t.header

sections-are : (t : Structure) → (gather (statements t)).1 ≡ t.sections
sections-are t =
    ap (λ (z : Gathered). z.1) (gather-header t.header (section section_end ∷ (flat_map section_statements t.sections ++ (section finish ∷ []))))
    ∙ ap (λ (z : Gathered). z.1) (gather-sections t.sections (section finish ∷ []) refl)
    ∙ append-nil t.sections

-- a tree is fixed by its statements, and by its tokens
pub one_structure : (t u : Structure) → statements t ≡ statements u → t ≡ u
one_structure t u same =
    let header_same : t.header ≡ u.header = sym (headers-are t) ∙ ap headers same ∙ headers-are u in
    let sections_same : t.sections ≡ u.sections = sym (sections-are t) ∙ ap (λ z. (gather z).1) same ∙ sections-are u in
    ap (λ z. record { header = z; sections = t.sections }) header_same ∙ ap (λ z. record { header = u.header; sections = z }) sections_same

pub one_tree : (t u : Structure) → tokens_of t ≡ tokens_of u → t ≡ u
one_tree t u same = one_structure t u (one_statements (statements t) (statements u) (statements-in_order t) (statements-in_order u) same)

same_reading : {A : Type 0} → (a b : A) (rest : List Token) → ◌≡◌ {A = Reading A} (Some (a, rest)) (Some (b, rest)) → a ≡ b
same_reading {A = A} a b rest same = let inner : ◌≡◌ {A = A × List Token} (a, rest) (b, rest) = cc in ap (λ (z : A × List Token). z.0) inner

-- a parameter is fixed by its tokens, and so is a record
pub one_param : (p q : Param) → param_tokens p ≡ param_tokens q → p ≡ q
one_param p q same =
    let n = turns p + turns q in
    same_reading p q []
    (sym (read-param p n [] (omega arith))
    ∙ ap (read_param (suc n)) (append-nil (param_tokens p) ∙ same ∙ sym (append-nil (param_tokens q)))
    ∙ read-param q n [] (omega arith))

pub one_record : (r q : Record) → record_tokens r ≡ record_tokens q → r ≡ q
one_record r q same =
    let n = turns_record r + turns_record q in
    same_reading r q []
    (sym (read-record r n [] (omega arith))
    ∙ ap (read_record (suc n)) (append-nil (record_tokens r) ∙ same ∙ sym (append-nil (record_tokens q)))
    ∙ read-record q n [] (omega arith))
