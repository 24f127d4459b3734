-- How many lists and typed parameters are open behind the tokens that are held.
use Rattle.std.proofs.Common.{◌≡◌, ℕ, ◌+◌, ◌-◌, ◌≤◌, suc, Bool, true, false, List, [], ◌∷◌, ◌++◌, length, refl, ap, sym, ◌∙◌, arith, append_assoc, subst}
use Rattle.std.specs.List.{flat_map}
use Rattle.p21_spec_exchange.proofs.Parentheses.{lefts-append, rights-append, IsBalanced, params-balanced, param-balanced, parts-balanced}
use Rattle.p21_spec_exchange.specs.DataSection.{unnamed, named, data_part}
use Rattle.p21_spec_exchange.specs.OpenNesting.{left_count, right_count, open_depth}
use Rattle.p21_spec_exchange.specs.Parameter.{Key, Params, no_params, param, key_token, param_tokens, params_tokens}
use Rattle.p21_spec_exchange.specs.Record.{Part, Record, simple, complex, part_tokens, record_tokens}
use Rattle.p21_spec_exchange.specs.Statement.{SectionLine, begin, header_start, section_end, data_start, finish}
use Rattle.p21_spec_exchange.specs.Token as token
use Rattle.p21_spec_exchange.specs.Token.{Token}
use Rattle.p21_grammar.proofs.Follows.{IsNested, IsFine, room-of}
use Rattle.p21_grammar.specs.Runs.{ready_tokens, head_tokens, opening_tokens, row_tokens, stack_tokens, pending}
use Rattle.p21_grammar.specs.Machine.{Head, bare, simply, among, Opening, part_row, list_row, typed_row, Open, open_at, Spot, idle, line, named as name_taken, equal, inside, keyed, next, word, behind, record_end, instance_end, depth_of}

-- so many more open than close
record IsOpen (tokens : List Token) (count : ℕ) : Type 0 where
  opens : left_count tokens ≡ right_count tokens + count

both : (xs ys : List Token) (m n : ℕ) → IsOpen xs m → IsOpen ys n → IsOpen (xs ++ ys) (m + n)
both xs ys m n first second = record { opens = omega (arith, lefts-append xs ys, rights-append xs ys, first.opens, second.opens) }

balanced : (tokens : List Token) → IsBalanced tokens → IsOpen tokens 0
balanced tokens is = record { opens = omega (arith, is.same) }

ready-balanced : (ps : Params) → IsOpen (ready_tokens ps) 0
ready-balanced no_params = record { opens = refl }
ready-balanced (param p ps) =
    let rest = ready-balanced ps in
    record { opens = omega (arith, lefts-append (param_tokens p) (token.comma ∷ ready_tokens ps), rights-append (param_tokens p) (token.comma ∷ ready_tokens ps), (param-balanced p).same, rest.opens) }

-- the keyword of a simple record, behind what stands before it, and then parentheses that are open
record IsBase (tokens : List Token) (count : ℕ) : Type 0 where
  head : Head
  key : Key
  rest : List Token
  tokens_are : tokens ≡ head_tokens head ++ key_token key ∷ token.left ∷ rest
  opens : left_count rest ≡ right_count rest + count

extended : (tokens more : List Token) (m n : ℕ) → IsBase tokens m → IsOpen more n → IsBase (tokens ++ more) (m + n)
extended tokens more m n base is = record {
  head = base.head;
  key = base.key;
  rest = base.rest ++ more;
  tokens_are = ap (λ z. z ++ more) base.tokens_are ∙ append_assoc (head_tokens base.head) (key_token base.key ∷ token.left ∷ base.rest) more;
  opens = omega (arith, lefts-append base.rest more, rights-append base.rest more, base.opens, is.opens);
}

counted : (tokens : List Token) (m n : ℕ) → m ≡ n → IsBase tokens m → IsBase tokens n
counted tokens m n e base = subst (IsBase tokens) e base

key-open : (user : Bool) (w : List ℕ) (rest : List Token) (n : ℕ) → left_count rest ≡ right_count rest + n → IsOpen (key_token (record { user = user; word = w }) ∷ rest) n
key-open true w rest n e = record { opens = e }
key-open false w rest n e = record { opens = e }

row-base : (o : Opening) (ps : Params) (st : List Open) (tokens : List Token) → IsNested (open_at o ps) st → IsOpen tokens 0 → IsBase (stack_tokens st ++ (opening_tokens o ++ tokens)) (length st)
row-base (part_row h k) ps st tokens nested is = subst (λ z. IsBase (stack_tokens z ++ (opening_tokens (part_row h k) ++ tokens)) (length z)) (sym nested.0)
    (record { head = h; key = k; rest = tokens; tokens_are = append_assoc (head_tokens h) (key_token k ∷ token.left ∷ []) tokens; opens = is.opens })
row-base list_row ps [] tokens nested is = absurd nested
row-base list_row ps (open_at o us ∷ st) tokens nested is =
    counted _ (length st + 1) (suc (length st)) (omega arith)
    (extended (stack_tokens (open_at o us ∷ st)) (token.left ∷ tokens) (length st) 1 (row-base o us st (ready_tokens us) nested.2 (ready-balanced us)) (record { opens = omega (arith, is.opens) }))
row-base (typed_row k) ps [] tokens nested is = absurd nested
row-base (typed_row k) ps (open_at o us ∷ st) tokens nested is =
    counted _ (length st + 1) (suc (length st)) (omega arith)
    (extended (stack_tokens (open_at o us ∷ st)) (key_token k ∷ token.left ∷ tokens) (length st) 1 (row-base o us st (ready_tokens us) nested.2 (ready-balanced us))
    (key-open k.user k.word (token.left ∷ tokens) 1 (omega (arith, is.opens))))

-- ---- the depth

key-depth : (user : Bool) (w : List ℕ) (rest : List Token) → open_depth (key_token (record { user = user; word = w }) ∷ rest) ≡ left_count rest - right_count rest - 1
key-depth true w rest = refl
key-depth false w rest = refl

simply-depth : (n : ℕ) (user : Bool) (w : List ℕ) (rest : List Token) → open_depth (token.name n ∷ token.equals ∷ key_token (record { user = user; word = w }) ∷ rest) ≡ left_count rest - right_count rest - 1
simply-depth n true w rest = refl
simply-depth n false w rest = refl

among-opens : (parts : List Part) (k : Key) (rest : List Token) (count : ℕ) → left_count rest ≡ right_count rest + count → IsOpen (flat_map part_tokens parts ++ key_token k ∷ rest) count
among-opens parts k rest count e =
    let first = key-open k.user k.word rest count e in
    record { opens = omega (arith, lefts-append (flat_map part_tokens parts) (key_token k ∷ rest), rights-append (flat_map part_tokens parts) (key_token k ∷ rest), (parts-balanced parts).same, first.opens) }

head-depth : (h : Head) (k : Key) (rest : List Token) (count : ℕ) → left_count rest ≡ right_count rest + count → open_depth (head_tokens h ++ key_token k ∷ token.left ∷ rest) ≡ count
head-depth bare k rest count e = key-depth k.user k.word (token.left ∷ rest) ∙ omega (arith, e)
head-depth (simply n) k rest count e = simply-depth n k.user k.word (token.left ∷ rest) ∙ omega (arith, e)
head-depth (among n parts) k rest count e = let all = among-opens parts k (token.left ∷ rest) (count + 1) (omega (arith, e)) in omega (arith, all.opens)

base-depth : (tokens : List Token) (count : ℕ) → IsBase tokens count → open_depth tokens ≡ count
base-depth tokens count base = ap open_depth base.tokens_are ∙ head-depth base.head base.key base.rest count base.opens

part-depth : (part : Part) → open_depth (part_tokens part) ≡ 0
part-depth part =
    key-depth part.key.user part.key.word (token.left ∷ (params_tokens part.params ++ token.right ∷ []))
    ∙ omega (arith, lefts-append (params_tokens part.params) (token.right ∷ []), rights-append (params_tokens part.params) (token.right ∷ []), (params-balanced part.params).same)

keyed-depth : (h : Head) (k : Key) → open_depth (head_tokens h ++ key_token k ∷ []) ≡ 0
keyed-depth bare k = key-depth k.user k.word []
keyed-depth (simply n) k = simply-depth n k.user k.word []
keyed-depth (among n parts) k = let all = among-opens parts k [] 0 refl in omega (arith, all.opens)

record-depth : (n : ℕ) (r : Record) → open_depth (token.name n ∷ token.equals ∷ record_tokens r) ≡ 0
record-depth n (simple part) =
    simply-depth n part.key.user part.key.word (token.left ∷ (params_tokens part.params ++ token.right ∷ []))
    ∙ omega (arith, lefts-append (params_tokens part.params) (token.right ∷ []), rights-append (params_tokens part.params) (token.right ∷ []), (params-balanced part.params).same)
record-depth n (complex parts) = omega (arith, lefts-append (flat_map part_tokens parts) (token.right ∷ []), rights-append (flat_map part_tokens parts) (token.right ∷ []), (parts-balanced parts).same)

line-depth : (l : SectionLine) → open_depth (pending (line l)) ≡ 0
line-depth begin = refl
line-depth header_start = refl
line-depth section_end = refl
line-depth (data_start unnamed) = refl
line-depth (data_start (named chars schema)) = part-depth (data_part chars schema)
line-depth finish = refl

more-base : (tokens : List Token) (k : Key) (count : ℕ) → IsBase tokens count → IsBase (tokens ++ key_token k ∷ []) count
more-base tokens k count base = counted _ (count + 0) count (omega arith) (extended tokens (key_token k ∷ []) count 0 base (key-open k.user k.word [] 0 refl))

pub pending-depth : (sp : Spot) → IsFine sp → open_depth (pending sp) ≡ depth_of sp
pending-depth idle fine = refl
pending-depth (line l) fine = line-depth l
pending-depth (name_taken n) fine = refl
pending-depth (equal n) fine = refl
pending-depth (inside n parts) fine = omega (arith, (parts-balanced parts).same)
pending-depth (keyed h k) fine = keyed-depth h k
pending-depth (next (open_at o ps) st) fine = base-depth _ (length st) (row-base o ps st (ready_tokens ps) fine.1 (ready-balanced ps))
pending-depth (word k (open_at o ps) st) fine = base-depth _ (length st) (more-base (stack_tokens st ++ row_tokens (open_at o ps)) k (length st) (row-base o ps st (ready_tokens ps) fine.1 (ready-balanced ps)))
pending-depth (behind (open_at o ps) st) fine = base-depth _ (length st) (row-base o ps st (params_tokens ps) fine.1 (balanced (params_tokens ps) (params-balanced ps)))
pending-depth (record_end part) fine = part-depth part
pending-depth (instance_end n r) fine = record-depth n r

pub depth-within : (sp : Spot) → IsFine sp → depth_of sp ≤ 64
depth-within (next row st) fine = room-of row st fine.1
depth-within (word k row st) fine = room-of row st fine.1
depth-within (behind row st) fine = room-of row st fine.1
depth-within other fine = omega arith
