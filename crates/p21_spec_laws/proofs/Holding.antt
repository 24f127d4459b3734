-- What is held of the bytes taken.
use Rattle.std.specs.Prelude.{◌≡◌, ◌≤◌, ℕ, List, [], ◌∷◌, ◌++◌, length, refl}
use Rattle.std.specs.List.{flat_map, AllByRecursion as Each}
use Rattle.std.proofs.Common.{arith, ap, sym, ◌∙◌, length-append}
use Rattle.std.proofs.lemmas.List.{append_cancel_right, length-map}
use Rattle.p21_spec_basics.proofs.Members.{Each-weaker}
use Rattle.p21_spec_laws.specs.CompleteFile.{Entry, IsMeant, entries_in, written_in}
use Rattle.p21_spec_laws.specs.Taken.{instances_among}
use Rattle.p21_spec_laws.proofs.Growth.{canonical_size-of_unrefused}
use Rattle.p21_spec_laws.specs.UnrefusedStatements.{IsFound}
use Rattle.p21_spec_laws.specs.Waiting.{references_in, references_of}
use Rattle.p21_spec_laws.specs.WholeLaws.{UnrefusedAreHeld, ReferencesAreFew, AsManyReferencesAsNeeds, TokensEndStatements}
use Rattle.p21_spec_laws.proofs.RecordTheorems.{needs-are_references}
use Rattle.p21_spec_exchange.proofs.OneDepth.{one_open_statement}
use Rattle.p21_spec_exchange.proofs.Semicolons.{statements-end}
use Rattle.p21_spec_exchange.specs.OpenNesting.{IsOpenStatement}
use Rattle.p21_spec_exchange.specs.Parameter as parameter
use Rattle.p21_spec_exchange.specs.Parameter.{Param, Params, more_tokens, no_params, param, param_tokens, params_tokens}
use Rattle.p21_spec_exchange.specs.Record.{Part, Record, complex, part_tokens, record_tokens, simple}
use Rattle.p21_spec_exchange.specs.Statement.{Statement, header, instance, section, statement_tokens}
use Rattle.p21_spec_exchange.specs.Token as token
use Rattle.p21_spec_exchange.specs.Token.{Token}
use Rattle.p21_spec_file.specs.Held.{statement_references}
use Rattle.p21_spec_file.specs.Reference.{Need, param_references, record_references, references}
use Rattle.p21_spec_schema.specs.Schema.{Schema}

references-of_entries : (s : Schema) (entries : List Entry) → Each (IsMeant s) entries → (given : List Statement) → instances_among given ≡ written_in entries → length (flat_map statement_references given) ≡ length (references_in entries)
references-of_entries s [] each [] same = refl
references-of_entries s (e ∷ es) each [] same = cc
references-of_entries s entries each (section line_ ∷ given) same = references-of_entries s entries each given same
references-of_entries s entries each (header part ∷ given) same = references-of_entries s entries each given same
references-of_entries s [] each (instance n r ∷ given) same = cc
references-of_entries s (e ∷ es) each (instance n r ∷ given) same =
    let first : ◌≡◌ {A = ℕ × Record} (n, r) (e.name, e.record_) = cc in
    let rest : instances_among given ≡ written_in es = cc in
    let own = ap (λ (i : ℕ × Record). length (record_references i.1)) first in
    let targets = ap length (needs-are_references s e.record_ e.meaning e.needs each.0.needs_are) in
    let mapped = length-map e.needs (λ (need : Need). need.target) in
    let named = length-map {B = ℕ × Need} e.needs (λ (need : Need). (e.name, need)) in
    let one = length-append (record_references r) (flat_map statement_references given) in
    let two = length-append (references_of e) (references_in es) in
    let more = references-of_entries s es each.1 given rest in
    omega (arith, own, targets, mapped, named, one, two, more)

pub references-counted : AsManyReferencesAsNeeds
references-counted s limits given groups unrefused =
    references-of_entries s (entries_in groups) (Each-weaker (IsFound s limits) (IsMeant s) (λ e found. found.meant) (entries_in groups) unrefused.found) given unrefused.instances_are

-- ---- few references

mutual
  param-few : (p : Param) → length (param_references p) ≤ length (param_tokens p)
  param-few (parameter.name n) = omega arith
  param-few (parameter.list ps) =
      let inside = params-few ps in
      let size = length-append (params_tokens ps) (token.right ∷ []) in
      omega (arith, inside, size)
  param-few (parameter.typed key p) =
      let inside = param-few p in
      let size = length-append (param_tokens p) (token.right ∷ []) in
      omega (arith, inside, size)
  param-few other = omega arith

  params-few : (ps : Params) → length (references ps) ≤ length (params_tokens ps)
  params-few no_params = omega arith
  params-few (param p ps) =
      let first = param-few p in
      let rest = more-few ps in
      let one = length-append (param_references p) (references ps) in
      let two = length-append (param_tokens p) (more_tokens ps) in
      omega (arith, first, rest, one, two)

  more-few : (ps : Params) → length (references ps) ≤ length (more_tokens ps)
  more-few no_params = omega arith
  more-few (param p ps) =
      let first = param-few p in
      let rest = more-few ps in
      let one = length-append (param_references p) (references ps) in
      let two = length-append (param_tokens p) (more_tokens ps) in
      omega (arith, first, rest, one, two)

part-few : (part : Part) → length (references part.params) ≤ length (part_tokens part)
part-few part =
    let inside = params-few part.params in
    let size = length-append (params_tokens part.params) (token.right ∷ []) in
    omega (arith, inside, size)

parts-few : (parts : List Part) → length (flat_map (λ (part : Part). references part.params) parts) ≤ length (flat_map part_tokens parts)
parts-few [] = omega arith
parts-few (part ∷ parts) =
    let first = part-few part in
    let rest = parts-few parts in
    let one = length-append (references part.params) (flat_map (λ (x : Part). references x.params) parts) in
    let two = length-append (part_tokens part) (flat_map part_tokens parts) in
    omega (arith, first, rest, one, two)

record-few : (r : Record) → length (record_references r) ≤ length (record_tokens r)
record-few (simple part) = part-few part
record-few (complex parts) =
    let inside = parts-few parts in
    let size = length-append (flat_map part_tokens parts) (token.right ∷ []) in
    omega (arith, inside, size)

pub references-few : ReferencesAreFew
references-few [] = omega arith
references-few (section line_ ∷ given) = let rest = references-few given in let size = length-append (statement_tokens (section line_)) (flat_map statement_tokens given) in omega (arith, rest, size)
references-few (header part ∷ given) = let rest = references-few given in let size = length-append (statement_tokens (header part)) (flat_map statement_tokens given) in omega (arith, rest, size)
references-few (instance n r ∷ given) =
    let rest = references-few given in
    let first = record-few r in
    let own = length-append (record_references r) (flat_map statement_references given) in
    let size = length-append (statement_tokens (instance n r)) (flat_map statement_tokens given) in
    let inside = length-append (record_tokens r) (token.semicolon ∷ []) in
    omega (arith, rest, first, own, size, inside)

-- ---- what is held

pub statements-ended : TokensEndStatements
statements-ended given opened tokens depth tokens_are none is =
    let open_ : IsOpenStatement tokens opened = record { ended = flat_map statement_tokens given; given_are = tokens_are; ends = statements-end given; no_semicolon = none } in
    let same : is.opened ≡ opened = one_open_statement tokens is.opened opened is.open_statement open_ in
    append_cancel_right is.open_statement.ended (flat_map statement_tokens given) opened (ap (λ (x : List Token). is.open_statement.ended ++ x) (sym same) ∙ sym is.open_statement.given_are ∙ tokens_are)

pub unrefused-held : UnrefusedAreHeld
unrefused-held s limits bytes given groups unrefused pending depth is open_ ended t text is_file first = record {
  pending = is;
  depth = open_;
  statements = given;
  structure = t;
  schema_text = text;
  is_file = is_file;
  are_first = first;
  ended_are = ended;
  kept = canonical_size-of_unrefused s limits given groups unrefused;
  needs = sym (references-counted s limits given groups unrefused);
}
