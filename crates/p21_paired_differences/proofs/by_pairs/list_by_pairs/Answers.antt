use Rattle.p21_paired_differences.proofs.Pairs.{decided, not-decided, text-accepted}
use Rattle.p21_difference_rows.specs.Asked.{left_out_of}
use Rattle.p21_paired_differences.proofs.by_pairs.list_by_pairs.Goals as goal

pub paired_file-requires-clause-first : goal.paired_file-requires-clause-first
paired_file-requires-clause-first c = text-accepted c.args.schema.now c.headline.ensures.formed c.args.limits c.headline.ensures.limits
    c.args.first.now c.requires.first

pub paired_file-requires-clause-second : goal.paired_file-requires-clause-second
paired_file-requires-clause-second c = text-accepted c.args.schema.now c.headline.ensures.formed c.args.limits c.headline.ensures.limits
    c.args.second.now c.requires.second

pub returns-then-not-have_one_text-clause-list : goal.returns-then-not-have_one_text-clause-list
returns-then-not-have_one_text-clause-list c =
    not-decided c.args.form (left_out_of c.args.left_out) c.args.pairs c.args.schema.now c.headline.ensures.formed c.args.limits
    c.pairing_laws.ensures.pairs
    c.pairing_laws.ensures.same c.pairing_laws.ensures.paired c.args.first.now c.args.second.now c.in-Ok.paired.file
    c.in-Ok.paired.old_names c.in-Ok.ensures c.requires.second
    c.have_one_text.result c.in_ok-found.found.is_same c.in_ok-found.found.is_empty c.in_ok-found.found.text.items
    c.have_one_text.ensures c.if-not-have_one_text.true
    c.in_ok-found.ensures.same c.in_ok-found.ensures.empty c.in_ok-found.ensures.text

pub returns-clause-list : goal.returns-clause-list
returns-clause-list c =
    decided c.args.form (left_out_of c.args.left_out) c.args.pairs c.args.schema.now c.headline.ensures.formed c.args.limits
    c.pairing_laws.ensures.pairs
    c.pairing_laws.ensures.same c.pairing_laws.ensures.paired c.args.first.now c.args.second.now c.in-Ok.paired.file
    c.in-Ok.paired.old_names c.in-Ok.ensures c.requires.second
    c.in_ok-found-2.found.is_same c.in_ok-shown.shown.is_same c.in_ok-found-2.found.is_empty c.in_ok-shown.shown.is_empty
    c.in_ok-found-2.found.text.items c.in_ok-shown.shown.text.items
    c.in_ok-found-2.ensures.same c.in_ok-found-2.ensures.list c.in_ok-shown.ensures.same c.in_ok-shown.ensures.empty
    c.in_ok-shown.ensures.text
