use Rattle.std.proofs.lemmas.Option.{slice_get_past}
use Rattle.p21_express_outline.proofs.Selecting.{select-said, no-select-said, absent-said, looked}
use Rattle.p21_express_outline.proofs.selects.is_select.Goals as goal

pub returns-in-Choice : goal.returns-in-Choice
returns-in-Choice c = select-said c.args.parts.now c.args.of c.in-Some.defined.now c.in-Choice._members
    (let l = rw c.deref.ensures.value at c.in-Some.ensures.lookup in
    looked c.args.parts.now.types.items c.args.of c.in-Some.defined.now l.3.0 l.1) c.in-Choice.is

pub returns-in-Alias : goal.returns-in-Alias
returns-in-Alias c = no-select-said c.args.parts.now c.args.of c.in-Some.defined.now
    (let l = rw c.deref.ensures.value at c.in-Some.ensures.lookup in
    looked c.args.parts.now.types.items c.args.of c.in-Some.defined.now l.3.0 l.1) (λ members same. let h = rw c.in-Alias.is at same in cc)

pub returns-in-Items : goal.returns-in-Items
returns-in-Items c = no-select-said c.args.parts.now c.args.of c.in-Some.defined.now
    (let l = rw c.deref.ensures.value at c.in-Some.ensures.lookup in
    looked c.args.parts.now.types.items c.args.of c.in-Some.defined.now l.3.0 l.1) (λ members same. let h = rw c.in-Items.is at same in cc)

pub returns-in-None : goal.returns-in-None
returns-in-None c = absent-said c.args.parts.now c.args.of
    (let l = rw c.deref.ensures.value at c.in-None.ensures.lookup in slice_get_past c.args.parts.now.types.items c.args.of l.3)
