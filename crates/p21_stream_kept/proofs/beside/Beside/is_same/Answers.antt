use Rattle.std.proofs.Common.{Option, subst, sym, ℕ}
use Rattle.std.specs.Prelude.{IfSome}
use Rattle.std.specs.Prelude as std
use Rattle.std.specs.declared.alloc.Global.{Global}
use Rattle.p21_stream_kept.proofs.EarlierLemmas.{same-beside}
use Rattle.p21_stream_kept.specs.Sections.{HaveNumbers}
use Rattle.p21_stream_kept.proofs.beside.Beside.is_same.Goals as goal

pub returns-in-Some : goal.returns-in-Some
returns-in-Some c =
    let earlier = c.args.self.now.earlier in
    let headings = c.args.sections.now in
    let have = subst (λ (found : Option (std.Vec ℕ Global)). IfSome found (λ numbers. HaveNumbers earlier.headings headings numbers.items))
    c.in-Some.is c.in_ok-found.ensures.some in
    same-beside earlier c.args.self.now.equal c.args.header.now headings c.args.memberships.now c.args.self.now.names
    c.in-Some.numbers.items (c.has_counts.ensures.0 c.if-not-has_counts.false) have c.has_sections.result
    (c.has_sections.ensures headings (subst (HaveNumbers earlier.headings headings) (sym c.deref.ensures.value) have) c.requires.sections)
