use Rattle.std.proofs.Common.{◌∙◌, ℕ, List, ap, length, sym, subst}
use Rattle.std.proofs.lemmas.Result.{IfOk-weaker}
use Rattle.p21_numbered.specs.Lines.{held_lines}
use Rattle.p21_stream_output.specs.Ending.{HasSize, IsKeptIn}
use Rattle.p21_stream_output.specs.Filing.{AreOfSections, HaveMemberships}
use Rattle.p21_stream_store.specs.Memberships.{Membership}
use Rattle.p21_numbered_file.proofs.PutTogether.{are-named, has-size, have-memberships, is-put, of-sections}
use Rattle.p21_numbered_file.specs.Sizes.{file_size}
use Rattle.p21_stream_output.specs.declared.named_sections.NamedSection.{NamedSection}
use Rattle.p21_numbered_file.proofs.assembly.put_together.Goals as goal

pub accepted_file-requires-clause-memberships : goal.accepted_file-requires-clause-memberships
accepted_file-requires-clause-memberships c =
    let P : List Membership → Type 0 = λ ms. HaveMemberships ms c.in_ok-instances.instances in
    subst P (sym c.in_ok-memberships.ensures)
    (have-memberships c.args.header.items c.args.sections.now c.args.places.now (held_lines c.args.lines.now) c.requires
    c.in_ok-parts.parts.items c.in_ok-parts.ensures.begin c.in_ok-instances.instances c.in_ok-instances.ensures)

pub accepted_file-requires-clause-sections : goal.accepted_file-requires-clause-sections
accepted_file-requires-clause-sections c =
    let P : List Membership → Type 0 = λ ms. AreOfSections (length c.in_ok-parts.parts.items) ms in
    subst P (sym c.in_ok-memberships.ensures)
    (of-sections c.args.header.items c.args.sections.now c.args.places.now (held_lines c.args.lines.now) c.requires
    c.in_ok-parts.parts.items c.in_ok-parts.ensures.begin c.in_ok-instances.instances c.in_ok-instances.ensures)

pub accepted_file-requires-clause-named : goal.accepted_file-requires-clause-named
accepted_file-requires-clause-named c =
    are-named c.args.header.items c.args.sections.now c.args.places.now (held_lines c.args.lines.now) c.requires c.in_ok-parts.parts.items
    c.in_ok-parts.ensures.begin c.in_ok-instances.instances c.in_ok-instances.ensures

pub accepted_file-requires-clause-size : goal.accepted_file-requires-clause-size
accepted_file-requires-clause-size c =
    let header = c.args.header.items in
    let lines = held_lines c.args.lines.now in
    let parts = c.in_ok-parts.parts.items in
    let instances = c.in_ok-instances.instances in
    let by_header : List ℕ → ℕ = λ h. file_size h c.deref-2.result.now lines in
    let by_parts : List NamedSection → ℕ = λ ps. file_size header ps lines in
    let size_is = c.in-Some.ensures ∙ ap by_header c.deref.ensures.value ∙ ap by_parts c.deref-2.ensures.value in
    let M : List Membership → Type 0 = λ ms. HasSize header parts ms instances (file_size header parts lines) in
    let S : ℕ → Type 0 = λ size. HasSize header parts c.in_ok-memberships.memberships instances size in
    subst S (sym size_is) (subst M (sym c.in_ok-memberships.ensures)
    (has-size header c.args.sections.now c.args.places.now lines c.requires parts c.in_ok-parts.ensures.begin instances
    c.in_ok-instances.ensures))

pub returns : goal.returns
returns c =
    let header = c.args.header.items in
    let parts = c.in_ok-parts.parts.items in
    let instances = c.in_ok-instances.instances in
    IfOk-weaker _ _ _ (λ file each. is-put header c.args.sections.now c.args.places.now (held_lines c.args.lines.now) c.requires parts
    c.in_ok-parts.ensures.begin instances c.in_ok-instances.ensures file (λ kept stands once.
    let K : List Membership → Type 0 = λ ms. IsKeptIn kept header parts ms instances in
    each kept (subst K (sym c.in_ok-memberships.ensures) stands) once)) c.accepted_file.ensures.kept
