use Rattle.std.proofs.Common.{◌≡◌, ◌∙◌, ℕ, List, length, ap, refl, sym, subst}
use Rattle.std.proofs.lemmas.Slice.Zip.{AllZip-long}
use Rattle.std.specs.List.{AllZip}
use Rattle.p21_spec_laws.specs.Keeping.{Kept}
use Rattle.p21_spec_exchange.specs.DataSection.{Heading}
use Rattle.p21_stream_output.specs.Ending.{IsKeptIn}
use Rattle.p21_stream_output.specs.NamedSections.{HasHeading}
use Rattle.p21_stream_kept.specs.Inside.{AreNamed, AreOfSections, HaveMemberships, kept_of, stored_of}
use Rattle.p21_stream_kept.specs.Taking.{IsKeptOfFile}
use Rattle.p21_stream_kept.proofs.Ended.{end-is, end-sized}
use Rattle.p21_stream_kept.proofs.kept.Kept.into_accepted.Goals as goal

pub accepted_file-requires-clause-sections : goal.accepted_file-requires-clause-sections
accepted_file-requires-clause-sections c =
    let begins = subst (λ (hs : List Heading). AllZip HasHeading hs c.in_ok-parts.parts.items) c.items.ensures
    c.in_ok-parts.ensures.begin in
    let same : length c.self.inside.sections ≡ length c.in_ok-parts.parts.items =
    sym (AllZip-long HasHeading c.self.inside.sections c.in_ok-parts.parts.items begins) in
    subst (λ (many : ℕ). AreOfSections many c.self.inside.stored.memberships) same c.self.invariant.sections

pub accepted_file-requires-clause-size : goal.accepted_file-requires-clause-size
accepted_file-requires-clause-size c =
    let begins = subst (λ (hs : List Heading). AllZip HasHeading hs c.in_ok-parts.parts.items) c.items.ensures
    c.in_ok-parts.ensures.begin in
    end-sized (kept_of c.self.inside) c.self.inside.header.items c.in_ok-parts.parts.items c.self.inside.stored.memberships
    c.into_lines-instances.result (subst IsKeptOfFile (sym c.self.view_is) c.requires)
    (record {
      header_is = refl;
      begins = begins;
      stored_is =
          ap (stored_of c.self.inside.stored.memberships) (sym c.into_lines-instances.ensures);
    })

pub returns-clause-kept : goal.returns-clause-kept
returns-clause-kept c =
    let begins = subst (λ (hs : List Heading). AllZip HasHeading hs c.in_ok-parts.parts.items) c.items.ensures
    c.in_ok-parts.ensures.begin in
    let stands =
    subst (λ (k : Kept). IsKeptIn k c.self.inside.header.items c.in_ok-parts.parts.items c.self.inside.stored.memberships
    c.into_lines-instances.result) c.self.view_is (record {
      header_is = refl;
      begins = begins;
      stored_is = ap (stored_of c.self.inside.stored.memberships)
          (sym c.into_lines-instances.ensures);
    }) in
    end-is c.args.self c.self.inside.header.items c.in_ok-parts.parts.items c.self.inside.stored.memberships c.into_lines-instances.result
    c.accepted_file.result stands c.accepted_file.ensures.kept

pub accepted_file-requires-clause-named : goal.accepted_file-requires-clause-named
accepted_file-requires-clause-named c = subst AreNamed (sym c.into_lines-instances.ensures)
    (c.self.invariant.named.where_kept (ap (λ (k : Kept). k.lines) c.self.view_is ∙ c.requires.lines))

pub accepted_file-requires-clause-memberships : goal.accepted_file-requires-clause-memberships
accepted_file-requires-clause-memberships c = subst (HaveMemberships c.self.inside.stored.memberships) (sym c.into_lines-instances.ensures)
    c.self.invariant.memberships

pub into_lines-instances-requires : goal.into_lines-instances-requires
into_lines-instances-requires c = ap (λ (k : Kept). k.lines) c.self.view_is ∙ c.requires.lines
