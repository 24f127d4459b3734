use Rattle.std.proofs.Common.{◌≡◌, ◌∙◌, ◌++◌, ℕ, Bool, ap, inl, string_bytes, subst}
use Rattle.p21_commands.specs.CheckAll.{WritesLines, count_line, has_read_fault, listed_count}
use Rattle.p21_commands.specs.Streams.{stream_of}
use Rattle.p21_commands.proofs.TellingLemmas.{counts-last}
use Rattle.p21_commands.proofs.located.tell_refused.Goals as goal

pub returns-in-Ok-clause-writes : goal.returns-in-Ok-clause-writes
returns-in-Ok-clause-writes g c =
    let text = string_bytes c.in-Ok.lines in
    let faults = stream_of g.F.Write.contents c.args.faults.now c.write_refused.new.faults in
    let list = c.deref.ensures.value in
    let last = counts-last c.args.telling.now.form c.args.is_counted c.args.refusals.now text (λ is counted.
    let (front, same) = c.in-Ok.ensures is counted in (
      front,
      subst (λ (n : ℕ). text ≡ front ++ count_line n c.args.refusals.now.extent)
          (c.count_of-count.ensures.count ∙ ap listed_count list) same,
    )) in
    let writes = subst (λ (unread : Bool). WritesLines text unread faults c.write_refused.result)
    (c.count_of-count.ensures.unread ∙ ap has_read_fault list) c.write_refused.ensures.writes in
    inl (text, last, writes)
