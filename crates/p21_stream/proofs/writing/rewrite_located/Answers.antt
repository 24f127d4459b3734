use Rattle.p21_stream.proofs.Canonicals.{all-written, part-written}
use Rattle.p21_stream.proofs.writing.rewrite_located.Goals as goal

pub returns-in-Ok-write_to-clause-ok : goal.returns-in-Ok-write_to-clause-ok
returns-in-Ok-write_to-clause-ok g c = all-written _ c.headline.ensures.formed _ c.headline.ensures.limits _ _ _ _ _ _ c.in-Ok.ensures.ok
    c.in-Ok-write_to.ensures.ok c.len.ensures

pub returns-clause-err : goal.returns-clause-err
returns-clause-err g c = rw c.in-Err-write_to.ensures.refusal
    (part-written _ c.headline.ensures.formed _ c.headline.ensures.limits _ _ _ _ _ c.in-Ok.ensures.ok c.in-Err-write_to.ensures.err)

pub returns-clause-failed_read : goal.returns-clause-failed_read
returns-clause-failed_read g c = rw c.in-Err-write_to.ensures.refusal c.in-Ok.ensures.read

pub returns-clause-failed_write : goal.returns-clause-failed_write
returns-clause-failed_write g c = rw c.in-Err-write_to.ensures.refusal c.in-Err-write_to.ensures.failed
