use Rattle.std.proofs.Common.{take}
use Rattle.jb_slices.specs.Job.{first_of}
use Rattle.jb_csv_job.{specs.Job.{job_record}, proofs.Taking.{slice-read}}
use Rattle.jb_csv_job.proofs.reading.read_slice.Goals as goal

pub returns-clause-read : goal.returns-clause-read
returns-clause-read g c f text records number read stands =
    let job = job_record c.args.work.now.job.now c.args.work.now.asked.now f in
    let before = take (first_of job.job number) records in
    let gave = c.in_ok-next_rows.ensures in
    slice-read job g.R.Read.remaining text records number c.args.reader.now c.next_rows.new.self c.next_rows.new.rows c.in_ok-next_rows.field-0
    read stands (gave.given job.options text before stands.given) (λ last. gave.all last job.options text before stands.given) gave.most gave.full
    _ _ c.len-count.ensures (c.next_rows.ensures.lines job.options text before stands.given) gave.counted c.is_last_slice-is_last.ensures.last
