use Rattle.std.proofs.Common.{◌≡◌, ℕ, List, length, take, ◌∙◌, ap, sym, arith}
use Rattle.std.proofs.lemmas.List.{length-take}
use Rattle.jb_cert.specs.Certificates.{is_least_plan}
use Rattle.jb_repo.specs.Representation.{journal_of}
use Rattle.jb_repo.specs.Rows.{remaining}
use Rattle.jb_repo.specs.Table.{rows_of}
use Rattle.jb_repo.proofs.Tables.{remaining_fits}
use Rattle.jb_repo.proofs.repository.Repo.is_good_plan.Goals as goal
use Rattle.jb_repo.proofs.repository.Repo.is_good_plan.Goals.{After-remaining_counts}

-- the counts that were written are those of the definition
counts_are : (c : After-remaining_counts) → take (length c.rows_now-rows.result.now) c.remaining_counts.new.counts ≡ remaining c.self.inside.item_count (rows_of (journal_of c.self.inside))
counts_are c =
    c.remaining_counts.ensures ∙ ap (remaining c.self.inside.item_count) (c.rows_now-rows.ensures.rows ∙ ap rows_of (sym c.self.view_is))

pub is_least_plan-requires : goal.is_least_plan-requires
is_least_plan-requires c =
    let same = counts_are (goal.at.is_least_plan-requires c).After-remaining_counts in
    let ready = c.self.invariant.ready in
    record {
      few_counts = omega (arith, length-take (length c.rows_now-rows.result.now) c.remaining_counts.new.counts, c.rows_now-rows.ensures.table.few_rows);
      few_chunks = rw same (remaining_fits c.lower_laws.ensures (journal_of c.self.inside) ready c.self.invariant.accepted);
      some_thread = ready.some_threads;
      few_threads = ready.few_threads;
    }

pub returns : goal.returns
returns c =
    let same = counts_are (goal.at.returns c).After-remaining_counts in
    rw (← c.self.view_is) (c.is_least_plan.ensures.value ∙ ap (λ (counts : List ℕ). is_least_plan counts c.self.inside.threads c.args.rounds c.args.certificate) same)
