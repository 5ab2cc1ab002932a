use Rattle.std.proofs.Common.{rules, refl}
use Rattle.jb_plan.proofs.NoFaults.{runnable-parts, ranges-runnable, overlap-runnable, ranges-first, pairs-first}
use Rattle.jb_plan.proofs.checking.checked.Goals as goal

pub returns-in_err-ranges_in-clause-ok : goal.returns-in_err-ranges_in-clause-ok
returns-in_err-ranges_in-clause-ok c =
    (search rules, λ runnable. absurd (ranges-runnable c.args.records c.args.plan _ _ c.as_slice-ranges.ensures runnable c.in_err-ranges_in.ensures.err))

pub returns-in_err-check_all_apart-clause-ok : goal.returns-in_err-check_all_apart-clause-ok
returns-in_err-check_all_apart-clause-ok c =
    (search rules, λ runnable. absurd (overlap-runnable c.args.records c.args.plan _ _ c.as_slice-ranges.ensures runnable c.in_err-check_all_apart.ensures))

pub of-requires-clause-runnable : goal.of-requires-clause-runnable
of-requires-clause-runnable c =
    runnable-parts c.args.records c.args.plan _ c.as_slice-ranges.ensures (c.in_ok-ranges_in.ensures.ok.0 refl) c.if-ranges-gt-MAX_PARTITIONS.false c.in_ok-check_all_apart.ensures c.if-plan-gt-MAX_THREADS_ASKED.false

pub returns-clause-ok : goal.returns-clause-ok
returns-clause-ok c =
    (λ _. runnable-parts c.args.records c.args.plan _ c.as_slice-ranges.ensures (c.in_ok-ranges_in.ensures.ok.0 refl) c.if-ranges-gt-MAX_PARTITIONS.false c.in_ok-check_all_apart.ensures c.if-plan-gt-MAX_THREADS_ASKED.false, λ _. refl)

pub returns-in_err-ranges_in-clause-err : goal.returns-in_err-ranges_in-clause-err
returns-in_err-ranges_in-clause-err c =
    let found = ranges-first c.args.records c.args.plan _ c.in_err-ranges_in.field-0.0 c.as_slice-ranges.ensures c.if-ranges-gt-MAX_PARTITIONS.false c.in_err-ranges_in.ensures.err in
    search (rules, found)

pub returns-in_err-check_all_apart-clause-err : goal.returns-in_err-check_all_apart-clause-err
returns-in_err-check_all_apart-clause-err c =
    let found = pairs-first c.args.records c.args.plan _ c.in_err-check_all_apart.field-0.0 c.as_slice-ranges.ensures c.if-ranges-gt-MAX_PARTITIONS.false (c.in_ok-ranges_in.ensures.ok.0 refl) c.in_err-check_all_apart.ensures in
    search (rules, found)
