use Rattle.std.proofs.Common.{◌≡◌, ◌+◌, ◌++◌, ◌∙◌, [], true, false, ap, drop, refl, rules, subst, sym, take}
use Rattle.csv.specs.declared.parser.State.TheVariants as st
use Rattle.std.specs.Io.Iter.{u64_saturate}
use Rattle.std.specs.Prelude.{count_by}
use Rattle.jb_rows.specs.Bytes.{BeginsRecord, ReadsOn, is_line_feed, marks_config}
use Rattle.jb_rows.proofs.Bytes.{end-skipped, reads-both}
use Rattle.jb_rows.proofs.Passing.{at-hand, begins-more, none-left, passed-none, step-none, step-on}
use Rattle.jb_rows.proofs.text_reader.TextReader.skip_ends.Goals as goal

pub loop-init : goal.loop-init
loop-init g c = record { passed = λ left is. ([], left, passed-none g.R.Read.remaining c.args.self.now left is, λ after. refl); marks = refl }

pub returns-then-not-branch-clause-passed : goal.returns-then-not-branch-clause-passed
returns-then-not-branch-clause-passed g c left is =
    let none : c.in_ok-fill.field-0 ≡ false = search rules in
    let ends = rw none at c.in_ok-fill.ensures.some in
    let so_far = c.loop.invariant.passed left is in
    let now = step-none g.R.Read.remaining c.args.self.now c.loop.self (record c.loop.self { source = c.fill.new.self }) left so_far.0 so_far.1 so_far.2 c.in_ok-fill.ensures.keeps refl in
    (so_far.0, so_far.1, now, so_far.3, none-left _ so_far.1 ends now.1)

pub returns-then-not-skip_end-clause-passed : goal.returns-then-not-skip_end-clause-passed
returns-then-not-skip_end-clause-passed g c left is =
    let stops : c.skip_end.result ≡ false = search rules in
    let here = rw stops at c.skip_end.ensures in
    let so_far = c.loop.invariant.passed left is in
    let now = step-none g.R.Read.remaining c.args.self.now c.loop.self (record c.loop.self { source = c.fill.new.self }) left so_far.0 so_far.1 so_far.2 c.in_ok-fill.ensures.keeps refl in
    let hand = at-hand g.R.Read.remaining c.fill.new.self so_far.1 c.in_ok-fill.ensures.begun now.1 in
    let begins = subst BeginsRecord (sym hand.1) (begins-more c.fill.new.self.window hand.0 here.1) in
    rw here.0 (so_far.0, so_far.1, now, so_far.3, begins)

pub loop-preserved : goal.loop-preserved
loop-preserved g c =
    let goes : c.skip_end.result ≡ true = search rules in
    let (byte, window, split, ends, source, marks, line) = rw goes at c.skip_end.ensures in
    let old = c.args.self.now.marks in
    let front = ap (take 1) split in
    record {
      passed = λ left is.
          let so_far = c.loop.invariant.passed left is in
          let (rest, passes) = step-on g.R.Read.remaining c.args.self.now c.loop.self c.skip_end.new.self c.fill.new.self left so_far.0 so_far.1 1 so_far.2 c.in_ok-fill.ensures.keeps c.in_ok-fill.ensures.begun
          (source ∙ ap (λ w. record c.fill.new.self { window = w }) (sym (ap (drop 1) split))) (line ∙ ap (λ f. u64_saturate (c.loop.self.line + count_by is_line_feed f)) (sym front)) in (
            so_far.0 ++ take 1 c.fill.new.self.window,
            rest,
            passes,
            reads-both (marks_config old) st.StartRecord st.StartRecord st.StartRecord [] [] [] [] [] [] so_far.0 (take 1 c.fill.new.self.window) so_far.3
                (subst (λ f. ReadsOn (marks_config old) st.StartRecord [] [] f st.StartRecord [] []) (sym front) (end-skipped old.quoting old.delimiter byte ends)),
          );
      marks = marks ∙ c.loop.invariant.marks;
    }
