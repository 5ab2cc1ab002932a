use Rattle.std.proofs.Common.{◌≡◌, ◌+◌, ◌++◌, ◌∙◌, [], Some, false, true, ap, refl, rules, sym, take}
use Rattle.std.specs.Io.Iter.{u64_saturate}
use Rattle.csv.specs.declared.parser.State.TheVariants as st
use Rattle.jb_rows.specs.Bytes.{csv_state, marks_config}
use Rattle.jb_rows.proofs.Bytes.{reads-both, reads-end}
use Rattle.jb_rows.proofs.Inside.{last-is, longer-so-far, longer-whole, some-part}
use Rattle.jb_rows.proofs.Passing.{none-left, passed-none, step-none, step-on}
use Rattle.jb_rows.proofs.text_reader.TextReader.read_record.Goals as goal

pub loop-init : goal.loop-init
loop-init g c = record {
  passed = λ left is. ([], left, passed-none g.R.Read.remaining c.args.self.now left is, λ after. rw (c.clear.ensures, c.clear-2.ensures.items) refl);
  marks = refl;
}

pub loop-preserved : goal.loop-preserved
loop-preserved g c =
    let marks = c.args.self.now.marks in
    let count = c.in_ok-taken.taken.count in
    let part = take count c.fill.new.self.window in
    let goes : c.in_ok-taken.taken.is_whole ≡ false = c.if-taken.false in
    let reads = rw (goes, c.bytes.ensures, c.loop.invariant.marks) at c.in_ok-taken.ensures.read in
    let lines = rw c.bytes.ensures at c.in_ok-taken.ensures.lines in
    let line = c.saturating_add-self.ensures ∙ ap (λ n. u64_saturate (c.loop.self.line + n)) lines in
    record {
      passed = λ left is.
          let (bytes, rest, passed, so_far) = c.loop.invariant.passed left is in
          let (later, passes) = step-on g.R.Read.remaining c.args.self.now c.loop.self (record c.loop.self { source = c.skip.new.self; line = c.saturating_add-self.result }) c.fill.new.self left bytes rest count
          passed c.in_ok-fill.ensures.keeps c.in_ok-fill.ensures.begun c.skip.ensures line in (
            bytes ++ part,
            later,
            passes,
            reads-both (marks_config marks) st.StartField (csv_state c.loop.place) (csv_state c.in_ok-taken.taken.place) [] c.loop.row c.take_next.new.row
                [] c.loop.field.items c.take_next.new.field.items bytes part so_far reads,
          );
      marks = c.loop.invariant.marks;
    }

pub returns-then-not-branch-clause-passed : goal.returns-then-not-branch-clause-passed
returns-then-not-branch-clause-passed g c left is =
    let none : c.in_ok-fill.field-0 ≡ false = search rules in
    let ends = rw none at c.in_ok-fill.ensures.some in
    let (bytes, rest, passed, so_far) = c.loop.invariant.passed left is in
    let now = step-none g.R.Read.remaining c.args.self.now c.loop.self (record c.loop.self { source = c.fill.new.self }) left bytes rest passed c.in_ok-fill.ensures.keeps refl in
    let last = last-is (marks_config c.args.self.now.marks) c.loop.place c.loop.row c.loop.field.items bytes so_far in
    (bytes, rest, now, (none-left _ rest ends now.1, last ∙ ap (λ row. Some (row, st.StartRecord, [])) (sym c.in_ok-end_field.ensures.row)))

pub returns-then-is_longer-clause-refused : goal.returns-then-is_longer-clause-refused
returns-then-is_longer-clause-refused g c =
    let marks = c.args.self.now.marks in
    let long = rw c.in_ok-end_field.ensures.row at (c.is_longer.ensures.longer c.if-is_longer.true) in (
      refl,
      λ left known.
          let (bytes, rest, passed, so_far) = c.loop.invariant.passed left known in
          longer-so-far marks.quoting marks.delimiter c.loop.place c.loop.row c.loop.field.items left bytes rest c.args.longest so_far passed.0 long,
    )

pub returns-then-taken-clause-passed : goal.returns-then-taken-clause-passed
returns-then-taken-clause-passed g c left is =
    let marks = c.args.self.now.marks in
    let count = c.in_ok-taken.taken.count in
    let part = take count c.fill.new.self.window in
    let whole : c.in_ok-taken.taken.is_whole ≡ true = c.if-taken.true in
    let ends = rw (whole, c.bytes.ensures, c.loop.invariant.marks) at c.in_ok-taken.ensures.read in
    let lines = rw c.bytes.ensures at c.in_ok-taken.ensures.lines in
    let within = rw c.bytes.ensures at c.in_ok-taken.ensures.within in
    let line = c.saturating_add-self.ensures ∙ ap (λ n. u64_saturate (c.loop.self.line + n)) lines in
    let (bytes, rest, passed, so_far) = c.loop.invariant.passed left is in
    let (later, passes) = step-on g.R.Read.remaining c.args.self.now c.loop.self (record c.loop.self { source = c.skip.new.self; line = c.saturating_add-self.result }) c.fill.new.self left bytes rest count
    passed c.in_ok-fill.ensures.keeps c.in_ok-fill.ensures.begun c.skip.ensures line in (
      bytes ++ part,
      later,
      passes,
      (
        some-part bytes c.fill.new.self.window count c.in_ok-taken.ensures.some within,
        reads-end (marks_config marks) st.StartField (csv_state c.loop.place) [] c.loop.row c.take_next.new.row [] c.loop.field.items bytes part so_far ends,
      ),
    )

pub returns-then-is_longer-2-clause-refused : goal.returns-then-is_longer-2-clause-refused
returns-then-is_longer-2-clause-refused g c =
    let marks = c.args.self.now.marks in
    let count = c.in_ok-taken.taken.count in
    let part = take count c.fill.new.self.window in
    let whole : c.in_ok-taken.taken.is_whole ≡ true = c.if-taken.true in
    let ends = rw (whole, c.bytes.ensures, c.loop.invariant.marks) at c.in_ok-taken.ensures.read in
    let lines = rw c.bytes.ensures at c.in_ok-taken.ensures.lines in
    let line = c.saturating_add-self.ensures ∙ ap (λ n. u64_saturate (c.loop.self.line + n)) lines in
    let long = c.is_longer-then-taken.ensures.longer c.if-is_longer-2.true in (
      refl,
      λ left known.
          let (bytes, rest, passed, so_far) = c.loop.invariant.passed left known in
          let (later, passes) = step-on g.R.Read.remaining c.args.self.now c.loop.self (record c.loop.self { source = c.skip.new.self; line = c.saturating_add-self.result }) c.fill.new.self left bytes rest count
          passed c.in_ok-fill.ensures.keeps c.in_ok-fill.ensures.begun c.skip.ensures line in
          longer-whole (marks_config marks) c.take_next.new.row left (bytes ++ part) later c.args.longest
          (reads-end (marks_config marks) st.StartField (csv_state c.loop.place) [] c.loop.row c.take_next.new.row [] c.loop.field.items bytes part so_far ends) passes.0 long,
    )

pub returns-then-is_too_long-clause-refused : goal.returns-then-is_too_long-clause-refused
returns-then-is_too_long-clause-refused g c =
    let marks = c.args.self.now.marks in
    let count = c.in_ok-taken.taken.count in
    let part = take count c.fill.new.self.window in
    let goes : c.in_ok-taken.taken.is_whole ≡ false = c.if-taken.false in
    let reads = rw (goes, c.bytes.ensures, c.loop.invariant.marks) at c.in_ok-taken.ensures.read in
    let lines = rw c.bytes.ensures at c.in_ok-taken.ensures.lines in
    let line = c.saturating_add-self.ensures ∙ ap (λ n. u64_saturate (c.loop.self.line + n)) lines in
    let long = rw c.deref.ensures.value at (c.is_too_long.ensures c.if-is_too_long.true) in (
      refl,
      λ left known.
          let (bytes, rest, passed, so_far) = c.loop.invariant.passed left known in
          let (later, passes) = step-on g.R.Read.remaining c.args.self.now c.loop.self (record c.loop.self { source = c.skip.new.self; line = c.saturating_add-self.result }) c.fill.new.self left bytes rest count
          passed c.in_ok-fill.ensures.keeps c.in_ok-fill.ensures.begun c.skip.ensures line in
          longer-so-far marks.quoting marks.delimiter c.in_ok-taken.taken.place c.take_next.new.row c.take_next.new.field.items left (bytes ++ part) later c.args.longest
          (reads-both (marks_config marks) st.StartField (csv_state c.loop.place) (csv_state c.in_ok-taken.taken.place) [] c.loop.row c.take_next.new.row
          [] c.loop.field.items c.take_next.new.field.items bytes part so_far reads) passes.0 long,
    )
