use Rattle.std.proofs.Common.{◌≡◌, ◌≤◌, ◌+◌, ◌++◌, ◌∷◌, [], false, true, ap, arith, length, length-append, refl, rules, subst, sym, ◌∙◌}
use Rattle.std.specs.List.{All}
use Rattle.std.proofs.lemmas.List.{append-nil}
use Rattle.std.proofs.lemmas.List.Elements.{All-push}
use Rattle.jb_rows.specs.Fields.{packed}
use Rattle.jb_rows.specs.Places.{AreLinesFrom, BeginsIn}
use Rattle.jb_rows.specs.Streams.{HasGivenRows, longest_of}
use Rattle.jb_rows.specs.Texts.{IsAfter, IsTooLongAfter, config_of, header_of}
use Rattle.jb_rows.proofs.Headers.{read-first}
use Rattle.jb_rows.proofs.Streams.{joined, lines-pushed, too-long-weaker}
use Rattle.jb_rows.proofs.rows_reader.RowsReader.next_rows.Goals as goal

pub loop-init : goal.loop-init
loop-init g c =
    let none = ap length c.clear.ensures in
    let no_lines = ap length c.clear-2.ensures.items in
    record {
      given = λ options text before given.
          subst (HasGivenRows options g.R.Read.remaining (record c.args.self.now { lines = c.clear-2.new.self }) text) (sym (ap (λ rows. before ++ rows) c.clear.ensures ∙ append-nil before)) given;
      most = none;
      short = λ index field below. absurd (omega (arith, below, none));
      lines = λ options text before given index below. absurd (omega (arith, below, no_lines));
      counted = no_lines ∙ sym none;
      longest = refl;
    }

pub returns-in-Err-clause-refused : goal.returns-in-Err-clause-refused
returns-in-Err-clause-refused g c options text before given =
    let so_far = c.loop.invariant.given options text before given in
    too-long-weaker c.in-Err.error (λ number. number ≡ c.loop.self.given) (IsAfter options text (before ++ c.loop.rows))
    (λ number is. (read-first (config_of options) g.R.Read.remaining c.loop.self text (header_of options text ++ (before ++ c.loop.rows)) so_far.0, is ∙ so_far.2))
    c.in-Err.ensures.refused

pub returns-then-not-found-clause-given : goal.returns-then-not-found-clause-given
returns-then-not-found-clause-given g c options text before given =
    let ends : c.in-Ok.found ≡ false = search rules in
    let all = rw ends at (c.in-Ok.ensures.given options text (before ++ c.loop.rows) (c.loop.invariant.given options text before given)) in
    all.0

pub returns-then-not-found-clause-all : goal.returns-then-not-found-clause-all
returns-then-not-found-clause-all g c ended options text before given =
    let ends : c.in-Ok.found ≡ false = search rules in
    let all = rw ends at (c.in-Ok.ensures.given options text (before ++ c.loop.rows) (c.loop.invariant.given options text before given)) in
    all.1

pub returns-in_err-push-clause-short : goal.returns-in_err-push-clause-short
returns-in_err-push-clause-short g c =
    subst (All (λ fields. length (packed fields) ≤ longest_of c.args.self.now)) (sym c.in_err-push.ensures.err) c.loop.invariant.short

pub loop-preserved : goal.loop-preserved
loop-preserved g c =
    let goes : c.in-Ok.found ≡ true = search rules in
    let small = c.in-Ok.ensures.short goes in
    record {
      given = λ options text before given.
          subst (HasGivenRows options g.R.Read.remaining c.next_row.new.self text)
          (joined before c.loop.rows c.push.new.self c.next_row.new.self.row c.next_row.new.self.row c.in_ok-push.ensures.ok refl)
          (rw goes at (c.in-Ok.ensures.given options text (before ++ c.loop.rows) (c.loop.invariant.given options text before given)));
      most =
          let long = ap length c.in_ok-push.ensures.ok ∙ length-append c.loop.rows (c.next_row.new.self.row ∷ []) in
          let before = c.loop.invariant.most in
          omega arith;
      short =
          let one : length (packed c.next_row.new.self.row) ≤ longest_of c.args.self.now = omega (arith, small, c.loop.invariant.longest) in
          subst (All (λ fields. length (packed fields) ≤ longest_of c.args.self.now)) (sym c.in_ok-push.ensures.ok)
          (All-push (λ fields. length (packed fields) ≤ longest_of c.args.self.now) c.loop.rows c.next_row.new.self.row c.loop.invariant.short one);
      lines = λ options text before given.
          let so_far = c.loop.invariant.lines options text before given in
          let count : length (before ++ c.loop.rows) ≡ length before + length c.loop.self.lines.items = length-append before c.loop.rows ∙ ap (λ n. length before + n) (sym c.loop.invariant.counted) in
          let begins = subst (λ number. BeginsIn options text number c.next_row.new.self.line) count
          (c.in-Ok.ensures.begins goes options text (before ++ c.loop.rows) (c.loop.invariant.given options text before given)) in
          lines-pushed options text (length before) c.loop.self.lines.items _ c.next_row.new.self.line so_far begins
          (c.in_ok-push-2.ensures.items ∙ ap (λ front. front ++ c.next_row.new.self.line ∷ []) c.next_row.ensures.lines);
      counted =
          let pushed = ap length c.in_ok-push-2.ensures.items ∙ length-append c.next_row.new.self.lines.items (c.next_row.new.self.line ∷ []) in
          let same = ap length c.next_row.ensures.lines in
          let rows = ap length c.in_ok-push.ensures.ok ∙ length-append c.loop.rows (c.next_row.new.self.row ∷ []) in
          let before = c.loop.invariant.counted in
          omega (arith, pushed, same, rows, before);
      longest = c.next_row.ensures.longest ∙ c.loop.invariant.longest;
    }

pub returns-in-Err-clause-too_long : goal.returns-in-Err-clause-too_long
returns-in-Err-clause-too_long g c options text before given =
    too-long-weaker c.in-Err.error (λ _. IsTooLongAfter options text (before ++ c.loop.rows) (longest_of c.loop.self)) (λ _. IsTooLongAfter options text (before ++ c.loop.rows) (longest_of c.args.self.now))
    (λ number long. subst (IsTooLongAfter options text (before ++ c.loop.rows)) c.loop.invariant.longest long)
    (c.in-Err.ensures.too_long options text (before ++ c.loop.rows) (c.loop.invariant.given options text before given))

pub returns-in-Err-clause-lines : goal.returns-in-Err-clause-lines
returns-in-Err-clause-lines g c options text before given = subst (AreLinesFrom options text (length before)) (sym c.next_row.ensures.lines) (c.loop.invariant.lines options text before given)

pub returns-then-not-found-clause-lines : goal.returns-then-not-found-clause-lines
returns-then-not-found-clause-lines g c options text before given = subst (AreLinesFrom options text (length before)) (sym c.next_row.ensures.lines) (c.loop.invariant.lines options text before given)

pub returns-in_err-push-clause-lines : goal.returns-in_err-push-clause-lines
returns-in_err-push-clause-lines g c options text before given = subst (AreLinesFrom options text (length before)) (sym c.next_row.ensures.lines) (c.loop.invariant.lines options text before given)
