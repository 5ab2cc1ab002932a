use Rattle.std.proofs.Common.{◌≡◌, ◌+◌, ◌∷◌, ◌∙◌, [], true, false, ap, drop, get_or, refl, subst, sym}
use Rattle.std.specs.Io.Iter.{u64_saturate}
use Rattle.std.specs.Prelude.{count_by}
use Rattle.jb_rows.specs.Bytes.{BeginsRecord, is_line_feed}
use Rattle.jb_rows.specs.TextLines.{ends_line}
use Rattle.jb_rows.proofs.Runs.{front-of}
use Rattle.jb_rows.proofs.text_reader.TextReader.skip_end.Goals as goal

pub returns : goal.returns
returns g c =
    let window = c.args.self.now.source.window in
    let byte = get_or window 0 0 in
    let ends : ends_line byte ≡ true = rw c.bytes.ensures at (sym c.ends_line.ensures ∙ c.if-not-ends_line.false) in
    let feeds : c.line_feeds.result ≡ count_by is_line_feed (byte ∷ []) = rw c.bytes.ensures at c.line_feeds.ensures in
    let line = c.saturating_add-self.ensures ∙ ap (λ feeds. u64_saturate (c.args.self.now.line + feeds)) feeds in
    (byte, drop 1 window, front-of window c.requires, ends, c.skip.ensures, refl, line)

pub returns-then-not-ends_line : goal.returns-then-not-ends_line
returns-then-not-ends_line g c =
    let window = c.args.self.now.source.window in
    let goes : ends_line (get_or window 0 0) ≡ false = rw c.bytes.ensures at (sym c.ends_line.ensures ∙ c.if-not-ends_line.true) in
    (refl, subst BeginsRecord (sym (front-of window c.requires)) goes)
