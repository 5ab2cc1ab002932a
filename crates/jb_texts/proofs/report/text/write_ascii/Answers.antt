use Rattle.std.proofs.Common.{rules}
use Rattle.jb_texts.proofs.Utf8.{utf8_lossy-ascii}
use Rattle.std.proofs.lemmas.Str.{IsUtf8-from_ascii}
use Rattle.jb_texts.proofs.report.text.write_ascii.Goals as goal

pub from_utf8_unchecked-requires : goal.from_utf8_unchecked-requires
from_utf8_unchecked-requires c = IsUtf8-from_ascii c.args.bytes.now c.requires

pub returns-clause-text : goal.returns-clause-text
returns-clause-text c =
    rw (utf8_lossy-ascii c.args.bytes.now c.requires) (search rules)
