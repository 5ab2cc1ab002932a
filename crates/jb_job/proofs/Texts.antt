-- The tree of a text, by what reading it says.
use Rattle.std.proofs.Common.{◌≡◌, List, ℕ, Some, None, true, false, cond, refl, IsUtf8}
use Rattle.std.proofs.lemmas.Str.{IsUtf8-from_is_utf8, is_utf8-from_IsUtf8}
use Rattle.std.specs.Str.{is_utf8}
use Rattle.serde_json.specs.Data.{Data}
use Rattle.serde_json.specs.Read.{read}
use Rattle.jb_job.specs.Reading.{tree_of}

pub tree_of-read : (bytes : List ℕ) (d : Data) → IsUtf8 bytes → read bytes ≡ Some d → tree_of bytes ≡ Some d
tree_of-read bytes d utf8 is = rw (is_utf8-from_IsUtf8 bytes utf8) is

pub tree_of-none : (bytes : List ℕ) → (IsUtf8 bytes → read bytes ≡ None) → tree_of bytes ≡ None
tree_of-none bytes none = elim (is_utf8 bytes) as (λ b. is_utf8 bytes ≡ b → cond b (read bytes) None ≡ None) [ true ↦ λ e. none (IsUtf8-from_is_utf8 bytes e) | false ↦ λ e. refl ] refl

pub ruleset text_steps = (tree_of-read, tree_of-none)
