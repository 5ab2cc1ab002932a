-- Reading a JSON tree by tables of fields (own choice): what a field of each kind gives, or the first fault.
--
-- A kind is a function from a field and a tree to a value or a fault. So a fault names its field, and a range is part of
-- the table. A field is of the wrong shape if it is missing and required, or of the wrong kind. After that, a value may
-- be out of its range, and a list may have too many members. `null` is of the wrong kind for every field. If the text
-- repeats a key, the tree has the last value.
use Rattle.std.specs.Prelude.{◌≡◌, ℕ, ◌&&◌, Bool, List, [], ◌∷◌, ◌++◌, length, Option, Some, None, option_and_then, Result, Ok, Err, IsErrAnd, ◌⊎◌, nat_le, bytes_eq, if◌then◌else◌}
use Rattle.std.specs.List.{list_all, list_any}
use Rattle.std.specs.Str.{is_utf8}
use Rattle.serde_json.specs.Data.{Data, Items, no_items, item, Members, no_members, member}
use Rattle.serde_json.specs.Events.{items_len}
use Rattle.serde_json.specs.Find.{get, as_bool, as_number, as_str, as_array, as_object, as_u64}
use Rattle.serde_json.specs.Read.{read}
pub use Rattle.jb_base.specs.Causes.{◌>>=◌}
use Rattle.jb_base.specs.Causes.{Cause, no_memory, of_fault, never, with_memory, Answers}
use Rattle.jb_job.specs.declared.error.JobError.{JobError}
use Rattle.jb_job.specs.declared.error.JobError.TheVariants.{NotJson, WrongShape, OutOfRange, TooMany, UnknownClass, Memory}
use Rattle.jb_job.specs.declared.field.Field.{Field}
use Rattle.jb_job.specs.declared.field.Field.TheVariants as field
use Rattle.jb_job.specs.Names.{name_of}

-- what is wrong with a tree
pub data Fault : Type 0 where
  wrong_shape : Field → Fault
  out_of_range : Field → Fault
  too_many : Field → Fault
  unknown_class : Fault

-- a value, or the first fault
abbrev pub Read : Type 0 → Type 0
Read A = Result A Fault

-- ---- what code is held to

-- What an error says of a tree, which never gives NotJson.
abbrev pub cause_of : JobError → Cause Fault
cause_of Memory = no_memory
cause_of NotJson = never
cause_of (WrongShape f) = of_fault (wrong_shape f)
cause_of (OutOfRange f) = of_fault (out_of_range f)
cause_of (TooMany f) = of_fault (too_many f)
cause_of UnknownClass = of_fault unknown_class

-- What a function that takes no memory returned, seen by view, is what reading gives.
abbrev pub GivesExactly : {X Y : Type 0} → (X → Y) → Result X JobError → Read Y → Type 0
GivesExactly view result read = Answers (λ e. with_memory (cause_of e)) view result read

-- What a function returned, seen by view, is what reading gives, unless memory ran out.
abbrev pub Gives : {X Y : Type 0} → (X → Y) → Result X JobError → Read Y → Type 0
Gives view result read = Answers cause_of view result read

-- ---- kinds of fields

-- a value of the field's kind
abbrev pub shaped : {A : Type 0} → Field → Option A → Read A
shaped f None = Err (wrong_shape f)
shaped f (Some x) = Ok x

-- a value in the field's range
abbrev pub ranged : {A : Type 0} → Field → Bool → A → Read A
ranged f inside x = if inside then Ok x else Err (out_of_range f)

-- an object's keys
abbrev pub member_names : Members → List (List ℕ)
member_names no_members = []
member_names (member k d ms) = k ∷ member_names ms

-- a key of the table
abbrev pub is_named : List Field → List ℕ → Bool
is_named table name = list_any (λ f. bytes_eq (name_of f) name) table

abbrev pub with_keys_of : List Field → Data → Members → Read Data
with_keys_of table d ms = if list_all (is_named table) (member_names ms) then Ok d else Err (wrong_shape field.Unknown)

-- an object that has no key besides the table's
unfoldable pub object_at : Field → List Field → Data → Read Data
object_at f table d = shaped f (as_object d) >>= with_keys_of table d

-- a text of low to high bytes
unfoldable pub text_at : ℕ → ℕ → Field → Data → Read (List ℕ)
text_at low high f d = do
  s ← shaped f (as_str d)
  ranged f (nat_le low (length s) && nat_le (length s) high) s

-- A number is a whole one below 2^64, as the text wrote it: `1.0`, `1e2`, `-1` and `-0` are of another kind.
abbrev pub whole_number : Data → Option ℕ
whole_number d = option_and_then as_u64 (as_number d)

-- a number from low to high
unfoldable pub number_at : ℕ → ℕ → Field → Data → Read ℕ
number_at low high f d = do
  n ← shaped f (whole_number d)
  ranged f (nat_le low n && nat_le n high) n

-- a truth value
unfoldable pub flag_at : Field → Data → Read Bool
flag_at f d = shaped f (as_bool d)

-- a list of low to high members
unfoldable pub list_at : ℕ → ℕ → Field → Data → Read Items
list_at low high f d = do
  items ← shaped f (as_array d)
  if nat_le (items_len items) high then ranged f (nat_le low (items_len items)) items else Err (too_many f)

-- ---- members of a list

abbrev pub pair_of : Items → Option (Data × Data)
pair_of (item a (item b no_items)) = Some (a, b)
pair_of _ = None

-- a list of two members
unfoldable pub pair_at : Field → Data → Read (Data × Data)
pair_at f d = do
  items ← shaped f (as_array d)
  shaped f (pair_of items)

abbrev pub triple_of : Items → Option (Data × Data × Data)
triple_of (item a (item b (item c no_items))) = Some (a, b, c)
triple_of _ = None

-- a list of three members
unfoldable pub triple_at : Field → Data → Read (Data × Data × Data)
triple_at f d = do
  items ← shaped f (as_array d)
  shaped f (triple_of items)

-- the members that are done, and then the others
abbrev pub each_after : {A : Type 0} → (List A → Data → Read A) → List A → Items → Read (List A)
each_after kind done no_items = Ok done
each_after kind done (item d ds) = kind done d >>= λ one. each_after kind (done ++ one ∷ []) ds

-- All members in order. Each is read with those before it, and the first fault ends the reading.
abbrev pub each_at : {A : Type 0} → (List A → Data → Read A) → Items → Read (List A)
each_at kind = each_after kind []

-- a field that has to be there
unfoldable pub required : {A : Type 0} → (Field → Data → Read A) → Field → Data → Read A
required kind f d = shaped f (get (name_of f) d) >>= kind f

abbrev pub or_else : {A : Type 0} → (Data → Read A) → A → Option Data → Read A
or_else kind absent None = Ok absent
or_else kind absent (Some d) = kind d

-- a field that may be absent
unfoldable pub optional : {A : Type 0} → (Field → Data → Read A) → A → Field → Data → Read A
optional kind absent f d = or_else (kind f) absent (get (name_of f) d)

-- ---- text

-- The tree of a text: UTF-8 that is JSON, with nothing but blanks around it, and nests no deeper than 127.
abbrev pub tree_of : List ℕ → Option Data
tree_of bytes = if is_utf8 bytes then read bytes else None

-- What reading a text gives, seen by view: NotJson exactly if the text has no tree, unless memory ran out.
abbrev pub GivesOfText : {X Y : Type 0} → (X → Y) → (Data → Read Y) → Result X JobError → Option Data → Type 0
GivesOfText view kind result None = IsErrAnd result (λ e. (e ≡ NotJson) ⊎ (e ≡ Memory))
GivesOfText view kind result (Some d) = Gives view result (kind d)
