-- Why a slice's bytes are refused.
use Rattle.std.specs.Prelude.{ℕ, ◌≡◌, ◌≢◌, ◌⊎◌, List, [], ◌∷◌, Contains, ⊤}
use Rattle.jb_slice_file.specs.declared.error.StoreError.{StoreError}
use Rattle.jb_slice_file.specs.declared.error.StoreError.TheVariants as store
use Rattle.jb_slices.specs.Checkpoint.{Header}
use Rattle.jb_slices.specs.Job as job
use Rattle.jb_slices.specs.Job.{HaveInCommon, Job}
use Rattle.jb_slices.specs.Refusals.{HasOtherStamp, IsOtherJob, IsOtherSlice}
use Rattle.jb_slice_run.specs.declared.error.IdentityPart.{IdentityPart}
use Rattle.jb_slice_run.specs.declared.error.IdentityPart.TheVariants.{Name, SliceLength, Partitions, ItemCount, Classes}
use Rattle.jb_slice_run.specs.declared.error.SliceError.{SliceError}
use Rattle.jb_slice_run.specs.declared.lists.HeaderPart.{HeaderPart}
use Rattle.jb_slice_run.specs.declared.lists.HeaderPart.TheVariants.{Digest, Identity, Items, Number}
use Rattle.jb_slice_run.specs.Strings.{classes_list, number_string}
use Rattle.jb_slice_run.specs.declared.error.SliceError.TheVariants.{LoweredLimit, Damaged, OtherJob, OtherSlice, OtherItems, OtherStamp, Store, TooMany}

abbrev pub part_of : IdentityPart → job.IdentityPart
part_of Name = job.Name
part_of SliceLength = job.SliceLength
part_of Partitions = job.Partitions
part_of ItemCount = job.ItemCount
part_of Classes = job.Classes

-- the parts before this one are in common
abbrev pub HaveThoseBefore : IdentityPart → (own other : Job) → Type 0
HaveThoseBefore Name own other = ⊤
HaveThoseBefore SliceLength own other = own.name ≡ other.name
HaveThoseBefore Partitions own other = (own.name ≡ other.name) × (own.slice_length ≡ other.slice_length)
HaveThoseBefore ItemCount own other = (own.name ≡ other.name) × (own.slice_length ≡ other.slice_length) × (own.partitions ≡ other.partitions)
HaveThoseBefore Classes own other =
    (own.name ≡ other.name) × (own.slice_length ≡ other.slice_length) × (own.partitions ≡ other.partitions) × (own.item_count ≡ other.item_count)

-- two headers have this part in common: a part of the identity, the slice's number, or the digest or the number of its items
abbrev pub HaveSame : HeaderPart → (own held : Header) → Type 0
HaveSame (Identity part) own held = HaveInCommon (part_of part) own.job held.job
HaveSame Number own held = own.number ≡ held.number
HaveSame Digest own held = own.digest ≡ held.digest
HaveSame Items own held = own.items ≡ held.items

-- the list that a stored header has of it
abbrev pub list_of : HeaderPart → Header → List (List ℕ)
list_of (Identity Name) h = h.job.name ∷ []
list_of (Identity SliceLength) h = number_string h.job.slice_length ∷ []
list_of (Identity Partitions) h = number_string h.job.partitions ∷ []
list_of (Identity ItemCount) h = number_string h.job.item_count ∷ []
list_of (Identity Classes) h = classes_list h.job.classes
list_of Number h = number_string h.number ∷ []
list_of Digest h = h.digest ∷ []
list_of Items h = number_string h.items ∷ []

-- it is of other items: it has another digest, or another number of them
abbrev pub HasOthers : (own held : Header) → Type 0
HasOthers own held = (held.digest ≢ own.digest) ⊎ (held.items ≢ own.items)

-- WHY A HEADER IS REFUSED, in this order: the first part of the job's identity that differs, the slice, its items, and the stamp
abbrev pub IsHeaderCause : (own : Header) → (stamps : List (List ℕ)) → (held : Header) → SliceError → Type 0
IsHeaderCause own stamps held (OtherJob part) = HaveThoseBefore part own.job held.job × IsOtherJob own.job (part_of part) held
IsHeaderCause own stamps held OtherSlice = (own.job ≡ held.job) × IsOtherSlice own.number held
IsHeaderCause own stamps held OtherItems = (own.job ≡ held.job) × (own.number ≡ held.number) × HasOthers own held
IsHeaderCause own stamps held OtherStamp =
    (own.job ≡ held.job) × (own.number ≡ held.number) × (own.digest ≡ held.digest) × (own.items ≡ held.items) × HasOtherStamp own.stamp stamps held
IsHeaderCause own stamps held _ = ⊥

-- a refusal of a header
abbrev pub IsHeaderRefusal : SliceError → Type 0
IsHeaderRefusal (OtherJob part) = ⊤
IsHeaderRefusal OtherSlice = ⊤
IsHeaderRefusal OtherItems = ⊤
IsHeaderRefusal OtherStamp = ⊤
IsHeaderRefusal _ = ⊥

-- A REFUSAL OF THE STORED CHECKPOINTS: their header is refused, they have a higher limit, or are damaged
abbrev pub IsRefusal : SliceError → Type 0
IsRefusal LoweredLimit = ⊤
IsRefusal Damaged = ⊤
IsRefusal e = IsHeaderRefusal e

-- how a refusal of the file is named
abbrev pub store_refusal : StoreError → SliceError
store_refusal store.TooMany = TooMany
store_refusal e = Store e

-- A HEADER IS OUR OWN: its limits may differ; its stamp is ours or one of `stamps`
pub record IsOwn (own : Header) (stamps : List (List ℕ)) (held : Header) : Type 0 where
  pub job_is : own.job ≡ held.job
  pub number_is : own.number ≡ held.number
  pub digest_is : own.digest ≡ held.digest
  pub items_are : own.items ≡ held.items
  pub stamp_is : Contains (own.stamp ∷ stamps) held.stamp
