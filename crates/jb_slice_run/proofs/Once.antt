-- Strings are of one part at most.
use Rattle.std.{proofs.Common.{ℕ, ◌≡◌, List, [], ◌∷◌, length, map, Option, Some, None, refl, sym, ap, ap₂, ◌∙◌, arith, ◌<◌, ◌++◌, get_or, length-append}, proofs.lemmas.List.{get_or-map, length-map}, proofs.lemmas.Nat.{from_le_bytes-to_le_bytes_8}, specs.Int.{w64, from_le_bytes}, specs.Option.{ForSome}}
use Rattle.jb_base.{proofs.Classes.{class_of-number}, specs.Classes.{class_of}}
use Rattle.jb_slice_run.{proofs.Codings.{parted}, specs.Strings.{AreFaultsSmall, AreLimitsSmall, AreOutputsSmall, AreSetsSmall, IsHeaderSmall, IsSmall, NewOutput, classes_list, fault_string, header_lists, limit_string, limits_list, new_output_lists, number_string, stop_list}}
use Rattle.jb_slices.specs.{Checkpoint.{Header}, Function.{Fault}, Job.{FaultClasses, Job, Limits}}

pub number_length : (n : ℕ) → length (number_string n) ≡ 8
unfolding number_string
number_length n = refl

pub number_once : (m n : ℕ) → IsSmall m → IsSmall n → number_string m ≡ number_string n → m ≡ n
unfolding number_string
number_once m n low small e = sym (from_le_bytes-to_le_bytes_8 m low) ∙ ap (from_le_bytes w64) e ∙ from_le_bytes-to_le_bytes_8 n small

-- no number is an empty string
pub some_bytes : (n : ℕ) → number_string n ≡ [] → ⊥
some_bytes n e = let none : 8 ≡ 0 = sym (number_length n) ∙ ap length e in absurd (omega (arith, none))

pub head_of : {A : Type 0} (x y : A) (xs ys : List A) → x ∷ xs ≡ y ∷ ys → x ≡ y
head_of x y xs ys e = cc

pub tail_of : {A : Type 0} (x y : A) (xs ys : List A) → x ∷ xs ≡ y ∷ ys → xs ≡ ys
tail_of x y xs ys e = cc

-- ---- limits

pub limit_once : (m n : Option ℕ) → ForSome m IsSmall → ForSome n IsSmall → limit_string m ≡ limit_string n → m ≡ n
limit_once m n low small e = grind (arith, number_once, some_bytes)

pub limits_once : (l m : Limits) → AreLimitsSmall l → AreLimitsSmall m → limits_list l ≡ limits_list m → l ≡ m
limits_once l m low small e = λ i. record {
  skips = limit_once l.skips m.skips low.skips small.skips (cc) i;
  job_skips = limit_once l.job_skips m.job_skips low.job_skips small.job_skips (cc) i;
  retries = number_once l.retries m.retries low.retries small.retries (cc) i;
}

-- ---- classes

pub classes_once : (l m : FaultClasses) → AreSetsSmall l → AreSetsSmall m → classes_list l ≡ classes_list m → l ≡ m
classes_once l m low small e =
    let skippable = number_once l.skippable m.skippable low.skippable small.skippable (cc) in
    let retryable = number_once l.retryable m.retryable low.retryable small.retryable (cc) in
    let no_rollback = number_once l.no_rollback m.no_rollback low.no_rollback small.no_rollback (cc) in
    let names : l.names ≡ m.names = cc in
    λ i. record { names = names i; skippable = skippable i; retryable = retryable i; no_rollback = no_rollback i }

-- ---- faults

-- a fault's number, and its class
pub fault_parted : (bytes front : List ℕ) (class : ℕ) → bytes ≡ front ++ class ∷ [] → (fault : Fault) → bytes ≡ fault_string fault → (front ≡ number_string fault.number) × (class ≡ fault.class.number)
fault_parted bytes front class parts fault is =
    let long = number_length fault.number in
    let sums = ap length (sym parts ∙ is) ∙ length-append (number_string fault.number) (fault.class.number ∷ []) in
    let own = length-append front (class ∷ []) in
    let both = parted front (number_string fault.number) (class ∷ []) (fault.class.number ∷ []) (omega (arith, long, sums, own)) (sym parts ∙ is) in
    (both.0, cc both.1)

pub fault_once : (f g : Fault) → IsSmall f.number → IsSmall g.number → fault_string f ≡ fault_string g → f ≡ g
fault_once f g low small e =
    let parts = fault_parted (fault_string f) (number_string f.number) f.class.number refl g e in
    let number = number_once f.number g.number low small parts.0 in
    let class : f.class ≡ g.class = sym (class_of-number f.class) ∙ ap class_of parts.1 ∙ class_of-number g.class in
    λ i. record { number = number i; class = class i }

pub faults_once : (fs gs : List Fault) → AreFaultsSmall fs → AreFaultsSmall gs → map fault_string fs ≡ map fault_string gs → fs ≡ gs
faults_once [] [] low small e = refl
faults_once (f ∷ fs) (g ∷ gs) low small e = ap₂ ◌∷◌ (fault_once f g low.0 small.0 (cc)) (faults_once fs gs low.1 small.1 (cc))
faults_once _ _ low small e = let none : ⊥ = cc in absurd none

-- one of them, at its place
abbrev pub no_fault : Fault
no_fault = record { number = 0; class = class_of 0 }

pub fault_there : (faults : List Fault) (list : List (List ℕ)) → list ≡ map fault_string faults → (i : ℕ) → i < length list → (i < length faults) × (get_or list i [] ≡ fault_string (get_or faults i no_fault))
fault_there faults list is i within =
    let below : i < length faults = omega (arith, within, ap length is, length-map faults fault_string) in
    (below, ap (λ l. get_or l i []) is ∙ get_or-map fault_string faults i no_fault [] below)

pub stop_once : (s t : Option Fault) → ForSome s (λ (f : Fault). IsSmall f.number) → ForSome t (λ (f : Fault). IsSmall f.number) → stop_list s ≡ stop_list t → s ≡ t
stop_once None None low small e = refl
stop_once (Some f) (Some g) low small e = ap Some (fault_once f g (low f refl) (small g refl) (cc))
stop_once _ _ low small e = let none : ⊥ = cc in absurd none

-- ---- partitions

pub new_output_once : (ms ns : List NewOutput) → AreOutputsSmall ms → AreOutputsSmall ns → new_output_lists ms ≡ new_output_lists ns → ms ≡ ns
new_output_once [] [] low small e = refl
new_output_once (m ∷ ms) (n ∷ ns) low small e =
    let results : m.results ≡ n.results = cc in
    λ i. record { results = results i; skips = faults_once m.skips n.skips low.0.skips small.0.skips (cc) i; stop = stop_once m.stop n.stop low.0.stop small.0.stop (cc) i }
    ∷ new_output_once ms ns low.1 small.1 (cc) i
new_output_once _ _ low small e = let none : ⊥ = cc in absurd none

-- ---- a header

pub job_is : (o h : Job) → o.name ≡ h.name → o.slice_length ≡ h.slice_length → o.partitions ≡ h.partitions → o.item_count ≡ h.item_count → o.classes ≡ h.classes → o ≡ h
job_is o h name slice_length partitions item_count classes = λ i. record { name = name i; slice_length = slice_length i; partitions = partitions i; item_count = item_count i; classes = classes i }

pub header_once : (h k : Header) → IsHeaderSmall h → IsHeaderSmall k → header_lists h ≡ header_lists k → h ≡ k
header_once h k low small e =
    let slice_length = number_once h.job.slice_length k.job.slice_length low.slice_length small.slice_length (cc) in
    let partitions = number_once h.job.partitions k.job.partitions low.partitions small.partitions (cc) in
    let item_count = number_once h.job.item_count k.job.item_count low.item_count small.item_count (cc) in
    let classes = classes_once h.job.classes k.job.classes low.sets small.sets (cc) in
    let limits = limits_once h.limits k.limits low.limits small.limits (cc) in
    let number = number_once h.number k.number low.number small.number (cc) in
    let items = number_once h.items k.items low.items small.items (cc) in
    let job = job_is h.job k.job (cc) slice_length partitions item_count classes in
    let stamp : h.stamp ≡ k.stamp = cc in
    let digest : h.digest ≡ k.digest = cc in
    λ i. record { job = job i; limits = limits i; stamp = stamp i; number = number i; items = items i; digest = digest i }
