-- Properties of what a call of an artifact answers. For a value that it answers, std has `IfOk`.
use Rattle.std.specs.Prelude.{Result, Ok, Err, ⊤}
use Rattle.jb_base.specs.declared.class.ClassId.{ClassId}
use Rattle.jb_base.specs.declared.artifact_error.ArtifactError.{ArtifactError}
use Rattle.jb_base.specs.declared.artifact_error.ArtifactError.TheVariants.{Fault, Memory}

-- if the call answered a fault, this holds of its class
abbrev pub IfFault : {A : Type 0} → Result A ArtifactError → (ClassId → Type 0) → Type 0
IfFault (Ok x) P = ⊤
IfFault (Err (Fault class)) P = P class
IfFault (Err Memory) P = ⊤

-- if the call ran out of memory, this holds
abbrev pub IfNoMemory : {A : Type 0} → Result A ArtifactError → Type 0 → Type 0
IfNoMemory (Ok x) P = ⊤
IfNoMemory (Err (Fault class)) P = ⊤
IfNoMemory (Err Memory) P = P
