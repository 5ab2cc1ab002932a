-- What follows of results and bytes that are known.
use Rattle.std.proofs.Common.{ℕ, List, Option, Some, None, Result, Ok, Err, IfOk, IfSome}
use Rattle.jb_program.specs.declared.streams.error.ProgramError.{ProgramError}

-- what follows of a result that is there
pub ok-along : {P Q : ℕ → Type 0} (r : Result ℕ ProgramError) → ((x : ℕ) → P x → Q x) → IfOk r P → IfOk r Q
ok-along (Ok x) f h = f x h
ok-along (Err e) f h = tt

-- what follows of bytes that are known
pub some-along : {P Q : List ℕ → Type 0} (o : Option (List ℕ)) → ((x : List ℕ) → P x → Q x) → IfSome o P → IfSome o Q
some-along (Some x) f h = f x h
some-along None f h = tt
