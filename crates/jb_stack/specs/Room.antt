-- When `main`'s own stack is known to have room for the work.
use Rattle.std.specs.Prelude.{ℕ, Bool, false, Option, None, Some, ◌&&◌, ◌==◌, nat_le}

-- the least limit of a stack that has room, 8 MiB
abbrev pub least_limit : ℕ
least_limit = 8388608

-- the limit of what isn't limited
abbrev pub unlimited : ℕ
unlimited = 18446744073709551615

-- Both limits are known. That of the stack has room, and the address space isn't limited.
abbrev pub has_room : (stack space : Option ℕ) → Bool
has_room (Some stack) (Some space) = nat_le least_limit stack && (space == unlimited)
has_room (Some stack) None = false
has_room None space = false
