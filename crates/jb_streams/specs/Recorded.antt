-- What a contract sees of a reader that remembers what its reads gave.
use Rattle.std.specs.Prelude.{◌≡◌, ℕ, Bool, true, List, ◌++◌}
use Rattle.jb_streams.specs.declared.recorded.Recorded.{Recorded}

module _ {R : Type 0} where
  -- the bytes that its reads gave, in their order
  abbrev pub given_of : Recorded R → List ℕ
  given_of it = it.given

  -- the reader below
  abbrev pub reader_of : Recorded R → R
  reader_of it = it.reader

  -- its last read had room, and gave no byte: this is the end
  abbrev pub is_over : Recorded R → Bool
  is_over it = it.is_over

  -- It was read to its end, and gave these bytes more.
  abbrev pub IsRead : (old new : Recorded R) → (bytes : List ℕ) → Type 0
  IsRead old new bytes = (given_of new ≡ given_of old ++ bytes) × (is_over new ≡ true)

  -- Nothing more was read.
  abbrev pub IsUnread : (old new : Recorded R) → Type 0
  IsUnread old new = given_of new ≡ given_of old
