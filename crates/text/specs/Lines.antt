-- Lines of fields that are parted by tabs; and what it is to write bytes at a place.
use Rattle.std.specs.Prelude.{ℕ, ◌+◌, ◌≡◌, List, [], ◌∷◌, ◌++◌, length}
use Prim.Native.Char.{code}
use Rattle.numbers.specs.Bytes.{overwrite}

-- a field behind a tab
abbrev pub field : List ℕ → List ℕ
field f = code "\t" ∷ f

-- fields, each behind a tab
unfoldable pub fields : List (List ℕ) → List ℕ
fields [] = []
fields (f ∷ fs) = field f ++ fields fs

-- a line: a word and its fields, parted by tabs, and a line feed
unfoldable pub line : List ℕ → List (List ℕ) → List ℕ
line word fs = word ++ (fields fs ++ (code "\n" ∷ []))

-- what the contract of a function that writes says: these bytes stand from a place on, all else is as it was, and the answer is the place behind them
abbrev pub Wrote : List ℕ → List ℕ → ℕ → ℕ → List ℕ → Type 0
Wrote bytes before at next after = (next ≡ at + length bytes) × (after ≡ overwrite before at bytes)
