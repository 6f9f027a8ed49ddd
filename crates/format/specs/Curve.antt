-- The curve shown to the caller.
use Rattle.std.specs.Prelude.{ℕ, List, [], leb}
use Rattle.laws.specs.First.{row, first, if_accepted}
use Rattle.laws.specs.Lists.{part}
use Rattle.format.specs.File.{head_of, file_number, curve_start}

-- one call gives the number, 0 if none: the file's rows, then 10 no curve of that number
unfoldable pub curve_call_number : List ℕ → ℕ → ℕ
curve_call_number b k = first (file_number b) (row (leb (head_of b).curves k) 10 0)

-- a second gives the file's own bytes, the 804 that curve k fills there, or an empty part where the first refuses
unfoldable pub curve_bytes : List ℕ → ℕ → List ℕ
curve_bytes b k = if_accepted (curve_call_number b k) (part (curve_start k) 804 b) []
