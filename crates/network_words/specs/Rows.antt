-- Rows of a network that is kept in words, as the code asks for them.
use Rattle.std.specs.Prelude.{ℕ, List}
use Rattle.laws.specs.First.{row, first_of}
use Rattle.format.specs.declared.Head.{Head}
use Rattle.format.specs.Network.{version_bad, head_bad, curve_number, segment_number, origin_number}
use Rattle.format.specs.Words.{head_in, entry_in, segment_in}

-- rows 3 and 4
unfoldable pub head_row : Head → ℕ
head_row h = row (version_bad h) 3 (row (head_bad h) 4 0)

-- row 6, of curve k
abbrev pub curve_row : List ℕ → ℕ → ℕ
curve_row ws k = curve_number (entry_in ws k)

-- rows 7, 27 and 8, of segment i
abbrev pub segment_row : List ℕ → Head → ℕ → ℕ
segment_row ws h i = segment_number h (entry_in ws) (segment_in ws) i

-- row 28, of all segments
abbrev pub origin_rows : List ℕ → ℕ
origin_rows ws = first_of (origin_number (segment_in ws) (head_in ws).size) (head_in ws).size
