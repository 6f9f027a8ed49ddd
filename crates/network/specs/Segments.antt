-- Rows 7, 27 and 8 of a network that stands in a file or in words, given by its head, its segments, and the first entries of its curves.
use Rattle.std.specs.Prelude.{ℕ, Bool, ◌||◌}
use Rattle.format.specs.declared.Head.{Head}
use Rattle.format.specs.declared.Segment.{Segment}
use Rattle.format.specs.Network.{segment_bad, record_rows}

-- of segment i; row 7 refuses it too where also_bad i
unfoldable pub segment_row : Head → (ℕ → Segment) → (ℕ → ℕ) → (ℕ → Bool) → ℕ → ℕ
segment_row h segment first also_bad i =
    let s = segment i in
    record_rows (segment_bad h i s || also_bad i) h i (first s.curve) s
