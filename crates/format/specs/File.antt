-- The network file: where each number stands in its bytes, and the rows of the table that refuse it, in their order.
use Rattle.std.specs.Prelude.{ℕ, ◌+◌, ◌*◌, Bool, cond, ◌||◌, not, List, [], ◌∷◌, length, ltb, eqb}
use Rattle.laws.specs.First.{row, first, first_of}
use Rattle.laws.specs.BigEndian.{byte_at, u16_at, u32_at, begins_with}
use Rattle.format.specs.declared.Head.{Head}
use Rattle.format.specs.declared.Following.{Following}
use Rattle.format.specs.declared.Segment.{Segment}
use Rattle.format.specs.Network.{Network, network_from, version_bad, chain, head_bad, curve_number, segment_bad, record_rows, origin_number}

-- ---- head, 16 bytes

-- 0–2 "FWN"
abbrev pub mark : List ℕ
mark = 70 ∷ 87 ∷ 78 ∷ []

abbrev pub has_mark : List ℕ → Bool
has_mark = begins_with mark

-- 3–4 version; 5 T; 6 n; 7 curve count c; 8 τ; 9 ν; 10 κ; 12–13 δ
abbrev pub head_of : List ℕ → Head
head_of b =
    let byte = byte_at b in
    record { version = u16_at b 3; step = byte 5; size = byte 6; curves = byte 7; tau = byte 8; nu = byte 9; kappa = byte 10; delta = u16_at b 12 }

-- 11 zero; 14–15 zero
abbrev pub head_padding : List ℕ → Bool
head_padding b = ltb 0 (byte_at b 11) || ltb 0 (u16_at b 14)

-- a record has 16 bytes in version 1, 20 in version 2
unfoldable pub record_size : Head → ℕ
record_size h = cond (eqb h.version 1) 16 20

-- 16 + 804c + 16n, or 20n
abbrev pub file_size : Head → ℕ
file_size h = 16 + 804 * h.curves + record_size h * h.size

-- ---- then c curves, each 201 32-bit entries

abbrev pub curve_start : ℕ → ℕ
curve_start k = 16 + 804 * k

-- entry j of the curve at place at
abbrev pub entry_at : List ℕ → ℕ → ℕ → ℕ
entry_at b at j = u32_at b (at + 4 * j)

-- ---- then n records

abbrev pub record_start : Head → ℕ → ℕ
record_start h i = 16 + 804 * h.curves + record_size h * i

-- in version 2, after the 16 bytes: first and second following segment, a byte each; then the share to the first
abbrev pub following_at : List ℕ → ℕ → Following
following_at b at = record { first = byte_at b (at + 16); second = byte_at b (at + 17); share = u16_at b (at + 18) }

-- a version 1 file means the chain
unfoldable pub following_of : List ℕ → Head → ℕ → ℕ → Following
following_of b h i at = cond (eqb h.version 1) (chain h.size i) (following_at b at)

-- 0–1 L; 2 H; 3 curve; 4 C; 5 J; 6 origin; 8–9 X; 10–13 Q; then what follows segment i, whose record begins at place at
abbrev pub segment_at : List ℕ → Head → ℕ → ℕ → Segment
segment_at b h i at =
    let byte : ℕ → ℕ = λ k. byte_at b (at + k) in
    record { metres = u16_at b at; lanes = byte 2; curve = byte 3; critical = byte 4; jam = byte 5; origin = byte 6; exit = u16_at b (at + 8); most = u32_at b (at + 10); following = following_of b h i at }

-- 7 zero; 14–15 zero
abbrev pub record_padding : List ℕ → ℕ → Bool
record_padding b at = ltb 0 (byte_at b (at + 7)) || ltb 0 (u16_at b (at + 14))

-- ---- the network that a file holds

abbrev pub entry_on : List ℕ → ℕ → ℕ → ℕ
entry_on b k = entry_at b (curve_start k)

abbrev pub segment_on : List ℕ → ℕ → Segment
segment_on b i = segment_at b (head_of b) i (record_start (head_of b) i)

abbrev pub network_of : List ℕ → Network
network_of b = network_from (head_of b) (entry_on b) (segment_on b)

-- ---- the table: the first row that applies, or 0

-- 1 under 16 bytes; 2 mark; 3 version; 4 head field; 5 length
unfoldable pub head_number : List ℕ → ℕ
head_number b =
    row (ltb (length b) 16) 1
    (row (not (has_mark b)) 2
    (row (version_bad (head_of b)) 3
    (row (head_bad (head_of b) || head_padding b) 4
    (row (not (eqb (length b) (file_size (head_of b)))) 5 0))))

-- curves in order: 6 entry out of range or rising
abbrev pub curve_in : List ℕ → ℕ → ℕ
curve_in b k = curve_number (entry_at b (curve_start k))

unfoldable pub curves_number : List ℕ → ℕ
curves_number b = first_of (curve_in b) (head_of b).curves

-- record by record: 7 field; 27 followers; 8 F × T > 3600 × L
unfoldable pub record_number : List ℕ → Head → ℕ → ℕ
record_number b h i =
    let at = record_start h i in
    let s = segment_at b h i at in
    record_rows (segment_bad h i s || record_padding b at) h i (entry_at b (curve_start s.curve) 0) s

unfoldable pub records_number : List ℕ → ℕ
records_number b = first_of (record_number b (head_of b)) (head_of b).size

-- after the last record: 28 neither a segment before it nor an origin
unfoldable pub origins_number : List ℕ → ℕ
origins_number b = first_of (origin_number (segment_on b) (head_of b).size) (head_of b).size

unfoldable pub file_number : List ℕ → ℕ
file_number b = first (head_number b) (first (curves_number b) (first (records_number b) (origins_number b)))
