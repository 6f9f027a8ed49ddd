-- The file of a network. A number that does not fit its field loses its upper bytes; none does in a network that the rows accept.
use Rattle.std.specs.Prelude.{ℕ, ◌/◌, cond, List, [], ◌∷◌, ◌++◌, ◌≡◌, eqb, get_or}
use Rattle.laws.specs.Lists.{parts}
use Rattle.laws.specs.BigEndian.{Bytes, low, u32_bytes}
use Rattle.format.specs.declared.Head.{Head}
use Rattle.format.specs.declared.Following.{Following}
use Rattle.format.specs.declared.Segment.{Segment}
use Rattle.format.specs.Network.{Network, entry_of, segment_of}
use Rattle.format.specs.File.{mark, network_of, file_number}

-- the mark and the version are written back
unfoldable pub head_bytes : Head → List ℕ
head_bytes h =
    get_or mark 0 0 ∷ get_or mark 1 0 ∷ get_or mark 2 0 ∷ low (h.version / 256) ∷ low h.version
    ∷ low h.step ∷ low h.size ∷ low h.curves ∷ low h.tau ∷ low h.nu ∷ low h.kappa ∷ 0
    ∷ low (h.delta / 256) ∷ low h.delta ∷ 0 ∷ 0 ∷ []

-- what follows a segment: nothing in version 1, which means the chain
unfoldable pub following_bytes : Head → Following → List ℕ
following_bytes h f = cond (eqb h.version 1) [] (low f.first ∷ low f.second ∷ low (f.share / 256) ∷ low f.share ∷ [])

-- the 16 bytes that a record has in either version
unfoldable pub segment_bytes : Segment → List ℕ
segment_bytes s =
    low (s.metres / 256) ∷ low s.metres ∷ low s.lanes ∷ low s.curve ∷ low s.critical ∷ low s.jam ∷ low s.origin ∷ 0
    ∷ low (s.exit / 256) ∷ low s.exit
    ∷ low (s.most / 16777216) ∷ low (s.most / 65536) ∷ low (s.most / 256) ∷ low s.most ∷ 0 ∷ 0 ∷ []

unfoldable pub record_bytes : Head → Segment → List ℕ
unfolding segment_bytes following_bytes
record_bytes h s = segment_bytes s ++ following_bytes h s.following

-- head, then c curves, each 201 entries, then n records
unfoldable pub file_of : Network → List ℕ
file_of w =
    head_bytes w.head
    ++ (parts (λ k. parts (λ j. u32_bytes (entry_of w k j)) 201) w.head.curves
    ++ parts (λ i. record_bytes w.head (segment_of w i)) w.head.size)

-- an accepted network writes back to the same bytes
abbrev pub RoundTrip : Type 0
RoundTrip = (b : List ℕ) → Bytes b → file_number b ≡ 0 → file_of (network_of b) ≡ b
