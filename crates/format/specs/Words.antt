-- A network kept in 2,560 words, a word a number (docs/ARRANGEMENT.md): what they hold, and the words of a network.
use Rattle.std.specs.Prelude.{ℕ, ◌+◌, ◌-◌, ◌*◌, List, ◌∷◌, ◌++◌, length, get_or, replicate, ltb}
use Rattle.laws.specs.First.{row}
use Rattle.laws.specs.Lists.{table, parts}
use Rattle.format.specs.declared.Head.{Head}
use Rattle.format.specs.declared.Segment.{Segment}
use Rattle.format.specs.Network.{Network, network_from, entry_of, segment_of, rows_number}

-- the words that a network takes
abbrev pub network_words : ℕ
network_words = 2560

-- ---- what the words hold; curves, entries and segments are counted from 0

unfoldable pub head_in : List ℕ → Head
head_in ws =
    let word : ℕ → ℕ = λ k. get_or ws k 0 in
    record { version = word 7; step = word 0; size = word 1; curves = word 2; tau = word 3; nu = word 4; kappa = word 5; delta = word 6 }

-- entry j of curve k
abbrev pub entry_in : List ℕ → ℕ → ℕ → ℕ
entry_in ws k j = get_or ws (16 + 201 * k + j) 0

-- segment i, 16 words from word 1,624 on
unfoldable pub segment_in : List ℕ → ℕ → Segment
segment_in ws i =
    let at = 1624 + 16 * i in
    let word : ℕ → ℕ = λ k. get_or ws (at + k) 0 in
    record {
      metres = get_or ws at 0;
      lanes = word 1;
      curve = word 2;
      critical = word 3;
      jam = word 4;
      origin = word 5;
      exit = word 6;
      most = word 7;
      following = record { first = word 8; second = word 9; share = word 10 };
    }

abbrev pub network_in : List ℕ → Network
network_in ws = network_from (head_in ws) (entry_in ws) (segment_in ws)

-- ---- 11 arrays too short; then the rows of what is kept
unfoldable pub kept_number : List ℕ → ℕ
kept_number ws = row (ltb (length ws) network_words) 11 (rows_number (head_in ws) (entry_in ws) (segment_in ws))

-- ---- the words of a network

-- the head's 16 words; those that are free are 0
unfoldable pub head_words : Head → List ℕ
head_words h = h.step ∷ h.size ∷ h.curves ∷ h.tau ∷ h.nu ∷ h.kappa ∷ h.delta ∷ h.version ∷ replicate 8 0

-- a segment's 16 words
unfoldable pub segment_words : Segment → List ℕ
segment_words s =
    s.metres ∷ s.lanes ∷ s.curve ∷ s.critical ∷ s.jam ∷ s.origin ∷ s.exit ∷ s.most
    ∷ s.following.first ∷ s.following.second ∷ s.following.share ∷ replicate 5 0

-- head; then c curves, each 201 entries, and 0 up to word 1,624; then n segments, and 0 up to word 2,560
unfoldable pub kept_words : Network → List ℕ
kept_words w =
    head_words w.head
    ++ (parts (λ k. table (entry_of w k) 201) w.head.curves ++ (replicate (1608 - 201 * w.head.curves) 0
    ++ (parts (λ i. segment_words (segment_of w i)) w.head.size ++ replicate (936 - 16 * w.head.size) 0)))
