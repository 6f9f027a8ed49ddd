-- The network kept in words: its head and its segments, read from them.
use Prim.Native.Nat.{ℕ, ◌<◌}
use mathlib.Core.Path.{◌≡◌, refl, sym}
use mathlib.Core.List.{List}
use lib.Dec.{lit<}
use lib.ListN.{get_or}
use lib.Seq.{get_or-take}
use Rattle.format.specs.Network.{network_from, segment_of}
use Rattle.format.specs.Words.{head_in, entry_in, segment_in, network_in}
use Rattle.format.proofs.From.{from_segment}
use Rattle.book.specs.Arrangement.{size_at}

pub head_kept : (ws : List ℕ) → (network_in ws).head ≡ head_in ws
unfolding network_from
head_kept ws = refl

pub segment_kept : (ws : List ℕ) (i : ℕ) → i < (head_in ws).size → segment_of (network_in ws) i ≡ segment_in ws i
segment_kept ws i l = from_segment (head_in ws) (entry_in ws) (segment_in ws) i l

-- n is word 1
pub size_word : (words : List ℕ) → size_at words ≡ get_or words 1 0
unfolding head_in
size_word words = get_or-take 2560 words 1 0 (lit< tt)

-- n, read in all the words
pub size_kept : (words : List ℕ) → (head_in words).size ≡ size_at words
unfolding head_in
size_kept words = sym (size_word words)
