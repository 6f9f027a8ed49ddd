-- A study of n segments whose network and lengths are judged.
use Prim.Native.Nat.{ℕ, ◌≤◌}
use mathlib.Core.Path.{◌≡◌}
use mathlib.Core.List.{List}
use lib.ListN.{length}
use lib.Ieee.{Float}
use Rattle.metanet.proofs.Ready.{NetworkOk}
use Rattle.book.specs.Arrangement.{words_for, speeds_for, size_at}

-- the network is within the rows, n is its size, and the arrays are long enough
pub record Laid (words : List ℕ) (speeds : List Float) (n : ℕ) : Type 0 where
  pub net : NetworkOk words
  pub size : n ≡ size_at words
  pub room : words_for n ≤ length words
  pub speed_room : speeds_for n ≤ length speeds
