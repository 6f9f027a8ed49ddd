-- What holds of every line of the book on a network w, from the start case s: its case is sound, its totals are those of its items, its
-- vehicles balance, and its figures are bounded by its steps.
use Prim.Native.Nat.{ℕ, ◌+◌, ◌*◌, ◌≤◌, ◌<◌}
use mathlib.Core.Path.{◌≡◌}
use lib.ListN.{length}
use Rattle.format.specs.Network.{Network, entry_of, segment_of}
use Rattle.format.proofs.Accepted.{network_number, Formed}
use Rattle.metanet.specs.Case.{Case, state_of}
use Rattle.metanet.specs.Step.{total_of}
use Rattle.metanet.specs.Sound.{case_number}
use Rattle.metanet.specs.Line.{Line, case_of, steps_of, arrivals_of, exits_of}
use Rattle.metanet.proofs.Average.{Averaged, since_meter}

-- a network that file reading accepts
pub record GoodNetwork (w : Network) : Type 0 where
  pub within : network_number w ≡ 0
  pub formed : Formed w

pub record Good (w : Network) (s : Case) (l : Line) : Type 0 where
  pub net : GoodNetwork w
  pub many : length (case_of w s l).states ≡ w.head.size
  pub is_sound : case_number w.head (entry_of w) (segment_of w) (case_of w s l) ≡ 0
  pub steps_are : (case_of w s l).steps ≡ steps_of l
  pub arrivals_are : (case_of w s l).arrivals ≡ arrivals_of w l
  pub exits_are : (case_of w s l).exits ≡ exits_of w s l
  pub balance : total_of w (case_of w s l) + exits_of w s l ≡ total_of w s + arrivals_of w l
  -- 40 segments of at most 200 × 2,000 × 8 mv and a queue of 1,000,000 each at the start; 40 arrivals of 1,000,000 a step
  pub start_le : total_of w s ≤ 168000000
  pub few : steps_of l ≤ 20000
  pub arrivals_le : arrivals_of w l ≤ 40000000 * steps_of l
  -- a step adds at most 60 × (168,000,000 + 40,000,000 × 20,000)
  pub time_le : (case_of w s l).time ≤ 48010080000000 * steps_of l
  -- S and m
  pub averages : (i : ℕ) → i < w.head.size → Averaged (state_of (case_of w s l).states i).ramp (steps_of l) (since_meter i l)
