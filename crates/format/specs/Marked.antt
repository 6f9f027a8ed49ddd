-- The marked case of the network file: L 500, T 18: F 100,000 accepted, 100,001 is 8.
use Rattle.std.specs.Prelude.{ℕ, ◌≡◌, [], ◌∷◌, replicate}
use Rattle.format.specs.Network.{Network, chain}
use Rattle.format.specs.File.{file_number}
use Rattle.format.specs.Written.{file_of}

-- one segment of 500 m, a step of T seconds, one curve whose entries are all F
unfoldable pub one_segment : ℕ → ℕ → Network
unfolding chain
one_segment T F =
    record {
      head = record { version = 1; step = T; size = 1; curves = 1; tau = 20; nu = 0; kappa = 40; delta = 0 };
      curves = replicate 201 F ∷ [];
      segments = record { metres = 500; lanes = 2; curve = 0; critical = 30; jam = 180; origin = 1; exit = 0; most = 6000; following = chain 1 0 } ∷ [];
    }

pub record SpeedLimitCase : Type 0 where
  pub accepted : file_number (file_of (one_segment 18 100000)) ≡ 0
  pub refused : file_number (file_of (one_segment 18 100001)) ≡ 8
