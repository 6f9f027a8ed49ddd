-- What acceptance of a call says, for the functions that go on from there, and rows as the code asks them.
use Rattle.std.specs.Prelude.{ℕ, ◌+◌, ◌*◌, leb, ◌≤◌, ◌≡◌, List, length, get_or, Float}
use Rattle.laws.specs.First.{row, first, first_of}
use Rattle.book.specs.Arrangement.{slots, run_count_at}
use Rattle.book.specs.Sound.{runs_most, case_number_at}
use Rattle.book.proofs.Laid.{Laid}
use Rattle.format.specs.File.{head_of, segment_on, entry_on, file_number}
use Rattle.metanet.specs.Sound.{steps_most}
use Rattle.metanet.specs.Words.{net_of}
use Rattle.metanet.proofs.InWords.{arrival_number_in}
use Rattle.metanet.specs.Start.{start_segment_number}

-- a report may be given of case k of a study of n segments
pub record Reportable (words : List ℕ) (speeds : List Float) (n k : ℕ) : Type 0 where
  pub laid : Laid words speeds n
  pub high : k ≤ slots
  pub sound : case_number_at words speeds k ≡ 0

-- 15 and 16, of the next step of the live case, of n segments, with as many arrivals
unfoldable pub next_step_number : List ℕ → List ℕ → ℕ → ℕ
next_step_number words ds n =
    first (first_of (arrival_number_in (net_of words) ds) n)
    (row (leb steps_most (get_or words (2576 + 16 * n) 0)) 16
    (row (leb runs_most (run_count_at words)) 16 0))

-- 14, of segment i, as the file's bytes say it
abbrev pub start_number_on : List ℕ → List ℕ → List ℕ → List ℕ → ℕ → ℕ
start_number_on b mvs speeds queues i =
    start_segment_number (segment_on b i) (entry_on b (segment_on b i).curve 0) (get_or mvs i 0) (get_or speeds i 0) (get_or queues i 0)

-- Start's lists, on a file that is accepted, are as long as it says
pub record Listed (b mvs speeds queues : List ℕ) : Type 0 where
  pub file : file_number b ≡ 0
  pub mvs_many : length mvs ≡ (head_of b).size
  pub speeds_many : length speeds ≡ (head_of b).size
  pub queues_many : length queues ≡ (head_of b).size
