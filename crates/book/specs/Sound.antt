-- A sound study: arrays long enough for the stored n; stored network within rows 3, 4, 6, 7, 27, 8 and 28; the live and filled cases
-- sound; run count ≤ 1,000,000; every mark and the arrangement number ones that the arrangement names.
use Rattle.std.specs.Prelude.{ℕ, ◌+◌, Bool, ◌||◌, not, List, ltb, eqb, length, Float}
use Rattle.laws.specs.First.{row, first, first_of}
use Rattle.format.specs.Network.{entry_of, segment_of}
use Rattle.format.specs.Words.{kept_number}
use Rattle.metanet.specs.Words.{net_of}
use Rattle.metanet.specs.Sound.{case_number}
use Rattle.book.specs.Arrangement.{slots, words_for, speeds_for, arrangement, network_at, size_at, case_at, run_count_at, arrangement_at, mark_at}

abbrev pub runs_most : ℕ
runs_most = 1000000

-- 12, of case k
abbrev pub case_number_at : List ℕ → List Float → ℕ → ℕ
case_number_at words speeds k = let w = network_at words in case_number w.head (entry_of w) (segment_of w) (case_at words speeds k)

-- 12, of slot k: its mark is 0, or 1 with a sound case
unfoldable pub slot_number : List ℕ → List Float → ℕ → ℕ
slot_number words speeds k = row (ltb 1 (mark_at words k)) 12 (row (eqb (mark_at words k) 0) 0 (case_number_at words speeds k))

-- 12, of the run count, the arrangement number, the live case and the slots
unfoldable pub cases_number : List ℕ → List Float → ℕ
unfolding slot_number
cases_number words speeds =
    row (ltb runs_most (run_count_at words) || not (eqb (arrangement_at words) arrangement)) 12
    (first (case_number_at words speeds 0) (first_of (λ k. slot_number words speeds (k + 1)) slots))

unfoldable pub sound_number : List ℕ → List Float → ℕ
unfolding cases_number
sound_number words speeds =
    row (ltb 0 (kept_number (net_of words))) 12
    (row (ltb (length words) (words_for (size_at words)) || ltb (length speeds) (speeds_for (size_at words))) 12
    (cases_number words speeds))

-- whether the study is sound
abbrev pub sound : List ℕ → List Float → Bool
sound words speeds = eqb (sound_number words speeds) 0
