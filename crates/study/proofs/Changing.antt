-- What an accepted sign, setting and step store: the words and speeds that the functions inside write.
use Prim.Native.Nat.{ℕ, ◌+◌, ◌-◌, ◌*◌, ◌≤◌, ◌<◌}
use mathlib.Core.Path.{◌≡◌, refl, sym, ap, ◌∙◌}
use mathlib.Core.Bool.{true}
use mathlib.Core.List.{List}
use native.Mathlib.Nat.{add-zero, zero-mul}
use native.Mathlib.Omega.{arith}
use lib.IntN.{ℤ}
use lib.ListN.{length, set}
use lib.Seq.{set-get_or}
use lib.Ieee.{Float}
use Rattle.laws.specs.Lists.{part, put_part}
use Rattle.laws.proofs.Lists.{length_part}
use Rattle.laws.proofs.Outside.{put_same, get_or-before}
use Rattle.format.specs.Network.{segment_of}
use Rattle.metanet.specs.declared.Setting.{Setting}
use Rattle.metanet.specs.Line.{signed, metered, stepped, change}
use Rattle.metanet.proofs.InWords.{signed_words, metered_words, step_case_words, step_case_speeds}
use Rattle.metanet.proofs.StateWords.{length-signed, length-metered}
use Rattle.metanet.proofs.Written.{sign_written, sign_speeds, meter_written, meter_speeds, step_written, step_speeds_written}
use Rattle.book.specs.Arrangement.{case_word, case_speed, network_at, size_at, run_count_at}
use Rattle.book.specs.Calls.{item}
use Rattle.book.specs.Sound.{sound}
use Rattle.book.specs.Perform.{lent, refusal_at, changed, stored}
use Rattle.book.proofs.Laid.{Laid}
use Rattle.book.proofs.Sounds.{laid}
use Rattle.book.proofs.Performing.{accepted-sound}
use Rattle.refusal.proofs.Settings.{state_word, StateWithin, sign_within, meter_within}
use Rattle.refusal.proofs.Stepping.{ready, totals_ready}
use Rattle.book.proofs.Rows.{live_word}

-- ---- one state is written, of segment i, counted from 1

module _ (words : List ℕ) (speeds : List Float) (i : ℕ) (l : Laid words speeds (size_at words)) (w : StateWithin words i) where
  abbrev n : ℕ
  n = size_at words

  abbrev old : List ℕ
  old = part (state_word i) 16 words

  old_many : length old ≡ 16
  old_many = length_part words (state_word i) 16 w.room

  within : i - 1 < n
  within = omega (arith, w.low, w.high)

  room : case_word n 0 + 16 * n + 8 ≤ length words
  room = omega (arith, l.room)

  speed_room : case_speed n 0 + n ≤ length speeds
  speed_room = omega (arith, l.speed_room)

  place : case_word n 0 + 16 * (i - 1) ≡ state_word i
  place = omega arith

  -- the run count stays
  runs_stay : (ys : List ℕ) → length ys ≡ 16
      → let new = put_part (state_word i) 16 ys words in set new 2560 (run_count_at words + 0) ≡ new
  runs_stay ys many =
      let new = put_part (state_word i) 16 ys words in
      ap (set new 2560) (add-zero (run_count_at words) ∙ sym (get_or-before (put_same (state_word i) 16 ys words many w.room) 2560 0 (omega arith)))
      ∙ set-get_or new 2560 0

  module _ (limit : ℕ) (z : ℤ) where
    signed-words : (stored (item (signed i limit z)) (lent words speeds)).words ≡ put_part (state_word i) 16 (signed_words limit z old) words
    unfolding stored changed change
    signed-words =
        ap (λ (x : List ℕ). set x 2560 (run_count_at words + 0))
        (sign_written words speeds (case_word n 0) (case_speed n 0) n (i - 1) within room speed_room limit z
        ∙ ap (λ (p : ℕ). put_part p 16 (signed_words limit z (part p 16 words)) words) place)
        ∙ runs_stay (signed_words limit z old) (length-signed limit z old ∙ old_many)

    signed-speeds : (stored (item (signed i limit z)) (lent words speeds)).speeds ≡ speeds
    unfolding stored changed change
    signed-speeds = sign_speeds words speeds (case_word n 0) (case_speed n 0) n (i - 1) within room speed_room limit z

  module _ (m : Setting) where
    abbrev q : ℕ
    q = (segment_of (network_at words) (i - 1)).most

    metered-words : (stored (item (metered i m)) (lent words speeds)).words ≡ put_part (state_word i) 16 (metered_words q m old) words
    unfolding stored changed change
    metered-words =
        ap (λ (x : List ℕ). set x 2560 (run_count_at words + 0))
        (meter_written words speeds (case_word n 0) (case_speed n 0) n (i - 1) within room speed_room q m
        ∙ ap (λ (p : ℕ). put_part p 16 (metered_words q m (part p 16 words)) words) place)
        ∙ runs_stay (metered_words q m old) (length-metered q m old ∙ old_many)

    metered-speeds : (stored (item (metered i m)) (lent words speeds)).speeds ≡ speeds
    unfolding stored changed change
    metered-speeds = meter_speeds words speeds (case_word n 0) (case_speed n 0) n (i - 1) within room speed_room q m

-- ---- the calls, accepted

module _ (words : List ℕ) (speeds : List Float) (i : ℕ) where
  module _ (limit : ℕ) (z : ℤ) (e : refusal_at (item (signed i limit z)) (lent words speeds) ≡ 0) where
    sign_laid : Laid words speeds (size_at words)
    sign_laid = laid words speeds (accepted-sound (item (signed i limit z)) words speeds refl e)

    pub sign_stored : (stored (item (signed i limit z)) (lent words speeds)).words ≡ put_part (state_word i) 16 (signed_words limit z (part (state_word i) 16 words)) words
    sign_stored = signed-words words speeds i sign_laid (sign_within words speeds i limit z e) limit z

    pub sign_speeds_stay : (stored (item (signed i limit z)) (lent words speeds)).speeds ≡ speeds
    sign_speeds_stay = signed-speeds words speeds i sign_laid (sign_within words speeds i limit z e) limit z

  module _ (m : Setting) (e : refusal_at (item (metered i m)) (lent words speeds) ≡ 0) where
    meter_laid : Laid words speeds (size_at words)
    meter_laid = laid words speeds (accepted-sound (item (metered i m)) words speeds refl e)

    pub meter_stored : (stored (item (metered i m)) (lent words speeds)).words
        ≡ put_part (state_word i) 16 (metered_words (segment_of (network_at words) (i - 1)).most m (part (state_word i) 16 words)) words
    meter_stored = metered-words words speeds i meter_laid (meter_within words speeds i m e) m

    pub meter_speeds_stay : (stored (item (metered i m)) (lent words speeds)).speeds ≡ speeds
    meter_speeds_stay = metered-speeds words speeds i meter_laid (meter_within words speeds i m e) m

module _ (words : List ℕ) (speeds : List Float) (ds : List ℕ) (s : sound words speeds ≡ true) (e : refusal_at (item (stepped ds)) (lent words speeds) ≡ 0)
    {n : ℕ} (size : n ≡ size_at words) where
  -- as the code names n and the live case's places
  pub step_stored : (stored (item (stepped ds)) (lent words speeds)).words ≡ set (step_case_words words speeds 2576 0 n ds) 2560 (run_count_at words + 1)
  unfolding stored changed change
  step_stored =
      ap (λ (x : List ℕ). set x 2560 (run_count_at words + 1)) (step_written (ready words speeds ds s e) (totals_ready words speeds ds s e))
      ∙ (λ j. set (step_case_words words speeds (live_word (size_at words) j) (zero-mul (size_at words) j) (size_at words) ds) 2560 (run_count_at words + 1))
      ∙ ap (λ (m : ℕ). set (step_case_words words speeds 2576 0 m ds) 2560 (run_count_at words + 1)) (sym size)

  pub step_speeds_stored : (stored (item (stepped ds)) (lent words speeds)).speeds ≡ step_case_speeds words speeds 2576 0 n ds
  unfolding stored changed change
  step_speeds_stored =
      step_speeds_written (ready words speeds ds s e) (totals_ready words speeds ds s e)
      ∙ (λ j. step_case_speeds words speeds (live_word (size_at words) j) (zero-mul (size_at words) j) (size_at words) ds)
      ∙ ap (λ (m : ℕ). step_case_speeds words speeds 2576 0 m ds) (sym size)
