-- Hold and recall copy one case to the place of another; hold and drop set a mark. Nothing else changes.
use Prim.Native.Nat.{ℕ, ◌+◌, ◌≤◌}
use mathlib.Core.Path.{◌≡◌, refl}
use mathlib.Core.List.{List}
use native.Mathlib.Omega.{arith}
use lib.ListN.{length}
use lib.Ieee.{Float}
use Rattle.laws.specs.Lists.{part}
use Rattle.laws.proofs.Lists.{length_part}
use Rattle.laws.proofs.Outside.{same_all, put_same, part_put}
use Rattle.book.specs.Arrangement.{case_length, case_word, case_speed, size_at, case_at}
use Rattle.book.specs.Calls.{hold, recall, drop_slot}
use Rattle.book.specs.Perform.{Arrays, copied_words, copied_speeds, stored, copied}
use Rattle.metanet.proofs.CaseParts.{case_same}
use Rattle.book.proofs.Stored.{Fit, Stored, study_word, with_word}
use Rattle.book.proofs.Places.{word_room, speed_room, case_stored, word_stored}

-- ---- case j copied to the place of case k

module _ (a : Arrays) (fit : Fit a) (j k : ℕ) (from-six : j ≤ 6) (to-six : k ≤ 6) where
  abbrev n : ℕ
  n = size_at a.words

  abbrev to : Arrays
  to = copied j k a

  word_within : (i : ℕ) → i ≤ 6 → case_word n i + case_length n ≤ length a.words
  word_within i h = omega (arith, word_room n i h, fit.words_fit)

  speed_within : (i : ℕ) → i ≤ 6 → case_speed n i + n ≤ length a.speeds
  speed_within i h = omega (arith, speed_room n i h, fit.speeds_fit)

  -- the words and the speeds of case j
  abbrev ws : List ℕ
  ws = part (case_word n j) (case_length n) a.words

  abbrev vs : List Float
  vs = part (case_speed n j) n a.speeds

  words-many : length ws ≡ case_length n
  words-many = length_part a.words (case_word n j) (case_length n) (word_within j from-six)

  speeds_many : length vs ≡ n
  speeds_many = length_part a.speeds (case_speed n j) n (speed_within j from-six)

  pub copy_stored : Stored a to k (case_at a.words a.speeds j) (study_word a.words)
  unfolding copied_words copied_speeds
  copy_stored =
      case_stored k to-six
      (put_same (case_word n k) (case_length n) ws a.words words-many (word_within k to-six))
      (put_same (case_speed n k) n vs a.speeds speeds_many (speed_within k to-six))
      (case_at a.words a.speeds j)
      (case_same to.words a.words to.speeds a.speeds (case_word n k) (case_word n j) (case_speed n k) (case_speed n j) n
      (part_put (case_word n k) (case_length n) ws a.words words-many (word_within k to-six))
      (part_put (case_speed n k) n vs a.speeds speeds_many (speed_within k to-six)))

-- ---- the calls

module _ (a : Arrays) (fit : Fit a) (k : ℕ) (low : 1 ≤ k) (high : k ≤ 6) where
  long : 2576 ≤ length a.words
  long = omega (arith, fit.words_fit)

  pub hold-stored : Stored a (stored (hold k) a) k (case_at a.words a.speeds 0) (with_word (study_word a.words) k 1)
  unfolding stored
  hold-stored = word_stored (copy_stored a fit 0 k (omega arith) high) long k 1 (omega arith)

  pub recall-stored : Stored a (stored (recall k) a) 0 (case_at a.words a.speeds k) (study_word a.words)
  unfolding stored
  recall-stored = copy_stored a fit k 0 high (omega arith)

  unchanged : Stored a a 0 (case_at a.words a.speeds 0) (study_word a.words)
  unchanged = case_stored 0 (omega arith) (same_all _ _ a.words) (same_all _ _ a.speeds) (case_at a.words a.speeds 0) refl

  -- the live case is as it was
  pub drop-stored : Stored a (stored (drop_slot k) a) 0 (case_at a.words a.speeds 0) (with_word (study_word a.words) k 0)
  unfolding stored
  drop-stored = word_stored unchanged long k 0 (omega arith)
