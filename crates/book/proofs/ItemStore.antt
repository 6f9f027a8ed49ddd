-- An item changes the live case and counts its steps, and changes nothing else.
use Prim.Native.Nat.{ℕ, ◌+◌, ◌*◌, ◌≤◌}
use mathlib.Core.Path.{◌≡◌}
use native.Mathlib.Omega.{arith}
use lib.ListN.{length}
use Rattle.metanet.specs.Case.{Case}
use Rattle.metanet.specs.Line.{Item, change, item_steps}
use Rattle.metanet.proofs.Put.{put_outside, put_speeds_outside, case_put}
use Rattle.book.specs.Arrangement.{case_word, case_speed, network_at, size_at, run_count_at, case_at}
use Rattle.book.specs.Perform.{Arrays, with_live, changed}
use Rattle.book.proofs.Stored.{Fit, Stored, with_word, study_word}
use Rattle.book.proofs.Places.{case_stored, word_stored}

module _ (a : Arrays) (fit : Fit a) where
  abbrev n : ℕ
  n = size_at a.words

  live-stored : (c : Case) → length c.states ≡ n → Stored a (with_live n c a) 0 c (study_word a.words)
  live-stored c many =
      let room : case_word n 0 + 16 * n + 8 ≤ length a.words = omega (arith, fit.words_fit) in
      let speed_room : case_speed n 0 + n ≤ length a.speeds = omega (arith, fit.speeds_fit) in
      case_stored 0 (omega arith)
      (put_outside (case_word n 0) n c a.words room)
      (put_speeds_outside (case_word n 0) n c a.words room (case_speed n 0) a.speeds speed_room)
      c
      (case_put (case_word n 0) n c a.words room (case_speed n 0) a.speeds speed_room many)

  pub item-stored : (i : Item) → length (change (network_at a.words) (case_at a.words a.speeds 0) i).states ≡ n
      → Stored a (changed i a) 0 (change (network_at a.words) (case_at a.words a.speeds 0) i)
      (with_word (study_word a.words) 0 (run_count_at a.words + item_steps i))
  unfolding changed
  item-stored i many =
      word_stored
      (live-stored (change (network_at a.words) (case_at a.words a.speeds 0) i) many)
      (omega (arith, fit.words_fit)) 0 (run_count_at a.words + item_steps i) (omega arith)
