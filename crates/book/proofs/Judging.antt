-- Where a study's cases stand, and which row says that it is not sound.
use Prim.Native.Nat.{ℕ, ◌+◌, ◌*◌, ◌≤◌, ◌<◌}
use mathlib.Core.Path.{◌≡◌, sym, ap, ◌∙◌}
use mathlib.Core.Bool.{Bool, true, false, ◌||◌}
use mathlib.Core.List.{List}
use native.Mathlib.Nat.{mul-le-mul_right, le_of_eq}
use native.Mathlib.Omega.{arith}
use lib.Dec.{ltb}
use lib.ListN.{length, length-take}
use lib.Ieee.{Float}
use borrow.Author.Tests.{lt-ltb, le-ltb}
use Rattle.laws.proofs.First.{row_applies, row_skipped}
use Rattle.format.specs.Words.{head_in, entry_in, segment_in, kept_number}
use Rattle.metanet.specs.Words.{net_of}
use Rattle.metanet.proofs.InWords.{case_number_in}
use Rattle.metanet.proofs.Ready.{CaseAt}
use Rattle.metanet.proofs.SameNetwork.{case_number_from}
use Rattle.book.specs.Arrangement.{case_word, case_speed, words_for, speeds_for, size_at, case_at}
use Rattle.book.specs.Sound.{case_number_at, cases_number, sound_number}
use Rattle.book.proofs.Laid.{Laid}

module _ {words : List ℕ} {speeds : List Float} {n : ℕ} (laid : Laid words speeds n) where
  pub size_high : n ≤ 40
  size_high = omega (arith, laid.size, laid.net.head.size_high)

  pub placed : (k : ℕ) → k ≤ 6 → CaseAt words speeds (case_word n k) (case_speed n k) n
  placed k h =
      record {
        net = laid.net;
        size = laid.size;
        past = omega arith;
        room = omega (arith, mul-le-mul_right (16 * n + 8) h, laid.room);
        speed_room = omega (arith, mul-le-mul_right n h, laid.speed_room);
      }

  -- a case is judged on the words as on the network
  pub case_judged : (k : ℕ) → case_number_in words speeds (case_word n k) (case_speed n k) n ≡ case_number_at words speeds k
  case_judged k =
      ap (λ (m : ℕ). case_number_in words speeds (case_word m k) (case_speed m k) m) laid.size
      ∙ sym (case_number_from (head_in (net_of words)) (entry_in (net_of words)) (segment_in (net_of words)) laid.net (case_at words speeds k))

-- ---- the study

module _ (words : List ℕ) (speeds : List Float) where
  pub net_refused : 0 < kept_number (net_of words) → 12 ≡ sound_number words speeds
  unfolding sound_number
  net_refused l = sym (row_applies _ _ _ (lt-ltb _ _ l))

  pub words_short : length words < 2560 → 12 ≡ sound_number words speeds
  unfolding kept_number
  words_short l =
      let short : length (net_of words) < 2560 = simp length-take (omega arith) in
      let eleven : kept_number (net_of words) ≡ 11 = row_applies _ _ _ (lt-ltb _ _ short) in
      net_refused (omega (arith, eleven))

  module _ (z : kept_number (net_of words) ≡ 0) where
    kept : ltb 0 (kept_number (net_of words)) ≡ false
    kept = le-ltb 0 (kept_number (net_of words)) (le_of_eq z)

    abbrev short : Bool
    short = ltb (length words) (words_for (size_at words)) || ltb (length speeds) (speeds_for (size_at words))

    pub lengths_refused : short ≡ true → 12 ≡ sound_number words speeds
    unfolding sound_number
    lengths_refused e = sym (row_skipped _ _ _ kept ∙ row_applies _ _ _ e)

    pub cases_judged : {r : ℕ} → short ≡ false → r ≡ cases_number words speeds → r ≡ sound_number words speeds
    unfolding sound_number
    cases_judged e q = q ∙ sym (row_skipped _ _ _ kept ∙ row_skipped _ _ _ e)
