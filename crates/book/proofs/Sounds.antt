-- What a sound study says.
use Prim.Native.Nat.{ℕ, zero, suc, ◌+◌, ◌≤◌, ◌<◌}
use mathlib.Core.Path.{◌≡◌, refl, sym, ap, ◌∙◌}
use mathlib.Core.Bool.{true, false, ◌&&◌, ◌||◌}
use mathlib.Core.List.{List}
use native.Mathlib.Omega.{arith}
use lib.Dec.{ltb, leb, eqb}
use lib.ListN.{length}
use lib.Ieee.{Float}
use native.Mathlib.Numerals.{add-one}
use borrow.Author.Tests.{ltb-false, leb-true, eqb-true, ne_eqb}
use Rattle.laws.proofs.First.{row_passed, row_later, row_skipped, first_zero_left, first_zero_right, first_of-zero}
use Rattle.laws.proofs.Tests.{or_left, or_right, and_left, and_right}
use Rattle.format.specs.Words.{kept_number}
use Rattle.format.proofs.Keeping.{kept_within}
use Rattle.metanet.specs.Words.{net_of}
use Rattle.book.specs.Arrangement.{words_for, speeds_for, size_at, mark_at, filled_at}
use Rattle.book.specs.Sound.{case_number_at, slot_number, cases_number, sound_number, sound}
use Rattle.book.proofs.Laid.{Laid}

module _ (words : List ℕ) (speeds : List Float) (s : sound words speeds ≡ true) where
  zeroed : sound_number words speeds ≡ 0
  zeroed = eqb-true _ _ s

  pub kept : kept_number (net_of words) ≡ 0
  unfolding sound_number
  kept = omega (arith, ltb-false 0 (kept_number (net_of words)) (row_passed _ _ _ zeroed))

  long : (ltb (length words) (words_for (size_at words)) || ltb (length speeds) (speeds_for (size_at words))) ≡ false
  unfolding sound_number
  long = row_passed _ _ _ (row_later _ _ _ zeroed)

  cases : cases_number words speeds ≡ 0
  unfolding sound_number
  cases = row_later _ _ _ (row_later _ _ _ zeroed)

  pub laid : Laid words speeds (size_at words)
  laid =
      record {
        net = kept_within (net_of words) kept;
        size = refl;
        room = ltb-false _ _ (or_left (ltb (length words) (words_for (size_at words))) _ long);
        speed_room = ltb-false _ _ (or_right (ltb (length words) (words_for (size_at words))) (ltb (length speeds) (speeds_for (size_at words))) long);
      }

  pub live-sound : case_number_at words speeds 0 ≡ 0
  unfolding cases_number
  live-sound = first_zero_left _ _ (row_later _ _ _ cases)

  slot-zero : (k : ℕ) → k < 6 → slot_number words speeds (k + 1) ≡ 0
  unfolding cases_number
  slot-zero k l = first_of-zero (λ k. slot_number words speeds (k + 1)) 6 (first_zero_right (case_number_at words speeds 0) _ (row_later _ _ _ cases)) k l

  slot_of : (k : ℕ) → 1 ≤ k → k ≤ 6 → slot_number words speeds k ≡ 0
  slot_of zero l h = absurd (omega arith)
  slot_of (suc j) l h = ap (slot_number words speeds) (sym (add-one j)) ∙ slot-zero j (omega arith)

  -- a filled slot has a sound case
  pub slot-sound : (k : ℕ) → filled_at words k ≡ true → case_number_at words speeds k ≡ 0
  unfolding slot_number
  slot-sound k e =
      let low = leb-true 1 k (and_left (leb 1 k) (leb k 6) (and_left (leb 1 k && leb k 6) (eqb (mark_at words k) 1) e)) in
      let high = leb-true k 6 (and_right (leb 1 k) (leb k 6) (and_left (leb 1 k && leb k 6) (eqb (mark_at words k) 1) e)) in
      let one : mark_at words k ≡ 1 = eqb-true _ _ (and_right (leb 1 k && leb k 6) (eqb (mark_at words k) 1) e) in
      sym (row_skipped (eqb (mark_at words k) 0) 0 _ (ne_eqb (mark_at words k) 0 (λ z. omega (arith, z, one)))) ∙ row_later _ _ _ (slot_of k low high)

  -- the case that a report may ask for
  pub case_sound : (k : ℕ) → (eqb k 0 || filled_at words k) ≡ true → case_number_at words speeds k ≡ 0
  case_sound zero e = live-sound
  case_sound (suc j) e = slot-sound (suc j) ((λ i. sym (ne_eqb (suc j) 0 (λ z. omega (arith, z))) i || filled_at words (suc j)) ∙ e)
