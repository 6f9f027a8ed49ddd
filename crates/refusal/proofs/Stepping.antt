-- Step: its rows, and what acceptance says.
use Prim.Native.Nat.{ℕ, zero, suc, ◌+◌, ◌*◌, ◌<◌}
use mathlib.Core.Path.{◌≡◌, refl, sym, ap, ◌∙◌, subst}
use mathlib.Core.Bool.{Bool, true, false, not}
use mathlib.Core.List.{List}
use native.Mathlib.Omega.{arith}
use native.Mathlib.Nat.{zero-mul}
use lib.Dec.{leb, eqb}
use lib.ListN.{length, get_or}
use lib.Ieee.{Float}
use borrow.Author.Tests.{leb-false, eq-eqb}
use Rattle.laws.specs.First.{row, first, first_of}
use Rattle.laws.proofs.First.{row_applies, row_skipped, row_passed, first_zero_left, first_zero_right, one_more, all_same}
use Rattle.format.specs.Network.{entry_of, segment_of}
use Rattle.format.specs.Words.{head_in, entry_in, segment_in}
use Rattle.metanet.specs.Words.{net_of, case_in}
use Rattle.metanet.proofs.InWords.{arrival_number_in, step_number_in, case_number_in}
use Rattle.metanet.proofs.Ready.{Ready, CaseAt, TotalsOk}
use Rattle.metanet.specs.Sound.{step_number}
use Rattle.metanet.proofs.SoundLaws.{case_ready, case_total}
use Rattle.metanet.proofs.SameNetwork.{step_number_from}
use Rattle.book.specs.Arrangement.{case_word, case_speed, network_at, size_at, run_count_at, case_at}
use Rattle.book.specs.Sound.{sound}
use Rattle.book.specs.Refusal.{refusal, item_number}
use Rattle.book.specs.Perform.{lent, refusal_at}
use Rattle.book.proofs.Judging.{placed, case_judged}
use Rattle.book.proofs.Sounds.{laid, live-sound}
use Rattle.book.proofs.Performing.{judged, unsound}
use Rattle.book.proofs.Rows.{RowReady, live_number, live_word, row_sound, row_unsound}
use Rattle.book.proofs.Network.{size_word}
use Rattle.book.specs.Calls.{item}
use Rattle.metanet.specs.Line.{stepped}
use Rattle.refusal.specs.Ready.{next_step_number}
use Rattle.refusal.proofs.Rows.{in_order, asked}

-- the two rows of 16
rows_last : (t : Bool) (a : ℕ) (u v : Bool) → first (row t 13 (first a (row u 16 0))) (row v 16 0) ≡ row t 13 (first a (row u 16 (row v 16 0)))
unfolding row first
rows_last true a u v = refl
rows_last false zero true v = refl
rows_last false zero false v = refl
rows_last false (suc m) u v = refl

module _ (words : List ℕ) (speeds : List Float) (ds : List ℕ) where
  abbrev net : List ℕ
  net = net_of words

  abbrev steps_word : ℕ
  steps_word = get_or words (2576 + 16 * size_at words) 0

  steps_are : (case_at words speeds 0).steps ≡ steps_word
  unfolding case_in
  steps_are = ap (λ (p : ℕ). get_or words (p + 16 * size_at words) 0) (live_word (size_at words))

  module _ (s : sound words speeds ≡ true) where
    -- 13, 15 and 16, on the network's list of segments as on its words
    same_number : (t : ℕ) → step_number (network_at words).head (entry_of (network_at words)) (segment_of (network_at words)) t ds ≡ step_number_in net t ds
    same_number t = step_number_from (head_in net) (entry_in net) (segment_in net) (laid words speeds s).net t ds

    number_is : refusal_at (item (stepped ds)) (lent words speeds) ≡ first (step_number_in net steps_word ds) (row (leb 1000000 (run_count_at words)) 16 0)
    unfolding refusal item_number
    number_is =
        judged (item (stepped ds)) words speeds refl s
        ∙ ap (λ (x : ℕ). first x (row (leb 1000000 (run_count_at words)) 16 0)) (ap (λ (t : ℕ). step_number (network_at words).head (entry_of (network_at words)) (segment_of (network_at words)) t ds) steps_are ∙ same_number steps_word)

    -- ---- what acceptance says
    module _ (q : refusal_at (item (stepped ds)) (lent words speeds) ≡ 0) where
      both : first (step_number_in net steps_word ds) (row (leb 1000000 (run_count_at words)) 16 0) ≡ 0
      both = sym number_is ∙ q

      pub runs_left : run_count_at words < 1000000
      runs_left = leb-false _ _ (row_passed _ _ _ (first_zero_right (step_number_in net steps_word ds) _ both))

      live_case : CaseAt words speeds (case_word (size_at words) 0) (case_speed (size_at words) 0) (size_at words)
      live_case = placed (laid words speeds s) 0 (omega arith)

      live_in : case_number_in words speeds (case_word (size_at words) 0) (case_speed (size_at words) 0) (size_at words) ≡ 0
      live_in = case_judged (laid words speeds s) 0 ∙ live-sound words speeds s

      pub ready : Ready words speeds ds (case_word (size_at words) 0) (case_speed (size_at words) 0) (size_at words)
      ready = case_ready live_case live_in steps_word ds (first_zero_left _ _ both)

      pub totals_ready : TotalsOk words (case_word (size_at words) 0 + 16 * size_at words)
      totals_ready = case_total live_case live_in

      -- as the code names n and the live case's places
      module _ {n : ℕ} (size : n ≡ size_at words) where
        pub step_ready : Ready words speeds ds 2576 0 n
        step_ready =
            subst (λ (m : ℕ). Ready words speeds ds 2576 0 m) (sym size)
            (subst (λ (p : ℕ). Ready words speeds ds p 0 (size_at words)) (live_word (size_at words))
            (subst (λ (p : ℕ). Ready words speeds ds (case_word (size_at words) 0) p (size_at words)) (zero-mul (size_at words)) ready))

        pub step_totals : TotalsOk words (2576 + 16 * n)
        step_totals =
            subst (λ (m : ℕ). TotalsOk words (2576 + 16 * m)) (sym size)
            (subst (λ (p : ℕ). TotalsOk words (p + 16 * size_at words)) (live_word (size_at words)) totals_ready)

-- ---- its rows, with n where the code reads it

module _ (words : List ℕ) (speeds : List Float) (ds : List ℕ) where
  -- 12 and 13, then 15 and 16
  pub step_rows : refusal_at (item (stepped ds)) (lent words speeds)
      ≡ row (not (sound words speeds)) 12 (row (not (eqb (length ds) (get_or words 1 0))) 13 (next_step_number words ds (get_or words 1 0)))
  unfolding step_number next_step_number
  step_rows =
      go (sound words speeds) refl
      ∙ ap (λ (n : ℕ). row (not (sound words speeds)) 12 (row (not (eqb (length ds) n)) 13 (next_step_number words ds n))) (size_word words)
    where
      go : (b : Bool) → sound words speeds ≡ b → refusal_at (item (stepped ds)) (lent words speeds) ≡ row (not b) 12 (row (not (eqb (length ds) (size_at words))) 13 (next_step_number words ds (size_at words)))
      go true s =
          number_is words speeds ds s
          ∙ rows_last (not (eqb (length ds) (size_at words))) (first_of (arrival_number_in (net_of words) ds) (size_at words)) (leb 20000 (steps_word words speeds ds)) (leb 1000000 (run_count_at words))
          ∙ sym (row_skipped _ _ _ refl)
      go false s = sym (row_applies _ _ _ refl ∙ unsound (item (stepped ds)) words speeds refl s)

  -- a row of a run: 12 by S, m and the totals alone, then 15 and 16
  pub row_rows : {n : ℕ} → RowReady words speeds n → length ds ≡ n → refusal_at (item (stepped ds)) (lent words speeds) ≡ first (live_number words n) (next_step_number words ds n)
  unfolding first
  row_rows {n} r listed = step_rows ∙ go (live_number words n) refl (one_more 12 _ _ (all_same 12 _ n))
    where
      size : n ≡ get_or words 1 0
      size = r.laid.size ∙ size_word words

      go : (m : ℕ) → live_number words n ≡ m → first m 12 ≡ 12
          → row (not (sound words speeds)) 12 (row (not (eqb (length ds) (get_or words 1 0))) 13 (next_step_number words ds (get_or words 1 0))) ≡ first m (next_step_number words ds n)
      go zero e t =
          row_skipped _ _ _ (ap not (row_sound r e))
          ∙ row_skipped _ _ _ (ap not (eq-eqb _ _ (listed ∙ size)))
          ∙ ap (next_step_number words ds) (sym size)
      go (suc m) e t = row_applies _ _ _ (ap not (row_unsound r (λ z. omega (arith, e, z)))) ∙ sym t

pub ruleset step_asked = (asked, step_rows)

pub ruleset row_asked = (in_order, row_rows)
