-- What a row of a run meets: an accepted step leaves all that judges a study but S, m and the totals of its live case.
use Prim.Native.Nat.{ℕ, zero, suc, ◌+◌, ◌*◌, ◌≤◌, ◌<◌}
use mathlib.Core.Path.{◌≡◌, refl, sym, ap, ◌∙◌, subst}
use mathlib.Core.Bool.{true, false, ◌||◌, not}
use mathlib.Core.List.{List}
use native.Mathlib.Nat.{le_trans}
use native.Mathlib.Omega.{arith}
use lib.Dec.{ltb, eqb}
use lib.ListN.{length, get_or}
use lib.Ieee.{Float}
use borrow.Author.Tests.{leb-false, le-ltb, eqb-true, eq-eqb, ne_eqb}
use Rattle.laws.specs.First.{row, first, first_of}
use Rattle.laws.specs.Sums.{sum_of}
use Rattle.laws.proofs.First.{row_passed, row_later, row_skipped, first_zero_left, first_zero_right, first_of_ext}
use Rattle.laws.proofs.Lists.{length-table}
use Rattle.laws.proofs.Sums.{sum_term}
use Rattle.laws.proofs.Tests.{or_right}
use Rattle.format.specs.Network.{network_from, entry_of, segment_of}
use Rattle.format.specs.Words.{head_in, entry_in, segment_in, network_in, kept_number}
use Rattle.format.proofs.Accepted.{RowsWithin}
use Rattle.metanet.specs.Case.{Case}
use Rattle.metanet.specs.Line.{stepped, change}
use Rattle.metanet.specs.Sound.{totals_bad, case_number}
use Rattle.metanet.specs.Step.{vehicles_in, step_state, step_states, step_on}
use Rattle.metanet.specs.Words.{net_of, case_in}
use Rattle.metanet.proofs.InWords.{mean_number, mean_number_in}
use Rattle.metanet.proofs.Ready.{vehicles_at}
use Rattle.metanet.proofs.SameNetwork.{case_number_from, step_number_from, step_from}
use Rattle.metanet.proofs.SoundLaws.{vehicles-sum, means_first}
use Rattle.metanet.proofs.StepSound.{judged_again, case_again, total_within, held_le, step_judged}
use Rattle.book.specs.Arrangement.{slots, case_word, case_speed, words_for, speeds_for, arrangement, network_at, size_at, run_count_at, arrangement_at, case_at}
use Rattle.book.specs.Sound.{runs_most, case_number_at, slot_number, cases_number, sound_number, sound}
use Rattle.book.specs.Calls.{item}
use Rattle.book.specs.Refusal.{refusal, item_number}
use Rattle.book.specs.Perform.{Arrays, lent, refusal_at, stored}
use Rattle.book.proofs.Laid.{Laid}
use Rattle.book.proofs.Judging.{cases_judged, size_high}
use Rattle.book.proofs.Sounds.{kept, laid, live-sound}
use Rattle.book.proofs.Stored.{Stored, study_word, with_word}
use Rattle.book.proofs.ItemStore.{item-stored}
use Rattle.book.proofs.Performing.{judged, accepted-sound}

-- the live case stands first
pub live_word : (n : ℕ) → case_word n 0 ≡ 2576
live_word n = omega arith

-- 12 where S or m of a ramp, or the totals, of the case of n segments at place at pass their bounds
abbrev again_at : List ℕ → ℕ → ℕ → ℕ
again_at words n at =
    let e = at + 16 * n in
    first (first_of (mean_number_in words at) n)
    (row (totals_bad (sum_of (vehicles_at words at) n) (get_or words e 0) (get_or words (e + 1) 0) (get_or words (e + 2) 0) (get_or words (e + 3) 0)) 12 0)

-- of the live case of a study of n segments
abbrev pub live_number : List ℕ → ℕ → ℕ
live_number words n = again_at words n 2576

-- a study that a row of a run meets: laid out, its mv not much above their bound, and sound exactly where S, m and the totals of the live case
-- are within their bounds
pub record RowReady (words : List ℕ) (speeds : List Float) (n : ℕ) : Type 0 where
  pub laid : Laid words speeds n
  pub few : sum_of (vehicles_at words 2576) n ≤ 2000000000000
  pub judged : sound words speeds ≡ eqb (live_number words n) 0

-- ---- a study that is laid out

module _ {words : List ℕ} {speeds : List Float} {n : ℕ} (at : Laid words speeds n) where
  -- the live case's mv and totals, read in the words
  live_held : sum_of (vehicles_at words 2576) n ≡ sum_of (vehicles_in (case_at words speeds 0).states) n
  unfolding case_in
  live_held =
      ap (λ (p : ℕ). sum_of (vehicles_at words p) n) (sym (live_word n))
      ∙ vehicles-sum words speeds (case_word n 0) (case_speed n 0) n
      ∙ ap (λ (m : ℕ). sum_of (vehicles_in (case_in words speeds (case_word m 0) (case_speed m 0) m).states) n) at.size

  live_again : live_number words n ≡ judged_again n (case_at words speeds 0)
  unfolding case_in
  live_again =
      ap (again_at words n) (sym (live_word n))
      ∙ (λ j. let m = at.size j in
      let e = case_word m 0 + 16 * m in
      first (means j) (row (totals_bad (held j) (get_or words e 0) (get_or words (e + 1) 0) (get_or words (e + 2) 0) (get_or words (e + 3) 0)) 12 0))
    where
      held : sum_of (vehicles_at words (case_word n 0)) n ≡ sum_of (vehicles_in (case_at words speeds 0).states) n
      held = ap (λ (p : ℕ). sum_of (vehicles_at words p) n) (live_word n) ∙ live_held

      means : first_of (mean_number_in words (case_word n 0)) n ≡ first_of (mean_number (case_at words speeds 0).states) n
      means =
          means_first words speeds (case_word n 0) (case_speed n 0) n
          ∙ ap (λ (m : ℕ). first_of (mean_number (case_in words speeds (case_word m 0) (case_speed m 0) m).states) n) at.size

  -- 12 of a case, on the network's words
  case_number_lem : (c : Case) → let w = network_at words in let net = net_of words in
      case_number w.head (entry_of w) (segment_of w) c ≡ case_number (head_in net) (entry_in net) (segment_in net) c
  case_number_lem = case_number_from (head_in (net_of words)) (entry_in (net_of words)) (segment_in (net_of words)) at.net

  -- what judges it after the network and the lengths
  cases_are : kept_number (net_of words) ≡ 0 → cases_number words speeds ≡ sound_number words speeds
  cases_are z =
      cases_judged words speeds z
      (rw (← at.size) (λ j. le-ltb (length words) (words_for n) at.room j || le-ltb (length speeds) (speeds_for n) at.speed_room j))
      refl

-- ---- a row judges

module _ {words : List ℕ} {speeds : List Float} where
  -- a study that is judged whole
  pub row_first : sound words speeds ≡ true → RowReady words speeds (size_at words)
  row_first s =
      let at = laid words speeds s in
      let net = net_of words in
      let c = case_at words speeds 0 in
      let fine = sym (case_number_lem at c) ∙ live-sound words speeds s in
      record {
        laid = at;
        few = omega (arith, live_held at, total_within (head_in net) (entry_in net) (segment_in net) c fine);
        judged = s ∙ sym (ap (λ (m : ℕ). eqb m 0) (live_again at ∙ case_again (head_in net) (entry_in net) (segment_in net) c fine));
      }

  -- of n segments
  pub row_sized : {n : ℕ} → n ≡ size_at words → sound words speeds ≡ true → RowReady words speeds n
  row_sized e s = subst (RowReady words speeds) (sym e) (row_first s)

  module _ {n : ℕ} (r : RowReady words speeds n) where
    pub row_sound : live_number words n ≡ 0 → sound words speeds ≡ true
    row_sound e = r.judged ∙ eq-eqb _ 0 e

    -- what summing up the mv asks
    pub row_vehicles : ((n ≤ 40) × (2576 + 16 * n ≤ length words)) × ((i : ℕ) → i < n → vehicles_at words 2576 i ≤ 2000000000000)
    row_vehicles = ((size_high r.laid, omega (arith, r.laid.room)), λ i l. le_trans (sum_term (vehicles_at words 2576) n i l) r.few)

    pub row_unsound : (live_number words n ≡ 0 → ⊥) → sound words speeds ≡ false
    row_unsound e = r.judged ∙ ne_eqb _ 0 e

-- ---- a row is accepted

module _ {words : List ℕ} {speeds : List Float} {n : ℕ} (ds : List ℕ) (at : Laid words speeds n) (q : refusal_at (item (stepped ds)) (lent words speeds) ≡ 0) where
  abbrev a : Arrays
  a = lent words speeds

  abbrev z : Arrays
  z = stored (item (stepped ds)) a

  abbrev net : List ℕ
  net = net_of words

  abbrev c : Case
  c = case_at words speeds 0

  s : sound words speeds ≡ true
  s = accepted-sound (item (stepped ds)) words speeds refl q

  -- 16
  runs_left : run_count_at words < 1000000
  unfolding refusal item_number
  runs_left = leb-false _ _ (row_passed _ _ _ (first_zero_right _ _ (sym (judged (item (stepped ds)) words speeds refl s) ∙ q)))

  many : length (change (network_at words) c (stepped ds)).states ≡ size_at words
  unfolding change step_on step_states network_from
  many = length-table (step_state (network_at words).head (entry_of (network_at words)) (segment_of (network_at words)) c.states c.steps ds) (size_at words)

  store : Stored a z 0 (change (network_at words) c (stepped ds)) (with_word (study_word words) 0 (run_count_at words + 1))
  unfolding stored
  store =
      item-stored a (record { words_fit = (laid words speeds s).room; speeds_fit = (laid words speeds s).speed_room }) (stepped ds) many

  next_laid : Laid z.words z.speeds n
  next_laid =
      record {
        net = subst (λ (ws : List ℕ). RowsWithin (head_in ws) (entry_in ws) (segment_in ws)) (sym store.net) at.net;
        size = at.size ∙ sym (ap (λ (ws : List ℕ). (head_in ws).size) store.net);
        room = rw store.words_long at.room;
        speed_room = rw store.speeds_long at.speed_room;
      }

  -- ---- the live case
  abbrev new : Case
  new = step_on (head_in net) (entry_in net) (segment_in net) c ds

  live_is : case_at z.words z.speeds 0 ≡ new
  unfolding change
  live_is = store.written ∙ step_from (head_in net) (entry_in net) (segment_in net) at.net c ds

  live-number : case_number_at z.words z.speeds 0 ≡ live_number z.words n
  live-number =
      (λ j. let w = network_in (store.net j) in case_number w.head (entry_of w) (segment_of w) (live_is j))
      ∙ case_number_lem at new
      ∙ step_judged at.net c (sym (case_number_lem at c) ∙ live-sound words speeds s) ds
      ∙ sym (live_again next_laid ∙ (λ j. judged_again (at.size j) (live_is j)))

  next_few : sum_of (vehicles_at z.words 2576) n ≤ 2000000000000
  unfolding step_on refusal item_number
  next_few =
      let accepted = first_zero_left _ _ (sym (judged (item (stepped ds)) words speeds refl s) ∙ q) in
      omega (
        arith,
        live_held next_laid ∙ (λ j. sum_of (vehicles_in (live_is j).states) (at.size j)),
        held_le at.net c (sym (case_number_lem at c) ∙ live-sound words speeds s) ds c.steps
            (sym (step_number_from (head_in net) (entry_in net) (segment_in net) at.net c.steps ds) ∙ accepted),
      )

  -- ---- run count, marks, arrangement number and slots
  -- all but the run count stay
  word_same : (j : ℕ) → j + 1 < 16 → study_word z.words (j + 1) ≡ study_word words (j + 1)
  word_same j l = store.words_are (j + 1) l ∙ simp (ne_eqb (j + 1) 0 (λ e. omega (arith, e)))

  cases_zero : cases_number words speeds ≡ 0
  cases_zero = cases_are at (kept words speeds s) ∙ eqb-true _ _ s

  words_fine : (ltb runs_most (run_count_at z.words) || not (eqb (arrangement_at z.words) arrangement)) ≡ false
  unfolding cases_number
  words_fine =
      let runs : run_count_at z.words ≡ run_count_at words + 1 = store.words_are 0 (omega arith) in
      let arranged = or_right (ltb runs_most (run_count_at words)) _ (row_passed _ _ _ cases_zero) in
      λ j. le-ltb runs_most (run_count_at z.words) (omega (arith, runs, runs_left)) j || (ap (λ (x : ℕ). not (eqb x arrangement)) (word_same 14 (omega arith)) ∙ arranged) j

  slot_same : (k : ℕ) → k < 6 → slot_number z.words z.speeds (k + 1) ≡ slot_number words speeds (k + 1)
  unfolding slot_number
  slot_same k l =
      λ j. let w = network_in (store.net j) in
      let mark = word_same k (omega arith) j in
      row (ltb 1 mark) 12 (row (eqb mark 0) 0 (case_number w.head (entry_of w) (segment_of w) (store.others (k + 1) (omega arith) (λ e. omega (arith, e)) j)))

  slots-zero : first_of (λ k. slot_number z.words z.speeds (k + 1)) slots ≡ 0
  unfolding cases_number
  slots-zero = first_of_ext _ _ slots slot_same ∙ first_zero_right (case_number_at words speeds 0) _ (row_later _ _ _ cases_zero)

  next_sound : sound z.words z.speeds ≡ eqb (live_number z.words n) 0
  unfolding cases_number
  next_sound =
      ap (λ (m : ℕ). eqb m 0)
      (sym (cases_are next_laid (ap kept_number store.net ∙ kept words speeds s))
      ∙ row_skipped _ _ _ words_fine
      ∙ (λ j. first (live-number j) (slots-zero j))
      ∙ first_last (live_number z.words n))
    where
      first_last : (m : ℕ) → first m 0 ≡ m
      first_last zero = unfold first in refl
      first_last (suc m) = unfold first in refl

-- what the next row meets
pub row_next : {words : List ℕ} {speeds : List Float} {n : ℕ} (ds : List ℕ) → RowReady words speeds n → refusal_at (item (stepped ds)) (lent words speeds) ≡ 0
    → let z = stored (item (stepped ds)) (lent words speeds) in RowReady z.words z.speeds n
row_next ds r q = record { laid = next_laid ds r.laid q; few = next_few ds r.laid q; judged = next_sound ds r.laid q }

-- and arrays of the same lengths
module _ {words : List ℕ} {speeds : List Float} {n : ℕ} (ds : List ℕ) (r : RowReady words speeds n) (q : refusal_at (item (stepped ds)) (lent words speeds) ≡ 0) where
  pub row_words : length (stored (item (stepped ds)) (lent words speeds)).words ≡ length words
  row_words = (store ds r.laid q).words_long

  pub row_speeds : length (stored (item (stepped ds)) (lent words speeds)).speeds ≡ length speeds
  row_speeds = (store ds r.laid q).speeds_long
