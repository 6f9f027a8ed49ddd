-- What each accepted call stores: arrays that held the book then hold what the book enters.
use Prim.Native.Nat.{ℕ, zero, suc, ◌+◌, ◌≤◌, ◌<◌}
use mathlib.Core.Path.{◌≡◌, sym, ap, ◌∙◌, subst}
use mathlib.Core.Bool.{false, ◌||◌, true}
use mathlib.Core.List.{List, [], ◌∷◌, ◌++◌}
use mathlib.Core.Option.{none, some}
use native.Mathlib.Omega.{arith}
use lib.Dec.{ltb}
use lib.ListN.{length, get_or-append, replicate, get_or-replicate}
use borrow.Author.Tests.{ltb-false, leb-false, not-false, ne_eqb}
use Rattle.laws.specs.First.{outside}
use Rattle.laws.proofs.First.{row_passed, row_later, first_zero_left, first_zero_right}
use Rattle.laws.proofs.Tests.{or_left, or_right, inside_low, inside_high}
use Rattle.format.specs.Network.{Network}
use Rattle.format.specs.File.{file_number, network_of}
use Rattle.book.specs.Arrangement.{words_for, speeds_for, network_at, run_count_at, case_at, start_marks, arrangement}
use Rattle.book.specs.Calls.{start, hold, recall, drop_slot, item}
use Rattle.metanet.specs.Start.{start_case, start_number}
use Rattle.book.specs.Refusal.{Grounds, refusal, item_number, slot_refusal}
use Rattle.book.specs.Perform.{Arrays, stored, changed}
use Rattle.metanet.specs.Line.{Item, metered, stepped, Line, change, case_of, item_steps, signed}
use Rattle.book.specs.Book.{Book, started, entered, grounds_in, is_filled}
use Rattle.book.proofs.Rel.{Kept, Rel}
use Rattle.book.proofs.Views.{filled_some, size_view}
use Rattle.book.proofs.Stored.{Stored, Begun, with_word, study_word}
use Rattle.book.proofs.ItemStore.{item-stored}
use Rattle.book.proofs.SlotStores.{hold-stored, recall-stored, drop-stored}
use Rattle.book.proofs.StartStore.{start-stored}
use Rattle.metanet.proofs.Lines.{case_of_snoc}
use Rattle.metanet.proofs.LineStates.{good_sign, good_meter}
use Rattle.metanet.proofs.LineStep.{good_step}
use Rattle.metanet.proofs.LineStart.{good_start}
use Rattle.book.proofs.Moved.{some_inj, none_some, fit, live_rel, slot_rel}
use Rattle.metanet.specs.Case.{Case}
use Rattle.metanet.proofs.Good.{Good}

-- ---- the store of each call that the book does not refuse

module _ {words speeds : ℕ} {a : Arrays} {b : Book} (r : Rel words speeds a b) where
  -- the item is appended to the live line
  item_case : (i : Item)
      → change (network_at a.words) (case_at a.words a.speeds 0) i ≡ case_of b.network b.begun (b.live ++ (i ∷ []))
  item_case i = (λ j. change (r.network j) (r.live.is j) i) ∙ sym (case_of_snoc b.network b.begun b.live i)

  -- a store that leaves all 16 words, as one that leaves the run count x
  runs_stay : {z : Arrays} {c : Case} (x : ℕ) → run_count_at a.words ≡ x → Stored a z 0 c (study_word a.words)
      → Stored a z 0 c (with_word (study_word a.words) 0 x)
  runs_stay {z} {c} x e s = subst (λ (word : ℕ → ℕ). Stored a z 0 c word) (λ i j. same j i) s
    where
      same : (j : ℕ) → study_word a.words j ≡ with_word (study_word a.words) 0 x j
      same zero = e
      same (suc j) = rw (ne_eqb (suc j) 0 (λ q. omega (arith, q)))

  item_good : (i : Item) → item_number i (grounds_in words speeds b) ≡ 0 → Good b.network b.begun (b.live ++ (i ∷ []))
  unfolding item_number
  item_good (signed i limit compliance) e =
      good_sign r.live.good i (row_passed _ _ _ e) limit compliance (row_passed _ _ _ (row_later _ _ _ e))
  item_good (metered i setting) e =
      let later = row_later _ _ _ e in
      good_meter r.live.good i (row_passed _ _ _ e) setting (row_passed _ _ _ later) (row_passed _ _ _ (row_later _ _ _ later))
  item_good (stepped ds) e = good_step r.live.good ds (first_zero_left _ _ e)

  pub item_store : (i : Item) → item_number i (grounds_in words speeds b) ≡ 0
      → Stored a (changed i a) 0 (change (network_at a.words) (case_at a.words a.speeds 0) i) (with_word (study_word a.words) 0 (b.runs + item_steps i))
  item_store i e =
      let many = ap (λ (c : Case). length c.states) (item_case i) ∙ (item_good i e).many ∙ sym (size_view r) in
      rw r.runs at (item-stored a (fit r) i many)

  item-runs : (i : Item) → item_number i (grounds_in words speeds b) ≡ 0 → b.runs + item_steps i ≤ 1000000
  unfolding item_number
  item-runs (signed i limit compliance) e = omega (arith, r.runs_le)
  item-runs (metered i setting) e = omega (arith, r.runs_le)
  item-runs (stepped ds) e =
      let few : b.runs < 1000000 = leb-false _ _ (row_passed _ _ _ (first_zero_right _ _ e)) in
      omega (arith, few)

  pub item_rel : (i : Item) → item_number i (grounds_in words speeds b) ≡ 0 → Rel words speeds (changed i a) (entered (item i) b)
  unfolding entered
  item_rel i e =
      live_rel r (b.runs + item_steps i) (item_store i e) (b.live ++ (i ∷ [])) (item_good i e) (item_case i) (item-runs i e)

  module _ (k : ℕ) (there : outside 1 k 6 ≡ false) where
    low : 1 ≤ k
    low = inside_low 1 k 6 there

    high : k ≤ 6
    high = inside_high 1 k 6 there

  module _ (k : ℕ) (e : refusal (hold k) (grounds_in words speeds b) ≡ 0) where
    pub hold_store : Stored a (stored (hold k) a) k (case_at a.words a.speeds 0) (with_word (study_word a.words) k 1)
    unfolding refusal
    hold_store = let there = row_passed _ _ _ e in hold-stored a (fit r) k (low k there) (high k there)

    pub hold_rel : Rel words speeds (stored (hold k) a) (entered (hold k) b)
    unfolding refusal entered
    hold_rel =
        let there = row_passed _ _ _ e in
        slot_rel r k (low k there) (high k there) (some b.live) hold_store hold_store.others
        (λ l f. subst (λ (m : Line). Kept (stored (hold k) a) (entered (hold k) b) k m) (some_inj b.live l f)
        (record { good = r.live.good; is = hold_store.written ∙ r.live.is }))

  -- Recall and Drop are accepted of a filled slot
  module _ (k : ℕ) (e : slot_refusal k (grounds_in words speeds b) ≡ 0) where
    there : outside 1 k 6 ≡ false
    unfolding slot_refusal
    there = row_passed _ _ _ e

    is_filled_lem : is_filled (b.slot k) ≡ true
    unfolding slot_refusal
    is_filled_lem = not-false _ (row_passed _ _ _ (row_later _ _ _ e))

    pub recall_store : Stored a (stored (recall k) a) 0 (case_at a.words a.speeds k) (study_word a.words)
    recall_store = recall-stored a (fit r) k (low k there) (high k there)

    pub recall_rel : Rel words speeds (stored (recall k) a) (entered (recall k) b)
    unfolding entered
    recall_rel =
        let p : (l : Line) × (b.slot k ≡ some l) = filled_some (b.slot k) is_filled_lem in
        let K : Kept a b k p.0 = r.slots k p.0 p.1 in
        rw p.1 (live_rel r b.runs (runs_stay b.runs r.runs recall_store) p.0 K.good K.is r.runs_le)

    pub drop_store : Stored a (stored (drop_slot k) a) 0 (case_at a.words a.speeds 0) (with_word (study_word a.words) k 0)
    drop_store = drop-stored a (fit r) k (low k there) (high k there)

    all_stay : (j : ℕ) → j ≤ 6 → (j ≡ k → ⊥)
        → let z = stored (drop_slot k) a in case_at z.words z.speeds j ≡ case_at a.words a.speeds j
    all_stay zero h n = drop_store.written
    all_stay (suc j) h n = drop_store.others (suc j) h (λ q. omega (arith, q))

    pub drop_rel : Rel words speeds (stored (drop_slot k) a) (entered (drop_slot k) b)
    unfolding entered
    drop_rel = slot_rel r k (low k there) (high k there) none drop_store all_stay (λ l f. absurd (none_some l f))

-- ---- Start, on arrays of any content

module _ (file mvs speeds queues : List ℕ) (a : Arrays) (g : Grounds) (many : length a.words ≡ g.words) (speeds_many : length a.speeds ≡ g.speeds)
    (e : refusal (start file mvs speeds queues) g ≡ 0) where
  abbrev w : Network
  w = network_of file

  file-taken : file_number file ≡ 0
  unfolding refusal
  file-taken = first_zero_left _ _ e

  room : (ltb g.words (words_for w.head.size) || ltb g.speeds (speeds_for w.head.size)) ≡ false
  unfolding refusal
  room = row_passed _ _ _ (first_zero_right (file_number file) _ e)

  lists_taken : start_number w mvs speeds queues ≡ 0
  unfolding refusal
  lists_taken = row_later _ _ _ (first_zero_right (file_number file) _ e)

  words-room : words_for w.head.size ≤ g.words
  words-room = ltb-false _ _ (or_left _ (ltb g.speeds (speeds_for w.head.size)) room)

  speeds-room : speeds_for w.head.size ≤ g.speeds
  speeds-room = ltb-false _ _ (or_right (ltb g.words (words_for w.head.size)) _ room)

  pub start_store : Begun a (stored (start file mvs speeds queues) a) w (start_case w mvs speeds queues)
  start_store = start-stored a file mvs speeds queues file-taken (rw many words-room) (rw speeds_many speeds-room)

  pub start_rel : Rel g.words g.speeds (stored (start file mvs speeds queues) a) (started w (start_case w mvs speeds queues))
  unfolding case_of start_marks
  start_rel =
      let s = start_store in
      record {
        words_long = s.words_long ∙ many;
        speeds_long = s.speeds_long ∙ speeds_many;
        words_fit = words-room;
        speeds_fit = speeds-room;
        kept = s.kept;
        network = s.network;
        runs = s.words_are 0 (omega arith);
        runs_le = omega arith;
        arranged = s.words_are 15 (omega arith);
        live = record { good = good_start file mvs speeds queues file-taken lists_taken; is = s.live };
        slots = λ k l x. absurd (none_some l x);
        slot-number = λ k l x. absurd (none_some l x);
        marks = λ k lo hi. s.words_are k (omega arith) ∙ get_or-append (replicate 15 0) (arrangement ∷ []) 0 k (omega arith) ∙ get_or-replicate 15 k 0 0 (omega arith);
      }
