-- Words and speeds past the stated lengths are never changed.
use Prim.Native.Nat.{ℕ, zero, suc, ◌≤◌}
use mathlib.Core.Path.{◌≡◌, refl, ◌∙◌}
use mathlib.Core.Bool.{true, not}
use mathlib.Core.List.{List, [], ◌∷◌}
use lib.Dec.{ltb}
use borrow.Author.Tests.{ltb-false, not-true}
use lib.ListN.{drop}
use Rattle.laws.proofs.Tests.{and_left, and_right}
use Rattle.format.specs.Network.{Network}
use Rattle.metanet.specs.Case.{Case}
use Rattle.book.specs.Arrangement.{words_for, speeds_for, size_at}
use Rattle.book.specs.Calls.{Call, start, hold, recall, drop_slot, item, question, brings_over, no_call}
use Rattle.book.specs.Refusal.{refusal}
use Rattle.book.specs.Perform.{Arrays, unless, perform, stored, taken, refusal_at, after}
use Rattle.book.specs.Book.{Book, entered, grounds_in, enter}
use Rattle.book.proofs.Rel.{Rel}
use Rattle.book.proofs.Views.{size_view, refusal_view}
use Rattle.book.proofs.Stored.{Stored, Begun}
use Rattle.book.proofs.Storing.{hold_store, recall_store, drop_store, start_store, item_store}
use Rattle.book.proofs.Sim.{on_arrays, in_book, call_rel}
use Rattle.laws.specs.First.{if_accepted}

-- the arrays z and a are the same past the lengths for m segments
pub record Past (m : ℕ) (z a : Arrays) : Type 0 where
  pub words_past : drop (words_for m) z.words ≡ drop (words_for m) a.words
  pub speeds_past : drop (speeds_for m) z.speeds ≡ drop (speeds_for m) a.speeds

past_refl : {m : ℕ} {a : Arrays} → Past m a a
past_refl = record { words_past = refl; speeds_past = refl }

pub past_trans : {m : ℕ} {x y z : Arrays} → Past m x y → Past m y z → Past m x z
past_trans p q = record { words_past = p.words_past ∙ q.words_past; speeds_past = p.speeds_past ∙ q.speeds_past }

pub begun_past : {m : ℕ} {a z : Arrays} {w : Network} {c : Case} → Begun a z w c → w.head.size ≤ m → Past m z a
begun_past {m} s h = record { words_past = s.words_past m h; speeds_past = s.speeds_past m h }

module _ (m : ℕ) where
  -- ---- one call
  module _ {words speeds : ℕ} {a : Arrays} {b : Book} (r : Rel words speeds a b) (hm : b.network.head.size ≤ m) where
    stored_past : {z : Arrays} {k : ℕ} {c : Case} {word : ℕ → ℕ} → Stored a z k c word → Past m z a
    stored_past s =
        let h : size_at a.words ≤ m = rw (size_view r) hm in
        record { words_past = s.words_past m h; speeds_past = s.speeds_past m h }

    store_past : (c : Call) → refusal c (grounds_in words speeds b) ≡ 0 → not (brings_over m c) ≡ true → Past m (stored c a) a
    unfolding stored refusal
    store_past (start file mvs initial queues) e h =
        begun_past (start_store file mvs initial queues a (grounds_in words speeds b) r.words_long r.speeds_long e) (ltb-false _ _ (not-true (ltb m _) h))
    store_past (item i) e h = stored_past (item_store r i e)
    store_past (hold k) e h = stored_past (hold_store r k e)
    store_past (recall k) e h = stored_past (recall_store r k e)
    store_past (drop_slot k) e h = stored_past (drop_store r k e)
    store_past (question q) e h = past_refl

    entered_size : (c : Call) → not (brings_over m c) ≡ true → (entered c b).network.head.size ≤ m
    unfolding entered
    entered_size (start file mvs initial queues) h = ltb-false _ _ (not-true (ltb m _) h)
    entered_size (item i) h = hm
    entered_size (hold k) h = hm
    entered_size (recall k) h = hm
    entered_size (drop_slot k) h = hm
    entered_size (question q) h = hm

    -- the call is refused, or it is one of those accepted: the later ones are within m too
    call_past : (c : Call) (later : List Call) → no_call (brings_over m) (if_accepted (refusal_at c a) (c ∷ later) later) ≡ true
        → Past m (perform c a).state a × ((enter words speeds c b).state.network.head.size ≤ m) × (no_call (brings_over m) later ≡ true)
    unfolding perform enter unless no_call if_accepted
    call_past c later h = rw (refusal_view r c) (go (refusal c (grounds_in words speeds b)) refl (rw (refusal_view r c) at h))
      where
        go : (n : ℕ) → refusal c (grounds_in words speeds b) ≡ n → no_call (brings_over m) (if_accepted n (c ∷ later) later) ≡ true
            → Past m (unless n a (on_arrays c a)).state a × ((unless n b (in_book c b)).state.network.head.size ≤ m) × (no_call (brings_over m) later ≡ true)
        go zero e k =
            let within = and_left (not (brings_over m c)) (no_call (brings_over m) later) k in
            (store_past c e within, entered_size c within, and_right (not (brings_over m c)) (no_call (brings_over m) later) k)
        go (suc n) e k = (past_refl, hm, k)

  -- ---- the whole list
  pub list_past : (words speeds : ℕ) (cs : List Call) (a : Arrays) (b : Book) → Rel words speeds a b → b.network.head.size ≤ m
      → no_call (brings_over m) (taken cs a) ≡ true → Past m (after perform cs a) a
  unfolding taken after
  list_past words speeds [] a b r h e = past_refl
  list_past words speeds (c ∷ cs) a b r h e =
      let p = call_past r h c (taken cs (perform c a).state) e in
      past_trans
      (list_past words speeds cs (perform c a).state (enter words speeds c b).state (call_rel r c) p.1 p.2)
      p.0
