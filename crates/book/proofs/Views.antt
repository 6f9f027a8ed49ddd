-- What arrays that hold a book show: the study is sound, and every call is refused or accepted as in the book.
use Prim.Native.Nat.{ℕ, zero, suc, ◌+◌, ◌≤◌}
use mathlib.Core.Path.{◌≡◌, refl, sym, ap, ◌∙◌}
use mathlib.Core.Bool.{Bool, true, false, ◌&&◌, ◌||◌, not, true≢false, false≢true}
use mathlib.Core.Option.{Option, none, some}
use native.Mathlib.Omega.{arith}
use native.Mathlib.Nat.{le_of_eq}
use lib.Dec.{ltb, leb, eqb}
use lib.ListN.{length}
use borrow.Author.Tests.{leb-true, le-ltb, le-leb, eq-eqb, ne_eqb}
use Rattle.laws.specs.First.{row}
use Rattle.laws.proofs.First.{row_skipped, first_zero, first_of_all}
use Rattle.laws.proofs.Tests.{and_left, and_right}
use Rattle.format.specs.Network.{Network, network_from, entry_of, segment_of}
use Rattle.format.specs.Words.{kept_number}
use Rattle.metanet.specs.Case.{Case}
use Rattle.metanet.specs.Sound.{case_number}
use Rattle.metanet.specs.Words.{net_of}
use Rattle.book.specs.Arrangement.{words_for, speeds_for, size_at, run_count_at, mark_at, filled_at, case_at}
use Rattle.book.specs.Sound.{case_number_at, slot_number, cases_number, sound_number, sound}
use Rattle.book.specs.Calls.{Call, is_start}
use Rattle.book.specs.Refusal.{refusal}
use Rattle.book.specs.Perform.{Arrays, grounds_at, refusal_at}
use Rattle.metanet.specs.Line.{Line, case_of}
use Rattle.book.specs.Book.{Book, is_filled, line_at, grounds_in, line_in}
use Rattle.book.proofs.Rel.{mark_of, Kept, Rel}

-- ---- lines in slots

pub filled_some : (o : Option Line) → is_filled o ≡ true → (l : Line) × (o ≡ some l)
filled_some none e = absurd (false≢true e)
filled_some (some l) e = (l, refl)

mark-filled : (o : Option Line) → eqb (mark_of o) 1 ≡ is_filled o
mark-filled none = refl
mark-filled (some l) = refl

pub slot_low : (k : ℕ) → (leb 1 k && leb k 6) ≡ true → 1 ≤ k
slot_low k e = leb-true 1 k (and_left (leb 1 k) (leb k 6) e)

pub slot_high : (k : ℕ) → (leb 1 k && leb k 6) ≡ true → k ≤ 6
slot_high k e = leb-true k 6 (and_right (leb 1 k) (leb k 6) e)

-- ---- the arrays a hold the book b

module _ {words speeds : ℕ} {a : Arrays} {b : Book} (r : Rel words speeds a b) where
  pub size_view : size_at a.words ≡ b.network.head.size
  unfolding network_from
  size_view = ap (λ (w : Network). w.head.size) r.network

  -- ---- sound
  place_view : (k : ℕ) (l : Line) → Kept a b k l → case_number_at a.words a.speeds k ≡ 0
  place_view k l K =
      (λ j. case_number (r.network j).head (entry_of (r.network j)) (segment_of (r.network j)) (K.is j)) ∙ K.good.is_sound

  pub filled_view : (k : ℕ) → filled_at a.words k ≡ is_filled (b.slot k)
  filled_view k = go (leb 1 k && leb k 6) refl
    where
      away : (o : Option Line) → b.slot k ≡ o → (leb 1 k && leb k 6) ≡ false → is_filled (b.slot k) ≡ false
      away none e f = rw e
      away (some l) e f =
          let p = r.slot-number k l e in
          absurd (true≢false (sym (λ i. le-leb 1 k p.0 i && le-leb k 6 p.1 i) ∙ f))

      go : (t : Bool) → (leb 1 k && leb k 6) ≡ t → (leb 1 k && leb k 6 && eqb (mark_at a.words k) 1) ≡ is_filled (b.slot k)
      go true e = rw (e, r.marks k (slot_low k e) (slot_high k e)) (mark-filled (b.slot k))
      go false e = rw e (sym (away (b.slot k) refl e))

  slot_view : (k : ℕ) → 1 ≤ k → k ≤ 6 → slot_number a.words a.speeds k ≡ 0
  unfolding slot_number row
  slot_view k lo hi = go (b.slot k) refl
    where
      go : (o : Option Line) → b.slot k ≡ o → slot_number a.words a.speeds k ≡ 0
      go none e = rw (r.marks k lo hi, e)
      go (some l) e = rw (r.marks k lo hi, e) (place_view k l (r.slots k l e))

  room_view : (ltb (length a.words) (words_for (size_at a.words)) || ltb (length a.speeds) (speeds_for (size_at a.words))) ≡ false
  room_view =
      rw (size_view, r.words_long, r.speeds_long)
      (λ i. le-ltb words (words_for b.network.head.size) r.words_fit i || le-ltb speeds (speeds_for b.network.head.size) r.speeds_fit i)

  cases_view : cases_number a.words a.speeds ≡ 0
  unfolding cases_number
  cases_view =
      row_skipped _ _ _
      (λ i. le-ltb 1000000 (run_count_at a.words) (rw r.runs r.runs_le) i || not (eq-eqb _ _ r.arranged i))
      ∙ first_zero _ _ (place_view 0 b.live r.live)
      ∙ first_of_all (λ k. slot_number a.words a.speeds (k + 1)) 6 (λ k l. slot_view (k + 1) (omega arith) (omega arith))

  sound-number : sound_number a.words a.speeds ≡ 0
  unfolding sound_number
  sound-number =
      row_skipped _ _ _ (le-ltb 0 (kept_number (net_of a.words)) (le_of_eq r.kept))
      ∙ row_skipped _ _ _ room_view
      ∙ cases_view

  pub sound_view : sound a.words a.speeds ≡ true
  sound_view = eq-eqb _ _ sound-number

  -- ---- refused and accepted as in the book
  grounds_view : grounds_at a ≡ grounds_in words speeds b
  grounds_view =
      λ i. record {
        words = r.words_long i;
        speeds = r.speeds_long i;
        network = r.network i;
        steps = (ap (λ (c : Case). c.steps) r.live.is ∙ r.live.good.steps_are) i;
        runs = r.runs i;
        filled = λ k. filled_view k i;
      }

  pub refusal_view : (c : Call) → refusal_at c a ≡ refusal c (grounds_in words speeds b)
  unfolding refusal_at
  refusal_view c =
      row_skipped _ _ _ (passed (is_start c) (sound a.words a.speeds) sound_view)
      ∙ ap (refusal c) grounds_view
    where
      passed : (s t : Bool) → t ≡ true → not (s || t) ≡ false
      passed true t e = refl
      passed false t e = rw e

  -- ---- the case that a report may ask for
  pub asked_view : (k : ℕ) → (eqb k 0 || is_filled (b.slot k)) ≡ true
      → case_at a.words a.speeds k ≡ case_of b.network b.begun (line_in (line_at b k))
  asked_view zero e = r.live.is
  asked_view (suc k) e =
      let f : is_filled (b.slot (suc k)) ≡ true = rw (ne_eqb (suc k) 0 (λ z. omega (arith, z))) at e in
      let p : (l : Line) × (b.slot (suc k) ≡ some l) = filled_some (b.slot (suc k)) f in
      rw p.1 (r.slots (suc k) p.0 p.1).is
