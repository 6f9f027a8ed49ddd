-- A store of the live case, or of one slot with its mark, leaves arrays that hold the book with that line.
use Prim.Native.Nat.{ℕ, ◌≤◌}
use mathlib.Core.Path.{◌≡◌, refl, sym, ap, ◌∙◌, subst}
use mathlib.Core.Bool.{Bool, true, false, cond}
use mathlib.Core.Option.{Option, none, some}
use native.Mathlib.Omega.{arith}
use lib.Dec.{eqb}
use borrow.Author.Tests.{eqb-true, eqb-false, ne_eqb}
use Rattle.format.specs.Words.{network_in, kept_number}
use Rattle.metanet.specs.Case.{Case}
use Rattle.book.specs.Arrangement.{case_at, arrangement}
use Rattle.book.specs.Perform.{Arrays}
use Rattle.metanet.specs.Line.{Line, case_of}
use Rattle.book.specs.Book.{Book, with_slot, with_lines}
use Rattle.metanet.proofs.Good.{Good}
use Rattle.book.proofs.Rel.{mark_of, Kept, Rel}
use Rattle.book.proofs.Views.{size_view}
use Rattle.book.proofs.Stored.{Fit, Stored, with_word, study_word}

pub some_inj : (l m : Line) → some l ≡ some m → l ≡ m
some_inj l m e = cc

pub none_some : (l : Line) → ◌≡◌ {A = Option Line} none (some l) → ⊥
none_some l e = let z : ◌≡◌ {A = ℕ} 0 1 = cc in omega arith

-- ---- what a store leaves

module _ {words speeds : ℕ} {a : Arrays} {b : Book} (r : Rel words speeds a b) where
  pub fit : Fit a
  fit = record { words_fit = rw (size_view r, r.words_long) r.words_fit; speeds_fit = rw (size_view r, r.speeds_long) r.speeds_fit }

  module _ {z : Arrays} {k : ℕ} {c : Case} {word : ℕ → ℕ} (s : Stored a z k c word) where
    stored_rel : (live : Line) (slot : ℕ → Option Line) (x : ℕ) → word 0 ≡ x → x ≤ 1000000 → word 15 ≡ arrangement
        → Kept z (with_lines b live slot x) 0 live
        → ((j : ℕ) (l : Line) → slot j ≡ some l → Kept z (with_lines b live slot x) j l)
        → ((j : ℕ) (l : Line) → slot j ≡ some l → (1 ≤ j) × (j ≤ 6))
        → ((j : ℕ) → 1 ≤ j → j ≤ 6 → word j ≡ mark_of (slot j))
        → Rel words speeds z (with_lines b live slot x)
    stored_rel live slot x p le arranged K Ks n m =
        record {
          words_long = s.words_long ∙ r.words_long;
          speeds_long = s.speeds_long ∙ r.speeds_long;
          words_fit = r.words_fit;
          speeds_fit = r.speeds_fit;
          kept = ap kept_number s.net ∙ r.kept;
          network = ap network_in s.net ∙ r.network;
          runs = s.words_are 0 (omega arith) ∙ p;
          runs_le = le;
          arranged = s.words_are 15 (omega arith) ∙ arranged;
          live = K;
          slots = Ks;
          slot-number = n;
          marks = λ j lo hi. s.words_are j (omega arith) ∙ m j lo hi;
        }

  -- the live case is written, with the case of the line l, and the run count
  pub live_rel : {z : Arrays} {c : Case} (x : ℕ) → Stored a z 0 c (with_word (study_word a.words) 0 x) → (l : Line) → Good b.network b.begun l
      → c ≡ case_of b.network b.begun l → x ≤ 1000000 → Rel words speeds z (with_lines b l b.slot x)
  live_rel x s l G e le =
      stored_rel s l b.slot x refl le r.arranged
      (record { good = G; is = s.written ∙ e })
      (λ j m f.
      let n = r.slot-number j m f in
      record { good = (r.slots j m f).good; is = s.others j n.1 (λ q. omega (arith, q, n.0)) ∙ (r.slots j m f).is })
      r.slot-number
      (λ j lo hi. rw (ne_eqb j 0 (λ q. omega (arith, q, lo))) (r.marks j lo hi))

  -- slot k gets the line o or none, with its mark; every other case is as it was
  module _ (k : ℕ) (lo : 1 ≤ k) (hi : k ≤ 6) (o : Option Line) {z : Arrays} {i : ℕ} {c : Case}
      (s : Stored a z i c (with_word (study_word a.words) k (mark_of o)))
      (others : (j : ℕ) → j ≤ 6 → (j ≡ k → ⊥) → case_at z.words z.speeds j ≡ case_at a.words a.speeds j) where
    abbrev pub slot : ℕ → Option Line
    slot = with_slot b.slot k o

    abbrev pub after : Book
    after = with_lines b b.live slot b.runs

    -- the words but for the mark
    word_stays : (j : ℕ) → (j ≡ k → ⊥) → with_word (study_word a.words) k (mark_of o) j ≡ study_word a.words j
    word_stays j other = rw (ne_eqb j k other)

    module _ (K : (l : Line) → o ≡ some l → Kept z after k l) where
      slot_kept : (j : ℕ) (l : Line) (t : Bool) → eqb j k ≡ t → slot j ≡ some l → Kept z after j l
      slot_kept j l true e f = subst (λ (u : ℕ). Kept z after u l) (sym (eqb-true j k e)) (K l (rw e at f))
      slot_kept j l false e f =
          let g : b.slot j ≡ some l = rw e at f in
          record { good = (r.slots j l g).good; is = others j (r.slot-number j l g).1 (eqb-false j k e) ∙ (r.slots j l g).is }

      slot_in : (j : ℕ) (l : Line) (t : Bool) → eqb j k ≡ t → slot j ≡ some l → (1 ≤ j) × (j ≤ 6)
      slot_in j l true e f = (rw (eqb-true j k e) lo, rw (eqb-true j k e) hi)
      slot_in j l false e f = r.slot-number j l (rw e at f)

      slot-mark : (j : ℕ) → 1 ≤ j → j ≤ 6 → (t : Bool) → eqb j k ≡ t → cond (eqb j k) (mark_of o) (study_word a.words j) ≡ mark_of (slot j)
      slot-mark j lj hj true e = rw e
      slot-mark j lj hj false e = rw e (r.marks j lj hj)

      pub slot_rel : Rel words speeds z after
      slot_rel =
          stored_rel s b.live slot b.runs
          (word_stays 0 (λ q. omega (arith, q, lo)) ∙ r.runs) r.runs_le (word_stays 15 (λ q. omega (arith, q, hi)) ∙ r.arranged)
          (record { good = r.live.good; is = others 0 (omega arith) (λ q. omega (arith, q)) ∙ r.live.is })
          (λ j l f. slot_kept j l (eqb j k) refl f)
          (λ j l f. slot_in j l (eqb j k) refl f)
          (λ j lj hj. slot-mark j lj hj (eqb j k) refl)
