-- The agreed case, from what the arrays hold: in the book no accepted call but a Start and a drop of slot k changes the line in it.
use Prim.Native.Nat.{ℕ, zero, suc}
use mathlib.Core.Path.{◌≡◌, refl, sym, ap, ◌∙◌}
use mathlib.Core.Bool.{Bool, true, false, cond, ◌||◌, not, true≢false}
use mathlib.Core.List.{List, [], ◌∷◌}
use mathlib.Core.Option.{none, some}
use lib.Dec.{ltb, eqb}
use lib.ListN.{length}
use borrow.Author.Tests.{not-true, eq-eqb, eqb-true}
use Rattle.laws.specs.First.{row, if_accepted}
use Rattle.laws.proofs.First.{row_passed, row_later}
use Rattle.laws.proofs.Tests.{and_left, and_right}
use Rattle.format.specs.File.{network_of}
use Rattle.metanet.specs.Start.{start_case}
use Rattle.metanet.specs.Line.{Line, case_of}
use Rattle.book.specs.Arrangement.{network_at, filled_at, case_at}
use Rattle.book.specs.Sound.{sound}
use Rattle.book.specs.Question.{CaseQuestion, of_case, question_number, figures_for, figures_asked, Answer, refused, figures}
use Rattle.book.specs.Calls.{Call, start, item, hold, recall, drop_slot, question, is_start, is_drop, no_call}
use Rattle.book.specs.Refusal.{question_refusal, refusal}
use Rattle.book.specs.Perform.{Arrays, Outcome, unless, refusal_at, answer_of, perform, after, taken}
use Rattle.book.specs.Book.{Book, is_filled, started, entered, grounds_in, enter}
use Rattle.book.specs.Run.{CallOrRun, perform_any, enter_any, singles}
use Rattle.book.specs.Agreed.{AgreedCase}
use Rattle.book.proofs.Rel.{Rel}
use Rattle.book.proofs.Views.{filled_view, sound_view, refusal_view}
use Rattle.book.proofs.Sim.{in_book, call_rel}
use Rattle.book.proofs.Runs.{list_book, list_rel}
use Rattle.book.proofs.Demand3.{begin_rel}

-- ---- the book: slot k has the line l, on the network and from the start case of o

-- none of the calls is a Start or a drop of slot k
abbrev Leave : ℕ → List Call → Type 0
Leave k cs = (no_call is_start cs ≡ true) × (no_call (is_drop k) cs ≡ true)

module _ (words speeds : ℕ) where
  record Keeps (k : ℕ) (l : Line) (o b : Book) : Type 0 where
    network : b.network ≡ o.network
    begun : b.begun ≡ o.begun
    slot : b.slot k ≡ some l

  module _ {k : ℕ} {l : Line} {o : Book} where
    -- a hold into slot k is refused: it is filled
    held_filled : (b : Book) → Keeps k l o b → refusal (hold k) (grounds_in words speeds b) ≡ 0 → ⊥
    unfolding refusal
    held_filled b K e = true≢false (sym (ap is_filled K.slot) ∙ row_passed _ _ _ (row_later _ _ _ e))

    held_slot : (b : Book) (j : ℕ) (t : Bool) → eqb k j ≡ t → refusal (hold j) (grounds_in words speeds b) ≡ 0 → Keeps k l o b
        → cond (eqb k j) (some b.live) (b.slot k) ≡ some l
    held_slot b j true e r K = absurd (held_filled b K (ap (λ (i : ℕ). refusal (hold i) (grounds_in words speeds b)) (eqb-true k j e) ∙ r))
    held_slot b j false e r K = rw e K.slot

    dropped_slot : (b : Book) (j : ℕ) → eqb k j ≡ false → Keeps k l o b → cond (eqb k j) none (b.slot k) ≡ some l
    dropped_slot b j e K = rw e K.slot

    same : (b b' : Book) → b'.network ≡ b.network → b'.begun ≡ b.begun → b'.slot k ≡ some l → Keeps k l o b → Keeps k l o b'
    same b b' p q s K = record { network = p ∙ K.network; begun = q ∙ K.begun; slot = s }

    -- an accepted call that is no Start and no drop of slot k
    entered_keeps : (b : Book) (c : Call) → refusal c (grounds_in words speeds b) ≡ 0 → not (is_start c) ≡ true → not (is_drop k c) ≡ true
        → Keeps k l o b → Keeps k l o (entered c b)
    unfolding entered
    entered_keeps b (start file mvs initial queues) e f g K = absurd (true≢false (sym f))
    entered_keeps b (item i) e f g K = same b (entered (item i) b) refl refl K.slot K
    entered_keeps b (hold j) e f g K = same b (entered (hold j) b) refl refl (held_slot b j (eqb k j) refl e K) K
    entered_keeps b (recall j) e f g K = same b (entered (recall j) b) refl refl K.slot K
    entered_keeps b (drop_slot j) e f g K = same b (entered (drop_slot j) b) refl refl (dropped_slot b j (not-true (eqb k j) g) K) K
    entered_keeps b (question q) e f g K = K

    -- a call and those accepted after it
    call_keeps : (b : Book) (c : Call) (later : List Call) → Leave k (if_accepted (refusal c (grounds_in words speeds b)) (c ∷ later) later) → Keeps k l o b
        → Keeps k l o (enter words speeds c b).state × Leave k later
    unfolding enter unless if_accepted no_call
    call_keeps b c later f K = go (refusal c (grounds_in words speeds b)) refl f
      where
        go : (m : ℕ) → refusal c (grounds_in words speeds b) ≡ m → Leave k (if_accepted m (c ∷ later) later)
            → Keeps k l o (unless m b (in_book c b)).state × Leave k later
        go zero e f =
            let starts = not (is_start c) in
            let drops = not (is_drop k c) in (
              entered_keeps b c e (and_left starts (no_call is_start later) f.0) (and_left drops (no_call (is_drop k) later) f.1) K,
              (and_right starts (no_call is_start later) f.0, and_right drops (no_call (is_drop k) later) f.1),
            )
        go (suc m) e f = (K, f)

    calls-keep : (cs : List Call) (a : Arrays) (b : Book) → Rel words speeds a b → Leave k (taken cs a) → Keeps k l o b → Keeps k l o (after (enter words speeds) cs b)
    unfolding taken after
    calls-keep [] a b r f K = K
    calls-keep (c ∷ cs) a b r f K =
        let p = call_keeps b c (taken cs (perform c a).state) (rw (refusal_view r c) at f) K in
        calls-keep cs (perform c a).state (enter words speeds c b).state (call_rel r c) p.1 p.0

    list_keeps : (cs : List CallOrRun) (a : Arrays) (b : Book) → Rel words speeds a b → Leave k (taken (singles cs a) a) → Keeps k l o b
        → Keeps k l o (after (enter_any words speeds) cs b)
    list_keeps cs a b r f K = rw (list_book cs r) (calls-keep (singles cs a) a b r f K)

  -- right after the hold
  hold_keeps : (k : ℕ) (b : Book) → refusal (hold k) (grounds_in words speeds b) ≡ 0 → Keeps k b.live b (enter words speeds (hold k) b).state
  unfolding enter entered unless
  hold_keeps k b e = rw e (record { network = refl; begun = refl; slot = rw (eq-eqb k k refl) })

-- ---- questions about a slot in two arrays that have the same in it

-- what is answered, by the number that the table gives
abbrev said : ℕ → Answer → Answer
said zero x = x
said (suc m) x = refused (suc m)

said_is : (m : ℕ) (z : Arrays) (o : Outcome Arrays) → (unless m z o).answer ≡ said m o.answer
unfolding unless
said_is zero z o = refl
said_is (suc m) z o = refl

module _ (k : ℕ) (y z : Arrays) (sound-y : sound y.words y.speeds ≡ true) (sound-z : sound z.words z.speeds ≡ true)
    (network : network_at z.words ≡ network_at y.words) (filled : filled_at z.words k ≡ filled_at y.words k)
    (case : case_at z.words z.speeds k ≡ case_at y.words y.speeds k) where
  abbrev sounds : sound z.words z.speeds ≡ sound y.words y.speeds
  sounds = sound-z ∙ sym sound-y

  answered_same : (q : CaseQuestion) → (perform (question (of_case k q)) z).answer ≡ (perform (question (of_case k q)) y).answer
  unfolding perform refusal_at refusal question_refusal answer_of figures_asked
  answered_same q =
      said_is (refusal_at (question (of_case k q)) z) z _
      ∙ (λ j. said
      (row (not (sounds j)) 12 (row (ltb 6 k) 21 (row (not (eqb k 0 || filled j)) 23 (question_number (network j) q))))
      (figures (figures_for q (network j) (case j))))
      ∙ sym (said_is (refusal_at (question (of_case k q)) y) y _)

-- ---- from what the arrays hold

-- what the arrays have in slot k, where the book has the line l
slot_case : {words speeds : ℕ} {z : Arrays} {b o : Book} (k : ℕ) (l : Line) → Rel words speeds z b → Keeps words speeds k l o b
    → case_at z.words z.speeds k ≡ case_of o.network o.begun l
slot_case k l r K = (r.slots k l K.slot).is ∙ (λ i. case_of (K.network i) (K.begun i) l)

pub agreed_case : AgreedCase
unfolding after perform_any
agreed_case file mvs initial queues before later k a e h no_start no_drop =
    let words : ℕ = length a.words in
    let speeds : ℕ = length a.speeds in
    let z₀ : Arrays = (perform (start file mvs initial queues) a).state in
    let b₀ : Book = started (network_of file) (start_case (network_of file) mvs initial queues) in
    let x : Arrays = after perform_any before z₀ in
    let o : Book = after (enter_any words speeds) before b₀ in
    let rx : Rel words speeds x o = list_rel before (begin_rel file mvs initial queues a e) in
    let y : Arrays = (perform (hold k) x).state in
    let oy : Book = (enter words speeds (hold k) o).state in
    let ry : Rel words speeds y oy = call_rel rx (hold k) in
    let z : Arrays = after perform_any later y in
    let oz : Book = after (enter_any words speeds) later oy in
    let rz : Rel words speeds z oz = list_rel later ry in
    let Ky : Keeps words speeds k o.live o oy = hold_keeps words speeds k o (sym (refusal_view rx (hold k)) ∙ h) in
    let Kz : Keeps words speeds k o.live o oz = list_keeps words speeds later y oy ry (no_start, no_drop) Ky in
    let was = slot_case k o.live ry Ky in
    let stays : case_at z.words z.speeds k ≡ case_at y.words y.speeds k = slot_case k o.live rz Kz ∙ sym was in
    let network : network_at z.words ≡ network_at y.words = (rz.network ∙ Kz.network) ∙ sym (ry.network ∙ Ky.network) in
    let filled : filled_at z.words k ≡ true = filled_view rz k ∙ ap is_filled Kz.slot in
    let filled-both : filled_at z.words k ≡ filled_at y.words k = filled ∙ sym (filled_view ry k ∙ ap is_filled Ky.slot) in
    record {
      agreed = was ∙ sym rx.live.is;
      stays = stays;
      filled = filled;
      network = network;
      answered = answered_same k y z (sound_view ry) (sound_view rz) network filled-both stays;
    }
