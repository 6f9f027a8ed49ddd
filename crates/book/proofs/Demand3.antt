-- Demand 3, of every list of calls and runs that begins with an accepted Start, on arrays of any content.
use Prim.Native.Nat.{ℕ, zero, suc, ◌≤◌}
use mathlib.Core.Path.{ap, ◌≡◌, refl, sym, ◌∙◌}
use mathlib.Core.Bool.{Bool, true, ◌&&◌, not}
use mathlib.Core.List.{List, [], ◌∷◌, ◌++◌, append-nil}
use mathlib.Core.Option.{some}
use lib.Dec.{ltb}
use borrow.Author.Tests.{ltb-false, not-true}
use lib.ListN.{length}
use Rattle.laws.proofs.Tests.{and_left, and_right}
use Rattle.laws.specs.First.{row, if_accepted}
use Rattle.format.specs.File.{network_of}
use Rattle.metanet.specs.Step.{total_of}
use Rattle.book.specs.Arrangement.{case_at}
use Rattle.book.specs.Calls.{Call, start, brings_over, no_call}
use Rattle.book.specs.Question.{accepted}
use Rattle.metanet.specs.Start.{start_case, handed}
use Rattle.book.specs.Refusal.{refusal}
use Rattle.book.specs.Perform.{Arrays, unless, grounds_at, refusal_at, answer_of, perform, answers, after, taken, stored}
use Rattle.metanet.specs.Line.{Line}
use Rattle.book.specs.Book.{Book, started, entered, grounds_in, enter, line_at, line_in}
use Rattle.book.specs.Run.{CallOrRun, single, perform_any, enter_any, singles_of, singles}
use Rattle.book.specs.Claim.{Balanced, Since, Demand3}
use Rattle.book.proofs.Rel.{Kept, Rel}
use Rattle.book.proofs.Views.{filled_view, sound_view, refusal_view}
use Rattle.book.proofs.History.{since-start, since_call}
use Rattle.book.proofs.Storing.{start_store, start_rel}
use Rattle.book.proofs.Sim.{call_rel}
use Rattle.book.proofs.Runs.{list_arrays, list_book, list_rel, list_answers}
use Rattle.book.proofs.Past.{Past, past_trans, begun_past, list_past}
use Rattle.metanet.proofs.LineStart.{start_total}

-- ---- the accepted calls of a list

module _ (words speeds : ℕ) where
  since_first : {a : Arrays} {b : Book} → Rel words speeds a b → {h : List Call} → Since h b → (c : Call) (later : List Call) (B : Book)
      → ((x : List Call) → Since x (enter words speeds c b).state → Since (x ++ later) B) → Since (h ++ if_accepted (refusal_at c a) (c ∷ later) later) B
  since_first r s c later B more = rw (refusal_view r c) (since_call s words speeds c later B more)

  calls-since : (cs : List Call) (h : List Call) (a : Arrays) (b : Book) → Rel words speeds a b → Since h b
      → Since (h ++ taken cs a) (after (enter words speeds) cs b)
  unfolding taken after
  calls-since [] h a b r s = rw (append-nil h) s
  calls-since (c ∷ cs) h a b r s =
      since_first r s c (taken cs (perform c a).state) (after (enter words speeds) cs (enter words speeds c b).state)
      (λ x t. calls-since cs x (perform c a).state (enter words speeds c b).state (call_rel r c) t)

  -- those of a run are its steps
  list_since : (cs : List CallOrRun) (h : List Call) (a : Arrays) (b : Book) → Rel words speeds a b → Since h b
      → Since (h ++ taken (singles cs a) a) (after (enter_any words speeds) cs b)
  list_since cs h a b r s = rw (list_book cs r) (calls-since (singles cs a) h a b r s)

-- ---- the Start that the list begins with

module _ (file mvs initial queues : List ℕ) (a : Arrays) (e : refusal_at (start file mvs initial queues) a ≡ 0) where
  abbrev begin : Call
  begin = start file mvs initial queues

  abbrev begun_book : Book
  begun_book = started (network_of file) (start_case (network_of file) mvs initial queues)

  no_refusal : refusal begin (grounds_at a) ≡ 0
  unfolding refusal_at row
  no_refusal = e

  begin-answer : (perform begin a).answer ≡ accepted
  unfolding perform answer_of unless
  begin-answer = rw e

  begin-state : (perform begin a).state ≡ stored begin a
  unfolding perform unless
  begin-state = rw e

  pub begin_rel : Rel (length a.words) (length a.speeds) (perform begin a).state begun_book
  begin_rel = rw begin-state (start_rel file mvs initial queues a (grounds_at a) refl refl no_refusal)

  pub begin-taken : (cs : List CallOrRun) → let z : Arrays = (perform begin a).state in taken (singles (single begin ∷ cs) a) a ≡ begin ∷ taken (singles cs z) z
  unfolding singles singles_of perform_any taken if_accepted
  begin-taken cs = rw e

  begin_past : (cs : List CallOrRun) (m : ℕ) → no_call (brings_over m) (taken (singles (single begin ∷ cs) a) a) ≡ true
      → Past m (after perform_any (single begin ∷ cs) a) a
  unfolding no_call after perform_any
  begin_past cs m h =
      let z : Arrays = (perform begin a).state in
      let t : Bool = not (ltb m (network_of file).head.size) in
      let more : Bool = no_call (brings_over m) (taken (singles cs z) z) in
      let both : (t && more) ≡ true = rw (begin-taken cs) at h in
      let n : (network_of file).head.size ≤ m = ltb-false _ _ (not-true (ltb m (network_of file).head.size) (and_left t more both)) in
      let later : Past m (after perform_any cs z) z =
      rw (list_arrays cs z) (list_past m (length a.words) (length a.speeds) (singles cs z) z begun_book begin_rel n (and_right t more both)) in
      past_trans later (rw begin-state (begun_past (start_store file mvs initial queues a (grounds_at a) refl refl no_refusal) n))

  -- whatever the book had before
  begin_book : (b : Book) → refusal begin (grounds_in (length a.words) (length a.speeds) b) ≡ 0
  unfolding refusal
  begin_book b = no_refusal

  pub begin-entered : (b : Book) → enter (length a.words) (length a.speeds) begin b ≡ record { state = begun_book; answer = accepted }
  unfolding enter entered answer_of unless
  begin-entered b = rw (begin_book b)

-- ---- vehicles

begun_total : {h : List Call} {b : Book} (s : Since h b) → total_of b.network b.begun ≡ handed b.network s.mvs s.queues
begun_total s =
    (λ i. total_of (s.network i) (s.begun i))
    ∙ start_total (network_of s.file) s.mvs s.speeds s.queues
    ∙ sym (λ i. handed (s.network i) s.mvs s.queues)

balanced : {h : List Call} {z : Arrays} {b : Book} (s : Since h b) (k : ℕ) (l : Line) → Kept z b k l
    → Balanced b.network b.begun (handed b.network s.mvs s.queues) l (case_at z.words z.speeds k)
balanced s k l K =
    rw K.is
    (record {
      arrivals = K.good.arrivals_are;
      exits = K.good.exits_are;
      vehicles = rw (← (begun_total s)) K.good.balance;
    })

-- ---- the live line and those held

kept_at : {words speeds : ℕ} {z : Arrays} {b : Book} → Rel words speeds z b → (k : ℕ) (l : Line) → line_at b k ≡ some l → Kept z b k l
kept_at {b = b} r zero l e = let p : b.live ≡ l = ap line_in e in rw (← p) r.live
kept_at r (suc k) l e = r.slots (suc k) l e

-- ---- demand 3

pub demand_3 : Demand3
unfolding answers after perform_any enter_any
demand_3 file mvs initial queues cs a b e =
    let words : ℕ = length a.words in
    let speeds : ℕ = length a.speeds in
    let begin : Call = start file mvs initial queues in
    let b₀ : Book = started (network_of file) (start_case (network_of file) mvs initial queues) in
    let z₀ : Arrays = (perform begin a).state in
    let r₀ : Rel words speeds z₀ b₀ = begin_rel file mvs initial queues a e in
    let r : Rel words speeds (after perform_any cs z₀) (after (enter_any words speeds) cs b₀) = list_rel cs r₀ in
    let s : Since (taken (singles (single begin ∷ cs) a) a) (after (enter_any words speeds) cs b₀) =
    rw (begin-taken file mvs initial queues a e cs) (list_since words speeds cs (begin ∷ []) z₀ b₀ r₀ (since-start [] file mvs initial queues)) in
    rw (begin-entered file mvs initial queues a e b)
    (record {
      same_answers = λ i. begin-answer file mvs initial queues a e i ∷ list_answers cs r₀ i;
      network = r.network;
      cases = λ k l h. (kept_at r k l h).is;
      marks = filled_view r;
      runs = r.runs;
      since = s;
      balance = λ k l h. balanced s k l (kept_at r k l h);
      is_sound = sound_view r;
      words_long = r.words_long;
      speeds_long = r.speeds_long;
      words_past = λ m h. (begin_past file mvs initial queues a e cs m h).words_past;
      speeds_past = λ m h. (begin_past file mvs initial queues a e cs m h).speeds_past;
    })
