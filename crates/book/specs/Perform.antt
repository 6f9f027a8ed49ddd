-- What each call does to the lent arrays, and what it answers. The contract of each callable function is `Performs`.
use Rattle.std.specs.Prelude.{ℕ, zero, suc, ◌+◌, ◌≡◌, ◌||◌, not, List, [], ◌∷◌, ◌++◌, length, set, drop, replicate, Float}
use Rattle.laws.specs.First.{row, if_accepted}
use Rattle.laws.specs.Lists.{part, put_part}
use Rattle.format.specs.Network.{Network}
use Rattle.format.specs.File.{network_of}
use Rattle.format.specs.Words.{kept_words}
use Rattle.metanet.specs.Case.{Case}
use Rattle.book.specs.Arrangement.{run_word, mark_word, case_length, case_word, case_speed, network_at, size_at, run_count_at, filled_at, case_at, start_marks}
use Rattle.book.specs.Sound.{sound}
use Rattle.book.specs.Calls.{Call, start, hold, recall, drop_slot, item, question, is_start}
use Rattle.book.specs.Question.{Answer, figures, figures_asked, refused, accepted}
use Rattle.metanet.specs.Start.{start_case}
use Rattle.metanet.specs.Words.{put_case, put_case_speeds}
use Rattle.metanet.specs.Line.{Item, change, item_steps}
use Rattle.book.specs.Refusal.{Grounds, refusal}

pub record Arrays : Type 0 where
  pub words : List ℕ
  pub speeds : List Float

abbrev pub lent : List ℕ → List Float → Arrays
lent words speeds = record { words = words; speeds = speeds }

-- ---- refusals, judged on the arrays

abbrev pub grounds_at : Arrays → Grounds
grounds_at a =
    record {
      words = length a.words;
      speeds = length a.speeds;
      network = network_at a.words;
      steps = (case_at a.words a.speeds 0).steps;
      runs = run_count_at a.words;
      filled = filled_at a.words;
    }

-- every other call on a study, first: 12 study not sound
unfoldable pub refusal_at : Call → Arrays → ℕ
refusal_at c a = row (not (is_start c || sound a.words a.speeds)) 12 (refusal c (grounds_at a))

-- ---- what an accepted call stores

-- the arrays with the case c of n segments for the live one; its free words and all else stay
abbrev pub with_live : ℕ → Case → Arrays → Arrays
with_live n c a = lent (put_case (case_word n 0) n c a.words) (put_case_speeds (case_speed n 0) n c a.speeds)

-- Start: the network; run count, marks and arrangement number; zeros where the live case is put. The slots' words stay as they came
unfoldable pub start_words : Network → List ℕ → List ℕ
start_words w words =
    let n = w.head.size in kept_words w ++ (start_marks ++ (replicate (case_length n) 0 ++ drop (case_word n 1) words))

-- an item changes the live case as in the book, and a step adds 1 to the run count
unfoldable pub changed : Item → Arrays → Arrays
changed i a =
    let z = with_live (size_at a.words) (change (network_at a.words) (case_at a.words a.speeds 0) i) a in
    lent (set z.words run_word (run_count_at a.words + item_steps i)) z.speeds

-- the words and speeds of case j, copied to the place of case k
unfoldable pub copied_words : ℕ → ℕ → ℕ → List ℕ → List ℕ
copied_words n j k words = put_part (case_word n k) (case_length n) (part (case_word n j) (case_length n) words) words

unfoldable pub copied_speeds : ℕ → ℕ → ℕ → List Float → List Float
copied_speeds n j k speeds = put_part (case_speed n k) n (part (case_speed n j) n speeds) speeds

abbrev pub copied : ℕ → ℕ → Arrays → Arrays
copied j k a = let n = size_at a.words in lent (copied_words n j k a.words) (copied_speeds n j k a.speeds)

-- the arrays with this mark of slot k
abbrev pub marked : ℕ → ℕ → Arrays → Arrays
marked k mark a = lent (set a.words (mark_word k) mark) a.speeds

unfoldable pub stored : Call → Arrays → Arrays
unfolding start_words changed copied_words copied_speeds
stored (start file mvs speeds queues) a =
    let w = network_of file in
    with_live w.head.size (start_case w mvs speeds queues) (lent (start_words w a.words) a.speeds)
stored (item i) a = changed i a
stored (hold k) a = marked k 1 (copied 0 k a)
stored (recall k) a = copied k 0 a
stored (drop_slot k) a = marked k 0 a
stored (question q) a = a

-- ---- what an accepted call answers, of the network, the cases by number and the run count: shared with the book
unfoldable pub answer_of : Call → Network → (ℕ → Case) → ℕ → Answer
unfolding figures_asked
answer_of (start file mvs speeds queues) w cases runs = accepted
answer_of (item i) w cases runs = accepted
answer_of (hold k) w cases runs = accepted
answer_of (recall k) w cases runs = accepted
answer_of (drop_slot k) w cases runs = accepted
answer_of (question q) w cases runs = figures (figures_asked q w cases runs)

-- ---- a call

-- a state after a call, and the call's answer
pub record Outcome (S : Type 0) : Type 0 where
  pub state : S
  pub answer : Answer

-- refused by a number, with nothing changed, or accepted
unfoldable pub unless : {S : Type 0} → ℕ → S → Outcome S → Outcome S
unless zero before after = after
unless (suc m) before after = record { state = before; answer = refused (suc m) }

unfoldable pub perform : Call → Arrays → Outcome Arrays
unfolding refusal_at stored answer_of unless
perform c a =
    unless (refusal_at c a) a
    (record { state = stored c a; answer = answer_of c (network_at a.words) (case_at a.words a.speeds) (run_count_at a.words) })

-- what the contract of a callable function says: its answer, and both arrays afterwards, are this outcome
pub record Gives (o : Outcome Arrays) (answer : Answer) (words : List ℕ) (speeds : List Float) : Type 0 where
  pub answers : answer ≡ o.answer
  pub words_are : words ≡ o.state.words
  pub speeds_are : speeds ≡ o.state.speeds

-- what `perform` gives
abbrev pub Performs : Call → List ℕ → List Float → Answer → List ℕ → List Float → Type 0
Performs c words speeds = Gives (perform c (lent words speeds))

-- ---- a list of calls: each later call gets the state as the one before left it; call says what one does, on arrays or in the book

unfoldable pub after : {C S : Type 0} → (C → S → Outcome S) → List C → S → S
after call [] s = s
after call (c ∷ cs) s = after call cs (call c s).state

unfoldable pub answers : {C S : Type 0} → (C → S → Outcome S) → List C → S → List Answer
answers call [] s = []
answers call (c ∷ cs) s = (call c s).answer ∷ answers call cs (call c s).state

-- the calls that are accepted on the arrays; a refused call is left out
unfoldable pub taken : List Call → Arrays → List Call
taken [] a = []
taken (c ∷ cs) a = let later = taken cs (perform c a).state in if_accepted (refusal_at c a) (c ∷ later) later
