-- Demand 3: one claim about any list of calls and runs.
use Rattle.std.specs.Prelude.{ℕ, ◌+◌, ◌≡◌, true, List, [], ◌∷◌, ◌++◌, length, drop}
use Rattle.std.proofs.Math.Option.{some}
use Rattle.format.specs.Network.{Network}
use Rattle.format.specs.File.{network_of}
use Rattle.metanet.specs.Case.{Case}
use Rattle.metanet.specs.Step.{total_of}
use Rattle.metanet.specs.Start.{start_case, handed}
use Rattle.metanet.specs.Line.{Line, case_of, arrivals_of, exits_of}
use Rattle.book.specs.Arrangement.{words_for, speeds_for, network_at, run_count_at, filled_at, case_at}
use Rattle.book.specs.Sound.{sound}
use Rattle.book.specs.Question.{Answer, accepted}
use Rattle.book.specs.Calls.{Call, start, steps_in, held_in, is_start, no_call, brings_over}
use Rattle.book.specs.Perform.{Arrays, refusal_at, Performs, after, answers, taken, Outcome}
use Rattle.book.specs.Book.{Book, is_filled, line_at}
use Rattle.book.specs.Run.{CallOrRun, single, run, PerformsRun, perform_any, enter_any, singles}

-- ---- the vehicles of the case c of the line l, from the start case begun with v mv handed to Start
pub record Balanced (w : Network) (begun : Case) (v : ℕ) (l : Line) (c : Case) : Type 0 where
  pub arrivals : c.arrivals ≡ arrivals_of w l
  pub exits : c.exits ≡ exits_of w begun l
  -- vehicles at the start are the mv and queues handed to Start; with the arrivals they are in segments, in queues or among the exits
  pub vehicles : total_of w c + exits_of w begun l ≡ v + arrivals_of w l

-- ---- the book after the accepted calls h is of the last Start among them and of the calls since
pub record Since (h : List Call) (b : Book) : Type 0 where
  pub before : List Call
  pub file : List ℕ
  pub mvs : List ℕ
  pub speeds : List ℕ
  pub queues : List ℕ
  pub later : List Call
  pub split : h ≡ before ++ (start file mvs speeds queues ∷ later)
  pub last : no_call is_start later ≡ true
  pub network : b.network ≡ network_of file
  pub begun : b.begun ≡ start_case (network_of file) mvs speeds queues
  -- a slot is filled exactly when a hold into it was accepted and no drop of it after that hold
  pub filled : (k : ℕ) → is_filled (b.slot k) ≡ held_in k later
  -- the run count is the number of steps accepted
  pub runs : b.runs ≡ steps_in later

-- ---- the claim: a list on the arrays a has the answers xs, leaves the arrays z, and the calls h of it are accepted; in the book it
-- has the answers ys and leaves the book b
pub record Holds (a : Arrays) (xs : List Answer) (z : Arrays) (h : List Call) (ys : List Answer) (b : Book) : Type 0 where
  -- every answer of the list is the book's
  pub same_answers : xs ≡ ys
  -- the stored network, the live case and each held case are what the book's lines give; a case is a state for each segment (N, bits of v,
  -- w, sign, setting, R, last outflow, last release, S, m and b) and steps, arrivals, exits and time
  pub network : network_at z.words ≡ b.network
  pub cases : (k : ℕ) (l : Line) → line_at b k ≡ some l → case_at z.words z.speeds k ≡ case_of b.network b.begun l
  pub marks : (k : ℕ) → filled_at z.words k ≡ is_filled (b.slot k)
  pub runs : run_count_at z.words ≡ b.runs
  -- the last accepted Start, and what was accepted since
  pub since : Since h b
  -- arrivals, exits and vehicles of the live and each held line
  pub balance : (k : ℕ) (l : Line) → line_at b k ≡ some l
      → Balanced b.network b.begun (handed b.network since.mvs since.queues) l (case_at z.words z.speeds k)
  -- the study is sound; lengths are unchanged; words and speeds past the stated lengths are untouched
  pub is_sound : sound z.words z.speeds ≡ true
  pub words_long : length z.words ≡ length a.words
  pub speeds_long : length z.speeds ≡ length a.speeds
  pub words_past : (m : ℕ) → no_call (brings_over m) h ≡ true → drop (words_for m) z.words ≡ drop (words_for m) a.words
  pub speeds_past : (m : ℕ) → no_call (brings_over m) h ≡ true → drop (speeds_for m) z.speeds ≡ drop (speeds_for m) a.speeds

-- the list cs on the arrays a, with the answers xs and the arrays z at its end, beside the book b, which is given the two lengths; a run
-- in it is its steps, so those of its rows that were taken are among the accepted calls
abbrev pub HoldsOf : List CallOrRun → Arrays → List Answer → Arrays → Book → Type 0
HoldsOf cs a xs z b =
    let call : CallOrRun → Book → Outcome Book = enter_any (length a.words) (length a.speeds) in
    Holds a xs z (taken (singles cs a) a) (answers call cs b) (after call cs b)

-- for every list of calls and runs that begins with a Start to which no refusal applies, on arrays of any content, whatever the book had
-- before
abbrev pub Demand3 : Type 0
Demand3 =
    (file mvs speeds queues : List ℕ) (cs : List CallOrRun) (a : Arrays) (b : Book)
    → refusal_at (start file mvs speeds queues) a ≡ 0
    → (let all : List CallOrRun = single (start file mvs speeds queues) ∷ cs in HoldsOf all a (answers perform_any all a) (after perform_any all a) b)

-- ---- the same of the functions

-- the calls were made one after the other: each answered, and left the arrays to the next, as its contract says
pub data Made : List CallOrRun → Arrays → List Answer → Arrays → Type 0 where
  none_made : {a : Arrays} → Made [] a [] a
  call_made : {c : Call} {cs : List CallOrRun} {a y z : Arrays} {x : Answer} {xs : List Answer}
      → Performs c a.words a.speeds x y.words y.speeds → Made cs y xs z → Made (single c ∷ cs) a (x ∷ xs) z
  run_made : {survey : List ℕ} {cs : List CallOrRun} {a y z : Arrays} {x : Answer} {xs : List Answer}
      → PerformsRun survey a.words a.speeds x y.words y.speeds → Made cs y xs z → Made (run survey ∷ cs) a (x ∷ xs) z

-- for all calls that were made, the first of them a Start that was accepted
abbrev pub Demand3Made : Type 0
Demand3Made =
    (file mvs speeds queues : List ℕ) (cs : List CallOrRun) (a : Arrays) (xs : List Answer) (z : Arrays) (b : Book)
    → (let all : List CallOrRun = single (start file mvs speeds queues) ∷ cs in Made all a (accepted ∷ xs) z → HoldsOf all a (accepted ∷ xs) z b)
