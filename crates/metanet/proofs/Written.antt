-- The words that Start, a sign, a setting and a step write are those with the case put in.
use Prim.Native.Nat.{ℕ, ◌+◌, ◌-◌, ◌*◌, ◌≤◌, ◌<◌}
use mathlib.Core.Path.{◌≡◌, refl, sym, ap, ◌∙◌, subst}
use mathlib.Core.Bool.{Bool, true, false}
use mathlib.Core.List.{List, ◌∷◌, ◌++◌}
use native.Mathlib.Nat.{add_assoc}
use native.Mathlib.Omega.{arith}
use lib.Dec.{eqb, lit<}
use lib.IntN.{ℤ}
use lib.ListN.{length, take, drop, get_or, set, length-set, take-append-drop, replicate, length-replicate}
use lib.Seq.{take_at, take-append-le, drop_at, drop-drop, drop-append-le, drop-set-lt, length-take-le}
use lib.Ieee.{Float, nan}
use borrow.Author.Tests.{eqb-true, eqb-false}
use Rattle.laws.specs.Lists.{part, put_part, parts}
use Rattle.laws.specs.Sums.{sum_of}
use Rattle.laws.proofs.Lists.{length_part, parts_ext, take-replicate, drop-replicate}
use Rattle.laws.proofs.Puts.{puts_at}
use Rattle.laws.proofs.Outside.{SameOutside, same_all, same_within, take_same, put_same, part_put, puts_same, part_before}
use Rattle.format.specs.Words.{network_in}
use Rattle.metanet.specs.declared.SegmentState.{SegmentState}
use Rattle.metanet.specs.declared.Setting.{Setting}
use Rattle.metanet.specs.Case.{Case, alinea_kind, state_of}
use Rattle.metanet.specs.Change.{signed_state, metered_state, with_state}
use Rattle.metanet.specs.Step.{vehicles_in, step_case}
use Rattle.metanet.specs.Words.{net_of, state_in, states_in, case_in, put_state, put_case, put_case_speeds}
use Rattle.metanet.proofs.InWords.{state_words, signed_words, metered_words, stepped_words, new_words, new_speeds, step_words, totals_words, leaving, step_case_words, step_case_speeds, words_used}
use Rattle.metanet.proofs.Ready.{Ready, TotalsOk}
use Rattle.metanet.proofs.StateWords.{state-take, length-signed, length-metered, state-signed, state-metered}
use Rattle.metanet.proofs.SoundLaws.{state_read}
use Rattle.metanet.proofs.CaseParts.{state_put, state_put_same, words_other}
use Rattle.metanet.proofs.Turns.{words-each, speeds-each, speeds-room}
use Rattle.metanet.proofs.OneStep.{steps_the_case}
use Rattle.metanet.proofs.Put.{SameButCase, put_there, put_speeds_there}

-- ---- the free words stay

-- a store before place m leaves what is from there on
past : (m i : ℕ) → i < m → (l : List ℕ) (x : ℕ) → drop m (set l i x) ≡ drop m l
past m i h l x = drop-set-lt m l i x h

free_signed : (limit : ℕ) (compliance : ℤ) (w : List ℕ) → drop words_used (signed_words limit compliance w) ≡ drop words_used w
unfolding signed_words
free_signed limit compliance w = simp (past words_used 2 (lit< tt), past words_used 3 (lit< tt))

free_metered : (q : ℕ) (setting : Setting) (w : List ℕ) → drop words_used (metered_words q setting w) ≡ drop words_used w
unfolding metered_words
free_metered q setting w =
    simp (past words_used 4 (lit< tt), past words_used 5 (lit< tt), past words_used 6 (lit< tt), past words_used 7 (lit< tt), past words_used 8 (lit< tt), past words_used 9 (lit< tt), past words_used 12 (lit< tt), past words_used 13 (lit< tt))

free_stepped : (w : List ℕ) (r : SegmentState) → drop words_used (stepped_words w r) ≡ drop words_used w
unfolding stepped_words
free_stepped w r = go (eqb r.ramp.kind alinea_kind) refl
  where
    go : (b : Bool) → eqb r.ramp.kind alinea_kind ≡ b → drop words_used (stepped_words w r) ≡ drop words_used w
    go true e = simp (e, past words_used 0 (lit< tt), past words_used 1 (lit< tt), past words_used 5 (lit< tt), past words_used 10 (lit< tt), past words_used 11 (lit< tt), past words_used 12 (lit< tt), past words_used 13 (lit< tt), past words_used 14 (lit< tt))
    go false e = simp (e, past words_used 0 (lit< tt), past words_used 1 (lit< tt), past words_used 5 (lit< tt), past words_used 10 (lit< tt), past words_used 11 (lit< tt), past words_used 14 (lit< tt))

free_totals : (w : List ℕ) (came left time : ℕ) → drop 4 (totals_words w came left time) ≡ drop 4 w
unfolding totals_words
free_totals w came left time = simp (past 4 0 (lit< tt), past 4 1 (lit< tt), past 4 2 (lit< tt), past 4 3 (lit< tt))

-- ---- a case of n segments is put over zeros: the words after front, which are at words long

module _ (c : Case) (n : ℕ) (front rest : List ℕ) (at : ℕ) (wide : length front ≡ at) where
  abbrev zeros : List ℕ
  zeros = replicate (16 * n + 8) 0

  abbrev bare : List ℕ
  bare = front ++ (zeros ++ rest)

  from_zero : (k : ℕ) → k ≤ 16 * n + 8 → drop (at + k) bare ≡ replicate (16 * n + 8 - k) 0 ++ rest
  from_zero k l =
      sym (drop-drop k at bare) ∙ ap (drop k) (drop_at front (zeros ++ rest) at wide) ∙ drop-replicate 0 k (16 * n + 8) rest l

  state_zeros : (i : ℕ) → i < n → part (at + 16 * i) 16 bare ≡ replicate 16 0
  state_zeros i l =
      let long : 16 ≤ 16 * n + 8 - 16 * i = omega arith in
      ap (take 16) (from_zero (16 * i) (omega arith))
      ∙ take-append-le 16 (replicate (16 * n + 8 - 16 * i) 0) rest (rw length-replicate long)
      ∙ take-replicate 0 16 (16 * n + 8 - 16 * i) long

  totals_zeros : drop (at + 16 * n + 4) bare ≡ replicate 4 0 ++ rest
  totals_zeros =
      let four : 16 * n + 8 - (16 * n + 4) ≡ 4 = omega arith in
      ap (λ (m : ℕ). drop m bare) (add_assoc at (16 * n) 4)
      ∙ from_zero (16 * n + 4) (omega arith)
      ∙ ap (λ (m : ℕ). replicate m 0 ++ rest) four

  pub case_begun : put_case at n c bare ≡ front ++ (parts (λ i. state_words (state_of c.states i)) n ++ (c.steps ∷ c.arrivals ∷ c.exits ∷ c.time ∷ (replicate 4 0 ++ rest)))
  unfolding put_case state_words
  case_begun =
      λ j. take_at front (zeros ++ rest) at wide j
      ++ (parts_ext _ (λ i. state_words (state_of c.states i)) n (λ i l. ap (put_state (state_of c.states i)) (state_zeros i l)) j
      ++ (c.steps ∷ c.arrivals ∷ c.exits ∷ c.time ∷ totals_zeros j))

-- ---- state i is written, counted from 0

module _ (words : List ℕ) (speeds : List Float) (at from n i : ℕ) (h : i < n) (room : at + 16 * n + 8 ≤ length words) (speed_room : from + n ≤ length speeds) where
  abbrev c : Case
  c = case_in words speeds at from n

  abbrev place : ℕ
  place = at + 16 * i

  abbrev old : List ℕ
  old = part place 16 words

  states-room : at + 16 * n ≤ length words
  states-room = omega (arith, room)

  there : place + 16 ≤ length words
  there = omega (arith, room)

  old_many : length old ≡ 16
  old_many = length_part words place 16 there

  -- its words become ys, and so the state f of it
  module _ (ys : List ℕ) (f : SegmentState → SegmentState) (many : length ys ≡ 16) (is : (v : Float) → state_in ys v ≡ f (state_in old v)) (free : drop words_used ys ≡ drop words_used old) where
    abbrev new : List ℕ
    new = put_part place 16 ys words

    abbrev changed : Case
    changed = with_state c i (f (state_of c.states i))

    case_is : case_in new speeds at from n ≡ changed
    unfolding case_in
    case_is =
        state_put words speeds at from n i ys h many states-room
        ∙ ap (with_state c i)
        (is (get_or speeds (from + i) nan)
        ∙ ap f (state-take (drop place words) (get_or speeds (from + i) nan) ∙ sym (state_read words speeds at from n i h)))

    free_same : (j : ℕ) → drop words_used (part (at + 16 * j) 16 new) ≡ drop words_used (part (at + 16 * j) 16 words)
    free_same j = go (eqb j i) refl
      where
        go : (t : Bool) → eqb j i ≡ t → drop words_used (part (at + 16 * j) 16 new) ≡ drop words_used (part (at + 16 * j) 16 words)
        go true e =
            let here = eqb-true j i e in
            ap (λ (k : ℕ). drop words_used (part (at + 16 * k) 16 new)) here
            ∙ ap (drop words_used) (part_put place 16 ys words many there)
            ∙ free
            ∙ ap (λ (k : ℕ). drop words_used (part (at + 16 * k) 16 words)) (sym here)
        go false e = ap (drop words_used) (words_other words speeds at from n i ys h many states-room j (eqb-false j i e))

    same : SameButCase at n words new
    same =
        record {
          outside = same_within (state_put_same words speeds at from n i ys h many states-room) at (at + 16 * n + 4) (omega arith) (omega arith);
          free = λ j l. free_same j;
        }

    state_written : put_case at n changed words ≡ new
    state_written = put_there new speeds at from n case_is same room

    speeds_stay : put_case_speeds from n changed speeds ≡ speeds
    speeds_stay = put_speeds_there new speeds at from n case_is (same_all from (from + n) speeds) speed_room

  module _ (limit : ℕ) (compliance : ℤ) where
    abbrev signed_case : Case
    signed_case = with_state c i (signed_state limit compliance (state_of c.states i))

    pub sign_written : put_case at n signed_case words ≡ put_part place 16 (signed_words limit compliance old) words
    sign_written =
        state_written (signed_words limit compliance old) (signed_state limit compliance) (length-signed limit compliance old ∙ old_many)
        (λ v. state-signed old v old_many limit compliance) (free_signed limit compliance old)

    pub sign_speeds : put_case_speeds from n signed_case speeds ≡ speeds
    sign_speeds =
        speeds_stay (signed_words limit compliance old) (signed_state limit compliance) (length-signed limit compliance old ∙ old_many)
        (λ v. state-signed old v old_many limit compliance) (free_signed limit compliance old)

  module _ (q : ℕ) (setting : Setting) where
    abbrev metered_case : Case
    metered_case = with_state c i (metered_state q setting (state_of c.states i))

    pub meter_written : put_case at n metered_case words ≡ put_part place 16 (metered_words q setting old) words
    meter_written =
        state_written (metered_words q setting old) (metered_state q setting) (length-metered q setting old ∙ old_many)
        (λ v. state-metered old v old_many q setting) (free_metered q setting old)

    pub meter_speeds : put_case_speeds from n metered_case speeds ≡ speeds
    meter_speeds =
        speeds_stay (metered_words q setting old) (metered_state q setting) (length-metered q setting old ∙ old_many)
        (λ v. state-metered old v old_many q setting) (free_metered q setting old)

-- ---- a step is taken

module _ {words : List ℕ} {speeds : List Float} {ds : List ℕ} {at from n : ℕ} (ok : Ready words speeds ds at from n) (tot : TotalsOk words (at + 16 * n)) where
  abbrev e : ℕ
  e = at + 16 * n

  abbrev t : ℕ
  t = get_or words e 0

  abbrev made : List ℕ
  made = step_words words speeds at from n t ds

  abbrev after : List ℕ
  after = step_case_words words speeds at from n ds

  abbrev stepped : Case
  stepped = step_case (network_in (net_of words)) (case_in words speeds at from n) ds

  made_same : SameOutside at e words made
  made_same = puts_same 16 (new_words words speeds at from n t ds) at n words (words-each ok t) ok.room

  made_room : e + 8 ≤ length made
  made_room = omega (arith, made_same.long, tot.room)

  abbrev totals : List ℕ
  totals = totals_words (part e 8 words) (sum_of (λ i. get_or ds i 0) n) (leaving words speeds at from n) (get_or words 0 0 * sum_of (vehicles_in (states_in words speeds at from n)) n)

  length-totals : length totals ≡ 8
  unfolding totals_words
  length-totals = simp length-set (length_part words e 8 tot.room)

  totals_same : SameOutside e (e + 8) made after
  totals_same =
      subst (λ (r : List ℕ). SameOutside e (e + 8) made (take e made ++ (totals ++ r))) (sym (drop-drop 8 e made)) (put_same e 8 totals made length-totals made_room)

  -- the totals' free words and all after them
  after_same : drop (e + 4) after ≡ drop (e + 4) words
  after_same =
      let kept : drop 4 totals ≡ drop 4 (part e 8 words) = free_totals (part e 8 words) _ _ _ in
      sym (drop-drop 4 e after)
      ∙ ap (drop 4) (drop_at (take e made) (totals ++ drop 8 (drop e made)) e (length-take-le e made (omega (arith, made_room))))
      ∙ drop-append-le 4 totals (drop 8 (drop e made)) (omega (arith, length-totals))
      ∙ (λ j. kept j ++ drop 8 (made_same.after j))
      ∙ sym (drop-append-le 4 (part e 8 words) (drop 8 (drop e words)) (omega (arith, length_part words e 8 tot.room)))
      ∙ ap (drop 4) (take-append-drop 8 (drop e words))
      ∙ drop-drop 4 e words

  state-words : (i : ℕ) → i < n → part (at + 16 * i) 16 after ≡ new_words words speeds at from n t ds i
  state-words i l =
      part_before totals_same (at + 16 * i) 16 (omega arith)
      ∙ puts_at 16 (new_words words speeds at from n t ds) at n words (words-each ok t) ok.room i l

  step_same : SameButCase at n words after
  step_same =
      record {
        outside =
            record {
              long = totals_same.long ∙ made_same.long;
              before = take_same totals_same at (omega arith) ∙ made_same.before;
              after = after_same;
            };
        free = λ i l. ap (drop words_used) (state-words i l) ∙ free_stepped (part (at + 16 * i) 16 words) _;
      }

  step_back : case_in after (step_case_speeds words speeds at from n ds) at from n ≡ stepped
  step_back = steps_the_case words speeds ds at from n ok tot

  speeds_same : SameOutside from (from + n) speeds (step_case_speeds words speeds at from n ds)
  speeds_same =
      same_within (puts_same 1 (new_speeds words speeds at from n t ds) from n speeds (speeds-each ok t) (speeds-room ok))
      from (from + n) (omega arith) (omega arith)

  pub step_written : put_case at n stepped words ≡ after
  step_written = put_there after (step_case_speeds words speeds at from n ds) at from n step_back step_same tot.room

  pub step_speeds_written : put_case_speeds from n stepped speeds ≡ step_case_speeds words speeds at from n ds
  step_speeds_written = put_speeds_there after (step_case_speeds words speeds at from n ds) at from n step_back speeds_same ok.speed_room
