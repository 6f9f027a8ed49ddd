-- A step of a whole case: states and totals.
use Prim.Native.Nat.{ℕ, ◌+◌, ◌*◌, ◌≤◌, ◌<◌}
use native.Mathlib.Nat.{le_trans, le_of_eq, add-zero, mul-le-mul}
use native.Mathlib.Omega.{arith}
use mathlib.Core.Path.{◌≡◌, sym, ap, ◌∙◌}
use mathlib.Core.List.{List, ◌++◌}
use lib.ListN.{length, take, drop, get_or, length-take, length-drop, length-set, take-append-drop, get_or-append}
use lib.Dec.{lit<}
use lib.Seq.{length-take-le, get_or-drop, get_or-take, get_or-append-add, drop-append-le, take-append-le}
use lib.Ieee.{Float, nan}
use Rattle.laws.specs.Lists.{part}
use Rattle.laws.specs.Sums.{sum_of}
use Rattle.laws.proofs.Lists.{table_ext, get_or-set_test, get_or-take_test}
use Rattle.laws.proofs.Puts.{length-puts, drop-puts}
use Rattle.format.specs.Words.{head_in, entry_in, segment_in}
use Rattle.metanet.specs.Step.{vehicles_in, step_on}
use Rattle.metanet.specs.Words.{net_of, state_in, state_at, states_in, case_in}
use Rattle.metanet.proofs.InWords.{new_words, step_words, totals_words, leaving, step_case_words, step_case_speeds}
use Rattle.metanet.proofs.Ready.{Ready, TotalsOk, vehicles_at}
use Rattle.metanet.proofs.Turns.{state_is, words-each}
use Rattle.metanet.proofs.SoundLaws.{vehicles_are, vehicles-sum}
use Rattle.metanet.proofs.StateWords.{state-take}
use Rattle.metanet.proofs.ReadBack.{states_back}

module _ {ws : List ℕ} {vs : List Float} {ds : List ℕ} {at from n : ℕ} (ok : Ready ws vs ds at from n) where
  pub vehicles_high : (i : ℕ) → i < n → vehicles_at ws at i ≤ 2000000000000
  vehicles_high i h = rw (vehicles_are ws vs at from n i h) (rw (state_is ok i h) (omega (arith, (ok.state i h).count, (ok.state i h).queue)))

  step_is : (head_in (net_of ws)).step ≡ get_or ws 0 0
  unfolding head_in
  step_is = get_or-take 2560 ws 0 0 (lit< tt)

  pub spent_high : (held : ℕ) → held ≤ 80000000000000 → get_or ws 0 0 * held ≤ 4800000000000000
  spent_high held h = mul-le-mul (le_trans (le_of_eq (sym step_is)) ok.net.head.step_high) h

  pub made_length : (t : ℕ) → length (step_words ws vs at from n t ds) ≡ length ws
  made_length t = length-puts 16 (new_words ws vs at from n t ds) at n ws (words-each ok t) ok.room n (omega arith)

  rest_kept : (t : ℕ) → drop (at + 16 * n) (step_words ws vs at from n t ds) ≡ drop (at + 16 * n) ws
  rest_kept t = drop-puts 16 (new_words ws vs at from n t ds) at n ws (words-each ok t) ok.room n (omega arith)

-- ---- the totals are added to the words that a step of the states left

module _ {ws : List ℕ} {vs : List Float} {ds : List ℕ} {at from n : ℕ} (ok : Ready ws vs ds at from n) (tot : TotalsOk ws (at + 16 * n)) where
  abbrev e : ℕ
  e = at + 16 * n

  abbrev t : ℕ
  t = get_or ws e 0

  eight : length (part e 8 ws) ≡ 8
  eight = simp (length-take, length-drop) (omega (arith, tot.room))

  module _ {words : List ℕ} (made : words ≡ step_words ws vs at from n t ds) where
    totals_kept : (k : ℕ) → k ≡ 8 → part e k words ≡ part e 8 ws
    totals_kept k s = λ j. take (s j) ((ap (drop e) made ∙ rest_kept ok t) j)

    pub totals_ok : (k : ℕ) → k ≡ 8 → (length (part e k words) ≡ 8) × TotalsOk (part e k words) 0
    totals_ok k s =
        rw (totals_kept k s) (
          eight,
          record {
            room = omega (arith, eight);
            steps = simp (get_or-take_test, get_or-drop, add-zero) tot.steps;
            arrivals = simp (get_or-take_test, get_or-drop) tot.arrivals;
            exits = simp (get_or-take_test, get_or-drop) tot.exits;
            time = simp (get_or-take_test, get_or-drop) tot.time;
          },
        )

    pub case_made : {k came left held : ℕ} {ys : List ℕ} → k ≡ 8
        → came ≡ sum_of (λ i. get_or ds i 0) n → left ≡ leaving ws vs at from n → held ≡ sum_of (vehicles_at ws at) n
        → ys ≡ totals_words (part e k words) came left (get_or ws 0 0 * held)
        → take e words ++ (ys ++ drop k (drop e words)) ≡ step_case_words ws vs at from n ds
    case_made {k} s came left held y =
        λ j. take e (made j)
        ++ ((y ∙ (λ m. totals_words (totals_kept k s m) (came m) (left m) (get_or ws 0 0 * (held ∙ vehicles-sum ws vs at from n) m))) j
        ++ drop (s j) (drop e (made j)))

-- ---- the case that is read back is the step of the case that was there

-- the first 16 from place a, where they lie in the first list
first_state : (a : ℕ) (xs ys : List ℕ) → a + 16 ≤ length xs → part a 16 (xs ++ ys) ≡ part a 16 xs
first_state a xs ys h = ap (take 16) (drop-append-le a xs ys (omega arith)) ∙ take-append-le 16 (drop a xs) ys (simp length-drop (omega arith))

module _ {ws : List ℕ} {vs : List Float} {ds : List ℕ} {at from n : ℕ} (ok : Ready ws vs ds at from n) (tot : TotalsOk ws (at + 16 * n)) where
  abbrev made : List ℕ
  made = step_words ws vs at from n (t ok tot) ds

  abbrev after : List ℕ
  after = step_case_words ws vs at from n ds

  totals : List ℕ
  totals = totals_words (part (e ok tot) 8 ws) (sum_of (λ i. get_or ds i 0) n) (leaving ws vs at from n) (get_or ws 0 0 * sum_of (vehicles_in (states_in ws vs at from n)) n)

  front : length (take (e ok tot) made) ≡ e ok tot
  front = length-take-le (e ok tot) made (omega (arith, made_length ok (t ok tot), ok.room))

  size_totals : length totals ≡ 8
  unfolding totals totals_words
  size_totals = simp (length-set, eight ok tot)

  total_at : (k : ℕ) → k < 8 → get_or after (e ok tot + k) 0 ≡ get_or totals k 0
  unfolding totals
  total_at k h =
      ap (λ (m : ℕ). get_or after (m + k) 0) (sym front)
      ∙ get_or-append-add (take (e ok tot) made) (totals ++ drop 8 (drop (e ok tot) made)) k 0
      ∙ get_or-append totals (drop 8 (drop (e ok tot) made)) 0 k (omega (arith, size_totals))

  state_kept : (v : List Float) (i : ℕ) → i < n → state_at after v at from i ≡ state_at made v at from i
  state_kept v i h =
      let a = at + 16 * i in
      let w = get_or v (from + i) nan in
      sym (state-take (drop a after) w)
      ∙ ap (λ (x : List ℕ). state_in x w)
      (first_state a (take (e ok tot) made) _ (omega (arith, front))
      ∙ sym (first_state a (take (e ok tot) made) (drop (e ok tot) made) (omega (arith, front)))
      ∙ ap (λ (x : List ℕ). part a 16 x) (take-append-drop (e ok tot) made))
      ∙ state-take (drop a made) w

  states_are : states_in after (step_case_speeds ws vs at from n ds) at from n ≡ states_in made (step_case_speeds ws vs at from n ds) at from n
  unfolding states_in
  states_are = table_ext _ _ n (state_kept (step_case_speeds ws vs at from n ds))

  size_is : (head_in (net_of ws)).size ≡ n
  size_is = sym ok.size

  pub case_back : case_in after (step_case_speeds ws vs at from n ds) at from n ≡ step_on (head_in (net_of ws)) (entry_in (net_of ws)) (segment_in (net_of ws)) (case_in ws vs at from n) ds
  unfolding case_in step_on totals totals_words
  case_back = λ j. record {
    states = (states_are ∙ states_back ok (t ok tot)) j;
    steps = steps_is j;
    arrivals = arrivals_is j;
    exits = exits_is j;
    time = time_is j;
  }
    where
      long : length (part (e ok tot) 8 ws) ≡ 8
      long = eight ok tot

      steps_is : get_or after (at + 16 * n) 0 ≡ get_or ws (at + 16 * n) 0 + 1
      steps_is = ap (λ (m : ℕ). get_or after m 0) (sym (add-zero (at + 16 * n))) ∙ total_at 0 (omega arith) ∙ simp (get_or-set_test, length-set, long, get_or-take_test, get_or-drop, add-zero)

      arrivals_is : get_or after (at + 16 * n + 1) 0 ≡ get_or ws (at + 16 * n + 1) 0 + sum_of (λ i. get_or ds i 0) (head_in (net_of ws)).size
      arrivals_is = total_at 1 (omega arith) ∙ simp (get_or-set_test, length-set, long, get_or-take_test 8 (drop (at + 16 * n) ws), get_or-drop, size_is)

      exits_is : get_or after (at + 16 * n + 2) 0 ≡ get_or ws (at + 16 * n + 2) 0 + leaving ws vs at from n
      exits_is = total_at 2 (omega arith) ∙ simp (get_or-set_test, length-set, long, get_or-take_test 8 (drop (at + 16 * n) ws), get_or-drop)

      time_is : get_or after (at + 16 * n + 3) 0 ≡ get_or ws (at + 16 * n + 3) 0 + (head_in (net_of ws)).step * sum_of (vehicles_in (states_in ws vs at from n)) (head_in (net_of ws)).size
      time_is = total_at 3 (omega arith) ∙ simp (get_or-set_test, length-set, long, get_or-take_test 8 (drop (at + 16 * n) ws), get_or-drop, size_is, step_is ok)
