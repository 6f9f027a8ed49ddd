-- The loop that steps a case's states in place: its invariant, and what a turn makes of it.
use Prim.Native.Nat.{ℕ, suc, ◌+◌, ◌-◌, ◌*◌, ◌≤◌, ◌<◌}
use native.Mathlib.Nat.{le_trans, le_of_eq, add-zero, one-mul, le_antisymm}
use native.Mathlib.Numerals.{add-one}
use native.Mathlib.Omega.{arith}
use mathlib.Core.Path.{◌≡◌, refl, sym, ap, ◌∙◌}
use mathlib.Core.Bool.{Bool, true, false, cond, not, ◌&&◌, ◌||◌}
use mathlib.Core.List.{List, ◌∷◌, ◌++◌}
use lib.ListN.{length, take, drop, set, get_or, length-drop, length-take, replicate, get_or-replicate}
use lib.Seq.{take-take, get_or-drop, drop-drop, set_split, length-take-le}
use lib.Dec.{eqb, ltb}
use lib.Ieee.{Float, nan}
use Rattle.laws.specs.Lists.{part, puts}
use Rattle.laws.proofs.Puts.{puts_none, length-puts, take-puts, drop-puts, puts_more}
use Rattle.laws.specs.First.{some_below}
use Rattle.laws.specs.Real.{real, ◌⊘◌}
use Rattle.format.specs.declared.Head.{Head}
use Rattle.format.specs.declared.Segment.{Segment}
use Rattle.format.specs.Network.{has_before}
use Rattle.format.proofs.Accepted.{FollowingWithin}
use Rattle.format.specs.Words.{head_in, entry_in, segment_in}
use Rattle.metanet.specs.declared.Entry.{Entry}
use Rattle.metanet.specs.declared.SegmentState.{SegmentState}
use Rattle.metanet.specs.Case.{state_of}
use Rattle.metanet.specs.Flow.{exit_part}
use Rattle.metanet.specs.Speed.{area}
use Rattle.metanet.specs.Junction.{reaching, gathered, entry_speed, density_ahead}
use Rattle.metanet.specs.Step.{density, desired_speed, origin_bound, outflow_now, new_state, first_way, second_way, out_at, rest_at, first_at, second_at, entering, passed_to, density_at, inflow, upstream, downstream, step_state, exit_now}
use Rattle.metanet.specs.Words.{net_of, state_in, state_at, states_in}
use Rattle.metanet.proofs.InWords.{stepped_words, step_state_in, new_words, new_speeds, step_words, step_speeds}
use Rattle.metanet.proofs.Ready.{Ready, NextOk, AheadOk, NewStateOk, next_in, after_in, neighbours_in, new_state_in}
use Rattle.metanet.proofs.Sending.{thousandths}
use Rattle.metanet.proofs.Entries.{no_entry, blank, High, gathered_none, gathered_all, enter, stands_none, Are, ahead_ext}
use Rattle.metanet.proofs.SoundLaws.{state_read}
use Rattle.metanet.proofs.SegmentLaws.{SegmentIn, segment_ok, area_ok, through_at_most_count, outflow_at_most_count, exit_le}
use Rattle.metanet.proofs.StateWords.{length-stepped}

-- what enters number d from the segments below k, of the case in ws and vs
abbrev pub entering_in : List ℕ → List Float → ℕ → ℕ → ℕ → ℕ → ℕ → Entry
entering_in ws vs at from n d k = entering (head_in (net_of ws)) (entry_in (net_of ws)) (segment_in (net_of ws)) (states_in ws vs at from n) d k

abbrev pub exit_in : List ℕ → List Float → ℕ → ℕ → ℕ → ℕ → ℕ
exit_in ws vs at from n i = exit_now (head_in (net_of ws)) (entry_in (net_of ws)) (segment_in (net_of ws)) (states_in ws vs at from n) i

-- what the first i segments pass on, gathered in an array
pub record Gathered (ws : List ℕ) (vs : List Float) (at from n i : ℕ) (acc : List Entry) : Type 0 where
  pub long : length acc ≡ 41
  pub are : Are (2 * i) acc (λ d. entering_in ws vs at from n d i)

-- ---- the invariant: the first i states are new, the others old; what the first i segments pass on is gathered, of the old case
pub record Turn (ws : List ℕ) (vs : List Float) (ds : List ℕ) (at from n t : ℕ) (words : List ℕ) (speeds : List Float) (i : ℕ) (acc : List Entry) : Type 0 where
  pub within : i ≤ n
  pub words_are : words ≡ puts 16 (new_words ws vs at from n t ds) at i ws
  pub speeds_are : speeds ≡ puts 1 (new_speeds ws vs at from n t ds) from i vs
  pub entries : Gathered ws vs at from n i acc

module _ {ws : List ℕ} {vs : List Float} {ds : List ℕ} {at from n : ℕ} (ok : Ready ws vs ds at from n) where
  -- the words of state k after the step, and its speed
  abbrev state-words : ℕ → ℕ → List ℕ
  state-words t = new_words ws vs at from n t ds

  abbrev state-speeds : ℕ → ℕ → List Float
  state-speeds t = new_speeds ws vs at from n t ds

  -- the old case
  abbrev hd : Head
  hd = head_in (net_of ws)

  abbrev en : ℕ → ℕ → ℕ
  en = entry_in (net_of ws)

  abbrev sg : ℕ → Segment
  sg = segment_in (net_of ws)

  abbrev old : List SegmentState
  old = states_in ws vs at from n

  pub state_is : (i : ℕ) → i < n → state_of (states_in ws vs at from n) i ≡ state_at ws vs at from i
  state_is i h = state_read ws vs at from n i h

  pub at_size : (i : ℕ) → i < n → i < (head_in (net_of ws)).size
  at_size i h = omega (arith, ok.size)

  pub size_high : n ≤ 40
  size_high = omega (arith, ok.size, ok.net.head.size_high)

  pub segment_at_lem : (i : ℕ) → i < n → SegmentIn (net_of ws) i
  segment_at_lem i h = segment_ok ok.net i (at_size i h)

  pub words-each : (t k : ℕ) → k < n → length (state-words t k) ≡ 16
  words-each t k h = length-stepped _ _ ∙ simp (length-take, length-drop) (omega (arith, ok.room))

  pub speeds-each : (t k : ℕ) → k < n → length (state-speeds t k) ≡ 1
  speeds-each t k h = refl

  pub speeds-room : from + 1 * n ≤ length vs
  speeds-room = omega (arith, ok.speed_room)

  -- ---- what is read of the segments after i

  -- a follower's count, in the words from state i on
  next_count : (i k : ℕ) → i + 1 < k → get_or (drop (at + 16 * i) ws) (16 * (k - 1 - i)) 0 ≡ get_or (drop (at + 16 * (k - 1)) ws) 0 0
  next_count i k l = get_or-drop (at + 16 * i) ws (16 * (k - 1 - i)) 0 ∙ ap (λ (m : ℕ). get_or ws m 0) (omega (arith, l)) ∙ sym (get_or-drop (at + 16 * (k - 1)) ws 0 0)

  next_is : (i k : ℕ) → i + 1 < k → k ≤ n → next_in (net_of ws) (drop (at + 16 * i) ws) i k ≡ density_at hd en sg old k
  unfolding density state_in
  next_is i k l h = simp (state_is (k - 1) (omega arith), next_count i k l)

  next_ok : (i k : ℕ) → i + 1 < k → k ≤ n → NextOk (net_of ws) (drop (at + 16 * i) ws) i k
  unfolding state_in
  next_ok i k l h =
      let last : k - 1 < n = omega arith in
      record {
        long = le_of_eq (sym (length-take-le 2560 ws (omega (arith, ok.past, ok.room))));
        higher = l;
        small = omega (arith, size_high);
        room = simp length-drop (omega (arith, ok.room));
        count = le_trans (le_of_eq (next_count i k l)) (ok.state (k - 1) last).count;
        area_ok = area_ok (segment_at_lem (k - 1) last);
      }

  onward_at : (i : ℕ) → i < n → FollowingWithin hd.size i (sg i).following
  onward_at i h = ok.net.onward i (at_size i h)

  after_is : (i : ℕ) → i < n → after_in (net_of ws) (drop (at + 16 * i) ws) i (sg i) (state_at ws vs at from i).count ≡ downstream hd en sg old i
  unfolding after_in downstream density
  after_is i h =
      let o = onward_at i h in
      ahead_ext (sg i).following (end (state_at ws vs at from i)) (next_in (net_of ws) (drop (at + 16 * i) ws) i) (density_at hd en sg old)
      (λ p. next_is i (sg i).following.first (o.first_higher p) (omega (arith, o.first_high, ok.size)))
      (λ p. next_is i (sg i).following.second (o.second_higher p) (omega (arith, o.second_high, ok.size)))
      ∙ (λ j. density_ahead (sg i).following (end (sym (state_is i h) j)) (density_at hd en sg old))
    where
      end : SegmentState → Float
      end r = cond (ltb r.count ((sg i).critical * area (sg i))) (real r.count ⊘ real (area (sg i))) (real (sg i).critical)

  -- ---- what the segments pass on

  out_le : (k : ℕ) → k < n → out_at hd en sg old k ≤ 1000000000000
  out_le k h = rw (state_is k h) (le_trans (outflow_at_most_count (segment_at_lem k h) (ok.state k h).flowing) (ok.state k h).count)

  pub rest_le : (k : ℕ) → k < n → rest_at hd en sg old k ≤ 1000000000000
  rest_le k h = rw (state_is k h) (le_trans (through_at_most_count (segment_at_lem k h) (ok.state k h).flowing) (ok.state k h).count)

  sent-le : (k : ℕ) → k < n → (first_at hd en sg old k ≤ 1000000000000) × (second_at hd en sg old k ≤ 1000000000000) × (out_at hd en sg old k ≤ 1000000000000)
  sent-le k h =
      (omega (arith, thousandths (rest_at hd en sg old k) (sg k).following.share (segment_at_lem k h).share_high, rest_le k h), omega (arith, rest_le k h), out_le k h)

  -- ---- before the first turn
  pub turn_none : (t : ℕ) {acc : List Entry} → acc ≡ replicate 41 no_entry → Turn ws vs ds at from n t ws vs 0 acc
  turn_none t e =
      record {
        within = omega arith;
        words_are = sym (puts_none 16 (state-words t) at n ws (words-each t) ok.room);
        speeds_are = sym (puts_none 1 (state-speeds t) from n vs (speeds-each t) speeds-room);
        entries = record {
          long = ap length e;
          are = λ d h. stands_none d (ap (λ (l : List Entry). get_or l d blank) e ∙ get_or-replicate 41 d no_entry blank h) (gathered_none _ _ _ _ _ _ d);
        };
      }

  -- ---- in a turn
  module _ {t : ℕ} {words : List ℕ} {speeds : List Float} {i : ℕ} {acc : List Entry} (u : Turn ws vs ds at from n t words speeds i acc) where
    same_words : length words ≡ length ws
    same_words = ap length u.words_are ∙ length-puts 16 (state-words t) at n ws (words-each t) ok.room i u.within

    same_speeds : length speeds ≡ length vs
    same_speeds = ap length u.speeds_are ∙ length-puts 1 (state-speeds t) from n vs (speeds-each t) speeds-room i u.within

    pub lengths : (length words ≡ length ws) × (length speeds ≡ length vs)
    lengths = (same_words, same_speeds)

    pub net_same : net_of words ≡ net_of ws
    net_same =
        sym (take-take 2560 at words ok.past)
        ∙ ap (take 2560) (ap (take at) u.words_are ∙ take-puts 16 (state-words t) at n ws (words-each t) ok.room i)
        ∙ take-take 2560 at ws ok.past

    rest_same : drop (at + 16 * i) words ≡ drop (at + 16 * i) ws
    rest_same = ap (drop (at + 16 * i)) u.words_are ∙ drop-puts 16 (state-words t) at n ws (words-each t) ok.room i u.within

    speeds_rest : drop (from + 1 * i) speeds ≡ drop (from + 1 * i) vs
    speeds_rest = ap (drop (from + 1 * i)) u.speeds_are ∙ drop-puts 1 (state-speeds t) from n vs (speeds-each t) speeds-room i u.within

    speed_same : get_or speeds (from + i) nan ≡ get_or vs (from + i) nan
    speed_same = first speeds ∙ ap (λ (l : List Float). get_or l 0 nan) speeds_rest ∙ sym (first vs)
      where
        first : (l : List Float) → get_or l (from + i) nan ≡ get_or (drop (from + 1 * i) l) 0 nan
        first l = simp (get_or-drop, one-mul, add-zero)

    -- ---- what is computed from the words as they are now is what the old case gives
    -- what left so far, passed on to none
    pub gone_high : (get_or acc 0 blank).passed ≤ 80000000000000
    gone_high = omega (arith, (u.entries.are 0 (omega arith)).high.passed_high, u.within, size_high)

    pub gone_is : n ≤ i → (get_or acc 0 blank).passed ≡ passed_to hd en sg old 0
    unfolding gathered
    gone_is end =
        (u.entries.are 0 (omega arith)).passed
        ∙ ap (λ (k : ℕ). reaching (first_way hd en sg) (second_way hd en sg) (first_at hd en sg old) (second_at hd en sg old) k 0) (le_antisymm u.within end ∙ ok.size)

    module _ (h : i < n) where
      -- all that enters segment i has been gathered
      entry_is : get_or acc (i + 1) blank ≡ entering_in ws vs at from n (suc i) hd.size
      entry_is =
          (u.entries.are (i + 1) (omega (arith, size_high))).same (omega arith)
          ∙ ap (λ (d : ℕ). entering_in ws vs at from n d i) (add-one i)
          ∙ sym (gathered_all (first_way hd en sg) (second_way hd en sg) (first_at hd en sg old) (second_at hd en sg old) (out_at hd en sg old) (λ k. (state_of old k).speed) (λ k. (sg k).following.share) ok.net.onward i hd.size (omega (arith, ok.size)) (omega arith))

      high_all : High (get_or acc (i + 1) blank) (2 * i)
      high_all = (u.entries.are (i + 1) (omega (arith, size_high))).high

      passed_is : (get_or acc (i + 1) blank).passed ≡ inflow hd en sg old i
      unfolding inflow gathered
      passed_is = ap (λ (e : Entry). e.passed) entry_is

      pub own_speed : get_or speeds (from + i) nan ≡ (state_of old i).speed
      unfolding state_in
      own_speed = speed_same ∙ ap (λ (x : SegmentState). x.speed) (sym (state_is i h))

      -- none entered exactly where there is no segment before
      begins_is : has_before sg hd.size i ≡ not (eqb (get_or acc (i + 1) blank).segments 0)
      unfolding has_before gathered
      begins_is =
          ap (λ (d : ℕ). some_below (λ k. eqb (sg k).following.first d || eqb (sg k).following.second d) hd.size) (add-one i)
          ∙ enter (first_way hd en sg) (second_way hd en sg) (first_at hd en sg old) (second_at hd en sg old) (out_at hd en sg old) (λ k. (state_of old k).speed) hd.size (suc i)
          ∙ ap (λ (e : Entry). not (eqb e.segments 0)) (sym entry_is)

      main_is : eqb (get_or acc (i + 1) blank).segments 0 ≡ not (has_before sg hd.size i)
      main_is = sym (twice (eqb (get_or acc (i + 1) blank).segments 0)) ∙ ap not (sym begins_is)
        where
          twice : (t : Bool) → not (not t) ≡ t
          twice true = refl
          twice false = refl

      ahead_ok : AheadOk (net_of ws) (drop (at + 16 * i) ws) i (sg i).following
      ahead_ok =
          let o = onward_at i h in
          record {
            first = λ p. next_ok i (sg i).following.first (o.first_higher p) (omega (arith, o.first_high, ok.size));
            second = λ p. next_ok i (sg i).following.second (o.second_higher p) (omega (arith, o.second_high, ok.size));
          }

      pub new_state_ok : NewStateOk words (at + 16 * i) (get_or speeds (from + i) nan) (get_or ds i 0) i (get_or acc (i + 1) blank)
      new_state_ok =
          record {
            place = record {
              net = rw net_same ok.net;
              long = omega (arith, same_words, ok.past, ok.room);
              more = rw net_same (at_size i h);
              room = omega (arith, same_words, ok.room);
              ahead = rw (net_same, rest_same) ahead_ok;
              state = rw (net_same, rest_same, speed_same) (ok.state i h);
            };
            arrival = ok.arrival i h;
            passed = omega (arith, high_all.passed_high, size_high);
            entry = omega (arith, high_all.outflows_high, size_high);
          }

      fresh_is : new_state_in (net_of words) (drop (at + 16 * i) words) (get_or speeds (from + i) nan) (get_or ds i 0) i t (get_or acc (i + 1) blank) ≡ step_state_in ws vs at from n t ds i
      unfolding new_state_in neighbours_in step_state upstream
      fresh_is =
          (λ j. new_state_in (net_same j) (rest_same j) (speed_same j) (get_or ds i 0) i t (get_or acc (i + 1) blank))
          ∙ (λ j. new_state hd (sg i) (en (sg i).curve 0) (own j) t (get_or ds i 0) (eqb (sg i).origin 1 && sym begins_is j)
          (record {
            passed = passed_is j;
            before = entry_speed (entry_is j) (own j).speed;
            after = after_is i h j;
            want = desired_speed (en (sg i).curve) (sg i) (own j);
            bound = origin_bound (main_is j) hd (en (sg i).curve) (sg i) (own j);
          }))
        where
          own : state_at ws vs at from i ≡ state_of old i
          own = sym (state_is i h)

    -- ---- after the last turn
    pub turn_end : n ≤ i → (words ≡ step_words ws vs at from n t ds) × (speeds ≡ step_speeds ws vs at from n t ds)
    turn_end h =
        let e : i ≡ n = omega (arith, u.within) in
        (u.words_are ∙ ap (λ (m : ℕ). puts 16 (state-words t) at m ws) e, u.speeds_are ∙ ap (λ (m : ℕ). puts 1 (state-speeds t) from m vs) e)

    -- ---- the stores of a turn that made the state r
    module _ (h : i < n) {r : SegmentState} (f : r ≡ new_state_in (net_of words) (drop (at + 16 * i) words) (get_or speeds (from + i) nan) (get_or ds i 0) i t (get_or acc (i + 1) blank)) where
      is_new : r ≡ step_state_in ws vs at from n t ds i
      is_new = f ∙ fresh_is h

      stored : {k : ℕ} {ys : List ℕ} → k ≡ 16 → ys ≡ stepped_words (part (at + 16 * i) k words) r
          → take (at + 16 * i) words ++ (ys ++ drop k (drop (at + 16 * i) words)) ≡ puts 16 (state-words t) at (i + 1) ws
      stored {k} {ys} s y =
          (λ j. take (at + 16 * i) (u.words_are j) ++ (state_part j ++ rest j))
          ∙ puts_more 16 (state-words t) at n ws (words-each t) ok.room i h
          ∙ ap (λ (m : ℕ). puts 16 (state-words t) at m ws) (sym (add-one i))
        where
          state_part : ys ≡ state-words t i
          state_part = y ∙ (λ j. stepped_words (take (s j) (rest_same j)) (is_new j))

          rest : drop k (drop (at + 16 * i) words) ≡ drop (at + 16 * i + 16) (puts 16 (state-words t) at i ws)
          rest = ap (λ (m : ℕ). drop m (drop (at + 16 * i) words)) s ∙ drop-drop 16 (at + 16 * i) words ∙ ap (drop (at + 16 * i + 16)) u.words_are

      pub out_high : r.flows.outflow ≤ 1000000000000
      unfolding step_state new_state
      out_high =
          rw is_new (rw (state_is i h) (le_trans (outflow_at_most_count (segment_at_lem i h) (ok.state i h).flowing) (ok.state i h).count))

      pub pass_ok : ((2560 ≤ length words) × (i < 40) × (r.flows.outflow ≤ 1000000000000)) × ((segment_in (net_of words) i).exit ≤ 1000)
      pass_ok = ((omega (arith, same_words, ok.past, ok.room), omega (arith, size_high), out_high), rw net_same (segment_at_lem i h).exit_high)

      pub out_is : r.flows.outflow ≡ outflow_now (head_in (net_of ws)) (segment_in (net_of ws) i) (state_of (states_in ws vs at from n) i)
      unfolding step_state new_state
      out_is = ap (λ (x : SegmentState). x.flows.outflow) is_new

      -- what does not pass on leaves by the exit
      pub exit_is : {pass : ℕ} → pass ≡ r.flows.outflow - exit_part r.flows.outflow (segment_in (net_of words) i).exit → r.flows.outflow - pass ≡ exit_in ws vs at from n i
      exit_is {pass} q =
          back r.flows.outflow (exit_part r.flows.outflow (segment_in (net_of words) i).exit) pass (exit_le r.flows.outflow (segment_in (net_of words) i).exit pass_ok.1) q
          ∙ (λ j. exit_part (out_is j) (segment_in (net_same j) i).exit)
        where
          back : (o x y : ℕ) → x ≤ o → y ≡ o - x → o - y ≡ x
          back o x y a b = omega arith

      speeds_many : set speeds (from + i) r.speed ≡ puts 1 (state-speeds t) from (i + 1) vs
      speeds_many =
          set_split speeds (from + i) r.speed (omega (arith, same_speeds, ok.speed_room))
          ∙ (λ j. take (from + one j) (u.speeds_are j) ++ ((is_new j).speed ∷ drop (step j) (u.speeds_are j)))
          ∙ puts_more 1 (state-speeds t) from n vs (speeds-each t) speeds-room i h
          ∙ ap (λ (m : ℕ). puts 1 (state-speeds t) from m vs) (sym (add-one i))
        where
          one : i ≡ 1 * i
          one = omega arith

          step : suc (from + i) ≡ from + 1 * i + 1
          step = omega arith

      pub turn_next : {k : ℕ} {ys : List ℕ} {after : List Entry} → k ≡ 16 → ys ≡ stepped_words (part (at + 16 * i) k words) r → Gathered ws vs at from n (i + 1) after
          → Turn ws vs ds at from n t (take (at + 16 * i) words ++ (ys ++ drop k (drop (at + 16 * i) words))) (set speeds (from + i) r.speed) (i + 1) after
      turn_next s y g =
          record {
            within = omega arith;
            words_are = stored s y;
            speeds_are = speeds_many;
            entries = g;
          }
