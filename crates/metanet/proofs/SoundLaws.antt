-- What the soundness of a case says.
use Prim.Native.Nat.{ℕ, ◌+◌, ◌*◌, ◌≤◌, ◌<◌}
use mathlib.Core.Path.{◌≡◌, refl, sym, ap, ◌∙◌, subst}
use mathlib.Core.Bool.{Bool, true, false, cond, not, ◌||◌}
use mathlib.Core.List.{List}
use native.Mathlib.Omega.{arith}
use native.Mathlib.Nat.{add-zero, le_of_eq}
use lib.Seq.{get_or-drop}
use lib.Dec.{T, ltb, eqb}
use lib.ListN.{length, get_or}
use lib.Ieee.{Float, le}
use borrow.Author.Tests.{ltb-false, leb-false, eqb-true, not-false}
use Rattle.laws.specs.First.{outside, row, first, first_of}
use Rattle.laws.specs.Real.{real}
use Rattle.laws.specs.Sums.{sum_of}
use Rattle.laws.proofs.First.{row_passed, row_later, first_some, first_zero, first_zero_left, first_zero_right, first_of-zero, first_of_ext}
use Rattle.laws.proofs.Sums.{sum_ext}
use Rattle.laws.proofs.Lists.{get_or-table}
use Rattle.format.specs.Words.{head_in, entry_in, segment_in}
use Rattle.laws.proofs.Tests.{or_left, or_right, and_left, and_right, any_of_false, inside_low, inside_high}
use Rattle.format.specs.declared.Segment.{Segment}
use Rattle.metanet.specs.declared.SignSetting.{SignSetting}
use Rattle.metanet.specs.declared.Ramp.{Ramp}
use Rattle.metanet.specs.declared.SegmentState.{SegmentState}
use Rattle.metanet.specs.Case.{no_state, state_of, alinea_kind}
use Rattle.metanet.specs.Step.{vehicles_in, free_speed, on_ramp}
use Rattle.metanet.specs.Words.{net_of, state_in, state_at, states_in, case_in}
use Rattle.metanet.proofs.InWords.{mean_number, mean_number_in}
use Rattle.metanet.proofs.Settings.{by_kind}
use Rattle.metanet.proofs.Ready.{SignOk, RampOk, StateOk, CaseAt, Ready, TotalsOk, vehicles_at}
use Rattle.metanet.specs.Sound.{sum_most, summed_most, sign_bad, has_alinea, open_bad, fixed_bad, alinea_bad, setting_bad, average_bad, flows_bad, speed_bad, state_bad, totals_bad, state_number, case_number, arrival_number, step_number}

pub state_read : (words : List ℕ) (speeds : List Float) (at from n i : ℕ) → i < n → state_of (states_in words speeds at from n) i ≡ state_at words speeds at from i
unfolding states_in
state_read words speeds at from n i h = get_or-table (state_at words speeds at from) n i no_state h

-- the mv of a case, read in the words
pub vehicles_are : (words : List ℕ) (speeds : List Float) (at from n i : ℕ) → i < n → vehicles_at words at i ≡ vehicles_in (states_in words speeds at from n) i
unfolding state_in
vehicles_are words speeds at from n i l = simp (state_read words speeds at from n i l, get_or-drop, add-zero)

pub vehicles-sum : (words : List ℕ) (speeds : List Float) (at from n : ℕ) → sum_of (vehicles_at words at) n ≡ sum_of (vehicles_in (states_in words speeds at from n)) n
vehicles-sum words speeds at from n = sum_ext (vehicles_at words at) (vehicles_in (states_in words speeds at from n)) n (vehicles_are words speeds at from n)

-- S and m, read in the words
mean_is : (words : List ℕ) (speeds : List Float) (at from n i : ℕ) → i < n → mean_number_in words at i ≡ mean_number (states_in words speeds at from n) i
unfolding state_in mean_number
mean_is words speeds at from n i l = simp (state_read words speeds at from n i l, get_or-drop)

pub means_first : (words : List ℕ) (speeds : List Float) (at from n : ℕ) → first_of (mean_number_in words at) n ≡ first_of (mean_number (states_in words speeds at from n)) n
means_first words speeds at from n = first_of_ext (mean_number_in words at) (mean_number (states_in words speeds at from n)) n (mean_is words speeds at from n)

-- ---- what a state that is not bad says

truth : {b : Bool} → b ≡ true → T b
truth e = subst T (sym e) tt

sign_ok : (r : SignSetting) → sign_bad r ≡ false → SignOk r
unfolding sign_bad
sign_ok r z = pick (eqb r.limit 0) refl z
  where
    pick : (b : Bool) → eqb r.limit 0 ≡ b → cond b (ltb 0 r.compliance) (outside 20 r.limit 200 || ltb 1000 r.compliance) ≡ false → SignOk r
    pick true e z = record { limit = omega (arith, eqb-true r.limit 0 e); compliance = omega (arith, ltb-false 0 r.compliance z) }
    pick false e z =
        record {
          limit = inside_high 20 r.limit 200 (or_left (outside 20 r.limit 200) _ z);
          compliance = ltb-false 1000 r.compliance (or_right (outside 20 r.limit 200) _ z);
        }

module _ (q : ℕ) (r : Ramp) (mean : average_bad r.sum r.summed ≡ false) where
  sum-le : r.sum ≤ sum_most
  unfolding average_bad
  sum-le = ltb-false _ _ (or_left (ltb sum_most r.sum) _ mean)

  summed_le : r.summed ≤ summed_most
  unfolding average_bad
  summed_le = ltb-false _ _ (or_right (ltb sum_most r.sum) _ mean)

  -- of a setting that is not ALINEA's
  plain : has_alinea r ≡ false → r.rate ≤ q → (r.kind ≡ alinea_kind → ⊥) → RampOk q r
  unfolding has_alinea
  plain z rate other =
      let no = any_of_false _ z in
      record {
        rate = rate;
        target = omega (arith, ltb-false 0 r.target (no 0));
        gain = omega (arith, ltb-false 0 r.gain (no 1));
        least = omega (arith, ltb-false 0 r.least (no 2));
        interval = λ e. absurd (other e);
        sum = sum-le;
        summed = summed_le;
      }

  open_ok : (r.kind ≡ alinea_kind → ⊥) → open_bad q r ≡ false → RampOk q r
  unfolding open_bad
  open_ok other z = plain (or_left (has_alinea r) _ z) (le_of_eq (eqb-true r.rate q (not-false _ (or_right (has_alinea r) (not (eqb r.rate q)) z)))) other

  fixed_ok : (r.kind ≡ alinea_kind → ⊥) → fixed_bad q r ≡ false → RampOk q r
  unfolding fixed_bad
  fixed_ok other z = plain (or_left (has_alinea r) _ z) (ltb-false _ _ (or_right (has_alinea r) (ltb q r.rate) z)) other

  alinea_ok : alinea_bad q r ≡ false → RampOk q r
  unfolding alinea_bad
  alinea_ok z =
      let no = any_of_false _ z in
      record {
        rate = inside_high r.least r.rate q (no 4);
        target = inside_high 1 r.target 199 (no 0);
        gain = inside_high 1 r.gain 60000 (no 1);
        least = ltb-false _ _ (no 2);
        interval = λ e. inside_low 1 r.interval 60 (no 3);
        sum = sum-le;
        summed = summed_le;
      }

  ramp_ok : (m : Bool) → setting_bad m q r ≡ false → RampOk q r
  ramp_ok m z =
      by_kind m q r z (λ e f. open_ok (λ o. omega (arith, e, o)) f) (λ may e f. fixed_ok (λ o. omega (arith, e, o)) f) (λ may e f. alinea_ok f)

pub state_ok : (s : Segment) (r : SegmentState) (m : Bool) (f : ℕ) → state_bad m s f r ≡ false → StateOk s f r
unfolding state_bad flows_bad speed_bad
state_ok s r m f z =
    let no = any_of_false _ z in
    let flows = any_of_false _ (no 2) in
    let speed = not-false _ (no 4) in
    record {
      count = ltb-false _ _ (no 0);
      queue = ltb-false _ _ (no 1);
      sign = sign_ok r.sign (no 3);
      ramp = ramp_ok s.most r.ramp (no 6) m (no 5);
      flowing = record {
        speed = record {
          low = truth (and_left (le (real 1000) r.speed) (le r.speed (real f)) speed);
          high = truth (and_right (le (real 1000) r.speed) (le r.speed (real f)) speed);
        };
        remainder = leb-false _ _ (flows 2);
      };
    }

-- ---- what a sound case says

module _ {words : List ℕ} {speeds : List Float} {at from n : ℕ} (at_place : CaseAt words speeds at from n) where
  abbrev net : List ℕ
  net = net_of words

  abbrev states : List SegmentState
  states = states_in words speeds at from n

  -- state i, where it passed
  pub state-sound : (i : ℕ) → i < n → state_number (head_in net) (entry_in net) (segment_in net) states i ≡ 0
      → StateOk (segment_in net i) (entry_in net (segment_in net i).curve 0) (state_at words speeds at from i)
  unfolding state_number
  state-sound i l z =
      let h = head_in net in
      let e = entry_in net in
      let s = segment_in net in
      rw (state_read words speeds at from n i l) at (state_ok (s i) (state_of states i) (on_ramp h e s i) (free_speed h e s i) (row_passed _ _ _ z))

  module _ (z : first_of (state_number (head_in net) (entry_in net) (segment_in net) states) n ≡ 0) where
    pub states-sound : (i : ℕ) → i < n → StateOk (segment_in net i) (entry_in net (segment_in net i).curve 0) (state_at words speeds at from i)
    states-sound i l = state-sound i l (first_of-zero _ n z i l)

    pub vehicles-each : (i : ℕ) → i < n → vehicles_at words at i ≤ 2000000000000
    vehicles-each i l = rw (vehicles_are words speeds at from n i l) (rw (state_read words speeds at from n i l) (omega (arith, (states-sound i l).count, (states-sound i l).queue)))

    -- the totals' place holds the case's totals
    pub totals-sound : row (totals_bad (sum_of (vehicles_in states) n) (get_or words (at + 16 * n) 0) (get_or words (at + 16 * n + 1) 0) (get_or words (at + 16 * n + 2) 0) (get_or words (at + 16 * n + 3) 0)) 12 0 ≡ 0
        → TotalsOk words (at + 16 * n)
    unfolding totals_bad
    totals-sound q =
        let no = any_of_false _ (row_passed _ _ _ q) in
        record {
          room = at_place.room;
          steps = ltb-false _ _ (no 4);
          arrivals = omega (arith, ltb-false 1000000000000 (get_or words (at + 16 * n + 1) 0) (no 1));
          exits = omega (arith, ltb-false 1000000000000 (get_or words (at + 16 * n + 2) 0) (no 2));
          time = ltb-false _ _ (no 3);
        }

  -- ---- the case's number, by the code's two tests
  abbrev in_states : ℕ
  in_states = first_of (state_number (head_in net) (entry_in net) (segment_in net) states) n

  abbrev in_totals : ℕ → ℕ
  in_totals held = row (totals_bad held (get_or words (at + 16 * n) 0) (get_or words (at + 16 * n + 1) 0) (get_or words (at + 16 * n + 2) 0) (get_or words (at + 16 * n + 3) 0)) 12 0

  abbrev number : ℕ
  number = case_number (head_in net) (entry_in net) (segment_in net) (case_in words speeds at from n)

  number_is : number ≡ first in_states (in_totals (sum_of (vehicles_in states) n))
  unfolding case_number case_in
  number_is =
      λ j. first (first_of (state_number (head_in net) (entry_in net) (segment_in net) states) (sym at_place.size j))
      (row (totals_bad (sum_of (vehicles_in states) (sym at_place.size j)) (get_or words (at + 16 * n) 0) (get_or words (at + 16 * n + 1) 0) (get_or words (at + 16 * n + 2) 0) (get_or words (at + 16 * n + 3) 0)) 12 0)

  pub case_states : {r : ℕ} → r ≡ in_states → (r ≡ 0 → ⊥) → r ≡ number
  case_states e some = e ∙ sym (number_is ∙ first_some _ _ (λ z. some (e ∙ z)))

  pub case_totals : {r held : ℕ} → in_states ≡ 0 → held ≡ sum_of (vehicles_at words at) n → r ≡ in_totals held → r ≡ number
  case_totals z is e = e ∙ ap in_totals (is ∙ vehicles-sum words speeds at from n) ∙ sym (number_is ∙ first_zero _ _ z)

  -- what a sound case says of its states and totals
  module _ (z : number ≡ 0) where
    states-zero : in_states ≡ 0
    states-zero = first_zero_left _ _ (sym number_is ∙ z)

    pub case_state : (i : ℕ) → i < n → StateOk (segment_in net i) (entry_in net (segment_in net i).curve 0) (state_at words speeds at from i)
    case_state = states-sound states-zero

    pub case_total : TotalsOk words (at + 16 * n)
    case_total = totals-sound states-zero (first_zero_right in_states _ (sym number_is ∙ z))

    -- and with arrivals that no row refuses, a step of it can be made
    module _ (steps : ℕ) (ds : List ℕ) (q : step_number (head_in net) (entry_in net) (segment_in net) steps ds ≡ 0) where
      many : length ds ≡ n
      unfolding step_number
      many = eqb-true _ _ (not-false _ (row_passed _ _ _ q)) ∙ sym at_place.size

      arrival : (i : ℕ) → i < n → get_or ds i 0 ≤ 1000000
      unfolding step_number arrival_number
      arrival i l =
          let all = first_of-zero (arrival_number (head_in net) (entry_in net) (segment_in net) ds) _ (first_zero_left _ _ (row_later _ _ _ q)) i (omega (arith, at_place.size)) in
          ltb-false _ _ (or_left (ltb 1000000 (get_or ds i 0)) _ (row_passed _ _ _ all))

      pub case_ready : Ready words speeds ds at from n
      case_ready =
          record {
            net = at_place.net;
            size = at_place.size;
            past = at_place.past;
            room = omega (arith, at_place.room);
            speed_room = at_place.speed_room;
            arrivals = many;
            state = case_state;
            arrival = arrival;
          }
