-- Without queues and arrivals a step takes at least its outflows from P, so at least K where it begins busy; signs and meters leave P as it is.
use Prim.Native.Nat.{ℕ, zero, suc, ◌+◌, ◌-◌, ◌*◌, ◌≤◌, ◌<◌}
use native.Mathlib.Nat.{add-mul}
use native.Mathlib.Omega.{arith}
use mathlib.Core.Path.{◌≡◌, refl, ap}
use mathlib.Core.Bool.{Bool, true, false, cond, ◌||◌}
use mathlib.Core.List.{List, [], ◌∷◌}
use lib.ListN.{get_or}
use borrow.Author.Tests.{leb-true}
use Rattle.laws.specs.First.{some_below}
use Rattle.laws.specs.Sums.{sum_of}
use Rattle.laws.proofs.Sums.{sum_ext, sum_term}
use Rattle.format.specs.Network.{Network, entry_of, segment_of, rows_number}
use Rattle.format.proofs.Accepted.{RowsWithin}
use Rattle.format.proofs.Rows.{rows_within}
use Rattle.metanet.specs.declared.SignSetting.{SignSetting}
use Rattle.metanet.specs.declared.Ramp.{Ramp}
use Rattle.metanet.specs.declared.SegmentState.{SegmentState}
use Rattle.metanet.specs.Case.{Case, state_of}
use Rattle.metanet.specs.Step.{free_speed, outflow_now, new_state, step_state, step_on, step_case}
use Rattle.metanet.specs.Change.{sign_for, ramp_for, with_state}
use Rattle.metanet.specs.Line.{signed, metered, stepped, Line, change, handed_in, arrivals_of}
use Rattle.metanet.proofs.Ready.{SegmentOk, Flowing}
use Rattle.metanet.proofs.CaseParts.{reset, set_keeps}
use Rattle.metanet.proofs.SegmentLaws.{segment_ok, outflow_at_least}
use Rattle.metanet.proofs.Balance.{new, released_waits, new_is, new_flowing, moves}
use Rattle.metanet.proofs.StepSound.{states_ok}
use Rattle.emptying.specs.LongestWay.{longest_way}
use Rattle.emptying.specs.Emptying.{p_of, busy_at, busy, busy_steps, Emptying}
use Rattle.emptying.proofs.Falls.{falls}

-- terms of which each that passes a test is at least k add up to k, where one passes
some_adds : (k : ℕ) (test : ℕ → Bool) (f : ℕ → ℕ) (n : ℕ) → ((i : ℕ) → i < n → test i ≡ true → k ≤ f i) → cond (some_below test n) 1 0 * k ≤ sum_of f n
unfolding some_below sum_of
some_adds k test f zero h = omega arith
some_adds k test f (suc n) h = go (some_below test n) (test n) refl (some_adds k test f n (λ i l. h i (omega arith)))
  where
    go : (s t : Bool) → test n ≡ t → cond s 1 0 * k ≤ sum_of f n → cond (s || t) 1 0 * k ≤ sum_of f n + f n
    go true t e l = omega (arith, l)
    go false true e l = omega (arith, h n (omega arith) e)
    go false false e l = omega (arith, l)

module _ (w : Network) (z : rows_number w.head (entry_of w) (segment_of w) ≡ 0) where
  abbrev n : ℕ
  n = w.head.size

  abbrev F : ℕ → ℕ
  F i = free_speed w.head (entry_of w) (segment_of w) i

  abbrev way : ℕ → ℕ
  way i = longest_way (segment_of w) n i

  rows : RowsWithin w.head (entry_of w) (segment_of w)
  rows = rows_within w.head (entry_of w) (segment_of w) z

  ok : (i : ℕ) → i < n → SegmentOk w.head (segment_of w i) (F i)
  ok = segment_ok rows

  -- what a line begins with and every item keeps, a step of a case that is not sound included
  record Calm (c : Case) : Type 0 where
    flowing : (i : ℕ) → i < n → Flowing (segment_of w i) (F i) (state_of c.states i)
    empty : (i : ℕ) → i < n → (state_of c.states i).queue ≡ 0

  -- ---- a sign or a meter at place k

  module _ (c : Case) (k : ℕ) (sign : SignSetting) (ramp : Ramp) where
    abbrev old : SegmentState
    old = state_of c.states k

    abbrev changed : SegmentState
    changed = reset old sign ramp

    reset_calm : Calm c → Calm (with_state c k changed)
    reset_calm a =
        record {
          flowing = λ i l. set_keeps (λ r. Flowing (segment_of w i) (F i) r) c.states k i changed (λ f. record { speed = f.speed; remainder = f.remainder }) (a.flowing i l);
          empty = λ i l. set_keeps (λ r. r.queue ≡ 0) c.states k i changed (λ e. e) (a.empty i l);
        }

    reset_same : p_of w (with_state c k changed) ≡ p_of w c
    unfolding p_of
    reset_same =
        sum_ext _ (λ i. (state_of c.states i).count * way i) n
        (λ i l. set_keeps (λ r. r.count * way i ≡ (state_of c.states i).count * way i) c.states k i changed (λ e. e) refl)

  -- ---- a step

  module _ (c : Case) (ds : List ℕ) (none : sum_of (λ i. get_or ds i 0) n ≡ 0) (a : Calm c) where
    abbrev out : ℕ → ℕ
    out i = outflow_now w.head (segment_of w i) (state_of c.states i)

    is_new : (i : ℕ) → i < n → state_of (step_case w c ds).states i ≡ new w.head (entry_of w) (segment_of w) c.states c.steps ds i
    unfolding step_on
    is_new = new_is w.head (entry_of w) (segment_of w) c.states c.steps ds

    none_came : (i : ℕ) → i < n → get_or ds i 0 ≡ 0
    none_came i l = omega (arith, sum_term (λ i. get_or ds i 0) n i l, none)

    step_calm : Calm (step_case w c ds)
    unfolding step_on step_state new_state
    step_calm =
        record {
          flowing = new_flowing w.head (entry_of w) (segment_of w) c.states c.steps ds ok;
          empty = λ i l. rw (is_new i l) (omega (arith, a.empty i l, none_came i l));
        }

    -- P afterwards and all outflows are at most P before
    step_falls : p_of w (step_case w c ds) + sum_of out n ≤ p_of w c
    unfolding p_of
    step_falls =
        let less = falls (segment_of w) n rows.onward (moves w.head (entry_of w) (segment_of w) c.states c.steps ds ok a.flowing)
        (λ i l. omega (arith, released_waits w.head (entry_of w) (segment_of w) c.states c.steps ds i, a.empty i l, none_came i l)) in
        let same = sum_ext (λ i. (state_of (step_case w c ds).states i).count * way i) _ n (λ i l. ap (λ (r : SegmentState). r.count * way i) (is_new i l)) in
        omega (arith, less, same)

    -- by at least K where it begins busy
    step_takes : (K : ℕ) → p_of w (step_case w c ds) + cond (busy w K c) 1 0 * K ≤ p_of w c
    unfolding busy
    step_takes K =
        let lets = some_adds K (busy_at w K c) out n (λ i l e. outflow_at_least (ok i l) (a.flowing i l) K (leb-true _ _ e)) in
        omega (arith, lets, step_falls)

  -- ---- a line

  spent : (K : ℕ) (c : Case) (l : Line) → Calm c → arrivals_of w l ≡ 0 → busy_steps w K c l * K ≤ p_of w c
  unfolding busy_steps arrivals_of handed_in change
  spent K c [] a none = omega arith
  spent K c (signed i limit compliance ∷ l) a none =
      let sign = sign_for limit compliance in
      let ramp = (state_of c.states (i - 1)).ramp in
      omega (arith, spent K _ l (reset_calm c (i - 1) sign ramp a) (omega (arith, none)), reset_same c (i - 1) sign ramp)
  spent K c (metered i setting ∷ l) a none =
      let sign = (state_of c.states (i - 1)).sign in
      let ramp = ramp_for (segment_of w (i - 1)).most setting in
      omega (arith, spent K _ l (reset_calm c (i - 1) sign ramp a) (omega (arith, none)), reset_same c (i - 1) sign ramp)
  spent K c (stepped ds ∷ l) a none =
      let here : sum_of (λ i. get_or ds i 0) n ≡ 0 = omega (arith, none) in
      let rest = spent K (step_case w c ds) l (step_calm c ds here a) (omega (arith, none)) in
      omega (arith, rest, step_takes c ds here a K, add-mul (cond (busy w K c) 1 0) (busy_steps w K (step_case w c ds) l) K)

pub emptying : Emptying
emptying w c l K z sound empty none = spent w z K c l (record { flowing = λ i m. (states_ok w.head (entry_of w) (segment_of w) c sound i m).flowing; empty = empty }) none
