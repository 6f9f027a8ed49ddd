-- The queue after k steps is what w is above k × R; so the answer that the engine gives is one that the paper permits.
use Prim.Native.Nat.{ℕ, zero, suc, ◌-◌, ◌*◌, ◌/◌, ◌≤◌, ◌<◌, min, zero-le}
use mathlib.Core.Path.{◌≡◌, refl, sym, ap, ◌∙◌}
use mathlib.Core.Bool.{Bool, true, false}
use native.Mathlib.Nat.{mul-le-mul_right, lt-mul-div-succ, div-le_of_le-mul}
use native.Mathlib.Omega.{arith}
use lib.Dec.{eqb}
use borrow.Author.Tests.{eqb-true, eqb-false, eq-eqb, ne_eqb}
use Rattle.metanet.specs.Report.{segment_figures, reported_rate}
use Rattle.metanet.specs.Case.{state_of}
use Rattle.metanet.specs.Drain.{queue_after, never, in_steps, DrainsIn, Permitted, drain_steps, drain_time, drain_figures, DrainPermitted}

queue_after_lem : (rate queue k : ℕ) → queue_after rate queue k ≡ queue - k * rate
unfolding queue_after
queue_after_lem rate queue zero = omega arith
queue_after_lem rate queue (suc k) = ap (λ (left : ℕ). left - min rate left) (queue_after_lem rate queue k) ∙ omega arith

-- an empty queue stays empty: "after at most k" is after k
pub stays-empty : (rate queue k j : ℕ) → k ≤ j → queue_after rate queue k ≡ 0 → queue_after rate queue j ≡ 0
stays-empty rate queue k j l e = queue_after_lem rate queue j ∙ omega (arith, sym (queue_after_lem rate queue k) ∙ e, mul-le-mul_right rate l)

-- no permitted number is below the whole part of w ÷ R, so that it has at most one step to spare
pub at_least : (rate queue k : ℕ) → DrainsIn rate queue k → queue / rate ≤ k
at_least rate queue k d = div-le_of_le-mul rate (omega (arith, sym (queue_after_lem rate queue k) ∙ d.empty))

-- ---- the answer that the engine gives: without a queue, without a rate, with both
module _ (rate queue : ℕ) where
  pub time_none : queue ≡ 0 → drain_time rate queue ≡ in_steps 0
  unfolding drain_time
  time_none e = simp (eq-eqb queue 0 e)

  module _ (waits : queue ≡ 0 → ⊥) where
    pub time-never : rate ≡ 0 → drain_time rate queue ≡ never
    unfolding drain_time
    time-never e = simp (ne_eqb queue 0 waits, eq-eqb rate 0 e)

    module _ (some : rate ≡ 0 → ⊥) where
      pub time-steps : drain_time rate queue ≡ in_steps (drain_steps rate queue)
      unfolding drain_time
      time-steps = simp (ne_eqb queue 0 waits, ne_eqb rate 0 some)

      drains : DrainsIn rate queue (drain_steps rate queue)
      drains =
          let rated : 0 < rate = omega (arith, some) in
          record {
            not_never = λ n. some n.0;
            empty = queue_after_lem rate queue (drain_steps rate queue) ∙ omega (arith, lt-mul-div-succ queue rated);
            most = omega arith;
            none = λ e. absurd (waits e);
          }

  pub permitted : Permitted rate queue (drain_time rate queue)
  unfolding Permitted
  permitted = go (eqb queue 0) (eqb rate 0) refl refl
    where
      go : (t u : Bool) → eqb queue 0 ≡ t → eqb rate 0 ≡ u → Permitted rate queue (drain_time rate queue)
      go true u e f =
          let none = eqb-true queue 0 e in
          rw (time_none none) (record { not_never = λ n. omega (arith, n.1); empty = queue_after_lem rate queue 0 ∙ omega arith; most = zero-le; none = λ z. refl })
      go false true e f = rw (time-never (eqb-false queue 0 e) (eqb-true rate 0 f)) (eqb-true rate 0 f, omega (arith, eqb-false queue 0 e))
      go false false e f = rw (time-steps (eqb-false queue 0 e) (eqb-false rate 0 f)) (drains (eqb-false queue 0 e) (eqb-false rate 0 f))

pub drain_permitted : DrainPermitted
unfolding drain_figures segment_figures
drain_permitted w c i =
    let rate = reported_rate w c i in
    let queue = (state_of c.states i).queue in
    (drain_time rate queue, permitted rate queue, refl)
