-- Over a line the outflows of a segment, each times 3600 × L, and the last b are the sum of N × s × T and the first b.
use Prim.Native.Nat.{ℕ, ◌+◌, ◌-◌, ◌*◌, ◌%◌, ◌<◌}
use native.Mathlib.Nat.{add-mul, div-add-mod', div-eq_of_lt-le, mod-lt}
use native.Mathlib.Omega.{arith}
use mathlib.Core.Path.{◌≡◌, refl, sym, ap}
use mathlib.Core.List.{List, [], ◌∷◌}
use Rattle.format.specs.Network.{Network, entry_of, segment_of}
use Rattle.metanet.specs.declared.SignSetting.{SignSetting}
use Rattle.metanet.specs.declared.Ramp.{Ramp}
use Rattle.metanet.specs.declared.SegmentState.{SegmentState}
use Rattle.metanet.specs.Case.{Case, state_of}
use Rattle.metanet.specs.Step.{outflow_now, remainder_now, new_state, step_state, step_on, step_case}
use Rattle.metanet.specs.Line.{signed, metered, stepped, Line, change, case_of}
use Rattle.metanet.specs.Fractions.{remainder_at, outflow_at, product_at, over_steps, NothingLost}
use Rattle.metanet.proofs.Balance.{new_is}
use Rattle.metanet.specs.Change.{sign_for, ramp_for, with_state}
use Rattle.metanet.proofs.CaseParts.{reset, set_keeps}

module _ (w : Network) (i : ℕ) (l : i < w.head.size) where
  abbrev D : ℕ
  D = 3600 * (segment_of w i).metres

  -- in a step one division gives both: its whole part, and what that leaves
  step_makes : (c : Case) (ds : List ℕ) → remainder_at (step_case w c ds) i ≡ (product_at w i c + remainder_at c i) % D
  unfolding step_on step_state new_state remainder_now
  step_makes c ds = ap (λ (r : SegmentState). r.flows.remainder) (new_is w.head (entry_of w) (segment_of w) c.states c.steps ds i l)

  step_carries : (c : Case) (ds : List ℕ) → outflow_at w i c * D + remainder_at (step_case w c ds) i ≡ product_at w i c + remainder_at c i
  unfolding outflow_now
  step_carries c ds = omega (arith, step_makes c ds, div-add-mod' (product_at w i c + remainder_at c i) D)

  step_below : (c : Case) (ds : List ℕ) → 0 < D → remainder_at (step_case w c ds) i < D
  step_below c ds some = omega (arith, step_makes c ds, mod-lt (product_at w i c + remainder_at c i) some)

  -- signs and meters leave b
  reset_leaves : (c : Case) (k : ℕ) (sign : SignSetting) (ramp : Ramp) → remainder_at (with_state c k (reset (state_of c.states k) sign ramp)) i ≡ remainder_at c i
  reset_leaves c k sign ramp = set_keeps (λ r. r.flows.remainder ≡ remainder_at c i) c.states k i (reset (state_of c.states k) sign ramp) (λ e. e) refl

  -- over the line m from the case c
  record Carried (c : Case) (m : Line) : Type 0 where
    all : over_steps w (outflow_at w i) c m * D + remainder_at (case_of w c m) i ≡ over_steps w (product_at w i) c m + remainder_at c i
    below : remainder_at (case_of w c m) i < D

  carried : (c : Case) (m : Line) → remainder_at c i < D → Carried c m
  unfolding over_steps case_of change
  carried c [] small = record { all = omega arith; below = small }
  carried c (signed k limit compliance ∷ m) small =
      let leaves = reset_leaves c (k - 1) (sign_for limit compliance) (state_of c.states (k - 1)).ramp in
      let next = carried (change w c (signed k limit compliance)) m (omega (arith, small, leaves)) in
      record { all = omega (arith, next.all, leaves); below = next.below }
  carried c (metered k setting ∷ m) small =
      let leaves = reset_leaves c (k - 1) (state_of c.states (k - 1)).sign (ramp_for (segment_of w (k - 1)).most setting) in
      let next = carried (change w c (metered k setting)) m (omega (arith, small, leaves)) in
      record { all = omega (arith, next.all, leaves); below = next.below }
  carried c (stepped ds ∷ m) small =
      let next = carried (step_case w c ds) m (step_below c ds (omega (arith, small))) in
      record {
        all = omega (arith, next.all, step_carries c ds, add-mul (outflow_at w i c) (over_steps w (outflow_at w i) (step_case w c ds) m) D);
        below = next.below;
      }

pub nothing_lost : NothingLost
nothing_lost w c l i within small =
    let it = carried w i within c l small in
    sym (div-eq_of_lt-le (3600 * (segment_of w i).metres) (omega (arith, it.all)) (omega (arith, it.all, it.below)))
