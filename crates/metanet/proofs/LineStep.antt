-- A step that its call permits keeps what holds of the line.
use Prim.Native.Nat.{ℕ, ◌*◌, ◌≤◌}
use native.Mathlib.Nat.{mul-le-mul}
use native.Mathlib.Omega.{arith}
use mathlib.Core.Path.{◌≡◌, refl, sym, ◌∙◌}
use mathlib.Core.List.{List, [], ◌∷◌, ◌++◌}
use Rattle.laws.proofs.Lists.{length-table}
use Rattle.format.specs.declared.Head.{Head}
use Rattle.format.specs.Network.{Network, entry_of, segment_of}
use Rattle.format.proofs.Accepted.{RowsWithin}
use Rattle.metanet.specs.Case.{Case, state_of}
use Rattle.metanet.specs.Step.{step_state, step_states, step_on, total_of}
use Rattle.metanet.specs.Sound.{step_number}
use Rattle.metanet.proofs.StepSound.{came_le, steps_left, moved, new_state_lem, new_ramp}
use Rattle.metanet.proofs.Average.{averaged_step}
use Rattle.metanet.proofs.CaseSound.{case_state}
use Rattle.metanet.specs.Line.{stepped, Line, change, case_of, steps_of, handed_in, let_out}
use Rattle.metanet.proofs.Good.{Good}
use Rattle.metanet.proofs.Lines.{net_within, total_le, Changed, AveragedBy, good_more}

-- ---- the line with the step

module _ {w : Network} {s : Case} {l : Line} (g : Good w s l) (ds : List ℕ) (z : step_number w.head (entry_of w) (segment_of w) (steps_of l) ds ≡ 0) where
  abbrev h : Head
  h = w.head

  abbrev c : Case
  c = case_of w s l

  within : RowsWithin h (entry_of w) (segment_of w)
  within = net_within g.net

  spent : h.step * total_of w c ≤ 60 * 800168000000
  spent = mul-le-mul within.head.step_high (total_le g)

  step_changes : Changed w c (stepped ds)
  unfolding change handed_in let_out step_on step_states
  step_changes =
      record {
        many = length-table (step_state h (entry_of w) (segment_of w) c.states c.steps ds) h.size ∙ sym g.many;
        states = new_state_lem within c g.is_sound ds (omega (arith, moved within c g.is_sound ds, total_le g, came_le within ds (steps_of l) z));
        steps = refl;
        arrivals = refl;
        exits = refl;
        total = moved within c g.is_sound ds;
        came = came_le within ds (steps_of l) z;
        time = omega (arith, spent);
      }

  -- S and m
  step_averages : AveragedBy w s l (stepped ds)
  unfolding change step_on
  step_averages k m =
      let old = case_state h (entry_of w) (segment_of w) c g.is_sound k m in
      rw (new_ramp within c g.is_sound ds k m, g.steps_are)
      (averaged_step _ _ _ old.setting (g.averages k m) (segment_of w k) (state_of c.states k).count old.count)

  pub good_step : Good w s (l ++ (stepped ds ∷ []))
  good_step = good_more g (stepped ds) step_changes step_averages (omega (arith, steps_left within ds (steps_of l) z))
