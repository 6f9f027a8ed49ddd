-- What is read back of the words and speeds that a step leaves: the states of the step.
use Prim.Native.Nat.{ℕ, ◌+◌, ◌*◌, ◌<◌}
use native.Mathlib.Omega.{arith}
use mathlib.Core.Path.{◌≡◌, sym, ap, ◌∙◌, subst}
use mathlib.Core.List.{List}
use lib.ListN.{length, drop, get_or, length-drop, length-take}
use lib.Seq.{get_or-drop, get_or-take}
use lib.Ieee.{Float, nan}
use Rattle.laws.specs.Lists.{table, part}
use Rattle.laws.proofs.Lists.{table_ext}
use Rattle.laws.proofs.Puts.{puts_at}
use Rattle.format.specs.Words.{head_in, entry_in, segment_in}
use Rattle.metanet.specs.declared.SegmentState.{SegmentState}
use Rattle.metanet.specs.Case.{state_of}
use Rattle.metanet.specs.Step.{new_state, step_state, step_states, free_speed, on_ramp, neighbours}
use Rattle.metanet.specs.Words.{net_of, state_in, state_at, states_in}
use Rattle.metanet.proofs.InWords.{stepped_words, step_state_in, new_words, new_speeds, step_words, step_speeds}
use Rattle.metanet.proofs.Ready.{Ready}
use Rattle.metanet.proofs.Turns.{state_is, words-each, speeds-each, speeds-room}
use Rattle.metanet.proofs.StateWords.{state-take, state-stepped}

module _ {ws : List ℕ} {vs : List Float} {ds : List ℕ} {at from n : ℕ} (ok : Ready ws vs ds at from n) (t : ℕ) where
  speed_back : (i : ℕ) → i < n → get_or (step_speeds ws vs at from n t ds) (from + i) nan ≡ (step_state_in ws vs at from n t ds i).speed
  speed_back i h =
      ap (λ (k : ℕ). get_or (step_speeds ws vs at from n t ds) k nan) (same i)
      ∙ sym (get_or-drop (from + 1 * i) (step_speeds ws vs at from n t ds) 0 nan)
      ∙ sym (get_or-take 1 (drop (from + 1 * i) (step_speeds ws vs at from n t ds)) 0 nan (omega arith))
      ∙ ap (λ (x : List Float). get_or x 0 nan) (puts_at 1 (new_speeds ws vs at from n t ds) from n vs (speeds-each ok t) (speeds-room ok) i h)
    where
      same : (i : ℕ) → from + i ≡ from + 1 * i + 0
      same i = omega arith

  -- state i's own words hold state i
  state_own : (i : ℕ) → i < n → state_in (part (at + 16 * i) 16 ws) (get_or vs (from + i) nan) ≡ state_of (states_in ws vs at from n) i
  state_own i h = state-take (drop (at + 16 * i) ws) (get_or vs (from + i) nan) ∙ sym (state_is ok i h)

  new_words_back : (i : ℕ) → i < n → let r = step_state_in ws vs at from n t ds i in state_in (new_words ws vs at from n t ds i) r.speed ≡ r
  unfolding step_state
  new_words_back i h =
      let w = part (at + 16 * i) 16 ws in
      let many : length w ≡ 16 = simp (length-take, length-drop) (omega (arith, ok.room)) in
      let new : SegmentState → SegmentState = λ r. new_state (head_in (net_of ws)) (segment_in (net_of ws) i) (free_speed (head_in (net_of ws)) (entry_in (net_of ws)) (segment_in (net_of ws)) i) r t (get_or ds i 0) (on_ramp (head_in (net_of ws)) (entry_in (net_of ws)) (segment_in (net_of ws)) i) (neighbours (head_in (net_of ws)) (entry_in (net_of ws)) (segment_in (net_of ws)) (states_in ws vs at from n) i) in
      subst (λ (r : SegmentState). state_in (stepped_words w (new r)) (new r).speed ≡ new r) (state_own i h) (state-stepped w (get_or vs (from + i) nan) many _ _ _ _ _ _ _)

  -- the state that is read back is the new state
  state_back : (i : ℕ) → i < n → state_at (step_words ws vs at from n t ds) (step_speeds ws vs at from n t ds) at from i ≡ step_state_in ws vs at from n t ds i
  state_back i h =
      sym (state-take (drop (at + 16 * i) (step_words ws vs at from n t ds)) (get_or (step_speeds ws vs at from n t ds) (from + i) nan))
      ∙ (λ j. state_in (puts_at 16 (new_words ws vs at from n t ds) at n ws (words-each ok t) ok.room i h j) (speed_back i h j))
      ∙ new_words_back i h

  -- a step of the words is a step of the states
  pub states_back : states_in (step_words ws vs at from n t ds) (step_speeds ws vs at from n t ds) at from n ≡ step_states (head_in (net_of ws)) (entry_in (net_of ws)) (segment_in (net_of ws)) (states_in ws vs at from n) t ds
  unfolding states_in step_states
  states_back =
      table_ext (state_at (step_words ws vs at from n t ds) (step_speeds ws vs at from n t ds) at from) (step_state_in ws vs at from n t ds) n state_back
      ∙ ap (table (step_state_in ws vs at from n t ds)) ok.size
