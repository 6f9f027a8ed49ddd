-- One step over the arrays is one step of the case that they hold, and no vehicle is made or lost.
use Prim.Native.Nat.{ℕ, ◌+◌, ◌*◌, ◌<◌}
use mathlib.Core.Path.{◌≡◌, sym, ap, ◌∙◌}
use mathlib.Core.List.{List}
use native.Mathlib.Omega.{arith}
use lib.ListN.{get_or}
use lib.Ieee.{Float}
use Rattle.laws.specs.Sums.{sum_of}
use Rattle.format.specs.Network.{network_from}
use Rattle.format.specs.Words.{head_in, entry_in, segment_in, network_in}
use Rattle.metanet.specs.Case.{Case, state_of}
use Rattle.metanet.specs.Step.{vehicles_in, exits_now, step_states, step_on, step_case}
use Rattle.metanet.specs.Words.{net_of, states_in, case_in}
use Rattle.metanet.proofs.Ready.{StateOk, Ready}
use Rattle.metanet.proofs.Statements.{StepsTheCase, Balances}
use Rattle.metanet.proofs.Turns.{state_is, segment_at_lem}
use Rattle.metanet.proofs.CaseLaws.{case_back}
use Rattle.metanet.proofs.SameNetwork.{step_from}
use Rattle.metanet.proofs.Balance.{balance}

module _ {words : List ℕ} {speeds : List Float} {ds : List ℕ} {at from n : ℕ} (ok : Ready words speeds ds at from n) where
  abbrev net : List ℕ
  net = net_of words

  -- on the network's list of curves and segments as on its words
  pub step_on-words : (c : Case) → step_case (network_in net) c ds ≡ step_on (head_in net) (entry_in net) (segment_in net) c ds
  step_on-words c = step_from (head_in net) (entry_in net) (segment_in net) ok.net c ds

pub steps_the_case : StepsTheCase
steps_the_case words speeds ds at from n ok tot = case_back ok tot ∙ sym (step_on-words ok (case_in words speeds at from n))

module _ {words : List ℕ} {speeds : List Float} {ds : List ℕ} {at from n : ℕ} (ok : Ready words speeds ds at from n) where
  abbrev old : Case
  old = case_in words speeds at from n

  state_held : (i : ℕ) → i < (head_in (net_of words)).size → StateOk (segment_in (net_of words) i) (entry_in (net_of words) (segment_in (net_of words) i).curve 0) (state_of (states_in words speeds at from n) i)
  state_held i l =
      let m : i < n = omega (arith, ok.size) in
      rw (state_is ok i m) (ok.state i m)

  moved : (t : ℕ) → let h = head_in (net_of words) in let states = states_in words speeds at from n in
      sum_of (vehicles_in (step_states h (entry_in (net_of words)) (segment_in (net_of words)) states t ds)) h.size + exits_now h (entry_in (net_of words)) (segment_in (net_of words)) states
      ≡ sum_of (vehicles_in states) h.size + sum_of (λ i. get_or ds i 0) h.size
  moved t =
      balance (head_in (net_of words)) (entry_in (net_of words)) (segment_in (net_of words)) (states_in words speeds at from n) t ds
      (λ i l. segment_at_lem ok i (omega (arith, ok.size))) state_held

  on_words : let h = head_in (net_of words) in
      let new = step_on h (entry_in (net_of words)) (segment_in (net_of words)) old ds in
      sum_of (vehicles_in new.states) h.size + new.exits ≡ sum_of (vehicles_in old.states) h.size + old.exits + sum_of (λ i. get_or ds i 0) h.size
  unfolding step_on case_in
  on_words = regroup _ _ _ _ _ (moved (get_or words (at + 16 * n) 0))
    where
      regroup : (a b x y z : ℕ) → a + b ≡ x + y → a + (z + b) ≡ x + z + y
      regroup a b x y z e = omega (arith, e)

pub balances : Balances
unfolding network_from
balances words speeds ds at from n ok =
    ap (λ (c : Case). sum_of (vehicles_in c.states) (head_in (net_of words)).size + c.exits) (step_on-words ok (case_in words speeds at from n))
    ∙ on_words ok
    ∙ ap (λ (m : ℕ). sum_of (vehicles_in (case_in words speeds at from n).states) (head_in (net_of words)).size + (case_in words speeds at from n).exits + sum_of (λ i. get_or ds i 0) m) (sym ok.size)
