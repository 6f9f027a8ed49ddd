-- What is shown of one step over the arrays. The theorems are in proofs/OneStep.antt.
use Prim.Native.Nat.{ℕ, ◌+◌, ◌*◌}
use mathlib.Core.Path.{◌≡◌}
use mathlib.Core.List.{List}
use lib.ListN.{get_or}
use lib.Ieee.{Float}
use Rattle.laws.specs.Sums.{sum_of}
use Rattle.format.specs.Network.{Network}
use Rattle.format.specs.Words.{network_in}
use Rattle.metanet.specs.Case.{Case}
use Rattle.metanet.specs.Step.{step_case, total_of}
use Rattle.metanet.specs.Words.{net_of, case_in}
use Rattle.metanet.proofs.InWords.{step_case_words, step_case_speeds}
use Rattle.metanet.proofs.Ready.{Ready, TotalsOk}

-- the case that the arrays hold afterwards is the step of the case that they held, on the network that they keep
abbrev pub StepsTheCase : Type 0
StepsTheCase =
    (words : List ℕ) (speeds : List Float) (ds : List ℕ) (at from n : ℕ) → Ready words speeds ds at from n → TotalsOk words (at + 16 * n)
    → case_in (step_case_words words speeds at from n ds) (step_case_speeds words speeds at from n ds) at from n
    ≡ step_case (network_in (net_of words)) (case_in words speeds at from n) ds

-- vehicles in segments and queues and those that have left, after the step, are the same before it and those that arrived
abbrev pub Balances : Type 0
Balances =
    (words : List ℕ) (speeds : List Float) (ds : List ℕ) (at from n : ℕ) → Ready words speeds ds at from n
    → let w : Network = network_in (net_of words) in
    let c : Case = case_in words speeds at from n in
    let new : Case = step_case w c ds in
    total_of w new + new.exits ≡ total_of w c + c.exits + sum_of (λ i. get_or ds i 0) n
