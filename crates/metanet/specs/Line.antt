-- A line of history and the case that it gives: the start case, changed by each item in order.
use Rattle.std.specs.Prelude.{ℕ, ◌+◌, ◌-◌, List, [], ◌∷◌, ℤ, get_or}
use Rattle.laws.specs.Sums.{sum_of}
use Rattle.format.specs.Network.{Network, entry_of, segment_of}
use Rattle.metanet.specs.Case.{Case, state_of}
use Rattle.metanet.specs.Step.{step_case, exits_now}
use Rattle.metanet.specs.declared.Setting.{Setting}
use Rattle.metanet.specs.Change.{signed_state, metered_state, with_state}

-- ---- a line is a list of signs, meters and steps with their arguments

pub data Item : Type 0 where
  signed : ℕ → ℕ → ℤ → Item
  metered : ℕ → Setting → Item
  stepped : List ℕ → Item

abbrev pub Line : Type 0
Line = List Item

-- a sign or meter sets its segment, a step is "One step"
unfoldable pub change : Network → Case → Item → Case
change w c (signed i limit compliance) = with_state c (i - 1) (signed_state limit compliance (state_of c.states (i - 1)))
change w c (metered i setting) = with_state c (i - 1) (metered_state (segment_of w (i - 1)).most setting (state_of c.states (i - 1)))
change w c (stepped arrivals) = step_case w c arrivals

unfoldable pub case_of : Network → Case → Line → Case
unfolding change
case_of w c [] = c
case_of w c (i ∷ l) = case_of w (change w c i) l

-- ---- what a line's steps count up

abbrev pub item_steps : Item → ℕ
item_steps = elim [ signed i limit compliance ↦ 0 | metered i setting ↦ 0 | stepped arrivals ↦ 1 ]

unfoldable pub steps_of : Line → ℕ
steps_of [] = 0
steps_of (i ∷ l) = item_steps i + steps_of l

-- arrivals of a line are the sum of those handed to its steps
unfoldable pub handed_in : Network → Item → ℕ
handed_in w = elim [ signed i limit compliance ↦ 0 | metered i setting ↦ 0 | stepped arrivals ↦ sum_of (λ i. get_or arrivals i 0) w.head.size ]

unfoldable pub arrivals_of : Network → Line → ℕ
unfolding handed_in
arrivals_of w [] = 0
arrivals_of w (i ∷ l) = handed_in w i + arrivals_of w l

-- exits are the sum, over its steps, of all exit parts and of what is passed on to none
unfoldable pub let_out : Network → Case → Item → ℕ
let_out w c = elim [ signed i limit compliance ↦ 0 | metered i setting ↦ 0 | stepped arrivals ↦ exits_now w.head (entry_of w) (segment_of w) c.states ]

unfoldable pub exits_of : Network → Case → Line → ℕ
unfolding let_out change
exits_of w c [] = 0
exits_of w c (i ∷ l) = let_out w c i + exits_of w (change w c i) l
