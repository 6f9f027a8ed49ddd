-- The loop's invariant: the first i states are new and the others old, what the first i segments pass on is gathered (`Turn`), and what left
-- so far by the exits is their sum. The measure is how many segments are left.
use Rattle.laws.proofs.Sums.{Summed}
use Rattle.metanet.proofs.Turns.{Turn, exit_in}
use Rattle.model.proofs.states.step_states.Given as goal

abbrev pub invariant-loop-i : goal.invariant-loop-i
invariant-loop-i l = Turn l.initial.words l.initial.speeds l.arrivals l.at l.from l.n l.t l.words l.speeds l.i l.entries
    × Summed (exit_in l.initial.words l.initial.speeds l.at l.from l.n) 1000000000000 l.i l.left
