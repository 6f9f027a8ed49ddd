-- The worked lists, computed: each step goes on from the case before it.
use Prim.Native.Nat.{ℕ}
use mathlib.Core.Path.{◌≡◌, refl, ap, ◌∙◌}
use mathlib.Core.List.{List, [], ◌∷◌, ◌++◌, map}
use lib.Ieee.{add, sub, mul, div, lt, le, eq, of_int, to_unsigned, to_bits}
use Rattle.laws.specs.Sums.{sum_of}
use Rattle.laws.specs.Lists.{table}
use Rattle.format.specs.Network.{Network}
use Rattle.metanet.specs.Case.{Case}
use Rattle.metanet.specs.Speed.{keep, new_speed}
use Rattle.metanet.specs.Flow.{alinea_rate}
use Rattle.metanet.specs.Step.{sign_of, rate_of, moves, step_on}
use Rattle.metanet.specs.Start.{start_state, start_case}
use Rattle.metanet.specs.Line.{Line, change, case_of}
use Rattle.metanet.specs.Report.{case_figures, segment_figures}
use Rattle.metanet.specs.Worked.{WorkedStep, WorkedHolds, given_figures, all_figures, unreported_figures, figures_along, start_case_of, WorkedList, chain_list}
use Rattle.metanet.specs.WorkedJunction.{junction_list}

-- ---- carried on from case to case

carried : (Network → Case → List (List ℕ)) → Network → Case → List WorkedStep → List (List (List ℕ))
carried f w c [] = []
carried f w c (k ∷ ks) = let d = case_of w c k.items in f w d ∷ carried f w d ks

-- the case of a line and more items is theirs from the line's case on
case_of-append : (w : Network) (s : Case) (l m : Line) → case_of w s (l ++ m) ≡ case_of w (case_of w s l) m
unfolding case_of
case_of-append w s [] m = refl
case_of-append w s (i ∷ l) m = case_of-append w (change w s i) l m

along_carried : (f : Network → Case → List (List ℕ)) (w : Network) (s : Case) (l : Line) (ks : List WorkedStep) → figures_along f w s l ks ≡ carried f w (case_of w s l) ks
unfolding figures_along carried
along_carried f w s l [] = refl
along_carried f w s l (k ∷ ks) =
    let e = case_of-append w s l k.items in
    λ i. f w (e i) ∷ (along_carried f w s (l ++ k.items) ks ∙ ap (λ (d : Case). carried f w d ks) e) i

-- so a list holds where its figures, carried on, are those that it gives
worked : (l : WorkedList) → carried all_figures l.network (start_case_of l) l.steps ≡ map given_figures l.steps
    → carried unreported_figures l.network (start_case_of l) l.steps ≡ map (λ k. k.unreported) l.steps → WorkedHolds l
unfolding case_of
worked l e a =
    record {
      reported = along_carried all_figures l.network (start_case_of l) [] l.steps ∙ e;
      unreported = along_carried unreported_figures l.network (start_case_of l) [] l.steps ∙ a;
    }

pub chain_holds : WorkedHolds chain_list
unfolding carried chain_list start_case start_state case_of change case_figures segment_figures step_on new_speed keep sign_of rate_of moves alinea_rate table sum_of add sub mul div lt le of_int to_unsigned to_bits
chain_holds = worked chain_list refl refl

pub junction_holds : WorkedHolds junction_list
unfolding carried junction_list start_case start_state case_of change case_figures segment_figures step_on new_speed keep sign_of rate_of moves alinea_rate table sum_of add sub mul div lt le eq of_int to_unsigned to_bits
junction_holds = worked junction_list refl refl
