-- Calls of the functions that were made, each by its contract, are a list of calls and runs on the arrays: demand 3 holds of them.
use Prim.Native.Nat.{ℕ, zero, suc}
use mathlib.Core.Path.{◌≡◌, refl, ap, ◌∙◌}
use mathlib.Core.List.{List, ◌∷◌, head-eq_of_cons-eq}
use Rattle.book.specs.Question.{Answer, accepted}
use Rattle.book.specs.Calls.{start}
use Rattle.book.specs.Perform.{Arrays, Outcome, Gives, unless, refusal_at, perform, after, answers}
use Rattle.book.specs.Run.{CallOrRun, single, run, perform_any}
use Rattle.book.specs.Claim.{Made, none_made, call_made, run_made, Demand3Made}
use Rattle.book.proofs.Demand3.{demand_3}

-- the answers and the last arrays are those of the list
module _ (c : CallOrRun) (cs : List CallOrRun) (a : Arrays) {y z : Arrays} {x : Answer} {xs : List Answer} where
  one_more : Gives (perform_any c a) x y.words y.speeds → (xs ≡ answers perform_any cs y) × (z ≡ after perform_any cs y)
      → ((x ∷ xs) ≡ answers perform_any (c ∷ cs) a) × (z ≡ after perform_any (c ∷ cs) a)
  unfolding answers after
  one_more p rest =
      let left : y ≡ (perform_any c a).state = λ i. record { words = p.words_are i; speeds = p.speeds_are i } in
      (λ i. p.answers i ∷ (rest.0 ∙ ap (answers perform_any cs) left) i, rest.1 ∙ ap (after perform_any cs) left)

pub made_are : {cs : List CallOrRun} {a z : Arrays} {xs : List Answer} → Made cs a xs z → (xs ≡ answers perform_any cs a) × (z ≡ after perform_any cs a)
unfolding answers after perform_any
made_are none_made = (refl, refl)
made_are (call_made {c = c} {cs = cs} {a = a} p m) = one_more (single c) cs a p (made_are m)
made_are (run_made {survey = survey} {cs = cs} {a = a} p m) = one_more (run survey) cs a p (made_are m)

-- a call that answered that it was accepted was not refused
not_refused : (m : ℕ) (a : Arrays) (o : Outcome Arrays) → accepted ≡ (unless m a o).answer → m ≡ 0
unfolding unless
not_refused zero a o e = refl
not_refused (suc m) a o e = cc

pub demand_3_made : Demand3Made
unfolding answers perform perform_any
demand_3_made file mvs initial queues cs a xs z b m =
    let is = made_are m in
    let e : refusal_at (start file mvs initial queues) a ≡ 0 = not_refused _ a _ (head-eq_of_cons-eq is.0) in
    rw (is.0, is.1) (demand_3 file mvs initial queues cs a b e)
