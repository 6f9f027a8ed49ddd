-- The arrays after the program's calls.
use Rattle.std.specs.Prelude.{ℕ, List, [], ◌∷◌}
use Rattle.metanet.specs.Line.{stepped}
use Rattle.book.specs.Calls.{Call, start, item}
use Rattle.book.specs.Question.{Answer, refused, accepted, figures}
use Rattle.book.specs.Perform.{Arrays, perform, after}

-- it starts with 20,000 mv, 90,000 m/h, queue 5,000
abbrev pub started : List ℕ → Call
started file = start file (20000 ∷ []) (90000 ∷ []) (5000 ∷ [])

-- steps with arrivals 4,000, then 0
abbrev pub steps : List Call
steps = item (stepped (4000 ∷ [])) ∷ item (stepped (0 ∷ [])) ∷ []

-- the steps are made where Start is accepted
abbrev pub then_steps : Answer → Arrays → Arrays
then_steps (refused number) a = a
then_steps accepted a = after perform steps a
then_steps (figures fs) a = a

abbrev pub ran : List ℕ → Arrays → Arrays
ran file a = then_steps (perform (started file) a).answer (perform (started file) a).state
