-- The calls on a study that demand 3 is about, and what is among the calls of a list.
use Rattle.std.specs.Prelude.{ℕ, ◌+◌, Bool, true, false, ◌&&◌, ◌||◌, not, List, [], ◌∷◌, ltb, eqb}
use Rattle.format.specs.File.{network_of}
use Rattle.metanet.specs.Line.{Item, item_steps}
use Rattle.book.specs.Question.{Question}

-- the arguments of each call; segments, cases and slots by the paper's numbers
pub data Call : Type 0 where
  -- file, initial mv, speeds and queues
  start : List ℕ → List ℕ → List ℕ → List ℕ → Call
  -- Sign, Meter or Step
  item : Item → Call
  hold : ℕ → Call
  recall : ℕ → Call
  drop_slot : ℕ → Call
  question : Question → Call

-- ---- what a call is

abbrev pub is_start : Call → Bool
is_start = elim [ start file mvs speeds queues ↦ true | item i ↦ false | hold k ↦ false | recall k ↦ false | drop_slot k ↦ false | question q ↦ false ]

-- a hold into slot j, a drop of it
abbrev pub is_hold : ℕ → Call → Bool
is_hold j = elim [ start file mvs speeds queues ↦ false | item i ↦ false | hold k ↦ eqb j k | recall k ↦ false | drop_slot k ↦ false | question q ↦ false ]

abbrev pub is_drop : ℕ → Call → Bool
is_drop j = elim [ start file mvs speeds queues ↦ false | item i ↦ false | hold k ↦ false | recall k ↦ false | drop_slot k ↦ eqb j k | question q ↦ false ]

abbrev pub steps_by : Call → ℕ
steps_by = elim [ start file mvs speeds queues ↦ 0 | item i ↦ item_steps i | hold k ↦ 0 | recall k ↦ 0 | drop_slot k ↦ 0 | question q ↦ 0 ]

-- a Start with more than m segments
abbrev pub brings_over : ℕ → Call → Bool
brings_over m = elim [ start file mvs speeds queues ↦ ltb m (network_of file).head.size | item i ↦ false | hold k ↦ false | recall k ↦ false | drop_slot k ↦ false | question q ↦ false ]

-- ---- what is among the calls of a list

-- no call of the list is such a call
unfoldable pub no_call : (Call → Bool) → List Call → Bool
no_call such [] = true
no_call such (c ∷ cs) = not (such c) && no_call such cs

unfoldable pub steps_in : List Call → ℕ
steps_in [] = 0
steps_in (c ∷ cs) = steps_by c + steps_in cs

-- a hold into slot k, and no drop of it after that hold
unfoldable pub held_in : ℕ → List Call → Bool
unfolding no_call
held_in k [] = false
held_in k (c ∷ cs) = is_hold k c && no_call (is_drop k) cs || held_in k cs
