-- What a segment passes on, in the list of what enters each number.
use Rattle.std.specs.Prelude.{ℕ, ◌≡◌, ◌≤◌, ◌<◌, cond, eqb, List, Float}
use Rattle.std.proofs.Math.ListN.{get_or, set}
use Rattle.format.specs.declared.Following.{Following}
use Rattle.metanet.specs.declared.Entry.{Entry}
use Rattle.metanet.specs.Junction.{to_first, to_second}
use Rattle.metanet.proofs.Entries.{blank, joined, JoinOk}

-- of an outflow out at speed v, amount enters number d
abbrev pub entered : List Entry → ℕ → ℕ → ℕ → Float → List Entry
entered entries d amount out v = set entries d (joined (get_or entries d blank) amount out v)

-- what passed of it goes to the first that follows, or in part to each of two
unfoldable pub passed_on : List Entry → Following → ℕ → ℕ → Float → List Entry
passed_on entries f passed out v =
    cond (eqb f.second 0)
    (entered entries f.first passed out v)
    (entered (entered entries f.first (to_first passed f.share) out v) f.second (to_second passed f.share) out v)

-- what that asks
pub record PassingOk (entries : List Entry) (f : Following) (passed out : ℕ) (v : Float) : Type 0 where
  pub passed_high : passed ≤ 1000000000000
  pub share_high : f.share ≤ 1000
  pub first_high : f.first < 41
  pub second_high : f.second < 41
  pub whole : f.second ≡ 0 → JoinOk (get_or entries f.first blank) passed out
  pub first : JoinOk (get_or entries f.first blank) (to_first passed f.share) out
  pub second : JoinOk (get_or (entered entries f.first (to_first passed f.share) out v) f.second blank) (to_second passed f.share) out
