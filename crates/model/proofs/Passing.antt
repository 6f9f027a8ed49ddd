-- What a turn passes on is what the laws of a turn gather.
use Prim.Native.Nat.{ℕ, ◌+◌, ◌-◌, ◌*◌, ◌<◌}
use mathlib.Core.Path.{◌≡◌, refl}
use mathlib.Core.Bool.{Bool, true, false, cond}
use mathlib.Core.List.{List}
use lib.ListN.{get_or, drop}
use lib.Dec.{eqb}
use lib.Ieee.{Float, nan}
use borrow.Author.Tests.{eqb-true}
use Rattle.format.specs.declared.Following.{Following}
use Rattle.format.specs.Words.{segment_in}
use Rattle.metanet.specs.declared.Entry.{Entry}
use Rattle.metanet.specs.declared.SegmentState.{SegmentState}
use Rattle.metanet.specs.Flow.{exit_part}
use Rattle.metanet.specs.Junction.{to_first, to_second}
use Rattle.metanet.specs.Words.{net_of}
use Rattle.metanet.proofs.Entries.{blank}
use Rattle.metanet.proofs.Joins.{part_ok, first_at_lem, one_ok, one_gathered, first_ok, second_ok, two_gathered}
use Rattle.metanet.proofs.Ready.{Ready, new_state_in}
use Rattle.metanet.proofs.Turns.{Gathered, Turn}
use Rattle.segment.specs.Passing.{entered, passed_on, PassingOk}

-- segment i made the state r in its turn; of its outflow passed goes on, to the numbers of g
module _ {ws : List ℕ} {vs : List Float} {ds : List ℕ} {at from n : ℕ} (ok : Ready ws vs ds at from n)
    {t : ℕ} {words : List ℕ} {speeds : List Float} {i : ℕ} {acc : List Entry} (u : Turn ws vs ds at from n t words speeds i acc) (h : i < n)
    {r : SegmentState} (f : r ≡ new_state_in (net_of words) (drop (at + 16 * i) words) (get_or speeds (from + i) nan) (get_or ds i 0) i t (get_or acc (i + 1) blank))
    {passed : ℕ} (is : passed ≡ r.flows.outflow - exit_part r.flows.outflow (segment_in (net_of words) i).exit)
    {g : Following} (goes : g ≡ (segment_in (net_of words) i).following) where
  pub passing_ok : PassingOk acc g passed r.flows.outflow (get_or speeds (from + i) nan)
  passing_ok =
      let two = second_ok ok u h f is goes refl refl in
      record {
        passed_high = (part_ok ok u h f is goes).0;
        share_high = (part_ok ok u h f is goes).1;
        first_high = first_at_lem ok u h f is goes;
        second_high = two.0;
        whole = one_ok ok u h f is goes;
        first = first_ok ok u h f is goes refl;
        second = two.1;
      }

  abbrev v : Float
  v = get_or speeds (from + i) nan

  abbrev out : ℕ
  out = r.flows.outflow

  by_second : {after : List Entry} (b : Bool) → eqb g.second 0 ≡ b
      → after ≡ cond b (entered acc g.first passed out v) (entered (entered acc g.first (to_first passed g.share) out v) g.second (to_second passed g.share) out v)
      → Gathered ws vs at from n (i + 1) after
  by_second true alone e = one_gathered ok u h f is goes (eqb-true _ _ alone) e
  by_second false _ e = two_gathered ok u h f is goes refl refl e

  pub passing_gathered : {after : List Entry} → after ≡ passed_on acc g passed out v → Gathered ws vs at from n (i + 1) after
  unfolding passed_on
  passing_gathered e = by_second (eqb g.second 0) refl e
