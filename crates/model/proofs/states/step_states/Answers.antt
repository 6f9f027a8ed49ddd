-- A turn: the segment's new state is made of the words as they are, and what it passes on is gathered.
use Prim.Native.Nat.{ℕ, ◌+◌, ◌-◌, ◌*◌, ◌≤◌}
use mathlib.Core.Path.{◌≡◌, sym, ap, ◌∙◌}
use mathlib.Core.List.{List}
use native.Mathlib.Omega.{arith}
use lib.ListN.{get_or, drop}
use lib.Ieee.{Float, nan}
use Rattle.laws.specs.Sums.{sum_of}
use Rattle.laws.proofs.Lists.{span}
use Rattle.laws.proofs.Sums.{sum_none, sum_more}
use Rattle.format.specs.declared.Segment.{Segment}
use Rattle.format.specs.Words.{head_in, segment_in}
use Rattle.metanet.specs.declared.Entry.{Entry}
use Rattle.metanet.specs.declared.SegmentState.{SegmentState}
use Rattle.metanet.specs.Flow.{exit_part}
use Rattle.metanet.specs.Words.{net_of}
use Rattle.metanet.proofs.Entries.{blank}
use Rattle.metanet.proofs.Ready.{new_state_in}
use Rattle.metanet.proofs.Turns.{size_high, turn_none, net_same, gone_high, gone_is, new_state_ok, out_high, turn_end, exit_is, turn_next}
use Rattle.model.proofs.Passing.{passing_ok, passing_gathered}
use Rattle.model.proofs.states.step_states.Goals.{After-passed_on-passed, After-new_state-state, At-loop-i}
use Rattle.model.proofs.states.step_states.Goals as goal

-- the new state of what a site has read, by what it is read from
state_made : {net net' rest rest' : List ℕ} {v v' : Float} {d d' i i' : ℕ} {r : SegmentState} (t : ℕ) (e : Entry)
    → net ≡ net' → rest ≡ rest' → v ≡ v' → d ≡ d' → i ≡ i' → r ≡ new_state_in net rest v d i t e → r ≡ new_state_in net' rest' v' d' i' t e
state_made t e p q s d k f = f ∙ (λ j. new_state_in (p j) (q j) (s j) (d j) (k j) t e)

-- its segment
own_at : {net net' : List ℕ} {i i' : ℕ} {s : Segment} → net ≡ net' → i ≡ i' → s ≡ segment_in net i → s ≡ segment_in net' i'
own_at p k f = f ∙ (λ j. segment_in (p j) (k j))

made : (c : After-new_state-state)
    → c.new_state-state.result ≡ new_state_in (net_of c.loop-i.words) (drop (c.args.at + 16 * c.loop-i.i) c.loop-i.words) (get_or c.loop-i.speeds (c.args.from + c.loop-i.i) nan) (get_or c.args.arrivals.now c.loop-i.i 0) c.loop-i.i c.args.t (get_or c.loop-i.entries (c.loop-i.i + 1) blank)
made c =
    let s = c.of-site.ensures in
    state_made c.args.t _ s.net s.place.1 s.speed c.from-d.ensures s.place.0 c.new_state-state.ensures

out_le : (c : After-new_state-state) → c.new_state-state.result.flows.outflow ≤ 1000000000000
out_le c = out_high c.requires c.loop-i.invariant.0 c.loop-i-test.true (made c)

-- what passes on of the outflow, and to which numbers
passed_is : (c : After-passed_on-passed)
    → (let out = c.new_state-state.result.flows.outflow in c.passed_on-passed.result ≡ out - exit_part out (segment_in (net_of c.loop-i.words) c.loop-i.i).exit)
passed_is c =
    let s = c.of-site.ensures in
    let out = c.new_state-state.result.flows.outflow in
    c.passed_on-passed.ensures ∙ ap (λ (x : Segment). out - exit_part out x.exit) (own_at s.net s.place.0 c.of-site.result.own_is)

goes : (c : After-passed_on-passed) → c.of-site.result.own.following ≡ (segment_in (net_of c.loop-i.words) c.loop-i.i).following
goes c = let s = c.of-site.ensures in ap (λ (x : Segment). x.following) (own_at s.net s.place.0 c.of-site.result.own_is)

-- what left, by the exits and passed on to none
all_left : (c : At-loop-i) → c.loop-i.left + (get_or c.loop-i.entries 0 blank).passed ≤ 120000000000000
all_left c =
    let ok = c.requires in
    let inv = c.loop-i.invariant in
    omega (arith, size_high ok, inv.0.within, inv.1.high, gone_high ok inv.0)

-- ---- the needs
pub loop-i-init : goal.loop-i-init
loop-i-init c = (turn_none c.requires _ c.none_yet-entries.ensures, sum_none)

pub of-site-requires-clause-placed : goal.of-site-requires-clause-placed
of-site-requires-clause-placed c =
    (new_state_ok c.requires c.loop-i.invariant.0 c.loop-i-test.true).place

pub of-site-requires-clause-h_value : goal.of-site-requires-clause-h_value
of-site-requires-clause-h_value c =
    c.head-head.ensures ∙ ap head_in c.of-net.ensures ∙ sym (ap head_in (net_same c.requires c.loop-i.invariant.0))

pub new_state-state-requires : goal.new_state-state-requires
new_state-state-requires c =
    let k = new_state_ok c.requires c.loop-i.invariant.0 c.loop-i-test.true in
    (omega (arith, c.from-d.ensures, k.arrival), k.passed, k.entry)

pub passed_on-passed-requires : goal.passed_on-passed-requires
passed_on-passed-requires c = out_le (goal.at.passed_on-passed-requires c).After-new_state-state

pub overflow_add-left : goal.overflow_add-left
overflow_add-left c = omega (arith, size_high c.requires, c.loop-i.invariant.0.within, c.loop-i.invariant.1.high, out_le (goal.at.overflow_add-left c).After-new_state-state)

pub pass_on-requires : goal.pass_on-requires
pass_on-requires c = let w = goal.at.pass_on-requires c in
    passing_ok c.requires c.loop-i.invariant.0 c.loop-i-test.true (made w.After-new_state-state) (passed_is w.After-passed_on-passed) (goes w.After-passed_on-passed)

pub loop-i-preserved : goal.loop-i-preserved
loop-i-preserved c = let w = goal.at.loop-i-preserved c in
    let ok = c.requires in
    let inv = c.loop-i.invariant in
    let more = c.loop-i-test.true in
    let f = made w.After-new_state-state in
    let is = passed_is w.After-passed_on-passed in
    let gathered = passing_gathered ok inv.0 more f is (goes w.After-passed_on-passed) c.pass_on.ensures in
    let left = sum_more inv.1 (exit_is ok inv.0 more f is) (omega (arith, out_le w.After-new_state-state)) in
    (turn_next ok inv.0 more f (span (c.args.at + 16 * c.loop-i.i) 16) c.store.ensures gathered, left)

pub returns : goal.returns
returns c = let a = c.args in
    let ok = c.requires in
    let inv = c.loop-i.invariant in
    let done = c.loop-i-test.false in
    let e : c.loop-i.i ≡ a.n = omega (arith, inv.0.within) in
    let end = turn_end ok inv.0 done in
    record {
      makes = end.0;
      speeds_are = end.1;
      leaves = λ j. (inv.1.is ∙ ap (sum_of _) (e ∙ ok.size)) j + gone_is ok inv.0 done j;
      bound = all_left (goal.at.returns c).At-loop-i;
    }
