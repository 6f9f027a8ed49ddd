-- What an accepted Start puts in is a line with no item, of which all holds.
use Prim.Native.Nat.{ℕ, ◌+◌, ◌*◌, ◌≤◌, ◌<◌}
use native.Mathlib.Nat.{mul-le-mul, le_trans}
use native.Mathlib.Omega.{arith}
use mathlib.Core.Path.{◌≡◌, refl, ap, ◌∙◌}
use mathlib.Core.Bool.{not}
use mathlib.Core.List.{List, []}
use lib.ListN.{get_or}
use borrow.Author.Tests.{ltb-false, eq-eqb}
use Rattle.laws.specs.First.{any_of}
use Rattle.laws.specs.Real.{real}
use Rattle.laws.proofs.First.{row_passed, row_later, first_of-zero}
use Rattle.laws.proofs.Lists.{length-table, get_or-table}
use Rattle.laws.proofs.Reals.{real-le}
use Rattle.laws.proofs.Sums.{sum_ext, sum_high, sum-add}
use Rattle.laws.proofs.Tests.{any_of_false, inside_low, inside_high}
use Rattle.format.specs.declared.Segment.{Segment}
use Rattle.format.specs.Network.{Network, entry_of, segment_of}
use Rattle.format.specs.File.{head_of, entry_on, segment_on, file_number, network_of}
use Rattle.format.proofs.File.{network-accepted}
use Rattle.format.proofs.From.{from_formed}
use Rattle.metanet.specs.declared.SegmentState.{SegmentState}
use Rattle.metanet.specs.Case.{Case, no_state, state_of}
use Rattle.metanet.specs.Speed.{area}
use Rattle.metanet.specs.Step.{vehicles_in, free_speed, total_of}
use Rattle.metanet.proofs.Ready.{SegmentOk}
use Rattle.metanet.specs.Sound.{sign_bad, setting_bad}
use Rattle.metanet.proofs.SegmentLaws.{segment_ok}
use Rattle.metanet.proofs.Formed.{within_good}
use Rattle.metanet.specs.Start.{start_state, start_case, start_segment_number, start_number, handed}
use Rattle.metanet.specs.Line.{case_of, steps_of, arrivals_of, exits_of}
use Rattle.metanet.proofs.Average.{since_meter, Averaged, averaged_none, average_within}
use Rattle.metanet.proofs.Good.{GoodNetwork, Good}
use Rattle.metanet.proofs.CaseSound.{SoundAt, MeanAt, case_sound, flows_sound}
use Rattle.metanet.proofs.Lines.{net_within}

module _ (w : Network) (mvs speeds queues : List ℕ) where
  abbrev begun : Case
  begun = start_case w mvs speeds queues

  state_is : (i : ℕ) → i < w.head.size → state_of begun.states i ≡ start_state w mvs speeds queues i
  unfolding start_case
  state_is i l = get_or-table (start_state w mvs speeds queues) w.head.size i no_state l

  vehicles_are : (i : ℕ) → i < w.head.size → vehicles_in begun.states i ≡ get_or mvs i 0 + get_or queues i 0
  unfolding start_state
  vehicles_are i l = ap (λ (r : SegmentState). r.count + r.queue) (state_is i l)

  -- the vehicles of the start case are those handed to Start
  pub start_total : total_of w begun ≡ handed w mvs queues
  start_total =
      sum_ext (vehicles_in begun.states) (λ i. get_or mvs i 0 + get_or queues i 0) w.head.size vehicles_are
      ∙ sum-add (λ i. get_or mvs i 0) (λ i. get_or queues i 0) w.head.size

-- ---- what row 14 says of segment i

record StartState (s : Segment) (F mv speed queue : ℕ) : Type 0 where
  count : mv ≤ s.jam * area s
  slow : 1000 ≤ speed
  fast : speed ≤ F
  waiting : queue ≤ 1000000

start-state : (s : Segment) (F mv speed queue : ℕ) → start_segment_number s F mv speed queue ≡ 0 → StartState s F mv speed queue
unfolding start_segment_number
start-state s F mv speed queue z =
    let no = any_of_false _ (row_passed _ _ _ z) in
    record { count = ltb-false _ _ (no 0); slow = inside_low 1000 speed F (no 1); fast = inside_high 1000 speed F (no 1); waiting = ltb-false _ _ (no 2) }

-- ---- the start case on a good network

module _ {w : Network} (net : GoodNetwork w) (mvs speeds queues : List ℕ) (z : start_number w mvs speeds queues ≡ 0) where
  judged : (i : ℕ) → i < w.head.size → StartState (segment_of w i) (entry_of w (segment_of w i).curve 0) (get_or mvs i 0) (get_or speeds i 0) (get_or queues i 0)
  unfolding start_number
  judged i l = start-state _ _ _ _ _ (first_of-zero _ _ (row_later _ _ _ z) i l)

  segments_ok : (i : ℕ) → i < w.head.size → SegmentOk w.head (segment_of w i) (free_speed w.head (entry_of w) (segment_of w) i)
  segments_ok = segment_ok (net_within net)

  -- 200 × (2,000 × 8)
  count_le : (i : ℕ) → i < w.head.size → get_or mvs i 0 ≤ 3200000
  count_le i l =
      let s = segments_ok i l in
      le_trans (judged i l).count (mul-le-mul s.jam_high (mul-le-mul s.metres_high s.lanes_high))

  each-le : (i : ℕ) → i < w.head.size → vehicles_in (begun w mvs speeds queues).states i ≤ 4200000
  each-le i l = omega (arith, vehicles_are w mvs speeds queues i l, count_le i l, (judged i l).waiting)

  start_le : total_of w (begun w mvs speeds queues) ≤ 168000000
  start_le = omega (arith, sum_high (vehicles_in (begun w mvs speeds queues).states) 4200000 w.head.size each-le, (net_within net).head.size_high)

  start-sound : (i : ℕ) → i < w.head.size → SoundAt w.head (entry_of w) (segment_of w) (begun w mvs speeds queues).states i
  unfolding start_state sign_bad setting_bad any_of
  start-sound i l =
      let a = judged i l in
      let fast = (segments_ok i l).fast in
      let v = get_or speeds i 0 in
      let f = free_speed w.head (entry_of w) (segment_of w) i in
      rw (state_is w mvs speeds queues i l)
      (record {
        count = omega (arith, count_le i l);
        queue = omega (arith, a.waiting);
        flows = flows_sound (segment_of w i) (record { outflow = omega arith; release = omega arith }) (omega (arith, (segments_ok i l).metres_low));
        sign = refl;
        setting = ap not (eq-eqb (segment_of w i).most (segment_of w i).most refl);
        speed = within_good f (real v) (record { low = real-le 1000 v a.slow (omega (arith, a.fast, fast)); high = real-le v f a.fast (omega (arith, fast)) });
      })

  start-averaged : (i : ℕ) → i < w.head.size → (k : ℕ) → Averaged (state_of (begun w mvs speeds queues).states i).ramp 0 k
  unfolding start_state
  start-averaged i l k = rw (state_is w mvs speeds queues i l) (averaged_none _ 0 k refl refl)

  start_means : (i : ℕ) → i < w.head.size → MeanAt (begun w mvs speeds queues).states i
  start_means i l = average_within _ _ _ (start-sound i l).setting (start-averaged i l 0)

  pub good_begun : Good w (begun w mvs speeds queues) []
  unfolding start_case case_of steps_of arrivals_of exits_of
  good_begun =
      record {
        net = net;
        many = length-table (start_state w mvs speeds queues) w.head.size;
        is_sound = case_sound w.head (entry_of w) (segment_of w) (begun w mvs speeds queues) start-sound start_means (omega (arith, start_le)) (omega arith) (omega arith) (omega arith) (omega arith);
        steps_are = refl;
        arrivals_are = refl;
        exits_are = refl;
        balance = refl;
        start_le = start_le;
        few = omega arith;
        arrivals_le = omega arith;
        time_le = omega arith;
        averages = λ i l. start-averaged i l (since_meter i []);
      }

-- ---- on the network of an accepted file

file_good : (file : List ℕ) → file_number file ≡ 0 → GoodNetwork (network_of file)
file_good file z = record { within = network-accepted file z; formed = from_formed (head_of file) (entry_on file) (segment_on file) }

pub good_start : (file mvs speeds queues : List ℕ) → file_number file ≡ 0 → start_number (network_of file) mvs speeds queues ≡ 0
    → Good (network_of file) (start_case (network_of file) mvs speeds queues) []
good_start file mvs speeds queues z start = good_begun (file_good file z) mvs speeds queues start
