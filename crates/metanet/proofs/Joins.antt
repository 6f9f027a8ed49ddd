-- What a turn passes on, joined to what enters the following segments.
use Prim.Native.Nat.{ℕ, ◌+◌, ◌-◌, ◌*◌, ◌/◌, ◌≤◌, ◌<◌}
use native.Mathlib.Numerals.{add-one}
use native.Mathlib.Omega.{arith}
use mathlib.Core.Path.{◌≡◌, sym, ap, subst, ◌∙◌}
use mathlib.Core.List.{List}
use lib.ListN.{length, drop, set, get_or, length-set}
use lib.Dec.{eqb}
use lib.Ieee.{Float, nan}
use Rattle.format.specs.declared.Head.{Head}
use Rattle.format.specs.declared.Following.{Following}
use Rattle.format.specs.declared.Segment.{Segment}
use Rattle.format.specs.Words.{head_in, entry_in, segment_in}
use Rattle.metanet.specs.declared.Entry.{Entry}
use Rattle.metanet.specs.declared.SegmentState.{SegmentState}
use Rattle.metanet.specs.Case.{state_of}
use Rattle.metanet.specs.Flow.{exit_part}
use Rattle.metanet.specs.Junction.{to_first, to_second}
use Rattle.metanet.specs.Step.{through, first_way, second_way, out_at, rest_at, first_at, second_at}
use Rattle.metanet.specs.Words.{net_of, states_in}
use Rattle.metanet.proofs.Ready.{Ready, new_state_in}
use Rattle.metanet.proofs.Sending.{thousandths}
use Rattle.metanet.proofs.Entries.{blank, joined, JoinOk, joined_if, high_join, gathered_more, Stands, stands_gone, Are, pushed}
use Rattle.metanet.proofs.Turns.{entering_in, Gathered, Turn, at_size, size_high, segment_at_lem, rest_le, net_same, own_speed, out_high, out_is}

-- segment i made the state r in its turn; of its outflow rest is passed on, to the two numbers of g
module _ {ws : List ℕ} {vs : List Float} {ds : List ℕ} {at from n : ℕ} (ok : Ready ws vs ds at from n)
    {t : ℕ} {words : List ℕ} {speeds : List Float} {i : ℕ} {acc : List Entry} (u : Turn ws vs ds at from n t words speeds i acc) (h : i < n)
    {r : SegmentState} (f : r ≡ new_state_in (net_of words) (drop (at + 16 * i) words) (get_or speeds (from + i) nan) (get_or ds i 0) i t (get_or acc (i + 1) blank))
    {rest : ℕ} (rest_is : rest ≡ r.flows.outflow - exit_part r.flows.outflow (segment_in (net_of words) i).exit)
    {g : Following} (goes : g ≡ (segment_in (net_of words) i).following) where
  -- the old case
  abbrev hd : Head
  hd = head_in (net_of ws)

  abbrev en : ℕ → ℕ → ℕ
  en = entry_in (net_of ws)

  abbrev sg : ℕ → Segment
  sg = segment_in (net_of ws)

  abbrev old : List SegmentState
  old = states_in ws vs at from n

  goes_same : g ≡ (sg i).following
  goes_same = goes ∙ ap (λ (net : List ℕ). (segment_in net i).following) (net_same ok u)

  rest_same' : rest ≡ rest_at hd en sg old i
  unfolding through
  rest_same' = rest_is ∙ (λ j. out_is ok u h f j - exit_part (out_is ok u h f j) (segment_in (net_same ok u j) i).exit)

  pub part_ok : (rest ≤ 1000000000000) × (g.share ≤ 1000)
  part_ok = (omega (arith, rest_same', rest_le ok i h), rw goes_same (segment_at_lem ok i h).share_high)

  names_ok : (g.first < 41) × (g.second < 41)
  names_ok =
      let s = segment_at_lem ok i h in
      (rw goes_same (omega (arith, s.first_high, ok.size, size_high ok)), rw goes_same (omega (arith, s.second_high, ok.size, size_high ok)))

  pub first_at_lem : g.first < 41
  first_at_lem = names_ok.0

  -- what enters number d, after the turn of segment i
  more_is : (d : ℕ)
      → joined_if (eqb g.second d) (joined_if (eqb g.first d) (entering_in ws vs at from n d i) (to_first rest g.share) r.flows.outflow (get_or speeds (from + i) nan)) (to_second rest g.share) r.flows.outflow (get_or speeds (from + i) nan)
      ≡ entering_in ws vs at from n d (i + 1)
  more_is d =
      (λ j. joined_if (eqb (goes_same j).second d) (joined_if (eqb (goes_same j).first d) (entering_in ws vs at from n d i) (to_first (rest_same' j) (goes_same j).share) (out_is ok u h f j) (own_speed ok u h j)) (to_second (rest_same' j) (goes_same j).share) (out_is ok u h f j) (own_speed ok u h j))
      ∙ sym (gathered_more (first_way hd en sg) (second_way hd en sg) (first_at hd en sg old) (second_at hd en sg old) (out_at hd en sg old) (λ k. (state_of old k).speed) i d)
      ∙ ap (λ (k : ℕ). entering_in ws vs at from n d k) (sym (add-one i))

  -- what two ways, or one that counts, leave in the array
  gathered_by : (after : List Entry) (f : ℕ → Entry) → length after ≡ 41 → Are (2 * i + 1 + 1) after f → ((d : ℕ) → f d ≡ entering_in ws vs at from n d (i + 1)) → Gathered ws vs at from n (i + 1) after
  gathered_by after f long are same =
      let two : 2 * i + 1 + 1 ≡ 2 * (i + 1) = omega arith in
      record { long = long; are = λ d l. subst (λ (m : ℕ). Stands m d (get_or after d blank) (entering_in ws vs at from n d (i + 1))) two (subst (λ (e : Entry). Stands (2 * i + 1 + 1) d (get_or after d blank) e) (same d) (are d l)) }

  -- ---- with one following segment or none: all goes to the first
  module _ (alone : g.second ≡ 0) where
    whole : (to_first rest g.share ≡ rest) × (to_second rest g.share ≡ 0)
    whole =
        let share : g.share ≡ 1000 = rw goes_same ((ok.net.each i (at_size ok i h)).share_alone (rw goes_same at alone)) in
        let first : to_first rest g.share ≡ rest = ap (to_first rest) share ∙ all rest in
        (first, omega (arith, first))
      where
        all : (x : ℕ) → x * 1000 / 1000 ≡ x
        all x = omega arith

    pub one_ok : JoinOk (get_or acc g.first blank) rest r.flows.outflow
    one_ok = high_join _ (2 * i) _ _ (omega (arith, size_high ok)) (u.entries.are g.first first_at_lem).high part_ok.0 (out_high ok u h f)

    pub one_gathered : {after : List Entry} → after ≡ set acc g.first (joined (get_or acc g.first blank) rest r.flows.outflow (get_or speeds (from + i) nan)) → Gathered ws vs at from n (i + 1) after
    one_gathered is =
        rw is
        (gathered_by _ _ (length-set acc g.first _ ∙ u.entries.long)
        (λ d l. stands_gone g.second (to_second rest g.share) r.flows.outflow (get_or speeds (from + i) nan) (pushed acc (λ d. entering_in ws vs at from n d i) g.first rest r.flows.outflow (get_or speeds (from + i) nan) u.entries.long first_at_lem part_ok.0 (out_high ok u h f) u.entries.are d l) alone whole.1)
        (λ d. ap (λ (x : ℕ). joined_if (eqb g.second d) (joined_if (eqb g.first d) (entering_in ws vs at from n d i) x r.flows.outflow (get_or speeds (from + i) nan)) (to_second rest g.share) r.flows.outflow (get_or speeds (from + i) nan)) (sym whole.0) ∙ more_is d))

  -- ---- with two
  module _ {x : ℕ} (x-is : x ≡ to_first rest g.share) where
    x_high : x ≤ rest
    x_high = omega (arith, x-is, thousandths rest g.share part_ok.1)

    pub first_ok : JoinOk (get_or acc g.first blank) x r.flows.outflow
    first_ok = high_join _ (2 * i) _ _ (omega (arith, size_high ok)) (u.entries.are g.first first_at_lem).high (omega (arith, x_high, part_ok.0)) (out_high ok u h f)

    module _ {acc1 : List Entry} (one : acc1 ≡ set acc g.first (joined (get_or acc g.first blank) x r.flows.outflow (get_or speeds (from + i) nan))) where
      long1 : length acc1 ≡ 41
      long1 = ap length one ∙ length-set acc g.first _ ∙ u.entries.long

      are1 : Are (2 * i + 1) acc1 (λ d. joined_if (eqb g.first d) (entering_in ws vs at from n d i) x r.flows.outflow (get_or speeds (from + i) nan))
      are1 = rw one (pushed acc (λ d. entering_in ws vs at from n d i) g.first x r.flows.outflow (get_or speeds (from + i) nan) u.entries.long first_at_lem (omega (arith, x_high, part_ok.0)) (out_high ok u h f) u.entries.are)

      pub second_ok : (g.second < 41) × JoinOk (get_or acc1 g.second blank) (rest - x) r.flows.outflow
      second_ok = (names_ok.1, high_join _ (2 * i + 1) _ _ (omega (arith, size_high ok)) (are1 g.second names_ok.1).high (omega (arith, part_ok.0)) (out_high ok u h f))

      pub two_gathered : {after : List Entry} → after ≡ set acc1 g.second (joined (get_or acc1 g.second blank) (rest - x) r.flows.outflow (get_or speeds (from + i) nan)) → Gathered ws vs at from n (i + 1) after
      two_gathered two =
          rw two
          (gathered_by _ _ (length-set acc1 g.second _ ∙ long1)
          (pushed acc1 (λ d. joined_if (eqb g.first d) (entering_in ws vs at from n d i) x r.flows.outflow (get_or speeds (from + i) nan)) g.second (rest - x) r.flows.outflow (get_or speeds (from + i) nan) long1 names_ok.1 (omega (arith, part_ok.0)) (out_high ok u h f) are1)
          (λ d. ap (λ (y : ℕ). joined_if (eqb g.second d) (joined_if (eqb g.first d) (entering_in ws vs at from n d i) y r.flows.outflow (get_or speeds (from + i) nan)) (rest - y) r.flows.outflow (get_or speeds (from + i) nan)) x-is ∙ more_is d))
