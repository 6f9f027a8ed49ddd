-- A line with one more item: its case, and what its steps count up.
use Prim.Native.Nat.{ℕ, ◌+◌, ◌*◌, ◌≤◌, ◌<◌}
use native.Mathlib.Omega.{arith}
use mathlib.Core.Path.{◌≡◌, refl, ◌∙◌}
use mathlib.Core.List.{[], ◌∷◌, ◌++◌}
use lib.ListN.{length}
use Rattle.format.specs.Network.{Network, entry_of, segment_of}
use Rattle.format.proofs.Accepted.{RowsWithin}
use Rattle.format.proofs.Rows.{rows_within}
use Rattle.metanet.specs.Case.{Case, state_of}
use Rattle.metanet.specs.Step.{total_of}
use Rattle.metanet.specs.Sound.{case_number}
use Rattle.metanet.proofs.Average.{since_item, since_meter, since_snoc, Averaged, average_within}
use Rattle.metanet.proofs.Good.{GoodNetwork, Good}
use Rattle.metanet.proofs.CaseSound.{SoundAt, case_sound}
use Rattle.metanet.specs.Line.{Item, Line, change, case_of, item_steps, steps_of, handed_in, arrivals_of, let_out, exits_of}

pub case_of_snoc : (w : Network) (s : Case) (l : Line) (i : Item) → case_of w s (l ++ (i ∷ [])) ≡ change w (case_of w s l) i
unfolding case_of
case_of_snoc w s [] i = refl
case_of_snoc w s (j ∷ l) i = case_of_snoc w (change w s j) l i

pub steps_of_snoc : (l : Line) (i : Item) → steps_of (l ++ (i ∷ [])) ≡ steps_of l + item_steps i
unfolding steps_of
steps_of_snoc [] i = omega arith
steps_of_snoc (j ∷ l) i = omega (arith, steps_of_snoc l i)

pub arrivals_of_snoc : (w : Network) (l : Line) (i : Item) → arrivals_of w (l ++ (i ∷ [])) ≡ arrivals_of w l + handed_in w i
unfolding arrivals_of
arrivals_of_snoc w [] i = omega arith
arrivals_of_snoc w (j ∷ l) i = omega (arith, arrivals_of_snoc w l i)

pub exits_of_snoc : (w : Network) (s : Case) (l : Line) (i : Item) → exits_of w s (l ++ (i ∷ [])) ≡ exits_of w s l + let_out w (case_of w s l) i
unfolding exits_of case_of
exits_of_snoc w s [] i = omega arith
exits_of_snoc w s (j ∷ l) i = omega (arith, exits_of_snoc w (change w s j) l i)

-- ---- a good network is within the rows

pub net_within : {w : Network} → GoodNetwork w → RowsWithin w.head (entry_of w) (segment_of w)
net_within {w = w} g = rows_within w.head (entry_of w) (segment_of w) g.within

-- ---- what an item makes of a case, as far as every line's record speaks of it

pub record Changed (w : Network) (c : Case) (i : Item) : Type 0 where
  pub many : length (change w c i).states ≡ length c.states
  pub states : (k : ℕ) → k < w.head.size → SoundAt w.head (entry_of w) (segment_of w) (change w c i).states k
  pub steps : (change w c i).steps ≡ c.steps + item_steps i
  pub arrivals : (change w c i).arrivals ≡ c.arrivals + handed_in w i
  pub exits : (change w c i).exits ≡ c.exits + let_out w c i
  pub total : total_of w (change w c i) + let_out w c i ≡ total_of w c + handed_in w i
  pub came : handed_in w i ≤ 40000000 * item_steps i
  pub time : (change w c i).time ≤ c.time + 48010080000000 * item_steps i

-- and of S and m, on a line with one more item
abbrev pub AveragedBy : Network → Case → Line → Item → Type 0
AveragedBy w s l i =
    (k : ℕ) → k < w.head.size
    → Averaged (state_of (change w (case_of w s l) i).states k).ramp (steps_of l + item_steps i) (since_item k (since_meter k l) i)

module _ {w : Network} {s : Case} {l : Line} (g : Good w s l) where
  -- 168,000,000 + 40,000,000 × 20,000
  pub total_le : total_of w (case_of w s l) ≤ 800168000000
  total_le = omega (arith, g.balance, g.start_le, g.arrivals_le, g.few)

  module _ (i : Item) (x : Changed w (case_of w s l) i) (a : AveragedBy w s l i) (few : steps_of l + item_steps i ≤ 20000) where
    abbrev new : Case
    new = change w (case_of w s l) i

    balanced : total_of w new + (exits_of w s l + let_out w (case_of w s l) i) ≡ total_of w s + (arrivals_of w l + handed_in w i)
    balanced = omega (arith, x.total, g.balance)

    came_le : arrivals_of w l + handed_in w i ≤ 40000000 * (steps_of l + item_steps i)
    came_le = omega (arith, g.arrivals_le, x.came)

    spent_le : new.time ≤ 48010080000000 * (steps_of l + item_steps i)
    spent_le = omega (arith, g.time_le, x.time)

    new_sound : case_number w.head (entry_of w) (segment_of w) new ≡ 0
    new_sound =
        case_sound w.head (entry_of w) (segment_of w) new x.states
        (λ k l. average_within _ _ _ (x.states k l).setting (a k l))
        (omega (arith, balanced, came_le, g.start_le))
        (omega (arith, x.steps, g.steps_are))
        (omega (arith, x.arrivals, g.arrivals_are, came_le))
        (omega (arith, x.exits, g.exits_are, balanced, came_le, g.start_le))
        (omega (arith, spent_le))

    pub good_more : Good w s (l ++ (i ∷ []))
    good_more =
        let c : case_of w s (l ++ (i ∷ [])) ≡ new = case_of_snoc w s l i in
        let steps = steps_of_snoc l i in
        let arrivals = arrivals_of_snoc w l i in
        let exits = exits_of_snoc w s l i in
        record {
          net = g.net;
          many = rw c (x.many ∙ g.many);
          is_sound = rw c new_sound;
          steps_are = rw (c, steps) (omega (arith, x.steps, g.steps_are));
          arrivals_are = rw (c, arrivals) (omega (arith, x.arrivals, g.arrivals_are));
          exits_are = rw (c, exits) (omega (arith, x.exits, g.exits_are));
          balance = rw (c, exits, arrivals) balanced;
          start_le = g.start_le;
          few = rw steps few;
          arrivals_le = rw (arrivals, steps) came_le;
          time_le = rw (c, steps) spent_le;
          averages = λ k m. rw (c, steps, since_snoc k l i) (a k m);
        }
