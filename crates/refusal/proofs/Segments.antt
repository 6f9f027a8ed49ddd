-- A segment of the network in the words.
use Prim.Native.Nat.{ℕ, ◌+◌, ◌*◌, ◌<◌}
use mathlib.Core.Path.{◌≡◌, sym, ap, ◌∙◌}
use mathlib.Core.Bool.{◌&&◌}
use mathlib.Core.List.{List}
use native.Mathlib.Omega.{arith}
use lib.Dec.{eqb, lit<}
use lib.ListN.{get_or}
use lib.Seq.{get_or-take}
use Rattle.laws.proofs.SomeBelow.{some_ext}
use Rattle.format.specs.declared.Segment.{Segment}
use Rattle.format.specs.Network.{network_from, segment_of, goes_to, has_before}
use Rattle.format.specs.Words.{head_in, entry_in, segment_in, network_in}
use Rattle.metanet.specs.Step.{on_ramp, ramp_at}
use Rattle.metanet.specs.Words.{net_of}
use Rattle.book.specs.Arrangement.{network_at, size_at}
use Rattle.book.proofs.Network.{segment_kept}

-- it is read alike in all the words
module _ (words : List ℕ) (i : ℕ) (small : i < 40) where
  same_word : (j : ℕ) → j < 16 → get_or words (1624 + 16 * i + j) 0 ≡ get_or (net_of words) (1624 + 16 * i + j) 0
  same_word j l = sym (get_or-take 2560 words (1624 + 16 * i + j) 0 (omega (arith, small, l)))

  same_segment : segment_in words i ≡ segment_in (net_of words) i
  unfolding segment_in
  same_segment =
      λ j. record {
        metres = sym (get_or-take 2560 words (1624 + 16 * i) 0 (omega (arith, small))) j;
        lanes = same_word 1 (lit< tt) j;
        curve = same_word 2 (lit< tt) j;
        critical = same_word 3 (lit< tt) j;
        jam = same_word 4 (lit< tt) j;
        origin = same_word 5 (lit< tt) j;
        exit = same_word 6 (lit< tt) j;
        most = same_word 7 (lit< tt) j;
        following = record { first = same_word 8 (lit< tt) j; second = same_word 9 (lit< tt) j; share = same_word 10 (lit< tt) j };
      }

  pub segment_first : i < size_at words → segment_in words i ≡ segment_of (network_at words) i
  segment_first l = same_segment ∙ sym (segment_kept (net_of words) i l)

-- a ramp of the network is one of its words
pub ramp_kept : (ws : List ℕ) (i : ℕ) → i < (head_in ws).size → ramp_at (network_in ws) i ≡ on_ramp (head_in ws) (entry_in ws) (segment_in ws) i
unfolding has_before network_from
ramp_kept ws i l =
    λ j. eqb (segment_kept ws i l j).origin 1
    && some_ext (λ k. goes_to i (segment_of (network_in ws) k).following) (λ k. goes_to i (segment_in ws k).following) (head_in ws).size
    (λ k m. ap (λ (s : Segment). goes_to i s.following) (segment_kept ws k m)) j
