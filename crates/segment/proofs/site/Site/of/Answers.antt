-- Each part is read from the network's words or from those of the state.
use Rattle.std.proofs.Common.{◌≡◌, ℕ, List, drop, sym, ap, ◌∙◌, subst}
use Rattle.std.specs.Prelude.{Float}
use Rattle.laws.proofs.Lists.{rest_is}
use Rattle.format.specs.declared.Head.{Head}
use Rattle.format.specs.Words.{head_in, entry_in, segment_in}
use Rattle.format.proofs.Accepted.{CurveWithin}
use Rattle.metanet.specs.declared.SegmentState.{SegmentState}
use Rattle.metanet.specs.Words.{net_of, state_in}
use Rattle.metanet.proofs.Ready.{SegmentOk, AheadOk, SegmentAt}
use Rattle.metanet.proofs.SegmentLaws.{segment_ok}
use Rattle.segment.proofs.site.Site.of.Goals as goal

module _ {words : List ℕ} {i a : ℕ} {v : Float} (at : SegmentAt words i a v) where
  curve : let net = net_of words in CurveWithin (entry_in net (segment_in net i).curve)
  curve = (at.net.curve _ (at.net.each i at.more).curve_high)

  own_within : {h : Head} → h ≡ head_in (net_of words) → let net = net_of words in SegmentOk h (segment_in net i) (entry_in net (segment_in net i).curve 0)
  own_within e =
      let net = net_of words in
      subst (λ (h : Head). SegmentOk h (segment_in net i) (entry_in net (segment_in net i).curve 0)) (sym e) (segment_ok at.net i at.more)

-- the speed of a state that is read at the speed v
speed_is : {r : SegmentState} (w : List ℕ) {v : Float} → r ≡ state_in w v → r.speed ≡ v
unfolding state_in
speed_is w e = ap (λ (r : SegmentState). r.speed) e

pub invariant_of-result-clause-state_is : goal.invariant_of-result-clause-state_is
invariant_of-result-clause-state_is c =
    c.state-state.ensures ∙ ap (state_in _) (sym (speed_is _ c.state-state.ensures))

pub invariant_of-result-clause-segment_ok : goal.invariant_of-result-clause-segment_ok
invariant_of-result-clause-segment_ok c =
    simp (c.segment-own.ensures, c.of-net.ensures) (own_within c.requires.placed c.requires.h_value)

pub invariant_of-result-clause-curve_within : goal.invariant_of-result-clause-curve_within
invariant_of-result-clause-curve_within c = simp (c.segment-own.ensures, c.of-net.ensures) (curve c.requires.placed)

pub invariant_of-result-clause-state_ok : goal.invariant_of-result-clause-state_ok
invariant_of-result-clause-state_ok c =
    simp (c.segment-own.ensures, c.of-net.ensures, c.state-state.ensures, rest_is) c.requires.placed.state

pub invariant_of-result-clause-ahead_ok : goal.invariant_of-result-clause-ahead_ok
invariant_of-result-clause-ahead_ok c =
    let w = c.args.words.now in
    let ahead : AheadOk c.of-net.result.words.now (drop c.args.a w) c.args.i c.segment-own.result.following =
    simp (c.segment-own.ensures, c.of-net.ensures) c.requires.placed.ahead in
    subst (λ (rest : List ℕ). AheadOk c.of-net.result.words.now rest c.args.i c.segment-own.result.following) (sym (rest_is c.args.a w)) ahead

pub returns-clause-speed : goal.returns-clause-speed
returns-clause-speed c = speed_is _ c.state-state.ensures
