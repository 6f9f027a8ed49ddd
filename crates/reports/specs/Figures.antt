-- What a report reads in the words and speeds.
use Rattle.std.specs.Prelude.{ℕ, ◌+◌, ◌*◌, true, false, not, T, List, pos, is_nan, slice_index, to_bits, Float}
use Rattle.std.specs.Float.{fin, binary64}
use Rattle.std.specs.Float.Ieee.{lt, to_unsigned}
use Rattle.laws.specs.Sums.{sum_of}
use Rattle.format.specs.declared.Segment.{Segment}
use Rattle.format.specs.Words.{segment_in}
use Rattle.metanet.specs.declared.SegmentState.{SegmentState}
use Rattle.metanet.specs.Step.{rate_of}
use Rattle.metanet.specs.Words.{net_of, state_at}
use Rattle.book.specs.declared.CaseFigures.{CaseFigures}
use Rattle.book.specs.declared.SegmentFigures.{SegmentFigures}
use Rattle.book.specs.Arrangement.{case_word, case_speed}
use Rattle.case_words.specs.Sums.{figure_at}

-- the figures of that case, which has n states
unfoldable pub figures_at : List ℕ → ℕ → ℕ → CaseFigures
figures_at words at n =
    record {
      steps = slice_index words (at + 16 * n);
      segments = sum_of (figure_at words at 0) n;
      queues = sum_of (figure_at words at 1) n;
      arrivals = slice_index words (at + 16 * n + 1);
      exits = slice_index words (at + 16 * n + 2);
      time = slice_index words (at + 16 * n + 3);
    }

-- the figures of a segment, from its state
unfoldable pub state_figures : Segment → SegmentState → SegmentFigures
unfolding rate_of
state_figures s r =
    record {
      count = r.count;
      whole = to_unsigned 64 r.speed;
      bits = to_bits binary64 r.speed;
      queue = r.queue;
      outflow = r.flows.outflow;
      release = r.flows.release;
      rate = rate_of s.most r.ramp;
    }

-- state i, counted from 0, of case k, and the figures of its segment
abbrev pub state_there : List ℕ → List Float → ℕ → ℕ → SegmentState
state_there words speeds k i = let n = slice_index words 1 in state_at words speeds (case_word n k) (case_speed n k) i

abbrev pub figures_there : List ℕ → List Float → ℕ → ℕ → SegmentFigures
figures_there words speeds k i = state_figures (segment_in (net_of words) i) (state_there words speeds k i)

-- ---- what reading them rests on

-- a speed has a whole part that 64 bits hold, and it has bits
pub record Showable (v : Float) : Type 0 where
  pub above : T (lt (fin true 1 (pos 0)) v)
  pub under : T (lt v (fin false 1 (pos 64)))
  pub number : T (not (is_nan v))
