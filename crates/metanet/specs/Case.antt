-- A case: the state of each segment, and the totals of its line so far. A state is N, the queue w, the speed v and three parts: what the
-- sign is set to, the ramp with its setting and its rate R, and the flows of the last step (src/lib.rt has their figures and units).
use Rattle.std.specs.Prelude.{ℕ, List, get_or, Float}
use Rattle.std.specs.Float.{nan}
use Rattle.metanet.specs.declared.SignSetting.{SignSetting}
use Rattle.metanet.specs.declared.Ramp.{Ramp}
use Rattle.metanet.specs.declared.SegmentState.{SegmentState}

pub record Case : Type 0 where
  pub states : List SegmentState
  pub steps : ℕ
  pub arrivals : ℕ
  pub exits : ℕ
  pub time : ℕ

-- the kinds of setting: open, fixed, ALINEA
abbrev pub open_kind : ℕ
open_kind = 0

abbrev pub fixed_kind : ℕ
fixed_kind = 1

abbrev pub alinea_kind : ℕ
alinea_kind = 2

-- ---- a state with its ramp open, its sign dark, flows 0 and b 0

abbrev pub dark_sign : SignSetting
dark_sign = record { limit = 0; compliance = 0 }

-- a ramp that is not ALINEA's
abbrev pub plain_ramp : ℕ → ℕ → Ramp
plain_ramp kind rate = record { kind = kind; rate = rate; target = 0; gain = 0; least = 0; interval = 0; sum = 0; summed = 0 }

-- R of an open segment is its Q
abbrev pub open_ramp : ℕ → Ramp
open_ramp most = plain_ramp open_kind most

abbrev pub open_state : ℕ → ℕ → ℕ → Float → SegmentState
open_state count queue most speed =
    record { count = count; queue = queue; sign = dark_sign; ramp = open_ramp most; flows = record { outflow = 0; remainder = 0; release = 0 }; speed = speed }

-- ---- state i, counted from 0

abbrev pub no_state : SegmentState
no_state = open_state 0 0 0 nan

abbrev pub state_of : List SegmentState → ℕ → SegmentState
state_of states i = get_or states i no_state
