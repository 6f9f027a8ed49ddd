-- A refusal is a row of the papers' table. Definitions go by its number there, and 0 is acceptance.
use Rattle.std.specs.Prelude.{ℕ, Option, Some, None, Result, Ok, Err}
use Rattle.laws.specs.declared.Refusal.{Refusal}
use Rattle.laws.specs.declared.Refusal.TheVariants as refusal

abbrev pub number : Refusal → ℕ
number refusal.NoHead = 1
number refusal.NoMark = 2
number refusal.Version = 3
number refusal.Head = 4
number refusal.Length = 5
number refusal.Curve = 6
number refusal.Record = 7
number refusal.TooFast = 8
number refusal.NoCurve = 10
number refusal.ShortArrays = 11
number refusal.NotSound = 12
number refusal.ListLength = 13
number refusal.StartFigure = 14
number refusal.Arrival = 15
number refusal.NoMoreSteps = 16
number refusal.NoSegment = 17
number refusal.Sign = 18
number refusal.NoRamp = 19
number refusal.Setting = 20
number refusal.NoSlot = 21
number refusal.SlotFilled = 22
number refusal.SlotEmpty = 23
number refusal.NoRoom = 24
number refusal.NotASurvey = 25
number refusal.SurveySize = 26
number refusal.Followers = 27
number refusal.NothingEnters = 28

-- the number that refuses, and 0 where nothing does
abbrev pub refused : {A : Type 0} → Result A Refusal → ℕ
refused (Ok x) = 0
refused (Err why) = number why

abbrev pub stopped_by : Option Refusal → ℕ
stopped_by None = 0
stopped_by (Some why) = number why
