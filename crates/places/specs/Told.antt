-- What an answer says: the numbers of the place at which a file is refused, and zeros where it is accepted.
use Rattle.std.specs.Prelude.{Option, Some, None}
use Rattle.laws.specs.Refusal.{number}
use Rattle.format.specs.Place.{Place, place}
use Rattle.places.specs.declared.Place as answer

abbrev pub told_place : Option answer.Place → Place
told_place None = place 0 0 0 0
told_place (Some p) = place (number p.refusal) p.part p.rule p.offset
