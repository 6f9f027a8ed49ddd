-- A list written over another.
use Rattle.std.specs.Prelude.{List, ◌++◌, length, take, drop}

-- the list out with src over its first elements, as far as there is room
unfoldable pub over : {A : Type 0} → List A → List A → List A
over src out = take (length out) src ++ drop (length src) out
