-- Write: the stored network into a byte buffer; later bytes stay.
use Rattle.std.specs.Prelude.{ℕ, ◌≤◌, ◌≡◌, true, not, List, [], ◌∷◌, ◌++◌, ltb, length, drop, Float}
use Rattle.laws.specs.First.{row, if_accepted}
use Rattle.laws.specs.BigEndian.{Bytes}
use Rattle.format.specs.File.{file_size}
use Rattle.format.specs.Written.{file_of}
use Rattle.book.specs.Arrangement.{network_at}
use Rattle.book.specs.Sound.{sound}
use Rattle.book.specs.Question.{Answer, refused, figures}
use Rattle.book.specs.Calls.{Call, start, is_start, no_call}
use Rattle.book.specs.Perform.{Arrays, refusal_at, perform, after, taken}
use Rattle.book.specs.Run.{CallOrRun, single, perform_any, singles}

-- 12 study not sound; 24 buffer too short
unfoldable pub write_refusal : List ℕ → List Float → List ℕ → ℕ
write_refusal words speeds out =
    row (not (sound words speeds)) 12 (row (ltb (length out) (file_size (network_at words).head)) 24 0)

-- the buffer afterwards
unfoldable pub written_bytes : List ℕ → List Float → List ℕ → List ℕ
written_bytes words speeds out =
    if_accepted (write_refusal words speeds out) (file_of (network_at words) ++ drop (file_size (network_at words).head) out) out

-- an accepted call answers how many bytes it has written
unfoldable pub write_answer : List ℕ → List Float → List ℕ → Answer
write_answer words speeds out =
    if_accepted (write_refusal words speeds out)
    (figures (file_size (network_at words).head ∷ []))
    (refused (write_refusal words speeds out))

-- an accepted network writes back to the file's bytes: after a Start to which no refusal applies, and any later calls and runs none of
-- which is an accepted Start, Write into a buffer that is long enough gives the bytes of the file; later bytes stay
abbrev pub StudyWritesBack : Type 0
StudyWritesBack =
    (file mvs speeds queues : List ℕ) (cs : List CallOrRun) (a : Arrays) (out : List ℕ)
    → (let begin : Call = start file mvs speeds queues in
    let y : Arrays = (perform begin a).state in
    let z : Arrays = after perform_any (single begin ∷ cs) a in
    refusal_at begin a ≡ 0
    → no_call is_start (taken (singles cs y) y) ≡ true
    → Bytes file
    → length file ≤ length out
    → written_bytes z.words z.speeds out ≡ file ++ drop (length file) out)
