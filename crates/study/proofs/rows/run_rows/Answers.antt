-- Row k, read and refused, or read and taken.
use Rattle.std.proofs.Common.{rules, ◌≡◌, ◌<◌, true, false, ap, sym, ◌∙◌, arith}
use Rattle.std.specs.Option.{is_some}
use Rattle.survey_file.specs.File.{rows_on}
use Rattle.study.proofs.Stepping.{row_taken, ready_next}
use Rattle.study.proofs.Running.{rest_taken, rest_stopped, ends, stopped_number, stopped_some, stopped_none}
use Rattle.study.proofs.rows.run_rows.Goals as goal

pub returns-then-ends : goal.returns-then-ends
returns-then-ends c =
    let v = c.step_row.result in
    let more : c.loop-k.k < rows_on c.args.file.now = omega arith in
    let t = row_taken c.loop-k.k _ c.requires.accepted_survey c.row.ensures c.step_row.ensures in
    let stops : is_some c.err-stopped.result ≡ true = search rules in
    let some = stopped_some v (ap is_some (sym c.err-stopped.ensures.value) ∙ stops) in
    rw (c.err-stopped.ensures.value, stopped_number v) (ends (c.loop-k.invariant.rest ∙ rest_stopped _ _ _ _ more t some))

pub loop-k-preserved : goal.loop-k-preserved
loop-k-preserved c =
    let v = c.step_row.result in
    let more : c.loop-k.k < rows_on c.args.file.now = omega arith in
    let t = row_taken c.loop-k.k _ c.requires.accepted_survey c.row.ensures c.step_row.ensures in
    let goes_on : is_some c.err-stopped.result ≡ false = search rules in
    let none = stopped_none v (ap is_some (sym c.err-stopped.ensures.value) ∙ goes_on) in
    record { ready = ready_next _ c.loop-k.invariant.ready t none; rest = c.loop-k.invariant.rest ∙ rest_taken _ _ _ _ more t none }
