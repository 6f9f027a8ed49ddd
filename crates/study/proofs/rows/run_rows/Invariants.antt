-- The rows from row k on come, on the arrays as they are, to what all rows come to on those lent.
use Rattle.std.proofs.Common.{◌≡◌, drop}
use Rattle.survey_file.specs.File.{rows_in}
use Rattle.book.specs.Perform.{lent, perform}
use Rattle.book.specs.Run.{run_rows}
use Rattle.book.proofs.Rows.{RowReady}
use Rattle.study.proofs.rows.run_rows.Given as goal

abbrev pub invariant-loop-k : goal.invariant-loop-k
invariant-loop-k l = record {
  ready : RowReady l.words l.speeds l.n;
  rest : run_rows perform 0 (rows_in l.file) (lent l.initial.words l.initial.speeds) ≡ run_rows perform l.k (drop l.k (rows_in l.file)) (lent l.words l.speeds);
}
