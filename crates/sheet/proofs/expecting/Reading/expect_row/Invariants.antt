use Rattle.std.proofs.Common.{◌≡◌, drop}
use Rattle.orders.specs.declared.refusal.Refusal.TheVariants.{Differs}
use Rattle.sheet.specs.Sheets.{row_bytes}
use Rattle.sheet.specs.Verdicts.{step}
use Rattle.sheet.proofs.expecting.Reading.expect_row.Given as goal

abbrev pub invariant-loop-one : goal.invariant-loop-one
invariant-loop-one l =
    step l.self.sheet.now (Differs l.self.kind l.field) (row_bytes (drop l.one-index l.row)) l.end
    ≡ step l.self.sheet.now (Differs l.self.kind l.field) (row_bytes l.row) l.at
