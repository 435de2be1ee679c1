use Rattle.std.proofs.Common.{◌≡◌, ◌+◌, ◌*◌, length, take}
use Rattle.sheet.specs.Sheets.{row_bytes}
use Rattle.sheet.specs.Writing.{written_at}
use Rattle.sheet.proofs.writing.put_row.Given as goal

abbrev pub invariant-loop-one : goal.invariant-loop-one
invariant-loop-one l =
    (l.end ≡ l.at + 6 * l.one-index)
    × (length l.sheet ≡ length l.initial.sheet)
    × (l.sheet ≡ written_at l.at (row_bytes (take l.one-index l.row)) l.initial.sheet)
