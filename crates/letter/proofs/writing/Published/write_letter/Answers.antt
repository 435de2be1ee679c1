use Rattle.letter.proofs.SameLetter.{of_evening}
use Rattle.letter.proofs.writing.Published.write_letter.Goals as goal

pub returns : goal.returns
returns c =
    let p = c.args.self in
    let w = c.write_told.ensures in
    record {
      answer = w.answer;
      letter = w.letter;
      evening =
          of_evening p.extent.kinds p.extent.members p.entries.now p.sheet.now c.args.member c.write_told.result
          c.args.letter.now c.write_told.new.letter w.answer w.letter;
    }
