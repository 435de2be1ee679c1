use Rattle.std.proofs.Common.{◌∙◌, arith}
use Rattle.letter.specs.Telling.{lines_told}
use Rattle.letter.proofs.Putting.{wrote_letter, length_letter}
use Rattle.letter.proofs.writing.Published.write.Goals as goal

pub returns : goal.returns
returns c =
    let p = c.args.self in
    let ls = lines_told p.extent.members p.entries.now c.args.member p.extent.kinds 0 p.sheet.now in
    let w = c.write_lines-lines.ensures in
    record {
      end = c.place.ensures ∙ length_letter c.args.member c.write_lines-lines.result ls w.count;
      bytes =
          wrote_letter c.args.member c.write_lines-lines.result ls c.to_le_bytes.result c.args.letter.now
          c.write_lines-lines.new.letter c.put-head.new.bytes w.count (omega (arith, w.few, c.requires.room))
          c.to_le_bytes.ensures w.bytes c.put-head.ensures.bytes;
    }
