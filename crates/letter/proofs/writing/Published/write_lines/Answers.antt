use Rattle.std.proofs.Common.{◌+◌, ◌*◌, ◌≤◌, [], ◌∷◌, length, get_or, sym, refl, ap, ◌∙◌, inl, inr, arith}
use Rattle.std.proofs.lemmas.List.{append-nil}
use Rattle.std.specs.Option.{option_to_list}
use Rattle.orders.specs.Entries.{entry_of}
use Rattle.sheet.specs.Writing.{written_at}
use Rattle.sheet.proofs.Written.{written_none}
use Rattle.letter.specs.Lines.{line_bytes}
use Rattle.sheet.proofs.Counted.{at, taken, ended}
use Rattle.letter.proofs.KindByKind.{row_lines, rows_there, more_lines, lines_cut, lines_done}
use Rattle.letter.proofs.Putting.{leads_more, leads_done}
use Rattle.letter.proofs.writing.Published.write_lines.Goals as goal

pub loop-kind-preserved-in-Some-of_entry : goal.loop-kind-preserved-in-Some-of_entry
loop-kind-preserved-in-Some-of_entry c =
    let p = c.args.self in
    let s = c.loop-kind.kind-iterator in
    let rest = c.loop-kind.rest.now in
    let after = c.in-Some-read.after.now in
    let line = c.in-Some-of_entry.line in
    let inv = c.loop-kind.invariant in
    let r = c.in-Some-read.ensures in
    let t =
    taken p.extent.kinds p.extent.members p.entries.now s c.next.new.self c.next.result (c.in-Some.kind, c.in-Some.row) inv.turn c.in-Some.is c.next.ensures.steps in
    let said =
    row_lines p.extent.members (at s) c.args.member c.in-Some.kind p.entries.now c.in-Some.row.now rest c.standing-entry.result
    (option_to_list c.of_entry.result) _ _ _ _ _ _ c.requires.member t.number t.part
    (c.standing-entry.ensures ∙ ap (λ j. entry_of (get_or c.in-Some.row.now j 0)) c.from-in-loop-kind.ensures)
    c.of_entry.ensures r.pairs r.trades r.buyers_price r.sellers_price r.buyers r.sellers in
    let more =
    more_lines p.extent.members p.entries.now c.args.member p.extent.kinds (at s) (at c.next.new.self) rest after (line ∷ []) t.below t.more r.there r.rest
    (sym (ap option_to_list c.in-Some-of_entry.is) ∙ said) in
    let l =
    leads_more _ _ _ (line ∷ []) c.loop-kind.lines (c.loop-kind.lines + 1) c.args.letter.now c.loop-kind.letter c.put_line.new.letter inv.leads more
    refl
    (c.put_line.ensures ∙ ap (λ k. written_at k (line_bytes line) c.loop-kind.letter) c.place.ensures
    ∙ ap (λ b. written_at (3 + 28 * c.loop-kind.lines) b c.loop-kind.letter) (sym (append-nil (line_bytes line))))
    (omega (arith, inv.few, t.below, c.requires.room, c.loop-kind.auto.letter)) in
    record {
      can = (tt, omega (arith, t.turn.size, c.requires.member));
      finite = tt;
      turn = t.turn;
      leads = l;
      few = omega (arith, inv.few, t.more);
    }

pub loop-kind-preserved : goal.loop-kind-preserved
loop-kind-preserved c =
    let p = c.args.self in
    let s = c.loop-kind.kind-iterator in
    let rest = c.loop-kind.rest.now in
    let after = c.in-Some-read.after.now in
    let inv = c.loop-kind.invariant in
    let r = c.in-Some-read.ensures in
    let t =
    taken p.extent.kinds p.extent.members p.entries.now s c.next.new.self c.next.result (c.in-Some.kind, c.in-Some.row) inv.turn c.in-Some.is c.next.ensures.steps in
    let said =
    row_lines p.extent.members (at s) c.args.member c.in-Some.kind p.entries.now c.in-Some.row.now rest c.standing-entry.result
    (option_to_list c.of_entry.result) _ _ _ _ _ _ c.requires.member t.number t.part
    (c.standing-entry.ensures ∙ ap (λ j. entry_of (get_or c.in-Some.row.now j 0)) c.from-in-loop-kind.ensures)
    c.of_entry.ensures r.pairs r.trades r.buyers_price r.sellers_price r.buyers r.sellers in
    let more =
    more_lines p.extent.members p.entries.now c.args.member p.extent.kinds (at s) (at c.next.new.self) rest after [] t.below t.more r.there r.rest
    (sym (ap option_to_list c.in_default-of_entry.is) ∙ said) in
    let l =
    leads_more _ _ _ [] c.loop-kind.lines c.loop-kind.lines c.args.letter.now c.loop-kind.letter c.loop-kind.letter inv.leads more
    (omega arith) (sym (written_none (3 + 28 * c.loop-kind.lines) c.loop-kind.letter))
    (omega (arith, inv.few, t.below, c.requires.room, c.loop-kind.auto.letter)) in
    record {
      can = (tt, omega (arith, t.turn.size, c.requires.member));
      finite = tt;
      turn = t.turn;
      leads = l;
      few = omega (arith, inv.few, t.more);
    }

pub returns-in-None : goal.returns-in-None
returns-in-None c =
    let p = c.args.self in
    let s = c.loop-kind.kind-iterator in
    let t = c.loop-kind.invariant.turn in
    let e = ended p.extent.kinds p.extent.members p.entries.now s c.next.new.self c.next.result t c.in-None.is c.next.ensures.steps in
    let all : p.extent.kinds ≤ at s = elim e [ inl f ↦ omega (arith, f) | inr f ↦ rows_there p.extent.members p.extent.kinds (at s) (length p.entries.now) c.requires.entries f ] in
    let d =
    leads_done _ _ c.loop-kind.lines c.args.letter.now c.loop-kind.letter c.loop-kind.invariant.leads
    (lines_done p.extent.members p.entries.now c.args.member p.extent.kinds (at s) c.loop-kind.rest.now all) in
    record { count = d.0; few = omega (arith, c.loop-kind.invariant.few, t.below); bytes = d.1 }

pub returns-in_default : goal.returns-in_default
returns-in_default c =
    let p = c.args.self in
    let s = c.loop-kind.kind-iterator in
    let t =
    taken p.extent.kinds p.extent.members p.entries.now s c.next.new.self c.next.result (c.in-Some.kind, c.in-Some.row) c.loop-kind.invariant.turn c.in-Some.is
    c.next.ensures.steps in
    let d =
    leads_done _ _ c.loop-kind.lines c.args.letter.now c.loop-kind.letter c.loop-kind.invariant.leads
    (lines_cut p.extent.members p.entries.now c.args.member p.extent.kinds (at s) c.loop-kind.rest.now t.below c.in_default.ensures.there) in
    record { count = d.0; few = omega (arith, c.loop-kind.invariant.few, t.below); bytes = d.1 }
