use Rattle.std.proofs.Common.{length, drop, Err, Less, Equal, Greater, sym, ap, ◌∙◌, arith}
use Rattle.std.proofs.lemmas.Bool.{cond-true, cond-false}
use Rattle.std.proofs.lemmas.Cmp.{ranked}
use Rattle.orders.specs.declared.refusal.Refusal.TheVariants.{GoesOn, NotByRule}
use Rattle.sheet.proofs.Counted.{at, taken, ended}
use Rattle.letter.proofs.Stepping.{step, judged, cut_short, all_judged, goes_on, nothing_left}
use Rattle.letter.proofs.checking.check_lines.Goals as goal

pub returns-then-not-is_right : goal.returns-then-not-is_right
returns-then-not-is_right c =
    let bs = c.args.letter.now in
    let i = at c.loop-line.line-iterator in
    let t =
    taken c.args.lines 28 (drop 3 bs) c.loop-line.line-iterator c.next.new.self c.next.result (c.in-Some.line, c.in-Some.bytes)
    c.loop-line.invariant.turn c.in-Some.is c.next.ensures.steps in
    let wrong =
    judged bs c.in-Some.bytes.now i t.long t.part
    ∙ cond-false _ _ _ (sym c.is_right.ensures ∙ c.if-not-is_right.true) in
    ap (λ k. Err (NotByRule k)) (c.from.ensures ∙ t.number) ∙ sym (c.loop-line.invariant.same ∙ step bs i (at c.next.new.self) c.args.lines t.below t.more wrong)

pub loop-line-preserved : goal.loop-line-preserved
loop-line-preserved c =
    let bs = c.args.letter.now in
    let n = c.args.lines in
    let i = at c.loop-line.line-iterator in
    let t =
    taken n 28 (drop 3 bs) c.loop-line.line-iterator c.next.new.self c.next.result (c.in-Some.line, c.in-Some.bytes)
    c.loop-line.invariant.turn c.in-Some.is c.next.ensures.steps in
    let good =
    judged bs c.in-Some.bytes.now i t.long t.part
    ∙ cond-true _ _ _ (sym c.is_right.ensures ∙ c.if-not-is_right.false) in
    record {
      can = (tt, omega (arith, t.turn.size));
      finite = tt;
      turn = t.turn;
      same = c.loop-line.invariant.same ∙ step bs i (at c.next.new.self) n t.below t.more good;
    }

pub returns-in-Less : goal.returns-in-Less
returns-in-Less c =
    let bs = c.args.letter.now in
    let n = c.args.lines in
    let s = c.loop-line.line-iterator in
    let t = c.loop-line.invariant.turn in
    let e = ended n 28 (drop 3 bs) s c.next.new.self c.next.result t c.in-None.is c.next.ensures.steps in
    sym
    (c.loop-line.invariant.same
    ∙ cut_short bs (at s) n e t.below t.room c.requires
    (omega (arith, c.place-end.ensures, ranked (length bs) c.place-end.result Less (sym c.in-Less.is ∙ c.cmp.ensures))))

pub returns-in-Equal : goal.returns-in-Equal
returns-in-Equal c =
    let bs = c.args.letter.now in
    let n = c.args.lines in
    let s = c.loop-line.line-iterator in
    let t = c.loop-line.invariant.turn in
    let e = ended n 28 (drop 3 bs) s c.next.new.self c.next.result t c.in-None.is c.next.ensures.steps in
    let end = ranked (length bs) c.place-end.result Equal (sym c.in-Equal.is ∙ c.cmp.ensures) in
    sym (c.loop-line.invariant.same ∙ all_judged bs (at s) n e t.below (omega (arith, c.place-end.ensures, end)) ∙ nothing_left bs n (omega (arith, c.place-end.ensures, end)))

pub returns-in-Greater : goal.returns-in-Greater
returns-in-Greater c =
    let bs = c.args.letter.now in
    let n = c.args.lines in
    let s = c.loop-line.line-iterator in
    let t = c.loop-line.invariant.turn in
    let e = ended n 28 (drop 3 bs) s c.next.new.self c.next.result t c.in-None.is c.next.ensures.steps in
    let end = ranked (length bs) c.place-end.result Greater (sym c.in-Greater.is ∙ c.cmp.ensures) in
    ap (λ k. Err (GoesOn k)) c.place-end.ensures
    ∙ sym
    (c.loop-line.invariant.same ∙ all_judged bs (at s) n e t.below (omega (arith, c.place-end.ensures, end))
    ∙ goes_on bs n (omega (arith, c.place-end.ensures, end)))
