use Rattle.std.proofs.Common.{length, Err, sym, ap, ◌∙◌, arith, rules}
use Rattle.std.proofs.lemmas.Result.{err_from_is_err_and}
use Rattle.std.proofs.lemmas.Bool.{cond-true, cond-false, eq-eqb, ne_eqb}
use Rattle.sheet.specs.Verdicts.{ended}
use Rattle.sheet.proofs.Checks.{kinds_begin, next_kind, refused_kind, kinds_over}
use Rattle.sheet.proofs.checking.check_kinds.Goals as goal

pub loop-kind-init : goal.loop-kind-init
loop-kind-init c =
    let u =
    kinds_begin c.args.extent.kinds c.args.extent.members c.args.codes.now c.args.sheet.now c.into_iter-kind-iterator.result (search rules)
    (search rules) (search rules) in
    ((tt, omega (arith, u.turn.size, c.requires.few.0)), tt, u)

pub loop-kind-preserved : goal.loop-kind-preserved
loop-kind-preserved c =
    let u =
    next_kind c.args.extent.kinds c.args.extent.members c.args.codes.now c.args.sheet.now c.loop-kind.kind-iterator c.next.new.self c.next.result
    c.loop-kind.at _ c.check_row.result c.loop-kind.invariant.2 c.in-Some.is c.next.ensures.steps c.check_row.ensures c.in_ok-at.was in
    ((tt, omega (arith, u.turn.size, c.requires.few.0)), tt, u)

pub returns-in_err-at : goal.returns-in_err-at
returns-in_err-at c =
    let p = err_from_is_err_and c.from_residual.result c.from_residual.ensures.1 in
    p.1 ∙ ap Err p.2
    ∙ ap (ended c.args.sheet.now)
    (sym (refused_kind c.args.extent.kinds c.args.extent.members c.args.codes.now c.args.sheet.now c.loop-kind.kind-iterator c.next.new.self c.next.result
    c.loop-kind.at _ c.check_row.result c.loop-kind.invariant.2 c.in-Some.is c.next.ensures.steps c.check_row.ensures c.in_err-at.was))

pub returns-then-at-sheet : goal.returns-then-at-sheet
returns-then-at-sheet c =
    sym (cond-false _ _ _ (ne_eqb c.loop-kind.at (length c.args.sheet.now) c.if-at-sheet.true))
    ∙ ap (ended c.args.sheet.now)
    (sym (kinds_over c.args.extent.kinds c.args.extent.members c.args.codes.now c.args.sheet.now c.loop-kind.kind-iterator c.next.new.self c.next.result
    c.loop-kind.at c.loop-kind.invariant.2 c.requires.few.0 c.requires.there c.in-None.is c.next.ensures.steps))

pub returns : goal.returns
returns c =
    sym (cond-true _ _ _ (eq-eqb c.loop-kind.at (length c.args.sheet.now) c.if-at-sheet.false))
    ∙ ap (ended c.args.sheet.now)
    (sym (kinds_over c.args.extent.kinds c.args.extent.members c.args.codes.now c.args.sheet.now c.loop-kind.kind-iterator c.next.new.self c.next.result
    c.loop-kind.at c.loop-kind.invariant.2 c.requires.few.0 c.requires.there c.in-None.is c.next.ensures.steps))
