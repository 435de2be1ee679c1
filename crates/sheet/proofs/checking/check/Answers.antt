use Rattle.std.proofs.Common.{sym, subst}
use Rattle.sheet.specs.Statements.{AcceptsExactly, NamedRight, TellsRule}
use Rattle.sheet.proofs.Acceptance.{accepts_exactly, named_right, tells_rule}
use Rattle.sheet.proofs.checking.check.Goals as goal

pub returns-clause-accepts : goal.returns-clause-accepts
returns-clause-accepts c =
    let e = c.args.extent in
    subst (AcceptsExactly e.kinds e.members c.args.codes.now c.args.sheet.now) (sym c.answer.ensures)
    (accepts_exactly e.kinds e.members c.args.codes.now c.args.sheet.now)

pub returns-clause-named : goal.returns-clause-named
returns-clause-named c =
    let e = c.args.extent in
    subst (NamedRight e.kinds e.members c.args.codes.now c.args.sheet.now) (sym c.answer.ensures)
    (named_right e.kinds e.members c.args.codes.now c.args.sheet.now)

pub returns-clause-tells : goal.returns-clause-tells
returns-clause-tells c =
    let e = c.args.extent in
    subst (TellsRule e.kinds e.members c.args.codes.now c.args.sheet.now) (sym c.answer.ensures)
    (tells_rule e.kinds e.members c.args.codes.now c.args.sheet.now)
