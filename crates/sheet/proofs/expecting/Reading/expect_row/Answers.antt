use Rattle.std.proofs.Common.{Err, sym, ap, ◌∙◌}
use Rattle.std.proofs.lemmas.List.{at_drop_all}
use Rattle.std.proofs.lemmas.Result.{err_from_is_err_and}
use Rattle.orders.specs.declared.refusal.Refusal.TheVariants.{Differs}
use Rattle.sheet.specs.Sheets.{row_bytes}
use Rattle.sheet.specs.Verdicts.{step}
use Rattle.sheet.proofs.Steps.{step_none, stepped2, stepped4, row_ok, row_err_member, row_err_cents}
use Rattle.sheet.proofs.expecting.Reading.expect_row.Goals as goal

pub loop-one-preserved : goal.loop-one-preserved
loop-one-preserved c =
    sym (row_ok c.args.self.sheet.now (Differs c.args.self.kind c.args.field) c.args.row.now c.loop-one.one-index _ c.loop-one.end c.loop-one-test.true
    (stepped2 c.args.self.sheet.now (Differs c.args.self.kind c.args.field) _ _ c.to_le_bytes.ensures c.expect.ensures ∙ c.in_ok-end.was) (stepped4 c.args.self.sheet.now (Differs c.args.self.kind c.args.field) _ _ c.to_le_bytes-in-loop-one.ensures c.expect-in-loop-one.ensures ∙ c.in_ok-end-2.was))
    ∙ c.loop-one.invariant

pub returns-in_err-end : goal.returns-in_err-end
returns-in_err-end c =
    let p = err_from_is_err_and c.from_residual.result c.from_residual.ensures.1 in
    p.1 ∙ ap Err p.2
    ∙ sym (row_err_member c.args.self.sheet.now (Differs c.args.self.kind c.args.field) c.args.row.now c.loop-one.one-index _ c.loop-one.end c.loop-one-test.true
    (stepped2 c.args.self.sheet.now (Differs c.args.self.kind c.args.field) _ _ c.to_le_bytes.ensures c.expect.ensures ∙ c.in_err-end.was))
    ∙ c.loop-one.invariant

pub returns-in_err-end-2 : goal.returns-in_err-end-2
returns-in_err-end-2 c =
    let p = err_from_is_err_and c.from_residual-in_err-end-2.result c.from_residual-in_err-end-2.ensures.1 in
    p.1 ∙ ap Err p.2
    ∙ sym (row_err_cents c.args.self.sheet.now (Differs c.args.self.kind c.args.field) c.args.row.now c.loop-one.one-index _ c.loop-one.end c.loop-one-test.true
    (stepped2 c.args.self.sheet.now (Differs c.args.self.kind c.args.field) _ _ c.to_le_bytes.ensures c.expect.ensures ∙ c.in_ok-end.was) (stepped4 c.args.self.sheet.now (Differs c.args.self.kind c.args.field) _ _ c.to_le_bytes-in-loop-one.ensures c.expect-in-loop-one.ensures ∙ c.in_err-end-2.was))
    ∙ c.loop-one.invariant

pub returns : goal.returns
returns c =
    sym (step_none c.args.self.sheet.now (Differs c.args.self.kind c.args.field) c.loop-one.end)
    ∙ sym (at_drop_all (λ xs. step c.args.self.sheet.now (Differs c.args.self.kind c.args.field) (row_bytes xs) c.loop-one.end) c.args.row.now c.loop-one.one-index c.loop-one-test.false)
    ∙ c.loop-one.invariant
