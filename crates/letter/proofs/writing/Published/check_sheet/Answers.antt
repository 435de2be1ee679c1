use Rattle.std.proofs.Common.{◌≡◌, length, None, Err, is_some, IfSome, sym, ap, ◌∙◌, subst}
use Rattle.std.specs.Option.{ok_or}
use Rattle.std.specs.Result.{result_ok}
use Rattle.std.proofs.lemmas.Bool.{cond-true, cond-false}
use Rattle.std.proofs.lemmas.Result.{err_from_is_err_and}
use Rattle.orders.specs.declared.refusal.Refusal.TheVariants.{Ends}
use Rattle.sheet.specs.Sections.{past_kind}
use Rattle.letter.specs.Telling.{sheet_checked}
use Rattle.letter.proofs.KindByKind.{more_kinds, no_kind, kinds_done}
use Rattle.letter.proofs.writing.Published.check_sheet.Goals as goal

pub returns-in_err-after : goal.returns-in_err-after
returns-in_err-after c =
    let p = c.args.self in
    let k = c.loop-kind._kind in
    let rest = c.loop-kind.rest.now in
    let none : c.read.result ≡ None = c.ok_or.ensures.ok_part ∙ ap result_ok c.in_err-after.was in
    let why = sym c.in_err-after.was ∙ c.ok_or.ensures.value ∙ ap (λ o. ok_or o (Ends (length p.sheet.now))) none in
    let cut = no_kind p.extent.kinds k rest c.loop-kind-test.true (sym (ap is_some none) ∙ c.read.ensures.there) in
    let told : sheet_checked p.extent.kinds p.sheet.now ≡ Err (Ends (length p.sheet.now)) =
    cond-false _ _ _ (c.loop-kind.invariant ∙ cut) in
    let e = err_from_is_err_and c.from_residual.result c.from_residual.ensures.1 in
    cc (e.1, e.2, why, told)

pub loop-kind-preserved : goal.loop-kind-preserved
loop-kind-preserved c =
    let k = c.loop-kind._kind in
    let rest = c.loop-kind.rest.now in
    let some = c.ok_or.ensures.ok_part ∙ ap result_ok c.in_ok-after.was in
    c.loop-kind.invariant
    ∙ more_kinds c.args.self.extent.kinds k rest c.in_ok-after.after.now c.loop-kind-test.true
    (sym (ap is_some some) ∙ c.read.ensures.there)
    (subst (λ o. IfSome o (λ x. x.1.now ≡ past_kind rest)) some c.read.ensures.rest)

pub returns : goal.returns
returns c =
    let p = c.args.self in
    sym
    (cond-true _ _ _
    (c.loop-kind.invariant ∙ kinds_done p.extent.kinds c.loop-kind._kind c.loop-kind.rest.now c.loop-kind-test.false))
