use Rattle.std.proofs.Common.{◌<◌, ◌≤◌, None, Some, sym, ap, ◌∙◌, subst, arith}
use Rattle.std.proofs.lemmas.Iterator.{YieldsList-from_range, YieldsList-from_slice, YieldsList-from_zip}
use Rattle.std.proofs.lemmas.Iterator.Consumers.{YieldsList-at, YieldsList-turn, YieldsList-end}
use Rattle.std.proofs.lemmas.List.{length_push}
use Rattle.orders.specs.Opening.{account_or}
use Rattle.orders.proofs.Accounts.{beside_at, length_beside, over_here, over_past, over_more}
use Rattle.orders.proofs.opening.check_accounts.Goals as goal

pub returns-then-account-gt-ACCOUNT_MOST : goal.returns-then-account-gt-ACCOUNT_MOST
returns-then-account-gt-ACCOUNT_MOST c =
    let M = c.args.members in
    let xs = c.args.accounts.now in
    let zipped = c.zip-member-items.ensures in
    let road = YieldsList-at c.into_iter-member-iterator.ensures.into_iter_gives (YieldsList-from_zip (YieldsList-from_range 0 M M zipped.first (omega arith)) (YieldsList-from_slice xs zipped.second.0)) in
    let b = beside_at M xs _ _ _ (YieldsList-turn road c.loop-member.yielded c.loop-member.member-iterator c.loop-member.yielded_by c.next.result c.next.new.self (c.in-Some.member, c.in-Some.account) c.in-Some.is c.next.ensures.steps) in
    ap (λ m. account_or m None)
    (ap (λ m. Some m) b.member
    ∙ sym (over_here xs M _ b.exists b.has (subst (λ a. 2000000000 < a) b.account c.if-account-gt-ACCOUNT_MOST.true))
    ∙ c.loop-member.invariant)

pub loop-member-preserved : goal.loop-member-preserved
loop-member-preserved c =
    let M = c.args.members in
    let xs = c.args.accounts.now in
    let zipped = c.zip-member-items.ensures in
    let road = YieldsList-at c.into_iter-member-iterator.ensures.into_iter_gives (YieldsList-from_zip (YieldsList-from_range 0 M M zipped.first (omega arith)) (YieldsList-from_slice xs zipped.second.0)) in
    let b = beside_at M xs _ _ _ (YieldsList-turn road c.loop-member.yielded c.loop-member.member-iterator c.loop-member.yielded_by c.next.result c.next.new.self (c.in-Some.member, c.in-Some.account) c.in-Some.is c.next.ensures.steps) in
    rw (length_push c.loop-member.yielded (c.in-Some.member, c.in-Some.account))
    (sym (over_more xs M _ b.exists b.has (subst (λ a. a ≤ 2000000000) b.account c.if-account-gt-ACCOUNT_MOST.false))
    ∙ c.loop-member.invariant)

pub returns : goal.returns
returns c =
    let M = c.args.members in
    let xs = c.args.accounts.now in
    let zipped = c.zip-member-items.ensures in
    let road = YieldsList-at c.into_iter-member-iterator.ensures.into_iter_gives (YieldsList-from_zip (YieldsList-from_range 0 M M zipped.first (omega arith)) (YieldsList-from_slice xs zipped.second.0)) in
    let all = YieldsList-end road c.loop-member.yielded c.loop-member.member-iterator c.loop-member.yielded_by c.next.result c.next.new.self c.in-None.is c.next.ensures.steps in
    ap (λ m. account_or m None) (sym (over_past xs M _ (all.1 ∙ length_beside M xs)) ∙ c.loop-member.invariant)
