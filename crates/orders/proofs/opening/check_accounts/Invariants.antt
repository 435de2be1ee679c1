use Rattle.std.proofs.Common.{◌≡◌, length, take, drop}
use Rattle.orders.specs.Opening.{first_over}
use Rattle.orders.proofs.opening.check_accounts.Given as goal

-- what is left gives the answer
abbrev pub invariant-loop-member : goal.invariant-loop-member
invariant-loop-member l =
    first_over (length l.yielded) (drop (length l.yielded) (take l.members l.accounts)) ≡ first_over 0 (take l.members l.accounts)
