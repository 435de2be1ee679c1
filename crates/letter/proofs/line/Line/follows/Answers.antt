use Rattle.std.proofs.Common.{◌≡◌, Some, None, Option, rules, refl, ◌∙◌}
use Rattle.std.specs.Option.{option_eq}
use Rattle.orders.specs.declared.money.HalfCents.{HalfCents}
use Rattle.orders.specs.contracts.money.HalfCentsPartialEq.TheImpl.{eq-value}
use Rattle.letter.specs.Following.{same_price, follows}
use Rattle.letter.proofs.line.Line.follows.Goals as goal

same : (x y : Option HalfCents) → option_eq eq-value.it x y ≡ same_price x y
same None None = refl
same None (Some y) = refl
same (Some x) None = refl
same (Some x) (Some y) = refl

pub returns-then-can_stand : goal.returns-then-can_stand
unfolding follows
returns-then-can_stand c = let h = c.eq.ensures ∙ same c.args.self.now.price c.due.result in search rules

pub returns-else-can_stand : goal.returns-else-can_stand
unfolding follows
returns-else-can_stand c = search rules
