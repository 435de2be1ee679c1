use Rattle.std.proofs.Common.{◌≡◌, length, Err, Result, rules, arith}
use Rattle.orders.specs.declared.refusal.Refusal.{Refusal}
use Rattle.orders.specs.declared.refusal.Refusal.TheVariants.{Ends}
use Rattle.letter.specs.Checks.{checked}
use Rattle.letter.proofs.Accepted.{promises}
use Rattle.letter.proofs.checking.check.Goals as goal

pub returns-in_default : goal.returns-in_default
returns-in_default c =
    let short : ◌≡◌ {A = Result Unit Refusal} (Err (Ends (length c.args.letter.now))) (checked c.args.letter.now) = search rules in
    let p = promises c.args.letter.now _ (λ i. omega (arith, c.type_inv.letter i)) short in
    record { answer = p.told; accepted = p.exactly; evenings = p.evenings; relied = p.relied }

pub returns : goal.returns
returns c =
    let told : c.check_lines.result ≡ checked c.args.letter.now = search rules in
    let p = promises c.args.letter.now _ (λ i. omega (arith, c.type_inv.letter i)) told in
    record { answer = p.told; accepted = p.exactly; evenings = p.evenings; relied = p.relied }
