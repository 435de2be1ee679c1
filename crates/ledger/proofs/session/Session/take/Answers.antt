use Rattle.std.proofs.Common.{◌≡◌, ℕ, List, is_ok, sym, ap, subst, rules}
use Rattle.orders.specs.Lent.{held, judged, answer}
use Rattle.orders.proofs.Dues.{taken_when_due}
use Rattle.ledger.specs.declared.session.Session.{Session}
use Rattle.ledger.specs.Indexed.{Indexed}
use Rattle.ledger.proofs.Kept.{indexed_after}
use Rattle.ledger.proofs.session.Session.take.Goals as goal
use Rattle.ledger.proofs.session.Session.take.Goals.{in-Ok, in_default}

pub returns-clause-indexed : goal.returns-clause-indexed
returns-clause-indexed c was =
    let K = c.args.self.open.extent.kinds in
    let M = c.args.self.open.extent.members in
    let codes : List ℕ = c.enter-entered.new.books.entries.now in
    elim c.match-entered.branch [
      | in-Ok w ↦
          subst (λ (s : Session). Indexed K M codes s.index) (sym w.self-is)
          (subst (λ (now : List ℕ). Indexed K M now w.replace.new.index) (sym w.in-Ok.ensures.entries)
          (indexed_after K M (held c.args.books.now) c.args.self.index w.replace.new.index was c.args.message.now w.in-Ok.order
          (sym w.in-Ok.ensures.order)
          (record { row = w.replace.ensures.row; rest = w.replace.ensures.rest; size = w.replace.ensures.size })))
      | in_default w ↦
          subst (λ (s : Session). Indexed K M codes s.index) (sym w.self-is)
          (subst (λ (now : List ℕ). Indexed K M now c.args.self.index) (sym w.in_default.ensures.entries) was)
    ]

pub returns-clause-due : goal.returns-clause-due
returns-clause-due c =
    let h = held c.args.books.now in
    let told : c.map.result ≡ answer (judged c.args.self.open.extent.kinds c.args.self.open.extent.members h c.args.message.now) = search rules in
    taken_when_due c.args.self.open.extent.kinds c.args.self.open.extent.members h c.args.message.now (is_ok c.map.result) (ap is_ok told)
