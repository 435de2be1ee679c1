use Rattle.std.proofs.Common.{◌<◌, length, take, set, ap, ◌∙◌, arith}
use Rattle.std.proofs.lemmas.List.{length-take}
use Rattle.ranking.specs.Indexes.{kind_list}
use Rattle.ledger.proofs.Filled.{filled_more, is_there}
use Rattle.ledger.proofs.session.Session.first_ranks.Goals as goal
use Rattle.ledger.proofs.session.Session.first_ranks.Goals.{in-Some, in_default}

pub loop-rank-preserved : goal.loop-rank-preserved
loop-rank-preserved c =
    let d = take c.min-count.result c.args.list.now in
    let xs = kind_list c.args.kind c.args.side c.args.self.now.index in
    let i = c.loop-rank.rank in
    let within : i < length d = omega arith in
    let inside : i < length xs = omega (arith, length-take c.min-count.result c.args.list.now, c.min-count.ensures, c.min.ensures, c.len.ensures.count) in
    elim c.match-member_at.branch [
      | in-Some w ↦
          w.place-items-is
          ∙ ap (λ l. set l i w.in-Some.one) c.loop-rank.invariant
          ∙ filled_more d xs i w.in-Some.one within inside w.in-Some.ensures
      | in_default w ↦ absurd (is_there xs i inside w.in_default.ensures)
    ]
