use Rattle.std.proofs.Common.{count_by, ap, ◌∙◌}
use Rattle.ranking.specs.Kinds.{book_list}
use Rattle.ranking.specs.Ranks.{before, own}
use Rattle.ranking.proofs.index.Index.count_before.Goals as goal

pub returns-in-Some : goal.returns-in-Some
returns-in-Some g c =
    c.count_before.ensures
    ∙ ap (λ o. count_by (λ x. before c.args.side own x c.args.limit) (book_list g.B.OrderBook.listed c.args.side o)) c.in-Some.ensures

pub returns-in-None : goal.returns-in-None
returns-in-None g c =
    ap (λ o. count_by (λ x. before c.args.side own x c.args.limit) (book_list g.B.OrderBook.listed c.args.side o)) c.in-None.ensures
