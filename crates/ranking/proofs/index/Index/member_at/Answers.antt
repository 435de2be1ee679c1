use Rattle.std.proofs.Common.{ap, ◌∙◌}
use Rattle.std.specs.List.{slice_get}
use Rattle.ranking.specs.Kinds.{book_list}
use Rattle.ranking.proofs.index.Index.member_at.Goals as goal

pub returns-in_err-book : goal.returns-in_err-book
returns-in_err-book g c = c.from_residual.ensures ∙ ap (λ o. slice_get (book_list g.B.OrderBook.listed c.args.side o) c.args.rank) c.in_err-book.ensures

pub returns : goal.returns
returns g c =
    c.member_at.ensures ∙ ap (λ o. slice_get (book_list g.B.OrderBook.listed c.args.side o) c.args.rank) c.in_ok-book.ensures
