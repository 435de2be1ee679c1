use Rattle.std.proofs.Common.{ℕ, Bool, ◌∙◌, arith, rules}
use Rattle.std.proofs.lemmas.Iterator.{YieldsList-from_range}
use Rattle.std.proofs.lemmas.Iterator.Consumers.{count_from_yields_List}
use Rattle.std.proofs.lemmas.Iterator.Search.{YieldsList-from_take_while}
use Rattle.std.proofs.lemmas.List.Folds.{length-prefix_len}
use Rattle.std.specs.List.{slice_get, range_with_len}
use Rattle.ranking.specs.declared.ranked.Side.TheVariants.{Buyers, Sellers}
use Rattle.ranking.specs.Indexes.{kind_list}
use Rattle.ledger.specs.Pairs.{are_pair}
use Rattle.ledger.proofs.Counting.{pairs_in_front}
use Rattle.ledger.proofs.session.Session.pairs.Goals as goal

pub returns-clause-pairs : goal.returns-clause-pairs
returns-clause-pairs c =
    let bs = kind_list c.args.kind Buyers c.args.self.now.index in
    let ss = kind_list c.args.kind Sellers c.args.self.now.index in
    let both = c.min-both.result in
    let pair : ℕ → Bool = λ r. are_pair (slice_get bs r) (slice_get ss r) in
    count_from_yields_List c.take_while.result _ c.count.ensures.ran
    (YieldsList-from_take_while _ pair (YieldsList-from_range 0 both both c.take_while.ensures.source (omega arith))
    c.take_while.ensures.closure c.take_while.ensures.done (λ x b q k. search rules))
    ∙ length-prefix_len pair (range_with_len 0 both)
    ∙ pairs_in_front bs ss both (omega (arith, c.min-both.ensures, c.len.ensures.count, c.len-2.ensures.count))
