use Rattle.std.proofs.Common.{◌≡◌, Bool, cond, List, [], ◌∷◌, leb, suc, refl, ap, ◌∙◌, rules, tests, add_comm, add-one}
use Rattle.std.specs.List.{zip, prefix_len}
use Rattle.std.proofs.lemmas.Iterator.{YieldsList-from_slice, YieldsList-from_zip}
use Rattle.std.proofs.lemmas.Iterator.Consumers.{YieldsList-at, count_from_yields_List}
use Rattle.std.proofs.lemmas.Iterator.Search.{YieldsList-from_take_while}
use Rattle.std.proofs.lemmas.List.Folds.{length-prefix_len}
use Rattle.ranking.specs.declared.ranked.Ranked.{Ranked}
use Rattle.clearing.specs.Rule.{cents_of, pairs}
use Rattle.clearing.proofs.rule.count_pairs.Goals as goal

-- a buyer and a seller whose ask is at most the bid
abbrev meets : Ranked × Ranked → Bool
meets p = leb p.1.cents.0 p.0.cents.0

first_meeting : (buyers sellers : List Ranked) → prefix_len meets (zip buyers sellers) ≡ pairs (cents_of buyers) (cents_of sellers)
unfolding pairs
first_meeting [] sellers = refl
first_meeting (b ∷ buyers) [] = refl
first_meeting (b ∷ buyers) (s ∷ sellers) =
    ap (λ n. cond (meets (b, s)) n 0) (add_comm 1 _ ∙ add-one _ ∙ ap suc (first_meeting buyers sellers))

pub returns-clause-pairs : goal.returns-clause-pairs
returns-clause-pairs c =
    let buyers = c.args.buyers.now in
    let sellers = c.args.sellers.now in
    let source = YieldsList-at c.take_while.ensures.source (YieldsList-from_zip (YieldsList-at c.zip.ensures.first (YieldsList-from_slice buyers c.iter.ensures.rest)) (YieldsList-from_slice sellers c.zip.ensures.second.0)) in
    count_from_yields_List c.take_while.result _ c.count.ensures.ran
    (YieldsList-from_take_while _ meets source c.take_while.ensures.closure c.take_while.ensures.done (λ x b q k. search (rules, tests)))
    ∙ length-prefix_len meets (zip buyers sellers) ∙ first_meeting buyers sellers
