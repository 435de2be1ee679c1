use Rattle.std.proofs.Common.{◌≡◌, ◌≤◌, List, length, take, unwrap_or, ap, ◌∙◌, ap₂, arith}
use Rattle.orders.specs.declared.entry.Entry.{Entry}
use Rattle.orders.specs.Entries.{kind_row}
use Rattle.ranking.specs.declared.ranked.Side.TheVariants.{Buyers, Sellers}
use Rattle.ranking.specs.Ranks.{own}
use Rattle.ranking.specs.Indexes.{kind_list}
use Rattle.clearing.specs.Rule.{cents_of, pairs}
use Rattle.clearing.specs.Kind.{pairs_in}
use Rattle.sheet.proofs.Extents.{length_kind_row, kind_written}
use Rattle.ledger.specs.Indexed.{Lists}
use Rattle.ledger.specs.Publishing.{ClearedAs}
use Rattle.ledger.proofs.Shown.{Filled, filled, cleared_as}
use Rattle.ledger.proofs.session.Session.publish.Goals as goal

pub returns : goal.returns
returns c =
    record {
      cleared = λ row l rb rs. of_row row l rb rs;
      sheet = λ K M codes old lk lm room l long same on.
          let row : List Entry = kind_row M codes c.args.kind in
          let few = length_kind_row M codes c.args.kind in
          let rb : length row ≤ length c.args.buyers.now = omega (arith, few, room) in
          let rs : length row ≤ length c.args.sellers.now = omega (arith, few, room) in
          let w =
          kind_written K M codes c.args.kind c.args.at c.pairs-pairs.result c.clear-outcome.result
          (take c.first_ranks-buying.result c.first_ranks-buying.new.list)
          (take c.first_ranks-selling.result c.first_ranks-selling.new.list) old c.args.sheet.now c.write_kind.new.sheet
          c.write_kind.result lm lk long same on.ends on.bytes (of_pairs row l) (of_row row l rb rs).by_rule
          (buying row l rb).part (selling row l rs).part c.write_kind.ensures.end c.write_kind.ensures.bytes in
          record { ends = c.unwrap_or-end.ensures ∙ ap (λ r. unwrap_or r c.args.at) w.0; bytes = w.1 };
    }
  where
    of_pairs : (row : List Entry) → Lists row c.args.kind c.args.self.now.index → c.pairs-pairs.result ≡ pairs_in own row
    of_pairs row l = c.pairs-pairs.ensures.pairs ∙ ap₂ (λ bs ss. pairs (cents_of bs) (cents_of ss)) (l.sides Buyers) (l.sides Sellers)

    buying : (row : List Entry) → Lists row c.args.kind c.args.self.now.index → length row ≤ length c.args.buyers.now →
        Filled row Buyers c.args.buyers.now c.first_ranks-buying.new.list c.first_ranks-buying.result
    buying row l room =
        filled row Buyers (kind_list c.args.kind Buyers c.args.self.now.index) c.args.buyers.now c.first_ranks-buying.new.list
        c.pairs-pairs.result c.first_ranks-buying.result (l.sides Buyers) (of_pairs row l) room c.first_ranks-buying.ensures.list
        c.first_ranks-buying.ensures.count

    selling : (row : List Entry) → Lists row c.args.kind c.args.self.now.index → length row ≤ length c.args.sellers.now →
        Filled row Sellers c.args.sellers.now c.first_ranks-selling.new.list c.first_ranks-selling.result
    selling row l room =
        filled row Sellers (kind_list c.args.kind Sellers c.args.self.now.index) c.args.sellers.now c.first_ranks-selling.new.list
        c.pairs-pairs.result c.first_ranks-selling.result (l.sides Sellers) (of_pairs row l) room c.first_ranks-selling.ensures.list
        c.first_ranks-selling.ensures.count

    of_row : (row : List Entry) → Lists row c.args.kind c.args.self.now.index → length row ≤ length c.args.buyers.now →
        length row ≤ length c.args.sellers.now →
        ClearedAs row c.clear-outcome.result c.first_ranks-buying.new.list c.first_ranks-selling.new.list
    of_row row l rb rs =
        cleared_as row c.args.buyers.now c.args.sellers.now c.first_ranks-buying.new.list c.first_ranks-selling.new.list
        c.first_ranks-buying.result c.first_ranks-selling.result c.clear-outcome.result (buying row l rb) (selling row l rs)
        c.clear-outcome.ensures.rule
