use Rattle.std.proofs.Common.{◌≡◌, [], map, length, vec_items, ap, arith}
use Rattle.ranking.specs.declared.ranked.Side.TheVariants.{Buyers, Sellers}
use Rattle.ranking_wide.specs.Books.{listed, members, tree}
use Rattle.ranking_wide.specs.Keys.{ranked_of}
use Rattle.ranking_wide.specs.Trees.{keys_of}
use Rattle.orders.specs.declared.entry.Entry.TheVariants.{Nothing}
use Rattle.std.proofs.lemmas.List.{length-replicate}
use Rattle.ranking_wide.proofs.Standing.{by_side, kept_new}
use Rattle.ranking_wide.specs.Sound.{Kept}
use Rattle.ranking.specs.Sides.{of_side}
use Rattle.ranking_wide.proofs.book.methods.BookOrderBook.new.Goals as goal

pub invariant_of-result : goal.invariant_of-result
invariant_of-result c =
    let e = c.in_ok-entries.ensures.items_if_clones_equal (λ y g. g) in
    let b = c.in_ok-new.ensures in
    let s = c.in_ok-new-2.ensures in
    record {
      sound =
          ∣ record {
            sides = by_side Buyers (λ x. Kept x (of_side x (record { buyers = c.in_ok-new.field-0; sellers = c.in_ok-new-2.field-0 })) (vec_items c.in_ok-entries.entries))
                (kept_new Buyers c.in_ok-new.field-0 _ c.args.count e b.0 b.1 b.2)
                (kept_new Sellers c.in_ok-new-2.field-0 _ c.args.count e s.0 s.1 s.2);
            few = omega (arith, ap length e, length-replicate c.args.count Nothing, c.ranges.count.fits);
          } ∣₁;
    }

pub returns : goal.returns
unfolding members listed tree
returns c = (
  c.in_ok-entries.ensures.len,
  by_side Buyers (λ x. map (ranked_of x) (keys_of (of_side x (record { buyers = c.in_ok-new.field-0; sellers = c.in_ok-new-2.field-0 }))) ≡ [])
      (ap (map (ranked_of Buyers)) c.in_ok-new.ensures.0) (ap (map (ranked_of Sellers)) c.in_ok-new-2.ensures.0),
)
