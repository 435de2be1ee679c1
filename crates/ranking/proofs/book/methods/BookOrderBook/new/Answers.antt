use Rattle.std.proofs.Common.{refl}
use Rattle.ranking.specs.Books.{listed, tree, members}
use Rattle.ranking.proofs.Bookings.{new_sound, new_listed}
use Rattle.ranking.proofs.book.methods.BookOrderBook.new.Goals as goal

pub invariant_of-result : goal.invariant_of-result
invariant_of-result c = record {
  sound =
      ∣ new_sound c.args.count c.ranges.count.fits
      (record { left = 65535; right = 65535; count = 0; cents = record { 0 = 0 } }) refl
      (c.in_ok-nodes.ensures.items_if_clones_equal (λ y e. e)) ∣₁;
}

pub returns : goal.returns
unfolding members listed tree
returns c = (
  c.in_ok-nodes.ensures.len,
  new_listed c.args.count c.ranges.count.fits
      (record { left = 65535; right = 65535; count = 0; cents = record { 0 = 0 } }) refl
      (c.in_ok-nodes.ensures.items_if_clones_equal (λ y e. e)),
)
