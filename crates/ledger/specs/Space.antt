-- The memory that is lent for closing.
use Rattle.std.specs.Prelude.{◌≡◌, List, length}
use Rattle.std.specs.Borrow.{MutBor}
use Rattle.ledger.specs.declared.space.Space.{Space}

-- a slice is the one that was lent, and as long
pub record SameSlice {A : Type 0} (b a : MutBor (List A)) : Type 0 where
  pub loan : a.ghost_name ≡ b.ghost_name
  pub long : length a.now ≡ length b.now

pub record SameSpace (b a : Space) : Type 0 where
  pub sheet : SameSlice b.sheet a.sheet
  pub buyers : SameSlice b.buyers a.buyers
  pub sellers : SameSlice b.sellers a.sellers
