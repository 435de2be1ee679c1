-- Both sides of a kind at once: a number is good against another if it is no worse on the side. All that the theory asks
-- of a side stands here, a line for each side.
use Rattle.std.proofs.Common.{◌≡◌, ℕ, ◌+◌, ◌*◌, ◌<◌, ◌≤◌, ◌⊎◌, inl, inr, arith}
use Rattle.std.proofs.lemmas.Bool.{cases_lt}
use Rattle.ranking.specs.declared.ranked.Side.{Side}
use Rattle.ranking.specs.declared.ranked.Side.TheVariants.{Buyers, Sellers}

abbrev pub Good : Side → ℕ → ℕ → Type 0
Good Buyers x y = y ≤ x
Good Sellers x y = x ≤ y

abbrev pub Better : Side → ℕ → ℕ → Type 0
Better Buyers x y = y < x
Better Sellers x y = x < y

abbrev pub other : Side → Side
other Buyers = Sellers
other Sellers = Buyers

pub good_turned : (s : Side) (x y : ℕ) → Good s x y → Good (other s) y x
good_turned Buyers x y h = h
good_turned Sellers x y h = h

pub good_same : (s : Side) (x y x' y' : ℕ) → Good s x y → x ≡ x' → y ≡ y' → Good s x' y'
good_same Buyers x y x' y' h e f = omega arith
good_same Sellers x y x' y' h e f = omega arith

pub good_refl : (s : Side) (x : ℕ) → Good s x x
good_refl Buyers x = omega arith
good_refl Sellers x = omega arith

pub good_trans : (s : Side) (x y z : ℕ) → Good s x y → Good s y z → Good s x z
good_trans Buyers x y z h k = omega arith
good_trans Sellers x y z h k = omega arith

pub good_double : (s : Side) (x y : ℕ) → Good s x y → Good s (2 * x) (2 * y)
good_double Buyers x y h = omega arith
good_double Sellers x y h = omega arith

pub good_from_better : (s : Side) (x y : ℕ) → Better s x y → Good s x y
good_from_better Buyers x y h = omega arith
good_from_better Sellers x y h = omega arith

pub better_not_good : (s : Side) (x y : ℕ) → Better s x y → Good s y x → ⊥
better_not_good Buyers x y h k = omega arith
better_not_good Sellers x y h k = omega arith

pub good_or_better : (s : Side) (x y : ℕ) → Good s x y ⊎ Better s y x
good_or_better Buyers x y = elim (cases_lt x y) [ inl h ↦ inr h | inr h ↦ inl h ]
good_or_better Sellers x y = elim (cases_lt y x) [ inl h ↦ inr h | inr h ↦ inl h ]

-- a number better than a mean, and no better than one of the two, has that one good against the other
pub good_past_mean : (s : Side) (w x y : ℕ) → Better s (2 * w) (x + y) → Good s x w → Good s x y
good_past_mean Buyers w x y h k = omega arith
good_past_mean Sellers w x y h k = omega arith

pub good_from_double : (s : Side) (w m y : ℕ) → Better s (2 * w) m → Good s m (2 * y) → Good s w y
good_from_double Buyers w m y h k = omega arith
good_from_double Sellers w m y h k = omega arith
