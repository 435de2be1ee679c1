-- What trades do to accounts and berths as they stand in memory. Buyers and sellers trade one with one in the order of
-- ranks. A trade takes its price from the buyer's account and adds the seller's to the seller's, and it adds a berth to the
-- buyer's and takes one of the seller's. A count that would leave its word stops at the word's end; in an evening that
-- never happens.
use Rattle.std.specs.Prelude.{◌≡◌, ℕ, ◌+◌, ◌-◌, ◌*◌, ◌^◌, min, List, [], ◌∷◌, take, MatchOption, slice_index, slice_set}
use Rattle.std.specs.List.{slice_get}
use Rattle.orders.specs.declared.entry.Entry.{Entry}
use Rattle.ranking.specs.declared.ranked.Side.{Side}
use Rattle.ranking.specs.declared.ranked.Ranked.{Ranked}
use Rattle.ranking.specs.Ranks.{own, ranked}
use Rattle.clearing.specs.Rule.{trades_in}
use Rattle.clearing.specs.Kind.{outcome}

-- those of a side who trade, in the order of ranks
abbrev pub trading : Side → List Entry → List Ranked
trading s row = take (trades_in (outcome own row)) (ranked s own row)

-- numbers in cells, one of them changed
abbrev pub changed : (ℕ → ℕ) → ℕ → List ℕ → List ℕ
changed f n xs = slice_set xs n (f (slice_index xs n))

-- one of the cells, if there is such a one, is what a rule makes of it; all others are as they were
abbrev pub ChangedBy : {A : Type 0} → (A → A → Type 0) → ℕ → List A → List A → Type 0
ChangedBy R n xs ys = MatchOption (slice_get xs n) (ys ≡ xs) (λ x. (y : _) × R x y × (ys ≡ slice_set xs n y))

-- what is changed at buyers and at sellers, as many of either, each in its own cell
unfoldable pub traded : (ℕ → ℕ) → (ℕ → ℕ) → (ℕ → ℕ) → List Ranked → List Ranked → List ℕ → List ℕ
traded buy sell cell [] ss xs = xs
traded buy sell cell (b ∷ bs) [] xs = xs
traded buy sell cell (b ∷ bs) (s ∷ ss) xs =
    traded buy sell cell bs ss (changed sell (cell s.member) (changed buy (cell b.member) xs))

abbrev pub paying : ℕ → ℕ → ℕ
paying price account = account - price

abbrev pub earning : ℕ → ℕ → ℕ
earning price account = min (account + price) (2 ^ 64 - 1)

abbrev pub one_more : ℕ → ℕ
one_more berths = min (berths + 1) (2 ^ 8 - 1)

abbrev pub one_less : ℕ → ℕ
one_less berths = berths - 1

-- where a member's account is, and its berths of kind k of K
abbrev pub account_cell : ℕ → ℕ
account_cell m = m

abbrev pub berth_cell : ℕ → ℕ → ℕ → ℕ
berth_cell K k m = m * K + k

abbrev pub accounts_traded : ℕ → ℕ → List Ranked → List Ranked → List ℕ → List ℕ
accounts_traded pay get bs ss xs = traded (paying pay) (earning get) account_cell bs ss xs

abbrev pub berths_traded : ℕ → ℕ → List Ranked → List Ranked → List ℕ → List ℕ
berths_traded K k bs ss xs = traded one_more one_less (berth_cell K k) bs ss xs
