-- Trades of a kind, settled rank by rank: what is left of the lists leads to the same end as the whole.
use Rattle.std.proofs.Common.{◌≡◌, ℕ, zero, suc, ◌+◌, ◌-◌, ◌<◌, ◌≤◌, ◌⊎◌, List, [], ◌∷◌, length, get_or, take, sym, refl, ap, ◌∙◌, ap₂, inl, inr, arith}
use Rattle.std.proofs.lemmas.List.{length-set}
use Rattle.orders.specs.declared.books.Books.{Books}
use Rattle.orders.specs.Lent.{SameLoans}
use Rattle.orders.proofs.Runs.{same_loans}
use Rattle.ranking.specs.declared.ranked.Ranked.{Ranked}
use Rattle.ledger.specs.Trades.{changed, traded}

-- what settling leaves as it was
pub record Beside (before after : Books) : Type 0 where
  pub entries : after.entries.now ≡ before.entries.now
  pub numbers : after.numbers.now ≡ before.numbers.now
  pub committed : after.committed.now ≡ before.committed.now
  pub accounts : length after.accounts.now ≡ length before.accounts.now
  pub berths : length after.berths.now ≡ length before.berths.now
  pub lent : SameLoans before after

pub beside_itself : (b : Books) → Beside b b
beside_itself b =
    record {
      entries = refl;
      numbers = refl;
      committed = refl;
      accounts = refl;
      berths = refl;
      lent = record { entries = refl; numbers = refl; committed = refl; accounts = refl; berths = refl };
    }

pub beside_then : (a b c : Books) → Beside a b → Beside b c → Beside a c
beside_then a b c x y =
    record {
      entries = y.entries ∙ x.entries;
      numbers = y.numbers ∙ x.numbers;
      committed = y.committed ∙ x.committed;
      accounts = y.accounts ∙ x.accounts;
      berths = y.berths ∙ x.berths;
      lent = same_loans a b c x.lent y.lent;
    }

-- two cells changed are as many cells
pub as_many : (f g : ℕ → ℕ) (m n : ℕ) (xs ys : List ℕ) → ys ≡ changed g n (changed f m xs) → length ys ≡ length xs
as_many f g m n xs ys e =
    ap length e ∙ length-set (changed f m xs) n (g (get_or (changed f m xs) n 0)) ∙ length-set xs m (f (get_or xs m 0))

module _ (buy sell cell : ℕ → ℕ) where
  -- what up to n ranks of what is left of the lists leave of cells
  abbrev pub left_to_trade : ℕ → List Ranked → List Ranked → List ℕ → List ℕ
  left_to_trade n bs ss xs = traded buy sell cell (take n bs) (take n ss) xs

  -- a rank of the t that trade is settled
  pub rank_settled : (t r : ℕ) (b s : Ranked) (bs bs' ss ss' : List Ranked) (xs xs' end : List ℕ) → r < t → bs ≡ b ∷ bs' → ss ≡ s ∷ ss' →
      xs' ≡ changed sell (cell s.member) (changed buy (cell b.member) xs) → left_to_trade (t - r) bs ss xs ≡ end →
      left_to_trade (t - (r + 1)) bs' ss' xs' ≡ end
  unfolding traded
  rank_settled t r b s bs bs' ss ss' xs xs' end l eb es e inv =
      let n : t - r ≡ suc (t - (r + 1)) = omega arith in
      ap (left_to_trade (t - (r + 1)) bs' ss') e
      ∙ sym (ap (λ k. left_to_trade k bs ss xs) n ∙ ap₂ (λ us vs. left_to_trade (suc (t - (r + 1))) us vs xs) eb es)
      ∙ inv

  -- where as many have traded as are to trade, or one of the lists is through, nothing is left to trade
  pub all_traded : (t r : ℕ) (bs ss : List Ranked) (xs : List ℕ) → t ≤ r → left_to_trade (t - r) bs ss xs ≡ xs
  unfolding traded
  all_traded t r bs ss xs l = let n : t - r ≡ 0 = omega arith in ap (λ k. left_to_trade k bs ss xs) n

  pub no_more : (n : ℕ) (bs ss : List Ranked) (xs : List ℕ) → (length bs ≡ 0) ⊎ (length ss ≡ 0) → left_to_trade n bs ss xs ≡ xs
  unfolding traded
  no_more zero bs ss xs e = refl
  no_more (suc n) [] ss xs e = refl
  no_more (suc n) (b ∷ bs) [] xs e = refl
  no_more (suc n) (b ∷ bs) (s ∷ ss) xs (inl e) = absurd (omega arith)
  no_more (suc n) (b ∷ bs) (s ∷ ss) xs (inr e) = absurd (omega arith)
