-- One kind after another is settled.
use Rattle.std.proofs.Common.{◌≡◌, ℕ, zero, suc, ◌+◌, ◌-◌, ◌*◌, ◌%◌, ◌^◌, ◌<◌, ◌≤◌, Bool, true, false, cond, eqb, List, [], ◌∷◌, length, get_or, sym, refl, ap, ◌∙◌, subst, inl, inr, mul_comm, arith}
use Rattle.std.specs.List.{range_with_len}
use Rattle.std.proofs.lemmas.Nat.{mul-add-lt, mod-mul-add}
use Rattle.std.proofs.lemmas.List.Sums.{sum_by-cons}
use Rattle.std.proofs.lemmas.Bool.{cases_eq, eq-eqb, ne_eqb, cond-true, cond-false}
use Rattle.orders.specs.declared.entry.Entry.{Entry}
use Rattle.orders.specs.Entries.{kind_row}
use Rattle.orders.specs.Lent.{Held}
use Rattle.orders.specs.Members.{Backed}
use Rattle.ranking.specs.declared.ranked.Side.TheVariants.{Buyers, Sellers}
use Rattle.ranking.specs.Ranks.{own}
use Rattle.clearing.specs.Rule.{fund_gets}
use Rattle.clearing.specs.Kind.{outcome, buys, pays, gets}
use Rattle.ledger.specs.Closing.{paid, got, bought, sold, account_after, berths_after, fund_after, kinds, Settled}
use Rattle.ledger.specs.Trades.{trading, accounts_traded, berths_traded, account_cell, berth_cell}
use Rattle.ledger.specs.Underway.{InBounds}
use Rattle.ledger.proofs.Cells.{length_traded}
use Rattle.ledger.proofs.Exchanges.{account_traded, berths_traded_here, nobodys_cell}
use Rattle.ledger.proofs.Limits.{most, got_most, gets_most, low_row, sum_most}
use Rattle.ledger.proofs.Sums.{receipts, berths_none, times_before_kind}
use Rattle.ledger.proofs.Trading.{room_to_buy}
use Rattle.ledger.proofs.Truths.{row_entry, row_length}

module _ (rows : ℕ → List Entry) where
  account_next : (i a n x : ℕ) →
      account_after rows i (range_with_len a (n + 1)) x ≡ (account_after rows i (range_with_len a n) x - paid (rows (a + n)) i) + got (rows (a + n)) i
  unfolding account_after
  account_next i a zero x = ap (λ k. (x - paid (rows k) i) + got (rows k) i) (omega arith)
  account_next i a (suc n) x =
      let z : a + 1 + n ≡ a + suc n = omega arith in
      let s : suc n + 1 ≡ suc (n + 1) = omega arith in
      ap (λ m. account_after rows i (range_with_len a m) x) s
      ∙ account_next i (a + 1) n ((x - paid (rows a) i) + got (rows a) i)
      ∙ ap (λ k. (account_after rows i (range_with_len a (suc n)) x - paid (rows k) i) + got (rows k) i) z

  berths_next : (i j a n x : ℕ) →
      berths_after rows i j (range_with_len a (n + 1)) x
      ≡ cond (eqb (a + n) j) ((berths_after rows i j (range_with_len a n) x - sold (rows (a + n)) i) + bought (rows (a + n)) i)
      (berths_after rows i j (range_with_len a n) x)
  unfolding berths_after
  berths_next i j a zero x = ap (λ k. cond (eqb k j) ((x - sold (rows k) i) + bought (rows k) i) x) (omega arith)
  berths_next i j a (suc n) x =
      let z : a + 1 + n ≡ a + suc n = omega arith in
      let s : suc n + 1 ≡ suc (n + 1) = omega arith in
      ap (λ m. berths_after rows i j (range_with_len a m) x) s
      ∙ berths_next i j (a + 1) n (cond (eqb a j) ((x - sold (rows a) i) + bought (rows a) i) x)
      ∙ ap (λ k. cond (eqb k j) ((berths_after rows i j (range_with_len a (suc n)) x - sold (rows k) i) + bought (rows k) i) (berths_after rows i j (range_with_len a (suc n)) x)) z

  fund_next : (a n f : ℕ) → fund_after rows (range_with_len a (n + 1)) f ≡ fund_after rows (range_with_len a n) f + fund_gets (outcome own (rows (a + n)))
  unfolding fund_after
  fund_next a zero f = ap (λ k. f + fund_gets (outcome own (rows k))) (omega arith)
  fund_next a (suc n) f =
      let z : a + 1 + n ≡ a + suc n = omega arith in
      let s : suc n + 1 ≡ suc (n + 1) = omega arith in
      ap (λ m. fund_after rows (range_with_len a m) f) s
      ∙ fund_next (a + 1) n (f + fund_gets (outcome own (rows a)))
      ∙ ap (λ k. fund_after rows (range_with_len a (suc n)) f + fund_gets (outcome own (rows k))) z

  account_most : (i : ℕ) (ks : List ℕ) (a : ℕ) → account_after rows i ks a ≤ a + receipts rows i ks
  unfolding account_after
  account_most i [] a = omega arith
  account_most i (k ∷ ks) a =
      omega (arith, account_most i ks ((a - paid (rows k) i) + got (rows k) i), sum_by-cons (λ k. got (rows k) i) k ks)

module _ (K M fund : ℕ) (h : Held) (b : InBounds K M fund h) where
  abbrev rows : ℕ → List Entry
  rows = kind_row M h.entries

  pub none_settled : Settled K M fund h 0 h.accounts h.berths fund
  unfolding account_after berths_after fund_after
  none_settled =
      record {
        account = λ i l. refl;
        berth = λ i j l m. refl;
        takings = refl;
        more_accounts = λ i l. refl;
        more_berths = λ n l. refl;
        as_many_accounts = refl;
        as_many_berths = refl;
      }

  module _ (k : ℕ) (lk : k < K) (accounts berths : List ℕ) (f : ℕ) (s : Settled K M fund h k accounts berths f) where
    abbrev row : List Entry
    row = rows k

    zeroth : 0 + k ≡ k
    zeroth = omega arith

    row_is : length row ≡ M
    row_is = row_length K M h 0 k (omega (arith, b.some_members)) lk b.fits

    low : (i : ℕ) → i < M → get_or accounts i 0 + gets own row < 2 ^ 64
    low i l =
        omega (
          arith,
          s.account i l,
          account_most rows i (kinds k) (get_or h.accounts i 0),
          sum_most (λ j. got (rows j) i) (2 * most) 0 k (λ j p q. got_most (rows j) (low_row K M fund h b j (omega arith)) i),
          gets_most row (low_row K M fund h b k lk),
          b.accounts i l,
          b.few_kinds,
        )

    abbrev pub accounts' : List ℕ
    accounts' = accounts_traded (pays own row) (gets own row) (trading Buyers row) (trading Sellers row) accounts

    abbrev pub berths' : List ℕ
    berths' = berths_traded K k (trading Buyers row) (trading Sellers row) berths

    account_here : (i : ℕ) → i < M → get_or accounts' i 0 ≡ account_after rows i (kinds (k + 1)) (get_or h.accounts i 0)
    account_here i l =
        account_traded row i accounts (omega (arith, row_is, b.fits.accounts, s.as_many_accounts)) (low i l)
        ∙ ap (λ a. (a - paid row i) + got row i) (s.account i l)
        ∙ ap (λ j. (account_after rows i (kinds k) (get_or h.accounts i 0) - paid (rows j) i) + got (rows j) i) (sym zeroth)
        ∙ sym (account_next rows i 0 k (get_or h.accounts i 0))

    in_memory : (i j : ℕ) → i < M → j < K → i * K + j < length berths
    in_memory i j l m = omega (arith, mul-add-lt i K j M l m, mul_comm K M, b.fits.berths, s.as_many_berths)

    abbrev berths_there : ℕ → ℕ → ℕ
    berths_there i j = berths_after rows i j (kinds k) (get_or h.berths (i * K + j) 0)

    berth_here : (i j : ℕ) → i < M → j < K → get_or berths' (i * K + j) 0 ≡ berths_after rows i j (kinds (k + 1)) (get_or h.berths (i * K + j) 0)
    berth_here i j l m =
        elim (cases_eq k j) [
          | inl e ↦ subst (λ t. get_or berths' (i * K + t) 0 ≡ berths_after rows i t (kinds (k + 1)) (get_or h.berths (i * K + t) 0)) e of_kind
          | inr d ↦
              nobodys_cell _ _ (berth_cell K k) row (i * K + j) berths
              (λ n q z. d (sym (mod-mul-add n K k lk) ∙ ap (λ t. t % K) z ∙ mod-mul-add i K j m))
              ∙ s.berth i j l m
              ∙ sym (cond-false (eqb (0 + k) j) _ (berths_there i j) (ne_eqb (0 + k) j (λ z. d (sym zeroth ∙ z))))
              ∙ sym (berths_next rows i j 0 k (get_or h.berths (i * K + j) 0))
        ]
      where
        before : berths_there i k ≡ get_or h.berths (i * K + k) 0
        before = berths_none rows i k (kinds k) (get_or h.berths (i * K + k) 0) (times_before_kind k)

        room : bought row i ≡ 1 → get_or berths (i * K + k) 0 < 255
        room e =
            let backed = subst (λ x. Backed x (get_or h.berths (i * K + k) 0)) (sym (row_entry K M h i k l lk b.fits)) ((b.sound i l).backed k lk) in
            omega (arith, s.berth i k l lk, before, room_to_buy row i (get_or h.berths (i * K + k) 0) (bought_is (buys own row i) e) backed)
          where
            bought_is : (t : Bool) → ◌≡◌ {A = ℕ} (cond t 1 0) 1 → t ≡ true
            bought_is true z = refl
            bought_is false z = absurd (omega arith)

        of_kind : get_or berths' (i * K + k) 0 ≡ berths_after rows i k (kinds (k + 1)) (get_or h.berths (i * K + k) 0)
        of_kind =
            berths_traded_here row i berths K k lk (λ q. in_memory i k l lk) room
            ∙ ap (λ n. (n - sold row i) + bought row i) (s.berth i k l lk)
            ∙ ap (λ t. (berths_there i k - sold (rows t) i) + bought (rows t) i) (sym zeroth)
            ∙ sym (cond-true (eqb (0 + k) k) _ (berths_there i k) (eq-eqb (0 + k) k zeroth))
            ∙ sym (berths_next rows i k 0 k (get_or h.berths (i * K + k) 0))

    pub one_more_settled : Settled K M fund h (k + 1) accounts' berths' (f + fund_gets (outcome own row))
    one_more_settled =
        record {
          account = account_here;
          berth = berth_here;
          takings =
              ap (λ n. n + fund_gets (outcome own row)) s.takings
              ∙ ap (λ j. fund_after rows (kinds k) fund + fund_gets (outcome own (rows j))) (sym zeroth)
              ∙ sym (fund_next rows 0 k fund);
          more_accounts = λ i l.
              nobodys_cell _ _ account_cell row i accounts (λ m q z. omega (arith, row_is)) ∙ s.more_accounts i l;
          more_berths = λ n l.
              nobodys_cell _ _ (berth_cell K k) row n berths
              (λ m q z. omega (arith, mul-add-lt m K k M (omega (arith, row_is)) lk)) ∙ s.more_berths n l;
          as_many_accounts = length_traded _ _ account_cell (trading Buyers row) (trading Sellers row) accounts ∙ s.as_many_accounts;
          as_many_berths = length_traded _ _ (berth_cell K k) (trading Buyers row) (trading Sellers row) berths ∙ s.as_many_berths;
        }
