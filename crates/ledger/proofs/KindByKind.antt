-- Closing kind by kind: what holds after the first kinds holds after one more.
use Rattle.std.proofs.Common.{◌≡◌, ℕ, ◌+◌, ◌-◌, ◌^◌, ◌<◌, ◌≤◌, min, cond, ltb, List, length, take, sym, refl, ap, ◌∙◌, subst, ap₂, arith}
use Rattle.std.proofs.lemmas.Bool.{lt-ltb, cond-true}
use Rattle.orders.specs.declared.books.Books.{Books}
use Rattle.orders.specs.declared.entry.Entry.{Entry}
use Rattle.orders.specs.Entries.{kind_row}
use Rattle.orders.specs.Lent.{Held, held}
use Rattle.ranking.specs.Indexes.{Index}
use Rattle.ranking.specs.declared.ranked.Side.TheVariants.{Buyers, Sellers}
use Rattle.ranking.specs.declared.ranked.Ranked.{Ranked}
use Rattle.ranking.specs.Ranks.{own}
use Rattle.clearing.specs.declared.outcome.Outcome.{Outcome}
use Rattle.clearing.specs.Rule.{trades_in, buyers_pay, sellers_get, fund_gets}
use Rattle.clearing.specs.Kind.{outcome}
use Rattle.sheet.specs.Sheets.{sheet_from}
use Rattle.sheet.proofs.Written.{written_none}
use Rattle.ledger.specs.Closing.{kinds, Settled}
use Rattle.ledger.specs.Indexed.{Lists}
use Rattle.ledger.specs.Publishing.{ClearedAs, OnSheet, OneMore}
use Rattle.ledger.specs.Trades.{trading, traded, paying, earning, one_more, one_less, account_cell, berth_cell}
use Rattle.ledger.specs.Underway.{InBounds, Closable}
use Rattle.ledger.proofs.Conservation.{fund_exact}
use Rattle.ledger.proofs.Limits.{sum_most, takings_most}
use Rattle.ledger.proofs.RankByRank.{Beside, beside_itself, beside_then}
use Rattle.ledger.proofs.Settlement.{none_settled, one_more_settled}
use Rattle.ledger.proofs.Truths.{row_length}

-- a kind whose trades were settled from what the kinds before it left
module _ (K M fund : ℕ) (h : Held) (b : InBounds K M fund h) (k : ℕ) (lk : k < K) (accounts berths : List ℕ) (f : ℕ)
    (s : Settled K M fund h k accounts berths f) (o : Outcome) (bs ss : List Ranked) (c : ClearedAs (kind_row M h.entries k) o bs ss) where
  abbrev row : List Entry
  row = kind_row M h.entries k

  abbrev all_traded : (Outcome → ℕ → ℕ) → (Outcome → ℕ → ℕ) → (ℕ → ℕ) → List ℕ → List ℕ
  all_traded buy sell cell xs = traded (buy o) (sell o) cell (take (trades_in o) bs) (take (trades_in o) ss) xs

  by_row : (buy sell : Outcome → ℕ → ℕ) (cell : ℕ → ℕ) (xs : List ℕ) →
      all_traded buy sell cell xs ≡ traded (buy (outcome own row)) (sell (outcome own row)) cell (trading Buyers row) (trading Sellers row) xs
  by_row buy sell cell xs =
      ap₂ (λ us vs. traded (buy o) (sell o) cell us vs xs) c.buying c.selling
      ∙ ap (λ q. traded (buy q) (sell q) cell (trading Buyers row) (trading Sellers row) xs) c.by_rule

  sum_fits : (w f' : ℕ) → w ≡ cond (ltb (fund_gets o) (2 ^ 64)) (fund_gets o) 0 → f' ≡ min (f + w) (2 ^ 64 - 1) → f' ≡ f + fund_gets (outcome own row)
  sum_fits w f' ew ef =
      let most = takings_most K M fund h b k lk in
      let same = ap fund_gets c.by_rule in
      let fits : w ≡ fund_gets o = ew ∙ cond-true (ltb (fund_gets o) (2 ^ 64)) (fund_gets o) 0 (lt-ltb (fund_gets o) (2 ^ 64) (omega arith)) in
      omega (
        arith,
        s.takings,
        fund_exact (kind_row M h.entries) (kinds k) fund,
        sum_most (λ j. fund_gets (outcome own (kind_row M h.entries j))) 40000000000 0 k (λ j p q. takings_most K M fund h b j (omega arith)),
        b.low_fund,
        b.few_kinds,
      )

  pub settled_one_more : (accounts' berths' : List ℕ) (w f' : ℕ) →
      accounts' ≡ all_traded (λ q. paying (buyers_pay q)) (λ q. earning (sellers_get q)) account_cell accounts →
      berths' ≡ all_traded (λ q. one_more) (λ q. one_less) (berth_cell K k) berths →
      w ≡ cond (ltb (fund_gets o) (2 ^ 64)) (fund_gets o) 0 → f' ≡ min (f + w) (2 ^ 64 - 1) → Settled K M fund h (k + 1) accounts' berths' f'
  settled_one_more accounts' berths' w f' ea eb ew ef =
      settled_same (k + 1) (ea ∙ by_row (λ q. paying (buyers_pay q)) (λ q. earning (sellers_get q)) account_cell accounts)
      (eb ∙ by_row (λ q. one_more) (λ q. one_less) (berth_cell K k) berths) (sum_fits w f' ew ef)
      (one_more_settled K M fund h b k lk accounts berths f s)
    where
      settled_same : (j : ℕ) {xs xs' ys ys' : List ℕ} {n n' : ℕ} → xs' ≡ xs → ys' ≡ ys → n' ≡ n → Settled K M fund h j xs ys n → Settled K M fund h j xs' ys' n'
      settled_same j {xs = xs} {xs' = xs'} {ys = ys} {ys' = ys'} {n = n} {n' = n'} ex ey en z =
          subst (λ us. Settled K M fund h j us ys' n') (sym ex)
          (subst (λ us. Settled K M fund h j xs us n') (sym ey) (subst (λ m. Settled K M fund h j xs ys m) (sym en) z))

-- what holds after k kinds: other memory is as it was, and if all was well before, the kinds are settled and on the sheet
module _ (K M fund : ℕ) (ix : Index) (b₀ : Books) (sheet₀ : List ℕ) (buyers₀ sellers₀ : List Ranked) where
  abbrev pub Well : Type 0
  Well = Closable K M fund (held b₀) ix sheet₀ buyers₀ sellers₀

  pub record Through (k : ℕ) (books : Books) (f end : ℕ) (sheet : List ℕ) : Type 0 where
    pub beside : Beside b₀ books
    pub settled : Well → Settled K M fund (held b₀) k books.accounts.now books.berths.now f
    pub on_sheet : Well → OnSheet M b₀.entries.now sheet₀ k end sheet

  pub none_through : Through 0 b₀ fund 0 sheet₀
  unfolding sheet_from
  none_through =
      record {
        beside = beside_itself b₀;
        settled = λ z. none_settled K M fund (held b₀) z.underway.in_bounds;
        on_sheet = λ z. record { ends = refl; bytes = sym (written_none 0 sheet₀) };
      }

  module _ (k : ℕ) (lk : k < K) (b₁ : Books) (f₁ end₁ : ℕ) (sheet₁ : List ℕ) (buyers₁ sellers₁ : List Ranked) (t : Through k b₁ f₁ end₁ sheet₁)
      (lb : length buyers₁ ≡ length buyers₀) (ls : length sellers₁ ≡ length sellers₀) (lt : length sheet₁ ≡ length sheet₀) where
    there : Well → Lists (kind_row M b₀.entries.now k) k ix
    there w = w.underway.indexed k lk

    long : Well → length (kind_row M b₀.entries.now k) ≡ M
    long w = row_length K M (held b₀) 0 k (omega (arith, w.underway.in_bounds.some_members)) lk w.underway.in_bounds.fits

    pub through_one_more : (o : Outcome) (bs ss : List Ranked) (b₂ : Books) (w f₂ end₂ : ℕ) (sheet₂ : List ℕ) →
        ((row : List Entry) → Lists row k ix → length row ≤ length buyers₁ → length row ≤ length sellers₁ → ClearedAs row o bs ss) →
        OneMore k ix (min (length buyers₁) (length sellers₁)) sheet₁ end₁ sheet₂ end₂ → Beside b₁ b₂ →
        b₂.accounts.now ≡ traded (paying (buyers_pay o)) (earning (sellers_get o)) account_cell (take (trades_in o) bs) (take (trades_in o) ss) b₁.accounts.now →
        b₂.berths.now ≡ traded one_more one_less (berth_cell K k) (take (trades_in o) bs) (take (trades_in o) ss) b₁.berths.now →
        w ≡ cond (ltb (fund_gets o) (2 ^ 64)) (fund_gets o) 0 → f₂ ≡ min (f₁ + w) (2 ^ 64 - 1) →
        Through (k + 1) b₂ f₂ end₂ sheet₂
    through_one_more o bs ss b₂ w f₂ end₂ sheet₂ cleared more beside ea eb ew ef =
        record {
          beside = beside_then b₀ b₁ b₂ t.beside beside;
          settled = λ z.
              settled_one_more K M fund (held b₀) z.underway.in_bounds k lk b₁.accounts.now b₁.berths.now f₁ (t.settled z) o bs ss
              (cleared (kind_row M b₀.entries.now k) (there z) (omega (arith, long z, z.buyers_room)) (omega (arith, long z, z.sellers_room)))
              b₂.accounts.now b₂.berths.now w f₂ ea eb ew ef;
          on_sheet = λ z.
              more K M b₀.entries.now sheet₀ lk z.underway.in_bounds.few_members (omega (arith, z.buyers_room, z.sellers_room)) (there z)
              z.sheet_room lt (t.on_sheet z);
        }
