-- Sums over members and kinds: nothing is made or lost, and the order of kinds does not matter.
use Rattle.std.proofs.Common.{◌≡◌, ℕ, ◌+◌, ◌*◌, ◌<◌, ◌≤◌, Bool, true, false, cond, eqb, List, [], ◌∷◌, get_or, sum_by, count_by, sym, refl, ap, ◌∙◌, subst, add-mul, arith}
use mathlib.Core.Path.{fun_ext}
use Rattle.std.specs.List.{range_with_len}
use Rattle.std.proofs.lemmas.List.Sorted.{sum_by-IsPermutation}
use Rattle.std.proofs.lemmas.List.Sums.{sum_by-cons}
use Rattle.orders.specs.declared.entry.Entry.{Entry}
use Rattle.orders.specs.declared.entry.Entry.TheVariants.{Nothing}
use Rattle.orders.specs.Entries.{kind_row}
use Rattle.orders.specs.Lent.{Held, Fits}
use Rattle.orders.specs.Members.{Backed}
use Rattle.orders.specs.Statements.{AllSound}
use Rattle.ranking.specs.Ranks.{own}
use Rattle.clearing.specs.Rule.{trades_in, fund_gets}
use Rattle.clearing.specs.Kind.{bids, asks, outcome, buys, sells, pays, gets, members}
use Rattle.clearing.proofs.AsMany.{as_many_buy, as_many_sell}
use Rattle.clearing.proofs.Leftover.{fund_never_pays}
use Rattle.ledger.specs.Closing.{paid, got, bought, sold, fund_after, kinds, closed_account, closed_berths, closed_fund}
use Rattle.ledger.specs.Statements.{all_members, KeptInKind, OrderIsFree}
use Rattle.ledger.proofs.Trading.{apart, moves}
use Rattle.ledger.proofs.Sums.{sum_add, times_counting, payments, receipts, account_exact, berths_once}
use Rattle.ledger.proofs.Worths.{sum_same_on, berths_exact, Holds}
use Rattle.ledger.proofs.Truths.{row_entry, row_length, holds}

sum_nothing : (ks : List ℕ) → sum_by (λ k. 0) ks ≡ 0
sum_nothing [] = refl
sum_nothing (k ∷ ks) = omega (arith, sum_by-cons (λ k. 0) k ks, sum_nothing ks)

-- a sum over members of sums over kinds, the other way round
sum_swap : (f : ℕ → ℕ → ℕ) (ks is : List ℕ) → sum_by (λ i. sum_by (λ k. f k i) ks) is ≡ sum_by (λ k. sum_by (f k) is) ks
sum_swap f ks [] = sym (sum_nothing ks)
sum_swap f ks (i ∷ is) =
    sum_by-cons (λ i. sum_by (λ k. f k i) ks) i is
    ∙ ap (λ n. sum_by (λ k. f k i) ks + n) (sum_swap f ks is)
    ∙ sym (sum_add (λ k. f k i) (λ k. sum_by (f k) is) ks)
    ∙ sym (ap (λ (g : ℕ → ℕ). sum_by g ks) (fun_ext (λ k. sum_by-cons (f k) i is)))

-- as often a price as there are those who have it
sum_of_price : (b : ℕ → Bool) (p : ℕ) (is : List ℕ) → sum_by (λ i. cond (b i) p 0) is ≡ count_by b is * p
sum_of_price b p [] = omega arith
sum_of_price b p (i ∷ is) =
    let one : cond (b i) p 0 ≡ cond (b i) 1 0 * p = go (b i) in
    sum_by-cons (λ i. cond (b i) p 0) i is ∙ ap (λ n. n + sum_by (λ i. cond (b i) p 0) is) one
    ∙ ap (λ n. cond (b i) 1 0 * p + n) (sum_of_price b p is) ∙ sym (add-mul (cond (b i) 1 0) (count_by b is) p)
    ∙ ap (λ n. n * p) (sym (sum_by-cons (λ i. cond (b i) 1 0) i is))
  where
    go : (t : Bool) → cond t p 0 ≡ cond t 1 0 * p
    go true = omega arith
    go false = omega arith

-- in one kind
pub paid_out : (row : List Entry) →
    sum_by (paid row) (members row) ≡ sum_by (got row) (members row) + fund_gets (outcome own row)
paid_out row =
    let t = trades_in (outcome own row) in
    sum_of_price (buys own row) (pays own row) (members row)
    ∙ ap (λ n. n * pays own row) (as_many_buy own row (apart row))
    ∙ (fund_never_pays (bids own row) (asks own row)).shared
    ∙ ap (λ n. n + fund_gets (outcome own row))
    (sym (sum_of_price (sells own row) (gets own row) (members row) ∙ ap (λ n. n * gets own row) (as_many_sell own row (apart row))))

pub handed_on : (row : List Entry) → sum_by (sold row) (members row) ≡ sum_by (bought row) (members row)
handed_on row = as_many_sell own row (apart row) ∙ sym (as_many_buy own row (apart row))

pub fund_exact : (rows : ℕ → List Entry) (ks : List ℕ) (f : ℕ) →
    fund_after rows ks f ≡ f + sum_by (λ k. fund_gets (outcome own (rows k))) ks
unfolding fund_after
fund_exact rows [] f = omega arith
fund_exact rows (k ∷ ks) f =
    let g : ℕ → ℕ = λ k. fund_gets (outcome own (rows k)) in
    omega (arith, fund_exact rows ks (f + g k), sum_by-cons g k ks)

module _ (K M : ℕ) (h : Held) (fits : Fits K M h) (sound : AllSound K M h) (least : 1 ≤ M) where
  abbrev rows : ℕ → List Entry
  rows = kind_row M h.entries

  all : (k : ℕ) → k < K → members (rows k) ≡ all_members M
  all k l = ap (range_with_len 0) (row_length K M h 0 k (omega arith) l fits)

  abbrev berths : ℕ → ℕ → ℕ
  berths i k = get_or h.berths (i * K + k) 0

  member : (i : ℕ) → i < M → Holds rows K i (λ k. get_or (rows k) i Nothing) (get_or h.accounts i 0) (berths i)
  member i l = let s = holds K M h i l fits (sound i l) in record { entries = λ k m. refl; cover = s.cover; backing = s.backing }

  pub kept_in_kind : (k : ℕ) → k < K → KeptInKind K M h k
  kept_in_kind k l =
      record {
        paid_out = subst (λ is. sum_by (paid (rows k)) is ≡ sum_by (got (rows k)) is + fund_gets (outcome own (rows k))) (all k l) (paid_out (rows k));
        handed_on = even;
        berths =
            omega (
              arith,
              even,
              sum_add (λ i. closed_berths K M h i k) (sold (rows k)) (all_members M),
              sum_add (λ i. berths i k) (bought (rows k)) (all_members M),
              sum_same_on (λ i. closed_berths K M h i k + sold (rows k) i) (λ i. berths i k + bought (rows k) i) 0 M
                  (λ i p q. exact i (omega arith)),
            );
        has_berths = λ i m. (member i m).backing k l;
        in_a_byte = λ i m n.
            omega (
              arith,
              berths_once rows i k (kinds K) (berths i k) (times_counting k 0 K (omega arith) (omega arith)),
              (moves (rows k) i).counted (berths i k)
                  (subst (λ e. Backed e (berths i k)) (sym (row_entry K M h i k m l fits)) ((sound i m).backed k l)) n,
            );
      }
    where
      even : sum_by (sold (rows k)) (all_members M) ≡ sum_by (bought (rows k)) (all_members M)
      even = subst (λ is. sum_by (sold (rows k)) is ≡ sum_by (bought (rows k)) is) (all k l) (handed_on (rows k))

      exact : (i : ℕ) → i < M → closed_berths K M h i k + sold (rows k) i ≡ berths i k + bought (rows k) i
      exact i m = berths_exact rows K i (λ k. get_or (rows k) i Nothing) (get_or h.accounts i 0) (berths i) (λ k. 0) (member i m) k l

  -- all members' accounts and the fund
  pub money_kept : (fund : ℕ) →
      sum_by (λ i. closed_account K M h i) (all_members M) + closed_fund K M h fund
      ≡ sum_by (λ i. get_or h.accounts i 0) (all_members M) + fund
  money_kept fund =
      let takings : ℕ → ℕ = λ k. fund_gets (outcome own (rows k)) in
      omega (
        arith,
        sum_add (λ i. closed_account K M h i) (λ i. payments rows i (kinds K)) (all_members M),
        sum_add (λ i. get_or h.accounts i 0) (λ i. receipts rows i (kinds K)) (all_members M),
        sum_same_on (λ i. closed_account K M h i + payments rows i (kinds K)) (λ i. get_or h.accounts i 0 + receipts rows i (kinds K)) 0 M
            (λ i p q. account_exact rows i (kinds K) (get_or h.accounts i 0) (member i (omega arith)).cover),
        sum_swap (λ k i. paid (rows k) i) (kinds K) (all_members M),
        sum_swap (λ k i. got (rows k) i) (kinds K) (all_members M),
        sum_same_on (λ k. sum_by (paid (rows k)) (all_members M)) (λ k. sum_by (got (rows k)) (all_members M) + takings k) 0 K
            (λ k p q. (kept_in_kind k (omega arith)).paid_out),
        sum_add (λ k. sum_by (got (rows k)) (all_members M)) takings (kinds K),
        fund_exact rows (kinds K) fund,
      )

  -- another order of the kinds
  pub order_is_free : (fund : ℕ) → OrderIsFree K M fund h
  order_is_free fund ks s =
      record {
        accounts = λ i l.
            let pay = sum_by-IsPermutation (λ k. paid (rows k) i) (kinds K) ks s in
            let get = sum_by-IsPermutation (λ k. got (rows k) i) (kinds K) ks s in
            omega (
              arith,
              pay,
              get,
              account_exact rows i (kinds K) (get_or h.accounts i 0) (member i l).cover,
              account_exact rows i ks (get_or h.accounts i 0) (omega (arith, pay, (member i l).cover)),
            );
        berths = λ i j l m.
            let once = times_counting j 0 K (omega arith) (omega arith) in
            berths_once rows i j ks (berths i j) (sum_by-IsPermutation (λ k. cond (eqb k j) 1 0) (kinds K) ks s ∙ once)
            ∙ sym (berths_once rows i j (kinds K) (berths i j) once);
        same_fund =
            fund_exact rows ks fund
            ∙ ap (λ n. fund + n) (sum_by-IsPermutation (λ k. fund_gets (outcome own (rows k))) (kinds K) ks s)
            ∙ sym (fund_exact rows (kinds K) fund);
      }
