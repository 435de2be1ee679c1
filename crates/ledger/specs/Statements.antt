-- What an evening promises, from messages to accounts: the statements, and nothing else. Money is in half cents, so a
-- number of cents is doubled. An evening of K kinds and M members is closed on what is then in memory.
use Rattle.std.specs.Prelude.{◌≡◌, ℕ, ◌+◌, ◌*◌, ◌^◌, ◌<◌, ◌≤◌, false, ◌⊎◌, List, ◌∷◌, ◌++◌, length, take, sum_by, ◌≢◌, slice_index, slice_index_or}
use Rattle.std.specs.List.{range_with_len}
use Rattle.std.specs.List.Sorted.{IsPermutation}
use Rattle.orders.specs.declared.entry.Entry.{Entry}
use Rattle.orders.specs.declared.entry.Entry.TheVariants.{Nothing, Bid, Ask}
use Rattle.orders.specs.declared.money.Cents.{Cents}
use Rattle.orders.specs.Entries.{kind_row}
use Rattle.orders.specs.Lent.{Held, Fits, entry_at, position}
use Rattle.orders.specs.Members.{own as own_messages, own_answers, Sound}
use Rattle.orders.specs.Running.{run, answers_to}
use Rattle.orders.specs.Words.{byte_at, word2}
use Rattle.ranking.specs.Ranks.{own}
use Rattle.clearing.specs.Rule.{at_rank, trades_in, fund_gets}
use Rattle.clearing.specs.Kind.{bids, asks, pairs_in, outcome, buys, sells}
use Rattle.ledger.specs.Closing.{paid, got, bought, sold, account_after, berths_after, fund_after, kinds, closed_account, closed_berths, closed_fund}
use Rattle.ledger.specs.Worth.{sort_of, cents_in, worth}

-- what a member has before and after closing is worth to it, at the cents of the entries in question
abbrev pub worth_before : ℕ → ℕ → Held → (ℕ → Entry) → ℕ → ℕ
worth_before K M h f i = worth f (kinds K) (slice_index h.accounts i) (λ j. slice_index h.berths (i * K + j))

abbrev pub worth_after : ℕ → ℕ → Held → (ℕ → Entry) → ℕ → ℕ
worth_after K M h f i = worth f (kinds K) (closed_account K M h i) (λ j. closed_berths K M h i j)

-- 1. TRUE NUMBERS, over entries. Of two evenings that differ in nothing but the cents of one member's entries, in any kinds,
-- the first leaves that member worth at least as much, each berth counted at the member's number in the first.
pub record ButForCents (K M i : ℕ) (h g : Held) : Type 0 where
  pub others : (j k : ℕ) → j < M → k < K → (j ≢ i) → entry_at M g.entries j k ≡ entry_at M h.entries j k
  pub sorts : (k : ℕ) → k < K → sort_of (entry_at M h.entries i k) ≡ sort_of (entry_at M g.entries i k)
  pub accounts : g.accounts ≡ h.accounts
  pub berths : g.berths ≡ h.berths

abbrev pub TrueNumbers : ℕ → ℕ → Held → Type 0
TrueNumbers K M h =
    (g : Held) (i : ℕ) → i < M → Fits K M h → Fits K M g → Sound K (position K M h i) → Sound K (position K M g i) →
    ButForCents K M i h g →
    worth_after K M g (entry_at M h.entries i) i ≤ worth_after K M h (entry_at M h.entries i) i

-- THE SAME OVER MESSAGES, from one opening h. In both evenings all other members write the same; the member writes what it
-- likes, so long as at closing it has entries of the same sorts.
abbrev pub TrueEvenings : ℕ → ℕ → Held → List (List ℕ) → Type 0
TrueEvenings K M h ms =
    (ns : List (List ℕ)) (i : ℕ) → i < M → ((j : ℕ) → j < M → (j ≢ i) → own_messages j ns ≡ own_messages j ms) →
    ((k : ℕ) → k < K → sort_of (entry_at M (run K M h ms).entries i k) ≡ sort_of (entry_at M (run K M h ns).entries i k)) →
    worth_after K M (run K M h ns) (entry_at M (run K M h ms).entries i) i
    ≤ worth_after K M (run K M h ms) (entry_at M (run K M h ms).entries i) i

-- THE SAME OF ONE NUMBER. The two evenings differ in the cents of one message of one member, and all of that member's
-- messages get the same answers. A berth of the message's kind is counted at the member's number there in the first
-- evening; its berths of other kinds are the same in both.
pub record ButItsCents (m n : List ℕ) : Type 0 where
  pub of_twelve : length m ≡ 12
  pub as_many : length n ≡ 12
  pub all_else : take 8 n ≡ take 8 m

pub record NoWorse (K M i k : ℕ) (h g : Held) : Type 0 where
  pub worth_most :
      closed_account K M g i + 2 * cents_in (entry_at M h.entries i k) * closed_berths K M g i k
      ≤ closed_account K M h i + 2 * cents_in (entry_at M h.entries i k) * closed_berths K M h i k
  pub other_kinds : (j : ℕ) → j < K → (j ≢ k) → closed_berths K M g i j ≡ closed_berths K M h i j

abbrev pub TrueNumber : ℕ → ℕ → Held → List (List ℕ) → Type 0
TrueNumber K M h ms =
    (xs ys : List (List ℕ)) (m n : List ℕ) → ms ≡ xs ++ m ∷ ys → ButItsCents m n → word2 m 0 < M → byte_at m 6 < K →
    own_answers (word2 m 0) (xs ++ n ∷ ys) (answers_to K M h (xs ++ n ∷ ys)) ≡ own_answers (word2 m 0) ms (answers_to K M h ms) →
    NoWorse K M (word2 m 0) (byte_at m 6) (run K M h ms) (run K M h (xs ++ n ∷ ys))

-- 2. NO LOSS. At its own numbers, over all kinds together, no member is worth less after closing than before.
abbrev pub NoLoss : ℕ → ℕ → Held → Type 0
NoLoss K M h =
    (i : ℕ) → i < M →
    worth_before K M h (entry_at M h.entries i) i ≤ worth_after K M h (entry_at M h.entries i) i

-- 3. NOTHING IS MADE OR LOST. In each kind what the buyers pay is what the sellers get and what the fund gets, and as many
-- berths are sold as bought; all accounts and the fund together, and all berths of a kind, are as many as before. A member
-- pays no more than it has and sells no berth that it has not, a count of berths stays in a byte, and no sum of money
-- reaches 2^63.
abbrev pub all_members : ℕ → List ℕ
all_members M = range_with_len 0 M

pub record KeptInKind (K M : ℕ) (h : Held) (k : ℕ) : Type 0 where
  pub paid_out :
      sum_by (paid (kind_row M h.entries k)) (all_members M)
      ≡ sum_by (got (kind_row M h.entries k)) (all_members M) + fund_gets (outcome own (kind_row M h.entries k))
  pub handed_on :
      sum_by (sold (kind_row M h.entries k)) (all_members M) ≡ sum_by (bought (kind_row M h.entries k)) (all_members M)
  pub berths : sum_by (λ i. closed_berths K M h i k) (all_members M) ≡ sum_by (λ i. slice_index h.berths (i * K + k)) (all_members M)
  pub has_berths : (i : ℕ) → i < M → sold (kind_row M h.entries k) i ≤ slice_index h.berths (i * K + k)
  pub in_a_byte : (i : ℕ) → i < M → slice_index h.berths (i * K + k) ≤ 255 → closed_berths K M h i k ≤ 255

pub record Conserved (K M fund : ℕ) (h : Held) : Type 0 where
  pub in_kind : (k : ℕ) → k < K → KeptInKind K M h k
  pub money :
      sum_by (λ i. closed_account K M h i) (all_members M) + closed_fund K M h fund
      ≡ sum_by (λ i. slice_index h.accounts i) (all_members M) + fund
  pub has_money : (i : ℕ) → i < M → sum_by (λ k. paid (kind_row M h.entries k) i) (kinds K) ≤ slice_index h.accounts i
  pub account_counts : (i : ℕ) → i < M → closed_account K M h i < 2 ^ 63
  pub fund_counts : closed_fund K M h fund < 2 ^ 63

-- 4. THE ORDER OF KINDS does not matter: any other order of the kinds leaves the same accounts, berths and fund.
pub record AnyOrder (K M fund : ℕ) (h : Held) (ks : List ℕ) : Type 0 where
  pub accounts : (i : ℕ) → i < M → account_after (kind_row M h.entries) i ks (slice_index h.accounts i) ≡ closed_account K M h i
  pub berths : (i j : ℕ) → i < M → j < K → berths_after (kind_row M h.entries) i j ks (slice_index h.berths (i * K + j)) ≡ closed_berths K M h i j
  pub same_fund : fund_after (kind_row M h.entries) ks fund ≡ closed_fund K M h fund

abbrev pub OrderIsFree : ℕ → ℕ → ℕ → Held → Type 0
OrderIsFree K M fund h = (ks : List ℕ) → IsPermutation (kinds K) ks → AnyOrder K M fund h ks

-- 5. ALL BUT ONE. In a kind all pairs trade or all but one, which gains least; and of those who did not trade no two
-- disjoint pairs could gain, nor one more than any pair of ranks that traded.
pub record AllButOne (row : List Entry) : Type 0 where
  pub trades : (trades_in (outcome own row) ≡ pairs_in own row) ⊎ (trades_in (outcome own row) + 1 ≡ pairs_in own row)
  pub least :
      (last r : ℕ) → pairs_in own row ≡ last + 1 → r ≤ last →
      at_rank (bids own row) last + at_rank (asks own row) r ≤ at_rank (bids own row) r + at_rank (asks own row) last
  pub no_two :
      (i j i' j' : ℕ) (b a b' a' : Cents) →
      slice_index_or row i Nothing ≡ Bid b → slice_index_or row j Nothing ≡ Ask a → slice_index_or row i' Nothing ≡ Bid b' → slice_index_or row j' Nothing ≡ Ask a' →
      buys own row i ≡ false → sells own row j ≡ false → buys own row i' ≡ false → sells own row j' ≡ false →
      (i ≢ i') → (j ≢ j') → a.0 ≤ b.0 → a'.0 ≤ b'.0 → ⊥
  pub left_gain_least :
      (i j : ℕ) (b a : Cents) (r : ℕ) →
      slice_index_or row i Nothing ≡ Bid b → slice_index_or row j Nothing ≡ Ask a → buys own row i ≡ false → sells own row j ≡ false →
      r < trades_in (outcome own row) → b.0 + at_rank (asks own row) r ≤ at_rank (bids own row) r + a.0
