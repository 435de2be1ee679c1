-- The members of the first ranks, one past the pairs, as they are written into lists: they give the kind's outcome, and the
-- lists begin with those who trade.
use Rattle.std.proofs.Common.{◌≡◌, ℕ, suc, ◌+◌, ◌≤◌, min, List, length, take, drop, sym, ap, ◌∙◌, ap₂, inl, inr, arith}
use Rattle.std.proofs.lemmas.List.{length-take, take_all, take-map, take_at, take-take, take-append-le}
use Rattle.std.proofs.lemmas.List.Sums.{count_by-le-length}
use Rattle.std.proofs.lemmas.Bool.{cases_lt}
use Rattle.orders.specs.declared.entry.Entry.{Entry}
use Rattle.orders.specs.Running.{written_over}
use Rattle.ranking.specs.declared.ranked.Side.{Side}
use Rattle.ranking.specs.declared.ranked.Side.TheVariants.{Buyers, Sellers}
use Rattle.ranking.specs.declared.ranked.Ranked.{Ranked}
use Rattle.ranking.specs.Ranks.{own, ranked}
use Rattle.clearing.specs.declared.outcome.Outcome.{Outcome}
use Rattle.clearing.specs.Rule.{cents_of, cleared, trades_in}
use Rattle.clearing.specs.Kind.{pairs_in, outcome, stands_on}
use Rattle.clearing.proofs.AsMany.{trades_within}
use Rattle.clearing.proofs.FirstRanks.{only_the_first}
use Rattle.clearing.proofs.Leftover.{all_but_one}
use Rattle.clearing.proofs.Standing.{length_ranked}
use Rattle.sheet.specs.Sheets.{first_ranks}
use Rattle.ledger.specs.Publishing.{ClearedAs}
use Rattle.ledger.specs.Trades.{trading}

-- what was written into a list is at its beginning
pub part_is : (xs old : List Ranked) (n : ℕ) → n ≡ length xs → take n (written_over xs old) ≡ xs
part_is xs old n e = take_at xs (drop (length xs) old) n (sym e)

module _ (row : List Entry) where
  abbrev p : ℕ
  p = pairs_in own row

  few_ranked : (s : Side) → length (ranked s own row) ≤ length row
  few_ranked s = omega (arith, length_ranked s own row, count_by-le-length (stands_on s) row)

  -- where there is room for the row, nothing is cut off
  pub shown_all : (s : Side) (room : ℕ) → length row ≤ room → take (min (p + 1) room) (ranked s own row) ≡ first_ranks s row
  shown_all s room h =
      elim (cases_lt (p + 1) room) [
        | inl l ↦ let z : min (p + 1) room ≡ suc p = omega arith in ap (λ n. take n (ranked s own row)) z
        | inr l ↦
            let z : min (p + 1) room ≡ room = omega arith in
            ap (λ n. take n (ranked s own row)) z
            ∙ take_all room (ranked s own row) (omega (arith, few_ranked s))
            ∙ sym (take_all (suc p) (ranked s own row) (omega (arith, few_ranked s)))
      ]

  cut : (s : Side) → cents_of (first_ranks s row) ≡ take (suc p) (cents_of (ranked s own row))
  cut s = sym (take-map (λ (x : Ranked). x.cents.0) (suc p) (ranked s own row))

  pub outcome_shown : cleared (cents_of (first_ranks Buyers row)) (cents_of (first_ranks Sellers row)) ≡ outcome own row
  outcome_shown =
      ap₂ cleared (cut Buyers) (cut Sellers)
      ∙ (only_the_first (cents_of (ranked Buyers own row)) (cents_of (ranked Sellers own row)) (suc p) (omega arith)).1

  pub trading_shown : (s : Side) (old : List Ranked) → take (trades_in (outcome own row)) (written_over (first_ranks s row) old) ≡ trading s row
  trading_shown s old =
      let t = trades_in (outcome own row) in
      let long : t ≤ length (first_ranks s row) = simp length-take (omega (arith, trades_within s own row, all_but_one own row)) in
      take-append-le t (first_ranks s row) (drop (length (first_ranks s row)) old) long
      ∙ take-take t (suc p) (ranked s own row) (omega (arith, all_but_one own row))

-- a side's list after its first ranks were written into it, and the part that they are
pub record Filled (row : List Entry) (s : Side) (before after : List Ranked) (count : ℕ) : Type 0 where
  pub list : after ≡ written_over (first_ranks s row) before
  pub part : take count after ≡ first_ranks s row

pub filled : (row : List Entry) (s : Side) (xs before after : List Ranked) (q count : ℕ) → xs ≡ ranked s own row → q ≡ pairs_in own row →
    length row ≤ length before → after ≡ written_over (take (min (q + 1) (length before)) xs) before →
    count ≡ length (take (min (q + 1) (length before)) xs) → Filled row s before after count
filled row s xs before after q count ex eq room e ec =
    let same : take (min (q + 1) (length before)) xs ≡ first_ranks s row =
    ap₂ (λ n ys. take (min (n + 1) (length before)) ys) eq ex ∙ shown_all row s (length before) room in
    let list : after ≡ written_over (first_ranks s row) before = e ∙ ap (λ ys. written_over ys before) same in
    record {
      list = list;
      part = ap (take count) list ∙ part_is (first_ranks s row) before count (ec ∙ ap length same);
    }

pub cleared_as : (row : List Entry) (bs₀ ss₀ bs ss : List Ranked) (x y : ℕ) (o : Outcome) → Filled row Buyers bs₀ bs x → Filled row Sellers ss₀ ss y →
    o ≡ cleared (cents_of (take x bs)) (cents_of (take y ss)) → ClearedAs row o bs ss
cleared_as row bs₀ ss₀ bs ss x y o fb fs e =
    let rule : o ≡ outcome own row =
    e ∙ ap₂ (λ us vs. cleared (cents_of us) (cents_of vs)) fb.part fs.part ∙ outcome_shown row in
    record {
      by_rule = rule;
      buying = ap₂ (λ q ys. take (trades_in q) ys) rule fb.list ∙ trading_shown row Buyers bs₀;
      selling = ap₂ (λ q ys. take (trades_in q) ys) rule fs.list ∙ trading_shown row Sellers ss₀;
    }
