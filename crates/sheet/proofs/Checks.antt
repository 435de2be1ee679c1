-- From the fields of a kind to the answer of the checker.
use Rattle.std.proofs.Common.{Bor, Option, ⊎_elim, inl, inr, ◌≡◌, ℕ, suc, ◌+◌, ◌-◌, ◌*◌, ◌<◌, ◌≤◌, true, List, length, take, drop, Some, None, Ok, Err, Result, sym, ap, ◌∙◌, ap₂, add-one, arith}
use Rattle.std.proofs.lemmas.List.{length-map}
use Rattle.std.specs.declared.ops.Range.{Range}
use Rattle.std.specs.Iterator.Adapters.{zip_first, zip_second}
use Rattle.std.specs.Slice.Iter.{chunks_exact_rest, chunks_exact_size, chunks_exact_steps}
use Rattle.std.proofs.iter.Yields.{nat_range_steps}
use Rattle.std.proofs.lemmas.Iterator.{zips}
use Rattle.orders.proofs.Rows.{row_within}
use Rattle.std.proofs.lemmas.Bool.{cases_lt}
use Rattle.std.proofs.lemmas.Bool.Decides.{nat_tests}
use Rattle.orders.specs.declared.refusal.Refusal.{Refusal}
use Rattle.orders.specs.Entries.{entry_of, row_of, kind_row}
use Rattle.ranking.specs.declared.ranked.Side.TheVariants.{Buyers, Sellers}
use Rattle.ranking.specs.declared.ranked.Ranked.{Ranked}
use Rattle.ranking.specs.Ranks.{own, ranked}
use Rattle.clearing.specs.declared.outcome.Outcome.{Outcome}
use Rattle.clearing.specs.Rule.{cents_of, pairs, cleared, trades_in, buyers_pay, sellers_get}
use Rattle.clearing.specs.Kind.{pairs_in, outcome}
use Rattle.sheet.specs.Standing.{lists_fit}
use Rattle.sheet.specs.Sheets.{first_ranks, row_fields}
use Rattle.sheet.specs.Verdicts.{and_then, through, through_kinds}
use Rattle.sheet.specs.Writing.{fits}
use Rattle.sheet.proofs.Counted.{Loop, Taken, Turn, at, ended, taken}
use Rattle.sheet.proofs.Extents.{numbers_small}

-- a function of what two ranked lists give: the pairs, the outcome and the first ranks
pub given_by : {X : Type 0} {p : ℕ} {o : Outcome} {buying selling : List Ranked} (buyers sellers : List Ranked)
    (F : ℕ → Outcome → List Ranked → List Ranked → X) → p ≡ pairs (cents_of buyers) (cents_of sellers) →
    o ≡ cleared (cents_of buyers) (cents_of sellers) → buying ≡ take (p + 1) buyers → selling ≡ take (p + 1) sellers →
    F p o buying selling
    ≡ F (pairs (cents_of buyers) (cents_of sellers)) (cleared (cents_of buyers) (cents_of sellers))
    (take (suc (pairs (cents_of buyers) (cents_of sellers))) buyers) (take (suc (pairs (cents_of buyers) (cents_of sellers))) sellers)
given_by {p = p} {o = o} {buying = buying} {selling = selling} buyers sellers F count result bought sold =
    let n : p + 1 ≡ suc (pairs (cents_of buyers) (cents_of sellers)) = omega (arith, count) in
    ap₂ (λ x y. F x y buying selling) count result
    ∙ ap₂ (λ x y. F (pairs (cents_of buyers) (cents_of sellers)) (cleared (cents_of buyers) (cents_of sellers)) x y)
    (bought ∙ ap (λ (i : ℕ). take i buyers) n) (sold ∙ ap (λ (i : ℕ). take i sellers) n)

-- the numbers of a row fit
few_fit : (p : ℕ) (o : Outcome) (b s : ℕ) → p ≤ 2000 → trades_in o ≤ 2000 → buyers_pay o ≤ 20000000 → sellers_get o ≤ 20000000 →
    b + s ≤ 2000 → fits p o b s ≡ true
few_fit p o b s hp ht hb hs l = grind (arith, nat_tests)

pub row_fits : (codes : List ℕ) → length codes ≤ 2000 →
    lists_fit (ranked Buyers own (row_of codes)) (ranked Sellers own (row_of codes)) ≡ true
row_fits codes h =
    let row = row_of codes in
    let n = numbers_small codes in
    let l = length-map codes entry_of in
    few_fit (pairs_in own row) (outcome own row) (length (first_ranks Buyers row)) (length (first_ranks Sellers row))
    (omega (arith, n.pairs)) (omega (arith, n.trades)) n.pay n.get (omega (arith, n.listed))

-- the next of the kinds
pub kinds_next : (M : ℕ) (codes sheet : List ℕ) (K k at : ℕ) → k < K →
    through_kinds M codes sheet (K - k) k at
    ≡ and_then (through sheet k (row_fields (kind_row M codes k)) at) (through_kinds M codes sheet (K - (k + 1)) (k + 1))
unfolding through_kinds
kinds_next M codes sheet K k at h =
    let n : K - k ≡ suc (K - (k + 1)) = omega arith in
    ap (λ (i : ℕ). through_kinds M codes sheet i k at) n
    ∙ ap (λ (i : ℕ). and_then (through sheet k (row_fields (kind_row M codes k)) at) (through_kinds M codes sheet (K - (k + 1)) i)) (sym (add-one k))

pub kinds_none : (M : ℕ) (codes sheet : List ℕ) (K k at : ℕ) → K ≤ k → through_kinds M codes sheet (K - k) k at ≡ Ok at
unfolding through_kinds
kinds_none M codes sheet K k at h = let n : K - k ≡ 0 = omega arith in ap (λ (i : ℕ). through_kinds M codes sheet i k at) n

-- what a kind answered
module _ (M : ℕ) (codes sheet : List ℕ) (K k at : ℕ) (row : List ℕ) (r : Result ℕ Refusal) where
  kind_answer : row ≡ take M (drop (k * M) codes) → k < K → r ≡ through sheet k (row_fields (row_of row)) at →
      through_kinds M codes sheet (K - k) k at ≡ and_then r (through_kinds M codes sheet (K - (k + 1)) (k + 1))
  kind_answer s h e =
      kinds_next M codes sheet K k at h
      ∙ ap (λ x. and_then x (through_kinds M codes sheet (K - (k + 1)) (k + 1)))
      (sym (e ∙ ap (λ ns. through sheet k (row_fields (row_of ns)) at) s))

  pub kind_ok : {end : ℕ} → row ≡ take M (drop (k * M) codes) → k < K → r ≡ through sheet k (row_fields (row_of row)) at → r ≡ Ok end →
      through_kinds M codes sheet (K - k) k at ≡ through_kinds M codes sheet (K - (k + 1)) (k + 1) end
  kind_ok s h e is = kind_answer s h e ∙ ap (λ x. and_then x (through_kinds M codes sheet (K - (k + 1)) (k + 1))) is

  pub kind_err : {why : Refusal} → row ≡ take M (drop (k * M) codes) → k < K → r ≡ through sheet k (row_fields (row_of row)) at →
      r ≡ Err why → through_kinds M codes sheet (K - k) k at ≡ Err why
  kind_err s h e is = kind_answer s h e ∙ ap (λ x. and_then x (through_kinds M codes sheet (K - (k + 1)) (k + 1))) is

-- THE KINDS, EACH BESIDE ITS ROW, in a loop over both
module _ (K M : ℕ) (codes sheet : List ℕ) where
  pub record Upto (s : Loop ℕ) (end : ℕ) : Type 0 where
    pub turn : Turn K M codes s
    pub through : through_kinds M codes sheet (K - at s) (at s) end ≡ through_kinds M codes sheet K 0 0

  pub kinds_begin : (s : Loop ℕ) → zip_first s ≡ record { start = 0; end = K } → chunks_exact_size (zip_second s) ≡ M →
      chunks_exact_rest (zip_second s) ≡ codes → Upto s 0
  kinds_begin s range size rest =
      let first : at s ≡ 0 = ap (λ (x : Range ℕ). x.start) range in
      let zero : 0 ≡ 0 * M = omega arith in
      let none : 0 ≡ at s * M = zero ∙ ap (λ (i : ℕ). i * M) (sym first) in
      record {
        turn = record {
          below = omega (arith, first);
          last = ap (λ (x : Range ℕ). x.end) range;
          size = size;
          rest = rest ∙ ap (λ (i : ℕ). drop i codes) none;
          room = omega (arith, none);
        };
        through = ap (λ (i : ℕ). through_kinds M codes sheet (K - i) i 0) first ∙ (let all : K - 0 ≡ K = omega arith in ap (λ (i : ℕ). through_kinds M codes sheet i 0 0) all);
      }

  module _ (s t : Loop ℕ) (r : Option (ℕ × Bor (List ℕ))) (end : ℕ) where
    -- what the kind's row answered
    module _ (p : ℕ × Bor (List ℕ)) (answer : Result ℕ Refusal) (u : Upto s end) (is : r ≡ Some p) (steps : zips nat_range_steps chunks_exact_steps s r t)
        (by_row : answer ≡ through sheet p.0 (row_fields (row_of p.1.now)) end) where
      next : Taken K M codes s t p
      next = taken K M codes s t r p u.turn is steps

      by_kind : answer ≡ through sheet (at s) (row_fields (row_of p.1.now)) end
      by_kind = by_row ∙ ap (λ (i : ℕ). through sheet i (row_fields (row_of p.1.now)) end) next.number

      pub next_kind : {more : ℕ} → answer ≡ Ok more → Upto t more
      next_kind {more} ok =
          record {
            turn = next.turn;
            through =
                ap (λ (i : ℕ). through_kinds M codes sheet (K - i) i more) next.more
                ∙ sym (kind_ok M codes sheet K (at s) end p.1.now answer next.part next.below by_kind ok) ∙ u.through;
          }

      pub refused_kind : {why : Refusal} → answer ≡ Err why → through_kinds M codes sheet K 0 0 ≡ Err why
      refused_kind err = sym u.through ∙ kind_err M codes sheet K (at s) end p.1.now answer next.part next.below by_kind err

    -- no more kinds
    pub kinds_over : Upto s end → 1 ≤ M → K * M ≤ length codes → r ≡ None → zips nat_range_steps chunks_exact_steps s r t →
        through_kinds M codes sheet K 0 0 ≡ Ok end
    kinds_over u few room is steps =
        sym u.through ∙ kinds_none M codes sheet K (at s) end
        (⊎_elim (λ f. omega (arith, f))
        (λ g. elim (cases_lt (at s) K) [
          | inr h ↦ h
          | inl h ↦ absurd (omega (arith, g, row_within (at s) K M (length codes) few h room))
        ])
        (ended K M codes s t r u.turn is steps))
