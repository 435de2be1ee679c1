-- How many bytes a sheet takes, and that its numbers fit their fields.
use Rattle.std.proofs.Common.{◌≡◌, ℕ, zero, suc, ◌+◌, ◌-◌, ◌*◌, ◌<◌, ◌≤◌, true, cond, ◌&&◌, eqb, ltb, leb, List, [], ◌∷◌, ◌++◌, length, take, drop, Some, None, Option, unwrap_or, sym, refl, ap, ◌∙◌, le_refl, suc-mul, mul-le-mul, arith}
use Rattle.std.specs.List.{AllByRecursion}
use Rattle.std.proofs.lemmas.List.{length-append, length-take, length-map, append-nil, append_assoc}
use Rattle.std.proofs.lemmas.Bool.{cond_both, cond-true}
use Rattle.std.proofs.lemmas.Bool.Decides.{nat_tests}
use Rattle.orders.specs.declared.entry.Entry.{Entry}
use Rattle.orders.specs.declared.entry.Entry.TheVariants.{Nothing, Bid, Ask}
use Rattle.orders.specs.Entries.{entry_of, row_of, kind_row}
use Rattle.ranking.specs.declared.ranked.Side.{Side}
use Rattle.ranking.specs.declared.ranked.Side.TheVariants.{Buyers, Sellers}
use Rattle.ranking.specs.declared.ranked.Ranked.{Ranked}
use Rattle.ranking.specs.Ranks.{own, on_side, entered, ranked_from, ranked}
use Rattle.clearing.specs.declared.outcome.Outcome.{Outcome}
use Rattle.clearing.specs.Rule.{cents_of, pairs, trades_in, buyers_pay, sellers_get}
use Rattle.clearing.specs.Kind.{pairs_in, outcome, bids, asks}
use Rattle.clearing.proofs.Bounds.{within_bounds}
use Rattle.clearing.proofs.Placing.{all_insert, length_insert}
use Rattle.sheet.specs.Sheets.{first_ranks, kind_sheet, sheet_of_kind, sheet_from, sheet_of}
use Rattle.sheet.specs.Statements.{Size, AlwaysWritable}
use Rattle.sheet.specs.Writing.{kind_length, writable, written_at}
use Rattle.sheet.proofs.Written.{length_kind, written_none, written_then}

-- each entry stands on one side at most

both_sides : (tie : ℕ → ℕ) (m : ℕ) (es : List Entry) →
    length (ranked_from Buyers tie m es) + length (ranked_from Sellers tie m es) ≤ length es
unfolding ranked_from
both_sides tie m [] = omega arith
both_sides tie m (Nothing ∷ es) = omega (arith, both_sides tie (suc m) es)
both_sides tie m (Bid c ∷ es) =
    omega (
      arith,
      both_sides tie (suc m) es,
      length_insert Buyers tie (record { member = m; cents = c }) (ranked_from Buyers tie (suc m) es),
    )
both_sides tie m (Ask c ∷ es) =
    omega (
      arith,
      both_sides tie (suc m) es,
      length_insert Sellers tie (record { member = m; cents = c }) (ranked_from Sellers tie (suc m) es),
    )

pub ranked_few : (row : List Entry) → length (ranked Buyers own row) + length (ranked Sellers own row) ≤ length row
unfolding ranked
ranked_few row = both_sides own 0 row

pub listed_few : (row : List Entry) → length (first_ranks Buyers row) + length (first_ranks Sellers row) ≤ length row
listed_few row =
    omega (
      arith,
      ranked_few row,
      length-take (suc (pairs_in own row)) (ranked Buyers own row),
      length-take (suc (pairs_in own row)) (ranked Sellers own row),
    )

-- THE SIZE OF A KIND, and of all kinds

pub length_sheet_of_kind : (row : List Entry) → length (sheet_of_kind row) ≤ 16 + 6 * length row
length_sheet_of_kind row =
    omega (
      arith,
      listed_few row,
      length_kind (pairs_in own row) (outcome own row) (first_ranks Buyers row) (first_ranks Sellers row),
    )

pub length_kind_row : (M : ℕ) (codes : List ℕ) (k : ℕ) → length (kind_row M codes k) ≤ M
length_kind_row M codes k =
    omega (arith, length-map (take M (drop (k * M) codes)) entry_of, length-take M (drop (k * M) codes))

pub length_sheet_from : (M : ℕ) (codes : List ℕ) (n k : ℕ) → length (sheet_from M codes n k) ≤ n * (16 + 6 * M)
unfolding sheet_from
length_sheet_from M codes zero k = omega arith
length_sheet_from M codes (suc n) k =
    omega (
      arith,
      length-append (sheet_of_kind (kind_row M codes k)) (sheet_from M codes n (suc k)),
      length_sheet_of_kind (kind_row M codes k),
      length_kind_row M codes k,
      length_sheet_from M codes n (suc k),
      suc-mul n (16 + 6 * M),
    )

pub length_sheet_of : Size
length_sheet_of K M codes = length_sheet_from M codes K 0

-- THE NUMBERS FIT

-- an entry of no more than the most that may be written
abbrev pub low_entry : Entry → Type 0
low_entry Nothing = Unit {0}
low_entry (Bid c) = c.0 ≤ 10000000
low_entry (Ask c) = c.0 ≤ 10000000

pub low_decoded : (n : ℕ) → low_entry (entry_of n)
low_decoded n =
    let P : Option Entry → Type 0 = λ o. low_entry (unwrap_or o Nothing) in
    cond_both (eqb n 0) (Some Nothing) _ P (λ e. tt)
    (λ e. cond_both (ltb 16777216 n && leb n 26777216) (Some (Bid (record { 0 = n - 16777216 }))) _ P (λ h. grind (arith, nat_tests))
    (λ f. cond_both (ltb 33554432 n && leb n 43554432) (Some (Ask (record { 0 = n - 33554432 }))) None P (λ h. grind (arith, nat_tests)) (λ g. tt)))

abbrev low : Ranked → Type 0
low x = x.cents.0 ≤ 10000000

low_ranked : (s : Side) (m : ℕ) (codes : List ℕ) → AllByRecursion low (ranked_from s own m (row_of codes))
unfolding ranked_from
low_ranked s m [] = tt
low_ranked s m (n ∷ codes) = among s (entry_of n) (low_decoded n) (ranked_from s own (suc m) (row_of codes)) (low_ranked s (suc m) codes)
  where
    among : (s : Side) (e : Entry) → low_entry e → (xs : List Ranked) → AllByRecursion low xs → AllByRecursion low (entered s own m (on_side s e) xs)
    among Buyers Nothing h xs a = a
    among Buyers (Bid c) h xs a = all_insert Buyers own low (record { member = m; cents = c }) xs h a
    among Buyers (Ask c) h xs a = a
    among Sellers Nothing h xs a = a
    among Sellers (Bid c) h xs a = a
    among Sellers (Ask c) h xs a = all_insert Sellers own low (record { member = m; cents = c }) xs h a

low_cents : (xs : List Ranked) → AllByRecursion low xs → AllByRecursion (λ n. n ≤ 10000000) (cents_of xs)
low_cents [] a = tt
low_cents (x ∷ xs) a = (a.0, low_cents xs a.1)

-- no bid or ask of a row is above the most that may be written
pub ranked_low : (s : Side) (codes : List ℕ) → AllByRecursion (λ x. x.cents.0 ≤ 10000000) (ranked s own (row_of codes))
unfolding ranked
ranked_low s codes = low_ranked s 0 codes

pairs_few : (bs as' : List ℕ) → pairs bs as' ≤ length bs
unfolding pairs
pairs_few [] as' = omega arith
pairs_few (b ∷ bs) [] = omega arith
pairs_few (b ∷ bs) (a ∷ as') =
    cond_both (leb a b) (suc (pairs bs as')) 0 (λ n. n ≤ suc (length bs)) (λ e. omega (arith, pairs_few bs as')) (λ e. omega arith)

-- the numbers of a row's part of the sheet
pub record Small (row : List Entry) : Type 0 where
  pub pairs : pairs_in own row ≤ length row
  pub trades : trades_in (outcome own row) ≤ length row
  pub pay : buyers_pay (outcome own row) ≤ 20000000
  pub get : sellers_get (outcome own row) ≤ 20000000
  pub listed : length (first_ranks Buyers row) + length (first_ranks Sellers row) ≤ length row

pub numbers_small : (codes : List ℕ) → Small (row_of codes)
numbers_small codes =
    let row = row_of codes in
    let w =
    within_bounds 10000000 (bids own row) (asks own row) (low_cents (ranked Buyers own row) (ranked_low Buyers codes))
    (low_cents (ranked Sellers own row) (ranked_low Sellers codes)) in
    let n = length-map (ranked Buyers own row) (λ (x : Ranked). x.cents.0) in
    let few = ranked_few row in
    record {
      pairs = omega (arith, pairs_few (bids own row) (asks own row));
      trades = omega (arith, w.buyers);
      pay = omega (arith, w.pay);
      get = omega (arith, w.get);
      listed = listed_few row;
    }

room_fits : (size at p : ℕ) (o : Outcome) (b s : ℕ) → p ≤ 2000 → trades_in o ≤ 2000 → buyers_pay o ≤ 20000000 → sellers_get o ≤ 20000000 →
    b + s ≤ 2000 → at + kind_length b s ≤ size → writable size at p o b s ≡ true
room_fits size at p o b s hp ht hb hs l r = grind (arith, nat_tests)

-- A KIND CAN BE WRITTEN where there is room for as many as there are members
pub kind_writable : AlwaysWritable
kind_writable M codes k size at m h =
    let row = kind_row M codes k in
    let n = numbers_small (take M (drop (k * M) codes)) in
    let l = length_kind_row M codes k in
    room_fits size at (pairs_in own row) (outcome own row) (length (first_ranks Buyers row)) (length (first_ranks Sellers row))
    (omega (arith, n.pairs)) (omega (arith, n.trades)) n.pay n.get (omega (arith, n.listed)) (omega (arith, n.listed))

-- KIND BY KIND

pub sheet_more : (M : ℕ) (codes : List ℕ) (n k : ℕ) →
    sheet_from M codes (n + 1) k ≡ sheet_from M codes n k ++ sheet_of_kind (kind_row M codes (k + n))
unfolding sheet_from
sheet_more M codes zero k =
    append-nil (sheet_of_kind (kind_row M codes k)) ∙ ap (λ (i : ℕ). sheet_of_kind (kind_row M codes i)) (omega arith)
sheet_more M codes (suc n) k =
    let grown : suc n + 1 ≡ suc (n + 1) = omega arith in
    ap (λ (i : ℕ). sheet_from M codes i k) grown
    ∙ ap (λ t. sheet_of_kind (kind_row M codes k) ++ t) (sheet_more M codes n (suc k))
    ∙ sym (append_assoc (sheet_of_kind (kind_row M codes k)) (sheet_from M codes n (suc k)) (sheet_of_kind (kind_row M codes (suc k + n))))
    ∙ ap (λ (i : ℕ). sheet_from M codes (suc n) k ++ sheet_of_kind (kind_row M codes i)) (omega arith)

pub sheet_none : (M : ℕ) (codes old : List ℕ) → (length (sheet_of 0 M codes) ≡ 0) × (written_at 0 (sheet_of 0 M codes) old ≡ old)
unfolding sheet_from
sheet_none M codes old = (refl, written_none 0 old)

pub sheet_of_more : (M : ℕ) (codes : List ℕ) (k : ℕ) →
    sheet_of (k + 1) M codes ≡ sheet_of k M codes ++ sheet_of_kind (kind_row M codes k)
sheet_of_more M codes k =
    sheet_more M codes k 0 ∙ ap (λ (i : ℕ). sheet_of k M codes ++ sheet_of_kind (kind_row M codes i)) (omega arith)

-- ONE MORE KIND is written after those before it: what `write_kind` ensures, at the numbers of the row
pub kind_written : (K M : ℕ) (codes : List ℕ) (k at p : ℕ) (o : Outcome) (buyers sellers : List Ranked) (old mid new : List ℕ) (r : Option ℕ) →
    M ≤ 2000 → k < K → K * (16 + 6 * M) ≤ length old → length mid ≡ length old → at ≡ length (sheet_of k M codes) →
    mid ≡ written_at 0 (sheet_of k M codes) old → p ≡ pairs_in own (kind_row M codes k) → o ≡ outcome own (kind_row M codes k) →
    buyers ≡ first_ranks Buyers (kind_row M codes k) → sellers ≡ first_ranks Sellers (kind_row M codes k) →
    r ≡ cond (writable (length mid) at p o (length buyers) (length sellers)) (Some (at + length (kind_sheet p o buyers sellers))) None →
    new ≡ cond (writable (length mid) at p o (length buyers) (length sellers)) (written_at at (kind_sheet p o buyers sellers) mid) mid →
    (r ≡ Some (length (sheet_of (k + 1) M codes))) × (new ≡ written_at 0 (sheet_of (k + 1) M codes) old)
kind_written K M codes k at p o buyers sellers old mid new r m h room long e was ep eo eb es er en =
    let row = kind_row M codes k in
    let part = sheet_of_kind row in
    let before = sheet_of k M codes in
    let size = length_sheet_of k M codes in
    let all = mul-le-mul {n₁ = suc k} {m₁ = 16 + 6 * M} {n₂ = K} {m₂ = 16 + 6 * M} h (le_refl (16 + 6 * M)) in
    let step = suc-mul k (16 + 6 * M) in
    let test : writable (length mid) at p o (length buyers) (length sellers) ≡ true =
    rw (ep, eo, eb, es) (kind_writable M codes k (length mid) at m (omega arith)) in
    let same : kind_sheet p o buyers sellers ≡ part = rw (ep, eo, eb, es) in
    let sum : length (sheet_of (k + 1) M codes) ≡ at + length part =
    ap length (sheet_of_more M codes k) ∙ length-append before part ∙ ap (λ (n : ℕ). n + length part) (sym e) in (
      er ∙ cond-true _ _ _ test ∙ ap (λ bytes. Some (at + length bytes)) same ∙ ap Some (sym sum),
      en ∙ cond-true _ _ _ test ∙ ap (λ bytes. written_at at bytes mid) same ∙ ap (written_at at part) was
          ∙ written_then 0 at before part old (omega arith) (omega arith)
          ∙ ap (λ bytes. written_at 0 bytes old) (sym (sheet_of_more M codes k)),
    )
