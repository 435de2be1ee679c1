-- The letter told by the sheet of the entries is the letter by the rule.
use Rattle.std.proofs.Common.{◌≡◌, ℕ, zero, suc, ◌+◌, ◌*◌, ◌<◌, ◌≤◌, true, cond, List, [], ◌∷◌, ◌++◌, length, get_or, take, drop, Some, Ok, Err, Result, sym, refl, ap, ◌∙◌, arith}
use Rattle.std.specs.List.{slice_get}
use Rattle.std.proofs.lemmas.Nat.{mul-add-lt}
use Rattle.std.proofs.lemmas.List.{get_or-map, length-take, length-drop}
use Rattle.std.proofs.lemmas.Bool.{and_parts, and_from, cond-true, leb-true, ltb-true}
use Rattle.orders.specs.declared.money.Cents.{Cents}
use Rattle.orders.specs.declared.entry.Entry.{Entry}
use Rattle.orders.specs.declared.entry.Entry.TheVariants.{Nothing, Bid, Ask}
use Rattle.orders.specs.declared.refusal.Refusal.{Refusal}
use Rattle.orders.specs.declared.refusal.Refusal.TheVariants.{Ends}
use Rattle.orders.specs.Entries.{entry_of, kind_row}
use Rattle.ranking.specs.declared.ranked.Side.{Side}
use Rattle.ranking.specs.declared.ranked.Side.TheVariants.{Buyers, Sellers}
use Rattle.ranking.specs.Ranks.{own, on_side, ranked}
use Rattle.clearing.specs.declared.outcome.Outcome.{Outcome}
use Rattle.clearing.specs.Rule.{half_cents, trades_in, buyers_pay, sellers_get, price_of}
use Rattle.clearing.specs.Kind.{number, standing, pairs_in, bids, asks, outcome}
use Rattle.clearing.proofs.Critical.{Cleared, none, one_price, two_prices}
use Rattle.clearing.proofs.Settling.{pairs_are, clears}
use Rattle.clearing.proofs.Pairing.{length_cents}
use Rattle.sheet.specs.Sheets.{row_bytes, first_ranks, sheet_of_kind, sheet_from}
use Rattle.sheet.specs.Sections.{past_kind, listed}
use Rattle.sheet.specs.Statements.{ReadBack}
use Rattle.sheet.specs.Writing.{fits, written_at}
use Rattle.sheet.proofs.Extents.{kind_writable}
use Rattle.sheet.proofs.Sections.{read_back, listed_row, first_listable}
use Rattle.letter.specs.Following.{of_side}
use Rattle.letter.specs.Letters.{pair_of, last_of, next_of, tie_of, traded_at, line_of, entry_lines, kind_lines, lines_from, letter_of}
use Rattle.letter.specs.Lines.{letter_bytes}
use Rattle.letter.specs.Statements.{OfEvening}
use Rattle.letter.specs.Telling.{listed_before, cents_or_0, tie_beside, price_beside, by_side, line_told, entry_told, kind_told, lines_told, kinds_there, letter_told, allowed, write_answer, letter_written, if_allowed}
use Rattle.letter.proofs.Accepted.{passed}
use Rattle.letter.proofs.Beside.{nth_before, cents_nth, last_nth, tie_is, price_is}
use Rattle.letter.proofs.Bounds.{same_line}
use Rattle.letter.proofs.Evenings.{codes_ranged}
use Rattle.letter.proofs.KindByKind.{told_from, code_at}
use Rattle.letter.proofs.Positions.{least}

nth_take : {A : Type 0} (n r : ℕ) (xs : List A) → r < n → slice_get (take n xs) r ≡ slice_get xs r
nth_take zero r xs l = absurd (omega arith)
nth_take (suc n) r [] l = refl
nth_take (suc n) zero (x ∷ xs) l = refl
nth_take (suc n) (suc r) (x ∷ xs) l = nth_take n r xs (omega arith)

trades_few : {s : Side} {xs ys : List ℕ} {p t π : ℕ} → Cleared s xs ys p t π → t ≤ p
trades_few (none e f) = omega arith
trades_few (one_price n e v f g) = omega arith
trades_few (two_prices n e v f g) = omega arith

-- a kind's line
module _ (M : ℕ) (codes : List ℕ) (k : ℕ) (small : M ≤ 2000) where
  abbrev row : List Entry
  row = kind_row M codes k

  abbrev p : ℕ
  p = pairs_in own row

  abbrev o : Outcome
  o = outcome own row

  abbrev rows : Side → List ℕ
  rows s = row_bytes (first_ranks s row)

  listed_rank : (s : Side) (r : ℕ) → r ≤ p → listed (rows s) r ≡ slice_get (ranked s own row) r
  listed_rank s r l =
      listed_row (first_ranks s row) r (first_listable s M codes k small) ∙ nth_take (suc p) r (ranked s own row) (omega arith)

  rank_before : (s : Side) (t : ℕ) → t ≤ suc p → listed_before (rows s) t ≡ nth_before (ranked s own row) t
  rank_before s zero l = refl
  rank_before s (suc r) l = listed_rank s r (omega arith)

  pairs_within : (s : Side) → p ≤ length (ranked s own row)
  pairs_within Buyers = omega (arith, (pairs_are Buyers (bids own row) (asks own row)).own, length_cents (ranked Buyers own row))
  pairs_within Sellers = omega (arith, (pairs_are Buyers (bids own row) (asks own row)).other, length_cents (ranked Sellers own row))

  trades_within : trades_in o ≤ p
  trades_within = trades_few (clears Buyers (bids own row) (asks own row))

  last_same : pair_of (cents_or_0 (listed_before (rows Buyers) p)) (cents_or_0 (listed_before (rows Sellers) p)) ≡ last_of row
  last_same =
      let l = last_nth (ranked Buyers own row) (ranked Sellers own row) p in
      cc (rank_before Buyers p (omega arith), rank_before Sellers p (omega arith), l)

  next_same : pair_of (cents_or_0 (listed (rows Buyers) p)) (cents_or_0 (listed (rows Sellers) p)) ≡ next_of row
  next_same =
      let b = cents_nth (ranked Buyers own row) p in
      let a = cents_nth (ranked Sellers own row) p in
      cc (listed_rank Buyers p (omega arith), listed_rank Sellers p (omega arith), b, a)

  own_rows : (s : Side) → by_side s (rows Buyers) (rows Sellers) ≡ rows s
  own_rows Buyers = refl
  own_rows Sellers = refl

  own_price : (s : Side) → by_side s (half_cents (buyers_pay o)) (half_cents (sellers_get o)) ≡ half_cents (price_of s o)
  own_price Buyers = refl
  own_price Sellers = refl

  own_last : (s : Side) → cents_or_0 (nth_before (ranked s own row) p) ≡ of_side s (last_of row)
  own_last Buyers = ap (of_side Buyers) (last_nth (ranked Buyers own row) (ranked Sellers own row) p)
  own_last Sellers = ap (of_side Sellers) (last_nth (ranked Buyers own row) (ranked Sellers own row) p)

  module _ (s : Side) (i : ℕ) (c : Cents) (h : number s row i ≡ Some c) where
    tie_told : tie_beside (standing i c) (listed_before (by_side s (rows Buyers) (rows Sellers)) p) ≡ tie_of s row i c
    tie_told =
        let t = tie_is row s i c h p (least c.0 (codes_ranged (take M (drop (k * M) codes)) s i c h)) (pairs_within s) in
        cc (own_rows s, rank_before s p (omega arith), t, own_last s)

    price_told : price_beside s (standing i c) (by_side s (half_cents (buyers_pay o)) (half_cents (sellers_get o)))
        (listed_before (by_side s (rows Buyers) (rows Sellers)) (trades_in o)) ≡ traded_at s row i c
    price_told =
        let t = price_is row s i c h (trades_in o) (half_cents (price_of s o)) (omega (arith, trades_within, pairs_within s)) in
        cc (own_rows s, own_price s, rank_before s (trades_in o) (omega (arith, trades_within)), t)

    line_same : line_told k s (standing i c) p (trades_in o) (half_cents (buyers_pay o)) (half_cents (sellers_get o)) (rows Buyers) (rows Sellers)
        ≡ line_of s k row i c
    line_same = same_line k s c price_told last_same next_same tie_told

  entry_same : (i : ℕ) (e : Entry) → get_or row i Nothing ≡ e →
      entry_told k i e p (trades_in o) (half_cents (buyers_pay o)) (half_cents (sellers_get o)) (rows Buyers) (rows Sellers)
      ≡ entry_lines k row i e
  entry_same i Nothing h = refl
  entry_same i (Bid c) h = ap (λ x. x ∷ []) (line_same Buyers i c (ap (on_side Buyers) h))
  entry_same i (Ask c) h = ap (λ x. x ∷ []) (line_same Sellers i c (ap (on_side Sellers) h))

  all_fits : fits p o (length (first_ranks Buyers row)) (length (first_ranks Sellers row)) ≡ true
  all_fits = (and_parts _ _ (kind_writable M codes k (16 + 6 * M) 0 small (omega arith))).0

  read_kind : (rest : List ℕ) → ReadBack p o (first_ranks Buyers row) (first_ranks Sellers row) rest (sheet_of_kind row ++ rest)
  read_kind rest = read_back p o (first_ranks Buyers row) (first_ranks Sellers row) rest all_fits

  entry_at : (i : ℕ) → i < M → k * M + i < length codes → entry_of (get_or codes (k * M + i) 0) ≡ get_or row i Nothing
  entry_at i l m =
      let part = take M (drop (k * M) codes) in
      let n : i < length part = omega (arith, length-take M (drop (k * M) codes), length-drop (k * M) codes) in
      sym
      (get_or-map entry_of part i 0 Nothing n
      ∙ ap entry_of (code_at M k i codes l))

  kind_same : (i : ℕ) (rest : List ℕ) → i < M → k * M + i < length codes →
      kind_told k i (entry_of (get_or codes (k * M + i) 0)) (sheet_of_kind row ++ rest) ≡ kind_lines k M codes i
  kind_same i rest l m =
      let r = read_kind rest in
      ap (λ e. kind_told k i e (sheet_of_kind row ++ rest)) (entry_at i l m)
      ∙ sym (told_from k i (get_or row i Nothing) p (trades_in o) (half_cents (buyers_pay o)) (half_cents (sellers_get o)) (rows Buyers) (rows Sellers)
      (sheet_of_kind row ++ rest) (sym r.pairs) (sym r.trades) (sym r.pay) (sym r.get) (sym r.buying) (sym r.selling))
      ∙ entry_same i (get_or row i Nothing) refl

-- all kinds
module _ (M : ℕ) (codes : List ℕ) (i : ℕ) (small : M ≤ 2000) (member : i < M) where
  lines_same : (K n k : ℕ) → k + n ≤ K → K * M ≤ length codes →
      (kinds_there n (sheet_from M codes n k) ≡ true) × (lines_told M codes i n k (sheet_from M codes n k) ≡ lines_from M codes i n k)
  unfolding kinds_there lines_told lines_from sheet_from
  lines_same K zero k l room = (refl, refl)
  lines_same K (suc n) k l room =
      let rest = sheet_from M codes n (suc k) in
      let bs = sheet_of_kind (kind_row M codes k) ++ rest in
      let r = read_kind M codes k small rest in
      let ih = lines_same K n (suc k) (omega arith) room in
      let here : k * M + i < length codes = omega (arith, mul-add-lt k M i K (omega arith) member) in (
        and_from _ _ r.there (ap (kinds_there n) r.after ∙ ih.0),
        cond-true _ _ _ r.there
            ∙ ap (λ x. x ++ lines_told M codes i n (suc k) (past_kind bs)) (kind_same M codes k small i rest member here)
            ∙ ap (λ x. kind_lines k M codes i ++ lines_told M codes i n (suc k) x) r.after
            ∙ ap (λ x. kind_lines k M codes i ++ x) ih.1,
      )

-- what is allowed is in range
pub record Allowed (K M entries i room : ℕ) : Type 0 where
  pub kinds : K ≤ 64
  pub members : M ≤ 2000
  pub member : i < M
  pub entries_there : K * M ≤ entries

in_allowed : (K M entries i room : ℕ) → allowed K M entries i room ≡ Ok tt → Allowed K M entries i room
in_allowed K M entries i room h =
    let a = passed _ _ _ h in
    let b = passed _ _ _ a.1 in
    let c = passed _ _ _ b.1 in
    let d = passed _ _ _ c.1 in
    record {
      kinds = leb-true K 64 (and_parts _ _ a.0).1;
      members = leb-true M 2000 (and_parts _ _ b.0).1;
      member = ltb-true i M c.0;
      entries_there = leb-true (K * M) entries d.0;
    }

pub of_evening : (K M : ℕ) (codes sheet : List ℕ) (i : ℕ) (answer : Result ℕ Refusal) (old new : List ℕ) →
    answer ≡ write_answer K M codes sheet i (length old) → new ≡ letter_written answer (letter_told K M codes sheet i) old →
    OfEvening K M codes sheet i answer old new
of_evening K M codes sheet i answer old new ea en same ok =
    let a = in_allowed K M (length codes) i (length old) ok in
    let l = lines_same M codes i a.members a.member K K 0 (omega arith) a.entries_there in
    let there : kinds_there K sheet ≡ true = ap (kinds_there K) same ∙ l.0 in
    let told : letter_told K M codes sheet i ≡ letter_of K M codes i =
    ap (λ x. letter_told K M codes x i) same ∙ ap (letter_bytes i) l.1 in
    let good : answer ≡ Ok (length (letter_of K M codes i)) =
    ea ∙ ap (λ r. if_allowed r (cond (kinds_there K sheet) (Ok (length (letter_told K M codes sheet i))) (Err (Ends (length sheet))))) ok
    ∙ cond-true _ _ _ there ∙ ap (λ x. Ok (length x)) told in
    (good, en ∙ ap (λ r. letter_written r (letter_told K M codes sheet i) old) good ∙ ap (λ x. written_at 0 x old) told)
