-- What was written of a kind is read again.
use Rattle.std.proofs.Common.{◌≡◌, ℕ, zero, suc, ◌+◌, ◌*◌, ◌/◌, ◌%◌, ◌<◌, ◌≤◌, Bool, true, ◌&&◌, List, [], ◌∷◌, ◌++◌, length, get_or, take, drop, Some, sym, ap, ◌∙◌, subst, ap₂, inl, inr, add_assoc, mod-eq_of_lt, arith}
use Rattle.std.specs.List.{AllByRecursion}
use Rattle.std.proofs.lemmas.Nat.{shr-shr, shr_below, div-add-mod'}
use Rattle.std.proofs.ByRecursion.{All-take}
use Rattle.std.proofs.lemmas.List.{append_assoc, length-append, length-map, length-take, get_or-append-add, take_at, drop_at}
use Rattle.std.proofs.lemmas.Option.{slice_get-get_or, slice_get_past}
use Rattle.std.proofs.lemmas.Bool.{cases_lt, cond-true, cond-false, lt-ltb, le-ltb, le-leb}
use Rattle.std.proofs.lemmas.Bool.Decides.{nat_tests}
use Rattle.orders.specs.Entries.{entry_of, row_of}
use Rattle.orders.specs.Words.{word2, word4}
use Rattle.ranking.specs.declared.ranked.Side.{Side}
use Rattle.ranking.specs.declared.ranked.Ranked.{Ranked}
use Rattle.ranking.specs.Ranks.{own, ranked}
use Rattle.clearing.specs.declared.outcome.Outcome.{Outcome}
use Rattle.clearing.specs.Rule.{trades_in, buyers_pay, sellers_get}
use Rattle.clearing.specs.Kind.{pairs_in}
use Rattle.clearing.proofs.Rows.{InRow, ranked_in_row}
use Rattle.sheet.specs.Words.{bytes2, bytes4}
use Rattle.sheet.specs.Sheets.{listed_bytes, row_bytes, kind_sheet}
use Rattle.sheet.specs.Writing.{fits}
use Rattle.sheet.specs.Sections.{has_row, row_in, past_row, how_many_listed, listed_at}
use Rattle.sheet.specs.Statements.{ReadBack, Listable, KindReadAgain, RowReadAgain, FirstListable}
use Rattle.sheet.proofs.Extents.{ranked_low}
use Rattle.sheet.proofs.Written.{head_bytes, counted_bytes, kind_parts, length_row, length_listed}

-- a number of two or four bytes is read again

two : (n : ℕ) → n < 65536 → n % 256 + n / 256 % 256 * 256 ≡ n
two n h = omega arith

digits : (n q r s a b c d : ℕ) → q * 256 + a ≡ n → r * 256 + b ≡ q → s * 256 + c ≡ r → d ≡ s →
    a + b * 256 + c * 65536 + d * 16777216 ≡ n
digits n q r s a b c d e f g h = omega arith

four : (n : ℕ) → n < 4294967296 →
    n % 256 + n / 256 % 256 * 256 + n / 65536 % 256 * 65536 + n / 16777216 % 256 * 16777216 ≡ n
four n h =
    let low = div-add-mod' n 256 in
    let next : n / 65536 * 256 + n / 256 % 256 ≡ n / 256 = ap (λ (q : ℕ). q * 256 + n / 256 % 256) (sym (shr-shr n 8 8)) ∙ div-add-mod' (n / 256) 256 in
    let high : n / 16777216 * 256 + n / 65536 % 256 ≡ n / 65536 =
    ap (λ (q : ℕ). q * 256 + n / 65536 % 256) (sym (shr-shr n 16 8)) ∙ div-add-mod' (n / 65536) 256 in
    let top : n / 16777216 % 256 ≡ n / 16777216 = mod-eq_of_lt (shr_below n 8 24 h) in
    digits n (n / 256) (n / 65536) (n / 16777216) (n % 256) (n / 256 % 256) (n / 65536 % 256) (n / 16777216 % 256) low next high top

pub word2_bytes : (n : ℕ) (rest : List ℕ) → n < 65536 → word2 (bytes2 n ++ rest) 0 ≡ n
unfolding bytes2
word2_bytes n rest h = two n h

pub word4_bytes : (n : ℕ) (rest : List ℕ) → n < 4294967296 → word4 (bytes4 n ++ rest) 0 ≡ n
unfolding bytes4
word4_bytes n rest h = four n h

word2_past : (xs ys : List ℕ) (i j : ℕ) → j ≡ length xs + i → word2 (xs ++ ys) j ≡ word2 ys i
word2_past xs ys i j e =
    let a = get_or-append-add xs ys i 0 in
    let b = get_or-append-add xs ys (i + 1) 0 in
    let next : length xs + i + 1 ≡ length xs + (i + 1) = omega arith in
    rw e (omega (arith, a, b, ap (λ (n : ℕ). get_or (xs ++ ys) n 0) next))

pub word4_past : (xs ys : List ℕ) (i j : ℕ) → j ≡ length xs + i → word4 (xs ++ ys) j ≡ word4 ys i
word4_past xs ys i j e =
    let next : (k : ℕ) → get_or (xs ++ ys) (length xs + i + k) 0 ≡ get_or ys (i + k) 0 =
    λ k. ap (λ (n : ℕ). get_or (xs ++ ys) n 0) (add_assoc (length xs) i k) ∙ get_or-append-add xs ys (i + k) 0 in
    rw e (omega (arith, get_or-append-add xs ys i 0, next 1, next 2, next 3))

-- a row after its count

has_counted : (xs : List Ranked) (rest : List ℕ) → length xs < 65536 → has_row (counted_bytes xs ++ rest) ≡ true
unfolding bytes2
has_counted xs rest h =
    let w = two (length xs) h in
    le-leb _ _ (omega (arith, length-append (row_bytes xs) rest, length_row xs))

row_counted : (xs : List Ranked) (rest : List ℕ) → length xs < 65536 →
    (row_in (counted_bytes xs ++ rest) ≡ row_bytes xs) × (past_row (counted_bytes xs ++ rest) ≡ rest)
unfolding bytes2
row_counted xs rest h =
    let w : 6 * (length xs % 256 + length xs / 256 % 256 * 256) ≡ length (row_bytes xs) =
    omega (arith, two (length xs) h, length_row xs) in (
      take_at (row_bytes xs) rest _ (sym w),
      drop_at (row_bytes xs) rest _ (sym w),
    )

record Fit (p : ℕ) (o : Outcome) (b s : ℕ) : Type 0 where
  pairs : p < 65536
  trades : trades_in o < 65536
  pay : buyers_pay o < 4294967296
  get : sellers_get o < 4294967296
  buying : b < 65536
  selling : s < 65536

fit : (p : ℕ) (o : Outcome) (b s : ℕ) → fits p o b s ≡ true → Fit p o b s
fit p o b s h =
    record {
      pairs = grind (arith, nat_tests);
      trades = grind (arith, nat_tests);
      pay = grind (arith, nat_tests);
      get = grind (arith, nat_tests);
      buying = grind (arith, nat_tests);
      selling = grind (arith, nat_tests);
    }

all_three : (a b c : Bool) → a ≡ true → b ≡ true → c ≡ true → a && (b && c) ≡ true
all_three a b c p q r = rw (p, q, r)

read_parts : (p : ℕ) (o : Outcome) (buyers sellers : List Ranked) (rest : List ℕ) → Fit p o (length buyers) (length sellers) →
    ReadBack p o buyers sellers rest
    (head_bytes p (trades_in o) (buyers_pay o) (sellers_get o) ++ (counted_bytes buyers ++ (counted_bytes sellers ++ rest)))
unfolding bytes2 bytes4
read_parts p o buyers sellers rest f =
    let b = row_counted buyers (counted_bytes sellers ++ rest) f.buying in
    let s = row_counted sellers rest f.selling in
    record {
      there =
          all_three _ _ _ (le-leb 12 _ (omega arith)) (has_counted buyers (counted_bytes sellers ++ rest) f.buying)
          (ap has_row b.1 ∙ has_counted sellers rest f.selling);
      pairs = two p f.pairs;
      trades = two (trades_in o) f.trades;
      pay = four (buyers_pay o) f.pay;
      get = four (sellers_get o) f.get;
      buying = b.0;
      selling = ap row_in b.1 ∙ s.0;
      after = ap past_row b.1 ∙ s.1;
    }

pub read_back : KindReadAgain
read_back p o buyers sellers rest h =
    subst (ReadBack p o buyers sellers rest) (sym parts) (read_parts p o buyers sellers rest (fit p o (length buyers) (length sellers) h))
  where
    parts : kind_sheet p o buyers sellers ++ rest
        ≡ head_bytes p (trades_in o) (buyers_pay o) (sellers_get o) ++ (counted_bytes buyers ++ (counted_bytes sellers ++ rest))
    parts = ap (λ bs. bs ++ rest) (kind_parts p o buyers sellers) ∙ simp append_assoc

-- THE MEMBERS OF A ROW ARE READ AGAIN, rank by rank

one_listed : (x : Ranked) (rest : List ℕ) → Listable x → listed_at (listed_bytes x ++ rest) 0 ≡ x
unfolding bytes2 bytes4
one_listed x rest h =
    ap₂ (λ m c. record { member = m; cents = record { 0 = c } }) (two x.member h.0) (four x.cents.0 h.1)

listed_there : (xs : List Ranked) (r : ℕ) (d : Ranked) → AllByRecursion Listable xs → r < length xs → listed_at (row_bytes xs) r ≡ get_or xs r d
listed_there [] r d a h = absurd (omega arith)
listed_there (x ∷ xs) zero d a h = one_listed x (row_bytes xs) a.0
listed_there (x ∷ xs) (suc r) d a h =
    ap₂ (λ m c. record { member = m; cents = record { 0 = c } })
    (word2_past (listed_bytes x) (row_bytes xs) (6 * r) (6 * suc r) (omega (arith, length_listed x)))
    (word4_past (listed_bytes x) (row_bytes xs) (6 * r + 2) (6 * suc r + 2) (omega (arith, length_listed x)))
    ∙ listed_there xs r d a.1 (omega arith)

pub how_many_row : (xs : List Ranked) → how_many_listed (row_bytes xs) ≡ length xs
how_many_row xs = omega (arith, length_row xs)

pub listed_row : RowReadAgain
listed_row xs r a =
    elim (cases_lt r (length xs)) [
      | inl h ↦
          cond-true _ _ _ (lt-ltb r _ (omega (arith, how_many_row xs)))
          ∙ ap Some (listed_there xs r (listed_at (row_bytes xs) r) a h) ∙ sym (slice_get-get_or xs r (listed_at (row_bytes xs) r) h)
      | inr h ↦ cond-false _ _ _ (le-ltb r _ (omega (arith, how_many_row xs))) ∙ sym (slice_get_past xs r h)
    ]

-- who is listed of a row of entries
pub ranked_listable : (s : Side) (codes : List ℕ) → length codes ≤ 65536 → AllByRecursion Listable (ranked s own (row_of codes))
ranked_listable s codes h = all_both (ranked s own (row_of codes)) (ranked_in_row s own (row_of codes)) (ranked_low s codes)
  where
    all_both : (xs : List Ranked) → AllByRecursion (InRow s (row_of codes)) xs → AllByRecursion (λ x. x.cents.0 ≤ 10000000) xs → AllByRecursion Listable xs
    all_both [] a b = tt
    all_both (x ∷ xs) a b = (
      (omega (arith, a.0.0, length-map codes entry_of), omega (arith, b.0)),
      all_both xs a.1 b.1,
    )

pub first_listable : FirstListable
first_listable s M codes k h =
    let part = take M (drop (k * M) codes) in
    All-take Listable (suc (pairs_in own (row_of part))) (ranked s own (row_of part))
    (ranked_listable s part (omega (arith, length-take M (drop (k * M) codes))))
