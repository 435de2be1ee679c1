-- What trades leave in a cell: a cell of nobody who trades stays, and any other is changed once, by its buyer or its seller.
use Rattle.std.proofs.Common.{◌≡◌, ℕ, ◌+◌, ◌<◌, ◌≤◌, cond, eqb, List, [], ◌∷◌, length, get_or, set, Some, None, Option, count_by, sym, refl, ap, ◌∙◌, inl, inr, arith}
use Rattle.std.proofs.lemmas.Option.{slice_get-get_or, slice_get_past}
use Rattle.std.specs.List.{slice_get}
use Rattle.std.specs.Option.{MatchOption}
use Rattle.std.proofs.lemmas.List.{set_past, length-set, get_or-set_same, get_or-set_other}
use Rattle.std.proofs.lemmas.List.Sums.{sum_by-cons}
use Rattle.std.proofs.lemmas.Bool.{cases_eq, cases_lt, eq-eqb, ne_eqb, cond-true, cond-false}
use Rattle.ranking.specs.declared.ranked.Ranked.{Ranked}
use Rattle.ledger.specs.Trades.{changed, ChangedBy, traded}

-- a rule that is a function changes its cell by it
pub changed_by : (R : ℕ → ℕ → Type 0) (f : ℕ → ℕ) (n : ℕ) (xs ys : List ℕ) → ChangedBy R n xs ys → ((x y : ℕ) → R x y → y ≡ f x) → ys ≡ changed f n xs
changed_by R f n xs ys h e = go (slice_get xs n) refl h
  where
    go : (o : Option ℕ) → slice_get xs n ≡ o → MatchOption o (ys ≡ xs) (λ x. (y : ℕ) × R x y × (ys ≡ set xs n y)) → ys ≡ changed f n xs
    go None q same =
        elim (cases_lt n (length xs)) [
          | inl l ↦ let there : slice_get xs n ≡ Some (get_or xs n 0) = slice_get-get_or xs n 0 l in let z : ◌≡◌ {A = ℕ} 0 1 = cc in absurd (omega arith)
          | inr l ↦ same ∙ sym (set_past xs n _ l)
        ]
    go (Some x) q (y, r, s) =
        elim (cases_lt n (length xs)) [
          | inl l ↦ let there : slice_get xs n ≡ Some (get_or xs n 0) = slice_get-get_or xs n 0 l in let z : x ≡ get_or xs n 0 = cc in s ∙ ap (set xs n) (e x y r ∙ ap f z)
          | inr l ↦ let past : slice_get xs n ≡ None = slice_get_past xs n l in let z : ◌≡◌ {A = ℕ} 0 1 = cc in absurd (omega arith)
        ]

module _ (buy sell cell : ℕ → ℕ) (n : ℕ) where
  -- how many of a list have the cell
  abbrev pub touches : List Ranked → ℕ
  touches xs = count_by (λ x. eqb (cell x.member) n) xs

  touched : (x : Ranked) (xs : List Ranked) → cell x.member ≡ n → touches (x ∷ xs) ≡ 1 + touches xs
  touched x xs e =
      sum_by-cons (λ x. cond (eqb (cell x.member) n) 1 0) x xs
      ∙ ap (λ m. m + touches xs) (cond-true {A = ℕ} (eqb (cell x.member) n) 1 0 (eq-eqb _ n e))

  passed : (x : Ranked) (xs : List Ranked) → (cell x.member ≡ n → ⊥) → touches (x ∷ xs) ≡ touches xs
  passed x xs d =
      sum_by-cons (λ x. cond (eqb (cell x.member) n) 1 0) x xs
      ∙ ap (λ m. m + touches xs) (cond-false {A = ℕ} (eqb (cell x.member) n) 1 0 (ne_eqb _ n d)) ∙ omega arith

  stays : (f : ℕ → ℕ) (x : Ranked) (xs : List ℕ) → (cell x.member ≡ n → ⊥) → get_or (changed f (cell x.member) xs) n 0 ≡ get_or xs n 0
  stays f x xs d = get_or-set_other xs (cell x.member) n _ 0 (λ e. d (sym e))

  changes : (f : ℕ → ℕ) (x : Ranked) (xs : List ℕ) → cell x.member ≡ n → n < length xs → get_or (changed f (cell x.member) xs) n 0 ≡ f (get_or xs n 0)
  changes f x xs e l = ap (λ m. get_or (changed f m xs) n 0) e ∙ get_or-set_same xs n (f (get_or xs n 0)) 0 l

  not_touched : (x : Ranked) (xs : List Ranked) → touches (x ∷ xs) ≡ 0 → (cell x.member ≡ n → ⊥)
  not_touched x xs z e = omega (arith, touched x xs e, z)

  abbrev after : List Ranked → List Ranked → List ℕ → ℕ
  after bs ss xs = get_or (traded buy sell cell bs ss xs) n 0

  pub untouched : (bs ss : List Ranked) (xs : List ℕ) → touches bs ≡ 0 → touches ss ≡ 0 → after bs ss xs ≡ get_or xs n 0
  unfolding traded
  untouched [] ss xs zb zs = refl
  untouched (b ∷ bs) [] xs zb zs = refl
  untouched (b ∷ bs) (s ∷ ss) xs zb zs =
      let db = not_touched b bs zb in
      let ds = not_touched s ss zs in
      untouched bs ss _ (sym (passed b bs db) ∙ zb) (sym (passed s ss ds) ∙ zs)
      ∙ stays sell s (changed buy (cell b.member) xs) ds ∙ stays buy b xs db

  pub at_buyer : (bs ss : List Ranked) (xs : List ℕ) → touches bs ≡ 1 → touches ss ≡ 0 → length bs ≤ length ss → n < length xs →
      after bs ss xs ≡ buy (get_or xs n 0)
  unfolding traded
  at_buyer [] ss xs ob zs long l = absurd (omega arith)
  at_buyer (b ∷ bs) [] xs ob zs long l = absurd (omega arith)
  at_buyer (b ∷ bs) (s ∷ ss) xs ob zs long l =
      let ds = not_touched s ss zs in
      let zss : touches ss ≡ 0 = sym (passed s ss ds) ∙ zs in
      elim (cases_eq (cell b.member) n) [
        | inl e ↦
            untouched bs ss _ (omega (arith, touched b bs e, ob)) zss
            ∙ stays sell s (changed buy (cell b.member) xs) ds ∙ changes buy b xs e l
        | inr db ↦
            at_buyer bs ss _ (sym (passed b bs db) ∙ ob) zss (omega arith)
            (omega (arith, length-set xs (cell b.member) (buy (get_or xs (cell b.member) 0)), length-set (changed buy (cell b.member) xs) (cell s.member) (sell (get_or (changed buy (cell b.member) xs) (cell s.member) 0))))
            ∙ ap buy (stays sell s (changed buy (cell b.member) xs) ds ∙ stays buy b xs db)
      ]

  pub at_seller : (bs ss : List Ranked) (xs : List ℕ) → touches bs ≡ 0 → touches ss ≡ 1 → length ss ≤ length bs → n < length xs →
      after bs ss xs ≡ sell (get_or xs n 0)
  unfolding traded
  at_seller [] [] xs zb os long l = absurd (omega arith)
  at_seller [] (s ∷ ss) xs zb os long l = absurd (omega arith)
  at_seller (b ∷ bs) [] xs zb os long l = absurd (omega arith)
  at_seller (b ∷ bs) (s ∷ ss) xs zb os long l =
      let db = not_touched b bs zb in
      let zbs : touches bs ≡ 0 = sym (passed b bs db) ∙ zb in
      let mid = length-set xs (cell b.member) (buy (get_or xs (cell b.member) 0)) in
      elim (cases_eq (cell s.member) n) [
        | inl e ↦
            untouched bs ss _ zbs (omega (arith, touched s ss e, os))
            ∙ changes sell s (changed buy (cell b.member) xs) e (omega (arith, mid, l)) ∙ ap sell (stays buy b xs db)
        | inr ds ↦
            at_seller bs ss _ zbs (sym (passed s ss ds) ∙ os) (omega arith)
            (omega (arith, mid, length-set (changed buy (cell b.member) xs) (cell s.member) (sell (get_or (changed buy (cell b.member) xs) (cell s.member) 0))))
            ∙ ap sell (stays sell s (changed buy (cell b.member) xs) ds ∙ stays buy b xs db)
      ]

pub length_traded : (buy sell cell : ℕ → ℕ) (bs ss : List Ranked) (xs : List ℕ) → length (traded buy sell cell bs ss xs) ≡ length xs
unfolding traded
length_traded buy sell cell [] ss xs = refl
length_traded buy sell cell (b ∷ bs) [] xs = refl
length_traded buy sell cell (b ∷ bs) (s ∷ ss) xs = length_traded buy sell cell bs ss _ ∙ length-set _ _ _ ∙ length-set xs _ _
