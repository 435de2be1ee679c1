-- A sheet is read kind by kind.
use Rattle.std.proofs.Common.{◌≡◌, ℕ, suc, ◌+◌, ◌-◌, ◌*◌, ◌<◌, ◌≤◌, true, false, ◌&&◌, List, [], ◌++◌, get_or, take, drop, sym, ap, ◌∙◌, inl, inr, arith}
use Rattle.std.proofs.Math.Nat.{add-mul, mul-le-mul_right}
use Rattle.std.proofs.lemmas.Bool.{cases_lt, cond-true, cond-false}
use Rattle.std.proofs.lemmas.List.{get_or-take, get_or-drop}
use Rattle.orders.specs.declared.entry.Entry.{Entry}
use Rattle.orders.specs.declared.money.HalfCents.{HalfCents}
use Rattle.orders.specs.Entries.{entry_of}
use Rattle.orders.specs.Words.{word2, word4}
use Rattle.sheet.specs.Sections.{has_kind, buyers_in, sellers_in, past_kind}
use Rattle.letter.specs.declared.line.Line.{Line}
use Rattle.letter.specs.Telling.{entry_told, kind_told, lines_told, kinds_there}

pub more_kinds : (n i : ℕ) (bs rest : List ℕ) → i < n → true ≡ has_kind bs → rest ≡ past_kind bs →
    kinds_there (n - i) bs ≡ kinds_there (n - (i + 1)) rest
unfolding kinds_there
more_kinds n i bs rest l h e =
    let m : n - i ≡ suc (n - (i + 1)) = omega arith in
    ap (λ k. kinds_there k bs) m
    ∙ ap (λ t. t && kinds_there (n - (i + 1)) (past_kind bs)) (sym h)
    ∙ ap (kinds_there (n - (i + 1))) (sym e)

pub no_kind : (n i : ℕ) (bs : List ℕ) → i < n → false ≡ has_kind bs → kinds_there (n - i) bs ≡ false
unfolding kinds_there
no_kind n i bs l h =
    let m : n - i ≡ suc (n - (i + 1)) = omega arith in
    ap (λ k. kinds_there k bs) m ∙ ap (λ t. t && kinds_there (n - (i + 1)) (past_kind bs)) (sym h)

pub kinds_done : (n i : ℕ) (bs : List ℕ) → n ≤ i → kinds_there (n - i) bs ≡ true
unfolding kinds_there
kinds_done n i bs l = let m : n - i ≡ 0 = omega arith in ap (λ k. kinds_there k bs) m

-- the numbers of a kind, read one by one
pub told_from : (k i : ℕ) (e : Entry) (p t : ℕ) (pay get : HalfCents) (buyers sellers bs : List ℕ) → p ≡ word2 bs 0 → t ≡ word2 bs 2 →
    pay.0 ≡ word4 bs 4 → get.0 ≡ word4 bs 8 → buyers ≡ buyers_in bs → sellers ≡ sellers_in bs →
    entry_told k i e p t pay get buyers sellers ≡ kind_told k i e bs
unfolding kind_told
told_from k i e p t pay get buyers sellers bs ep et ea eg eb es =
    ap (λ x. entry_told k i e x t pay get buyers sellers) ep
    ∙ ap (λ x. entry_told k i e (word2 bs 0) x pay get buyers sellers) et
    ∙ ap (λ x. entry_told k i e (word2 bs 0) (word2 bs 2) (record { 0 = x }) get buyers sellers) ea
    ∙ ap (λ x. entry_told k i e (word2 bs 0) (word2 bs 2) (record { 0 = word4 bs 4 }) (record { 0 = x }) buyers sellers) eg
    ∙ ap (λ x. entry_told k i e (word2 bs 0) (word2 bs 2) (record { 0 = word4 bs 4 }) (record { 0 = word4 bs 8 }) x sellers) eb
    ∙ ap (λ x. entry_told k i e (word2 bs 0) (word2 bs 2) (record { 0 = word4 bs 4 }) (record { 0 = word4 bs 8 }) (buyers_in bs) x) es

-- a member's number in its kind's row
pub code_at : (M k i : ℕ) (codes : List ℕ) → i < M → get_or (take M (drop (k * M) codes)) i 0 ≡ get_or codes (k * M + i) 0
code_at M k i codes l = get_or-take M (drop (k * M) codes) i 0 l ∙ get_or-drop (k * M) codes i 0

-- the lines of a member's entry in its kind's row
pub row_lines : (M k i kind : ℕ) (codes row bs : List ℕ) (e : Entry) (ls : List Line) (p t : ℕ) (pay get : HalfCents) (buyers sellers : List ℕ) →
    i < M → kind ≡ k → row ≡ take M (drop (k * M) codes) → e ≡ entry_of (get_or row i 0) →
    ls ≡ entry_told kind i e p t pay get buyers sellers → p ≡ word2 bs 0 → t ≡ word2 bs 2 → pay.0 ≡ word4 bs 4 →
    get.0 ≡ word4 bs 8 → buyers ≡ buyers_in bs → sellers ≡ sellers_in bs →
    ls ≡ kind_told k i (entry_of (get_or codes (k * M + i) 0)) bs
row_lines M k i kind codes row bs e ls p t pay get buyers sellers l ek er ee h ep et ea eg eb es =
    h ∙ told_from kind i e p t pay get buyers sellers bs ep et ea eg eb es
    ∙ ap (λ x. kind_told x i e bs) ek
    ∙ ap (λ x. kind_told k i x bs) (ee ∙ ap (λ r. entry_of (get_or r i 0)) er ∙ ap entry_of (code_at M k i codes l))

-- a row past the last is not cut
pub rows_there : (M K k length : ℕ) → K * M ≤ length → length < k * M + M → K ≤ k
rows_there M K k length room cut =
    elim (cases_lt k K) [
      | inl l ↦ absurd (omega (arith, mul-le-mul_right {m = k + 1} {n = K} M (omega arith), add-mul k 1 M, room, cut))
      | inr l ↦ l
    ]

-- the lines of the kinds that are left
pub more_lines : (M : ℕ) (codes : List ℕ) (i n k next : ℕ) (bs rest : List ℕ) (ls : List Line) → k < n → next ≡ k + 1 → true ≡ has_kind bs →
    rest ≡ past_kind bs → ls ≡ kind_told k i (entry_of (get_or codes (k * M + i) 0)) bs →
    lines_told M codes i (n - k) k bs ≡ ls ++ lines_told M codes i (n - next) next rest
unfolding lines_told
more_lines M codes i n k next bs rest ls l j h e f =
    let m : n - k ≡ suc (n - next) = omega arith in
    let s : suc k ≡ next = omega arith in
    ap (λ x. lines_told M codes i x k bs) m
    ∙ cond-true _ _ _ (sym h)
    ∙ ap (λ x. x ++ lines_told M codes i (n - next) (suc k) (past_kind bs)) (sym f)
    ∙ ap (λ x. ls ++ lines_told M codes i (n - next) x (past_kind bs)) s
    ∙ ap (λ x. ls ++ lines_told M codes i (n - next) next x) (sym e)

pub lines_cut : (M : ℕ) (codes : List ℕ) (i n k : ℕ) (bs : List ℕ) → k < n → false ≡ has_kind bs → lines_told M codes i (n - k) k bs ≡ []
unfolding lines_told
lines_cut M codes i n k bs l h =
    let m : n - k ≡ suc (n - (k + 1)) = omega arith in
    ap (λ x. lines_told M codes i x k bs) m ∙ cond-false _ _ _ (sym h)

pub lines_done : (M : ℕ) (codes : List ℕ) (i n k : ℕ) (bs : List ℕ) → n ≤ k → lines_told M codes i (n - k) k bs ≡ []
unfolding lines_told
lines_done M codes i n k bs l = let m : n - k ≡ 0 = omega arith in ap (λ x. lines_told M codes i x k bs) m
