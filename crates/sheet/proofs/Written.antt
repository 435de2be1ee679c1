-- What is written into lent bytes, piece by piece.
use Rattle.std.proofs.Common.{◌≡◌, ℕ, ◌+◌, ◌-◌, ◌*◌, ◌/◌, ◌%◌, ◌≤◌, true, List, [], ◌∷◌, ◌++◌, length, take, drop, sym, refl, ap, ◌∙◌, subst, add-zero, arith}
use borrow.Rule.Slice.PartMut.{put_mid}
use Rattle.std.proofs.lemmas.List.{append_assoc, append-nil, length-append, length-take, length-drop, take_at, drop_at, drop-drop, take-append-drop, flat_map_more}
use Rattle.std.proofs.lemmas.Bool.Decides.{nat_tests}
use Rattle.ranking.specs.declared.ranked.Ranked.{Ranked}
use Rattle.clearing.specs.declared.outcome.Outcome.{Outcome}
use Rattle.clearing.specs.Rule.{trades_in, buyers_pay, sellers_get}
use Rattle.sheet.specs.Sheets.{listed_bytes, row_bytes, kind_sheet}
use Rattle.sheet.specs.Words.{bytes2, bytes4}
use Rattle.sheet.specs.Writing.{written_at, kind_length, writable}

-- a part of the bytes that has become others
pub written_part : (at n : ℕ) (old part bytes : List ℕ) → part ≡ bytes → n ≡ length bytes → put_mid at ((at + n) - at) old part ≡ written_at at bytes old
unfolding written_at
written_part at n old part bytes e l =
    ap (λ p. take at old ++ (p ++ drop ((at + n) - at) (drop at old))) e
    ∙ ap (λ d. take at old ++ (bytes ++ d)) (drop-drop ((at + n) - at) at old)
    ∙ ap (λ (k : ℕ). take at old ++ (bytes ++ drop k old)) (omega arith)

pub length_written : (at : ℕ) (bytes old : List ℕ) → at + length bytes ≤ length old → length (written_at at bytes old) ≡ length old
unfolding written_at
length_written at bytes old h =
    omega (
      arith,
      length-append (take at old) (bytes ++ drop (at + length bytes) old),
      length-append bytes (drop (at + length bytes) old),
      length-take at old,
      length-drop (at + length bytes) old,
    )

-- nothing is written
pub written_none : (at : ℕ) (old : List ℕ) → written_at at [] old ≡ old
unfolding written_at
written_none at old = ap (λ (k : ℕ). take at old ++ drop k old) (add-zero at) ∙ take-append-drop at old

-- WRITING ONE AFTER THE OTHER is writing both
pub written_then : (at end : ℕ) (first next old : List ℕ) → end ≡ at + length first → end ≤ length old →
    written_at end next (written_at at first old) ≡ written_at at (first ++ next) old
unfolding written_at
written_then at end first next old e h =
    ap (λ t. t ++ (next ++ drop (end + length next) (take at old ++ (first ++ drop (at + length first) old)))) front
    ∙ ap (λ d. (take at old ++ first) ++ (next ++ d)) back
    ∙ append_assoc (take at old) first (next ++ drop (at + length (first ++ next)) old)
    ∙ ap (λ t. take at old ++ t) (sym (append_assoc first next (drop (at + length (first ++ next)) old)))
  where
    whole : take at old ++ (first ++ drop (at + length first) old) ≡ (take at old ++ first) ++ drop (at + length first) old
    whole = sym (append_assoc (take at old) first (drop (at + length first) old))

    long : length (take at old ++ first) ≡ end
    long = omega (arith, length-append (take at old) first, length-take at old)

    front : take end (take at old ++ (first ++ drop (at + length first) old)) ≡ take at old ++ first
    front = ap (take end) whole ∙ take_at (take at old ++ first) (drop (at + length first) old) end long

    back : drop (end + length next) (take at old ++ (first ++ drop (at + length first) old)) ≡ drop (at + length (first ++ next)) old
    back =
        sym (drop-drop (length next) end (take at old ++ (first ++ drop (at + length first) old)))
        ∙ ap (λ t. drop (length next) (drop end t)) whole
        ∙ ap (drop (length next)) (drop_at (take at old ++ first) (drop (at + length first) old) end long)
        ∙ drop-drop (length next) (at + length first) old
        ∙ ap (λ (k : ℕ). drop k old) (omega (arith, length-append first next))

-- bytes were written at a place of what was there, up to an end, and left what is there now
pub record Wrote (at : ℕ) (bytes old : List ℕ) (end : ℕ) (new : List ℕ) : Type 0 where
  pub ends : end ≡ at + length bytes
  pub leaves : new ≡ written_at at bytes old

pub wrote_then : {at end end' : ℕ} {first next old mid new : List ℕ} → Wrote at first old end mid → Wrote end next mid end' new →
    at + length first ≤ length old → Wrote at (first ++ next) old end' new
wrote_then {at} {end} {end'} {first} {next} {old} {mid} {new} a b h =
    record {
      ends = omega (arith, a.ends, b.ends, length-append first next);
      leaves =
          b.leaves ∙ ap (written_at end next) a.leaves
          ∙ written_then at end first next old a.ends (omega (arith, a.ends));
    }

pub length_bytes2 : (n : ℕ) → length (bytes2 n) ≡ 2
unfolding bytes2
length_bytes2 n = refl

pub length_bytes4 : (n : ℕ) → length (bytes4 n) ≡ 4
unfolding bytes4
length_bytes4 n = refl

-- a number was written, by its bytes
pub wrote2 : {at end : ℕ} {old new bytes : List ℕ} (n : ℕ) → bytes ≡ n % 256 ∷ n / 256 % 256 ∷ [] → end ≡ at + length bytes →
    new ≡ written_at at bytes old → Wrote at (bytes2 n) old end new
unfolding bytes2
wrote2 {at} {end} {old} {new} {bytes} n e ends leaves =
    record { ends = ends ∙ ap (λ bs. at + length bs) e; leaves = leaves ∙ ap (λ bs. written_at at bs old) e }

pub wrote4 : {at end : ℕ} {old new bytes : List ℕ} (n : ℕ) → bytes ≡ n % 256 ∷ n / 256 % 256 ∷ n / 65536 % 256 ∷ n / 16777216 % 256 ∷ [] →
    end ≡ at + length bytes → new ≡ written_at at bytes old → Wrote at (bytes4 n) old end new
unfolding bytes4
wrote4 {at} {end} {old} {new} {bytes} n e ends leaves =
    record { ends = ends ∙ ap (λ bs. at + length bs) e; leaves = leaves ∙ ap (λ bs. written_at at bs old) e }

pub length_listed : (x : Ranked) → length (listed_bytes x) ≡ 6
length_listed x =
    omega (
      arith,
      length-append (bytes2 x.member) (bytes4 x.cents.0),
      length_bytes2 x.member,
      length_bytes4 x.cents.0,
    )

pub length_row : (xs : List Ranked) → length (row_bytes xs) ≡ 6 * length xs
length_row [] = refl
length_row (x ∷ xs) = omega (arith, length-append (listed_bytes x) (row_bytes xs), length_listed x, length_row xs)

pub wrote_row : {at end : ℕ} {old new : List ℕ} (xs : List Ranked) → end ≡ at + 6 * length xs → new ≡ written_at at (row_bytes xs) old →
    Wrote at (row_bytes xs) old end new
wrote_row xs e w = record { ends = omega (arith, length_row xs); leaves = w }

-- one more of a row
pub row_more : (xs : List Ranked) (x : Ranked) → row_bytes (xs ++ x ∷ []) ≡ row_bytes xs ++ listed_bytes x
row_more xs x = sym (flat_map_more listed_bytes [] xs x)

-- the fields before the rows, and a row with its count
abbrev pub head_bytes : ℕ → ℕ → ℕ → ℕ → List ℕ
head_bytes p trades pay get = bytes2 p ++ (bytes2 trades ++ (bytes4 pay ++ bytes4 get))

abbrev pub counted_bytes : List Ranked → List ℕ
counted_bytes xs = bytes2 (length xs) ++ row_bytes xs

pub length_head : (p trades pay get : ℕ) → length (head_bytes p trades pay get) ≡ 12
unfolding bytes2 bytes4
length_head p trades pay get = refl

pub length_counted : (xs : List Ranked) → length (counted_bytes xs) ≡ 2 + 6 * length xs
length_counted xs = omega (arith, length-append (bytes2 (length xs)) (row_bytes xs), length_bytes2 (length xs), length_row xs)

pub kind_parts : (p : ℕ) (o : Outcome) (buyers sellers : List Ranked) →
    kind_sheet p o buyers sellers
    ≡ head_bytes p (trades_in o) (buyers_pay o) (sellers_get o) ++ (counted_bytes buyers ++ counted_bytes sellers)
unfolding kind_sheet
kind_parts p o buyers sellers = simp (append_assoc, append-nil)

pub length_kind : (p : ℕ) (o : Outcome) (buyers sellers : List Ranked) →
    length (kind_sheet p o buyers sellers) ≡ kind_length (length buyers) (length sellers)
length_kind p o buyers sellers =
    ap length (kind_parts p o buyers sellers)
    ∙ omega (
      arith,
      length-append (head_bytes p (trades_in o) (buyers_pay o) (sellers_get o)) (counted_bytes buyers ++ counted_bytes sellers),
      length-append (counted_bytes buyers) (counted_bytes sellers),
      length_head p (trades_in o) (buyers_pay o) (sellers_get o),
      length_counted buyers,
      length_counted sellers,
    )

-- a kind that was written in its three parts
pub wrote_kind : {at e₁ e₂ e₃ : ℕ} {old s₁ s₂ s₃ : List ℕ} (p : ℕ) (o : Outcome) (buyers sellers : List Ranked) →
    Wrote at (head_bytes p (trades_in o) (buyers_pay o) (sellers_get o)) old e₁ s₁ → Wrote e₁ (counted_bytes buyers) s₁ e₂ s₂ →
    Wrote e₂ (counted_bytes sellers) s₂ e₃ s₃ → at + 12 ≤ length old → e₁ + (2 + 6 * length buyers) ≤ length s₁ →
    Wrote at (kind_sheet p o buyers sellers) old e₃ s₃
wrote_kind {at} {e₁} {e₂} {e₃} {old} {s₁} {s₂} {s₃} p o buyers sellers a b d h k =
    subst (λ bytes. Wrote at bytes old e₃ s₃) (sym (kind_parts p o buyers sellers))
    (wrote_then a (wrote_then b d (omega (arith, length_counted buyers)))
    (omega (arith, length_head p (trades_in o) (buyers_pay o) (sellers_get o))))

pub room_there : (size at p : ℕ) (o : Outcome) (buyers sellers : ℕ) → writable size at p o buyers sellers ≡ true →
    at + kind_length buyers sellers ≤ size
room_there size at p o buyers sellers h = grind (arith, nat_tests)

-- the head of an outcome's numbers
pub wrote_head : {at end : ℕ} {old new : List ℕ} (p : ℕ) (o : Outcome) → end ≡ at + 12 →
    new ≡ written_at at (head_bytes p (trades_in o) (buyers_pay o) (sellers_get o)) old →
    Wrote at (head_bytes p (trades_in o) (buyers_pay o) (sellers_get o)) old end new
wrote_head p o e w = record { ends = omega (arith, length_head p (trades_in o) (buyers_pay o) (sellers_get o)); leaves = w }

pub wrote_counted : {at end : ℕ} {old new : List ℕ} (xs : List Ranked) → end ≡ at + (2 + 6 * length xs) →
    new ≡ written_at at (counted_bytes xs) old → Wrote at (counted_bytes xs) old end new
wrote_counted xs e w = record { ends = omega (arith, length_counted xs); leaves = w }
