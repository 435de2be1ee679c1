-- A sheet is accepted if and only if it is the sheet of the entries, and what is named is right.
use Rattle.std.proofs.Common.{◌≡◌, ℕ, zero, suc, ◌+◌, ◌-◌, ◌*◌, ◌<◌, ◌≤◌, Bool, true, false, cond, ◌&&◌, eqb, leb, ◌⊎◌, List, [], ◌∷◌, ◌++◌, length, get_or, take, drop, is_some, Some, None, Ok, Err, Option, Result, sym, refl, ap, ◌∙◌, subst, ap₂, inl, inr, arith}
use Rattle.std.proofs.lemmas.List.{append_assoc, append-nil, length-append, length-drop, length-take, get_or-take, take-map, drop_at, drop-drop, drop_all, drop_more}
use Rattle.std.proofs.lemmas.Bool.{cases_lt, cases_Bool, cond_both, cond-true, cond-false, eqb-true, eqb-false, eq-eqb, leb-true, leb-false, le-leb}
use Rattle.std.proofs.lemmas.Bool.Decides.{nat_tests}
use Rattle.orders.specs.declared.refusal.Refusal.{Refusal}
use Rattle.orders.specs.declared.refusal.Refusal.TheVariants.{Kinds, Members, Short, Differs, GoesOn}
use Rattle.orders.specs.declared.refusal.Part.TheVariants.{Entries}
use Rattle.orders.specs.Entries.{decoded, kind_row}
use Rattle.orders.specs.Refusals.{field_place}
use Rattle.ranking.specs.declared.ranked.Side.TheVariants.{Buyers, Sellers}
use Rattle.ranking.specs.declared.ranked.Ranked.{Ranked}
use Rattle.ranking.specs.Ranks.{own, ranked}
use Rattle.clearing.specs.Rule.{pairs, cleared}
use Rattle.clearing.specs.Kind.{pairs_in, outcome, bids, asks}
use Rattle.clearing.proofs.FirstRanks.{only_the_first}
use Rattle.sheet.specs.Sections.{past_kind}
use Rattle.sheet.specs.Sheets.{Printed, printed, row_fields, kind_sheet, first_ranks, sheet_of_kind, sheet_from, sheet_of}
use Rattle.sheet.specs.Statements.{Proper, AcceptsExactly, TurnsOff, NamedRight, ReadBack, from_kind, Tells, TellsRule}
use Rattle.sheet.specs.Verdicts.{and_then, compared, through, through_kinds, ended, verdict, first_unknown, unless_unknown, check_answer}
use Rattle.sheet.proofs.Checks.{row_fits}
use Rattle.sheet.proofs.Sections.{read_back}
use Rattle.sheet.proofs.Judgements.{Told, WrongKind, told_kinds, no_field}

-- WHAT IS AS IT SHOULD BE is passed

passes : (why : Refusal) (bytes rest : List ℕ) (at : ℕ) → compared why bytes (bytes ++ rest) at ≡ Ok (at + length bytes)
unfolding compared
passes why [] rest at = ap Ok (omega arith)
passes why (b ∷ bytes) rest at =
    cond-true (eqb b b) _ _ (eq-eqb b b refl) ∙ passes why bytes rest (suc at) ∙ ap Ok (omega arith)

-- where the next piece stands
then_there : (sheet xs ys : List ℕ) (at : ℕ) → drop at sheet ≡ xs ++ ys → drop (at + length xs) sheet ≡ ys
then_there sheet xs ys at e = sym (drop-drop (length xs) at sheet) ∙ ap (drop (length xs)) e ∙ drop_at xs ys (length xs) refl

pass_fields : (sheet : List ℕ) (k : ℕ) (fields : List Printed) (rest : List ℕ) (at : ℕ) → drop at sheet ≡ printed fields ++ rest →
    through sheet k fields at ≡ Ok (at + length (printed fields))
pass_fields sheet k [] rest at e = ap Ok (omega arith)
pass_fields sheet k (f ∷ fields) rest at e =
    let split = e ∙ append_assoc f.bytes (printed fields) rest in
    ap (λ r. and_then r (through sheet k fields))
    (ap (λ there. compared (Differs k f.field) f.bytes there at) split ∙ passes (Differs k f.field) f.bytes (printed fields ++ rest) at)
    ∙ pass_fields sheet k fields rest (at + length f.bytes) (then_there sheet f.bytes (printed fields ++ rest) at split)
    ∙ ap Ok (omega (arith, length-append f.bytes (printed fields)))

pass_kinds : (M : ℕ) (codes sheet : List ℕ) (n k : ℕ) (rest : List ℕ) (at : ℕ) → drop at sheet ≡ sheet_from M codes n k ++ rest →
    through_kinds M codes sheet n k at ≡ Ok (at + length (sheet_from M codes n k))
unfolding through_kinds sheet_from kind_sheet
pass_kinds M codes sheet zero k rest at e = ap Ok (omega arith)
pass_kinds M codes sheet (suc n) k rest at e =
    let part = sheet_of_kind (kind_row M codes k) in
    let others = sheet_from M codes n (suc k) in
    let split = e ∙ append_assoc part others rest in
    ap (λ r. and_then r (through_kinds M codes sheet n (suc k)))
    (pass_fields sheet k (row_fields (kind_row M codes k)) (others ++ rest) at split)
    ∙ pass_kinds M codes sheet n (suc k) rest (at + length part) (then_there sheet part (others ++ rest) at split)
    ∙ ap Ok (omega (arith, length-append part others))

verdict_passes : (K M : ℕ) (codes sheet : List ℕ) → sheet ≡ sheet_of K M codes → verdict K M codes sheet ≡ Ok tt
verdict_passes K M codes sheet e =
    ap (ended sheet) (pass_kinds M codes sheet K 0 [] 0 (e ∙ sym (append-nil (sheet_of K M codes))))
    ∙ cond-true _ _ _ (eq-eqb (0 + length (sheet_of K M codes)) (length sheet) (omega (arith, ap length e)))

-- WHAT IS NAMED

-- a field of the eight, by its place
placed : (M : ℕ) (codes : List ℕ) (k i : ℕ) → i < 8 →
    (field_place (get_or (row_fields (kind_row M codes k)) i no_field).field ≡ i)
    × (printed (take 1 (drop i (row_fields (kind_row M codes k)))) ≡ (get_or (row_fields (kind_row M codes k)) i no_field).bytes)
placed M codes k zero h = (refl, append-nil _)
placed M codes k (suc zero) h = (refl, append-nil _)
placed M codes k (suc (suc zero)) h = (refl, append-nil _)
placed M codes k (suc (suc (suc zero))) h = (refl, append-nil _)
placed M codes k (suc (suc (suc (suc zero)))) h = (refl, append-nil _)
placed M codes k (suc (suc (suc (suc (suc zero))))) h = (refl, append-nil _)
placed M codes k (suc (suc (suc (suc (suc (suc zero)))))) h = (refl, append-nil _)
placed M codes k (suc (suc (suc (suc (suc (suc (suc zero))))))) h = (refl, append-nil _)
placed M codes k (suc (suc (suc (suc (suc (suc (suc (suc i)))))))) h = absurd (omega arith)

wrong_field : (K M : ℕ) (codes sheet : List ℕ) (e : Refusal) → WrongKind M codes sheet K 0 0 e → NamedRight K M codes sheet (Err e)
wrong_field K M codes sheet e w =
    let fields = row_fields (kind_row M codes w.kind) in
    let f = (get_or fields w.place no_field).field in
    let p = placed M codes w.kind w.place w.within in
    let same : w.before ≡ w.kind = omega (arith, w.is_kind) in
    subst (λ r. NamedRight K M codes sheet (Err r)) (sym w.named)
    (record {
      within = omega (arith, w.among);
      there = w.there;
      begins =
          w.begins
          ∙ ap (λ (i : ℕ). (sheet_from M codes i 0 ++ printed (take w.place fields)) ++ w.there) same
          ∙ ap (λ (i : ℕ). (sheet_of w.kind M codes ++ printed (take i fields)) ++ w.there) (sym p.0);
      turns =
          subst (λ bs. TurnsOff bs w.there)
          (sym (ap (λ (i : ℕ). printed (take 1 (drop i fields))) p.0 ∙ p.1)) w.turns;
    })

verdict_right : (K M : ℕ) (codes sheet : List ℕ) →
    NamedRight K M codes sheet (verdict K M codes sheet) × (verdict K M codes sheet ≡ Ok tt → sheet ≡ sheet_of K M codes)
verdict_right K M codes sheet = from (through_kinds M codes sheet K 0 0) (told_kinds M codes sheet K 0 0 (omega arith))
  where
    from : (r : Result ℕ Refusal) → Told (WrongKind M codes sheet K 0 0) (sheet_of K M codes) sheet 0 r →
        NamedRight K M codes sheet (ended sheet r) × (ended sheet r ≡ Ok tt → sheet ≡ sheet_of K M codes)
    from (Err e) (inl (n, g)) = (
      subst (λ r. NamedRight K M codes sheet (Err r)) (sym n) (refl, g),
      λ q. let z : ◌≡◌ {A = ℕ} 0 1 = cc in absurd (omega arith),
    )
    from (Err e) (inr w) = (wrong_field K M codes sheet e w, λ q. let z : ◌≡◌ {A = ℕ} 0 1 = cc in absurd (omega arith))
    from (Ok at) (n, is) =
        let size = ap length is ∙ length-append (sheet_of K M codes) (drop at sheet) in
        let left = length-drop at sheet in
        cond_both (eqb at (length sheet)) (Ok tt) (Err (GoesOn at))
        (λ r. NamedRight K M codes sheet r × (r ≡ Ok tt → sheet ≡ sheet_of K M codes))
        (λ t. (
          tt,
          λ q. is ∙ ap (λ bs. sheet_of K M codes ++ bs) (drop_all at sheet (omega (arith, eqb-true at (length sheet) t))) ∙ append-nil _,
        ))
        (λ t. (
          (
            omega (arith, n),
            record {
              byte = get_or sheet at 0;
              after = drop (at + 1) sheet;
              is = is ∙ ap (λ bs. sheet_of K M codes ++ bs) (drop_more sheet at 0 (omega (arith, n, size, left, eqb-false at (length sheet) t)));
            },
          ),
          λ q. let z : ◌≡◌ {A = ℕ} 0 1 = cc in absurd (omega arith),
        ))

-- THE ENTRIES

none_when : (t : Bool) (o : Option ℕ) (i : ℕ) → cond t o (Some i) ≡ None → (t ≡ true) × (o ≡ None)
none_when true o i e = (refl, e)
none_when false o i e = let z : ◌≡◌ {A = ℕ} 0 1 = cc in absurd (omega arith)

known_all : (i : ℕ) (codes : List ℕ) → first_unknown i codes ≡ None → (j : ℕ) → j < length codes → is_some (decoded (get_or codes j 0)) ≡ true
unfolding first_unknown
known_all i [] e j h = absurd (omega arith)
known_all i (n ∷ codes) e zero h = (none_when (is_some (decoded n)) (first_unknown (suc i) codes) i e).0
known_all i (n ∷ codes) e (suc j) h =
    known_all (suc i) codes (none_when (is_some (decoded n)) (first_unknown (suc i) codes) i e).1 j (omega arith)

all_known : (i : ℕ) (codes : List ℕ) → ((j : ℕ) → j < length codes → is_some (decoded (get_or codes j 0)) ≡ true) → first_unknown i codes ≡ None
unfolding first_unknown
all_known i [] h = refl
all_known i (n ∷ codes) h = cond-true _ _ _ (h 0 (omega arith)) ∙ all_known (suc i) codes (λ j l. h (suc j) (omega arith))

record FirstUnknown (i : ℕ) (codes : List ℕ) (found : ℕ) : Type 0 where
  place : ℕ
  is : found ≡ i + place
  within : place < length codes
  unknown : is_some (decoded (get_or codes place 0)) ≡ false
  before : (j : ℕ) → j < place → is_some (decoded (get_or codes j 0)) ≡ true

unknown_at : (i : ℕ) (codes : List ℕ) (found : ℕ) → first_unknown i codes ≡ Some found → FirstUnknown i codes found
unfolding first_unknown
unknown_at i [] found e = let z : ◌≡◌ {A = ℕ} 0 1 = cc in absurd (omega arith)
unknown_at i (n ∷ codes) found e =
    elim (cases_Bool (is_some (decoded n))) [
      | inl t ↦
          let w = unknown_at (suc i) codes found (sym (cond-true (is_some (decoded n)) (first_unknown (suc i) codes) (Some i) t) ∙ e) in
          record {
            place = suc w.place;
            is = omega (arith, w.is);
            within = omega (arith, w.within);
            unknown = w.unknown;
            before = known_before t w;
          }
      | inr t ↦
          let q : Some i ≡ Some found = sym (cond-false (is_some (decoded n)) (first_unknown (suc i) codes) (Some i) t) ∙ e in
          let same : i ≡ found = cc in
          record { place = 0; is = omega arith; within = omega arith; unknown = t; before = λ j l. absurd (omega arith) }
    ]
  where
    known_before : is_some (decoded n) ≡ true → (w : FirstUnknown (suc i) codes found) → (j : ℕ) → j < suc w.place →
        is_some (decoded (get_or (n ∷ codes) j 0)) ≡ true
    known_before t w zero l = t
    known_before t w (suc j) l = w.before j (omega arith)

-- in the codes that are entries
module _ (n : ℕ) (codes : List ℕ) (there : n ≤ length codes) where
  known_front : first_unknown 0 (take n codes) ≡ None → (i : ℕ) → i < n → is_some (decoded (get_or codes i 0)) ≡ true
  known_front e i h =
      ap (λ (c : ℕ). is_some (decoded c)) (sym (get_or-take n codes i 0 h))
      ∙ known_all 0 (take n codes) e i (omega (arith, length-take n codes))

  front_known : ((i : ℕ) → i < n → is_some (decoded (get_or codes i 0)) ≡ true) → first_unknown 0 (take n codes) ≡ None
  front_known h =
      all_known 0 (take n codes)
      (λ j l.
      let k : j < n = omega (arith, length-take n codes) in
      ap (λ (c : ℕ). is_some (decoded c)) (get_or-take n codes j 0 k) ∙ h j k)

  unknown_front : (i : ℕ) → first_unknown 0 (take n codes) ≡ Some i →
      (i < n) × (is_some (decoded (get_or codes i 0)) ≡ false) × ((j : ℕ) → j < i → is_some (decoded (get_or codes j 0)) ≡ true)
  unknown_front i e =
      let w = unknown_at 0 (take n codes) i e in
      let same : i ≡ w.place = omega (arith, w.is) in
      let h : i < n = omega (arith, w.within, length-take n codes) in (
        h,
        ap (λ (c : ℕ). is_some (decoded c)) (sym (get_or-take n codes i 0 h) ∙ ap (λ (j : ℕ). get_or (take n codes) j 0) same) ∙ w.unknown,
        λ j l. ap (λ (c : ℕ). is_some (decoded c)) (sym (get_or-take n codes j 0 (omega arith))) ∙ w.before j (omega arith),
      )

-- THE ANSWER

outside : (n least most : ℕ) → (leb least n && leb n most) ≡ false → (n < least) ⊎ (most < n)
outside n least most h =
    elim (cases_lt n least) [
      | inl l ↦ inl l
      | inr l ↦ elim (cases_lt most n) [ inl m ↦ inr m | inr m ↦ absurd (grind (arith, nat_tests)) ]
    ]

inside : (n least most : ℕ) → (leb least n && leb n most) ≡ true → (least ≤ n) × (n ≤ most)
inside n least most h = (grind (arith, nat_tests), grind (arith, nat_tests))

pub named_right : (K M : ℕ) (codes sheet : List ℕ) → NamedRight K M codes sheet (check_answer K M codes sheet)
named_right K M codes sheet =
    let P = NamedRight K M codes sheet in
    cond_both (leb 1 K && leb K 64) _ (Err Kinds) P
    (λ k. cond_both (leb 1 M && leb M 2000) _ (Err Members) P
    (λ m. cond_both (leb (K * M) (length codes)) _ (Err (Short Entries)) P
    (λ t. entries (leb-true (K * M) (length codes) t) (first_unknown 0 (take (K * M) codes)) refl)
    (λ t. (refl, leb-false (K * M) (length codes) t)))
    (λ m. outside M 1 2000 m)) (λ k. outside K 1 64 k)
  where
    entries : K * M ≤ length codes → (o : Option ℕ) → first_unknown 0 (take (K * M) codes) ≡ o →
        NamedRight K M codes sheet (unless_unknown o (verdict K M codes sheet))
    entries h None e = (verdict_right K M codes sheet).0
    entries h (Some i) e = unknown_front (K * M) codes h i e

-- an answer under a test
when : (t : Bool) (r : Result (Unit {0}) Refusal) (e : Refusal) → cond t r (Err e) ≡ Ok tt → (t ≡ true) × (r ≡ Ok tt)
when true r e h = (refl, h)
when false r e h = let z : ◌≡◌ {A = ℕ} 0 1 = cc in absurd (omega arith)

no_unknown : (o : Option ℕ) (r : Result (Unit {0}) Refusal) → unless_unknown o r ≡ Ok tt → (o ≡ None) × (r ≡ Ok tt)
no_unknown None r h = (refl, h)
no_unknown (Some i) r h = let z : ◌≡◌ {A = ℕ} 0 1 = cc in absurd (omega arith)

pub accepts_exactly : (K M : ℕ) (codes sheet : List ℕ) → AcceptsExactly K M codes sheet (check_answer K M codes sheet)
accepts_exactly K M codes sheet = record { sound = sound; complete = complete }
  where
    sound : check_answer K M codes sheet ≡ Ok tt → Proper K M codes × (sheet ≡ sheet_of K M codes)
    sound h =
        let a = when (leb 1 K && leb K 64) _ Kinds h in
        let b = when (leb 1 M && leb M 2000) _ Members a.1 in
        let c = when (leb (K * M) (length codes)) _ (Short Entries) b.1 in
        let d = no_unknown (first_unknown 0 (take (K * M) codes)) (verdict K M codes sheet) c.1 in
        let k = inside K 1 64 a.0 in
        let m = inside M 1 2000 b.0 in
        let there = leb-true (K * M) (length codes) c.0 in (
          record {
            kinds_least = k.0;
            kinds_most = k.1;
            members_least = m.0;
            members_most = m.1;
            there = there;
            known = known_front (K * M) codes there d.0;
          },
          (verdict_right K M codes sheet).1 d.1,
        )

    complete : Proper K M codes → sheet ≡ sheet_of K M codes → check_answer K M codes sheet ≡ Ok tt
    complete p e =
        cond-true _ _ _ (both K 1 64 p.kinds_least p.kinds_most)
        ∙ cond-true _ _ _ (both M 1 2000 p.members_least p.members_most)
        ∙ cond-true _ _ _ (le-leb (K * M) (length codes) p.there)
        ∙ ap (λ o. unless_unknown o (verdict K M codes sheet)) (front_known (K * M) codes p.there p.known)
        ∙ verdict_passes K M codes sheet e
      where
        both : (n least most : ℕ) → least ≤ n → n ≤ most → (leb least n && leb n most) ≡ true
        both n least most l m = grind (arith, nat_tests)

-- THE RULE FROM THE SHEET

kinds_left : (M : ℕ) (codes : List ℕ) (K k : ℕ) → k < K →
    sheet_from M codes (K - k) k ≡ sheet_of_kind (kind_row M codes k) ++ sheet_from M codes (K - suc k) (suc k)
unfolding sheet_from
kinds_left M codes K k h = let n : K - k ≡ suc (K - suc k) = omega arith in ap (λ (i : ℕ). sheet_from M codes i k) n

kind_read : (M : ℕ) (codes : List ℕ) (k : ℕ) (rest : List ℕ) → M ≤ 2000 →
    ReadBack (pairs_in own (kind_row M codes k)) (outcome own (kind_row M codes k)) (first_ranks Buyers (kind_row M codes k))
    (first_ranks Sellers (kind_row M codes k)) rest (sheet_of_kind (kind_row M codes k) ++ rest)
kind_read M codes k rest h =
    read_back _ _ _ _ rest (row_fits (take M (drop (k * M) codes)) (omega (arith, length-take M (drop (k * M) codes))))

from_kind_on : (M : ℕ) (codes : List ℕ) (K k : ℕ) → M ≤ 2000 → k ≤ K → from_kind k (sheet_of K M codes) ≡ sheet_from M codes (K - k) k
from_kind_on M codes K zero m h = let n : K ≡ K - 0 = omega arith in ap (λ (i : ℕ). sheet_from M codes i 0) n
from_kind_on M codes K (suc k) m h =
    ap past_kind (from_kind_on M codes K k m (omega arith) ∙ kinds_left M codes K k (omega arith))
    ∙ (kind_read M codes k (sheet_from M codes (K - suc k) (suc k)) m).after

kind_tells : (M : ℕ) (codes : List ℕ) (k : ℕ) (rest bs : List ℕ) → M ≤ 2000 → bs ≡ sheet_of_kind (kind_row M codes k) ++ rest → Tells M codes k bs
kind_tells M codes k rest bs m e =
    let row = kind_row M codes k in
    let there = kind_read M codes k rest m in
    let again = subst (ReadBack (pairs_in own row) (outcome own row) (first_ranks Buyers row) (first_ranks Sellers row) rest) (sym e) there in
    let n = suc (pairs_in own row) in
    let o = only_the_first (bids own row) (asks own row) n (omega arith) in
    let b = sym (take-map (λ (x : Ranked). x.cents.0) n (ranked Buyers own row)) in
    let s = sym (take-map (λ (x : Ranked). x.cents.0) n (ranked Sellers own row)) in
    record {
      reads = subst (λ r. ReadBack (pairs_in own row) (outcome own row) (first_ranks Buyers row) (first_ranks Sellers row) r bs) (sym again.after) again;
      pairs_again = ap₂ pairs b s ∙ o.0;
      outcome_again = ap₂ cleared b s ∙ o.1;
    }

pub tells_rule : (K M : ℕ) (codes sheet : List ℕ) → TellsRule K M codes sheet (check_answer K M codes sheet)
tells_rule K M codes sheet h k l =
    let a = (accepts_exactly K M codes sheet).sound h in
    kind_tells M codes k (sheet_from M codes (K - suc k) (suc k)) (from_kind k sheet) a.0.members_most
    (ap (from_kind k) a.1 ∙ from_kind_on M codes K k a.0.members_most (omega arith) ∙ kinds_left M codes K k l)
