-- The checker accepts exactly the letters of which each line follows.
use Rattle.std.proofs.Common.{◌≡◌, ℕ, zero, suc, ◌+◌, ◌*◌, ◌<◌, ◌≤◌, Bool, true, false, cond, ltb, List, [], ◌∷◌, ◌++◌, length, get_or, take, drop, Some, None, Ok, Err, Option, Result, sym, refl, ap, ◌∙◌, inl, inr, arith}
use Rattle.std.specs.List.{flat_map, AllByRecursion}
use Rattle.std.proofs.lemmas.List.{length-drop, length-append, drop_more, drop_all, drop-drop, drop_at, take_at, take-append-drop}
use Rattle.std.proofs.lemmas.Bool.{cases_eq, ltb-false, le-ltb, cond-true, cond-false}
use Rattle.orders.specs.declared.refusal.Refusal.{Refusal}
use Rattle.orders.specs.Entries.{kind_row}
use Rattle.orders.specs.Words.{byte_at}
use Rattle.letter.specs.declared.line.Line.{Line}
use Rattle.sheet.specs.Words.{bytes2}
use Rattle.letter.specs.Following.{follows}
use Rattle.letter.specs.Lines.{line_bytes, letter_bytes, line_in}
use Rattle.letter.specs.Letters.{lines_from}
use Rattle.letter.specs.Statements.{EveningsAccepted, ReliedOn}
use Rattle.letter.specs.Checks.{line_place, line_at, is_right, right, line_checked, and_then, checked_from, checked, Follows, Exactly}
use Rattle.letter.proofs.Digits.{Bytes, part_bytes, front2}
use Rattle.letter.proofs.Bounds.{bounded}
use Rattle.letter.proofs.Spelling.{length_line, read_again, written_read}
use Rattle.letter.proofs.Stepping.{nothing_left}
use Rattle.letter.proofs.Evenings.{codes_ranged, lines_follow, relied}

-- a test at which an answer is refused was not passed, or was
not_refused : (t : Bool) (e : Refusal) (r : Result Unit Refusal) → cond t (Err e) r ≡ Ok tt → (t ≡ false) × (r ≡ Ok tt)
not_refused true e r h = absurd cc
not_refused false e r h = (refl, h)

pub passed : (t : Bool) (r : Result Unit Refusal) (e : Refusal) → cond t r (Err e) ≡ Ok tt → (t ≡ true) × (r ≡ Ok tt)
passed true r e h = (refl, h)
passed false r e h = absurd cc

both_accept : (r next : Result Unit Refusal) → and_then r next ≡ Ok tt → (r ≡ Ok tt) × (next ≡ Ok tt)
both_accept (Ok u) next h = (refl, h)
both_accept (Err e) next h = absurd cc

right_line : (o : Option Line) → is_right o ≡ true → (l : Line) × (o ≡ Some l) × (follows l ≡ true)
right_line None h = absurd cc
right_line (Some l) h = (l, refl, h)

next_place : (bs : List ℕ) (i : ℕ) → drop 28 (drop (line_place i) bs) ≡ drop (line_place (suc i)) bs
next_place bs i =
    let e : line_place i + 28 ≡ line_place (suc i) = omega arith in
    drop-drop 28 (line_place i) bs ∙ ap (λ k. drop k bs) e

-- the lines that were accepted
abbrev Lines : List ℕ → ℕ → List ℕ → Type 0
Lines bs n rest = (ls : List Line) × (length ls ≡ n) × (rest ≡ flat_map line_bytes ls) × AllByRecursion (λ l. follows l ≡ true) ls

accepted_from : (bs : List ℕ) → Bytes bs → (n i : ℕ) → checked_from bs i n ≡ Ok tt → Lines bs n (drop (line_place i) bs)
unfolding checked_from
accepted_from bs b zero i h =
    let e = not_refused _ _ _ h in
    ([], refl, drop_all (line_place i) bs (ltb-false _ _ e.0), tt)
accepted_from bs b (suc n) i h =
    let e = both_accept (line_checked bs i) (checked_from bs (suc i) n) h in
    let f = not_refused (ltb (length bs) (line_place i + 28)) _ _ e.0 in
    let r = right_line (line_in (line_at bs i)) (passed _ _ _ f.1).0 in
    let l = r.0 in
    let o = accepted_from bs b n (suc i) e.1 in
    let w : line_bytes l ≡ line_at bs i = read_again (line_at bs i) l (part_bytes bs 28 (line_place i) b) r.1 in (
      l ∷ o.0,
      ap suc o.1,
      sym (take-append-drop 28 (drop (line_place i) bs))
          ∙ ap (λ x. line_at bs i ++ x) (next_place bs i ∙ o.2)
          ∙ ap (λ x. x ++ flat_map line_bytes o.0) (sym w),
      (r.2, o.3),
    )

accepts_from : (bs : List ℕ) (i : ℕ) (ls : List Line) → line_place i ≤ length bs → drop (line_place i) bs ≡ flat_map line_bytes ls →
    AllByRecursion (λ l. follows l ≡ true) ls → checked_from bs i (length ls) ≡ Ok tt
unfolding checked_from
accepts_from bs i [] h e a = nothing_left bs i (omega (arith, length-drop (line_place i) bs, ap length e))
accepts_from bs i (l ∷ ls) h e a =
    let long : line_place i + 28 ≤ length bs =
    omega (arith, length-drop (line_place i) bs, ap length e, length-append (line_bytes l) (flat_map line_bytes ls), length_line l) in
    let here : line_at bs i ≡ line_bytes l = ap (take 28) e ∙ take_at (line_bytes l) (flat_map line_bytes ls) 28 (length_line l) in
    let good : right (line_at bs i) ≡ true =
    ap right here ∙ ap is_right (written_read l (bounded l a.0)) ∙ a.0 in
    let ok : line_checked bs i ≡ Ok tt = cond-false _ _ _ (le-ltb _ _ long) ∙ cond-true _ _ _ good in
    let rest : drop (line_place (suc i)) bs ≡ flat_map line_bytes ls =
    sym (next_place bs i) ∙ ap (drop 28) e ∙ drop_at (line_bytes l) (flat_map line_bytes ls) 28 (length_line l) in
    ap (λ r. and_then r (checked_from bs (suc i) (length ls))) ok
    ∙ accepts_from bs (suc i) ls (omega arith) rest a.1

accepts_letter : (member : ℕ) (ls : List Line) → AllByRecursion (λ l. follows l ≡ true) ls → checked (letter_bytes member ls) ≡ Ok tt
unfolding bytes2
accepts_letter member ls a =
    cond-false _ _ _ (le-ltb (length (letter_bytes member ls)) 3 (omega arith))
    ∙ accepts_from (letter_bytes member ls) 0 ls (omega arith) refl a

follows_accepted : (bs : List ℕ) → Bytes bs → checked bs ≡ Ok tt → Follows bs
follows_accepted bs b h =
    let e = not_refused _ _ _ h in
    let long : 3 ≤ length bs = ltb-false _ _ e.0 in
    let o = accepted_from bs b (byte_at bs 2) 0 e.1 in
    let two : bytes2 (get_or bs 0 0 + get_or bs 1 0 * 256) ++ drop 2 bs ≡ bs = front2 bs b (omega arith) in
    let third : drop 2 bs ≡ byte_at bs 2 ∷ drop 3 bs = drop_more bs 2 0 (omega arith) in
    record {
      member = get_or bs 0 0 + get_or bs 1 0 * 256;
      lines = o.0;
      bytes = cc (o.1, o.2);
      each = o.3;
    }

-- each line of an accepted letter follows
line_right_from : (bs : List ℕ) (n i j : ℕ) → i ≤ j → j < i + n → checked_from bs i n ≡ Ok tt → right (line_at bs j) ≡ true
unfolding checked_from
line_right_from bs zero i j l m h = absurd (omega arith)
line_right_from bs (suc n) i j l m h =
    let e = both_accept (line_checked bs i) (checked_from bs (suc i) n) h in
    elim (cases_eq i j) [
      | inl f ↦
          let g = not_refused (ltb (length bs) (line_place i + 28)) _ _ e.0 in
          ap (λ k. right (line_at bs k)) (sym f) ∙ (passed _ _ _ g.1).0
      | inr d ↦ line_right_from bs n (suc i) j (omega arith) (omega arith) e.1
    ]

line_right : (bs : List ℕ) (j : ℕ) (l : Line) → checked bs ≡ Ok tt → j < byte_at bs 2 → line_in (line_at bs j) ≡ Some l →
    follows l ≡ true
line_right bs j l h m e =
    ap is_right (sym e) ∙ line_right_from bs (byte_at bs 2) 0 j (omega arith) (omega arith) (not_refused _ _ _ h).1

-- all that is promised of an answer
pub record Promises (bs : List ℕ) (answer : Result Unit Refusal) : Type 0 where
  pub told : answer ≡ checked bs
  pub exactly : Exactly bs answer
  pub evenings : EveningsAccepted bs answer
  pub relied : ReliedOn bs answer

pub promises : (bs : List ℕ) (answer : Result Unit Refusal) → Bytes bs → answer ≡ checked bs → Promises bs answer
promises bs answer b e =
    record {
      told = e;
      exactly = record {
        accepted = λ h. follows_accepted bs b (sym e ∙ h);
        accepts = λ f. e ∙ ap checked f.bytes ∙ accepts_letter f.member f.lines f.each;
      };
      evenings = λ K M codes i f. e ∙ ap checked f ∙ accepts_letter i (lines_from M codes i K 0) (lines_follow M codes i K 0);
      relied = λ h j l m f M codes k i o.
          relied (kind_row M codes k) (codes_ranged (take M (drop (k * M) codes))) i l (line_right bs j l (sym e ∙ h) m f) o;
    }
