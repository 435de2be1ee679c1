-- A line that was written part by part, and a letter whose head was written last.
use Rattle.std.proofs.Common.{◌≡◌, ℕ, ◌+◌, ◌*◌, ◌/◌, ◌%◌, ◌≤◌, List, [], ◌∷◌, ◌++◌, length, get_or, take, drop, Some, None, Option, sym, refl, ap, ◌∙◌, arith}
use Rattle.std.proofs.lemmas.List.{length-take, length-append, append_assoc, drop_at}
use Rattle.orders.specs.declared.money.HalfCents.{HalfCents}
use Rattle.sheet.specs.Words.{bytes2, bytes4}
use Rattle.sheet.specs.Writing.{written_at}
use Rattle.sheet.proofs.Written.{Wrote, wrote_then, written_then, written_none}
use Rattle.letter.specs.declared.line.Line.{Line}
use Rattle.letter.specs.declared.line.Pair.{Pair}
use Rattle.std.specs.List.{flat_map}
use Rattle.std.specs.Option.{option_to_list}
use Rattle.std.proofs.lemmas.List.Concat.{flat_map-append}
use Rattle.letter.proofs.Spelling.{length_line}
use Rattle.letter.specs.Lines.{entry_bytes, trade_bytes, pair_bytes, tie_byte, line_bytes, letter_bytes}

pub wrote : {at end : ℕ} {part old new : List ℕ} (bytes : List ℕ) → part ≡ bytes → end ≡ at + length part →
    new ≡ written_at at part old → Wrote at bytes old end new
wrote {at = at} {old = old} bytes e f w =
    record { ends = f ∙ ap (λ b. at + length b) e; leaves = w ∙ ap (λ b. written_at at b old) e }

length_entry : (l : Line) → length (entry_bytes l) ≡ 6
unfolding bytes4
length_entry l = refl

length_trade : (p : Option HalfCents) → length (trade_bytes p) ≡ 5
unfolding bytes4
length_trade p = refl

length_pair : (p : Pair) → length (pair_bytes p) ≡ 8
unfolding bytes4
length_pair p = refl

pub wrote_line : {at e₁ e₂ e₃ e₄ e₅ : ℕ} {old s₁ s₂ s₃ s₄ s₅ : List ℕ} (l : Line) → at + 28 ≤ length old → length s₁ ≡ length old →
    length s₂ ≡ length old → length s₃ ≡ length old → Wrote at (entry_bytes l) old e₁ s₁ → Wrote e₁ (trade_bytes l.price) s₁ e₂ s₂ →
    Wrote e₂ (pair_bytes l.last) s₂ e₃ s₃ → Wrote e₃ (pair_bytes l.next) s₃ e₄ s₄ → Wrote e₄ (tie_byte l.tie ∷ []) s₄ e₅ s₅ →
    s₅ ≡ written_at at (line_bytes l) old
unfolding line_bytes
wrote_line l room n₁ n₂ n₃ a b c d e =
    let la = length_entry l in
    let lb = length_trade l.price in
    let lc = length_pair l.last in
    let ld = length_pair l.next in
    let at₁ = a.ends in
    let at₂ = b.ends in
    let at₃ = c.ends in
    (wrote_then a
    (wrote_then b (wrote_then c (wrote_then d e (omega arith)) (omega arith)) (omega arith)) (omega arith)).leaves

-- LINE AFTER LINE

pub length_lines : (ls : List Line) → length (flat_map line_bytes ls) ≡ 28 * length ls
length_lines [] = refl
length_lines (l ∷ ls) = omega (arith, length-append (line_bytes l) (flat_map line_bytes ls), length_line l, length_lines ls)

-- lines that are left, written behind so many, give what all lines give
abbrev pub Leads : List Line → List Line → ℕ → List ℕ → List ℕ → Type 0
Leads whole left lines old new =
    (written_at 3 (flat_map line_bytes whole) old ≡ written_at (3 + 28 * lines) (flat_map line_bytes left) new)
    × (length whole ≡ lines + length left)

pub leads_more : (whole left left' ls : List Line) (lines lines' : ℕ) (old new new' : List ℕ) → Leads whole left lines old new →
    left ≡ ls ++ left' → lines' ≡ lines + length ls → new' ≡ written_at (3 + 28 * lines) (flat_map line_bytes ls) new →
    3 + 28 * lines + 28 * length ls ≤ length new → Leads whole left' lines' old new'
leads_more whole left left' ls lines lines' old new new' h e f g room =
    let n = length_lines ls in
    let end : 3 + 28 * lines' ≡ 3 + 28 * lines + length (flat_map line_bytes ls) = omega arith in (
      h.0 ∙ ap (λ x. written_at (3 + 28 * lines) (flat_map line_bytes x) new) e
          ∙ ap (λ x. written_at (3 + 28 * lines) x new) (flat_map-append line_bytes ls left')
          ∙ sym (written_then (3 + 28 * lines) (3 + 28 * lines') (flat_map line_bytes ls) (flat_map line_bytes left') new end (omega arith))
          ∙ ap (written_at (3 + 28 * lines') (flat_map line_bytes left')) (sym g),
      omega (arith, h.1, ap length e, length-append ls left'),
    )

pub leads_done : (whole left : List Line) (lines : ℕ) (old new : List ℕ) → Leads whole left lines old new → left ≡ [] →
    (lines ≡ length whole) × (new ≡ written_at 3 (flat_map line_bytes whole) old)
leads_done whole left lines old new h e = (
  omega (arith, h.1, ap length e),
  sym (h.0 ∙ ap (λ x. written_at (3 + 28 * lines) (flat_map line_bytes x) new) e ∙ written_none (3 + 28 * lines) new),
)

-- the head is written last
pub head_last : (head body old : List ℕ) (n : ℕ) → length head ≡ n → n + length body ≤ length old →
    written_at 0 head (written_at n body old) ≡ written_at 0 (head ++ body) old
unfolding written_at
head_last head body old n e h =
    ap (λ k. head ++ drop k (take n old ++ (body ++ drop (n + length body) old))) (omega (arith, e))
    ∙ ap (λ r. head ++ r) (drop_at (take n old) (body ++ drop (n + length body) old) n (omega (arith, length-take n old)))
    ∙ sym (append_assoc head body (drop (n + length body) old))
    ∙ ap (λ k. (head ++ body) ++ drop k old) (omega (arith, e, length-append head body))

pub at_most_one : {A : Type 0} (o : Option A) → length (option_to_list o) ≤ 1
at_most_one None = omega arith
at_most_one (Some x) = omega arith

-- a letter: its lines, and then its head
pub wrote_letter : (member lines : ℕ) (ls : List Line) (two old mid new : List ℕ) → lines ≡ length ls → 3 + 28 * lines ≤ length old →
    two ≡ member % 256 ∷ member / 256 % 256 ∷ [] → mid ≡ written_at 3 (flat_map line_bytes ls) old →
    new ≡ written_at 0 (get_or two 0 0 ∷ get_or two 1 0 ∷ lines ∷ []) mid → new ≡ written_at 0 (letter_bytes member ls) old
unfolding bytes2
wrote_letter member lines ls two old mid new n room t m w =
    let head : ℕ → List ℕ = λ k. member % 256 ∷ member / 256 % 256 ∷ k ∷ [] in
    w ∙ ap (λ b. written_at 0 (get_or b 0 0 ∷ get_or b 1 0 ∷ lines ∷ []) mid) t
    ∙ ap (λ k. written_at 0 (head k) mid) n
    ∙ ap (written_at 0 (head (length ls))) m
    ∙ head_last (head (length ls)) (flat_map line_bytes ls) old 3 refl (omega (arith, length_lines ls))

pub length_letter : (member lines : ℕ) (ls : List Line) → lines ≡ length ls → 3 + 28 * lines ≡ length (letter_bytes member ls)
unfolding bytes2
length_letter member lines ls n = omega (arith, length_lines ls)
