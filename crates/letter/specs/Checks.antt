-- What the checker says of any bytes, in the order in which a letter is read: its head, its lines one by one, and its end.
use Rattle.std.specs.Prelude.{◌≡◌, ℕ, zero, suc, ◌+◌, ◌*◌, Bool, true, false, cond, List, length, take, drop, Some, None, Ok, Err, Option, Result, nat_lt}
use Rattle.std.specs.List.{AllByRecursion}
use Rattle.orders.specs.Words.{byte_at}
use Rattle.orders.specs.declared.refusal.Refusal.{Refusal}
use Rattle.orders.specs.declared.refusal.Refusal.TheVariants.{Ends, GoesOn, NotByRule}
use Rattle.letter.specs.declared.line.Line.{Line}
use Rattle.letter.specs.Following.{follows}
use Rattle.letter.specs.Lines.{letter_bytes, line_in}

-- where line i begins
abbrev pub line_place : ℕ → ℕ
line_place i = 3 + 28 * i

abbrev pub line_at : List ℕ → ℕ → List ℕ
line_at bs i = take 28 (drop (line_place i) bs)

-- whether bytes are a line that follows
abbrev pub is_right : Option Line → Bool
is_right None = false
is_right (Some l) = follows l

abbrev pub right : List ℕ → Bool
right bs = is_right (line_in bs)

abbrev pub line_checked : List ℕ → ℕ → Result Unit Refusal
line_checked bs i =
    cond (nat_lt (length bs) (line_place i + 28)) (Err (Ends (length bs)))
    (cond (right (line_at bs i)) (Ok tt) (Err (NotByRule i)))

abbrev pub and_then : Result Unit Refusal → Result Unit Refusal → Result Unit Refusal
and_then (Ok u) next = next
and_then (Err e) next = Err e

-- the end after so many lines
abbrev pub line_end : List ℕ → ℕ → Result Unit Refusal
line_end bs i = cond (nat_lt (line_place i) (length bs)) (Err (GoesOn (line_place i))) (Ok tt)

-- n lines from line i on, and then the end
unfoldable pub checked_from : List ℕ → ℕ → ℕ → Result Unit Refusal
checked_from bs i zero = line_end bs i
checked_from bs i (suc n) = and_then (line_checked bs i) (checked_from bs (suc i) n)

abbrev pub checked : List ℕ → Result Unit Refusal
checked bs = cond (nat_lt (length bs) 3) (Err (Ends (length bs))) (checked_from bs 0 (byte_at bs 2))

-- THE LETTERS THAT FOLLOW: those of some member and some lines, each of which follows.
pub record Follows (bs : List ℕ) : Type 0 where
  pub member : ℕ
  pub lines : List Line
  pub bytes : bs ≡ letter_bytes member lines
  pub each : AllByRecursion (λ l. follows l ≡ true) lines

-- An answer that accepts these bytes if and only if they are such a letter.
pub record Exactly (bs : List ℕ) (answer : Result Unit Refusal) : Type 0 where
  pub accepted : answer ≡ Ok tt → Follows bs
  pub accepts : Follows bs → answer ≡ Ok tt
