-- What is promised of messages. Each is a statement; its proof is asked for by the function that ensures it.
use Rattle.std.specs.Prelude.{◌≡◌, ℕ, ◌<◌, Bool, List, length, Decides, Result}
use Rattle.orders.specs.declared.refusal.Refusal.{Refusal}
use Rattle.orders.specs.Lent.{Held, Fits, position}
use Rattle.orders.specs.Messages.{fields}
use Rattle.orders.specs.Members.{own, own_answers, Sound, Due}
use Rattle.orders.specs.Running.{run, answers_to}

-- After a row of messages each member has what it would have if nobody else had written, and got the same answers: so no
-- member's message makes another's be refused. And any other row in which the member's own messages are the same, in the
-- same order, leaves it the same and answers it the same.
pub record Alone (K M : ℕ) (before after : Held) (ms : List (List ℕ)) (answers : List (Result (Unit {0}) Refusal)) : Type 0 where
  pub positions : (i : ℕ) → i < M → position K M after i ≡ position K M (run K M before (own i ms)) i
  pub answered : (i : ℕ) → i < M → own_answers i ms answers ≡ answers_to K M before (own i ms)
  pub any_order :
      (ns : List (List ℕ)) (i : ℕ) → i < M → own i ns ≡ own i ms
      → (position K M (run K M before ns) i ≡ position K M after i)
      × (own_answers i ns (answers_to K M before ns) ≡ own_answers i ms answers)

-- Every member's bids are covered together, and each of its entries is backed.
abbrev pub AllSound : ℕ → ℕ → Held → Type 0
AllSound K M h = (i : ℕ) → i < M → Sound K (position K M h i)

-- A message is taken exactly if it has twelve bytes and is due.
abbrev pub TakenWhenDue : ℕ → ℕ → Held → List ℕ → Bool → Type 0
TakenWhenDue K M h bytes taken =
    Fits K M h → AllSound K M h
    → Decides taken ((length bytes ≡ 12) × Due K M (position K M h (fields bytes).member) (fields bytes))
