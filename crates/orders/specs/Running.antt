-- A row of messages is taken one after another. In one piece of bytes each message is the next twelve, and a last one may
-- be shorter.
use Rattle.std.specs.Prelude.{ℕ, zero, suc, cond, List, [], ◌∷◌, ◌++◌, length, take, drop, Result, ◌==◌}
use Rattle.orders.specs.declared.refusal.Refusal.{Refusal}
use Rattle.orders.specs.Lent.{Held, judged, answer, held_after}

-- the first n messages in bytes, or all where there are fewer
abbrev pub messages : ℕ → List ℕ → List (List ℕ)
messages zero bytes = []
messages (suc n) bytes = cond (length bytes == 0) [] (take 12 bytes ∷ messages n (drop 12 bytes))

-- what is in memory after a row of messages
unfoldable pub run : ℕ → ℕ → Held → List (List ℕ) → Held
run K M h [] = h
run K M h (m ∷ ms) = run K M (held_after K M h m) ms

-- the answers to them
unfoldable pub answers_to : ℕ → ℕ → Held → List (List ℕ) → List (Result (Unit {0}) Refusal)
answers_to K M h [] = []
answers_to K M h (m ∷ ms) = answer (judged K M h m) ∷ answers_to K M (held_after K M h m) ms

-- a list with another in the place of its beginning
abbrev pub written_over : {A : Type 0} → List A → List A → List A
written_over xs ys = xs ++ drop (length xs) ys
