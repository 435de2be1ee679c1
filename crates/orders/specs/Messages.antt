-- A message is 12 bytes: member (2), number (4), kind (1), sort (1), cents (4).
use Rattle.std.specs.Prelude.{ℕ, cond, List, length, Ok, Err, Result, ◌==◌}
use Rattle.orders.specs.declared.message.Message.{Message}
use Rattle.orders.specs.declared.refusal.Refusal.{Refusal}
use Rattle.orders.specs.declared.refusal.Refusal.TheVariants.{Length}
use Rattle.orders.specs.Words.{byte_at, word2, word4}

abbrev pub fields : List ℕ → Message
fields bs = record { member = word2 bs 0; number = word4 bs 2; kind = byte_at bs 6; sort = byte_at bs 7; cents = word4 bs 8 }

abbrev pub message_of : List ℕ → Result Message Refusal
message_of bs = cond (length bs == 12) (Ok (fields bs)) (Err (Length (length bs)))
