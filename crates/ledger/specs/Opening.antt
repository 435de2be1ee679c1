-- An evening with an index opens where one without would, unless there is no memory for the index.
use Rattle.std.specs.Prelude.{◌≡◌, ◌⊎◌, Some, None, Option}
use Rattle.orders.specs.declared.refusal.Refusal.{Refusal}
use Rattle.orders.specs.declared.refusal.Refusal.TheVariants.{Memory}

-- what is refused, by why an evening without an index would be
abbrev pub RefusedFor : Option Refusal → Option Refusal → Type 0
RefusedFor None why = why ≡ None
RefusedFor (Some e) why = (why ≡ Some e) ⊎ ((why ≡ None) × (e ≡ Memory))
