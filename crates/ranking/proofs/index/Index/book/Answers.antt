use Rattle.std.proofs.Common.{◌≡◌, ℕ, List, Some, None, Option, Bor, ap, sym, refl, ◌∙◌}
use Rattle.std.specs.List.{slice_get}
use Rattle.std.specs.Option.{option_copied}
use Rattle.std.specs.Slice.{IsItemAt}
use Rattle.std.proofs.lemmas.Option.{slice_get_past, slice_get_read}
use Rattle.ranking.specs.Kinds.{book_of}
use Rattle.ranking.proofs.index.Index.book.Goals as goal

item_is : {B : Type 0} (bs : List B) (k : ℕ) (r : Option (Bor B)) → IsItemAt bs k r → option_copied r ≡ slice_get bs k
item_is bs k None h = sym (slice_get_past bs k h.3)
item_is bs k (Some b) h = sym (slice_get_read bs _ k b.now refl h.3.0 h.1)

pub returns : goal.returns
unfolding book_of
returns g c = item_is _ c.args.kind c.get.result c.get.ensures.lookup ∙ ap (λ bs. slice_get bs c.args.kind) c.deref.ensures.value
