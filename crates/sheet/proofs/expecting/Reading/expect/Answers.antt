use Rattle.std.proofs.Common.{◌≡◌, ℕ, ◌+◌, ◌<◌, ◌≤◌, ◌⊎◌, List, [], length, drop, Bor, Some, None, Option, ap, sym, refl, ◌∙◌, ⊎_elim, arith}
use Rattle.std.specs.Option.{MatchOption, unwrap_or}
use Rattle.std.specs.List.{slice_range}
use Rattle.std.proofs.lemmas.List.{take_rest, drop_all}
use Rattle.orders.specs.declared.refusal.Refusal.TheVariants.{Differs}
use Rattle.sheet.specs.Verdicts.{compared}
use Rattle.sheet.proofs.Steps.{begins, ends_early, differs}
use Rattle.sheet.proofs.expecting.Reading.expect.Goals as goal

-- what is there from a place on: nothing, past the end
rest_there : (o : Option (Bor (List ℕ))) (r d : Bor (List ℕ)) (sheet : List ℕ) (at : ℕ) →
    MatchOption o ((length sheet < at) ⊎ (length sheet < length sheet))
    (λ x. (at ≤ length sheet) × (length sheet ≤ length sheet) × (x.now ≡ slice_range sheet at (length sheet)) × (length x.now + at ≡ length sheet)) →
    r ≡ unwrap_or o d → d.now ≡ [] → r.now ≡ drop at sheet
rest_there None r d sheet at h e n =
    ap (λ (x : Bor (List ℕ)). x.now) e ∙ n ∙ sym (drop_all at sheet (⊎_elim (λ l. omega arith) (λ l. absurd (omega arith)) h))
rest_there (Some x) r d sheet at h e n = ap (λ (x : Bor (List ℕ)). x.now) e ∙ h.2 ∙ take_rest sheet at

pub returns-then-starts_with : goal.returns-then-starts_with
returns-then-starts_with c =
    let why = Differs c.args.self.kind c.args.field in
    let there : c.unwrap_or-there.result.now ≡ drop c.args.at c.args.self.sheet.now = rest_there c.get.result _ _ c.args.self.sheet.now c.args.at c.get.ensures.lookup.0 c.unwrap_or-there.ensures refl in
    sym (begins why c.args.bytes.now c.unwrap_or-there.result.now c.args.at (sym c.starts_with.ensures.value ∙ c.if-starts_with.true))
    ∙ ap (λ bs. compared why c.args.bytes.now bs c.args.at) there

pub returns-then-starts_with-2 : goal.returns-then-starts_with-2
returns-then-starts_with-2 c =
    let why = Differs c.args.self.kind c.args.field in
    let there : c.unwrap_or-there.result.now ≡ drop c.args.at c.args.self.sheet.now = rest_there c.get.result _ _ c.args.self.sheet.now c.args.at c.get.ensures.lookup.0 c.unwrap_or-there.ensures refl in
    sym (ends_early why c.args.bytes.now c.unwrap_or-there.result.now c.args.at (sym c.starts_with.ensures.value ∙ c.if-starts_with.false)
    (sym c.starts_with-2.ensures.value ∙ c.if-starts_with-2.true))
    ∙ ap (λ bs. compared why c.args.bytes.now bs c.args.at) there

pub returns : goal.returns
returns c =
    let why = Differs c.args.self.kind c.args.field in
    let there : c.unwrap_or-there.result.now ≡ drop c.args.at c.args.self.sheet.now = rest_there c.get.result _ _ c.args.self.sheet.now c.args.at c.get.ensures.lookup.0 c.unwrap_or-there.ensures refl in
    sym (differs why c.args.bytes.now c.unwrap_or-there.result.now c.args.at (sym c.starts_with.ensures.value ∙ c.if-starts_with.false)
    (sym c.starts_with-2.ensures.value ∙ c.if-starts_with-2.false))
    ∙ ap (λ bs. compared why c.args.bytes.now bs c.args.at) there
