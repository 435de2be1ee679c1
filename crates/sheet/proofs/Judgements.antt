-- What the checker says is so: of any bytes that should be there, then of the fields of a kind, then of kinds.
use Rattle.std.proofs.Common.{◌≡◌, ℕ, zero, suc, ◌+◌, ◌<◌, ◌≤◌, eqb, ◌⊎◌, List, [], ◌∷◌, ◌++◌, length, get_or, take, drop, Ok, Err, Result, sym, refl, ap, ◌∙◌, inl, inr, arith}
use Rattle.std.proofs.lemmas.List.{append_assoc, length-append, length-drop, drop_at, drop-drop}
use Rattle.std.proofs.lemmas.Bool.{cond_both, eqb-true, eqb-false}
use Rattle.orders.specs.declared.refusal.Field.TheVariants.{Pairs}
use Rattle.orders.specs.declared.refusal.Refusal.{Refusal}
use Rattle.orders.specs.declared.refusal.Refusal.TheVariants.{Differs, Ends}
use Rattle.orders.specs.Entries.{kind_row}
use Rattle.sheet.specs.Sheets.{Printed, printed, row_fields, kind_sheet, sheet_of_kind, sheet_from}
use Rattle.sheet.specs.Statements.{TurnsOff, GoesFurther}
use Rattle.sheet.specs.Verdicts.{and_then, compared, step, through, through_kinds}

-- an answer about bytes that should stand at a place: all of them do, or the sheet ends among them, or there is something wrong
abbrev pub Told : (Refusal → Type 0) → List ℕ → List ℕ → ℕ → Result ℕ Refusal → Type 0
Told Wrong bytes sheet at (Ok end) = (end ≡ at + length bytes) × (drop at sheet ≡ bytes ++ drop end sheet)
Told Wrong bytes sheet at (Err e) = ((e ≡ Ends (length sheet)) × GoesFurther (drop at sheet) bytes) ⊎ Wrong e

-- of one piece

abbrev Piece : Refusal → List ℕ → List ℕ → ℕ → Result ℕ Refusal → Type 0
Piece why bytes there at (Ok end) = (rest : List ℕ) × (end ≡ at + length bytes) × (there ≡ bytes ++ rest)
Piece why bytes there at (Err e) = ((e ≡ Ends (at + length there)) × GoesFurther there bytes) ⊎ ((e ≡ why) × TurnsOff bytes there)

piece : (why : Refusal) (bytes there : List ℕ) (at : ℕ) → Piece why bytes there at (compared why bytes there at)
unfolding compared
piece why [] there at = (there, omega arith, refl)
piece why (b ∷ bytes) [] at = inl (ap Ends (omega arith), record { byte = b; after = bytes; is = refl })
piece why (b ∷ bytes) (x ∷ there) at =
    cond_both (eqb x b) (compared why bytes there (suc at)) (Err why) (Piece why (b ∷ bytes) (x ∷ there) at)
    (λ t. more (eqb-true x b t) (compared why bytes there (suc at)) (piece why bytes there (suc at)))
    (λ t. inr (refl, record { same = []; byte = b; other = x; missed = bytes; after = there; should_be = refl; is = refl; differ = eqb-false x b t }))
  where
    more : x ≡ b → (r : Result ℕ Refusal) → Piece why bytes there (suc at) r → Piece why (b ∷ bytes) (x ∷ there) at r
    more e (Ok end) (rest, n, is) = (rest, omega (arith, n), ap (λ ys. x ∷ ys) is ∙ ap (λ y. y ∷ (bytes ++ rest)) e)
    more e (Err why') (inl (n, g)) =
        inl (n ∙ ap Ends (omega arith), record { byte = g.byte; after = g.after; is = ap (λ y. y ∷ bytes) (sym e) ∙ ap (λ ys. x ∷ ys) g.is })
    more e (Err why') (inr (n, t)) =
        inr (
          n,
          record {
            same = b ∷ t.same;
            byte = t.byte;
            other = t.other;
            missed = t.missed;
            after = t.after;
            should_be = ap (λ ys. b ∷ ys) t.should_be;
            is = ap (λ y. y ∷ there) e ∙ ap (λ ys. b ∷ ys) t.is;
            differ = t.differ;
          },
        )

told_step : (sheet : List ℕ) (why : Refusal) (bytes : List ℕ) (at : ℕ) → at ≤ length sheet →
    Told (λ e. (e ≡ why) × TurnsOff bytes (drop at sheet)) bytes sheet at (step sheet why bytes at)
told_step sheet why bytes at h = from (compared why bytes (drop at sheet) at) (piece why bytes (drop at sheet) at)
  where
    from : (r : Result ℕ Refusal) → Piece why bytes (drop at sheet) at r → Told (λ e. (e ≡ why) × TurnsOff bytes (drop at sheet)) bytes sheet at r
    from (Ok end) (rest, n, is) = (
      n,
      is ∙ ap (λ ys. bytes ++ ys)
          (sym (drop_at bytes rest (length bytes) refl) ∙ ap (drop (length bytes)) (sym is) ∙ drop-drop (length bytes) at sheet
          ∙ ap (λ (i : ℕ). drop i sheet) (sym n)),
    )
    from (Err e) (inl (n, g)) = inl (n ∙ ap Ends (omega (arith, length-drop at sheet)), g)
    from (Err e) (inr w) = inr w

-- the place after bytes that are there lies within the sheet
within_sheet : (sheet bytes : List ℕ) (at end : ℕ) → at ≤ length sheet → end ≡ at + length bytes → drop at sheet ≡ bytes ++ drop end sheet →
    end ≤ length sheet
within_sheet sheet bytes at end h n is =
    omega (arith, ap length is, length-append bytes (drop end sheet), length-drop at sheet, length-drop end sheet)

-- one piece after another
told_then : {V Wrong : Refusal → Type 0} {W : ℕ → Refusal → Type 0} (sheet xs ys : List ℕ) (at : ℕ) (r : Result ℕ Refusal) (next : ℕ → Result ℕ Refusal) → at ≤ length sheet →
    Told V xs sheet at r → ((end : ℕ) → end ≤ length sheet → Told (W end) ys sheet end (next end)) →
    ((e : Refusal) → V e → Wrong e) → ((end : ℕ) (e : Refusal) → drop at sheet ≡ xs ++ drop end sheet → W end e → Wrong e) →
    Told Wrong (xs ++ ys) sheet at (and_then r next)
told_then {Wrong = Wrong} sheet xs ys at (Err e) next h (inl (n, g)) go early late =
    inl (
      n,
      record {
        byte = g.byte;
        after = g.after ++ ys;
        is = ap (λ bs. bs ++ ys) g.is ∙ append_assoc (drop at sheet) (g.byte ∷ g.after) ys;
      },
    )
told_then {Wrong = Wrong} sheet xs ys at (Err e) next h (inr v) go early late = inr (early e v)
told_then {Wrong = Wrong} {W = W} sheet xs ys at (Ok mid) next h (n, is) go early late =
    from (next mid) (go mid (within_sheet sheet xs at mid h n is))
  where
    from : (r : Result ℕ Refusal) → Told (W mid) ys sheet mid r → Told Wrong (xs ++ ys) sheet at r
    from (Ok end) (m, is') = (
      omega (arith, n, m, length-append xs ys),
      is ∙ ap (λ bs. xs ++ bs) is' ∙ sym (append_assoc xs ys (drop end sheet)),
    )
    from (Err e) (inl (m, g)) =
        inl (
          m,
          record {
            byte = g.byte;
            after = g.after;
            is = ap (λ bs. xs ++ bs) g.is ∙ sym (append_assoc xs (drop mid sheet) (g.byte ∷ g.after)) ∙ ap (λ bs. bs ++ g.byte ∷ g.after) (sym is);
          },
        )
    from (Err e) (inr w) = inr (late mid e is w)

-- of the fields of a kind

abbrev pub no_field : Printed
no_field = record { field = Pairs; bytes = [] }

record WrongAmong (sheet : List ℕ) (k : ℕ) (fields : List Printed) (at : ℕ) (e : Refusal) : Type 0 where
  place : ℕ
  within : place < length fields
  named : e ≡ Differs k (get_or fields place no_field).field
  there : List ℕ
  begins : drop at sheet ≡ printed (take place fields) ++ there
  turns : TurnsOff (get_or fields place no_field).bytes there

told_fields : (sheet : List ℕ) (k : ℕ) (fields : List Printed) (at : ℕ) → at ≤ length sheet →
    Told (WrongAmong sheet k fields at) (printed fields) sheet at (through sheet k fields at)
told_fields sheet k [] at h = (omega arith, refl)
told_fields sheet k (f ∷ fields) at h =
    told_then {V = λ e. (e ≡ Differs k f.field) × TurnsOff f.bytes (drop at sheet)} {Wrong = WrongAmong sheet k (f ∷ fields) at}
    {W = λ end. WrongAmong sheet k fields end}
    sheet f.bytes (printed fields) at (step sheet (Differs k f.field) f.bytes at) (through sheet k fields) h
    (told_step sheet (Differs k f.field) f.bytes at h)
    (λ end l. told_fields sheet k fields end l)
    (λ e w. record { place = 0; within = omega arith; named = w.0; there = drop at sheet; begins = refl; turns = w.1 })
    later
  where
    later : (end : ℕ) (e : Refusal) → drop at sheet ≡ f.bytes ++ drop end sheet → WrongAmong sheet k fields end e →
        WrongAmong sheet k (f ∷ fields) at e
    later end e is w =
        record {
          place = suc w.place;
          within = omega (arith, w.within);
          named = w.named;
          there = w.there;
          begins = is ∙ ap (λ bs. f.bytes ++ bs) w.begins ∙ sym (append_assoc f.bytes (printed (take w.place fields)) w.there);
          turns = w.turns;
        }

-- of kinds

pub record WrongKind (M : ℕ) (codes sheet : List ℕ) (n k at : ℕ) (e : Refusal) : Type 0 where
  pub before : ℕ
  pub among : before < n
  pub kind : ℕ
  pub is_kind : kind ≡ k + before
  pub place : ℕ
  pub within : place < 8
  pub named : e ≡ Differs kind (get_or (row_fields (kind_row M codes kind)) place no_field).field
  pub there : List ℕ
  pub begins : drop at sheet ≡ (sheet_from M codes before k ++ printed (take place (row_fields (kind_row M codes kind)))) ++ there
  pub turns : TurnsOff (get_or (row_fields (kind_row M codes kind)) place no_field).bytes there

pub told_kinds : (M : ℕ) (codes sheet : List ℕ) (n k at : ℕ) → at ≤ length sheet →
    Told (WrongKind M codes sheet n k at) (sheet_from M codes n k) sheet at (through_kinds M codes sheet n k at)
unfolding through_kinds sheet_from kind_sheet
told_kinds M codes sheet zero k at h = (omega arith, refl)
told_kinds M codes sheet (suc n) k at h =
    told_then {V = WrongAmong sheet k (row_fields (kind_row M codes k)) at} {Wrong = WrongKind M codes sheet (suc n) k at}
    {W = λ end. WrongKind M codes sheet n (suc k) end} sheet (sheet_of_kind (kind_row M codes k)) (sheet_from M codes n (suc k)) at
    (through sheet k (row_fields (kind_row M codes k)) at) (through_kinds M codes sheet n (suc k)) h
    (told_fields sheet k (row_fields (kind_row M codes k)) at h) (λ end l. told_kinds M codes sheet n (suc k) end l) this next
  where
    this : (e : Refusal) → WrongAmong sheet k (row_fields (kind_row M codes k)) at e → WrongKind M codes sheet (suc n) k at e
    this e w =
        record {
          before = 0;
          among = omega arith;
          kind = k;
          is_kind = omega arith;
          place = w.place;
          within = w.within;
          named = w.named;
          there = w.there;
          begins = w.begins;
          turns = w.turns;
        }

    next : (end : ℕ) (e : Refusal) → drop at sheet ≡ sheet_of_kind (kind_row M codes k) ++ drop end sheet →
        WrongKind M codes sheet n (suc k) end e → WrongKind M codes sheet (suc n) k at e
    next end e is w =
        let part = sheet_of_kind (kind_row M codes k) in
        let front = printed (take w.place (row_fields (kind_row M codes w.kind))) in
        let rest = sheet_from M codes w.before (suc k) in
        record {
          before = suc w.before;
          among = omega (arith, w.among);
          kind = w.kind;
          is_kind = omega (arith, w.is_kind);
          place = w.place;
          within = w.within;
          named = w.named;
          there = w.there;
          begins =
              is ∙ ap (λ bs. part ++ bs) w.begins ∙ sym (append_assoc part (rest ++ front) w.there)
              ∙ ap (λ bs. bs ++ w.there) (sym (append_assoc part rest front));
          turns = w.turns;
        }
