-- What redo does to the marks of a page.
use Rattle.std.proofs.Common.{◌≡◌, ℕ, ◌+◌, Bool, true, false, cond, ◌||◌, ◌&&◌, List, [], ◌∷◌, refl, ap, ◌∙◌}
use Rattle.std.specs.Prelude.{Option, Some, None, is_some}
use Rattle.std.specs.List.{enumerate_from, filter, fold, list_any}
use Rattle.std.proofs.lemmas.Bool.{or_parts}
use Rattle.ag_model.specs.declared.record.Record.{Record}
use Rattle.ag_model.specs.declared.value.PageValue.{PageValue}
use Rattle.ag_model.specs.Rows.{touches}
use Rattle.ag_rules.specs.Replica.{Page}
use Rattle.ag_stripe.specs.Redo.{redone_value}
use Rattle.ag_pool.specs.declared.frame.Frame.{Frame}
use Rattle.ag_pool.specs.Frames.{mark_of, held_lsn}
use Rattle.ag_pool.specs.Redo.{redone_frame, redone_by}

value-stays : (lsn : ℕ) (r : Record) (o : Option PageValue) → is_some (redone_value lsn r o) ≡ is_some o
value-stays lsn r (Some v) = refl
value-stays lsn r None = refl

-- entries go on from a frame
abbrev step : Frame → ℕ × Record → Frame
step g e = redone_frame e.0 e.1 g

-- what is dirty after entries, of which the first is this one
dirty-then : (d s t any : Bool) → ((d || s) || (s && any)) ≡ (d || (s && (true || any)))
dirty-then true s t any = refl
dirty-then false true t any = refl
dirty-then false false t any = refl

dirty-none : (d s : Bool) → d ≡ (d || (s && false))
dirty-none true s = refl
dirty-none false true = refl
dirty-none false false = refl

-- the marks of a frame that entries make dirty, where one touches its page
abbrev marked : Frame → Bool → Page
marked f any = record { dirty = f.dirty || (is_some f.value && any); pending = f.pending; held = held_lsn f.held; came = f.came }

module _ (pages page : ℕ) where
  abbrev hits : ℕ × Record → Bool
  hits e = touches pages page e.1

  pub marks : (entries : List (ℕ × Record)) (f : Frame) → mark_of (redone_by pages page entries f) ≡ marked f (list_any hits entries)
  marks [] f = λ i. record { dirty = dirty-none f.dirty (is_some f.value) i; pending = f.pending; held = held_lsn f.held; came = f.came }
  marks (e ∷ entries) f = by_test (marks entries f) (marks entries (redone_frame e.0 e.1 f)) (hits e)
    where
      by_test : mark_of (fold step f (filter hits entries)) ≡ marked f (list_any hits entries)
          → mark_of (fold step (redone_frame e.0 e.1 f) (filter hits entries)) ≡ marked (redone_frame e.0 e.1 f) (list_any hits entries)
          → (b : Bool) → mark_of (fold step f (cond b (e ∷ filter hits entries) (filter hits entries))) ≡ marked f (b || list_any hits entries)
      by_test off on true = on
          ∙ ap (λ (s : Bool). record {
            dirty = (f.dirty || is_some f.value) || (s && list_any hits entries);
            pending = f.pending;
            held = held_lsn f.held;
            came = f.came;
          }) (value-stays e.0 e.1 f.value)
          ∙ (λ i. record { dirty = dirty-then f.dirty (is_some f.value) true (list_any hits entries) i; pending = f.pending; held = held_lsn f.held; came = f.came })
      by_test off on false = off

  pub kept : (entries : List (ℕ × Record)) (f : Frame) → is_some (redone_by pages page entries f).value ≡ is_some f.value
  kept [] f = refl
  kept (e ∷ entries) f = by_test (kept entries f) (kept entries (redone_frame e.0 e.1 f)) (hits e)
    where
      by_test : is_some (fold step f (filter hits entries)).value ≡ is_some f.value
          → is_some (fold step (redone_frame e.0 e.1 f) (filter hits entries)).value ≡ is_some (redone_frame e.0 e.1 f).value
          → (b : Bool) → is_some (fold step f (cond b (e ∷ filter hits entries) (filter hits entries))).value ≡ is_some f.value
      by_test off on true = on ∙ value-stays e.0 e.1 f.value
      by_test off on false = off

  pub untouched : (entries : List (ℕ × Record)) (f : Frame) → list_any hits entries ≡ false → redone_by pages page entries f ≡ f
  untouched [] f off = refl
  untouched (e ∷ entries) f off =
      let parts = or_parts (hits e) (list_any hits entries) off in
      ap (λ (b : Bool). fold step f (cond b (e ∷ filter hits entries) (filter hits entries))) parts.0 ∙ untouched entries f parts.1

  pub numbered : (k : ℕ) (records : List Record) → list_any hits (enumerate_from k records) ≡ list_any (touches pages page) records
  numbered k [] = refl
  numbered k (r ∷ records) = ap (λ (b : Bool). touches pages page r || b) (numbered (k + 1) records)
