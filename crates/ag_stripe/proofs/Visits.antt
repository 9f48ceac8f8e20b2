-- Pages visited one after the other.
use Rattle.std.proofs.Common.{◌≡◌, ℕ, suc, zero, ◌+◌, ◌<◌, min, Bool, true, false, eqb, ◌||◌, ◌&&◌, List, [], ◌∷◌, length, get_or, take, eq-eqb, add-one, refl, sym, ap, subst, ◌∙◌, inl, inr, arith, ◌⊎◌}
use Rattle.std.specs.Prelude.{Option, Some, None}
use Rattle.std.specs.List.{list_any}
use Rattle.std.proofs.lemmas.Bool.{cases_Bool, or_cases, or_parts, eqb-true, false≢true, or_right, or_left}
use Rattle.std.proofs.Math.Bool.{and-false}
use Rattle.std.proofs.lemmas.List.Folds.{list_any_more, list_any_at}
use Rattle.ag_stripe.specs.declared.fault.StripeFault.{StripeFault}
use Rattle.ag_stripe.specs.declared.fault.StripeFault.TheVariants.{Bad, Pending, TooOld, Home, Unlawful, NoMemory}
use Rattle.ag_stripe.specs.Tables.{Table, IsSameTable, is_own, slot_of}
use Rattle.ag_stripe.specs.Known.{Told, Says, known}
use Rattle.ag_stripe.specs.Known.Known.{NotSound, NotItsImage}
use Rattle.ag_model.specs.declared.record.Record.{Record}
use Rattle.ag_model.specs.Rows.{touches}
use Rattle.ag_stripe.specs.Reading.{OnlyReads, IsReadFault, HasPages}
use Rattle.ag_stripe.specs.Redo.{IsKept, is_touched}
use Rattle.ag_stripe.specs.Visits.{IsAtMost, lesser, Visits, IsVisitFault}
use Rattle.ag_stripe.proofs.Slots.{at_other}
use Rattle.ag_stripe.proofs.Readings.{says-then, own-same, reads-none, reads-then}

-- no page
pub visits-none : (told : Told) (t : Table) (bad : Option ℕ) → Visits told t t bad bad (λ p. false)
visits-none told t bad = record { reads = reads-none told t; found = λ p own on. absurd (false≢true on); others = λ p off. refl; lower = λ p h. h; from = λ p e. inl e }

-- the same pages of the stripe, told otherwise
pub visits-as : (told : Told) (old new : Table) (before after : Option ℕ) (p q : ℕ → Bool) → ((x : ℕ) → is_own old x ≡ true → p x ≡ q x) → Visits told old new before after p → Visits told old new before after q
visits-as told old new before after p q same h = record {
  reads = h.reads;
  found = λ x own on. h.found x own (same x own ∙ on);
  others = λ x off. elim (cases_Bool (is_own old x)) [
    | inl own ↦ h.others x (same x own ∙ off)
    | inr away ↦ at_other new x (own-same old new h.reads.same x ∙ away) ∙ sym (at_other old x away)
  ];
  lower = h.lower;
  from = λ x e. elim (h.from x e) [ inl b ↦ inl b | inr f ↦ inr (f.0, sym (same x f.0) ∙ f.1, f.2) ];
}

-- some pages, and then others
pub visits-then : (told : Told) (a b c : Table) (x y z : Option ℕ) (p q : ℕ → Bool) → Visits told a b x y p → Visits told b c y z q → Visits told a c x z (λ n. p n || q n)
visits-then told a b c x y z p q h k = record {
  reads = reads-then told a b c h.reads k.reads;
  found = λ n own on. elim (or_cases (p n) (q n) on) [
    | inl first ↦ earlier n (h.found n own first)
    | inr next ↦ k.found n (own-same a b h.reads.same n ∙ own) next
  ];
  others = λ n off. (let each = or_parts (p n) (q n) off in k.others n each.1 ∙ h.others n each.0);
  lower = λ n e. k.lower n (h.lower n e);
  from = λ n e. elim (k.from n e) [
    | inl mid ↦ first n (h.from n mid)
    | inr f ↦ inr (sym (own-same a b h.reads.same n) ∙ f.0, or_right (p n) (q n) f.1, says-then (known told a n) (known told b n) NotSound (h.reads.known n) f.2)
  ];
}
  where
    earlier : (n : ℕ) → (IsKept b n ⊎ IsAtMost y n) → IsKept c n ⊎ IsAtMost z n
    earlier n (inl kept) = inl (kept.0, k.reads.kept n kept.0 kept.1)
    earlier n (inr low) = inr (k.lower n low)

    first : (n : ℕ) → ((x ≡ Some n) ⊎ ((is_own a n ≡ true) × (p n ≡ true) × Says (known told a n) NotSound)) → (x ≡ Some n) ⊎ ((is_own a n ≡ true) × ((p n || q n) ≡ true) × Says (known told a n) NotSound)
    first n (inl e) = inl e
    first n (inr f) = inr (f.0, or_left (p n) (q n) f.1, f.2)

-- ---- one page

-- a page of another stripe
pub visits-foreign : (told : Told) (t : Table) (bad : Option ℕ) (page : ℕ) → is_own t page ≡ false → Visits told t t bad bad (λ p. eqb p page)
visits-foreign told t bad page off = record {
  reads = reads-none told t;
  found = λ p own on. absurd (false≢true (sym off ∙ ap (is_own t) (sym (eqb-true p page on)) ∙ own));
  others = λ p away. refl;
  lower = λ p h. h;
  from = λ p e. inl e;
}

-- a page that was read in
pub visits-read : (told : Told) (old new : Table) (bad : Option ℕ) (page : ℕ) → OnlyReads told old new → ((q : ℕ) → eqb q page ≡ false → slot_of new q ≡ slot_of old q) → IsKept new page → Visits told old new bad bad (λ p. eqb p page)
visits-read told old new bad page reads others kept = record {
  reads = reads;
  others = others;
  found = λ p own on. inl (subst (IsKept new) (sym (eqb-true p page on)) kept);
  lower = λ p h. h;
  from = λ p e. inl e;
}

lesser-low : (bad : Option ℕ) (page : ℕ) → IsAtMost (lesser bad page) page
lesser-low None page = omega arith
lesser-low (Some b) page = omega arith

lesser-lower : (bad : Option ℕ) (page p : ℕ) → IsAtMost bad p → IsAtMost (lesser bad page) p
lesser-lower None page p h = absurd h
lesser-lower (Some b) page p h = omega arith

lesser-is : (bad : Option ℕ) (page p : ℕ) → lesser bad page ≡ Some p → (bad ≡ Some p) ⊎ (p ≡ page)
lesser-is None page p e = inr (let f : page ≡ p = cc in sym f)
lesser-is (Some b) page p e = (let f : min b page ≡ p = cc in by_order b page p f (min-is b page))
  where
    min-is : (b page : ℕ) → (min b page ≡ b) ⊎ (min b page ≡ page)
    min-is b page = grind arith

    by_order : (b page p : ℕ) → min b page ≡ p → ((min b page ≡ b) ⊎ (min b page ≡ page)) → (Some b ≡ Some p) ⊎ (p ≡ page)
    by_order b page p f (inl g) = inl (ap Some (sym g ∙ f))
    by_order b page p f (inr g) = inr (sym f ∙ g)

-- a bad page
pub visits-bad : (told : Told) (old new : Table) (bad : Option ℕ) (page : ℕ) → OnlyReads told old new → ((q : ℕ) → eqb q page ≡ false → slot_of new q ≡ slot_of old q) → is_own old page ≡ true → Says (known told old page) NotSound → Visits told old new bad (lesser bad page) (λ p. eqb p page)
visits-bad told old new bad page reads others own says = record {
  reads = reads;
  others = others;
  found = λ p mine on. inr (subst (IsAtMost (lesser bad page)) (sym (eqb-true p page on)) (lesser-low bad page));
  lower = λ p h. lesser-lower bad page p h;
  from = λ p e. elim (lesser-is bad page p e) [
    | inl before ↦ inl before
    | inr same ↦ inr (ap (is_own old) same ∙ own, eq-eqb p page same, subst (λ (n : ℕ). Says (known told old n) NotSound) (sym same) says)
  ];
}

-- ---- faults

pub visit_fault : (told : Told) (old : Table) (page : ℕ) (e : StripeFault) → is_own old page ≡ true → IsReadFault page (Says (known told old page) NotItsImage) e → IsVisitFault told old (λ p. eqb p page) e
visit_fault told old page (Unlawful q) own h = (ap (is_own old) h.0 ∙ own, eq-eqb q page h.0, subst (λ (n : ℕ). Says (known told old n) NotItsImage) (sym h.0) h.1)
visit_fault told old page Home own h = tt
visit_fault told old page NoMemory own h = tt
visit_fault told old page (Bad q) own h = h
visit_fault told old page (Pending q) own h = h
visit_fault told old page (TooOld s o) own h = h

-- a fault of a later visit, of pages that are visited too
pub visit_fault-then : (told : Told) (a b : Table) (p q : ℕ → Bool) (e : StripeFault) → OnlyReads told a b → ((n : ℕ) → is_own a n ≡ true → q n ≡ true → p n ≡ true) → IsVisitFault told b q e → IsVisitFault told a p e
visit_fault-then told a b p q (Unlawful page) reads more h =
    let own : is_own a page ≡ true = sym (own-same a b reads.same page) ∙ h.0 in
    (own, more page own h.1, says-then (known told a page) (known told b page) NotItsImage (reads.known page) h.2)
visit_fault-then told a b p q Home reads more h = tt
visit_fault-then told a b p q NoMemory reads more h = tt
visit_fault-then told a b p q (Bad page) reads more h = h
visit_fault-then told a b p q (Pending page) reads more h = h
visit_fault-then told a b p q (TooOld s o) reads more h = h

-- ---- homes

-- a home still has the pages
pub has_pages : {H : Type 0} (has_page : H → ℕ → Bool) (t u : Table) (a b : H) → IsSameTable t u → has_page b ≡ has_page a → HasPages has_page t a → HasPages has_page u b
has_pages has_page t u a b same pages h q own = ap (λ (f : ℕ → Bool). f q) pages ∙ h q (sym (own-same t u same q) ∙ own)

-- one record more
pub touched-more : (start old : Table) (records : List Record) (r : Record) (i x : ℕ) → IsSameTable start old → i < length records → r ≡ get_or records i r → is_own start x ≡ true
    → (is_touched start (take i records) x || touches old.pages x r) ≡ is_touched start (take (i + 1) records) x
touched-more start old records r i x same lt there own =
    (λ j. (own j && list_any (touches start.pages x) (take i records)) || touches (same.pages j) x (there j))
    ∙ sym (list_any_more (touches start.pages x) records i r lt)
    ∙ (λ j. sym own j && list_any (touches start.pages x) (take (i + 1) records))

-- no record
pub touched-none : (t : Table) (x : ℕ) → false ≡ is_touched t [] x
touched-none t x = sym (and-false (is_own t x))

-- what a record of a block touches, the block touches
pub touched-one : (start old : Table) (records : List Record) (r : Record) (i x : ℕ) → IsSameTable start old → i < length records → r ≡ get_or records i r → is_own start x ≡ true → touches old.pages x r ≡ true → is_touched start records x ≡ true
touched-one start old records r i x same lt there own on =
    (λ j. own j && list_any (touches start.pages x) records) ∙ list_any_at (touches start.pages x) records i r lt ((λ j. touches (sym same.pages j) x (sym there j)) ∙ on)
