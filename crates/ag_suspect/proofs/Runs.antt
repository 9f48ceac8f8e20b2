-- Calls of a disk one after the other.
use Rattle.std.proofs.Common.{◌≡◌, ◌⊎◌, ℕ, ◌≤◌, List, [], ◌∷◌, ◌++◌, Bool, Result, Ok, Err, refl, sym, ap, ◌∙◌, subst, arith, inl, inr, ⊎_elim, append_assoc}
use Rattle.std.specs.Prelude.{IsErrOf}
use Rattle.std.specs.Result.{IsErrAnd}
use Rattle.ag_outside.specs.declared.disk.Found.{Found}
use Rattle.ag_outside.specs.declared.disk.DiskError.{DiskError}
use Rattle.ag_outside.specs.declared.disk.DiskError.TheVariants.{Failed}
use Rattle.ag_outside.specs.declared.disk.SectorWrite.{SectorWrite}
use Rattle.ag_outside.specs.Disks.{Content, Image, WroteSo, MayAdd, SameImages, IsImage, Elapses}
use Rattle.ag_outside.specs.Calls.{Call, Write_call, Read_call, Sync_call, Leads, changing, Piece, IsReadOnly, TakesAll, FailsOnTheWay}
use Rattle.ag_outside.specs.Moments.{LeavesOnly}
use Rattle.ag_outside.proofs.Running.{started, goes_on}
use Rattle.ag_suspect.specs.ReadOnly.{OnlyReads, FailsReading}

-- an error that is handed on
pub handed_on : {T U E : Type 0} (r : Result T E) (from : Result U E) (x e : E) → IsErrAnd r (λ y. y ≡ x) → IsErrOf r e → from ≡ Err x → IsErrOf from e
handed_on {T = T} {E = E} r from x e h is was = was ∙ ap (λ y. Err y) (sym (subst (λ (z : Result T E). IsErrAnd z (λ y. y ≡ x)) is h))

module _ {D : Type 0} (did : D → Call → D → Type 0) where
  leads_then : (a b c : D) (xs ys : List Call) → Leads did a xs b → Leads did b ys c → Leads did a (xs ++ ys) c
  leads_then a b c [] ys first next = subst (λ d. Leads did d ys c) first next
  leads_then a b c (x ∷ xs) ys first next = (first.0, first.1, leads_then first.0 b c xs ys first.2 next)

  changing_both : (xs ys : List Call) → changing (xs ++ ys) ≡ changing xs ++ changing ys
  changing_both [] ys = refl
  changing_both (Write_call at sectors result ∷ xs) ys = ap (λ zs. Write_call at sectors result ∷ zs) (changing_both xs ys)
  changing_both (Read_call at result ∷ xs) ys = changing_both xs ys
  changing_both (Sync_call result ∷ xs) ys = ap (λ zs. Sync_call result ∷ zs) (changing_both xs ys)

  -- reads, and then reads
  pub reads_then : (a b c : D) → IsReadOnly did a b → IsReadOnly did b c → IsReadOnly did a c
  reads_then a b c first next = record {
    calls = first.calls ++ next.calls;
    leads = leads_then a b c first.calls next.calls first.leads next.leads;
    reads = changing_both first.calls next.calls ∙ ap (λ zs. zs ++ changing next.calls) first.reads ∙ next.reads;
  }

  -- reads, and then one that fails
  pub reads_then_fails : (a b c : D) → IsReadOnly did a b → FailsReading did b c → FailsReading did a c
  reads_then_fails a b c first next = record {
    calls = first.calls ++ next.calls;
    leads = leads_then a b c first.calls next.calls first.leads next.leads;
    fails = (first.calls ++ next.fails.0, next.fails.1, ap (λ zs. first.calls ++ zs) next.fails.2 ∙ sym (append_assoc first.calls next.fails.0 (Read_call next.fails.1 (Err Failed) ∷ [])));
  }

  -- a sync, and then reads
  pub sync_then_reads : (a b c : D) (result : Result (Unit {0}) DiskError) → did a (Sync_call result) b → result ≡ Ok (record {}) → IsReadOnly did b c → TakesAll did a [] c
  sync_then_reads a b c result went is next = record {
    calls = Sync_call result ∷ next.calls;
    leads = (b, went, next.leads);
    all = ap (λ r. Sync_call r ∷ changing next.calls) is ∙ ap (λ zs. Sync_call (Ok (record {})) ∷ zs) next.reads;
  }

  pub sync_then_fails : (a b c : D) (result : Result (Unit {0}) DiskError) → did a (Sync_call result) b → FailsReading did b c → FailsOnTheWay did a [] c
  sync_then_fails a b c result went next = record {
    calls = Sync_call result ∷ next.calls;
    leads = (b, went, next.leads);
    last = inr (Sync_call result ∷ next.fails.0, next.fails.1, ap (λ zs. Sync_call result ∷ zs) next.fails.2);
  }

  pub sync_fails : (a b : D) (result : Result (Unit {0}) DiskError) → did a (Sync_call result) b → result ≡ Err Failed → FailsOnTheWay did a [] b
  sync_fails a b result went is = record { calls = Sync_call result ∷ []; leads = (b, went, refl); last = inl (ap (λ r. Sync_call r ∷ []) is) }

  pub one_fails : (a b : D) (at : ℕ) (result : Result Found DiskError) → did a (Read_call at result) b → result ≡ Err Failed → FailsReading did a b
  one_fails a b at result went is = record { calls = Read_call at result ∷ []; leads = (b, went, refl); fails = ([], at, ap (λ r. Read_call at r ∷ []) is) }

-- each sector is as it might have been, or written
abbrev pub IsWrittenTo : (ℕ → Content → Type 0) → List SectorWrite → Image → Type 0
IsWrittenTo may_hold ws image = (at : ℕ) → may_hold at (image at) ⊎ WroteSo ws at (image at)

pub still_written : (ws : List SectorWrite) (a b c : ℕ → Content → Type 0) → MayAdd ws a b → MayAdd [] b c → (image : Image) → IsImage c image → IsWrittenTo a ws image
still_written ws a b c first next image is at = elim (next at (image at) (is at)) [
  | inl before ↦ first at (image at) before
  | inr none ↦ absurd none
]

pub no_more : (a b : ℕ → Content → Type 0) → MayAdd [] a b → (image : Image) → IsImage b image → IsImage a image
no_more a b next image is at = elim (next at (image at) (is at)) [ inl was ↦ was | inr none ↦ absurd none ]

-- a write and a sync
abbrev pub one_piece : ℕ → List (List ℕ) → List Piece
one_piece first sectors = record { first = first; sectors = sectors } ∷ []

module _ {D : Type 0} (did : D → Call → D → Type 0) (first : ℕ) (sectors : List (List ℕ)) where
  pub took : (a b c : D) (written synced : Result (Unit {0}) DiskError) → did a (Write_call first sectors written) b → did b (Sync_call synced) c → written ≡ Ok (record {}) → synced ≡ Ok (record {}) → TakesAll did a (one_piece first sectors) c
  took a b c written synced w s is_written is_synced = record {
    calls = Write_call first sectors written ∷ Sync_call synced ∷ [];
    leads = (b, w, (c, s, refl));
    all = ap (λ r. Write_call first sectors r ∷ Sync_call synced ∷ []) is_written ∙ ap (λ r. Write_call first sectors (Ok (record {})) ∷ Sync_call r ∷ []) is_synced;
  }

  pub sync_failed : (a b c : D) (written synced : Result (Unit {0}) DiskError) → did a (Write_call first sectors written) b → did b (Sync_call synced) c → written ≡ Ok (record {}) → synced ≡ Err Failed → FailsOnTheWay did a (one_piece first sectors) c
  sync_failed a b c written synced w s is_written is_synced = record {
    calls = Write_call first sectors written ∷ Sync_call synced ∷ [];
    leads = (b, w, (c, s, refl));
    last = inl (inr (Sync_call synced ∷ [], ap (λ r. Write_call first sectors r ∷ Sync_call synced ∷ []) is_written, ap (λ r. Sync_call r ∷ []) is_synced));
  }

  pub write_failed : (a b : D) (written : Result (Unit {0}) DiskError) → did a (Write_call first sectors written) b → written ≡ Err Failed → FailsOnTheWay did a (one_piece first sectors) b
  write_failed a b written w is = record { calls = Write_call first sectors written ∷ []; leads = (b, w, refl); last = inl (inl (ap (λ r. Write_call first sectors r ∷ []) is)) }

module _ {D : Type 0} (moment : D → ℕ) (left_since : D → ℕ → Image → Type 0) where
  -- a run, and then another
  pub leaves_then : (old mid new : D) (P Q : Image → Type 0) → LeavesOnly moment left_since old mid P → LeavesOnly moment left_since mid new Q → ((image : Image) → Q image → P image) → LeavesOnly moment left_since old new P
  leaves_then old mid new P Q first next from = record {
    later = omega (arith, first.later, next.later);
    each = λ image left. ⊎_elim (first.each image) (from image) (next.before (moment old) image first.later left);
    before = λ t image le left. ⊎_elim (first.before t image le) (λ q. inr (from image q)) (next.before t image (omega (arith, le, first.later)) left);
  }

  -- a weaker promise
  pub leaves_so : (old new : D) (P Q : Image → Type 0) → LeavesOnly moment left_since old new P → ((image : Image) → P image → Q image) → LeavesOnly moment left_since old new Q
  leaves_so old new P Q run from = record {
    later = run.later;
    each = λ image left. from image (run.each image left);
    before = λ t image le left. ⊎_elim inl (λ p. inr (from image p)) (run.before t image le left);
  }

module _ {D : Type 0} (size : D → ℕ) (keeps : D → Bool) (reads : D → Image) (may_hold : D → ℕ → Content → Type 0) (moment : D → ℕ) (left_since : D → ℕ → Image → Type 0) (faults : D → ℕ) (did : D → Call → D → Type 0) where
  abbrev Run : D → D → Type 0
  Run a b = OnlyReads size keeps reads may_hold moment left_since faults did a b

  pub not_read : (a : D) → ((image : Image) → left_since a (moment a) image → IsImage (may_hold a) image) → Run a a
  not_read a now = record {
    size_same = refl;
    keeps_same = refl;
    reads_same = refl;
    images = λ at content. ((λ is. is), (λ is. is));
    moments = started moment left_since a (IsImage (may_hold a)) now;
    later = omega arith;
    calls = record { calls = []; leads = refl; reads = refl };
  }

  pub one_read : (a b : D) (at : ℕ) (result : Result Found DiskError) (traced : Bool) → ((image : Image) → left_since a (moment a) image → IsImage (may_hold a) image) → size b ≡ size a → keeps b ≡ keeps a → reads b ≡ reads a → SameImages (may_hold a) (may_hold b)
      → Elapses traced (moment a) (moment b) (left_since a) (left_since b) (may_hold b) → faults a ≤ faults b → did a (Read_call at result) b → Run a b
  one_read a b at result traced now size_is keeps_is reads_is same time later went = record {
    size_same = size_is;
    keeps_same = keeps_is;
    reads_same = reads_is;
    images = same;
    moments = goes_on moment left_since a a b (IsImage (may_hold a)) traced (may_hold b) (started moment left_since a (IsImage (may_hold a)) now) time (λ image is at. (same at (image at)).0 (is at));
    later = later;
    calls = record { calls = Read_call at result ∷ []; leads = (b, went, refl); reads = refl };
  }

  pub then_reads : (a b c : D) → Run a b → Run b c → Run a c
  then_reads a b c first next = record {
    size_same = next.size_same ∙ first.size_same;
    keeps_same = next.keeps_same ∙ first.keeps_same;
    reads_same = next.reads_same ∙ first.reads_same;
    images = λ at content. ((λ is. (first.images at content).0 ((next.images at content).0 is)), (λ is. (next.images at content).1 ((first.images at content).1 is)));
    moments = leaves_then moment left_since a b c (IsImage (may_hold a)) (IsImage (may_hold b)) first.moments next.moments (λ image is at. (first.images at (image at)).0 (is at));
    later = omega (arith, first.later, next.later);
    calls = reads_then did a b c first.calls next.calls;
  }
