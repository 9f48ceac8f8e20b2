-- Laws of calls, one after the other.
use Rattle.std.specs.Prelude.{◌≡◌, ℕ, List, [], ◌∷◌, ◌++◌, refl}
use Rattle.std.proofs.Common.{ap, ◌∙◌, subst}
use Rattle.ag_outside.specs.Calls.{Call, Write_call, Read_call, Sync_call, Leads, changing, IsReadOnly}
use Rattle.ag_outside.specs.Disks.{Content, SameImages}

module _ {D : Type 0} (did : D → Call → D → Type 0) where
  -- first these, then those
  pub leads_both : (xs ys : List Call) (old mid new : D) → Leads did old xs mid → Leads did mid ys new → Leads did old (xs ++ ys) new
  leads_both [] ys old mid new first then = subst (λ (d : D). Leads did d ys new) first then
  leads_both (x ∷ xs) ys old mid new (next, here, first) then = (next, here, leads_both xs ys next mid new first then)

  -- one call more
  pub leads_on : (xs : List Call) (call : Call) (old mid new : D) → Leads did old xs mid → did mid call new → Leads did old (xs ++ call ∷ []) new
  leads_on xs call old mid new first here = leads_both xs (call ∷ []) old mid new first (new, here, refl)

pub changing-append : (xs ys : List Call) → changing (xs ++ ys) ≡ changing xs ++ changing ys
changing-append [] ys = refl
changing-append (Write_call first sectors result ∷ xs) ys = ap (λ (z : List Call). Write_call first sectors result ∷ z) (changing-append xs ys)
changing-append (Read_call at result ∷ xs) ys = changing-append xs ys
changing-append (Sync_call result ∷ xs) ys = ap (λ (z : List Call). Sync_call result ∷ z) (changing-append xs ys)

-- what comes after reads alone
pub after_reads : (xs ys : List Call) → changing xs ≡ [] → changing (xs ++ ys) ≡ changing ys
after_reads xs ys none = changing-append xs ys ∙ ap (λ (z : List Call). z ++ changing ys) none

module _ {D : Type 0} (did : D → Call → D → Type 0) (old mid : D) (read : IsReadOnly did old mid) where
  -- reads, and then reads
  pub reads_both : (new : D) → IsReadOnly did mid new → IsReadOnly did old new
  reads_both new more = record {
    calls = read.calls ++ more.calls;
    leads = leads_both did read.calls more.calls old mid new read.leads more.leads;
    reads = after_reads read.calls more.calls read.reads ∙ more.reads;
  }

-- no call
pub reads_none : {D : Type 0} (did : D → Call → D → Type 0) (old : D) → IsReadOnly did old old
reads_none did old = record { calls = []; leads = refl; reads = refl }

-- nothing changes over two runs of reads
pub same_images : (a b c : ℕ → Content → Type 0) → SameImages a b → SameImages b c → SameImages a c
same_images a b c p q at content = (λ h. (p at content).0 ((q at content).0 h), λ h. (q at content).1 ((p at content).1 h))

-- and over none
pub same_itself : (a : ℕ → Content → Type 0) → SameImages a a
same_itself a at content = (λ h. h, λ h. h)
