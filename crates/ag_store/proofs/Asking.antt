-- What is asked of the pages over a scripted disk.
use Rattle.std.proofs.Common.{◌≡◌, ◌≤◌, ◌<◌, ℕ, Bool, IsTrue, sym, ap, ◌∙◌, subst}
use Rattle.ag_model.specs.declared.value.PageValue.{PageValue}
use Rattle.ag_model.specs.declared.value.Row.{Row}
use Rattle.ag_model.specs.Page.{pick}
use Rattle.ag_outside.specs.declared.order.Arm.TheVariants.{Free}
use Rattle.ag_outside.specs.Disks.{Image}
use Rattle.ag_outside.specs.Scripts.{ScriptedView}
use Rattle.ag_outside.specs.Shown.{reads_of}
use Rattle.ag_pagestore.specs.Homes.{told_images}
use Rattle.ag_stripe.specs.declared.fault.StripeFault.TheVariants.{TooOld as PageTooOld}
use Rattle.ag_stripe.specs.Answers.{IsRow, IsRowFault, IsTooOld}
use Rattle.ag_stripe.specs.Known.{Known, Says}
use Rattle.ag_stripe.specs.Known.Known.{Value, NotSound, NotItsImage}
use Rattle.ag_kept.proofs.Calls.{ordered}
use Rattle.ag_store.specs.declared.fault.ReadFault.TheVariants.{TooOld}
use Rattle.ag_store.specs.Asking.{IsTooOldBy}
use Rattle.ag_store.specs.Standing.{told_on}
use Rattle.ag_store.proofs.Redone.{told-is}

-- what is known stays, where it was a value
pub says_value : (k l : Known) (v : PageValue) → k ≡ Value v → Says k l → l ≡ Value v
says_value k l v e says = subst (λ (x : Known). Says x l) e says

-- a value is no bad image and no other page's
pub not_bad : (k : Known) (v : PageValue) → k ≡ Value v → Says k NotSound → ⊥
not_bad k v e says = absurd (cc (says_value k NotSound v e says))

pub not_foreign : (k : Known) (v : PageValue) → k ≡ Value v → Says k NotItsImage → ⊥
not_foreign k v e says = absurd (cc (says_value k NotItsImage v e says))

-- the value that was read
pub value_when : (k : Known) (w : PageValue) → (v : PageValue) × (k ≡ Value v) → Says k (Value w) → k ≡ Value w
value_when k w there says = there.1 ∙ sym (says_value k (Value w) there.0 there.1 says)

-- what a row that was picked says, and one that wasn't
pub row_when : (k : Known) (key snapshot : ℕ) (row : Row) → IsRow key snapshot k row → (v : PageValue) → k ≡ Value v → (v.horizon ≤ snapshot) × (row ≡ pick v key snapshot)
row_when k key snapshot row is v e = subst (λ (x : Known). IsRow key snapshot x row) e is

pub old_when : (page snapshot s h : ℕ) (k : Known) → IsRowFault page snapshot k (PageTooOld s h) → (v : PageValue) → k ≡ Value v → IsTooOldBy snapshot v.horizon (TooOld s h)
old_when page snapshot s h k f v e =
    let old : (snapshot < v.horizon) × (h ≡ v.horizon) = subst (λ (x : Known). IsTooOld snapshot h x) e f.1 in
    (f.0, old.1, old.0)

-- what a disk tells whose order was taken back
pub armed_told : {D : Type 0} (keeps : D → Bool) (reads : D → Image) (old armed : ScriptedView D) → armed ≡ ordered old Free → IsTrue (keeps old.disk) → told_images (keeps armed.disk) (reads_of reads armed) ≡ told_on (reads_of reads old)
armed_told keeps reads old armed is k = ap (λ (v : ScriptedView _). told_images (keeps v.disk) (reads_of reads v)) is ∙ told-is (keeps old.disk) (reads_of reads old) k
