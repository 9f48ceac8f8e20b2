use Rattle.std.proofs.Common.{◌≡◌, Err, sym, ◌∙◌, subst}
use Rattle.std.specs.Prelude.{Result}
use Rattle.ag_model.specs.declared.value.Row.{Row}
use Rattle.ag_model.specs.Rows.{page_of}
use Rattle.ag_outside.specs.Shown.{reads_of}
use Rattle.ag_pagestore.specs.Homes.{told_images}
use Rattle.ag_stripe.specs.declared.fault.StripeFault.{StripeFault}
use Rattle.ag_stripe.specs.declared.fault.StripeFault.TheVariants.{TooOld as PageTooOld}
use Rattle.ag_stripe.specs.Answers.{IsRow, IsRowFault}
use Rattle.ag_stripe.specs.Known.{Told}
use Rattle.ag_kept.specs.declared.fault.KeptFault.{KeptFault}
use Rattle.ag_kept.specs.declared.fault.KeptFault.TheVariants.{DiskFault}
use Rattle.ag_pages.specs.Reading.{OnlyReadsIn}
use Rattle.ag_pages.specs.Views.{known_of}
use Rattle.ag_store.specs.declared.fault.ReadFault.{ReadFault}
use Rattle.ag_store.specs.declared.fault.ReadFault.TheVariants.{Gave}
use Rattle.ag_store.specs.Standing.{told_on}
use Rattle.ag_store.proofs.Asking.{armed_told, row_when, old_when}
use Rattle.ag_store.proofs.Redone.{shown_same, same_size, read_later, read_risen}
use Rattle.ag_store.proofs.reading.row_by.Goals as goal

gave : (a : KeptFault) → ◌≡◌ {A = Result Row ReadFault} (Err (Gave a)) (Err (Gave DiskFault)) → a ≡ DiskFault
gave a e = cc e

pub returns-in-Ok : goal.returns-in-Ok
returns-in-Ok g c =
    let d = g.D.Disk in
    record {
      row = row_when (known_of (told_on (reads_of d.reads c.args.disk.now)) c.args.pages.now (page_of c.args.pages.now.count c.args.key)) c.args.key c.args.snapshot c.in-Ok.row (subst (λ (t : Told). IsRow c.args.key c.args.snapshot (known_of t c.args.pages.now (page_of c.args.pages.now.count c.args.key)) c.in-Ok.row) (armed_told d.keeps d.reads c.args.disk.now c.arm.new.self c.arm.ensures c.requires.home.modelled) c.in-Ok.ensures.row);
      too_old = tt;
      pages = subst (λ (t : Told). OnlyReadsIn t c.args.pages.now c.row_at.new.self) (armed_told d.keeps d.reads c.args.disk.now c.arm.new.self c.arm.ensures c.requires.home.modelled) c.row_at.ensures.reads;
      disk = shown_same d.size d.keeps d.reads d.may_hold d.faults c.args.disk.now c.arm.new.self c.row_at.new.disk c.arm.ensures c.row_at.ensures.disk;
      later = read_later d.size d.keeps d.reads d.may_hold d.faults c.args.disk.now c.arm.new.self c.row_at.new.disk c.arm.ensures c.row_at.ensures.disk;
      size = same_size d.size d.keeps d.reads d.may_hold d.faults c.args.disk.now c.arm.new.self c.row_at.new.disk c.arm.ensures c.row_at.ensures.disk;
      fault = λ e. absurd (cc e);
    }

pub returns-in-Err-TooOld : goal.returns-in-Err-TooOld
returns-in-Err-TooOld g c =
    let d = g.D.Disk in
    record {
      row = tt;
      too_old = old_when (page_of c.args.pages.now.count c.args.key) c.args.snapshot c.in-Err-TooOld.snapshot c.in-Err-TooOld.horizon (known_of (told_on (reads_of d.reads c.args.disk.now)) c.args.pages.now (page_of c.args.pages.now.count c.args.key)) (subst (λ (t : Told). IsRowFault (page_of c.args.pages.now.count c.args.key) c.args.snapshot (known_of t c.args.pages.now (page_of c.args.pages.now.count c.args.key)) (PageTooOld c.in-Err-TooOld.snapshot c.in-Err-TooOld.horizon)) (armed_told d.keeps d.reads c.args.disk.now c.arm.new.self c.arm.ensures c.requires.home.modelled) (subst (λ (e : StripeFault). IsRowFault (page_of c.args.pages.now.count c.args.key) c.args.snapshot (known_of (told_images (d.keeps c.arm.new.self.disk) (reads_of d.reads c.arm.new.self)) c.args.pages.now (page_of c.args.pages.now.count c.args.key)) e) c.in-Err-TooOld.field-0-is c.in-Err-TooOld.ensures.fault));
      pages = subst (λ (t : Told). OnlyReadsIn t c.args.pages.now c.row_at.new.self) (armed_told d.keeps d.reads c.args.disk.now c.arm.new.self c.arm.ensures c.requires.home.modelled) c.row_at.ensures.reads;
      disk = shown_same d.size d.keeps d.reads d.may_hold d.faults c.args.disk.now c.arm.new.self c.row_at.new.disk c.arm.ensures c.row_at.ensures.disk;
      later = read_later d.size d.keeps d.reads d.may_hold d.faults c.args.disk.now c.arm.new.self c.row_at.new.disk c.arm.ensures c.row_at.ensures.disk;
      size = same_size d.size d.keeps d.reads d.may_hold d.faults c.args.disk.now c.arm.new.self c.row_at.new.disk c.arm.ensures c.row_at.ensures.disk;
      fault = λ e. absurd (cc e);
    }

pub returns-in-Err-Home : goal.returns-in-Err-Home
returns-in-Err-Home g c =
    let d = g.D.Disk in
    record {
      row = tt;
      too_old = λ v e. tt;
      pages = subst (λ (t : Told). OnlyReadsIn t c.args.pages.now c.row_at.new.self) (armed_told d.keeps d.reads c.args.disk.now c.arm.new.self c.arm.ensures c.requires.home.modelled) c.row_at.ensures.reads;
      disk = shown_same d.size d.keeps d.reads d.may_hold d.faults c.args.disk.now c.arm.new.self c.row_at.new.disk c.arm.ensures c.row_at.ensures.disk;
      later = read_later d.size d.keeps d.reads d.may_hold d.faults c.args.disk.now c.arm.new.self c.row_at.new.disk c.arm.ensures c.row_at.ensures.disk;
      size = same_size d.size d.keeps d.reads d.may_hold d.faults c.args.disk.now c.arm.new.self c.row_at.new.disk c.arm.ensures c.row_at.ensures.disk;
      fault = λ e. read_risen d.size d.keeps d.reads d.may_hold d.faults c.args.disk.now c.arm.new.self c.row_at.new.disk c.arm.ensures c.row_at.ensures.disk (sym c.why.ensures ∙ c.fault_of_read.ensures (gave c.fault_of_read.result e));
    }

pub returns-in-Err-NoMemory : goal.returns-in-Err-NoMemory
returns-in-Err-NoMemory g c =
    let d = g.D.Disk in
    record {
      row = tt;
      too_old = λ v e. tt;
      pages = subst (λ (t : Told). OnlyReadsIn t c.args.pages.now c.row_at.new.self) (armed_told d.keeps d.reads c.args.disk.now c.arm.new.self c.arm.ensures c.requires.home.modelled) c.row_at.ensures.reads;
      disk = shown_same d.size d.keeps d.reads d.may_hold d.faults c.args.disk.now c.arm.new.self c.row_at.new.disk c.arm.ensures c.row_at.ensures.disk;
      later = read_later d.size d.keeps d.reads d.may_hold d.faults c.args.disk.now c.arm.new.self c.row_at.new.disk c.arm.ensures c.row_at.ensures.disk;
      size = same_size d.size d.keeps d.reads d.may_hold d.faults c.args.disk.now c.arm.new.self c.row_at.new.disk c.arm.ensures c.row_at.ensures.disk;
      fault = λ e. absurd (cc e);
    }
