use Rattle.std.proofs.Common.{sym, ◌∙◌, subst}
use Rattle.ag_outside.specs.Shown.{reads_of}
use Rattle.ag_model.specs.declared.value.PageValue.{PageValue}
use Rattle.ag_stripe.specs.Known.{Told, Says}
use Rattle.ag_stripe.specs.Known.Known.{Value}
use Rattle.ag_kept.specs.declared.fault.KeptFault.TheVariants.{DiskFault}
use Rattle.ag_pages.specs.Reading.{OnlyReadsIn}
use Rattle.ag_pages.specs.Views.{known_of}
use Rattle.ag_store.specs.Standing.{told_on}
use Rattle.ag_store.proofs.Asking.{armed_told, value_when}
use Rattle.ag_store.proofs.Redone.{fault-in, shown_same, same_size, read_later, read_risen}
use Rattle.ag_store.proofs.reading.value_by.Goals as goal

pub returns-in-Ok : goal.returns-in-Ok
returns-in-Ok g c =
    let d = g.D.Disk in
    record {
      value = value_when (known_of (told_on (reads_of d.reads c.args.disk.now)) c.args.pages.now c.args.page) c.in-Ok.value c.requires.known (subst (λ (t : Told). Says (known_of t c.args.pages.now c.args.page) (Value c.in-Ok.value)) (armed_told d.keeps d.reads c.args.disk.now c.arm.new.self c.arm.ensures c.requires.home.modelled) c.in-Ok.ensures.value);
      pages = subst (λ (t : Told). OnlyReadsIn t c.args.pages.now c.value_of.new.self) (armed_told d.keeps d.reads c.args.disk.now c.arm.new.self c.arm.ensures c.requires.home.modelled) c.value_of.ensures.reads;
      disk = shown_same d.size d.keeps d.reads d.may_hold d.faults c.args.disk.now c.arm.new.self c.value_of.new.disk c.arm.ensures c.value_of.ensures.disk;
      later = read_later d.size d.keeps d.reads d.may_hold d.faults c.args.disk.now c.arm.new.self c.value_of.new.disk c.arm.ensures c.value_of.ensures.disk;
      size = same_size d.size d.keeps d.reads d.may_hold d.faults c.args.disk.now c.arm.new.self c.value_of.new.disk c.arm.ensures c.value_of.ensures.disk;
      fault = λ e. absurd (cc e);
    }

pub returns-in-Err-Home : goal.returns-in-Err-Home
returns-in-Err-Home g c =
    let d = g.D.Disk in
    record {
      value = tt;
      pages = subst (λ (t : Told). OnlyReadsIn t c.args.pages.now c.value_of.new.self) (armed_told d.keeps d.reads c.args.disk.now c.arm.new.self c.arm.ensures c.requires.home.modelled) c.value_of.ensures.reads;
      disk = shown_same d.size d.keeps d.reads d.may_hold d.faults c.args.disk.now c.arm.new.self c.value_of.new.disk c.arm.ensures c.value_of.ensures.disk;
      later = read_later d.size d.keeps d.reads d.may_hold d.faults c.args.disk.now c.arm.new.self c.value_of.new.disk c.arm.ensures c.value_of.ensures.disk;
      size = same_size d.size d.keeps d.reads d.may_hold d.faults c.args.disk.now c.arm.new.self c.value_of.new.disk c.arm.ensures c.value_of.ensures.disk;
      fault = λ e. read_risen d.size d.keeps d.reads d.may_hold d.faults c.args.disk.now c.arm.new.self c.value_of.new.disk c.arm.ensures c.value_of.ensures.disk (sym c.why.ensures ∙ c.fault_of_read.ensures (fault-in {T = PageValue} c.fault_of_read.result DiskFault e));
    }

pub returns-in-Err-NoMemory : goal.returns-in-Err-NoMemory
returns-in-Err-NoMemory g c =
    let d = g.D.Disk in
    record {
      value = tt;
      pages = subst (λ (t : Told). OnlyReadsIn t c.args.pages.now c.value_of.new.self) (armed_told d.keeps d.reads c.args.disk.now c.arm.new.self c.arm.ensures c.requires.home.modelled) c.value_of.ensures.reads;
      disk = shown_same d.size d.keeps d.reads d.may_hold d.faults c.args.disk.now c.arm.new.self c.value_of.new.disk c.arm.ensures c.value_of.ensures.disk;
      later = read_later d.size d.keeps d.reads d.may_hold d.faults c.args.disk.now c.arm.new.self c.value_of.new.disk c.arm.ensures c.value_of.ensures.disk;
      size = same_size d.size d.keeps d.reads d.may_hold d.faults c.args.disk.now c.arm.new.self c.value_of.new.disk c.arm.ensures c.value_of.ensures.disk;
      fault = λ e. absurd (cc e);
    }
