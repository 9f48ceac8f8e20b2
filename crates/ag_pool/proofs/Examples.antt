-- Worked examples: page 21 of a pool with 16 data pages, record by record.
use Rattle.std.proofs.Common.{◌≡◌, true, false, List, [], ◌∷◌, replicate, refl}
use Rattle.std.specs.Prelude.{Some, None}
use Rattle.ag_model.specs.declared.record.Record.{Record}
use Rattle.ag_model.specs.declared.record.Record.TheVariants.{Put, Commit}
use Rattle.ag_model.specs.declared.value.Change.TheVariants.{Put as PutChange}
use Rattle.ag_model.specs.declared.value.PageValue.{PageValue}
use Rattle.ag_model.specs.declared.value.Value.{Value}
use Rattle.ag_stripe.specs.Known.{empty_page}
use Rattle.ag_stripe.specs.Redo.{redone}
use Rattle.ag_pool.specs.declared.frame.Frame.{Frame}
use Rattle.ag_pool.specs.Frames.{empty_frame}
use Rattle.ag_pool.specs.Redo.{numbered_after, redone_by, redone_page, redone_stripe}
use Rattle.ag_pool.specs.View.{PoolView, with_frame, frame, stripe_at}

-- a value of one byte
abbrev aa : Value
aa = record { len = 1; bytes = 0xaa ∷ replicate 63 0 }

-- key 5, which stands on page 21, is put at LSN 2 and committed at LSN 3
abbrev records : List Record
records = Put 1 5 aa ∷ Commit 1 (21 ∷ []) ∷ []

-- a frame with this page
abbrev with_value : PageValue → Frame
with_value v = record { value = Some v; dirty = false; pending = false; held = None; came = false }

-- page 21 after the Commit: one version, committed at LSN 3
abbrev after : PageValue
after = record { page = 21; lsn = 3; horizon = 0; versions = record { lsn = 2; txn = 1; commit = 3; key = 5; change = PutChange aa } ∷ [] }

-- the empty page takes both records, and is dirty
both : redone_by 16 21 (numbered_after 1 records) (with_value (empty_page 21)) ≡ record { value = Some after; dirty = true; pending = false; held = None; came = false }
unfolding redone
both = refl

-- a page that wasn't read in stays so, and clean
not_read : redone_by 16 21 (numbered_after 1 records) empty_frame ≡ empty_frame
not_read = refl

-- a page that has both records already keeps its value, and is dirty
again : redone_by 16 21 (numbered_after 1 records) (with_value after) ≡ record { value = Some after; dirty = true; pending = false; held = None; came = false }
unfolding redone
again = refl

-- page 22 takes neither
elsewhere : redone_by 16 22 (numbered_after 1 records) (with_value (empty_page 22)) ≡ with_value (empty_page 22)
elsewhere = refl

-- stripe 5 redoes page 21, and stripe 6 leaves it
its_stripe : redone_page 5 16 1 records 21 (with_value after) ≡ redone_by 16 21 (numbered_after 1 records) (with_value after)
its_stripe = refl

other_stripe : redone_page 6 16 1 records 21 (with_value (empty_page 21)) ≡ with_value (empty_page 21)
other_stripe = refl

-- 16 frames and 16 stripes at LSN 1, where page 21 is the empty one
abbrev pool : PoolView
pool = with_frame (record { pages = 16; frames = replicate 16 empty_frame; stripes = replicate 16 (record { applied = 1; published = 1 }) }) 21 (with_value (empty_page 21))

-- after redo stripe 5 stands at LSN 3, and the others where they stood
lsns : (stripe_at (redone_stripe 5 records pool) 5 ≡ record { applied = 3; published = 1 }) × (stripe_at (redone_stripe 5 records pool) 6 ≡ record { applied = 1; published = 1 })
lsns = (refl, refl)

frames : (frame (redone_stripe 5 records pool) 21 ≡ redone_by 16 21 (numbered_after 1 records) (with_value (empty_page 21))) × (frame (redone_stripe 5 records pool) 22 ≡ empty_frame)
frames = (refl, refl)
