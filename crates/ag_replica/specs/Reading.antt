-- What a replica is whose pages were read into memory.
use Rattle.std.specs.Prelude.{◌≡◌, ℕ, Bool, Some}
use Rattle.ag_model.specs.declared.value.PageValue.{PageValue}
use Rattle.ag_outside.specs.Disks.{Image}
use Rattle.ag_stripe.specs.Known.{Known}
use Rattle.ag_stripe.specs.Known.Known.{Value}
use Rattle.ag_pool.specs.Frames.{marks_of}
use Rattle.ag_pool.specs.View.{frame}
use Rattle.ag_durable.specs.Fetched.{OnlyFetches}
use Rattle.ag_replica.specs.declared.up.Up.{Up}
use Rattle.ag_replica.specs.Ups.{IsUp}

-- a page has a value
abbrev pub HasValue : Known → Type 0
HasValue k = (v : PageValue) × (k ≡ Value v)

-- more can be written, and memory agrees with the log and the disk, whether or not pages are ahead of their stripes
abbrev pub IsUpSo : {D : Type 0} → (D → Image) → Up D → Type 0
IsUpSo reads u = (ahead : Bool) × IsUp reads ahead u

-- pages were read into memory, and nothing else: how each page stands is as it was, and each value that was there
pub record OnlyReads {D : Type 0} (reads : D → Image) (old new : Up D) : Type 0 where
  pub durable : OnlyFetches reads old.durable new.durable
  pub count : new.pool.pages ≡ old.pool.pages
  pub marks : marks_of new.pool.frames ≡ marks_of old.pool.frames
  pub stripes : new.pool.stripes ≡ old.pool.stripes
  pub values : (page : ℕ) (v : PageValue) → (frame old.pool page).value ≡ Some v → (frame new.pool page).value ≡ Some v
  pub standing : new.standing ≡ old.standing
  pub following : new.following ≡ old.following
  pub leading : new.leading ≡ old.leading
  pub up : (ahead : Bool) → IsUp reads ahead old → IsUp reads ahead new
