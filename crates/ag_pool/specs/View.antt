-- A pool as its contracts see it.
use Rattle.std.specs.Prelude.{◌≡◌, ℕ, ◌+◌, ◌-◌, ◌≤◌, List, length, get_or, set, map, Bool, ◌&&◌, nat_le, nat_lt}
use Rattle.ag_rules.specs.Replica.{Stripe, no_stripe}
use Rattle.ag_pool.specs.declared.frame.Frame.{Frame}
use Rattle.ag_pool.specs.Frames.{empty_frame}

-- the number of data pages, the frame of each, rising from page 16, and the LSNs of each stripe
pub record PoolView : Type 0 where
  pub pages : ℕ
  pub frames : List Frame
  pub stripes : List Stripe

-- there is a frame for each page, and 16 stripes
pub record IsPool (v : PoolView) : Type 0 where
  pub low : 16 ≤ v.pages
  pub high : v.pages ≤ 2048
  pub frames : length v.frames ≡ v.pages
  pub stripes : length v.stripes ≡ 16

-- whether a page is a data page of the pool
abbrev pub is_page : PoolView → ℕ → Bool
is_page v page = nat_le 16 page && nat_lt page (16 + v.pages)

-- the frame of a page
abbrev pub frame : PoolView → ℕ → Frame
frame v page = get_or v.frames (page - 16) empty_frame

-- the pool with another frame of a page
abbrev pub with_frame : PoolView → ℕ → Frame → PoolView
with_frame v page f = record { pages = v.pages; frames = set v.frames (page - 16) f; stripes = v.stripes }

-- the pool with each frame as this makes it
abbrev pub each_frame : (Frame → Frame) → PoolView → PoolView
each_frame f v = record { pages = v.pages; frames = map f v.frames; stripes = v.stripes }

-- the LSNs of a stripe
abbrev pub stripe_at : PoolView → ℕ → Stripe
stripe_at v x = get_or v.stripes x no_stripe

-- the pool with other LSNs of its stripes
abbrev pub with_stripes : PoolView → List Stripe → PoolView
with_stripes v stripes = record { pages = v.pages; frames = v.frames; stripes = stripes }
