-- What memory has of one page and of one stripe, as the rules of a replica see it.
use Rattle.std.specs.Prelude.{ℕ, min, false, List, map, Option, Some, None}
use Rattle.ag_rules.specs.Replica.{Page, Stripe}
use Rattle.ag_pool.specs.declared.frame.Frame.{Frame}
use Rattle.ag_pool.specs.declared.frame.Held.{Held}
use Rattle.ag_pool.specs.declared.frame.StripeLsns.{StripeLsns}

-- a frame with nothing in it
abbrev pub empty_frame : Frame
empty_frame = record { value = None; dirty = false; pending = false; held = None; came = false }

-- the LSN of a held page
abbrev pub held_lsn : Option Held → Option ℕ
held_lsn None = None
held_lsn (Some h) = Some h.lsn

-- how a page stands, by its frame
abbrev pub mark_of : Frame → Page
mark_of f = record { dirty = f.dirty; pending = f.pending; held = held_lsn f.held; came = f.came }

-- how each page stands
abbrev pub marks_of : List Frame → List Page
marks_of frames = map mark_of frames

-- the LSNs of a stripe
abbrev pub stripe_of : StripeLsns → Stripe
stripe_of s = record { applied = s.applied; published = s.published }

-- a frame whose held page was let go
abbrev pub released : Frame → Frame
released f = record f { held = None }

-- a frame of a page that didn't come
abbrev pub not_come : Frame → Frame
not_come f = record f { came = false }

-- nothing is left in a frame
abbrev pub forgotten : Frame → Frame
forgotten f = empty_frame

-- the LSNs of a stripe, lowered to at most this one
abbrev pub lowered_lsns : ℕ → StripeLsns → StripeLsns
lowered_lsns lsn s = record { applied = min s.applied lsn; published = min s.published lsn }

-- both LSNs of a stripe at one
abbrev pub at_lsn : ℕ → StripeLsns → StripeLsns
at_lsn lsn s = record { applied = lsn; published = lsn }
