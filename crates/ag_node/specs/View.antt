-- What a node is, as a replica of the rules.
use Rattle.std.specs.Prelude.{ℕ, List, [], ◌∷◌, map, Bool, false, if◌then◌else◌}
use Rattle.ag_node.specs.Homes.{Home}
use Rattle.ag_rules.specs.Replica.{Replica, Kept, Leading, Page, Stripe, all_at, clean_page, no_following}

-- the disk of a node
abbrev pub kept_of : Home → Kept
kept_of h = record {
  log = h.log;
  master = record { term = 1; state = 0; incarnation = h.activity.incarnation; redo_start = h.redo; undo = 0; foreign = [] };
  suspects = [];
  images = h.cells;
}

-- what memory knows of a page that is dirty or clean, and nothing else
abbrev pub page_of_flag : Bool → Page
page_of_flag dirty = record clean_page { dirty = dirty }

-- stripes that were redone to these LSNs, and have published those
abbrev pub stripes_of : List ℕ → List ℕ → List Stripe
stripes_of [] published = []
stripes_of (a ∷ others) [] = []
stripes_of (a ∷ others) (p ∷ ps) = record { applied = a; published = p } ∷ stripes_of others ps

-- the stripes of a node that has published these LSNs: while it is down they stand at the redo start
abbrev pub stripes_in : Home → List ℕ → List Stripe
stripes_in h published = if h.activity.up then stripes_of h.applied published else all_at h.redo

-- the state of a node that follows, or doesn't
abbrev pub state_of : Bool → ℕ
state_of follows = if follows then 1 else 0

-- a node in the first term
abbrev pub node_of : Home → List Stripe → Leading → Replica
node_of h stripes leading = record {
  up = h.activity.up;
  cut_off = false;
  leads = h.activity.leads;
  term = 1;
  state = state_of h.activity.follows;
  kept = kept_of h;
  pages = map page_of_flag h.dirty;
  stripes = stripes;
  following = no_following;
  leading = leading;
}
