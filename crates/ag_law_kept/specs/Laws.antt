-- What the law of kept commits rests on, said of each moment of a run.
use Rattle.std.specs.Prelude.{◌≡◌, ℕ, ◌≤◌, List, true, false}
use Rattle.std.specs.List.{AllByRecursion}
use Rattle.ag_rules.specs.Replica.{end, peer, is_reverting}
use Rattle.ag_rules.specs.Group.{Group, replica, has}
use Rattle.ag_rules.specs.Run.{Moment}

-- no member of the store's set reverts
abbrev pub NoMemberReverts : Group → Type 0
NoMemberReverts g = (n : ℕ) → has g.register.synced n ≡ true → is_reverting (replica g n).state ≡ false

-- what a primary knows of a replica's hardened log, that replica has while it is in the primary's term
abbrev pub PeersAreKnown : Group → Type 0
PeersAreKnown g = (n m : ℕ) → (replica g n).leads ≡ true → (replica g m).term ≡ (replica g n).term → (peer (replica g n) m).hardened ≤ end (replica g m)

-- of the groups before and after each event
abbrev pub AtEach : (Group → Type 0) → List Moment → Type 0
AtEach P ms = AllByRecursion (λ m. P m.before × P m.after) ms

-- the law of members: at each moment
abbrev pub MembersLaw : List Moment → Type 0
MembersLaw ms = AtEach NoMemberReverts ms

-- the law of peers: at each moment
abbrev pub PeersLaw : List Moment → Type 0
PeersLaw ms = AtEach PeersAreKnown ms
