-- The nodes of a group, as the replicas that they are and the counts of faults of their disks.
use Rattle.std.proofs.Common.{◌≡◌, ℕ, zero, suc, ◌<◌, List, [], ◌∷◌, length, get_or, set, refl, sym, ap, ◌∙◌, subst, arith}
use Rattle.std.specs.Prelude.{Option}
use Rattle.std.specs.List.{AllByRecursion}
use Rattle.std.proofs.Math.ListN.{get_or-map}
use Rattle.std.proofs.lemmas.List.{get_or-map as get_or-map_at}
use Rattle.std.proofs.lemmas.List.{map-set, length-map, length-set, get_or-set_same}
use Rattle.ag_model.specs.declared.config.Config.{Config}
use Rattle.ag_model.specs.declared.config.Register.{Register}
use Rattle.ag_model.specs.declared.config.Token.{Token}
use Rattle.ag_model.specs.declared.message.Message.{Message}
use Rattle.ag_outside.specs.Counts.{HasRisen}
use Rattle.ag_rules.specs.Replica.{Replica}
use Rattle.ag_node.specs.Seen.{NodeView}
use Rattle.ag_node.specs.declared.fault.NodeFault.{NodeFault}
use Rattle.ag_node.specs.declared.fault.NodeFault.TheVariants as Node
use Rattle.ag_group.specs.declared.fault.StepFault.{StepFault}
use Rattle.ag_group.specs.declared.fault.StepFault.TheVariants.{NoMemory, DiskFault, Unlawful}
use Rattle.ag_group.specs.Faults.{fault_of, IsCounted, IsLawful}
use Rattle.ag_group.specs.Groups.{IsGroup}
use Rattle.ag_group.specs.Seen.{replicas_of, faults_of, group_of}
use Rattle.ag_group.proofs.Runs.{every_at}

pub count_is : (nodes : List NodeView) → length (replicas_of nodes) ≡ length nodes
count_is nodes = length-map nodes (λ (x : NodeView). x.replica)

-- the replica of a node that was found
pub node_read : (nodes : List NodeView) (n : ℕ) (node : NodeView) → node ≡ get_or nodes n node → node.replica ≡ get_or (replicas_of nodes) n node.replica
node_read nodes n node is = ap (λ (x : NodeView). x.replica) is ∙ sym (get_or-map (λ (x : NodeView). x.replica) nodes n node)

-- the group with another node
pub with_node : (c : Config) (nodes : List NodeView) (links : List (List (List Message))) (register : Register) (tokens : List (Option Token)) (n : ℕ) (new : NodeView)
    → group_of c (set nodes n new) links register tokens ≡ record (group_of c nodes links register tokens) { replicas = set (replicas_of nodes) n new.replica }
with_node c nodes links register tokens n new = ap (λ (rs : List Replica). record { config = c; replicas = rs; links = links; register = register; tokens = tokens }) (map-set (λ (x : NodeView). x.replica) nodes n new)

pub replicas_with : (nodes : List NodeView) (n : ℕ) (new : NodeView) → replicas_of (set nodes n new) ≡ set (replicas_of nodes) n new.replica
replicas_with nodes n new = map-set (λ (x : NodeView). x.replica) nodes n new

-- what a fault of a node tells of the group
pub names_disk : (n k : ℕ) (e : NodeFault) → fault_of n e ≡ DiskFault k → (e ≡ Node.DiskFault) × (k ≡ n)
names_disk n k Node.DiskFault is = let f : DiskFault n ≡ DiskFault k = is in (refl, cc)
names_disk n k Node.NoMemory is = let f : NoMemory ≡ DiskFault k = is in absurd (cc)

pub node_lawful : (n : ℕ) (e : NodeFault) → IsLawful (fault_of n e)
node_lawful n Node.DiskFault k is = let f : DiskFault n ≡ Unlawful k = is in absurd (cc)
node_lawful n Node.NoMemory k is = let f : NoMemory ≡ Unlawful k = is in absurd (cc)

pub memory_counted : (e : StepFault) (before now : List ℕ) → e ≡ NoMemory → IsCounted e before now
memory_counted e before now is k names = let f : NoMemory ≡ DiskFault k = sym is ∙ names in absurd (cc)

pub memory_lawful : (e : StepFault) → e ≡ NoMemory → IsLawful e
memory_lawful e is k names = let f : NoMemory ≡ Unlawful k = sym is ∙ names in absurd (cc)

-- where a node fails by its disk, the count of that disk has risen
pub counted : (before : List ℕ) (nodes : List NodeView) (n n' : ℕ) (old new : NodeView) (e : NodeFault) (told : StepFault) → n < length (replicas_of nodes) → n' ≡ n → old ≡ get_or nodes n' old → faults_of nodes ≡ before
    → told ≡ fault_of n e → (e ≡ Node.DiskFault → HasRisen old.faults new.faults) → IsCounted told before (faults_of (set nodes n' new))
counted before nodes n n' old new e told within at found same is risen k names =
    let disk : (e ≡ Node.DiskFault) × (k ≡ n) = names_disk n k e (sym is ∙ names) in
    let place : k ≡ n' = disk.1 ∙ sym at in
    let few : n' < length nodes = omega (arith, within, at, length-map nodes (λ (x : NodeView). x.replica)) in
    let was : old.faults ≡ get_or before k 0 =
    ap (λ (x : NodeView). x.faults) (found ∙ ap (λ (i : ℕ). get_or nodes i old) (sym place)) ∙ sym (get_or-map_at (λ (x : NodeView). x.faults) nodes k old 0 (subst (λ (i : ℕ). i < length nodes) (sym place) few)) ∙ ap (λ (fs : List ℕ). get_or fs k 0) same in
    let is_now : new.faults ≡ get_or (faults_of (set nodes n' new)) k 0 =
    sym (get_or-set_same (faults_of nodes) n' new.faults 0 (omega (arith, few, length-map nodes (λ (x : NodeView). x.faults))))
    ∙ ap (λ (i : ℕ). get_or (set (faults_of nodes) n' new.faults) i 0) (sym place)
    ∙ ap (λ (fs : List ℕ). get_or fs k 0) (sym (map-set (λ (x : NodeView). x.faults) nodes n' new)) in
    subst (λ (b : ℕ). HasRisen b (get_or (faults_of (set nodes n' new)) k 0)) was (subst (λ (b : ℕ). HasRisen old.faults b) is_now (risen disk.0))

-- what holds of each node holds of each once another one that meets it is in the place of one
pub all_with : {X : Type 0} (P : X → Type 0) (xs : List X) (n : ℕ) (x : X) → AllByRecursion P xs → P x → AllByRecursion P (set xs n x)
all_with P [] n x all here = tt
all_with P (y ∷ ys) zero x all here = (here, all.1)
all_with P (y ∷ ys) (suc n) x all here = (all.0, all_with P ys n x all.1 here)

module _ (c : Config) (nodes : List NodeView) (links : List (List (List Message))) (register : Register) (sessions : ℕ) (g : IsGroup c nodes links register sessions) (n : ℕ) (old : NodeView) (within : n < length nodes) (found : old ≡ get_or nodes n old) where
  -- a node of a group has the pages of the config
  pub pages_at : length old.replica.pages ≡ c.pages
  pages_at = ap (λ (x : NodeView). length x.replica.pages) found ∙ every_at (λ (x : NodeView). length x.replica.pages ≡ c.pages) nodes n old g.pages within

  -- a group of which one node is another one with as many pages
  pub group_with : (new : NodeView) → length new.replica.pages ≡ length old.replica.pages → IsGroup c (set nodes n new) links register sessions
  group_with new same = record {
    settings = g.settings;
    each = length-set nodes n new ∙ g.each;
    pages = all_with (λ (x : NodeView). length x.replica.pages ≡ c.pages) nodes n new g.pages (same ∙ pages_at);
    rows = g.rows;
    columns = g.columns;
    primary = g.primary;
    term = g.term;
    tokens = g.tokens;
  }
