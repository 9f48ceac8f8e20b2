-- A group at the opening, from its parts.
use Rattle.std.proofs.Common.{◌≡◌, ℕ, zero, suc, ◌+◌, ◌<◌, List, [], ◌∷◌, ◌++◌, length, take, drop, map, get_or, replicate, Bool, true, false, refl, sym, ap, ◌∙◌, subst, arith}
use Rattle.std.specs.Prelude.{Option, None, ◌==◌}
use Rattle.std.specs.List.{AllByRecursion, drop-map}
use Rattle.std.proofs.lemmas.List.{length-replicate, length-map, length-append, map-append, append_assoc, get_or-map, get_or-drop, drop-drop, length-drop, get_or-append-add, take_more, take_all}
use Rattle.std.proofs.Common.{ne_eqb}
use Rattle.ag_model.specs.declared.config.Config.{Config}
use Rattle.ag_model.specs.declared.config.Mode.{Mode}
use Rattle.ag_model.specs.declared.config.Register.{Register}
use Rattle.ag_model.specs.declared.config.Token.{Token}
use Rattle.ag_model.specs.declared.message.Message.{Message}
use Rattle.ag_rules.specs.Script.{IsConfig}
use Rattle.ag_rules.specs.Replica.{Replica}
use Rattle.ag_rules.specs.Group.{opening_replica, opening_replicas, nobody}
use Rattle.ag_node.specs.Seen.{NodeView}
use Rattle.ag_group.specs.Groups.{IsGroup}
use Rattle.ag_group.specs.Seen.{replicas_of, faults_of}

-- the replicas of the opening by their numbers
nth_of_all : (c : Config) (modes : List Mode) (k : ℕ) (d : Replica) → k < length modes → get_or (opening_replicas c modes) k d ≡ opening_replica c (k == 0)
nth_of_all c [] k d h = absurd (omega (arith, h))
nth_of_all c (m ∷ ms) zero d h = refl
nth_of_all c (m ∷ ms) (suc k) d h = get_or-map (λ (x : Mode). opening_replica c false) ms k m d (omega (arith, h)) ∙ ap (λ (b : Bool). opening_replica c b) (sym (ne_eqb (suc k) 0 (λ e. absurd (omega (arith, e)))))

count_of_all : (c : Config) (modes : List Mode) → length (opening_replicas c modes) ≡ length modes
count_of_all c [] = refl
count_of_all c (m ∷ ms) = omega (arith, length-map ms (λ (x : Mode). opening_replica c false))

pub count_more : (before after : List NodeView) (r : Replica) → replicas_of after ≡ replicas_of before ++ r ∷ [] → length after ≡ length before + 1
count_more before after r push =
    sym (length-map after (λ (x : NodeView). x.replica)) ∙ ap length push ∙ length-append (replicas_of before) (r ∷ []) ∙ ap (λ (n : ℕ). n + 1) (length-map before (λ (x : NodeView). x.replica))

-- one more node
pub one_more_node : (c : Config) (before after : List NodeView) → length before < length c.modes → replicas_of before ≡ take (length before) (opening_replicas c c.modes)
    → replicas_of after ≡ replicas_of before ++ opening_replica c (length before == 0) ∷ [] → replicas_of after ≡ take (length after) (opening_replicas c c.modes)
one_more_node c before after h is push =
    let k = length before in
    let all = opening_replicas c c.modes in
    let few : k < length all = omega (arith, h, count_of_all c c.modes) in
    push ∙ (λ j. is j ++ sym (nth_of_all c c.modes k nobody h) j ∷ []) ∙ sym (take_more all k nobody few) ∙ ap (λ (n : ℕ). take n all) (sym (count_more before after _ push))

pub all_nodes : (c : Config) (nodes : List NodeView) → length nodes ≡ length c.modes → replicas_of nodes ≡ take (length nodes) (opening_replicas c c.modes) → replicas_of nodes ≡ opening_replicas c c.modes
all_nodes c nodes h is = is ∙ take_all (length nodes) (opening_replicas c c.modes) (omega (arith, h, count_of_all c c.modes))

-- what holds of each holds of each after so many
pub all_dropped : {A : Type 0} (P : A → Type 0) (k : ℕ) (xs : List A) → AllByRecursion P xs → AllByRecursion P (drop k xs)
all_dropped P zero xs h = h
all_dropped P (suc k) [] h = tt
all_dropped P (suc k) (x ∷ xs) h = all_dropped P k xs h.1

-- the next disk is the one of this number
pub next_fault : {A : Type 0} (f : A → ℕ) (k : ℕ) (all left : List A) → left ≡ drop k all → get_or (map f left) 0 0 ≡ get_or (map f all) k 0
next_fault f k all left is =
    ap (λ xs. get_or (map f xs) 0 0) is ∙ ap (λ (ns : List ℕ). get_or ns 0 0) (sym (drop-map f k all)) ∙ get_or-drop k (map f all) 0 0 ∙ ap (λ (n : ℕ). get_or (map f all) n 0) (let e : k + 0 ≡ k = omega arith in e)

-- the disk that failed comes back at the number of its node
pub back_fault : {A : Type 0} (f : A → ℕ) (nodes : List NodeView) (left back : List A) (n : ℕ) → n ≡ length nodes → map f back ≡ faults_of nodes ++ map f left → get_or (map f back) n 0 ≡ get_or (map f left) 0 0
back_fault f nodes left back n at is =
    let place : n ≡ length (faults_of nodes) + 0 = omega (arith, at, length-map nodes (λ (x : NodeView). x.faults)) in
    ap (λ (ns : List ℕ). get_or ns n 0) is ∙ ap (λ (i : ℕ). get_or (faults_of nodes ++ map f left) i 0) place ∙ get_or-append-add (faults_of nodes) (map f left) 0 0

-- a node gives its disk back, in front of the others
pub given_back : {A : Type 0} (f : A → ℕ) (before after : List NodeView) (node : NodeView) (disk : A) (left now : List A) (all : List ℕ) → before ≡ after ++ node ∷ [] → now ≡ disk ∷ left → f disk ≡ node.faults
    → faults_of before ++ map f left ≡ all → faults_of after ++ map f now ≡ all
given_back {A = A} f before after node disk left now all pop push same is =
    ap (λ (xs : List A). faults_of after ++ map f xs) push
    ∙ ap (λ (k : ℕ). faults_of after ++ k ∷ map f left) same
    ∙ sym (append_assoc (faults_of after) (node.faults ∷ []) (map f left))
    ∙ ap (λ (ks : List ℕ). ks ++ map f left) (sym (map-append (λ (x : NodeView). x.faults) after (node ∷ [])) ∙ ap (λ (ns : List NodeView). faults_of ns) (sym pop))
    ∙ is

pub back_count : {A : Type 0} (f : A → ℕ) (nodes : List NodeView) (left back : List A) → map f back ≡ faults_of nodes ++ map f left → length back ≡ length nodes + length left
back_count f nodes left back is =
    let e : length (map f back) ≡ length (faults_of nodes) + length (map f left) = ap length is ∙ length-append (faults_of nodes) (map f left) in
    omega (arith, e, length-map back f, length-map left f, length-map nodes (λ (x : NodeView). x.faults))

pub count_of_faults : (c : Config) (nodes : List NodeView) → replicas_of nodes ≡ opening_replicas c c.modes → length (faults_of nodes) ≡ length c.modes
count_of_faults c nodes is =
    length-map nodes (λ (x : NodeView). x.faults) ∙ sym (length-map nodes (λ (x : NodeView). x.replica)) ∙ ap length is ∙ count_of_all c c.modes

pages_of_one : (c : Config) (leads : Bool) → length (opening_replica c leads).pages ≡ c.pages
unfolding opening_replica
pages_of_one c leads = length-replicate c.pages _

-- these replicas have the pages of the config
abbrev HavePages : Config → List Replica → Type 0
HavePages c rs = AllByRecursion (λ (r : Replica). length r.pages ≡ c.pages) rs

pages_of_rest : (c : Config) (modes : List Mode) → HavePages c (map (λ m. opening_replica c false) modes)
pages_of_rest c [] = tt
pages_of_rest c (m ∷ ms) = (pages_of_one c false, pages_of_rest c ms)

pages_of_all : (c : Config) (modes : List Mode) → HavePages c (opening_replicas c modes)
pages_of_all c [] = tt
pages_of_all c (m ∷ ms) = (pages_of_one c true, pages_of_rest c ms)

pages_of_nodes : (c : Config) (nodes : List NodeView) → HavePages c (replicas_of nodes) → AllByRecursion (λ (node : NodeView). length node.replica.pages ≡ c.pages) nodes
pages_of_nodes c [] h = tt
pages_of_nodes c (n ∷ ns) h = (h.0, pages_of_nodes c ns h.1)

columns_of : (n count : ℕ) → AllByRecursion (λ (row : List (List Message)). length row ≡ count) (replicate n (replicate count []))
columns_of zero count = tt
columns_of (suc n) count = (length-replicate count _, columns_of n count)

pub group_opened : (c : Config) (nodes : List NodeView) (links : List (List (List Message))) (register : Register) (tokens : List (Option Token))
    → IsConfig c → replicas_of nodes ≡ opening_replicas c c.modes → links ≡ replicate (length c.modes) (replicate (length c.modes) []) → tokens ≡ replicate 64 None → register.primary ≡ 0 → register.term ≡ 1 → IsGroup c nodes links register (length tokens)
group_opened c nodes links register tokens config n l t p term = record {
  settings = config;
  each = sym (length-map nodes (λ (x : NodeView). x.replica)) ∙ ap length n ∙ count_of_all c c.modes;
  pages = pages_of_nodes c nodes (subst (λ (x : List Replica). HavePages c x) (sym n) (pages_of_all c c.modes));
  rows = ap length l ∙ length-replicate (length c.modes) _;
  columns = subst (λ (x : List (List (List Message))). AllByRecursion (λ (row : List (List Message)). length row ≡ length c.modes) x) (sym l) (columns_of (length c.modes) (length c.modes));
  primary = omega (arith, p, config.replicas.0);
  tokens = ap length t;
  term = term;
}

-- a test that found something
pub some_left : (count : ℕ) (empty : Bool) → empty ≡ (count == 0) → empty ≡ false → 0 < count
some_left zero empty is full = absurd (let f : true ≡ false = sym is ∙ full in cc)
some_left (suc n) empty is full = omega arith

-- the disks once one more is taken
pub one_disk_less : {A : Type 0} (all left after : List A) (before now : List NodeView) → left ≡ drop (length before) all → after ≡ drop 1 left → length now ≡ length before + 1 → after ≡ drop (length now) all
one_disk_less all left after before now is next more =
    next ∙ ap (λ xs. drop 1 xs) is ∙ drop-drop 1 (length before) all ∙ ap (λ (n : ℕ). drop n all) (sym more)

-- there is a mode for the next disk
pub one_mode_more : {A : Type 0} (all left : List A) (k : ℕ) → left ≡ drop k all → 0 < length left → k < length all
one_mode_more all left k is some = omega (arith, some, ap length is, length-drop k all)
