-- From a replica's part to the group: once for all events, and for each way to cut them short.
use Rattle.std.proofs.Common.{◌≡◌, ◌≢◌, ℕ, ◌<◌, List, [], ◌∷◌, ◌++◌, length, set, get_or, inl, inr, refl, sym, ap, ◌∙◌, subst, length-set, get_or-set_same}
use Rattle.std.specs.Prelude.{◌⊎◌, ◌==◌, Bool, true, false}
use Rattle.std.proofs.lemmas.Bool.{eqb-true, eqb-false}
use Rattle.std.specs.List.{AllByRecursion}
use Rattle.std.proofs.lemmas.List.{get_or-set_other}
use Rattle.ag_model.specs.declared.message.Message.{Message}
use Rattle.ag_model.specs.declared.event.Suffix.{Suffix}
use Rattle.ag_rules.specs.Replica.{Replica, Kept, fallen}
use Rattle.ag_rules.specs.Group.{Group, replica, with_replica, link, with_link, nobody}
use Rattle.ag_rules.specs.Plan.{Part, Posting, posted, at_node}
use Rattle.ag_rules.specs.Cut.{cut}
use Rattle.ag_rules.specs.Next.{at_session}
use Rattle.ag_lists.proofs.Places.{at_set}
use Rattle.ag_lists.proofs.Each.{all_map, all_append}
use Rattle.ag_laws.specs.Logs.{Logs}
use Rattle.ag_laws.proofs.Groups.{replicas_posted, config_posted}
use Rattle.ag_laws.proofs.Cuts.{cut_has, stop_has, fail_has}
use Rattle.ag_laws.proofs.Disks.{SameCore}
use Rattle.ag_law_proper.specs.Growth.{Told, LogGoes, LeadGoes, Follows, Posts}
use Rattle.ag_law_proper.proofs.Parts.{PartGoes, lead_same}

-- what is known of each message in flight
abbrev pub AllTold : Told → Group → Type 0
AllTold told g = (a b : ℕ) → AllByRecursion told (link g a b)

-- what one event makes of the group: one replica writes, and the disks of the others stand
pub record GroupGoes (logs : Logs) (told : Told) (g after : Group) : Type 0 where
  pub writer : ℕ
  pub log : LogGoes logs told g.config.pages (replica g writer) (replica after writer).kept.log
  pub others : (m : ℕ) → m ≢ writer → (replica after m).kept ≡ (replica g m).kept
  pub leads : (m : ℕ) → LeadGoes g.config.pages (replica g m) (replica after m)
  pub links : (a b : ℕ) → AllByRecursion (λ m. told m ⊎ Posts told (replica g a) m) (link after a b)
  pub config : after.config ≡ g.config
  pub count : length after.replicas ≡ length g.replicas

-- the group as the first write of replica n finds it
pub record Based (told : Told) (g base : Group) (n : ℕ) : Type 0 where
  pub here : replica base n ≡ replica g n
  pub kept : (m : ℕ) → m ≢ n → (replica base m).kept ≡ (replica g m).kept
  pub leads : (m : ℕ) → m ≢ n → LeadGoes g.config.pages (replica g m) (replica base m)
  pub links : AllTold told base
  pub there : n < length base.replicas
  pub config : base.config ≡ g.config
  pub count : length base.replicas ≡ length g.replicas

-- the group itself
pub based_same : (told : Told) (g : Group) (n : ℕ) → AllTold told g → n < length g.replicas → Based told g g n
based_same told g n links there = record { here = refl; kept = λ m _. refl; leads = λ m _. lead_same g.config.pages (replica g m) (replica g m) refl refl; links = links; there = there; config = refl; count = refl }

-- one link is set
pub link_set : (Q : ℕ → Message → Type 0) (g : Group) (n m : ℕ) (ms : List Message) → ((a b : ℕ) → AllByRecursion (Q a) (link g a b)) → AllByRecursion (Q n) ms → (a b : ℕ) → AllByRecursion (Q a) (link (with_link g n m ms) a b)
link_set Q g n m ms old new =
    at_set (λ a (row : List (List Message)). (b : ℕ) → AllByRecursion (Q a) (get_or row b [])) g.links [] n (set (get_or g.links n []) m ms) old
    (at_set (λ b (l : List Message). AllByRecursion (Q n) l) (get_or g.links n []) [] m ms (old n) new)

posted_links : (Q : ℕ → Message → Type 0) (n : ℕ) (ps : List Posting) (g : Group) → ((a b : ℕ) → AllByRecursion (Q a) (link g a b)) → AllByRecursion (λ p. Q n p.message) ps → (a b : ℕ) → AllByRecursion (Q a) (link (posted n ps g) a b)
posted_links Q n [] g old new = old
posted_links Q n (p ∷ ps) g old new =
    posted_links Q n ps (with_link g n p.to (link g n p.to ++ p.message ∷ []))
    (link_set Q g n p.to (link g n p.to ++ p.message ∷ []) old (all_append (Q n) (link g n p.to) (p.message ∷ []) (old n p.to) (new.0, tt))) new.1

-- replica n is set
placed : (logs : Logs) (told : Told) (g base after : Group) (n : ℕ) (r : Replica) → Based told g base n → after.replicas ≡ set base.replicas n r → after.config ≡ base.config → LogGoes logs told g.config.pages (replica base n) r.kept.log → LeadGoes g.config.pages (replica base n) r
    → ((a b : ℕ) → AllByRecursion (λ m. told m ⊎ Posts told (replica g a) m) (link after a b)) → GroupGoes logs told g after
placed logs told g base after n r based is config log lead links =
    let here : replica after n ≡ r = ap (λ (xs : List Replica). get_or xs n nobody) is ∙ get_or-set_same base.replicas n r nobody based.there in
    let other : (m : ℕ) → m ≢ n → replica after m ≡ replica base m = λ m p. ap (λ (xs : List Replica). get_or xs m nobody) is ∙ get_or-set_other base.replicas n m r nobody p in
    record {
      writer = n;
      log = subst (λ (x : Replica). LogGoes logs told g.config.pages (replica g n) x.kept.log) (sym here) (subst (λ (x : Replica). LogGoes logs told g.config.pages x r.kept.log) based.here log);
      others = λ m p. ap (λ (x : Replica). x.kept) (other m p) ∙ based.kept m p;
      leads = λ m. by_number m (m == n) refl here other;
      links = links;
      config = config ∙ based.config;
      count = ap length is ∙ length-set base.replicas n r ∙ based.count;
    }
  where
    by_number : (m : ℕ) (t : Bool) → (m == n) ≡ t → replica after n ≡ r → ((m : ℕ) → m ≢ n → replica after m ≡ replica base m) → LeadGoes g.config.pages (replica g m) (replica after m)
    by_number m true e here other =
        let same : n ≡ m = sym (eqb-true m n e) in
        subst (λ (i : ℕ). LeadGoes g.config.pages (replica g i) (replica after i)) same
        (subst (LeadGoes g.config.pages (replica g n)) (sym here) (subst (λ (x : Replica). LeadGoes g.config.pages x r) based.here lead))
    by_number m false e here other =
        let p : m ≢ n = eqb-false m n e in
        subst (LeadGoes g.config.pages (replica g m)) (sym (other m p)) (based.leads m p)

-- old messages
old_links : (told : Told) (g base : Group) (a b : ℕ) → AllTold told base → AllByRecursion (λ m. told m ⊎ Posts told (replica g a) m) (link base a b)
old_links told g base a b all = all_map told (λ m. told m ⊎ Posts told (replica g a) m) (λ m p. inl p) (link base a b) (all a b)

-- replica n goes down with what its disk has
fallen_goes : (logs : Logs) (told : Told) (g base : Group) (n : ℕ) (k : Kept) → Based told g base n → LogGoes logs told g.config.pages (replica base n) k.log → GroupGoes logs told g (with_replica base n (fallen (replica base n) k))
fallen_goes logs told g base n k based log = placed logs told g base (with_replica base n (fallen (replica base n) k)) n (fallen (replica base n) k) based refl refl log (Follows refl) (λ a b. old_links told g base a b based.links)

-- the event whole
whole_goes : (logs : Logs) (told : Told) (g base : Group) (n : ℕ) (part : Part) → Based told g base n → PartGoes logs told g.config.pages (replica base n) part → GroupGoes logs told g (at_node base n part).after
whole_goes logs told g base n part based p =
    placed logs told g base (posted n part.out (with_replica base n part.after)) n part.after based (replicas_posted n part.out (with_replica base n part.after)) (config_posted n part.out (with_replica base n part.after)) p.log p.lead
    (posted_links (λ a m. told m ⊎ Posts told (replica g a) m) n part.out (with_replica base n part.after) (λ a b. old_links told g base a b based.links)
    (all_map (λ (q : Posting). Posts told (replica base n) q.message) (λ (q : Posting). told q.message ⊎ Posts told (replica g n) q.message) (λ q x. inr (subst (λ (y : Replica). Posts told y q.message) based.here x)) part.out p.out))

-- disks with the same log
log_core : (logs : Logs) (told : Told) (pages : ℕ) (r : Replica) (k j : Kept) → SameCore k j → LogGoes logs told pages r k.log → LogGoes logs told pages r j.log
log_core logs told pages r k j c p = subst (LogGoes logs told pages r) c.log p

-- an event of replica n, cut short anywhere
pub cut_goes : (logs : Logs) (told : Told) (g base : Group) (n : ℕ) (part : Part) (suffix : Suffix) → Based told g base n → PartGoes logs told g.config.pages (replica base n) part → GroupGoes logs told g (cut suffix (at_node base n part)).after
cut_goes logs told g base n part suffix based p =
    let r : Replica = replica base n in
    cut_has (λ q. GroupGoes logs told g q.after) suffix (at_node base n part)
    (λ w mask. fallen_goes logs told g base n _ based (stop_has (λ (k : Kept). LogGoes logs told g.config.pages r k.log) (log_core logs told g.config.pages r) mask w r.kept part.writes p.batches p.writes))
    (λ c. fallen_goes logs told g base n _ based (fail_has (λ (k : Kept). LogGoes logs told g.config.pages r k.log) c r.kept part.writes p.writes))
    (whole_goes logs told g base n part based p)

-- a session's event, cut short anywhere
pub session_goes : (logs : Logs) (told : Told) (g : Group) (n x : ℕ) (part : Part) (suffix : Suffix) → Based told g g n → PartGoes logs told g.config.pages (replica g n) part → GroupGoes logs told g (cut suffix (at_session g n x part)).after
session_goes logs told g n x part suffix based p =
    let r : Replica = replica g n in
    let w : GroupGoes logs told g (at_node g n part).after = whole_goes logs told g g n part based p in
    cut_has (λ q. GroupGoes logs told g q.after) suffix (at_session g n x part)
    (λ w mask. fallen_goes logs told g g n _ based (stop_has (λ (k : Kept). LogGoes logs told g.config.pages r k.log) (log_core logs told g.config.pages r) mask w r.kept part.writes p.batches p.writes))
    (λ c. fallen_goes logs told g g n _ based (fail_has (λ (k : Kept). LogGoes logs told g.config.pages r k.log) c r.kept part.writes p.writes))
    (record { writer = w.writer; log = w.log; others = w.others; leads = w.leads; links = w.links; config = w.config; count = w.count })
