-- Events that leave the hardened logs of a group proper.
use Rattle.std.proofs.Common.{◌≡◌, ℕ, ◌<◌, List, [], ◌∷◌, length, get_or, set, Bool, true, false, refl, sym, ap, ◌∙◌, subst}
use Rattle.std.specs.Prelude.{Some, ◌==◌, if◌then◌else◌}
use Rattle.std.proofs.lemmas.List.{length-set, get_or-set_same}
use Rattle.ag_model.specs.declared.event.Event.{Event}
use Rattle.ag_model.specs.declared.event.Event.TheVariants.{Harden, Deliver, Repeat}
use Rattle.ag_model.specs.declared.event.Suffix.TheVariants.{Whole}
use Rattle.ag_model.specs.Proper.{IsProper}
use Rattle.ag_rules.specs.Replica.{Replica}
use Rattle.ag_rules.specs.Group.{Group, replica, nobody, with_replica, with_link, is_full}
use Rattle.ag_rules.specs.Plan.{Part, Plan, Posting, here, at_node, posted}
use Rattle.ag_rules.specs.DeliverEvent.{message_part, leaves, taken, delivered, plan_of_deliver}
use Rattle.ag_rules.specs.Next.{apart, done}
use Rattle.ag_rules.specs.Allowed.{next}
use Rattle.ag_rules.specs.Script.{IsEvent}
use Rattle.ag_law_logs.specs.ProperRecords.{HardenedAreProper}
use Rattle.ag_node.specs.declared.site.Site.{Site}
use Rattle.ag_node.specs.Sites.{here_at}
use Rattle.ag_group.specs.ProperAfter.{IsProperArrival, LeavesProper}
use Rattle.ag_group.proofs.Lifts.{Doing, AsksNoModes, same_part}
use Rattle.ag_group.proofs.Cuts.{found_is}

-- messages that are sent leave the replicas
posted_replicas : (n : ℕ) (out : List Posting) (g : Group) → (posted n out g).replicas ≡ g.replicas
posted_replicas n [] g = refl
posted_replicas n (p ∷ ps) g = posted_replicas n ps (with_link g n p.to _)

-- the logs of these replicas are proper
abbrev AreProper : ℕ → List Replica → Type 0
AreProper pages rs = (n : ℕ) → n < length rs → IsProper pages (get_or rs n nobody).kept.log

-- the log of a node once it did its part
part_proper : (g : Group) (n : ℕ) (part : Part) → n < length g.replicas → HardenedAreProper g.config.pages (at_node g n part).after → IsProper g.config.pages part.after.kept.log
part_proper g n part within all =
    let each : AreProper g.config.pages (set g.replicas n part.after) = subst (λ (rs : List Replica). AreProper g.config.pages rs) (posted_replicas n part.out (with_replica g n part.after)) all in
    subst (λ (r : Replica). IsProper g.config.pages r.kept.log) (get_or-set_same g.replicas n part.after nobody within)
    (each n (subst (λ (k : ℕ). n < k) (sym (length-set g.replicas n part.after)) within))

-- the same as the code's node knows it
pub proper_at : (F : Doing) → AsksNoModes F → (g g' : Group) (n n' : ℕ) (site : Site) (old : Replica) → n < length g.replicas → site.number ≡ n → site.pages ≡ g.config.pages → site.store ≡ g.register → n' ≡ n → old ≡ get_or g.replicas n' old → g ≡ g'
    → HardenedAreProper g'.config.pages (at_node g' n (F (here g' n) (replica g' n))).after → IsProper site.pages (F (here_at site) old).after.kept.log
proper_at F free g g' n n' site old within a b c e o is all =
    let part : Part = F (here g' n) (replica g' n) in
    let there : n < length g'.replicas = subst (λ (x : Group). n < length x.replicas) is within in
    let known : IsProper g'.config.pages part.after.kept.log = part_proper g' n part there all in
    let pages : g'.config.pages ≡ site.pages = sym (b ∙ ap (λ (x : Group). x.config.pages) is) in
    subst (λ (p : Part). IsProper site.pages p.after.kept.log) (sym (same_part F free g g' n n' site old within a b c e o is))
    (subst (λ (k : ℕ). IsProper k part.after.kept.log) pages known)

-- a delivery leaves the logs that the message leaves
delivered_replicas : (g : Group) (n m i : ℕ) (repeats : Bool) (part : Part) → (delivered g n m i repeats part).after.replicas ≡ (at_node g m part).after.replicas
delivered_replicas g n m i repeats part =
    posted_replicas m part.out (with_replica (if repeats then g else if leaves part.answer then g else taken g n m i) m part.after)
    ∙ ap (λ (rs : List Replica). set rs m part.after) (by_test repeats (leaves part.answer)) ∙ sym (posted_replicas m part.out (with_replica g m part.after))
  where
    by_test : (r s : Bool) → (if r then g else if s then g else taken g n m i).replicas ≡ g.replicas
    by_test true s = refl
    by_test false true = refl
    by_test false false = refl

pub arrival_proper : (g : Group) (n m i : ℕ) (repeats full : Bool) → (n == m) ≡ false → full ≡ is_full g m n → HardenedAreProper g.config.pages (apart g n m (plan_of_deliver g n m i repeats)).after → IsProperArrival g n m i full
arrival_proper g n m i repeats full two room all message found =
    let part : Bool → Part = λ b. message_part (here g m) n (replica g m) b message in
    let each : AreProper g.config.pages (delivered g n m i repeats (part (is_full g m n))).after.replicas
    = subst (λ (p : Plan). AreProper g.config.pages p.after.replicas) (found_is g n m i repeats (Some message) two found) all in
    subst (λ (b : Bool). AreProper g.config.pages (at_node g m (part b)).after.replicas) (sym room)
    (subst (λ (rs : List Replica). AreProper g.config.pages rs) (delivered_replicas g n m i repeats (part (is_full g m n))) each)

-- the same of a delivery between replicas that are named otherwise
pub same_places : (g : Group) (i : ℕ) (repeats : Bool) (n n' m m' : ℕ) → n ≡ n' → m ≡ m' → HardenedAreProper g.config.pages (apart g n' m' (plan_of_deliver g n' m' i repeats)).after → HardenedAreProper g.config.pages (apart g n m (plan_of_deliver g n m i repeats)).after
same_places g i repeats n n' m m' p q all =
    subst (λ (k : ℕ). HardenedAreProper g.config.pages (apart g k m (plan_of_deliver g k m i repeats)).after) (sym p)
    (subst (λ (k : ℕ). HardenedAreProper g.config.pages (apart g n' k (plan_of_deliver g n' k i repeats)).after) (sym q) all)

-- each event of a reached group leaves its logs proper
pub leaves_proper : (g : Group) → ((e : Event) → IsEvent g.config e → HardenedAreProper g.config.pages (next g e)) → (e : Event) → IsEvent g.config e → LeavesProper g e
unfolding done
leaves_proper g law (Harden w suffix) is = law (Harden w Whole) is
leaves_proper g law (Deliver w v i suffix) is = law (Deliver w v i Whole) is
leaves_proper g law (Repeat w v i suffix) is = law (Repeat w v i Whole) is
leaves_proper g law _ is = tt
