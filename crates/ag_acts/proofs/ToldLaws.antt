-- An event at one replica does there what its act does.
use Rattle.std.proofs.Common.{◌≡◌, ℕ, Bool, true, false, if◌then◌else◌, Option, Some, None, refl, ap, ◌∙◌, subst}
use Rattle.std.specs.Prelude.{◌==◌, IfSome}
use Rattle.ag_model.specs.declared.event.Who.{Who}
use Rattle.ag_model.specs.declared.event.Who.TheVariants.{Letter, Primary}
use Rattle.ag_model.specs.declared.event.Suffix.{Suffix}
use Rattle.ag_model.specs.declared.event.Event.{Event}
use Rattle.ag_model.specs.declared.event.Event.TheVariants.{Send, Deliver, Repeat, Lose, Ask, Resume, Sync, Timeout, Planned, Auto, Force}
use Rattle.ag_model.specs.declared.answer.Refusal.TheVariants.{Nothing}
use Rattle.ag_rules.specs.Group.{Group, replica, is_full}
use Rattle.ag_rules.specs.Plan.{Part, Plan, here, at_node, refused}
use Rattle.ag_rules.specs.Cut.{cut}
use Rattle.ag_rules.specs.Next.{named, plan_of, suffix_of, done, apart}
use Rattle.ag_rules.specs.SendEvent.{send_part}
use Rattle.ag_rules.specs.AskEvent.{ask_part}
use Rattle.ag_acts.specs.declared.told.Told.{Told}
use Rattle.ag_acts.specs.Acts.{told_of, is_of_group}
use Rattle.ag_acts.specs.Parts.{named_here, with_other, for_session, part_in, plan_of_act, asks_token}

-- a word names the same replica in the group and at a place
named_same : (g : Group) (n : ℕ) (w : Who) → named g w ≡ named_here (here g n) w
named_same g n (Letter m) = refl
named_same g n Primary = refl

-- a choice of parts is a choice of plans
pub one_of : (g : Group) (n : ℕ) (b : Bool) (x y : Part) → (if b then at_node g n x else at_node g n y) ≡ at_node g n (if b then x else y)
one_of g n true x y = refl
one_of g n false x y = refl

-- an event with another replica
other_same : (g : Group) (n m : ℕ) (part : Part) → apart g n m (at_node g n part) ≡ at_node g n (with_other (here g n) (replica g n) m part)
other_same g n m part = one_of g n (n == m) (refused Nothing (replica g n)) part

sends : (g : Group) (n m k : ℕ) → m ≡ k → apart g n m (at_node g n (send_part (here g n) (replica g n) m (is_full g n m))) ≡ at_node g n (with_other (here g n) (replica g n) k (send_part (here g n) (replica g n) k (is_full g n k)))
sends g n m k e = other_same g n m _ ∙ ap (λ x. at_node g n (with_other (here g n) (replica g n) x (send_part (here g n) (replica g n) x (is_full g n x)))) e

asks : (g : Group) (n p m k : ℕ) → m ≡ k → apart g n m (at_node g n (ask_part (here g n) (replica g n) p m (is_full g n m))) ≡ at_node g n (with_other (here g n) (replica g n) k (ask_part (here g n) (replica g n) p k (is_full g n k)))
asks g n p m k e = other_same g n m _ ∙ ap (λ x. at_node g n (with_other (here g n) (replica g n) x (ask_part (here g n) (replica g n) p x (is_full g n x)))) e

-- the plan is that of the act
abbrev PlanIs : Group → Event → Told → Type 0
PlanIs g e t = plan_of g e ≡ plan_of_act g (named g t.node) t.act

each_plan : (g : Group) (e : Event) → IfSome (told_of e) (PlanIs g e)
each_plan g (Send w v suffix) = sends g (named g w) (named g v) (named_here (here g (named g w)) v) (named_same g (named g w) v)
each_plan g (Ask w p v suffix) = asks g (named g w) p (named g v) (named_here (here g (named g w)) v) (named_same g (named g w) v)
each_plan g (Deliver w v i suffix) = tt
each_plan g (Repeat w v i suffix) = tt
each_plan g (Lose w v i suffix) = tt
each_plan g (Resume w suffix) = tt
each_plan g (Sync w v suffix) = tt
each_plan g (Timeout w v suffix) = tt
each_plan g (Planned w suffix) = tt
each_plan g (Auto suffix) = tt
each_plan g (Force w suffix) = tt
each_plan g e = refl

pub told_plan : (g : Group) (e : Event) (t : Told) → told_of e ≡ Some t → plan_of g e ≡ plan_of_act g (named g t.node) t.act
told_plan g e t is = subst (λ (o : Option Told). IfSome o (PlanIs g e)) is (each_plan g e)

-- the suffix is the event's
abbrev SuffixIs : Event → Told → Type 0
SuffixIs e t = suffix_of e ≡ t.suffix

each_suffix : (e : Event) → IfSome (told_of e) (SuffixIs e)
each_suffix (Deliver w v i suffix) = tt
each_suffix (Repeat w v i suffix) = tt
each_suffix (Lose w v i suffix) = tt
each_suffix (Resume w suffix) = tt
each_suffix (Sync w v suffix) = tt
each_suffix (Timeout w v suffix) = tt
each_suffix (Planned w suffix) = tt
each_suffix (Auto suffix) = tt
each_suffix (Force w suffix) = tt
each_suffix e = refl

pub told_suffix : (e : Event) (t : Told) → told_of e ≡ Some t → suffix_of e ≡ t.suffix
told_suffix e t is = subst (λ (o : Option Told). IfSome o (SuffixIs e)) is (each_suffix e)

-- the replica is the one that the plan of an act is of
writer_of_act : (g : Group) (n : ℕ) (s : Option ℕ) (part : Part) → (for_session g n s part).writer ≡ n
writer_of_act g n (Some s) part = refl
writer_of_act g n None part = refl

pub told_writer : (g : Group) (e : Event) (t : Told) → told_of e ≡ Some t → (plan_of g e).writer ≡ named g t.node
told_writer g e t is = ap (λ (p : Plan). p.writer) (told_plan g e t is) ∙ writer_of_act g (named g t.node) (asks_token t.act) (part_in g (named g t.node) t.act)

-- the first write of an act finds the group as it was
before_of_act : (g : Group) (n : ℕ) (s : Option ℕ) (part : Part) → (for_session g n s part).before ≡ g
before_of_act g n (Some s) part = refl
before_of_act g n None part = refl

pub told_before : (g : Group) (e : Event) (t : Told) → told_of e ≡ Some t → (plan_of g e).before ≡ g
told_before g e t is = ap (λ (p : Plan). p.before) (told_plan g e t is) ∙ before_of_act g (named g t.node) (asks_token t.act) (part_in g (named g t.node) t.act)

-- an event with its suffix is its act with that suffix
pub told_done : (g : Group) (e : Event) (t : Told) → told_of e ≡ Some t → done g e ≡ cut t.suffix (plan_of_act g (named g t.node) t.act)
unfolding done
told_done g e t is = ap (λ (s : Suffix). cut s (plan_of g e)) (told_suffix e t is) ∙ ap (cut t.suffix) (told_plan g e t is)

-- exactly the other events are those of the whole group
abbrev IsGroupOr : Event → Option Told → Type 0
IsGroupOr e None = is_of_group e ≡ true
IsGroupOr e (Some t) = is_of_group e ≡ false

each_sort : (e : Event) → IsGroupOr e (told_of e)
each_sort (Auto suffix) = refl
each_sort e = refl

pub told_none : (e : Event) → told_of e ≡ None → is_of_group e ≡ true
told_none e is = subst (IsGroupOr e) is (each_sort e)

-- an event of the whole group is told to nobody
none_told : (o : Option Told) (e : Event) → IsGroupOr e o → is_of_group e ≡ true → o ≡ None
none_told None e sort is = refl
none_told (Some t) e sort is = absurd cc

pub group_none : (e : Event) → is_of_group e ≡ true → told_of e ≡ None
group_none e is = none_told (told_of e) e (each_sort e) is
