-- Plans that a suffix may cut.
use Rattle.std.proofs.Common.{◌≡◌, ℕ, ◌+◌, ◌-◌, List, [], length, Bool, true, false, refl, sym, ap, ◌∙◌, subst}
use Rattle.std.specs.Prelude.{Option, Some, None, slice_get, max, nat_lt, not, ◌==◌, ◌||◌, if◌then◌else◌}
use Rattle.std.specs.List.{sum_by}
use Rattle.std.proofs.lemmas.List.{set-get_or}
use Rattle.ag_model.specs.declared.event.Event.{Event}
use Rattle.ag_model.specs.declared.event.Event.TheVariants.{Flush}
use Rattle.ag_model.specs.declared.event.Who.{Who}
use Rattle.ag_model.specs.declared.event.Suffix.{Suffix}
use Rattle.ag_model.specs.declared.event.Suffix.TheVariants.{Whole, Stop, Fail}
use Rattle.ag_model.specs.declared.answer.Answer.TheVariants.{No, Known}
use Rattle.ag_model.specs.declared.answer.Refusal.{Refusal}
use Rattle.ag_model.specs.declared.answer.Refusal.TheVariants.{Nothing, NoMessage, Down}
use Rattle.ag_model.specs.declared.message.Message.{Message}
use Rattle.ag_model.specs.declared.message.Body.{Body}
use Rattle.ag_model.specs.declared.message.Body.TheVariants.{Ack}
use Rattle.ag_rules.specs.Replica.{Replica, peer, with_peer}
use Rattle.ag_rules.specs.Group.{Group, replica, nobody, with_replica, link, is_full}
use Rattle.ag_rules.specs.Plan.{Part, Plan, Batch, Here, here, at_node, at_once, posted, refused}
use Rattle.ag_rules.specs.Cut.{cut, all_writes, stopped, stopped_disk, failed, disk_before}
use Rattle.ag_rules.specs.AckMessage.{ack_message_part, checks_of_ack_message, known_peer}
use Rattle.ag_rules.specs.DeliverEvent.{message_part, arrives, leaves, taken, delivered, plan_of_message, plan_of_deliver}
use Rattle.ag_rules.specs.FlushEvent.{flush_part}
use Rattle.ag_rules.specs.Next.{named, apart, plan_of, suffix_of, done}
use Rattle.ag_built.specs.Built.{IsBuilt}
use Rattle.ag_node.specs.Suffixes.{cut_part, stopped_part, failed_part}
use Rattle.ag_node.proofs.StartSteps.{not_below}
use Rattle.ag_node.proofs.Cutting.{uncut as uncut_part}
use Rattle.ag_group.specs.Arrivals.{cut_arrival}
use Rattle.ag_group.proofs.Lifts.{Doing, AsksNoModes, IsQuiet, unless_writes, unless_out}

else_plan : (b : Bool) (x y : Plan) → b ≡ false → (if b then x else y) ≡ y
else_plan true x y e = absurd cc
else_plan false x y e = refl

-- a plan that writes nothing is never cut
pub uncut : (s : Suffix) (p : Plan) → p.writes ≡ [] → cut s p ≡ p
uncut Whole p e = refl
uncut (Stop w mask) p e = else_plan (nat_lt (w - 1) (length (all_writes p.writes))) (stopped (w - 1) mask p (stopped_disk mask (w - 1) (disk_before p) p.writes)) p (ap (λ (ws : List Batch). nat_lt (w - 1) (length (all_writes ws))) e ∙ not_below (w - 1))
uncut (Fail c) p e = else_plan (nat_lt (c - 1) (sum_by (λ b. length b + 1) p.writes)) (failed (c - 1) p) p (ap (λ (ws : List Batch). nat_lt (c - 1) (sum_by (λ b. length b + 1) ws)) e ∙ not_below (c - 1))

pub uncut_done : (g : Group) (e : Event) → (plan_of g e).writes ≡ [] → done g e ≡ plan_of g e
unfolding done
uncut_done g e none = uncut (suffix_of e) (plan_of g e) none

-- a `flush` that is built has no suffix
pub flush_done : (g : Group) (e : Event) (w : Who) (suffix : Suffix) (n : ℕ) → e ≡ Flush w suffix → IsBuilt e → n ≡ named g w → done g e ≡ at_node g n (flush_part (here g n) (replica g n))
unfolding done
flush_done g e w suffix n is built at =
    let whole : suffix_of e ≡ Whole = ap suffix_of is ∙ (subst (λ (x : Event). IsBuilt x) is built).1 in
    ap (λ (s : Suffix). cut s (plan_of g e)) whole ∙ ap (plan_of g) is ∙ ap (λ (k : ℕ). at_node g k (flush_part (here g k) (replica g k))) (sym at)

-- a node's part that is cut, as an event of the group
pub cut_answer : (s : Suffix) (g : Group) (n : ℕ) (part : Part) → (cut s (at_node g n part)).answer ≡ (cut_part g.config.pages n s (replica g n) part).answer
cut_answer Whole g n part = refl
cut_answer (Stop w mask) g n part = elim (nat_lt (w - 1) (length (all_writes part.writes))) as
    (λ b. (if b then stopped (w - 1) mask (at_node g n part) (stopped_disk mask (w - 1) (replica g n).kept part.writes) else at_node g n part).answer ≡ (if b then stopped_part g.config.pages (w - 1) mask (replica g n) part else part).answer) [ true ↦ refl | false ↦ refl ]
cut_answer (Fail c) g n part = elim (nat_lt (c - 1) (sum_by (λ b. length b + 1) part.writes)) as
    (λ b. (if b then failed (c - 1) (at_node g n part) else at_node g n part).answer ≡ (if b then failed_part n (c - 1) (replica g n) part else part).answer) [ true ↦ refl | false ↦ refl ]

pub cut_after : (s : Suffix) (g : Group) (n : ℕ) (part : Part) → (cut s (at_node g n part)).after ≡ (at_node g n (cut_part g.config.pages n s (replica g n) part)).after
cut_after Whole g n part = refl
cut_after (Stop w mask) g n part = elim (nat_lt (w - 1) (length (all_writes part.writes))) as
    (λ b. (if b then stopped (w - 1) mask (at_node g n part) (stopped_disk mask (w - 1) (replica g n).kept part.writes) else at_node g n part).after ≡ (at_node g n (if b then stopped_part g.config.pages (w - 1) mask (replica g n) part else part)).after) [ true ↦ refl | false ↦ refl ]
cut_after (Fail c) g n part = elim (nat_lt (c - 1) (sum_by (λ b. length b + 1) part.writes)) as
    (λ b. (if b then failed (c - 1) (at_node g n part) else at_node g n part).after ≡ (at_node g n (if b then failed_part n (c - 1) (replica g n) part else part)).after) [ true ↦ refl | false ↦ refl ]

-- a plan whose refusal leaves the group, with its suffix
pub cut_left : (s : Suffix) (p : Plan) (g : Group) (why : Refusal) → (p.answer ≡ No why → p.after ≡ g) → (cut s p).answer ≡ No why → (cut s p).after ≡ g
cut_left Whole p g why rest e = rest e
cut_left (Stop w mask) p g why rest e = by_test (nat_lt (w - 1) (length (all_writes p.writes))) e
  where
    by_test : (b : Bool) → (if b then stopped (w - 1) mask p (stopped_disk mask (w - 1) (disk_before p) p.writes) else p).answer ≡ No why → (if b then stopped (w - 1) mask p (stopped_disk mask (w - 1) (disk_before p) p.writes) else p).after ≡ g
    by_test true e = absurd cc
    by_test false e = rest e
cut_left (Fail c) p g why rest e = by_test (nat_lt (c - 1) (sum_by (λ b. length b + 1) p.writes)) e
  where
    by_test : (b : Bool) → (if b then failed (c - 1) p else p).answer ≡ No why → (if b then failed (c - 1) p else p).after ≡ g
    by_test true e = absurd cc
    by_test false e = rest e

-- what an event does at a place, as its suffix cuts it
abbrev pub cut_doing : Suffix → Doing → Doing
cut_doing s F h r = cut_part h.pages h.number s r (F h r)

pub cut_free : (s : Suffix) (F : Doing) → AsksNoModes F → AsksNoModes (cut_doing s F)
cut_free s F free h r = ap (cut_part h.pages h.number s r) (free h r)

pub cut_quiet : (s : Suffix) (F : Doing) → IsQuiet F → IsQuiet (cut_doing s F)
cut_quiet Whole F quiet h r = quiet h r
cut_quiet (Stop w mask) F quiet h r = elim (nat_lt (w - 1) (length (all_writes (F h r).writes))) as
    (λ b. (if b then stopped_part h.pages (w - 1) mask r (F h r) else F h r).out ≡ []) [ true ↦ refl | false ↦ quiet h r ]
cut_quiet (Fail c) F quiet h r = elim (nat_lt (c - 1) (sum_by (λ b. length b + 1) (F h r).writes)) as
    (λ b. (if b then failed_part h.number (c - 1) r (F h r) else F h r).out ≡ []) [ true ↦ refl | false ↦ quiet h r ]

-- a delivery

delivery_answer : (s : Suffix) (g : Group) (n m i : ℕ) (repeats : Bool) (part : Part) → (cut s (delivered g n m i repeats part)).answer ≡ (cut_part g.config.pages m s (replica g m) part).answer
delivery_answer s g n m i true part = cut_answer s g m part
delivery_answer s g n m i false part = elim (leaves part.answer) as
    (λ b. (cut s (at_node (if b then g else taken g n m i) m part)).answer ≡ (cut_part g.config.pages m s (replica g m) part).answer) [ true ↦ cut_answer s g m part | false ↦ cut_answer s (taken g n m i) m part ]

delivery_after : (s : Suffix) (g : Group) (n m i : ℕ) (repeats there : Bool) (part : Part) → there ≡ leaves part.answer →
    (if repeats || there then (at_node g m (cut_part g.config.pages m s (replica g m) part)).after else (at_node (taken g n m i) m (cut_part g.config.pages m s (replica g m) part)).after) ≡ (cut s (delivered g n m i repeats part)).after
delivery_after s g n m i true there part e = sym (cut_after s g m part)
delivery_after s g n m i false there part e = by_test there ∙ ap (λ b. (cut s (at_node (if b then g else taken g n m i) m part)).after) e
  where
    by_test : (b : Bool) → (if b then (at_node g m (cut_part g.config.pages m s (replica g m) part)).after else (at_node (taken g n m i) m (cut_part g.config.pages m s (replica g m) part)).after) ≡ (cut s (at_node (if b then g else taken g n m i) m part)).after
    by_test true = sym (cut_after s g m part)
    by_test false = sym (cut_after s (taken g n m i) m part)

-- a refusal leaves the group
refused_after : (g : Group) (n : ℕ) (why : Refusal) → (at_node g n (refused why (replica g n))).after ≡ g
refused_after g n why = λ i. record g { replicas = set-get_or g.replicas n nobody i }

-- the delivery of what was found
pub found_is : (g : Group) (n m i : ℕ) (repeats : Bool) (found : Option Message) → (n == m) ≡ false → slice_get (link g n m) (i - 1) ≡ found → apart g n m (plan_of_deliver g n m i repeats) ≡ plan_of_message g n m i repeats found
unfolding plan_of_deliver
found_is g n m i repeats found two is = else_plan (n == m) (at_node g n (refused Nothing (replica g n))) (plan_of_deliver g n m i repeats) two ∙ ap (plan_of_message g n m i repeats) is

pub none_answer : (s : Suffix) (g : Group) (n m i : ℕ) (repeats : Bool) → (n == m) ≡ false → slice_get (link g n m) (i - 1) ≡ None → No (NoMessage n m) ≡ (cut s (apart g n m (plan_of_deliver g n m i repeats))).answer
none_answer s g n m i repeats two is =
    sym (ap (λ (x : Plan). (cut s x).answer) (found_is g n m i repeats None two is) ∙ ap (λ (x : Plan). x.answer) (uncut s (plan_of_message g n m i repeats None) refl))

pub none_after : (s : Suffix) (g : Group) (n m i : ℕ) (repeats : Bool) → (n == m) ≡ false → slice_get (link g n m) (i - 1) ≡ None → g ≡ (cut s (apart g n m (plan_of_deliver g n m i repeats))).after
none_after s g n m i repeats two is =
    sym (ap (λ (x : Plan). (cut s x).after) (found_is g n m i repeats None two is) ∙ ap (λ (x : Plan). x.after) (uncut s (plan_of_message g n m i repeats None) refl) ∙ refused_after g m (NoMessage n m))

pub some_answer : (s : Suffix) (g : Group) (n m i : ℕ) (repeats : Bool) (message : Message) → (n == m) ≡ false → slice_get (link g n m) (i - 1) ≡ Some message
    → (cut_arrival g n m (is_full g m n) s message).answer ≡ (cut s (apart g n m (plan_of_deliver g n m i repeats))).answer
some_answer s g n m i repeats message two is =
    sym (ap (λ (x : Plan). (cut s x).answer) (found_is g n m i repeats (Some message) two is) ∙ delivery_answer s g n m i repeats (message_part (here g m) n (replica g m) (is_full g m n) message))

pub some_after : (s : Suffix) (g : Group) (n m i : ℕ) (repeats there : Bool) (message : Message) → (n == m) ≡ false → slice_get (link g n m) (i - 1) ≡ Some message
    → there ≡ leaves (message_part (here g m) n (replica g m) (is_full g m n) message).answer
    → posted m (cut_arrival g n m (is_full g m n) s message).out (if repeats || there then with_replica g m (cut_arrival g n m (is_full g m n) s message).after else taken (with_replica g m (cut_arrival g n m (is_full g m n) s message).after) n m i)
    ≡ (cut s (apart g n m (plan_of_deliver g n m i repeats))).after
some_after s g n m i repeats there message two is e =
    by_test (repeats || there) ∙ delivery_after s g n m i repeats there (message_part (here g m) n (replica g m) (is_full g m n) message) e
    ∙ sym (ap (λ (x : Plan). (cut s x).after) (found_is g n m i repeats (Some message) two is))
  where
    by_test : (b : Bool) → posted m (cut_arrival g n m (is_full g m n) s message).out (if b then with_replica g m (cut_arrival g n m (is_full g m n) s message).after else taken (with_replica g m (cut_arrival g n m (is_full g m n) s message).after) n m i)
        ≡ (if b then (at_node g m (cut_arrival g n m (is_full g m n) s message)).after else (at_node (taken g n m i) m (cut_arrival g n m (is_full g m n) s message)).after)
    by_test true = refl
    by_test false = refl

-- what is sent by a part that is cut was sent by the whole one
pub cut_out : (s : Suffix) (pages n : ℕ) (r : Replica) (part : Part) → part.out ≡ [] → (cut_part pages n s r part).out ≡ []
cut_out s pages n r part e = cut_quiet s (λ h r. part) (λ h r. e) (record { number = n; pages = pages; modes = []; store = record { term = 0; primary = 0; synced = 0; suspended = 0 } }) r

-- an Ack that comes to a node that is up

pub message_up : (h : Here) (from : ℕ) (r : Replica) (full : Bool) (message : Message) (body : Body) → r.up ≡ true → message.body ≡ body → message_part h from r full message ≡ arrives h from r full message.term body
message_up h from r full message body e is =
    ap (λ (b : Bool). if not b then refused (Down h.number) r else arrives h from r full message.term message.body) e ∙ ap (arrives h from r full message.term) is

ack_writes : (from : ℕ) (r : Replica) (term hardened low : ℕ) → (ack_message_part from r term hardened low).writes ≡ []
unfolding ack_message_part
ack_writes from r term hardened low = unless_writes (checks_of_ack_message from r term) r (at_once (Known (max (peer r from).hardened hardened)) (with_peer r from (known_peer (peer r from) hardened low))) refl

pub ack_out : (from : ℕ) (r : Replica) (term hardened low : ℕ) → (ack_message_part from r term hardened low).out ≡ []
unfolding ack_message_part
ack_out from r term hardened low = unless_out (checks_of_ack_message from r term) r (at_once (Known (max (peer r from).hardened hardened)) (with_peer r from (known_peer (peer r from) hardened low))) refl

pub ack_cut : (s : Suffix) (h : Here) (from : ℕ) (r : Replica) (full : Bool) (message : Message) (hardened low : ℕ) → r.up ≡ true → message.body ≡ Ack hardened low
    → ack_message_part from r message.term hardened low ≡ cut_part h.pages h.number s r (message_part h from r full message)
ack_cut s h from r full message hardened low e is =
    sym (ap (cut_part h.pages h.number s r) (message_up h from r full message (Ack hardened low) e is) ∙ uncut_part h.pages h.number s r (ack_message_part from r message.term hardened low) (ack_writes from r message.term hardened low))
