-- A plan of one replica is cut short as its part is.
use Rattle.std.proofs.Common.{◌≡◌, ℕ, ◌-◌, ◌+◌, List, [], ◌∷◌, ◌++◌, length, Bool, true, false, if◌then◌else◌, Option, Some, None, refl, sym, ap, ◌∙◌}
use Rattle.std.specs.Prelude.{set, nat_lt}
use Rattle.std.specs.List.{sum_by}
use Rattle.std.proofs.lemmas.List.{set-get_or}
use Rattle.ag_model.specs.declared.event.Suffix.{Suffix}
use Rattle.ag_model.specs.declared.event.Suffix.TheVariants.{Whole, Stop, Fail}
use Rattle.ag_model.specs.declared.event.Event.{Event}
use Rattle.ag_rules.specs.Replica.{fallen}
use Rattle.ag_rules.specs.Group.{Group, replica, with_replica, link, with_link}
use Rattle.ag_rules.specs.Plan.{Part, Plan, Posting, posted, here, at_node}
use Rattle.ag_rules.specs.Cut.{cut, stopped, failed, stopped_disk, failed_disk, all_writes}
use Rattle.ag_rules.specs.Next.{named, done, session_of, with_token}
use Rattle.ag_acts.specs.declared.told.Told.{Told}
use Rattle.ag_acts.specs.Acts.{told_of}
use Rattle.ag_acts.specs.Parts.{asks_token, part_in, for_session}
use Rattle.ag_acts.specs.Cuts.{stopped_part, failed_part, cut_short, links_after, group_after, told_part, told_after}
use Rattle.ag_acts.proofs.ToldLaws.{told_done}

-- a group whose session keeps its token
same_token : (g : Group) (s : ℕ) → g ≡ record g { tokens = set g.tokens s (session_of g s) }
same_token g s = ap (λ tokens. record g { tokens = tokens }) (sym (set-get_or g.tokens s None))

-- a part that is stopped
stopped_same : (w mask : ℕ) (g : Group) (n : ℕ) (s : Option ℕ) (part : Part) → stopped w mask (for_session g n s part) (stopped_disk mask w (replica g n).kept part.writes) ≡ for_session g n s (stopped_part w mask (here g n) (replica g n) part)
stopped_same w mask g n None part = refl
stopped_same w mask g n (Some s) part =
    ap (λ x. record (stopped w mask (at_node g n part) (stopped_disk mask w (replica g n).kept part.writes)) { after = x }) (same_token (with_replica g n (fallen (replica g n) (stopped_disk mask w (replica g n).kept part.writes))) s)

-- a part in which a call fails
failed_same : (c : ℕ) (g : Group) (n : ℕ) (s : Option ℕ) (part : Part) → failed c (for_session g n s part) ≡ for_session g n s (failed_part c (here g n) (replica g n) part)
failed_same c g n None part = refl
failed_same c g n (Some s) part =
    ap (λ x. record (failed c (at_node g n part)) { after = x }) (same_token (with_replica g n (fallen (replica g n) (failed_disk c (replica g n).kept part.writes))) s)

-- a choice of parts is a choice of plans
either : (g : Group) (n : ℕ) (s : Option ℕ) (b : Bool) (x y : Part) (p : Plan) → p ≡ for_session g n s x → (if b then p else for_session g n s y) ≡ for_session g n s (if b then x else y)
either g n s true x y p e = e
either g n s false x y p e = refl

-- the writes of a plan are those of its part
same_writes : (g : Group) (n : ℕ) (s : Option ℕ) (part : Part) → (for_session g n s part).writes ≡ part.writes
same_writes g n (Some s) part = refl
same_writes g n None part = refl

pub cut_same : (suffix : Suffix) (g : Group) (n : ℕ) (s : Option ℕ) (part : Part) → cut suffix (for_session g n s part) ≡ for_session g n s (cut_short suffix (here g n) (replica g n) part)
cut_same Whole g n s part = refl
cut_same (Stop w mask) g n None part = either g n None (nat_lt (w - 1) (length (all_writes part.writes))) (stopped_part (w - 1) mask (here g n) (replica g n) part) part _ (stopped_same (w - 1) mask g n None part)
cut_same (Stop w mask) g n (Some s) part = either g n (Some s) (nat_lt (w - 1) (length (all_writes part.writes))) (stopped_part (w - 1) mask (here g n) (replica g n) part) part _ (stopped_same (w - 1) mask g n (Some s) part)
cut_same (Fail c) g n None part = either g n None (nat_lt (c - 1) (sum_by (λ b. length b + 1) part.writes)) (failed_part (c - 1) (here g n) (replica g n) part) part _ (failed_same (c - 1) g n None part)
cut_same (Fail c) g n (Some s) part = either g n (Some s) (nat_lt (c - 1) (sum_by (λ b. length b + 1) part.writes)) (failed_part (c - 1) (here g n) (replica g n) part) part _ (failed_same (c - 1) g n (Some s) part)

-- messages that are sent change the links alone
posted_links : (n : ℕ) (out : List Posting) (g : Group) → posted n out g ≡ record g { links = links_after n out g.links }
posted_links n [] g = refl
posted_links n (p ∷ ps) g = posted_links n ps (with_link g n p.to (link g n p.to ++ p.message ∷ []))

-- the group after a part, by its fields
pub after_part : (g : Group) (n : ℕ) (s : Option ℕ) (part : Part) → (for_session g n s part).after ≡ group_after g n s part
after_part g n None part = posted_links n part.out (with_replica g n part.after)
after_part g n (Some s) part = ap (λ x. with_token x s (replica g n).term part.answer) (posted_links n part.out (with_replica g n part.after))

-- the answer of a part is that of its plan
answer_part : (g : Group) (n : ℕ) (s : Option ℕ) (part : Part) → (for_session g n s part).answer ≡ part.answer
answer_part g n None part = refl
answer_part g n (Some s) part = refl

-- an event at one replica is its part, cut short there, in the group
told_cut : (g : Group) (e : Event) (t : Told) → told_of e ≡ Some t → done g e ≡ for_session g (named g t.node) (asks_token t.act) (told_part g t)
told_cut g e t is = told_done g e t is ∙ cut_same t.suffix g (named g t.node) (asks_token t.act) (part_in g (named g t.node) t.act)

pub told_answer : (g : Group) (e : Event) (t : Told) → told_of e ≡ Some t → (done g e).answer ≡ (told_part g t).answer
told_answer g e t is = ap (λ (p : Plan). p.answer) (told_cut g e t is) ∙ answer_part g (named g t.node) (asks_token t.act) (told_part g t)

pub told_group : (g : Group) (e : Event) (t : Told) → told_of e ≡ Some t → (done g e).after ≡ told_after g t
told_group g e t is = ap (λ (p : Plan). p.after) (told_cut g e t is) ∙ after_part g (named g t.node) (asks_token t.act) (told_part g t)
