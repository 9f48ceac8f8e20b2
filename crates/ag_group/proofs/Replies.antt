-- Nothing is sent into a link that is full.
use Rattle.std.proofs.Common.{◌≡◌, ℕ, List, [], ◌∷◌, ◌++◌, get_or, Bool, true, false, refl, sym, ap, ◌∙◌}
use Rattle.std.specs.Prelude.{Option, Some, None, IfSome, ◌+◌, not, if◌then◌else◌, ◌==◌, ◌&&◌, ◌||◌, nat_le, nat_lt, length}
use Rattle.std.proofs.lemmas.Bool.{eqb-false}
use Rattle.std.proofs.lemmas.List.{get_or-set_other}
use Rattle.ag_model.specs.declared.answer.Answer.TheVariants.{Hardened, No}
use Rattle.ag_model.specs.declared.answer.Refusal.{Refusal}
use Rattle.ag_model.specs.declared.answer.Refusal.TheVariants.{Nothing, Gap, LinkFull, NotConnected, Down}
use Rattle.std.specs.Option.{is_none}
use Rattle.ag_model.specs.declared.message.Message.{Message}
use Rattle.ag_model.specs.declared.message.Body.{Body}
use Rattle.ag_model.specs.declared.message.Body.TheVariants.{Block as BlockBody, Ack}
use Rattle.ag_model.specs.declared.message.Block.{Block}
use Rattle.ag_rules.specs.Replica.{Replica, end, peer}
use Rattle.ag_rules.specs.Group.{Group, is_full}
use Rattle.ag_rules.specs.Plan.{Part, Posting, Here, Check, Case, first_case, unless, refused, sending, writing, each_synced, Block_write}
use Rattle.ag_rules.specs.Messages.{ack_to}
use Rattle.ag_rules.specs.Checks.{is_down, is_not_primary}
use Rattle.ag_rules.specs.Promotion.{log_check}
use Rattle.ag_rules.specs.SendEvent.{send_part, sends, block_to_send}
use Rattle.ag_rules.specs.BlockMessage.{block_part, cases_of_block, acks}
use Rattle.ag_rules.specs.DeliverEvent.{message_part, arrives, taken}
use Rattle.ag_built.specs.Built.{IsBuiltBody}
use Rattle.ag_node.specs.Out.{posting_of}
use Rattle.ag_group.proofs.Lifts.{case_out, ack_quiet}

either_quiet : (b : Bool) (x y : Part) → x.out ≡ [] → y.out ≡ [] → (if b then x else y).out ≡ []
either_quiet true x y p q = p
either_quiet false x y p q = q

-- nothing is sent where the last check holds
last_check : (cs : List Check) (why : Refusal) (r : Replica) (part : Part) → (unless (cs ++ record { when = true; refusal = why } ∷ []) r part).out ≡ []
last_check [] why r part = refl
last_check (c ∷ cs) why r part = either_quiet c.when (refused c.refusal r) (unless (cs ++ record { when = true; refusal = why } ∷ []) r part) refl (last_check cs why r part)

-- no block goes into a full link
pub send_full : (h : Here) (r : Replica) (m : ℕ) → (send_part h r m true).out ≡ []
unfolding send_part
send_full h r m =
    last_check (is_down h r ∷ is_not_primary h r ∷ record { when = not (peer r m).connected; refusal = NotConnected m } ∷ record { when = is_none (block_to_send r m); refusal = Nothing } ∷ [])
    (LinkFull h.number m) r (sends r m (block_to_send r m))

-- nothing is sent where the third of some cases holds, and none before it sends
third_case : (a b c : Case) (cs : List Case) (last : Part) → a.part.out ≡ [] → b.part.out ≡ [] → c.when ≡ true → c.part.out ≡ [] → (first_case (a ∷ b ∷ c ∷ cs) last).out ≡ []
third_case a b c cs last p q e r =
    either_quiet a.when a.part (first_case (b ∷ c ∷ cs) last) p
    (either_quiet b.when b.part (first_case (c ∷ cs) last) q
    (ap (λ (x : Bool). (if x then c.part else first_case cs last).out) e ∙ r))

-- no block is acknowledged into a full link
block_full : (h : Here) (n : ℕ) (r : Replica) (term : ℕ) (b : Block) → (block_part h n r true term b).out ≡ []
unfolding block_part
block_full h n r term b = by_state (r.state == 1) refl
  where
    by_state : (s : Bool) → (r.state == 1) ≡ s → (first_case (cases_of_block h n r true term b) (writing (Hardened (end r + length b.records)) (each_synced (Block_write b.records ∷ [])) (acks n r (end r + length b.records)) r)).out ≡ []
    by_state true e =
        third_case
        (record { when = r.leads || (not (term == r.term) || ((r.state == 0) || (r.state == 3))); part = refused Nothing r })
        (record { when = nat_lt (end r + 1) b.first; part = refused (Gap (end r + 1) b.first) r })
        (record { when = (r.state == 1) && true; part = refused (LinkFull h.number n) r })
        (
        record { when = nat_le b.first (end r); part = sending (No Nothing) (acks n r (end r)) r }
        ∷ record { when = (log_check r (b.records ∷ [])).when; part = refused (log_check r (b.records ∷ [])).refusal r }
        ∷ []
        )
        (writing (Hardened (end r + length b.records)) (each_synced (Block_write b.records ∷ [])) (acks n r (end r + length b.records)) r)
        refl refl (ap (λ (x : Bool). x && true) e) refl
    by_state false e =
        let none : (lsn : ℕ) → acks n r lsn ≡ [] = λ lsn. ap (λ (s : Bool). if s then ack_to n r lsn else []) e in
        case_out (cases_of_block h n r true term b) (writing (Hardened (end r + length b.records)) (each_synced (Block_write b.records ∷ [])) (acks n r (end r + length b.records)) r)
        (refl, (refl, (refl, (none (end r), (refl, tt))))) (none (end r + length b.records))

body_full : (h : Here) (n : ℕ) (r : Replica) (term : ℕ) (body : Body) → IsBuiltBody body → (unless (is_down h r ∷ []) r (arrives h n r true term body)).out ≡ []
body_full h n r term (BlockBody b) built = either_quiet (not r.up) (refused (Down h.number) r) (block_part h n r true term b) refl (block_full h n r term b)
body_full h n r term (Ack hardened low) built = ack_quiet h n r true term hardened low
body_full h n r term _ built = absurd built

-- no message is answered into a full link
pub message_full : (h : Here) (n : ℕ) (r : Replica) (message : Message) → IsBuiltBody message.body → (message_part h n r true message).out ≡ []
message_full h n r message built = body_full h n r message.term message.body built

-- what is sent shows that the link had room
pub room_by_out : (n : ℕ) (o : Option Message) (full : Bool) (out : List Posting) → posting_of n o ≡ out → (full ≡ true → out ≡ []) → IfSome o (λ _. full ≡ false)
room_by_out n None full out e q = tt
room_by_out n (Some m) false out e q = refl
room_by_out n (Some m) true out e q = absurd (let f : posting_of n (Some m) ≡ [] = e ∙ q refl in cc)

pub same_room : (o : Option Message) (full now : Bool) → IfSome o (λ _. full ≡ false) → now ≡ full → IfSome o (λ _. now ≡ false)
same_room None full now h e = tt
same_room (Some m) full now h e = e ∙ h

-- the link back is as before where a message is taken
pub taken_back : (g : Group) (n m i : ℕ) → (n == m) ≡ false → is_full (taken g n m i) m n ≡ is_full g m n
taken_back g n m i two =
    ap (λ (row : List (List Message)). nat_le 1024 (length (get_or row n []))) (get_or-set_other g.links n m _ [] (λ e. eqb-false n m two (sym e)))
