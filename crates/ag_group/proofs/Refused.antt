-- A refused event leaves the group as it was.
use Rattle.std.proofs.Common.{◌≡◌, ℕ, ◌+◌, ◌-◌, List, [], ◌∷◌, ◌++◌, length, Bool, true, false, refl, sym, ap, ◌∙◌}
use Rattle.std.specs.Prelude.{max, Option, Some, None, slice_get, if◌then◌else◌, ◌==◌, not}
use Rattle.std.proofs.lemmas.List.{set-get_or}
use Rattle.ag_model.specs.declared.value.Row.{Row}
use Rattle.ag_model.specs.declared.value.Row.TheVariants.{Found, Absent}
use Rattle.ag_model.specs.declared.config.Token.{Token}
use Rattle.ag_model.specs.declared.event.Pair.{Pair}
use Rattle.ag_model.specs.declared.event.Event.{Event}
use Rattle.ag_model.specs.declared.message.Message.{Message}
use Rattle.ag_model.specs.declared.message.Body.{Body}
use Rattle.ag_model.specs.declared.message.Body.TheVariants.{Block as BlockBody, Ack}
use Rattle.ag_model.specs.declared.message.Block.{Block}
use Rattle.ag_model.specs.declared.record.Record.{Record}
use Rattle.ag_model.specs.declared.answer.Answer.{Answer}
use Rattle.ag_model.specs.declared.answer.Answer.TheVariants.{No, Crashed, Lsn, Known, Hardened, Raised, PageBad}
use Rattle.ag_model.specs.declared.answer.Refusal.{Refusal}
use Rattle.ag_model.specs.declared.answer.Refusal.TheVariants.{Unreadable, Torn, NotNoted, Down, Nothing, Pending, Gap, LinkFull}
use Rattle.ag_model.specs.Cells.{has_lost}
use Rattle.ag_model.specs.Rows.{page_of, rows}
use Rattle.ag_rules.specs.Replica.{Replica, fallen, is_bad, is_reverting, stripe, image, records, front, full_end, effective, page_value, end, peer, with_peer}
use Rattle.ag_rules.specs.Group.{Group, replica, nobody, with_replica, link, is_full}
use Rattle.ag_rules.specs.Plan.{Part, Posting, Plan, Here, Check, Case, here, at_node, posted, unless, first_case, refused, at_once, sending, writing, each_synced, Block_write}
use Rattle.ag_rules.specs.Access.{access, cases_of_access, notes, pended}
use Rattle.ag_rules.specs.Checks.{buffer_is_full, is_down, reverts}
use Rattle.ag_rules.specs.Promotion.{log_check}
use Rattle.ag_rules.specs.BeginEvent.{checks_of_begin}
use Rattle.ag_rules.specs.Redo.{due_pages, touched_up_to}
use Rattle.ag_rules.specs.SetEvent.{set_part, pairs_pass, sets, records_of_set, checks_of_pair, with_set}
use Rattle.ag_rules.specs.HardenEvent.{harden_part, hardens, hardened_one, checks_of_harden}
use Rattle.ag_rules.specs.RedoEvent.{redo_part, redoes_touching, checks_of_redo}
use Rattle.ag_rules.specs.ApplyEvent.{apply_part, applies_touching, checks_of_apply, next_of_stripe, touched_in_stripe}
use Rattle.ag_rules.specs.RaiseEvent.{raise_part, raised, checks_of_raise}
use Rattle.ag_rules.specs.ReadEvent.{read_part, reads_at, checks_of_read, row_answer, is_too_old}
use Rattle.ag_rules.specs.CrashEvent.{crash_part}
use Rattle.ag_rules.specs.StartEvent.{start_part, start_records, checks_of_start, starts, starts_reverting, starts_redoing, starts_first, starts_second, is_named}
use Rattle.ag_rules.specs.FlushEvent.{flush_part, flushes, pages_to_flush, checks_of_flush}
use Rattle.ag_rules.specs.LookEvent.{page_part, page_answer, sectors_part}
use Rattle.ag_rules.specs.SendEvent.{send_part, sends, checks_of_send, block_to_send}
use Rattle.ag_rules.specs.BlockMessage.{block_part, cases_of_block, acks}
use Rattle.ag_rules.specs.AckMessage.{ack_message_part, checks_of_ack_message, known_peer}
use Rattle.ag_rules.specs.DeliverEvent.{message_part, arrives, taken, leaves, refusal_leaves, plan_of_deliver, plan_of_message, plan_of_lose, plan_of_loss}
use Rattle.ag_rules.specs.Next.{apart, at_session, token, with_token}
use Rattle.ag_built.specs.Built.{IsBuiltBody}
use Rattle.ag_group.specs.Refusals.{leaves_node, leaves_message, leaves_group, IsLeft}

-- where a part is refused so, it leaves its node and sends nothing
abbrev pub Stays : (Refusal → Bool) → Replica → Part → Type 0
Stays test r part = (why : Refusal) → part.answer ≡ No why → test why ≡ true → (part.after ≡ r) × (part.out ≡ [])

stays_if : (test : Refusal → Bool) (r : Replica) (b : Bool) (x y : Part) → Stays test r x → Stays test r y → Stays test r (if b then x else y)
stays_if test r true x y p q = p
stays_if test r false x y p q = q

stays_refused : (test : Refusal → Bool) (r : Replica) (why : Refusal) → Stays test r (refused why r)
stays_refused test r why other e t = (refl, refl)

-- a refusal for which the test fails says nothing
stays_excepted : (test : Refusal → Bool) (r : Replica) (part : Part) (why : Refusal) → part.answer ≡ No why → test why ≡ false → Stays test r part
stays_excepted test r part why is none other e t =
    let same : why ≡ other = (let f : No why ≡ No other = sym is ∙ e in cc) in
    absurd (let f : false ≡ true = sym none ∙ ap test same ∙ t in cc)

stays_unless : (test : Refusal → Bool) (cs : List Check) (r : Replica) (part : Part) → Stays test r part → Stays test r (unless cs r part)
stays_unless test [] r part h = h
stays_unless test (c ∷ cs) r part h = stays_if test r c.when (refused c.refusal r) (unless cs r part) (stays_refused test r c.refusal) (stays_unless test cs r part h)

abbrev EachStays : (Refusal → Bool) → Replica → List Case → Type 0
EachStays test r [] = Unit {0}
EachStays test r (c ∷ cs) = Stays test r c.part × EachStays test r cs

stays_case : (test : Refusal → Bool) (r : Replica) (cs : List Case) (last : Part) → EachStays test r cs → Stays test r last → Stays test r (first_case cs last)
stays_case test r [] last each h = h
stays_case test r (c ∷ cs) last each h = stays_if test r c.when c.part (first_case cs last) each.0 (stays_case test r cs last each.1 h)

stays_notes : (r : Replica) (p : ℕ) → Stays leaves_node r (notes r p)
stays_notes r p = by_lost (has_lost (image r.kept p)) refl
  where
    by_lost : (b : Bool) → has_lost (image r.kept p) ≡ b → Stays leaves_node r (notes r p)
    by_lost true e = stays_excepted leaves_node r (notes r p) (Unreadable p) (rw e refl) refl
    by_lost false e = stays_excepted leaves_node r (notes r p) (Torn p) (rw e refl) refl

stays_access : (r : Replica) (p : ℕ) (part : Part) → Stays leaves_node r part → Stays leaves_node r (access r p part)
unfolding access
stays_access r p part h =
    stays_case leaves_node r (cases_of_access r p) part
    (stays_refused leaves_node r (Pending p), (stays_excepted leaves_node r (at_once (No (NotNoted p)) (pended r p)) (NotNoted p) refl refl, (stays_notes r p, tt))) h

stays_pairs : (h : Here) (r : Replica) (txn : ℕ) (earlier pairs : List Pair) (part : Part) → Stays leaves_node r part → Stays leaves_node r (pairs_pass h r txn earlier pairs part)
stays_pairs h r txn earlier [] part q = q
stays_pairs h r txn earlier (pair ∷ pairs) part q =
    let cs : List Check = checks_of_pair h.pages txn earlier pair (effective h.pages r (page_of h.pages pair.key)) in
    stays_access r (page_of h.pages pair.key) (unless cs r (pairs_pass h r txn (earlier ++ pair ∷ []) pairs part))
    (stays_unless leaves_node cs r (pairs_pass h r txn (earlier ++ pair ∷ []) pairs part) (stays_pairs h r txn (earlier ++ pair ∷ []) pairs part q))

set_stays : (h : Here) (r : Replica) (pairs : List Pair) → Stays leaves_node r (set_part h r pairs)
unfolding set_part
set_stays h r pairs =
    let new : List Record = records_of_set h.pages (r.leading.last_txn + 1) pairs in
    stays_unless leaves_node (checks_of_begin h r) r (pairs_pass h r (r.leading.last_txn + 1) [] pairs (sets r new))
    (stays_pairs h r (r.leading.last_txn + 1) [] pairs (sets r new)
    (stays_unless leaves_node (buffer_is_full r new ∷ []) r (at_once (Lsn (full_end r + length new)) (with_set r new)) (λ why e t. absurd cc)))

harden_stays : (h : Here) (r : Replica) → Stays leaves_node r (harden_part h r)
unfolding harden_part
harden_stays h r = stays_unless leaves_node (checks_of_harden h r) r (hardens h.pages r (due_pages h.pages (hardened_one h.pages r))) (λ why e t. absurd cc)

redo_stays : (h : Here) (r : Replica) → Stays leaves_node r (redo_part h r)
unfolding redo_part
redo_stays h r = stays_unless leaves_node (checks_of_redo h r) r (redoes_touching h.pages r (touched_up_to h.pages (end r) r)) (λ why e t. absurd cc)

apply_stays : (h : Here) (r : Replica) (x : ℕ) → Stays leaves_node r (apply_part h r x)
unfolding apply_part
apply_stays h r x = stays_unless leaves_node (checks_of_apply h r x) r (applies_touching h.pages r x (next_of_stripe r x) (touched_in_stripe h.pages r x (next_of_stripe r x))) (λ why e t. absurd cc)

raise_stays : (h : Here) (r : Replica) (x : ℕ) → Stays leaves_node r (raise_part h r x)
unfolding raise_part
raise_stays h r x = stays_unless leaves_node (checks_of_raise h r x) r (at_once (Raised (stripe r x).applied) (raised r x)) (λ why e t. absurd cc)

crash_stays : (h : Here) (r : Replica) → Stays leaves_node r (crash_part h r)
unfolding crash_part
crash_stays h r = stays_unless leaves_node (is_down h r ∷ []) r (at_once Crashed (fallen r r.kept)) (λ why e t. absurd cc)

flush_stays : (h : Here) (r : Replica) → Stays leaves_node r (flush_part h r)
unfolding flush_part
flush_stays h r = stays_unless leaves_node (checks_of_flush h r) r (flushes r (pages_to_flush h.pages r)) (λ why e t. absurd cc)

page_stays : (h : Here) (r : Replica) (p : ℕ) → Stays leaves_node r (page_part h r p)
unfolding page_part
page_stays h r p = stays_unless leaves_node (is_down h r ∷ reverts r ∷ []) r (at_once (if is_bad r p then PageBad else page_answer (page_value h.pages r p)) r) (λ why e t. (refl, refl))

sectors_stays : (r : Replica) (p : ℕ) → Stays leaves_node r (sectors_part r p)
unfolding sectors_part
sectors_stays r p why e t = (refl, refl)

start_stays : (h : Here) (r : Replica) → Stays leaves_node r (start_part h r)
unfolding start_part
start_stays h r =
    let new = start_records h r in
    stays_unless leaves_node (checks_of_start h r new) r (starts h r new)
    (stays_if leaves_node r (is_reverting r.state) (starts_reverting r) (starts_redoing h r new) (λ why e t. absurd cc)
    (stays_if leaves_node r (is_named h) (starts_first h r new) (starts_second r (touched_up_to h.pages (end r) r)) (λ why e t. absurd cc) (λ why e t. absurd cc)))

row_told : (at : ℕ) (row : Row) (r : Replica) → Stays leaves_node r (at_once (row_answer at row) r)
row_told at (Found value) r why e t = (refl, refl)
row_told at Absent r why e t = (refl, refl)

read_stays : (h : Here) (r : Replica) (t : Token) (key : ℕ) → Stays leaves_node r (read_part h r t key)
unfolding read_part
read_stays h r t key =
    stays_unless leaves_node (checks_of_read h r t) r (reads_at h r (front r) key)
    (stays_access r (page_of h.pages key) (unless (is_too_old (front r) (page_value h.pages r (page_of h.pages key)).horizon ∷ []) r (at_once (row_answer (front r) (rows (records r) (front r) key)) r))
    (stays_unless leaves_node (is_too_old (front r) (page_value h.pages r (page_of h.pages key)).horizon ∷ []) r (at_once (row_answer (front r) (rows (records r) (front r) key)) r) (row_told (front r) (rows (records r) (front r) key) r)))

sends_stay : (r : Replica) (m : ℕ) (last : Option ℕ) → Stays leaves_node r (sends r m last)
sends_stay r m None why e t = absurd cc
sends_stay r m (Some last) why e t = absurd cc

send_stays : (h : Here) (r : Replica) (m : ℕ) (full : Bool) → Stays leaves_node r (send_part h r m full)
unfolding send_part
send_stays h r m full = stays_unless leaves_node (checks_of_send h r m full) r (sends r m (block_to_send r m)) (sends_stay r m (block_to_send r m))

-- a block that is hardened
abbrev hardens_block : ℕ → Replica → Block → Part
hardens_block n r b = writing (Hardened (end r + length b.records)) (each_synced (Block_write b.records ∷ [])) (acks n r (end r + length b.records)) r

block_stays : (h : Here) (n : ℕ) (r : Replica) (full : Bool) (term : ℕ) (b : Block) → Stays leaves_message r (block_part h n r full term b)
unfolding block_part
block_stays h n r full term b =
    stays_case leaves_message r (cases_of_block h n r full term b) (hardens_block n r b)
    (stays_refused leaves_message r Nothing, (stays_refused leaves_message r (Gap (end r + 1) b.first), (stays_refused leaves_message r (LinkFull h.number n), (stays_excepted leaves_message r (sending (No Nothing) (acks n r (end r)) r) Nothing refl refl, (stays_refused leaves_message r (log_check r (b.records ∷ [])).refusal, tt))))) (λ why e t. absurd cc)

-- a message that is refused so stays in its place
abbrev pub Remains : Part → Type 0
Remains part = (why : Refusal) → part.answer ≡ No why → leaves_message why ≡ true → refusal_leaves why ≡ true

remains_if : (b : Bool) (x y : Part) → Remains x → Remains y → Remains (if b then x else y)
remains_if true x y p q = p
remains_if false x y p q = q

abbrev EachRemains : List Case → Type 0
EachRemains [] = Unit {0}
EachRemains (c ∷ cs) = Remains c.part × EachRemains cs

remains_case : (cs : List Case) (last : Part) → EachRemains cs → Remains last → Remains (first_case cs last)
remains_case [] last each h = h
remains_case (c ∷ cs) last each h = remains_if c.when c.part (first_case cs last) each.0 (remains_case cs last each.1 h)

remains_excepted : (part : Part) (why : Refusal) → part.answer ≡ No why → leaves_message why ≡ false → Remains part
remains_excepted part why is none other e t =
    let same : why ≡ other = (let f : No why ≡ No other = sym is ∙ e in cc) in
    absurd (let f : false ≡ true = sym none ∙ ap leaves_message same ∙ t in cc)

remains_there : (part : Part) (why : Refusal) → part.answer ≡ No why → refusal_leaves why ≡ true → Remains part
remains_there part why is there other e t =
    let same : why ≡ other = (let f : No why ≡ No other = sym is ∙ e in cc) in
    sym (ap refusal_leaves same) ∙ there

block_remains : (h : Here) (n : ℕ) (r : Replica) (full : Bool) (term : ℕ) (b : Block) → Remains (block_part h n r full term b)
unfolding block_part
block_remains h n r full term b =
    remains_case (cases_of_block h n r full term b) (hardens_block n r b) (
      remains_excepted (refused Nothing r) Nothing refl refl,
      (
        remains_there (refused (Gap (end r + 1) b.first) r) (Gap (end r + 1) b.first) refl refl,
        (
          remains_there (refused (LinkFull h.number n) r) (LinkFull h.number n) refl refl,
          (remains_excepted (sending (No Nothing) (acks n r (end r)) r) Nothing refl refl, (remains_there (refused (log_check r (b.records ∷ [])).refusal r) (log_check r (b.records ∷ [])).refusal refl refl, tt)),
        ),
      ),
    ) (λ why e t. absurd cc)

-- what is done where an Ack tells something
abbrev knows : ℕ → Replica → ℕ → ℕ → Part
knows n r hardened low = at_once (Known (max (peer r n).hardened hardened)) (with_peer r n (known_peer (peer r n) hardened low))

ack_stays : (n : ℕ) (r : Replica) (term hardened low : ℕ) → Stays leaves_message r (ack_message_part n r term hardened low)
unfolding ack_message_part
ack_stays n r term hardened low = stays_unless leaves_message (checks_of_ack_message n r term) r (knows n r hardened low) (λ why e t. absurd cc)

ack_remains : (n : ℕ) (r : Replica) (term hardened low : ℕ) → Remains (ack_message_part n r term hardened low)
unfolding ack_message_part
ack_remains n r term hardened low = remains_if _ (refused Nothing r) (knows n r hardened low) (remains_excepted (refused Nothing r) Nothing refl refl) (λ why e t. absurd cc)

body_stays : (h : Here) (n : ℕ) (r : Replica) (full : Bool) (term : ℕ) (body : Body) → IsBuiltBody body → Stays leaves_message r (arrives h n r full term body) × Remains (arrives h n r full term body)
body_stays h n r full term (BlockBody b) built = (block_stays h n r full term b, block_remains h n r full term b)
body_stays h n r full term (Ack hardened low) built = (ack_stays n r term hardened low, ack_remains n r term hardened low)
body_stays h n r full term _ built = absurd built

-- a part that stays leaves the group
node_stays : (test : Refusal → Bool) (g : Group) (n : ℕ) (part : Part) → Stays test (replica g n) part → (why : Refusal) → part.answer ≡ No why → test why ≡ true → (at_node g n part).after ≡ g
node_stays test g n part stays why e t =
    ap (λ (out : List Posting). posted n out (with_replica g n part.after)) (stays why e t).1 ∙ ap (with_replica g n) (stays why e t).0 ∙ (λ i. record g { replicas = set-get_or g.replicas n nobody i })

session_stays : (g : Group) (n s : ℕ) (part : Part) → Stays leaves_node (replica g n) part → (why : Refusal) → part.answer ≡ No why → leaves_node why ≡ true → (at_session g n s part).after ≡ g
session_stays g n s part stays why e t =
    (λ i. with_token (node_stays leaves_node g n part stays why e t i) s (replica g n).term (e i)) ∙ (λ i. record g { tokens = set-get_or g.tokens s None i })

apart_stays : (g : Group) (n m : ℕ) (plan : Plan) (why : Refusal) → ((n == m) ≡ false → plan.answer ≡ No why → plan.after ≡ g) → (apart g n m plan).answer ≡ No why → (apart g n m plan).after ≡ g
apart_stays g n m plan why rest = by_test (n == m) refl
  where
    by_test : (b : Bool) → (n == m) ≡ b → (if b then at_node g n (refused Nothing (replica g n)) else plan).answer ≡ No why → (if b then at_node g n (refused Nothing (replica g n)) else plan).after ≡ g
    by_test true q e = λ i. record g { replicas = set-get_or g.replicas n nobody i }
    by_test false q e = rest q e

-- an answer that leaves the group, of a plan that stays
pub left_by : (e : Event) (test : Refusal → Bool) (g new : Group) (plan : Plan) (a : Answer) → ((why : Refusal) → leaves_group e why ≡ test why) → a ≡ plan.answer → new ≡ plan.after
    → ((why : Refusal) → plan.answer ≡ No why → test why ≡ true → plan.after ≡ g) → IsLeft e a → new ≡ g
left_by e test g new plan (No why) same is n h t = n ∙ h why (sym is) (sym (same why) ∙ t)
left_by e test g new plan _ same is n h t = absurd t

pub set_left : (g : Group) (n : ℕ) (pairs : List Pair) (why : Refusal) → (at_node g n (set_part (here g n) (replica g n) pairs)).answer ≡ No why → leaves_node why ≡ true → (at_node g n (set_part (here g n) (replica g n) pairs)).after ≡ g
set_left g n pairs = node_stays leaves_node g n (set_part (here g n) (replica g n) pairs) (set_stays (here g n) (replica g n) pairs)

pub harden_left : (g : Group) (n : ℕ) (why : Refusal) → (at_node g n (harden_part (here g n) (replica g n))).answer ≡ No why → leaves_node why ≡ true → (at_node g n (harden_part (here g n) (replica g n))).after ≡ g
harden_left g n = node_stays leaves_node g n (harden_part (here g n) (replica g n)) (harden_stays (here g n) (replica g n))

pub redo_left : (g : Group) (n : ℕ) (why : Refusal) → (at_node g n (redo_part (here g n) (replica g n))).answer ≡ No why → leaves_node why ≡ true → (at_node g n (redo_part (here g n) (replica g n))).after ≡ g
redo_left g n = node_stays leaves_node g n (redo_part (here g n) (replica g n)) (redo_stays (here g n) (replica g n))

pub apply_left : (g : Group) (n x : ℕ) (why : Refusal) → (at_node g n (apply_part (here g n) (replica g n) x)).answer ≡ No why → leaves_node why ≡ true → (at_node g n (apply_part (here g n) (replica g n) x)).after ≡ g
apply_left g n x = node_stays leaves_node g n (apply_part (here g n) (replica g n) x) (apply_stays (here g n) (replica g n) x)

pub raise_left : (g : Group) (n x : ℕ) (why : Refusal) → (at_node g n (raise_part (here g n) (replica g n) x)).answer ≡ No why → leaves_node why ≡ true → (at_node g n (raise_part (here g n) (replica g n) x)).after ≡ g
raise_left g n x = node_stays leaves_node g n (raise_part (here g n) (replica g n) x) (raise_stays (here g n) (replica g n) x)

pub crash_left : (g : Group) (n : ℕ) (why : Refusal) → (at_node g n (crash_part (here g n) (replica g n))).answer ≡ No why → leaves_node why ≡ true → (at_node g n (crash_part (here g n) (replica g n))).after ≡ g
crash_left g n = node_stays leaves_node g n (crash_part (here g n) (replica g n)) (crash_stays (here g n) (replica g n))

pub start_left : (g : Group) (n : ℕ) (why : Refusal) → (at_node g n (start_part (here g n) (replica g n))).answer ≡ No why → leaves_node why ≡ true → (at_node g n (start_part (here g n) (replica g n))).after ≡ g
start_left g n = node_stays leaves_node g n (start_part (here g n) (replica g n)) (start_stays (here g n) (replica g n))

pub flush_left : (g : Group) (n : ℕ) (why : Refusal) → (at_node g n (flush_part (here g n) (replica g n))).answer ≡ No why → leaves_node why ≡ true → (at_node g n (flush_part (here g n) (replica g n))).after ≡ g
flush_left g n = node_stays leaves_node g n (flush_part (here g n) (replica g n)) (flush_stays (here g n) (replica g n))

pub page_left : (g : Group) (n p : ℕ) (why : Refusal) → (at_node g n (page_part (here g n) (replica g n) p)).answer ≡ No why → leaves_node why ≡ true → (at_node g n (page_part (here g n) (replica g n) p)).after ≡ g
page_left g n p = node_stays leaves_node g n (page_part (here g n) (replica g n) p) (page_stays (here g n) (replica g n) p)

pub sectors_left : (g : Group) (n p : ℕ) (why : Refusal) → (at_node g n (sectors_part (replica g n) p)).answer ≡ No why → leaves_node why ≡ true → (at_node g n (sectors_part (replica g n) p)).after ≡ g
sectors_left g n p = node_stays leaves_node g n (sectors_part (replica g n) p) (sectors_stays (replica g n) p)

pub read_left : (g : Group) (n s key : ℕ) (why : Refusal) → (at_session g n s (read_part (here g n) (replica g n) (token g s) key)).answer ≡ No why → leaves_node why ≡ true → (at_session g n s (read_part (here g n) (replica g n) (token g s) key)).after ≡ g
read_left g n s key = session_stays g n s (read_part (here g n) (replica g n) (token g s) key) (read_stays (here g n) (replica g n) (token g s) key)

pub send_left : (g : Group) (n m : ℕ) (why : Refusal) → (apart g n m (at_node g n (send_part (here g n) (replica g n) m (is_full g n m)))).answer ≡ No why → leaves_node why ≡ true
    → (apart g n m (at_node g n (send_part (here g n) (replica g n) m (is_full g n m)))).after ≡ g
send_left g n m why e t =
    apart_stays g n m (at_node g n (send_part (here g n) (replica g n) m (is_full g n m))) why
    (λ two q. node_stays leaves_node g n (send_part (here g n) (replica g n) m (is_full g n m)) (send_stays (here g n) (replica g n) m (is_full g n m)) why q t) e

-- a delivery that is refused so: the message stays, and the node is as it was
arrival_left : (g : Group) (n m i : ℕ) (repeats : Bool) (message : Message) → IsBuiltBody message.body → (why : Refusal) → (message_part (here g m) n (replica g m) (is_full g m n) message).answer ≡ No why → leaves_message why ≡ true
    → (plan_of_message g n m i repeats (Some message)).after ≡ g
arrival_left g n m i repeats message built why e t =
    let r : Replica = replica g m in
    let part : Part = message_part (here g m) n r (is_full g m n) message in
    let both = body_stays (here g m) n r (is_full g m n) message.term message.body built in
    let stays : Stays leaves_message r part = stays_if leaves_message r (not r.up) (refused (Down m) r) (arrives (here g m) n r (is_full g m n) message.term message.body) (stays_excepted leaves_message r (refused (Down m) r) (Down m) refl refl) both.0 in
    let remains : Remains part = remains_if (not r.up) (refused (Down m) r) (arrives (here g m) n r (is_full g m n) message.term message.body) (remains_excepted (refused (Down m) r) (Down m) refl refl) both.1 in
    let stays_there : leaves part.answer ≡ true = ap leaves e ∙ remains why e t in
    (λ j. posted m ((stays why e t).1 j) (with_replica (if repeats then g else if stays_there j then g else taken g n m i) m ((stays why e t).0 j)))
    ∙ (λ j. with_replica (left_in repeats g j) m (replica g m)) ∙ (λ j. record g { replicas = set-get_or g.replicas m nobody j })
  where
    left_in : (b : Bool) (h : Group) → (if b then h else h) ≡ h
    left_in true h = refl
    left_in false h = refl

pub deliver_left : (g : Group) (n m i : ℕ) (repeats : Bool) → ((message : Message) → (n == m) ≡ false → slice_get (link g n m) (i - 1) ≡ Some message → IsBuiltBody message.body) → (why : Refusal)
    → (apart g n m (plan_of_deliver g n m i repeats)).answer ≡ No why → leaves_message why ≡ true → (apart g n m (plan_of_deliver g n m i repeats)).after ≡ g
unfolding plan_of_deliver
deliver_left g n m i repeats built why e t = apart_stays g n m (plan_of_deliver g n m i repeats) why (λ two. by_found two (slice_get (link g n m) (i - 1)) refl) e
  where
    by_found : (n == m) ≡ false → (found : Option Message) → slice_get (link g n m) (i - 1) ≡ found → (plan_of_message g n m i repeats found).answer ≡ No why → (plan_of_message g n m i repeats found).after ≡ g
    by_found two None is q = λ j. record g { replicas = set-get_or g.replicas m nobody j }
    by_found two (Some message) is q = arrival_left g n m i repeats message (built message two is) why q t

-- a loss that is refused
pub lose_left : (g : Group) (n m i : ℕ) (why : Refusal) → (apart g n m (plan_of_lose g n m i)).answer ≡ No why → leaves_node why ≡ true → (apart g n m (plan_of_lose g n m i)).after ≡ g
unfolding plan_of_lose
lose_left g n m i why e t = apart_stays g n m (plan_of_lose g n m i) why (λ two. by_found (slice_get (link g n m) (i - 1))) e
  where
    by_found : (found : Option Message) → (plan_of_loss g n m i found).answer ≡ No why → (plan_of_loss g n m i found).after ≡ g
    by_found None q = λ j. record g { replicas = set-get_or g.replicas m nobody j }
    by_found (Some message) q = absurd cc
