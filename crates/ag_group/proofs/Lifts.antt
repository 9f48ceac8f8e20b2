-- An event of one node, as an event of the group.
use Rattle.std.proofs.Common.{◌≡◌, ℕ, ◌+◌, ◌<◌, List, [], ◌∷◌, ◌++◌, length, get_or, set, Bool, true, false, not, refl, sym, ap, ◌∙◌}
use Rattle.std.specs.Prelude.{Option, Some, None, slice_get, if◌then◌else◌, ◌-◌, ◌==◌}
use Rattle.std.proofs.lemmas.List.{get_or_read, set-get_or}
use Rattle.ag_model.specs.declared.config.Token.{Token}
use Rattle.ag_model.specs.declared.event.Pair.{Pair}
use Rattle.ag_model.specs.declared.record.Record.{Record}
use Rattle.ag_model.specs.declared.answer.Answer.{Answer}
use Rattle.ag_rules.specs.Replica.{Replica}
use Rattle.ag_rules.specs.Group.{Group, replica, nobody, with_replica, link, is_full}
use Rattle.ag_rules.specs.Plan.{Part, Plan, Posting, Here, Check, Case, here, at_node, posted, unless, first_case, refused, at_once}
use Rattle.ag_rules.specs.Access.{access, cases_of_access}
use Rattle.ag_model.specs.declared.answer.Answer.TheVariants.{Lsn, Crashed, Status, PageBad}
use Rattle.ag_model.specs.declared.answer.Refusal.TheVariants.{Down, Nothing}
use Rattle.ag_model.specs.declared.config.Mode.{Mode}
use Rattle.ag_model.specs.Rows.{page_of, rows}
use Rattle.ag_rules.specs.Replica.{end, fallen, front, full_end, effective, is_bad, is_reverting, records, page_value, stripe}
use Rattle.ag_rules.specs.Checks.{buffer_is_full}
use Rattle.ag_rules.specs.BeginEvent.{checks_of_begin}
use Rattle.ag_rules.specs.Redo.{due_pages, touched_up_to}
use Rattle.ag_rules.specs.SetEvent.{set_part, pairs_pass, sets, records_of_set, checks_of_pair, with_set}
use Rattle.ag_rules.specs.HardenEvent.{harden_part, hardens, hardened_one, checks_of_harden}
use Rattle.ag_rules.specs.RedoEvent.{redo_part, redoes_touching, checks_of_redo}
use Rattle.ag_rules.specs.ApplyEvent.{apply_part, applies_touching, checks_of_apply, next_of_stripe, touched_in_stripe}
use Rattle.ag_rules.specs.RaiseEvent.{raise_part, raised, checks_of_raise}
use Rattle.ag_rules.specs.ReadEvent.{read_part, reads_at, checks_of_read, row_answer, is_too_old}
use Rattle.ag_rules.specs.CrashEvent.{crash_part}
use Rattle.ag_rules.specs.StartEvent.{start_part, start_records, checks_of_start, starts, starts_reverting, starts_redoing, starts_first, starts_second, is_named}
use Rattle.ag_rules.specs.FlushEvent.{flush_part, flushes, pages_to_flush, checks_of_flush}
use Rattle.ag_rules.specs.LookEvent.{page_part, page_answer, sectors_part, status_part, role_of, printed_state}
use Rattle.ag_model.specs.declared.message.Message.{Message}
use Rattle.ag_model.specs.declared.message.Body.{Body}
use Rattle.ag_model.specs.declared.message.Body.TheVariants.{Block, Ack}
use Rattle.ag_rules.specs.Checks.{is_down, reverts}
use Rattle.ag_rules.specs.SendEvent.{send_part, sends, checks_of_send, block_to_send}
use Rattle.ag_rules.specs.BlockMessage.{block_part}
use Rattle.ag_rules.specs.DeliverEvent.{message_part, arrives, plan_of_lose, plan_of_loss}
use Rattle.std.specs.Prelude.{max}
use Rattle.ag_model.specs.declared.answer.Answer.TheVariants.{Known, Raised}
use Rattle.ag_rules.specs.Replica.{peer, with_peer}
use Rattle.ag_rules.specs.AckMessage.{ack_message_part, checks_of_ack_message, known_peer}
use Rattle.ag_built.specs.Built.{IsBuiltBody}
use Rattle.ag_rules.specs.Next.{apart, at_session, with_token, token_after, session_of}
use Rattle.ag_node.specs.declared.site.Site.{Site}
use Rattle.ag_node.specs.Sites.{here_at, here_among}

-- what an event does at a place, to a replica
abbrev pub Doing : Type 0
Doing = Here → Replica → Part

-- it asks for no modes
abbrev pub AsksNoModes : Doing → Type 0
AsksNoModes F = (h : Here) (r : Replica) → F (record h { modes = [] }) r ≡ F h r

-- it sends nothing
abbrev pub IsQuiet : Doing → Type 0
IsQuiet F = (h : Here) (r : Replica) → (F h r).out ≡ []

-- the place that the code knows is the place of the rules
pub place_is : (g : Group) (n : ℕ) (site : Site) → site.number ≡ n → site.pages ≡ g.config.pages → site.store ≡ g.register → here_at site ≡ record (here g n) { modes = [] }
place_is g n site a b c = λ i. record { number = a i; pages = b i; modes = []; store = c i }

pub part_is : (F : Doing) → AsksNoModes F → (g : Group) (n n' : ℕ) (site : Site) (old : Replica) → n < length g.replicas → site.number ≡ n → site.pages ≡ g.config.pages → site.store ≡ g.register → n' ≡ n → old ≡ get_or g.replicas n' old
    → F (here_at site) old ≡ F (here g n) (replica g n)
part_is F free g n n' site old within a b c e o =
    (λ i. F (place_is g n site a b c i) (get_or_read g.replicas n old within (o ∙ ap (λ (k : ℕ). get_or g.replicas k old) e) nobody i)) ∙ free (here g n) (replica g n)

-- the group after an event of one node that sends nothing
pub lifted : (F : Doing) → AsksNoModes F → IsQuiet F → (g g' : Group) (n n' : ℕ) (site : Site) (old new : Replica) → n < length g.replicas → site.number ≡ n → site.pages ≡ g.config.pages → site.store ≡ g.register → n' ≡ n → old ≡ get_or g.replicas n' old
    → new ≡ (F (here_at site) old).after → g ≡ g' → record g { replicas = set g.replicas n' new } ≡ (at_node g' n (F (here g' n) (replica g' n))).after
lifted F free quiet g g' n n' site old new within a b c e o step is =
    (λ i. record g { replicas = set g.replicas (e i) ((step ∙ ap (λ (x : Part). x.after) (part_is F free g n n' site old within a b c e o)) i) })
    ∙ ap (λ (out : List Posting). posted n out (with_replica g n (F (here g n) (replica g n)).after)) (sym (quiet (here g n) (replica g n)))
    ∙ (λ i. (at_node (is i) n (F (here (is i) n) (replica (is i) n))).after)

pub told : (F : Doing) → AsksNoModes F → (g g' : Group) (n n' : ℕ) (site : Site) (old : Replica) (a : Answer) → n < length g.replicas → site.number ≡ n → site.pages ≡ g.config.pages → site.store ≡ g.register → n' ≡ n → old ≡ get_or g.replicas n' old
    → a ≡ (F (here_at site) old).answer → g ≡ g' → a ≡ (F (here g' n) (replica g' n)).answer
told F free g g' n n' site old answer within a b c e o step is =
    step ∙ ap (λ (x : Part). x.answer) (part_is F free g n n' site old within a b c e o) ∙ (λ i. (F (here (is i) n) (replica (is i) n)).answer)

-- parts that send nothing

pub unless_out : (cs : List Check) (r : Replica) (part : Part) → part.out ≡ [] → (unless cs r part).out ≡ []
unless_out [] r part h = h
unless_out (c ∷ cs) r part h = elim (c.when) as (λ b. (if b then refused c.refusal r else unless cs r part).out ≡ []) [ true ↦ refl | false ↦ unless_out cs r part h ]

-- no case sends anything
abbrev pub NoneSends : List Case → Type 0
NoneSends [] = Unit {0}
NoneSends (c ∷ cs) = (c.part.out ≡ []) × NoneSends cs

pub case_out : (cs : List Case) (last : Part) → NoneSends cs → last.out ≡ [] → (first_case cs last).out ≡ []
case_out [] last none h = h
case_out (c ∷ cs) last none h = elim (c.when) as (λ b. (if b then c.part else first_case cs last).out ≡ []) [ true ↦ none.0 | false ↦ case_out cs last none.1 h ]

access_out : (r : Replica) (p : ℕ) (part : Part) → part.out ≡ [] → (access r p part).out ≡ []
unfolding access
access_out r p part h = case_out (cases_of_access r p) part (refl, (refl, (refl, tt))) h

pairs_out : (h : Here) (r : Replica) (txn : ℕ) (earlier pairs : List Pair) (part : Part) → part.out ≡ [] → (pairs_pass h r txn earlier pairs part).out ≡ []
pairs_out h r txn earlier [] part q = q
pairs_out h r txn earlier (pair ∷ pairs) part q =
    let cs : List Check = checks_of_pair h.pages txn earlier pair (effective h.pages r (page_of h.pages pair.key)) in
    access_out r (page_of h.pages pair.key) (unless cs r (pairs_pass h r txn (earlier ++ pair ∷ []) pairs part))
    (unless_out cs r (pairs_pass h r txn (earlier ++ pair ∷ []) pairs part) (pairs_out h r txn (earlier ++ pair ∷ []) pairs part q))

pairs_free : (h : Here) (r : Replica) (txn : ℕ) (earlier pairs : List Pair) (part : Part) → pairs_pass (record h { modes = [] }) r txn earlier pairs part ≡ pairs_pass h r txn earlier pairs part
pairs_free h r txn earlier [] part = refl
pairs_free h r txn earlier (pair ∷ pairs) part =
    ap (λ (x : Part). access r (page_of h.pages pair.key) (unless (checks_of_pair h.pages txn earlier pair (effective h.pages r (page_of h.pages pair.key))) r x)) (pairs_free h r txn (earlier ++ pair ∷ []) pairs part)

pub set_quiet : (pairs : List Pair) → IsQuiet (λ h r. set_part h r pairs)
unfolding set_part
set_quiet pairs h r =
    let new : List Record = records_of_set h.pages (r.leading.last_txn + 1) pairs in
    unless_out (checks_of_begin h r) r (pairs_pass h r (r.leading.last_txn + 1) [] pairs (sets r new))
    (pairs_out h r (r.leading.last_txn + 1) [] pairs (sets r new) (unless_out (buffer_is_full r new ∷ []) r (at_once (Lsn (full_end r + length new)) (with_set r new)) refl))

pub set_free : (pairs : List Pair) → AsksNoModes (λ h r. set_part h r pairs)
unfolding set_part
set_free pairs h r = ap (λ (x : Part). unless (checks_of_begin h r) r x) (pairs_free h r (r.leading.last_txn + 1) [] pairs (sets r (records_of_set h.pages (r.leading.last_txn + 1) pairs)))

pub harden_quiet : IsQuiet harden_part
unfolding harden_part
harden_quiet h r = unless_out (checks_of_harden h r) r (hardens h.pages r (due_pages h.pages (hardened_one h.pages r))) refl

pub harden_free : AsksNoModes harden_part
unfolding harden_part
harden_free h r = refl

pub redo_quiet : IsQuiet redo_part
unfolding redo_part
redo_quiet h r = unless_out (checks_of_redo h r) r (redoes_touching h.pages r (touched_up_to h.pages (end r) r)) refl

pub redo_free : AsksNoModes redo_part
unfolding redo_part
redo_free h r = refl

pub apply_quiet : (x : ℕ) → IsQuiet (λ h r. apply_part h r x)
unfolding apply_part
apply_quiet x h r = unless_out (checks_of_apply h r x) r (applies_touching h.pages r x (next_of_stripe r x) (touched_in_stripe h.pages r x (next_of_stripe r x))) refl

pub apply_free : (x : ℕ) → AsksNoModes (λ h r. apply_part h r x)
unfolding apply_part
apply_free x h r = refl

pub raise_quiet : (x : ℕ) → IsQuiet (λ h r. raise_part h r x)
unfolding raise_part
raise_quiet x h r = unless_out (checks_of_raise h r x) r (at_once (Raised (stripe r x).applied) (raised r x)) refl

pub raise_free : (x : ℕ) → AsksNoModes (λ h r. raise_part h r x)
unfolding raise_part
raise_free x h r = refl

-- a read changes nothing at its node

pub read_free : (t : Token) (key : ℕ) → AsksNoModes (λ h r. read_part h r t key)
unfolding read_part
read_free t key h r = refl

pub read_quiet : (t : Token) (key : ℕ) → IsQuiet (λ h r. read_part h r t key)
unfolding read_part
read_quiet t key h r = unless_out (checks_of_read h r t) r (reads_at h r (front r) key)
    (access_out r (page_of h.pages key) (unless (is_too_old (front r) (page_value h.pages r (page_of h.pages key)).horizon ∷ []) r (at_once (row_answer (front r) (rows (records r) (front r) key)) r)) (unless_out (is_too_old (front r) (page_value h.pages r (page_of h.pages key)).horizon ∷ []) r (at_once (row_answer (front r) (rows (records r) (front r) key)) r) refl))

-- the group after an event of a session that sends nothing
pub session_lifted : (F : Doing) → AsksNoModes F → IsQuiet F → (g g' : Group) (n n' s s' : ℕ) (site : Site) (old new : Replica) (seen now : Option Token) (a : Answer) (term : ℕ) → n < length g.replicas → site.number ≡ n → site.pages ≡ g.config.pages → site.store ≡ g.register → n' ≡ n → old ≡ get_or g.replicas n' old
    → new ≡ (F (here_at site) old).after → a ≡ (F (here_at site) old).answer → seen ≡ get_or g.tokens s None → term ≡ old.term → now ≡ token_after term a seen → s' ≡ s → g ≡ g'
    → record g { replicas = set g.replicas n' new; tokens = set g.tokens s' now } ≡ (at_session g' n s (F (here g' n) (replica g' n))).after
session_lifted F free quiet g g' n n' s s' site old new seen now a term within x y z e o left step t u v w is =
    let node : old ≡ replica g n = get_or_read g.replicas n old within (o ∙ ap (λ (k : ℕ). get_or g.replicas k old) e) nobody in
    let after : record g { replicas = set g.replicas n' new } ≡ (at_node g n (F (here g n) (replica g n))).after = lifted F free quiet g g n n' site old new within x y z e o left refl in
    let answer : a ≡ (F (here g n) (replica g n)).answer = told F free g g n n' site old a within x y z e o step refl in
    let term_is : term ≡ (replica g n).term = u ∙ ap (λ (r : Replica). r.term) node in
    let token_is : now ≡ token_after (replica g n).term (F (here g n) (replica g n)).answer (session_of g s) = v ∙ (λ i. token_after (term_is i) (answer i) (t i)) in
    (λ i. record g { replicas = set g.replicas n' new; tokens = set g.tokens (w i) (token_is i) })
    ∙ (λ i. with_token (after i) s (replica g n).term (F (here g n) (replica g n)).answer)
    ∙ (λ i. (at_session (is i) n s (F (here (is i) n) (replica (is i) n))).after)

-- the group once a node did its part, before anything is sent
pub stepped : (F : Doing) → AsksNoModes F → (g g' : Group) (n n' : ℕ) (site : Site) (old new : Replica) → n < length g.replicas → site.number ≡ n → site.pages ≡ g.config.pages → site.store ≡ g.register → n' ≡ n → old ≡ get_or g.replicas n' old
    → new ≡ (F (here_at site) old).after → g ≡ g' → record g { replicas = set g.replicas n' new } ≡ with_replica g' n (F (here g' n) (replica g' n)).after
stepped F free g g' n n' site old new within a b c e o step is =
    (λ i. record g { replicas = set g.replicas (e i) ((step ∙ ap (λ (x : Part). x.after) (part_is F free g n n' site old within a b c e o)) i) })
    ∙ (λ i. with_replica (is i) n (F (here (is i) n) (replica (is i) n)).after)

pub sent : (F : Doing) → AsksNoModes F → (g g' : Group) (n n' : ℕ) (site : Site) (old : Replica) (out : List Posting) → n < length g.replicas → site.number ≡ n → site.pages ≡ g.config.pages → site.store ≡ g.register → n' ≡ n → old ≡ get_or g.replicas n' old
    → out ≡ (F (here_at site) old).out → g ≡ g' → out ≡ (F (here g' n) (replica g' n)).out
sent F free g g' n n' site old out within a b c e o step is =
    step ∙ ap (λ (x : Part). x.out) (part_is F free g n n' site old within a b c e o) ∙ (λ i. (F (here (is i) n) (replica (is i) n)).out)

pub send_free : (m : ℕ) (full : Bool) → AsksNoModes (λ h r. send_part h r m full)
unfolding send_part
send_free m full h r = refl

pub message_free : (from : ℕ) (full : Bool) (message : Message) → IsBuiltBody message.body → AsksNoModes (λ h r. message_part h from r full message)
unfolding block_part
message_free from full message built h r = ap (λ (x : Part). unless (is_down h r ∷ []) r x) (body_free message.body built)
  where
    body_free : (body : Body) → IsBuiltBody body → arrives (record h { modes = [] }) from r full message.term body ≡ arrives h from r full message.term body
    body_free (Block b) built = refl
    body_free (Ack hardened low) built = refl
    body_free _ built = absurd built

pub ack_quiet : (h : Here) (from : ℕ) (r : Replica) (full : Bool) (term hardened low : ℕ) → (unless (is_down h r ∷ []) r (arrives h from r full term (Ack hardened low))).out ≡ []
unfolding ack_message_part
ack_quiet h from r full term hardened low =
    unless_out (is_down h r ∷ []) r (ack_message_part from r term hardened low) (unless_out (checks_of_ack_message from r term) r (at_once (Known (max (peer r from).hardened hardened)) (with_peer r from (known_peer (peer r from) hardened low))) refl)

-- a crash, a start and a status

pub crash_quiet : IsQuiet crash_part
unfolding crash_part
crash_quiet h r = unless_out (is_down h r ∷ []) r (at_once Crashed (fallen r r.kept)) refl

pub crash_free : AsksNoModes crash_part
unfolding crash_part
crash_free h r = refl

pub status_quiet : IsQuiet status_part
unfolding status_part
status_quiet h r = unless_out (is_down h r ∷ []) r (at_once (Status (role_of r) (printed_state h r) r.term (end r) (front r)) r) refl

pub status_free : AsksNoModes status_part
unfolding status_part
status_free h r = refl

-- a page, its marks, and a flush

pub page_quiet : (p : ℕ) → IsQuiet (λ h r. page_part h r p)
unfolding page_part
page_quiet p h r = unless_out (is_down h r ∷ reverts r ∷ []) r (at_once (if is_bad r p then PageBad else page_answer (page_value h.pages r p)) r) refl

pub page_free : (p : ℕ) → AsksNoModes (λ h r. page_part h r p)
unfolding page_part
page_free p h r = refl

pub sectors_quiet : (p : ℕ) → IsQuiet (λ h r. sectors_part r p)
unfolding sectors_part
sectors_quiet p h r = refl

pub sectors_free : (p : ℕ) → AsksNoModes (λ h r. sectors_part r p)
sectors_free p h r = refl

pub flush_quiet : IsQuiet flush_part
unfolding flush_part
flush_quiet h r = unless_out (checks_of_flush h r) r (flushes r (pages_to_flush h.pages r)) refl

pub flush_free : AsksNoModes flush_part
unfolding flush_part
flush_free h r = refl

status_after : (h : Here) (r : Replica) → (status_part h r).after ≡ r
unfolding status_part
status_after h r = elim (not r.up) as (λ b. (if b then refused (Down h.number) r else at_once (Status (role_of r) (printed_state h r) r.term (end r) (front r)) r).after ≡ r) [ true ↦ refl | false ↦ refl ]

-- a node that is asked leaves the group
pub status_left : (g : Group) (n : ℕ) → (at_node g n (status_part (here g n) (replica g n))).after ≡ g
status_left g n =
    ap (λ (out : List Posting). posted n out (with_replica g n (status_part (here g n) (replica g n)).after)) (status_quiet (here g n) (replica g n))
    ∙ ap (with_replica g n) (status_after (here g n) (replica g n)) ∙ (λ i. record g { replicas = set-get_or g.replicas n nobody i })

if_out : (b : Bool) (x y : Part) → x.out ≡ [] → y.out ≡ [] → (if b then x else y).out ≡ []
if_out true x y p q = p
if_out false x y p q = q

pub start_quiet : IsQuiet start_part
unfolding start_part
start_quiet h r =
    let new = start_records h r in
    unless_out (checks_of_start h r new) r (starts h r new)
    (if_out (is_reverting r.state) (starts_reverting r) (starts_redoing h r new) refl (if_out (is_named h) (starts_first h r new) (starts_second r (touched_up_to h.pages (end r) r)) refl refl))

-- the place of a node, with the modes of all
place_among : (g : Group) (n : ℕ) (site : Site) (modes : List Mode) → site.number ≡ n → site.pages ≡ g.config.pages → site.store ≡ g.register → modes ≡ g.config.modes → here_among site modes ≡ here g n
place_among g n site modes a b c m = λ i. record { number = a i; pages = b i; modes = m i; store = c i }

among_is : (F : Doing) (g : Group) (n n' : ℕ) (site : Site) (modes : List Mode) (old : Replica) → n < length g.replicas → site.number ≡ n → site.pages ≡ g.config.pages → site.store ≡ g.register → modes ≡ g.config.modes → n' ≡ n → old ≡ get_or g.replicas n' old
    → F (here_among site modes) old ≡ F (here g n) (replica g n)
among_is F g n n' site modes old within a b c m e o = λ i. F (place_among g n site modes a b c m i) (get_or_read g.replicas n old within (o ∙ ap (λ (k : ℕ). get_or g.replicas k old) e) nobody i)

-- the group after an event of one node that sends nothing, and asks for the modes
pub lifted_among : (F : Doing) → IsQuiet F → (g g' : Group) (n n' : ℕ) (site : Site) (modes : List Mode) (old new : Replica) → n < length g.replicas → site.number ≡ n → site.pages ≡ g.config.pages → site.store ≡ g.register → modes ≡ g.config.modes → n' ≡ n → old ≡ get_or g.replicas n' old
    → new ≡ (F (here_among site modes) old).after → g ≡ g' → record g { replicas = set g.replicas n' new } ≡ (at_node g' n (F (here g' n) (replica g' n))).after
lifted_among F quiet g g' n n' site modes old new within a b c m e o step is =
    (λ i. record g { replicas = set g.replicas (e i) ((step ∙ ap (λ (x : Part). x.after) (among_is F g n n' site modes old within a b c m e o)) i) })
    ∙ ap (λ (out : List Posting). posted n out (with_replica g n (F (here g n) (replica g n)).after)) (sym (quiet (here g n) (replica g n)))
    ∙ (λ i. (at_node (is i) n (F (here (is i) n) (replica (is i) n))).after)

pub told_among : (F : Doing) (g g' : Group) (n n' : ℕ) (site : Site) (modes : List Mode) (old : Replica) (a : Answer) → n < length g.replicas → site.number ≡ n → site.pages ≡ g.config.pages → site.store ≡ g.register → modes ≡ g.config.modes → n' ≡ n → old ≡ get_or g.replicas n' old
    → a ≡ (F (here_among site modes) old).answer → g ≡ g' → a ≡ (F (here g' n) (replica g' n)).answer
told_among F g g' n n' site modes old answer within a b c m e o step is =
    step ∙ ap (λ (x : Part). x.answer) (among_is F g n n' site modes old within a b c m e o) ∙ (λ i. (F (here (is i) n) (replica (is i) n)).answer)

-- the part that the code's node did is the part of the rules
pub same_part : (F : Doing) → AsksNoModes F → (g g' : Group) (n n' : ℕ) (site : Site) (old : Replica) → n < length g.replicas → site.number ≡ n → site.pages ≡ g.config.pages → site.store ≡ g.register → n' ≡ n → old ≡ get_or g.replicas n' old
    → g ≡ g' → F (here_at site) old ≡ F (here g' n) (replica g' n)
same_part F free g g' n n' site old within a b c e o is = part_is F free g n n' site old within a b c e o ∙ (λ i. F (here (is i) n) (replica (is i) n))

-- a part that writes nothing at its node
pub wrote : (F : Doing) → AsksNoModes F → (g g' : Group) (n n' : ℕ) (site : Site) (old : Replica) → n < length g.replicas → site.number ≡ n → site.pages ≡ g.config.pages → site.store ≡ g.register → n' ≡ n → old ≡ get_or g.replicas n' old
    → (F (here_at site) old).writes ≡ [] → g ≡ g' → (F (here g' n) (replica g' n)).writes ≡ []
wrote F free g g' n n' site old within a b c e o none is =
    sym (ap (λ (x : Part). x.writes) (same_part F free g g' n n' site old within a b c e o is)) ∙ none

-- a `send` and a `lose` write nothing

pub unless_writes : (cs : List Check) (r : Replica) (part : Part) → part.writes ≡ [] → (unless cs r part).writes ≡ []
unless_writes [] r part h = h
unless_writes (c ∷ cs) r part h = elim (c.when) as (λ b. (if b then refused c.refusal r else unless cs r part).writes ≡ []) [ true ↦ refl | false ↦ unless_writes cs r part h ]

sends_writes : (r : Replica) (m : ℕ) (last : Option ℕ) → (sends r m last).writes ≡ []
sends_writes r m None = refl
sends_writes r m (Some last) = refl

apart_writes : (g : Group) (n m : ℕ) (p : Plan) → p.writes ≡ [] → (apart g n m p).writes ≡ []
apart_writes g n m p h = elim (n == m) as (λ b. (if b then at_node g n (refused Nothing (replica g n)) else p).writes ≡ []) [ true ↦ refl | false ↦ h ]

pub send_writes : (g : Group) (n m : ℕ) → (apart g n m (at_node g n (send_part (here g n) (replica g n) m (is_full g n m)))).writes ≡ []
unfolding send_part
send_writes g n m =
    apart_writes g n m (at_node g n (send_part (here g n) (replica g n) m (is_full g n m)))
    (unless_writes (checks_of_send (here g n) (replica g n) m (is_full g n m)) (replica g n) (sends (replica g n) m (block_to_send (replica g n) m)) (sends_writes (replica g n) m (block_to_send (replica g n) m)))

loss_writes : (g : Group) (n m i : ℕ) (found : Option Message) → (plan_of_loss g n m i found).writes ≡ []
loss_writes g n m i None = refl
loss_writes g n m i (Some message) = refl

pub lose_writes : (g : Group) (n m i : ℕ) → (apart g n m (plan_of_lose g n m i)).writes ≡ []
unfolding plan_of_lose
lose_writes g n m i = apart_writes g n m (plan_of_lose g n m i) (loss_writes g n m i (slice_get (link g n m) (i - 1)))
