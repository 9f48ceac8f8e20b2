-- A primary in `set`, from its parts.
use Rattle.std.proofs.Common.{◌≡◌, ℕ, ◌+◌, ◌<◌, ◌≤◌, List, [], ◌∷◌, ◌++◌, length, Bool, true, false, refl, sym, ap, ◌∙◌, subst, arith, append_assoc, le-ltb, lt-ltb}
use Rattle.std.specs.Prelude.{Option, Some, None, if◌then◌else◌}
use Rattle.std.specs.List.{All}
use Rattle.std.proofs.lemmas.List.Sums.{sum_by-append}
use Rattle.ag_model.specs.declared.event.Pair.{Pair}
use Rattle.ag_model.specs.declared.record.Record.{Record}
use Rattle.ag_model.specs.declared.answer.Answer.{Answer}
use Rattle.ag_model.specs.declared.answer.Answer.TheVariants.{No, Lsn}
use Rattle.ag_model.specs.declared.answer.Refusal.{Refusal}
use Rattle.ag_model.specs.declared.answer.Refusal.TheVariants.{BufferFull}
use Rattle.ag_model.specs.Sizes.{record_size, records_size, buffer_free}
use Rattle.ag_rules.specs.Replica.{Replica, Peer, full_end}
use Rattle.ag_rules.specs.Plan.{Part, Here, refused, unless, at_once}
use Rattle.ag_record.specs.Spelling.{HaveSpelling}
use Rattle.ag_rules.specs.Checks.{buffer_is_full}
use Rattle.ag_rules.specs.SetEvent.{pairs_pass, sets, records_of_set, with_set}
use Rattle.ag_node.specs.Homes.{Home}
use Rattle.ag_node.specs.View.{node_of, stripes_in}
use Rattle.ag_node.specs.Room.{IsSetLog, first_full, used_after, unless_some}
use Rattle.ag_node.specs.Nodes.{IsNode, leading_of}
use Rattle.ag_node.proofs.NodeSteps.{pages_are}
use Rattle.ag_node.proofs.Quiet.{access_is_free}
use Rattle.ag_logstore.proofs.Fitting.{fit_append}
use Rattle.ag_built.specs.Whole.{IsWhole}
use Rattle.ag_node.proofs.Whole.{whole_append, whole_set}
use Rattle.ag_node.proofs.RoomLog.{set_log_grows}
use Rattle.ag_node.proofs.RoomPairs.{pairs_pass_by_room}

-- what `set` does once a transaction can begin
abbrev pub set_of : Here → Replica → List Pair → Part
set_of h r pairs = pairs_pass h r (r.leading.last_txn + 1) [] pairs (sets r (records_of_set h.pages (r.leading.last_txn + 1) pairs))

-- where a node knows the room on its pages, that decides
pub set_by_room : (h : Home) (published : List ℕ) (buffer : List Record) (bytes txn synced : ℕ) (peers : List Peer) (used : List ℕ) (r : Replica) (here : Here) (pairs : List Pair)
    → node_of h (stripes_in h published) (leading_of buffer txn synced peers) ≡ r → here.pages ≡ length r.pages → IsNode h published buffer bytes txn used → r.leads ≡ true
    → (let n : Replica = node_of h (stripes_in h published) (leading_of buffer txn synced peers) in set_of here r pairs ≡ unless_some (first_full here.pages used [] pairs) n (sets n (records_of_set here.pages (txn + 1) pairs)))
set_by_room h published buffer bytes txn synced peers used r here pairs is p node leading =
    let n : Replica = node_of h (stripes_in h published) (leading_of buffer txn synced peers) in
    let few : here.pages ≡ h.pages = pages_are h (stripes_in h published) (leading_of buffer txn synced peers) r here.pages is p node.home in
    let leads_is : h.activity.leads ≡ true = ap (λ (x : Replica). x.leads) is ∙ leading in
    let room : IsSetLog here.pages txn (h.log.records ++ buffer) used = subst (λ (x : ℕ). IsSetLog x txn (h.log.records ++ buffer) used) (sym few) (node.room leads_is) in
    (λ i. set_of here (sym is i) pairs)
    ∙ pairs_pass_by_room here n used [] pairs (sets n (records_of_set here.pages (txn + 1) pairs)) (omega (arith, few, node.home.some_pages)) room (λ q part a b. access_is_free h (stripes_in h published) (leading_of buffer txn synced peers) q part node.home.sound)

-- a part that is told, of a replica that is told
pub record Told (r : Replica) (part : Part) (answer : Answer) (after : Replica) : Type 0 where
  pub answered : answer ≡ part.answer
  pub left : after ≡ part.after

pub set_refused : (n r : Replica) (part other : Part) (full : Option Refusal) (why : Refusal) → n ≡ r → part ≡ unless_some full n other → full ≡ Some why → Told r part (No why) r
set_refused n r part other full why is by e =
    let all : part ≡ refused why n = by ∙ ap (λ (x : Option Refusal). unless_some x n other) e in
    record { answered = ap (λ (x : Part). x.answer) (sym all); left = sym is ∙ ap (λ (x : Part). x.after) (sym all) }

pub set_full : (n r : Replica) (part : Part) (full : Option Refusal) (new : List Record) (need free : ℕ) → n ≡ r → part ≡ unless_some full n (sets n new) → full ≡ None
    → need ≡ records_size new → free ≡ buffer_free n.leading.buffer → free < need → Told r part (No (BufferFull need free)) r
set_full n r part full new need free is by e a b lt =
    let told : unless (buffer_is_full n new ∷ []) n (at_once (Lsn (full_end n + length new)) (with_set n new)) ≡ refused (BufferFull need free) n
    = rw (sym a, sym b) (rw (lt-ltb free need lt) refl) in
    let all : part ≡ refused (BufferFull need free) n = by ∙ ap (λ (x : Option Refusal). unless_some x n (sets n new)) e ∙ told in
    record { answered = ap (λ (x : Part). x.answer) (sym all); left = sym is ∙ ap (λ (x : Part). x.after) (sym all) }

pub set_done : (n r m : Replica) (part : Part) (full : Option Refusal) (new : List Record) (need free lsn : ℕ) → n ≡ r → part ≡ unless_some full n (sets n new) → full ≡ None
    → need ≡ records_size new → free ≡ buffer_free n.leading.buffer → need ≤ free → lsn ≡ full_end r + length new → m ≡ with_set n new → Told r part (Lsn lsn) m
set_done n r m part full new need free lsn is by e a b le l same =
    let told : unless (buffer_is_full n new ∷ []) n (at_once (Lsn (full_end n + length new)) (with_set n new)) ≡ at_once (Lsn (full_end n + length new)) (with_set n new)
    = rw (sym a, sym b) (rw (le-ltb free need le) refl) in
    let all : part ≡ at_once (Lsn (full_end n + length new)) (with_set n new) = by ∙ ap (λ (x : Option Refusal). unless_some x n (sets n new)) e ∙ told in
    let at : lsn ≡ full_end n + length new = l ∙ ap (λ (x : Replica). full_end x + length new) (sym is) in
    record { answered = ap Lsn at ∙ ap (λ (x : Part). x.answer) (sym all); left = same ∙ ap (λ (x : Part). x.after) (sym all) }

pub node_after_set : (h : Home) (published : List ℕ) (buffer buffer' new : List Record) (bytes bytes' txn txn' : ℕ) (used used' : List ℕ) (pairs : List Pair)
    → IsNode h published buffer bytes txn used → buffer' ≡ buffer ++ new → new ≡ records_of_set h.pages txn' pairs → txn' ≡ txn + 1 → bytes' ≡ bytes + records_size new
    → used' ≡ used_after h.pages pairs used → All (λ b. b ≤ 8144) used' → bytes' ≤ 15488 → HaveSpelling new → IsNode h published buffer' bytes' txn' used'
node_after_set h published buffer buffer' new bytes bytes' txn txn' used used' pairs is b e t c u small most fits =
    let log = h.log in
    let grown : log.records ++ buffer' ≡ (log.records ++ buffer) ++ records_of_set h.pages (txn + 1) pairs
    = ap (λ (x : List Record). log.records ++ x) (b ∙ ap (λ (x : List Record). buffer ++ x) (e ∙ ap (λ (x : ℕ). records_of_set h.pages x pairs) t)) ∙ sym (append_assoc log.records buffer (records_of_set h.pages (txn + 1) pairs)) in
    record {
      home = is.home;
      sixteen = is.sixteen;
      redone = is.redone;
      ahead = is.ahead;
      counted = c ∙ ap (λ (x : ℕ). x + records_size new) is.counted ∙ sym (sum_by-append record_size buffer new) ∙ ap records_size (sym b);
      most = most;
      fits = subst HaveSpelling (sym b) (fit_append buffer new is.fits fits);
      whole = subst IsWhole (sym (b ∙ ap (λ (x : List Record). buffer ++ x) e)) (whole_append buffer (records_of_set h.pages txn' pairs) is.whole (whole_set h.pages txn' pairs));
      room = λ l. subst (λ (x : ℕ). IsSetLog h.pages x (log.records ++ buffer') used') (sym t)
          (subst (λ (x : List ℕ). IsSetLog h.pages (txn + 1) (log.records ++ buffer') x) (sym u)
          (subst (λ (x : List Record). IsSetLog h.pages (txn + 1) x (used_after h.pages pairs used)) (sym grown)
          (set_log_grows h.pages txn (log.records ++ buffer) used pairs (omega (arith, is.home.some_pages)) (is.room l))));
      small = small;
    }

sets_nothing : (b : Bool) (x y : Part) → x.writes ≡ [] → y.writes ≡ [] → (if b then x else y).writes ≡ []
sets_nothing true x y p q = p
sets_nothing false x y p q = q

-- `set` writes nothing
pub set_nothing : (n : Replica) (part : Part) (full : Option Refusal) (new : List Record) → part ≡ unless_some full n (sets n new) → part.writes ≡ []
set_nothing n part None new e = ap (λ (x : Part). x.writes) e ∙ sets_nothing _ (refused (buffer_is_full n new).refusal n) (at_once (Lsn (full_end n + length new)) (with_set n new)) refl refl
set_nothing n part (Some why) new e = ap (λ (x : Part). x.writes) e
