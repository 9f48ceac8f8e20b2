-- What stays true of a node whose home changes.
use Rattle.std.proofs.Common.{◌≡◌, ℕ, zero, suc, ◌+◌, ◌<◌, ◌≤◌, List, [], ◌∷◌, ◌++◌, length, get_or, set, replicate, Bool, true, false, refl, sym, ap, ◌∙◌, subst, arith}
use Rattle.std.specs.List.{All}
use Rattle.std.proofs.lemmas.List.{length-append, length-replicate, append-nil}
use Rattle.ag_model.specs.declared.record.Record.{Record}
use Rattle.ag_model.specs.Sizes.{records_size}
use Rattle.ag_model.specs.Txns.{last_txn}
use Rattle.ag_record.specs.Spelling.{HaveSpelling}
use Rattle.ag_built.specs.Whole.{IsWhole}
use Rattle.ag_node.specs.Homes.{Home, but_faults, flushed_home, lost_home, redone_home, stands, with_more}
use Rattle.ag_node.specs.Nodes.{AreAtEnd, AreRedone, IsHome, IsNode}
use Rattle.ag_node.specs.Room.{IsSetLog, used_in}
use Rattle.ag_node.proofs.HomesKept.{home_faults, home_flushed, home_leads, home_lost, home_more, home_redone}
use Rattle.ag_node.proofs.Whole.{whole_nil, whole_blocks}
use Rattle.ag_node.proofs.WholeRoom.{whole_set_log}

-- all stripes have published what they have redone
pub redone_all : (applied published : List ℕ) (n : ℕ) → applied ≡ replicate 16 n → published ≡ replicate 16 n → AreRedone applied published
redone_all applied published n a p i =
    let same : get_or published i 0 ≡ get_or applied i 0 = ap (λ (l : List ℕ). get_or l i 0) (p ∙ sym a) in
    omega (arith, same)

-- one stripe goes on
set_more : (applied : List ℕ) (x n : ℕ) → get_or applied x 0 ≤ n → (i : ℕ) → get_or applied i 0 ≤ get_or (set applied x n) i 0
set_more [] x n h i = omega arith
set_more (a ∷ others) zero n h zero = h
set_more (a ∷ others) zero n h (suc i) = omega arith
set_more (a ∷ others) (suc x) n h zero = omega arith
set_more (a ∷ others) (suc x) n h (suc i) = set_more others x n h i

pub redone_more : (applied published : List ℕ) (x n : ℕ) → AreRedone applied published → get_or applied x 0 ≤ n → AreRedone (set applied x n) published
redone_more applied published x n h l i = omega (arith, h i, set_more applied x n l i)

-- one stripe publishes
set_below : (f : ℕ → ℕ) (published : List ℕ) (x n : ℕ) → ((i : ℕ) → get_or published i 0 ≤ f i) → n ≤ f x → (i : ℕ) → get_or (set published x n) i 0 ≤ f i
set_below f [] x n h l i = h i
set_below f (p ∷ ps) zero n h l zero = l
set_below f (p ∷ ps) zero n h l (suc i) = h (suc i)
set_below f (p ∷ ps) (suc x) n h l zero = h 0
set_below f (p ∷ ps) (suc x) n h l (suc i) = set_below (λ k. f (suc k)) ps x n (λ k. h (suc k)) l i

pub redone_raised : (applied published : List ℕ) (x n : ℕ) → AreRedone applied published → n ≤ get_or applied x 0 → AreRedone applied (set published x n)
redone_raised applied published x n h l i = set_below (λ k. get_or applied k 0) published x n h l i

-- a node that doesn't lead
pub node_follows : (h h' : Home) (published published' : List ℕ) (buffer : List Record) (bytes txn : ℕ) (used : List ℕ) → IsNode h published buffer bytes txn used
    → IsHome h' → h'.activity.leads ≡ false → length published' ≡ 16 → (h'.activity.up ≡ true → AreRedone h'.applied published') → IsNode h' published' buffer bytes txn used
node_follows h h' published published' buffer bytes txn used is home follows sixteen redone = record {
  home = home;
  sixteen = sixteen;
  redone = redone;
  ahead = λ e. absurd (cc (sym follows ∙ e));
  counted = is.counted;
  most = is.most;
  fits = is.fits;
  whole = is.whole;
  room = λ e. absurd (cc (sym follows ∙ e));
  small = is.small;
}

-- the same where its buffer is lost
pub node_emptied : (h h' : Home) (published published' : List ℕ) (buffer buffer' : List Record) (bytes txn txn' : ℕ) (used : List ℕ) → IsNode h published buffer bytes txn used
    → IsHome h' → h'.activity.leads ≡ false → length published' ≡ 16 → (h'.activity.up ≡ true → AreRedone h'.applied published') → buffer' ≡ [] → IsNode h' published' buffer' 0 txn' used
node_emptied h h' published published' buffer buffer' bytes txn txn' used is home follows sixteen redone b = record {
  home = home;
  sixteen = sixteen;
  redone = redone;
  ahead = λ e. absurd (cc (sym follows ∙ e));
  counted = sym (ap records_size b);
  most = omega arith;
  fits = subst HaveSpelling (sym b) tt;
  whole = subst IsWhole (sym b) whole_nil;
  room = λ e. absurd (cc (sym follows ∙ e));
  small = is.small;
}

-- a node whose home is lost
pub node_lost : (h h' : Home) (published : List ℕ) (buffer : List Record) (bytes txn : ℕ) (used : List ℕ) → IsNode h published buffer bytes txn used → h' ≡ lost_home h.pages h'.faults → IsNode h' published buffer bytes txn used
node_lost h h' published buffer bytes txn used is e =
    subst (λ (x : Home). IsNode x published buffer bytes txn used) (sym e)
    (node_follows h (lost_home h.pages h'.faults) published published buffer bytes txn used is (home_lost h.pages h'.faults is.home.some_pages is.home.few_pages) refl is.sixteen (λ up. absurd cc))

pub node_lost_empty : (h h' : Home) (published : List ℕ) (buffer buffer' : List Record) (bytes txn : ℕ) (used : List ℕ) → IsNode h published buffer bytes txn used → h' ≡ lost_home h.pages h'.faults → buffer' ≡ [] → IsNode h' published buffer' 0 txn used
node_lost_empty h h' published buffer buffer' bytes txn used is e b =
    subst (λ (x : Home). IsNode x published buffer' 0 txn used) (sym e)
    (node_emptied h (lost_home h.pages h'.faults) published published buffer buffer' bytes txn txn used is (home_lost h.pages h'.faults is.home.some_pages is.home.few_pages) refl is.sixteen (λ up. absurd cc) b)

-- a node whose disk was only read
pub node_read : (h h' : Home) (published : List ℕ) (buffer : List Record) (bytes txn : ℕ) (used : List ℕ) → IsNode h published buffer bytes txn used → h' ≡ but_faults h h'.faults → IsNode h' published buffer bytes txn used
node_read h h' published buffer bytes txn used is e =
    subst (λ (x : Home). IsNode x published buffer bytes txn used) (sym e)
    (record { home = home_faults h h'.faults is.home; sixteen = is.sixteen; redone = is.redone; ahead = λ l. record { stand = (is.ahead l).stand; shown = (is.ahead l).shown }; counted = is.counted; most = is.most; fits = is.fits; whole = is.whole; room = is.room; small = is.small })

-- a node that flushed
pub node_flushed_kept : (h h' : Home) (published : List ℕ) (buffer : List Record) (bytes txn : ℕ) (used : List ℕ) → IsNode h published buffer bytes txn used → h' ≡ but_faults (flushed_home h) h'.faults → IsNode h' published buffer bytes txn used
node_flushed_kept h h' published buffer bytes txn used is e =
    subst (λ (x : Home). IsNode x published buffer bytes txn used) (sym e)
    (record { home = home_faults (flushed_home h) h'.faults (home_flushed h is.home); sixteen = is.sixteen; redone = is.redone; ahead = λ l. record { stand = (is.ahead l).stand; shown = (is.ahead l).shown }; counted = is.counted; most = is.most; fits = is.fits; whole = is.whole; room = is.room; small = is.small })

-- a primary's buffer goes into its log, and is redone
pub node_after_harden : (h : Home) (published published' : List ℕ) (buffer buffer' : List Record) (bytes txn n faults : ℕ) (used : List ℕ) (h' : Home) → IsNode h published buffer bytes txn used → 0 < length buffer → h.activity.up ≡ true
    → h' ≡ record (redone_home (with_more h buffer) n) { faults = faults } → n ≡ length h.log.records + length buffer → published' ≡ replicate 16 n → buffer' ≡ [] → IsNode h' published' buffer' 0 txn used
node_after_harden h published published' buffer buffer' bytes txn n faults used h' is k up e end p b =
    let more = with_more h buffer in
    let all : n ≡ length more.log.records = end ∙ sym (length-append h.log.records buffer) in
    let records : more.log.records ++ buffer' ≡ h.log.records ++ buffer = (λ i. more.log.records ++ b i) ∙ append-nil (h.log.records ++ buffer) in
    subst (λ (x : Home). IsNode x published' buffer' 0 txn used) (sym e)
    (record {
      home = home_faults (redone_home more n) faults (home_redone more n (home_more h buffer is.home k is.whole) up);
      sixteen = ap length p;
      redone = λ e. redone_all (replicate 16 n) published' n refl p;
      ahead = λ l. record { stand = ap (λ (x : ℕ). replicate 16 x) all; shown = p ∙ ap (λ (x : ℕ). replicate 16 x) all };
      counted = sym (ap records_size b);
      most = omega arith;
      fits = subst HaveSpelling (sym b) tt;
      whole = subst IsWhole (sym b) whole_nil;
      room = λ l. subst (λ (x : List Record). IsSetLog h.pages txn x used) (sym records) (is.room l);
      small = is.small;
    })

-- what holds of a node that leads
pub node_led : (h h' : Home) (published : List ℕ) (buffer buffer' : List Record) (bytes txn txn' : ℕ) (used used' : List ℕ)
    → IsNode h published buffer bytes txn used → h.activity.up ≡ true → AreAtEnd h published → h' ≡ stands true h → buffer' ≡ [] → txn' ≡ last_txn h.log.records
    → used' ≡ used_in h.pages h.log.records → All (λ b. b ≤ 8144) used' → IsNode h' published buffer' 0 txn' used'
node_led h h' published buffer buffer' bytes txn txn' used used' is up at e b t u small =
    let log = h.log in
    let whole = whole_blocks 0 (length log.records) log.ends log.records is.home.first.rises (omega arith) is.home.first.blocks in
    let room : IsSetLog h.pages (last_txn log.records) log.records (used_in h.pages log.records) = whole_set_log h.pages log.records (omega (arith, is.home.some_pages)) whole in
    subst (λ (x : Home). IsNode x published buffer' 0 txn' used') (sym e)
    (record {
      home = home_leads h is.home up;
      sixteen = is.sixteen;
      redone = is.redone;
      ahead = λ l. record { stand = at.stand; shown = at.shown };
      counted = sym (ap records_size b);
      most = omega arith;
      fits = subst HaveSpelling (sym b) tt;
      whole = subst IsWhole (sym b) whole_nil;
      room = λ l.
          subst (λ (x : List ℕ). IsSetLog h.pages txn' (log.records ++ buffer') x) (sym u)
          (subst (λ (x : ℕ). IsSetLog h.pages x (log.records ++ buffer') (used_in h.pages log.records)) (sym t)
          (subst (λ (x : List Record). IsSetLog h.pages (last_txn log.records) x (used_in h.pages log.records)) (sym (ap (λ (x : List Record). log.records ++ x) b ∙ append-nil log.records)) room));
      small = small;
    })
