-- What each message that is sent tells of block ends.
use Rattle.std.specs.Prelude.{if◌then◌else◌}
use Rattle.std.proofs.Common.{◌≡◌, ℕ, zero, suc, ◌+◌, ◌-◌, ◌<◌, ◌≤◌, List, [], ◌∷◌, ◌++◌, length, take, drop, get_or, true, false, inl, inr, refl, sym, ap, ◌∙◌, subst, arith, append_assoc, length-append}
use Rattle.std.specs.Prelude.{◌==◌, ◌||◌, ◌⊎◌, Some}
use Rattle.std.proofs.lemmas.Bool.{false≢true, eqb-true}
use Rattle.std.proofs.lemmas.List.{take-append-drop, length-take-le, nil_from_length}
use Rattle.std.proofs.Math.Bool.{or-false}
use Rattle.ag_model.specs.declared.record.Record.{Record}
use Rattle.ag_model.specs.declared.record.Record.TheVariants.{Term}
use Rattle.ag_model.specs.declared.config.TermStart.{TermStart}
use Rattle.ag_model.specs.declared.message.Message.{Message}
use Rattle.ag_model.specs.declared.message.Body.{Body}
use Rattle.ag_model.specs.declared.message.Body.TheVariants.{Hello, Resume, Block as OfBlock, Ack, PageAsk, PageGive, PageNo}
use Rattle.ag_model.specs.Blocks.{end_of_block, after_to}
use Rattle.ag_model.specs.Rows.{contains}
use Rattle.ag_model.specs.Starts.{term_starts, last_term, fork_of_starts}
use Rattle.ag_model.specs.Proper.{RisesFrom}
use Rattle.ag_rules.specs.Replica.{Replica, records, end, peer}
use Rattle.ag_rules.specs.Group.{nobody}
use Rattle.ag_rules.specs.HelloMessage.{fork_with}
use Rattle.ag_lists.proofs.Tests.{by_bool}
use Rattle.ag_lists.proofs.Each.{all_map}
use Rattle.ag_laws.specs.Prefix.{IsPrefixOf}
use Rattle.ag_laws.specs.Logs.{Setting, Logs, AreLogs, IsTraced}
use Rattle.ag_laws.specs.Fits.{IsPart}
use Rattle.ag_laws.specs.At.{At}
use Rattle.ag_laws.proofs.Prefix.{prefix_length}
use Rattle.ag_laws.proofs.Ends.{BlockAt, block_at}
use Rattle.ag_laws.proofs.Parts.{part_between}
use Rattle.ag_laws.proofs.Starts.{Agree, agree}
use Rattle.ag_law_proper.specs.Growth.{Posts, Plain, SaysHello, Answers, Sends, is_plain}
use Rattle.ag_law_proper.proofs.Numbers.{apart}
use Rattle.ag_law_blocks.specs.Marks.{Marks, mark_at, Begins, Marked, MarkedBlock, MarkedHello, MarkedFork, BodyMarked, MessageMarked}
use Rattle.ag_law_blocks.proofs.Grown.{mark_longer}
use Rattle.ag_law_blocks.proofs.Forks.{fork_has, fork_some, starts_have}

-- the block that a block end starts: where it begins, and that no block ends within it
record Adjacent (start first last : ℕ) (es : List ℕ) : Type 0 where
  begin_ : ℕ
  first_is : first ≡ begin_ + 1
  above : start ≤ begin_
  some : begin_ < last
  between : (n : ℕ) → begin_ ≤ n → n ≤ last → contains n (start ∷ es) ≡ ((n == begin_) || (n == last))

none_low : (n low : ℕ) (xs : List ℕ) → RisesFrom low xs → n ≤ low → contains n xs ≡ false
none_low n low [] r h = refl
none_low n low (x ∷ xs) r h = ap (λ b. b || contains n xs) (apart n x (λ e. omega (arith, h, e, r.0))) ∙ none_low n x xs r.1 (omega (arith, h, r.0))

adjacent : (start first last : ℕ) (es : List ℕ) → RisesFrom start es → end_of_block start first es ≡ Some last → Adjacent start first last es
adjacent start first last [] r e = absurd (cc)
adjacent start first last (x ∷ xs) r e =
    by_bool (first == start + 1) (λ v. (first == start + 1) ≡ v → (if v then Some x else end_of_block x first xs) ≡ Some last → Adjacent start first last (x ∷ xs))
    (λ _ t q.
    let same : x ≡ last = cc in
    record {
      begin_ = start;
      first_is = eqb-true first (start + 1) t;
      above = omega arith;
      some = omega (arith, same, r.0);
      between = λ n low high. ap (λ y. (n == start) || ((n == y) || contains n xs)) same ∙ ap (λ b. (n == start) || ((n == last) || b)) (none_low n x xs r.1 (omega (arith, same, high))) ∙ ap (λ b. (n == start) || b) (or-false (n == last));
    })
    (λ _ t q.
    let more : Adjacent x first last xs = adjacent x first last xs r.1 q in
    record {
      begin_ = more.begin_;
      first_is = more.first_is;
      above = omega (arith, r.0, more.above);
      some = more.some;
      between = λ n low high. ap (λ b. b || contains n (x ∷ xs)) (apart n start (λ q. omega (arith, q, low, more.above, r.0))) ∙ more.between n low high;
    })
    refl e

-- the block that a primary sends
sent_block : (marks : Marks) (s : Setting) (logs : Logs) (n : ℕ) (r : Replica) (first last : ℕ) → At s logs n r → Marked marks r.kept.log → end_of_block 0 first r.kept.log.ends ≡ Some last
    → MarkedBlock marks (logs r.term) (record { first = first; term = last_term (take last (records r)); records = after_to (first - 1) last (records r) })
sent_block marks s logs n r first last a m e =
    let recs : List Record = records r in
    let log : List Record = logs r.term in
    let d : Adjacent 0 first last r.kept.log.ends = adjacent 0 first last r.kept.log.ends m.rises e in
    let at : BlockAt first last (end r) = block_at 0 first last (end r) r.kept.log.ends a.kept.ends e in
    let prefix : IsPrefixOf recs log = subst (λ (t : ℕ). IsPrefixOf recs (logs t)) (sym a.term) a.kept.prefix in
    let start : first - 1 ≡ d.begin_ = omega (arith, d.first_is) in
    let seg : List Record = take last recs in
    let seg_long : length seg ≡ last = length-take-le last recs at.within in
    let front_long : length (take (first - 1) seg) ≡ first - 1 = length-take-le (first - 1) seg (omega (arith, start, seg_long, d.some)) in
    let split : length seg ≡ length (take (first - 1) seg) + length (drop (first - 1) seg) = ap length (sym (take-append-drop (first - 1) seg)) ∙ length-append (take (first - 1) seg) (drop (first - 1) seg) in
    let long : first - 1 + length (drop (first - 1) seg) ≡ last = omega (arith, split, seg_long, front_long) in
    record {
      part = let p : IsPart log (record { first = first; term = last_term (take last recs); records = after_to (first - 1) last recs }) = part_between recs log first last (last_term (take last recs)) at prefix in p;
      some = omega (arith, long, start, d.some);
      ends = λ j low high.
          let there : j ≤ end r = omega (arith, high, long, at.within) in
          mark_longer marks recs log j prefix there ∙ sym (m.same j there) ∙ d.between j (omega (arith, low, start)) (omega (arith, high, long))
          ∙ ap (λ (k : ℕ). (j == k) || (j == last)) (sym start) ∙ ap (λ (k : ℕ). (j == first - 1) || (j == k)) (sym long);
      terms = λ front u back q.
          let place : recs ≡ (take (first - 1) seg ++ front) ++ Term u ∷ (back ++ drop last recs) =
          sym (take-append-drop last recs) ∙ ap (λ l. l ++ drop last recs) (sym (take-append-drop (first - 1) seg) ∙ ap (λ l. take (first - 1) seg ++ l) q)
          ∙ append_assoc (take (first - 1) seg) (front ++ Term u ∷ back) (drop last recs)
          ∙ ap (λ l. take (first - 1) seg ++ l) (append_assoc front (Term u ∷ back) (drop last recs))
          ∙ sym (append_assoc (take (first - 1) seg) front (Term u ∷ (back ++ drop last recs))) in
          let where_ : length (take (first - 1) seg ++ front) ≡ d.begin_ + length front = length-append (take (first - 1) seg) front ∙ (omega (arith, front_long, start)) in
          let inside : length (drop (first - 1) seg) ≡ length front + length (Term u ∷ back) = ap length q ∙ length-append front (Term u ∷ back) in
          let low : d.begin_ + length front < last = omega (arith, inside, long, start) in
          let ended : ((d.begin_ + length front == d.begin_) || (d.begin_ + length front == last)) ≡ true =
          sym (d.between (d.begin_ + length front) (omega arith) (omega (arith, low))) ∙ ap (λ k. contains k (0 ∷ r.kept.log.ends)) (sym where_) ∙ m.terms (take (first - 1) seg ++ front) u (back ++ drop last recs) place in
          nil_from_length front (same_begin d.begin_ (length front) last low ended);
    }
  where
    same_begin : (b k last : ℕ) → b + k < last → ((b + k == b) || (b + k == last)) ≡ true → k ≡ 0
    same_begin b k last low e =
        let not_last : (b + k == last) ≡ false = apart (b + k) last (λ q. omega (arith, q, low)) in
        let is : (b + k == b) ≡ true = sym (or-false (b + k == b)) ∙ ap (λ t. (b + k == b) || t) (sym not_last) ∙ e in
        omega (arith, eqb-true (b + k) b is)

-- a Hello
said_hello : (marks : Marks) (logs : Logs) (r : Replica) → IsTraced logs (records r) → Begins (records r) → Marked marks r.kept.log → MarkedHello marks logs (end r) (term_starts (records r))
said_hello marks logs r traced begins m = record {
  log = records r;
  long = refl;
  lists = refl;
  traced = traced;
  begins = begins;
  whole = sym (m.same (end r) (omega arith)) ∙ m.whole;
  terms = starts_have (λ n. (n ≤ end r) × (mark_at marks (records r) n ≡ true)) (records r)
      (λ front t back e.
      let low : length front ≤ end r = omega (arith, ap length e, length-append front (Term t ∷ back)) in
      (low, sym (m.same (length front) low) ∙ m.terms front t back e));
}

-- the fork of a Resume
answered_fork : (marks : Marks) (s : Setting) (logs : Logs) (n : ℕ) (r : Replica) (its_end : ℕ) (starts : List TermStart) → AreLogs s logs → At s logs n r → Begins (records r) → Marked marks r.kept.log → IsTraced logs (records r) → MarkedHello marks logs its_end starts → MarkedFork marks (logs r.term) (fork_with r its_end starts)
unfolding said_hello
answered_fork marks s logs n r its_end starts are a begins m traced hello =
    let recs : List Record = records r in
    let fork : ℕ = fork_with r its_end starts in
    let is : fork ≡ fork_of_starts (term_starts recs) (end r) (term_starts hello.log) (length hello.log) =
    ap (λ e. fork_of_starts (term_starts recs) (end r) starts e) hello.long ∙ ap (λ l. fork_of_starts (term_starts recs) (end r) l (length hello.log)) hello.lists in
    let g : Agree recs hello.log fork = subst (Agree recs hello.log) (sym is) (agree logs recs hello.log traced hello.traced) in
    let own : MarkedHello marks logs (end r) (term_starts recs) = said_hello marks logs r traced begins m in
    let prefix : IsPrefixOf recs (logs r.term) = subst (λ (t : ℕ). IsPrefixOf recs (logs t)) (sym a.term) a.kept.prefix in
    let both : (mark_at marks recs fork ≡ true) ⊎ (mark_at marks hello.log fork ≡ true) =
    fork_has (λ k. (mark_at marks recs k ≡ true) ⊎ (mark_at marks hello.log k ≡ true)) (term_starts recs) (end r) starts its_end (inl own.whole) (inr hello.whole)
    (all_map (λ (t : TermStart). (t.lsn - 1 ≤ end r) × (mark_at marks recs (t.lsn - 1) ≡ true)) (λ (t : TermStart). (mark_at marks recs (t.lsn - 1) ≡ true) ⊎ (mark_at marks hello.log (t.lsn - 1) ≡ true)) (λ t p. inl p.1) (term_starts recs) own.terms)
    (all_map (λ (t : TermStart). (t.lsn - 1 ≤ length hello.log) × (mark_at marks hello.log (t.lsn - 1) ≡ true)) (λ (t : TermStart). (mark_at marks recs (t.lsn - 1) ≡ true) ⊎ (mark_at marks hello.log (t.lsn - 1) ≡ true)) (λ t p. inr p.1) starts hello.terms) in
    record {
      some = subst (λ (k : ℕ). 0 < k) (sym is) (fork_some recs hello.log begins hello.begins);
      within = omega (arith, g.one, prefix_length recs (logs r.term) prefix);
      whole = mark_longer marks recs (logs r.term) fork prefix g.one ∙ one_of fork recs hello.log g.same both;
    }
  where
    one_of : (fork : ℕ) (x y : List Record) → take fork x ≡ take fork y → (mark_at marks x fork ≡ true) ⊎ (mark_at marks y fork ≡ true) → mark_at marks x fork ≡ true
    one_of fork x y e (inl p) = p
    one_of fork x y e (inr p) = ap (λ l. marks (last_term l) fork) e ∙ p

plain_marked : (marks : Marks) (logs : Logs) (term : ℕ) (b : Body) → is_plain b ≡ true → BodyMarked marks logs term b
plain_marked marks logs term (Hello ticket its_end starts) e = absurd (cc)
plain_marked marks logs term (Resume ticket fork its_end) e = absurd (cc)
plain_marked marks logs term (OfBlock b) e = absurd (cc)
plain_marked marks logs term (Ack hardened low) e = tt
plain_marked marks logs term (PageAsk page lsn primary) e = tt
plain_marked marks logs term (PageGive lsn v) e = tt
plain_marked marks logs term (PageNo page) e = tt

-- each message that a replica of the group sends
pub posted_marked : (marks : Marks) (s : Setting) (logs : Logs) (n : ℕ) (r : Replica) (m : Message) → AreLogs s logs → At s logs n r → (r.up ≡ true → Begins (records r)) → Marked marks r.kept.log → IsTraced logs (records r) → Posts (MessageMarked marks logs) r m → MessageMarked marks logs m
posted_marked marks s logs n r m are a begins marked traced (Plain e) = plain_marked marks logs m.term m.body e
posted_marked marks s logs n r m are a begins marked traced (SaysHello ticket up e) = subst (BodyMarked marks logs m.term) (sym e) (said_hello marks logs r traced (begins up) marked)
posted_marked marks s logs n r m are a begins marked traced (Answers ticket its_end starts told leads e) = subst (MessageMarked marks logs) (sym e) (answered_fork marks s logs n r its_end starts are a (begins (a.leads leads).up) marked traced told)
posted_marked marks s logs n r m are a begins marked traced (Sends to last leads block e) = subst (MessageMarked marks logs) (sym e) (sent_block marks s logs n r (peer r to).next last a marked block)

-- a replica that is up is there
pub up_there : (rs : List Replica) (n : ℕ) → (get_or rs n nobody).up ≡ true → n < length rs
up_there [] n e = absurd (false≢true e)
up_there (r ∷ rs) zero e = omega arith
up_there (r ∷ rs) (suc n) e = let h : n < length rs = up_there rs n e in omega (arith, h)
