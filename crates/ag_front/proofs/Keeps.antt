-- How a step keeps the rule.
use Rattle.std.proofs.Common.{◌≡◌, ◌≢◌, ℕ, zero, suc, ◌+◌, ◌%◌, ◌<◌, ◌≤◌, ⊎_elim, true, List, [], ◌∷◌, length, get_or, set, sym, refl, ap, ◌∙◌, subst, arith, le_refl, length-set, get_or-set_other, get_or-set_same, max}
use Rattle.std.proofs.lemmas.List.Sums.{sum_by-set, sum_by-append}
use Rattle.std.proofs.lemmas.Bool.{or_left}
use Rattle.std.proofs.lemmas.Bool.{or_right, or_cases}
use mathlib.Core.Logic.{dite}
use mathlib.Core.Option.{Option, none, some, some-injective, some-ne-none}
use native.Mathlib.Decide.{ℕ_discrete}
use lib.ListN.{get_elem?}
use lib.Seq.{set-get_or}
use Rattle.atomic_table.specs.Table.{State, Me, step, keeps, stepped, Allows, Splits, Joins}
use Rattle.atomic_table.proofs.Lists.{at_set, set_here, set_else, at_snoc, at_longer}
use Rattle.ag_model.specs.declared.record.Log.{Log}
use Rattle.ag_model.specs.Prefixes.{end_of, IsPrefix, IsBlockEnd}
use Rattle.ag_model.specs.Proper.{IsProper}
use Rattle.ag_model.specs.Stripes.{Standing}
use Rattle.ag_model.proofs.Prefixes.{prefix_length, end_later, end_earlier, end_last, end_positive}
use Rattle.ag_model.proofs.ProperPrefixes.{prefix_proper}
use Rattle.ag_front.specs.declared.view.View.{View}
use Rattle.ag_front.specs.declared.rule.Slot.{Slot}
use Rattle.ag_front.specs.Rule.{published, turn_of, IsSound, IsLaid, Knows, FollowsRule}
use Rattle.ag_front.proofs.Merging.{max_case, length-maxes, maxes_case, moved, moved_to, moved_not, longer_begins, longer_first, longer_second, longer_log, longer_log'}
use Rattle.ag_front.specs.Steps.{after_load, after_raise, loaded, raised, kept_part, given_part, merged, spent_view}

-- a list read at an index that is there
pub there : {A : Type 0} (l : List A) (i : ℕ) (a : A) → get_elem? l i ≡ some a → (i < length l) × ((d : A) → get_or l i d ≡ a)
there [] i a e = absurd (some-ne-none a (sym e))
there (x ∷ xs) zero a e = (omega arith, λ d. some-injective x a e)
there (x ∷ xs) (suc i) a e = let t = there xs i a e in (omega arith, t.1)

-- a number of a list after one was set
pub set_case : (P : ℕ → Type 0) (xs : List ℕ) (k n j : ℕ) → k < length xs → (j ≡ k → P n) → (j ≢ k → P (get_or xs j 0)) → P (get_or (set xs k n) j 0)
set_case P xs k n j inside same other = dite (ℕ_discrete j k)
    (λ is. subst P (sym (ap (λ (x : ℕ). get_or (set xs k n) x 0) is ∙ get_or-set_same xs k n 0 inside)) (same is))
    (λ isnt. subst P (sym (get_or-set_other xs k j n 0 isnt)) (other isnt))

module _ {T : Type 0} (standing : T → Standing) (count : ℕ) where
  abbrev pub St : Type 0
  St = State (Slot T) View

  abbrev pub M : Type 0
  M = Me (Slot T) View

  abbrev pub Rule : St → Type 0
  Rule = FollowsRule standing count

  abbrev pub Laid : List ℕ → List (Option (Slot T)) → Log → (ℕ → ℕ) → Type 0
  Laid = IsLaid standing count

  abbrev pub K : List ℕ → Log → (ℕ → ℕ) → (ℕ → ℕ) → ℕ → ℕ → View → Type 0
  K = Knows standing count

  -- the seat id goes from v to w, and the words, homes and log change as they may
  pub rebuild : (s : St) (r : Rule s) (words : List ℕ) (homes : List (Option (Slot T))) (log : Log) (at holder : ℕ → ℕ) (id : ℕ) (v w : View)
      → get_elem? s.views id ≡ some v → 0 < v.parts → w.parts ≡ v.parts → w.author ≡ v.author
      → Laid words homes log at
      → K words log at holder r.writer id w
      → ((j : ℕ) (u : View) → j ≢ id → get_elem? s.views j ≡ some u → K s.words r.log r.at r.holder r.writer j u → K words log at holder r.writer j u)
      → ((k : ℕ) → k < 17 → turn_of words k % 2 ≡ 1 → (x : View) × (get_elem? (set s.views id w) (holder k) ≡ some x) × (x.hand ≡ k + 1))
      → Rule record { words = words; homes = homes; views = set s.views id w }
  rebuild s r words homes log at holder id v w here some_part same_parts same_author laid mine others out = let in_range = there s.views id v here in record {
    log = log;
    at = at;
    holder = holder;
    writer = r.writer;
    laid = laid;
    each = λ j u e p. ⊎_elim (λ (t : (j ≡ id) × (w ≡ u)). subst (λ (x : ℕ × View). K words log at holder r.writer x.0 x.1) (λ i. (sym t.0 i, t.1 i)) mine)
        (λ (t : (j ≢ id) × (get_elem? s.views j ≡ some u)). others j u t.0 t.1 (r.each j u t.1 p)) (at_set s.views id j w u e);
    spent = λ j u e p. ⊎_elim (λ (t : (j ≡ id) × (w ≡ u)). let q : w.parts ≡ u.parts = ap (λ (x : View). x.parts) t.1 in absurd (omega arith))
        (λ (t : (j ≢ id) × (get_elem? s.views j ≡ some u)). r.spent j u t.1 p) (at_set s.views id j w u e);
    out = out;
    written = let was = r.written in dite (ℕ_discrete r.writer id)
        (λ is. let same : v ≡ was.0 = some-injective v was.0 (sym here ∙ (ap (λ (x : ℕ). get_elem? s.views x) (sym is) ∙ was.1)) in
        (w, ap (λ (x : ℕ). get_elem? (set s.views id w) x) is ∙ set_here s.views id w in_range.0, same_author ∙ (ap (λ (x : View). x.author) same ∙ was.2), omega arith))
        (λ isnt. (was.0, set_else s.views id r.writer w isnt ∙ was.1, was.2, was.3));
    shared = let e = sum_by-set (λ (x : View). x.parts) s.views id w v in_range.0 in let f : get_or s.views id v ≡ v = in_range.1 v in let g : (get_or s.views id v).parts ≡ v.parts = ap (λ (x : View). x.parts) f in let t = r.shared in omega arith;
  }

  -- the holder of a slot has it still
  pub still_out : (s : St) (r : Rule s) (id : ℕ) (v w : View) → get_elem? s.views id ≡ some v → w.hand ≡ v.hand → (k : ℕ) → k < 17 → turn_of s.words k % 2 ≡ 1
      → (x : View) × (get_elem? (set s.views id w) (r.holder k) ≡ some x) × (x.hand ≡ k + 1)
  still_out s r id v w here same_hand k small odd = let o = r.out k small odd in dite (ℕ_discrete (r.holder k) id)
      (λ is. let same : v ≡ o.0 = some-injective v o.0 (sym here ∙ (ap (λ (x : ℕ). get_elem? s.views x) (sym is) ∙ o.1)) in
      (w, ap (λ (x : ℕ). get_elem? (set s.views id w) x) is ∙ set_here s.views id w (there s.views id v here).0, same_hand ∙ (ap (λ (x : View). x.hand) same ∙ o.2)))
      (λ isnt. (o.0, set_else s.views id (r.holder k) w isnt ∙ o.1, o.2))

  -- a step that changes no word and no slot
  pub reseated : (s : St) (r : Rule s) (id : ℕ) (v w : View) → get_elem? s.views id ≡ some v → 0 < v.parts → w.parts ≡ v.parts → w.author ≡ v.author → w.hand ≡ v.hand
      → K s.words r.log r.at r.holder r.writer id w → Rule record { words = s.words; homes = s.homes; views = set s.views id w }
  reseated s r id v w here some_part same_parts same_author same_hand mine = rebuild s r s.words s.homes r.log r.at r.holder id v w here some_part same_parts same_author r.laid mine (λ j u _ _ k. k) (still_out s r id v w here same_hand)

  -- the word i as it was
  pub as_it_was : (s : St) (i id : ℕ) (cs : List (ℕ × Slot T)) (w : View) → Rule record { words = s.words; homes = s.homes; views = set s.views id w } → Rule (stepped s i (get_or s.words i 0) id cs w keeps)
  as_it_was s i id cs w = subst (λ (ws : List ℕ). Rule record { words = ws; homes = s.homes; views = set s.views id w }) (sym (set-get_or s.words i 0))

  -- what is seen after more was seen is proper
  pub seen_proper : (v : View) (seen log : Log) → IsProper v.pages v.seen → v.pages ≡ count → IsProper count log → IsPrefix v.seen seen → IsPrefix seen log → IsProper v.pages seen
  seen_proper v seen log was counted proper more within = let some = end_positive v.pages v.seen (end_of v.seen) was (end_last v.pages v.seen was) in let longer = prefix_length v.seen seen more in
      subst (λ (n : ℕ). IsProper n seen) (sym counted) (prefix_proper count seen log proper within (omega arith))

  -- a floor becomes a block end of the log
  floor_raised : (log : Log) (v : View) (k n : ℕ) → IsPrefix v.seen log → k < 16 → IsBlockEnd log n → IsSound v → IsSound (after_raise v k n)
  floor_raised log v k n seen small end ok = let sized = ok.sized in let z = sized.floor_size in record {
    sized = record {
      floor_size = length-set v.floor k n ∙ sized.floor_size;
      done_size = sized.done_size;
      turn_size = sized.turn_size;
      takes_size = sized.takes_size;
      tries_size = sized.tries_size;
      loads_size = sized.loads_size;
    };
    proper = ok.proper;
    first_old = ok.first_old;
    second_old = ok.second_old;
    dones = ok.dones;
    floors = λ j i. set_case (λ (x : ℕ). x ≤ end_of v.seen → IsBlockEnd v.seen x) v.floor k n j (omega arith) (λ _ le. end_earlier v.seen log n seen end le) (λ _. ok.floors j i);
  }

  floor_sound : (log : Log) (v : View) (k n : ℕ) → IsPrefix v.seen log → k < 16 → IsBlockEnd log n → IsSound v → IsSound (after_load v k n)
  floor_sound log v k n seen small end ok = let raised = floor_raised log v k n seen small end ok in let sized = raised.sized in record {
    sized = record {
      floor_size = sized.floor_size;
      done_size = sized.done_size;
      turn_size = sized.turn_size;
      takes_size = sized.takes_size;
      tries_size = sized.tries_size;
      loads_size = length-set v.loads k (get_or v.loads k 0 + 1) ∙ sized.loads_size;
    };
    proper = raised.proper;
    first_old = raised.first_old;
    second_old = raised.second_old;
    dones = raised.dones;
    floors = raised.floors;
  }

  pub loads : (slots id : ℕ) (me : M) (k : ℕ) → k < 16 → 0 < me.0.parts → Allows Rule slots id me k (λ n. n) (loaded (step slots k 0 0 none) me)
  loads slots id me k small some_part s r _ here _ = let v : View = me.0 in let n : ℕ = get_or s.words k 0 in let w : View = after_load v k n in
      let kn = r.each id v here some_part in let sound = floor_sound r.log v k n kn.seen small (r.laid.published_end k small) kn.sound in
      let sized = kn.sound.sized in let z = sized.floor_size in (
        w,
        keeps,
        tt,
        as_it_was s k id me.1 w (reseated s r id v w here some_part refl refl refl record {
          sound = sound;
          seen = kn.seen;
          some_part = some_part;
          counted = kn.counted;
          floors = λ j i. set_case (λ (x : ℕ). IsBlockEnd r.log x) v.floor k n j (omega arith) (λ _. r.laid.published_end k small) (λ _. kn.floors j i);
          floors_low = λ j i. set_case (λ (x : ℕ). x ≤ published s.words j) v.floor k n j (omega arith) (λ is. let e : get_or s.words j 0 ≡ n = ap (λ (x : ℕ). get_or s.words x 0) is in omega arith) (λ _. kn.floors_low j i);
          dones_low = kn.dones_low;
          turns_low = kn.turns_low;
          author = kn.author;
          held = kn.held;
          held_stripe = kn.held_stripe;
          held_log = kn.held_log;
        }),
        (refl, kn.floors_low k small, sound),
      )

  -- where no word falls, no turn changes, and no stripe, what a view knows stays so
  still_knows : (words words' : List ℕ) (log : Log) (at holder : ℕ → ℕ) (writer j : ℕ) (v : View) → ((k : ℕ) → k < 16 → published words k ≤ published words' k) → ((k : ℕ) → k < 17 → turn_of words' k ≡ turn_of words k)
      → K words log at holder writer j v → K words' log at holder writer j v
  still_knows words words' log at holder writer j v rise same k = record {
    sound = k.sound;
    seen = k.seen;
    some_part = k.some_part;
    counted = k.counted;
    floors = k.floors;
    floors_low = λ i l. let a = k.floors_low i l in let b = rise i l in omega arith;
    dones_low = k.dones_low;
    turns_low = λ i l. let a = k.turns_low i l in let b = same i l in omega arith;
    author = k.author;
    held = λ i l e. let h = k.held i l e in (ap (λ (x : ℕ). x % 2) (same i l) ∙ h.0, h.1);
    held_stripe = k.held_stripe;
    held_log = k.held_log;
  }

  -- the word k is raised to n
  raised_words : (words : List ℕ) (homes : List (Option (Slot T))) (log : Log) (at : ℕ → ℕ) (k n : ℕ) → k < 16 → IsBlockEnd log n → n ≤ at k → Laid words homes log at → Laid (set words k n) homes log at
  raised_words words homes log at k n small end low ok = let wide = ok.wide in let turns : (j : ℕ) → turn_of (set words k n) j ≡ turn_of words j = λ j. get_or-set_other words k (16 + j) n 0 (λ e. omega arith) in record {
    wide = length-set words k n ∙ wide;
    deep = ok.deep;
    proper = ok.proper;
    ends = ok.ends;
    published_end = λ j l. set_case (λ (x : ℕ). IsBlockEnd log x) words k n j (omega arith) (λ _. end) (λ _. ok.published_end j l);
    published_low = λ j l. set_case (λ (x : ℕ). x ≤ at j) words k n j (omega arith) (λ is. let e : at j ≡ at k = ap at is in omega arith) (λ _. ok.published_low j l);
    turns_low = λ j l. let a = ok.turns_low j l in let b = turns j in omega arith;
    stripe_home = λ j l e. ok.stripe_home j l (ap (λ (x : ℕ). x % 2) (sym (turns j)) ∙ e);
    log_home = λ e. ok.log_home (ap (λ (x : ℕ). x % 2) (sym (turns 16)) ∙ e);
  }

  pub raises : (slots id : ℕ) (me : M) (k d : ℕ) → k < 16 → 0 < me.0.parts → d ≡ get_or me.0.done k 0 → Allows Rule slots id me k (λ n. max n d) (raised (step slots k d 0 none) me)
  raises slots id me k d small some_part is s r _ here _ = let v : View = me.0 in let n : ℕ = max (get_or s.words k 0) d in let w : View = after_raise v k n in
      let kn = r.each id v here some_part in let ok = r.laid in let wide = ok.wide in
      let low : get_or s.words k 0 ≤ r.at k = ok.published_low k small in let dlow = kn.dones_low k small in
      let end_d : IsBlockEnd r.log d = subst (λ (x : ℕ). IsBlockEnd r.log x) (sym is) (end_later v.seen r.log (get_or v.done k 0) kn.seen (kn.sound.dones k small)) in
      let end : IsBlockEnd r.log n = max_case (λ (x : ℕ). IsBlockEnd r.log x) (get_or s.words k 0) d (ok.published_end k small) end_d in
      let sound : IsSound w = floor_raised r.log v k n kn.seen small end kn.sound in
      let sized = kn.sound.sized in let z = sized.floor_size in
      let rise : (j : ℕ) → j < 16 → published s.words j ≤ published (set s.words k n) j = λ j l. set_case (λ (x : ℕ). published s.words j ≤ x) s.words k n j (omega arith) (λ e. let f : get_or s.words j 0 ≡ get_or s.words k 0 = ap (λ (x : ℕ). get_or s.words x 0) e in omega arith) (λ _. le_refl (published s.words j)) in
      let turns : (j : ℕ) → j < 17 → turn_of (set s.words k n) j ≡ turn_of s.words j = λ j _. get_or-set_other s.words k (16 + j) n 0 (λ e. omega arith) in
      let mine = still_knows s.words (set s.words k n) r.log r.at r.holder r.writer id v rise turns kn in (
        w,
        keeps,
        tt,
        rebuild s r (set s.words k n) s.homes r.log r.at r.holder id v w here some_part refl refl (raised_words s.words s.homes r.log r.at k n small end (omega arith) ok)
            record {
              sound = sound;
              seen = kn.seen;
              some_part = some_part;
              counted = kn.counted;
              floors = λ j i. set_case (λ (x : ℕ). IsBlockEnd r.log x) v.floor k n j (omega arith) (λ _. end) (λ _. kn.floors j i);
              floors_low = λ j i. set_case (λ (x : ℕ). x ≤ published (set s.words k n) j) v.floor k n j (omega arith) (λ e. let f : get_or (set s.words k n) j 0 ≡ n = ap (λ (x : ℕ). get_or (set s.words k n) x 0) e ∙ get_or-set_same s.words k n 0 (omega arith) in omega arith) (λ _. mine.floors_low j i);
              dones_low = kn.dones_low;
              turns_low = mine.turns_low;
              author = kn.author;
              held = mine.held;
              held_stripe = kn.held_stripe;
              held_log = kn.held_log;
            }
            (λ j u _ _ k'. still_knows s.words (set s.words k n) r.log r.at r.holder r.writer j u rise turns k')
            (λ j l odd. still_out s r id v w here refl j l (ap (λ (x : ℕ). x % 2) (sym (turns j l)) ∙ odd)),
        (refl, (let a = kn.floors_low k small in omega arith), sound),
      )

  pub splits : (id : ℕ) (v : View) (n : ℕ) → 0 < n → n < v.parts → v.hand ≡ 0 → Splits Rule id v (kept_part n v) (given_part n v)
  splits id v n some_part fewer free s r here = let kn = r.each id v here (omega arith) in let left : View = kept_part n v in let right : View = given_part n v in
      let inside = (there s.views id v here).0 in
      let kept : K s.words r.log r.at r.holder r.writer id left = record {
        sound = kn.sound;
        seen = kn.seen;
        some_part = omega arith;
        counted = kn.counted;
        floors = kn.floors;
        floors_low = kn.floors_low;
        dones_low = kn.dones_low;
        turns_low = kn.turns_low;
        author = kn.author;
        held = kn.held;
        held_stripe = kn.held_stripe;
        held_log = kn.held_log;
      } in
      let given : (j : ℕ) → K s.words r.log r.at r.holder r.writer j right = λ j. record {
        sound = kn.sound;
        seen = kn.seen;
        some_part = some_part;
        counted = kn.counted;
        floors = kn.floors;
        floors_low = kn.floors_low;
        dones_low = kn.dones_low;
        turns_low = kn.turns_low;
        author = λ e. absurd (cc e);
        held = λ k _ e. absurd (omega arith);
        held_stripe = λ k _ e. absurd (omega arith);
        held_log = λ e. absurd (omega arith);
      } in record {
        log = r.log;
        at = r.at;
        holder = r.holder;
        writer = r.writer;
        laid = r.laid;
        each = λ j u e p. ⊎_elim
            (λ (t : get_elem? (set s.views id left) j ≡ some u). ⊎_elim (λ (q : (j ≡ id) × (left ≡ u)). subst (λ (x : ℕ × View). K s.words r.log r.at r.holder r.writer x.0 x.1) (λ i. (sym q.0 i, q.1 i)) kept)
            (λ (q : (j ≢ id) × (get_elem? s.views j ≡ some u)). r.each j u q.1 p) (at_set s.views id j left u t))
            (λ (t : right ≡ u). subst (λ (x : View). K s.words r.log r.at r.holder r.writer j x) t (given j)) (at_snoc (set s.views id left) right u j e);
        spent = λ j u e p. ⊎_elim
            (λ (t : get_elem? (set s.views id left) j ≡ some u). ⊎_elim (λ (q : (j ≡ id) × (left ≡ u)). ap (λ (x : View). x.hand) (sym q.1) ∙ free)
            (λ (q : (j ≢ id) × (get_elem? s.views j ≡ some u)). r.spent j u q.1 p) (at_set s.views id j left u t))
            (λ (t : right ≡ u). ap (λ (x : View). x.hand) (sym t) ∙ free) (at_snoc (set s.views id left) right u j e);
        out = λ k small odd. let o = still_out s r id v left here refl k small odd in (o.0, at_longer (set s.views id left) (right ∷ []) (r.holder k) o.0 o.1, o.2);
        written = let was = r.written in dite (ℕ_discrete r.writer id)
            (λ is. let same : v ≡ was.0 = some-injective v was.0 (sym here ∙ (ap (λ (x : ℕ). get_elem? s.views x) (sym is) ∙ was.1)) in
            (left, at_longer (set s.views id left) (right ∷ []) r.writer left (ap (λ (x : ℕ). get_elem? (set s.views id left) x) is ∙ set_here s.views id left inside), ap (λ (x : View). x.author) same ∙ was.2, omega arith))
            (λ isnt. (was.0, at_longer (set s.views id left) (right ∷ []) r.writer was.0 (set_else s.views id r.writer left isnt ∙ was.1), was.2, was.3));
        shared = let e = sum_by-set (λ (x : View). x.parts) s.views id left v inside in let g : (get_or s.views id v).parts ≡ v.parts = ap (λ (x : View). x.parts) ((there s.views id v here).1 v) in
            let t = r.shared in let a = sum_by-append (λ (x : View). x.parts) (set s.views id left) (right ∷ []) in omega arith;
      }

  pub joins : (id : ℕ) (v : View) (other : ℕ) (w : View) → 0 < v.parts → 0 < w.parts → v.hand ≡ 0 → w.hand ≡ 0 → Joins Rule id v other w (merged v w) spent_view
  joins id v other w some_v some_w free_v free_w s r here apart there' =
      let both : View = merged v w in let vs : List View = set s.views id both in
      let inside = (there s.views id v here).0 in let inside' = (there vs other w there').0 in
      let at_other : get_elem? s.views other ≡ some w = sym (set_else s.views id other both apart) ∙ there' in
      let kv = r.each id v here some_v in let kw = r.each other w at_other some_w in
      let proper = r.laid.proper in let writer : ℕ = moved r.writer other id in
      let sv = kv.sound.sized in let sw = kw.sound.sized in
      let seen : IsPrefix both.seen r.log = longer_begins v.seen w.seen r.log kv.seen kw.seen in
      let from_v : IsPrefix v.seen both.seen = longer_first v.seen w.seen r.log kv.seen kw.seen in
      let from_w : IsPrefix w.seen both.seen = longer_second v.seen w.seen r.log kv.seen kw.seen in
      let floors : (k : ℕ) → k < 16 → IsBlockEnd r.log (get_or both.floor k 0) = λ k l. let a = sv.floor_size in let b = sw.floor_size in maxes_case (λ (x : ℕ). IsBlockEnd r.log x) v.floor w.floor k (omega arith) (omega arith) (kv.floors k l) (kw.floors k l) in
      let mine : K s.words r.log r.at r.holder writer id both = record {
        sound = record {
          sized = record {
            floor_size = length-maxes v.floor w.floor 16 sv.floor_size sw.floor_size;
            done_size = length-maxes v.done w.done 16 sv.done_size sw.done_size;
            turn_size = length-maxes v.turn w.turn 17 sv.turn_size sw.turn_size;
            takes_size = length-maxes v.takes w.takes 17 sv.takes_size sw.takes_size;
            tries_size = length-maxes v.tries w.tries 17 sv.tries_size sw.tries_size;
            loads_size = length-maxes v.loads w.loads 16 sv.loads_size sw.loads_size;
          };
          proper = seen_proper v both.seen r.log kv.sound.proper kv.counted proper from_v seen;
          first_old = from_v;
          second_old = from_w;
          dones = λ k l. let a = sv.done_size in let b = sw.done_size in maxes_case (λ (x : ℕ). IsBlockEnd both.seen x) v.done w.done k (omega arith) (omega arith) (end_later v.seen both.seen (get_or v.done k 0) from_v (kv.sound.dones k l)) (end_later w.seen both.seen (get_or w.done k 0) from_w (kw.sound.dones k l));
          floors = λ k l le. end_earlier both.seen r.log (get_or both.floor k 0) seen (floors k l) le;
        };
        seen = seen;
        some_part = omega arith;
        counted = kv.counted;
        floors = floors;
        floors_low = λ k l. let a = sv.floor_size in let b = sw.floor_size in maxes_case (λ (x : ℕ). x ≤ published s.words k) v.floor w.floor k (omega arith) (omega arith) (kv.floors_low k l) (kw.floors_low k l);
        dones_low = λ k l. let a = sv.done_size in let b = sw.done_size in maxes_case (λ (x : ℕ). x ≤ r.at k) v.done w.done k (omega arith) (omega arith) (kv.dones_low k l) (kw.dones_low k l);
        turns_low = λ k l. let a = sv.turn_size in let b = sw.turn_size in maxes_case (λ (x : ℕ). x ≤ turn_of s.words k) v.turn w.turn k (omega arith) (omega arith) (kv.turns_low k l) (kw.turns_low k l);
        author = λ e. ⊎_elim
            (λ (a : v.author ≡ true). let k = kv.author a in (k.0 ∙ sym (moved_not r.writer other id (λ q. apart (sym q ∙ sym k.0))), longer_log v.seen w.seen r.log kw.seen k.1))
            (λ (a : w.author ≡ true). let k = kw.author a in (sym (moved_to r.writer other id (sym k.0)), longer_log' count v.seen w.seen r.log proper kv.seen k.1))
            (or_cases v.author w.author e);
        held = λ k _ e. absurd (omega arith);
        held_stripe = λ k _ e. absurd (omega arith);
        held_log = λ e. absurd (omega arith);
      } in
      let free_other : (k : ℕ) → k < 17 → turn_of s.words k % 2 ≡ 1 → (r.holder k ≢ id) × (r.holder k ≢ other) = λ k l odd. let o = r.out k l odd in let h = o.2 in (
        (λ is. let same : v ≡ o.0 = some-injective v o.0 (sym here ∙ (ap (λ (x : ℕ). get_elem? s.views x) (sym is) ∙ o.1)) in let q : v.hand ≡ o.0.hand = ap (λ (x : View). x.hand) same in absurd (omega arith)),
        (λ is. let same : w ≡ o.0 = some-injective w o.0 (sym at_other ∙ (ap (λ (x : ℕ). get_elem? s.views x) (sym is) ∙ o.1)) in let q : w.hand ≡ o.0.hand = ap (λ (x : View). x.hand) same in absurd (omega arith)),
      ) in record {
        log = r.log;
        at = r.at;
        holder = r.holder;
        writer = writer;
        laid = r.laid;
        each = λ j u e p. ⊎_elim (λ (t : (j ≡ other) × (spent_view ≡ u)). let q : spent_view.parts ≡ u.parts = ap (λ (x : View). x.parts) t.1 in absurd (omega arith))
            (λ (t : (j ≢ other) × (get_elem? vs j ≡ some u)). ⊎_elim (λ (q : (j ≡ id) × (both ≡ u)). subst (λ (x : ℕ × View). K s.words r.log r.at r.holder writer x.0 x.1) (λ i. (sym q.0 i, q.1 i)) mine)
            (λ (q : (j ≢ id) × (get_elem? s.views j ≡ some u)). let k = r.each j u q.1 p in record {
              sound = k.sound;
              seen = k.seen;
              some_part = k.some_part;
              counted = k.counted;
              floors = k.floors;
              floors_low = k.floors_low;
              dones_low = k.dones_low;
              turns_low = k.turns_low;
              author = λ a. let is = k.author a in (is.0 ∙ sym (moved_not r.writer other id (λ x. t.0 (is.0 ∙ x))), is.1);
              held = k.held;
              held_stripe = k.held_stripe;
              held_log = k.held_log;
            }) (at_set s.views id j both u t.1)) (at_set vs other j spent_view u e);
        spent = λ j u e p. ⊎_elim (λ (t : (j ≡ other) × (spent_view ≡ u)). ap (λ (x : View). x.hand) (sym t.1))
            (λ (t : (j ≢ other) × (get_elem? vs j ≡ some u)). ⊎_elim (λ (q : (j ≡ id) × (both ≡ u)). ap (λ (x : View). x.hand) (sym q.1))
            (λ (q : (j ≢ id) × (get_elem? s.views j ≡ some u)). r.spent j u q.1 p) (at_set s.views id j both u t.1)) (at_set vs other j spent_view u e);
        out = λ k l odd. let o = r.out k l odd in let f = free_other k l odd in (o.0, set_else vs other (r.holder k) spent_view f.1 ∙ (set_else s.views id (r.holder k) both f.0 ∙ o.1), o.2);
        written = let was = r.written in dite (ℕ_discrete r.writer other)
            (λ is. let same : w ≡ was.0 = some-injective w was.0 (sym at_other ∙ (ap (λ (x : ℕ). get_elem? s.views x) (sym is) ∙ was.1)) in
            (both, ap (λ (x : ℕ). get_elem? (set vs other spent_view) x) (moved_to r.writer other id is) ∙ (set_else vs other id spent_view (λ q. apart (sym q)) ∙ set_here s.views id both inside), or_right v.author w.author (ap (λ (x : View). x.author) same ∙ was.2), omega arith))
            (λ isnt. dite (ℕ_discrete r.writer id)
            (λ is. let same : v ≡ was.0 = some-injective v was.0 (sym here ∙ (ap (λ (x : ℕ). get_elem? s.views x) (sym is) ∙ was.1)) in
            (both, ap (λ (x : ℕ). get_elem? (set vs other spent_view) x) (moved_not r.writer other id isnt ∙ is) ∙ (set_else vs other id spent_view (λ q. apart (sym q)) ∙ set_here s.views id both inside), or_left v.author w.author (ap (λ (x : View). x.author) same ∙ was.2), omega arith))
            (λ not_id. (was.0, ap (λ (x : ℕ). get_elem? (set vs other spent_view) x) (moved_not r.writer other id isnt) ∙ (set_else vs other r.writer spent_view isnt ∙ (set_else s.views id r.writer both not_id ∙ was.1)), was.2, was.3)));
        shared = let a = sum_by-set (λ (x : View). x.parts) s.views id both v inside in let b = sum_by-set (λ (x : View). x.parts) vs other spent_view w inside' in
            let c : (get_or s.views id v).parts ≡ v.parts = ap (λ (x : View). x.parts) ((there s.views id v here).1 v) in
            let d : (get_or vs other w).parts ≡ w.parts = ap (λ (x : View). x.parts) ((there vs other w there').1 w) in let t = r.shared in omega arith;
      }
