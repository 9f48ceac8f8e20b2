-- A field that is read is the field that was written, and what was written is read again.
use Rattle.std.proofs.Common.{◌≡◌, ℕ, zero, suc, ◌^◌, ◌<◌, true, cond, List, [], ◌∷◌, ◌++◌, length, Option, None, Some, Ok, Err, refl, sym, ap, subst, ◌∙◌, append_assoc}
use Rattle.std.specs.List.{flat_map, AllByRecursion}
use Rattle.std.specs.Int.{w32, w64, to_be_bytes}
use Rattle.std.proofs.lemmas.Bool.{ltb-true, lt-ltb}
use Rattle.std.proofs.lemmas.List.Concat.{flat_map-cons}
use Rattle.ag_model.specs.Bytes.{AreBytes}
use Rattle.ag_model.specs.declared.config.Ticket.{Ticket}
use Rattle.ag_model.specs.declared.config.TermStart.{TermStart}
use Rattle.ag_record.specs.Steps.{◌>>=◌, number_at}
use Rattle.ag_record.proofs.Steps.{bind_ok, when_ok, ok_is, Takes, Takes-then, number_takes, number_again}
use Rattle.ag_wire.specs.declared.fault.WireFault.TheVariants.{Short, BadOrder}
use Rattle.ag_wire.specs.Spelling.{ticket_spelling, start_spelling, IsAfter, RiseAfter, IsStart, IsTicket}
use Rattle.ag_wire.specs.Reading.{ticket_at, is_above, above_at, term_of, lsn_of, start_at, starts_at}

-- ---- tickets

abbrev ticket : ℕ → ℕ → Ticket
ticket incarnation joins = record { incarnation = incarnation; joins = joins }

pub ticket_takes : (bytes : List ℕ) (x : Ticket × List ℕ) → AreBytes bytes → ticket_at bytes ≡ Ok x → Takes bytes (ticket_spelling x.0) x.1 × IsTicket x.0
unfolding ticket_at
ticket_takes bytes x fits e =
    let a = bind_ok (number_at Short w64 bytes) (λ i. number_at Short w32 i.1 >>= λ j. Ok (ticket i.0 j.0, j.1)) x e in
    let b = bind_ok (number_at Short w32 a.0.1) (λ j. Ok (ticket a.0.0 j.0, j.1)) x a.2 in
    let t0 = number_takes Short w64 bytes a.0 fits a.1 in
    let t1 = number_takes Short w32 a.0.1 b.0 t0.0.left b.1 in
    let both = Takes-then bytes (to_be_bytes w64 a.0.0) a.0.1 (to_be_bytes w32 b.0.0) b.0.1 t0.0 t1.0 in
    let made : Ticket × List ℕ = (ticket a.0.0 b.0.0, b.0.1) in
    subst (λ (y : Ticket × List ℕ). Takes bytes (ticket_spelling y.0) y.1 × IsTicket y.0) (ok_is made x b.2) (both, (t0.1, t1.1))

pub ticket_again : (t : Ticket) (rest : List ℕ) → IsTicket t → ticket_at (ticket_spelling t ++ rest) ≡ Ok (t, rest)
unfolding ticket_at
ticket_again t rest h =
    ap ticket_at (append_assoc (to_be_bytes w64 t.incarnation) (to_be_bytes w32 t.joins) rest)
    ∙ (rw (number_again Short w64 t.incarnation (to_be_bytes w32 t.joins ++ rest) h.0, number_again Short w32 t.joins rest h.1) refl)

-- ---- term starts

above_takes : (low : Option ℕ) (bytes : List ℕ) (x : ℕ × List ℕ) → AreBytes bytes → above_at low bytes ≡ Ok x → Takes bytes (to_be_bytes w64 x.0) x.1 × (x.0 < 2 ^ 64) × (is_above low x.0 ≡ true)
unfolding above_at
above_takes low bytes x fits e =
    let a = bind_ok (number_at Short w64 bytes) (λ n. cond (is_above low n.0) (Ok n) (Err BadOrder)) x e in
    let g = when_ok (is_above low a.0.0) BadOrder (Ok a.0) x a.2 in
    let t = number_takes Short w64 bytes a.0 fits a.1 in
    subst (λ (y : ℕ × List ℕ). Takes bytes (to_be_bytes w64 y.0) y.1 × (y.0 < 2 ^ 64) × (is_above low y.0 ≡ true)) (ok_is a.0 x g.1) (t.0, t.1, g.0)

above_again : (low : Option ℕ) (n : ℕ) (rest : List ℕ) → n < 2 ^ 64 → is_above low n ≡ true → above_at low (to_be_bytes w64 n ++ rest) ≡ Ok (n, rest)
unfolding above_at
above_again low n rest lt above = rw (number_again Short w64 n rest lt, above) refl

IsAfter-above : (last : Option TermStart) (s : TermStart) → is_above (term_of last) s.term ≡ true → is_above (lsn_of last) s.lsn ≡ true → IsAfter last s
IsAfter-above None s h k = tt
IsAfter-above (Some l) s h k = (ltb-true _ _ h, ltb-true _ _ k)

above-IsAfter : (last : Option TermStart) (s : TermStart) → IsAfter last s → (is_above (term_of last) s.term ≡ true) × (is_above (lsn_of last) s.lsn ≡ true)
above-IsAfter None s h = (refl, refl)
above-IsAfter (Some l) s h = (lt-ltb _ _ h.0, lt-ltb _ _ h.1)

abbrev start : ℕ → ℕ → TermStart
start term lsn = record { term = term; lsn = lsn }

start_takes : (last : Option TermStart) (bytes : List ℕ) (x : TermStart × List ℕ) → AreBytes bytes → start_at last bytes ≡ Ok x → Takes bytes (start_spelling x.0) x.1 × IsStart x.0 × IsAfter last x.0
unfolding start_at
start_takes last bytes x fits e =
    let a = bind_ok (above_at (term_of last) bytes) (λ t. above_at (lsn_of last) t.1 >>= λ l. Ok (start t.0 l.0, l.1)) x e in
    let b = bind_ok (above_at (lsn_of last) a.0.1) (λ l. Ok (start a.0.0 l.0, l.1)) x a.2 in
    let t0 = above_takes (term_of last) bytes a.0 fits a.1 in
    let t1 = above_takes (lsn_of last) a.0.1 b.0 t0.0.left b.1 in
    let both = Takes-then bytes (to_be_bytes w64 a.0.0) a.0.1 (to_be_bytes w64 b.0.0) b.0.1 t0.0 t1.0 in
    let made : TermStart × List ℕ = (start a.0.0 b.0.0, b.0.1) in
    subst (λ (y : TermStart × List ℕ). Takes bytes (start_spelling y.0) y.1 × IsStart y.0 × IsAfter last y.0) (ok_is made x b.2) (both, (t0.1, t1.1), IsAfter-above last (start a.0.0 b.0.0) t0.2 t1.2)

start_again : (last : Option TermStart) (s : TermStart) (rest : List ℕ) → IsStart s → IsAfter last s → start_at last (start_spelling s ++ rest) ≡ Ok (s, rest)
unfolding start_at
start_again last s rest h after =
    let above = above-IsAfter last s after in
    ap (start_at last) (append_assoc (to_be_bytes w64 s.term) (to_be_bytes w64 s.lsn) rest)
    ∙ (rw (above_again (term_of last) s.term (to_be_bytes w64 s.lsn ++ rest) h.0 above.0, above_again (lsn_of last) s.lsn rest h.1 above.1) refl)

pub starts_take : (n : ℕ) (last : Option TermStart) (bytes : List ℕ) (x : List TermStart × List ℕ) → AreBytes bytes → starts_at last n bytes ≡ Ok x
    → Takes bytes (flat_map start_spelling x.0) x.1 × (length x.0 ≡ n) × AllByRecursion IsStart x.0 × RiseAfter last x.0
unfolding starts_at
starts_take zero last bytes x fits e =
    subst (λ (y : List TermStart × List ℕ). Takes bytes (flat_map start_spelling y.0) y.1 × (length y.0 ≡ 0) × AllByRecursion IsStart y.0 × RiseAfter last y.0) (ok_is ([], bytes) x e) (record { parts = refl; left = fits }, refl, tt, tt)
starts_take (suc n) last bytes x fits e =
    let a = bind_ok (start_at last bytes) (λ s. starts_at (Some s.0) n s.1 >>= λ others. Ok (s.0 ∷ others.0, others.1)) x e in
    let s = a.0 in
    let first = start_takes last bytes s fits a.1 in
    let b = bind_ok (starts_at (Some s.0) n s.1) (λ others. Ok (s.0 ∷ others.0, others.1)) x a.2 in
    let second = starts_take n (Some s.0) s.1 b.0 first.0.left b.1 in
    let both = Takes-then bytes (start_spelling s.0) s.1 (flat_map start_spelling b.0.0) b.0.1 first.0 second.0 in
    let made : List TermStart × List ℕ = (s.0 ∷ b.0.0, b.0.1) in
    subst (λ (y : List TermStart × List ℕ). Takes bytes (flat_map start_spelling y.0) y.1 × (length y.0 ≡ suc n) × AllByRecursion IsStart y.0 × RiseAfter last y.0) (ok_is made x b.2)
    (subst (λ (t : List ℕ). Takes bytes t b.0.1) (sym (flat_map-cons start_spelling s.0 b.0.0)) both, ap suc second.1, (first.1, second.2), (first.2, second.3))

pub starts_again : (starts : List TermStart) (last : Option TermStart) (rest : List ℕ) → AllByRecursion IsStart starts → RiseAfter last starts → starts_at last (length starts) (flat_map start_spelling starts ++ rest) ≡ Ok (starts, rest)
unfolding starts_at
starts_again [] last rest each rising = refl
starts_again (s ∷ starts) last rest each rising =
    let regrouped : flat_map start_spelling (s ∷ starts) ++ rest ≡ start_spelling s ++ (flat_map start_spelling starts ++ rest) = ap (λ (x : List ℕ). x ++ rest) (flat_map-cons start_spelling s starts) ∙ append_assoc (start_spelling s) (flat_map start_spelling starts) rest in
    ap (starts_at last (suc (length starts))) regrouped
    ∙ (rw (start_again last s (flat_map start_spelling starts ++ rest) each.0 rising.0, starts_again starts (Some s) rest each.1 rising.1) refl)
