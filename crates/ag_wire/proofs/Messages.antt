-- The two laws of messages: what is read is spelled so, and what is spelled so is read.
use Rattle.std.proofs.Common.{◌≡◌, ℕ, ◌^◌, ◌<◌, true, cond, eqb, List, [], ◌∷◌, ◌++◌, length, None, Result, Ok, Err, inl, inr, refl, sym, ap, subst, ◌∙◌, append_assoc, arith}
use Rattle.std.specs.Prelude.{IfOk}
use Rattle.std.specs.List.{flat_map}
use Rattle.std.specs.Int.{w32, w64, to_be_bytes}
use Rattle.std.proofs.lemmas.Bool.{eqb-true}
use Rattle.std.proofs.lemmas.List.{append-nil, nil_from_length}
use Rattle.ag_model.specs.Bytes.{AreBytes}
use Rattle.ag_model.proofs.Numbers.{AreBytes-rest}
use Rattle.ag_model.specs.declared.config.Ticket.{Ticket}
use Rattle.ag_model.specs.declared.record.Record.{Record}
use Rattle.ag_model.specs.declared.config.TermStart.{TermStart}
use Rattle.ag_model.specs.declared.message.Block.{Block as BlockOf}
use Rattle.ag_model.specs.declared.message.Body.{Body}
use Rattle.ag_model.specs.declared.message.Body.TheVariants.{Hello, Resume, Block, Ack}
use Rattle.ag_model.specs.declared.message.Message.{Message}
use Rattle.ag_record.specs.Steps.{◌>>=◌, number_at}
use Rattle.ag_record.proofs.Steps.{bind_ok, when_ok, chosen, ok_is, Takes, Takes-then, Takes-kind, number_takes, number_again}
use Rattle.ag_wire.specs.declared.fault.WireFault.{WireFault}
use Rattle.ag_wire.specs.declared.fault.WireFault.TheVariants.{Short, BadKind, Extra}
use Rattle.ag_wire.specs.Spelling.{pair_spelling, ticket_spelling, start_spelling, starts_spelling, block_spelling, spelling, IsBody, HasSpelling}
use Rattle.ag_wire.specs.Reading.{Answers, ticket_at, starts_at, payload_at, hello_at, resume_at, block_at, ack_at, fields_at, message_at, whole, reading}
use Rattle.ag_wire.proofs.Parts.{ticket_takes, ticket_again, starts_take, starts_again}
use Rattle.ag_wire.proofs.Payload.{sized, payload_takes, payload_again}

abbrev message : ℕ → Body → Message
message term body = record { term = term; body = body }

abbrev block : ℕ → ℕ → List Record → BlockOf
block first term records = record { first = first; term = term; records = records }

-- a message was read from bytes
abbrev Reads : List ℕ → Message × List ℕ → Type 0
Reads bytes x = Takes bytes (spelling x.0) x.1 × HasSpelling x.0

hello_takes : (bytes : List ℕ) (x : Message × List ℕ) → AreBytes bytes → hello_at bytes ≡ Ok x → Reads (1 ∷ bytes) x
unfolding hello_at
hello_takes bytes x fits e =
    let f4 = λ (term : ℕ) (ticket : Ticket) (end : ℕ) (starts : List TermStart × List ℕ). let r : Result (Message × List ℕ) WireFault = Ok (message term (Hello ticket end starts.0), starts.1) in r in
    let f3 = λ (term : ℕ) (ticket : Ticket) (end : ℕ) (count : ℕ × List ℕ). starts_at None count.0 count.1 >>= f4 term ticket end in
    let f2 = λ (term : ℕ) (ticket : Ticket) (end : ℕ × List ℕ). number_at Short w32 end.1 >>= f3 term ticket end.0 in
    let f1 = λ (term : ℕ) (ticket : Ticket × List ℕ). number_at Short w64 ticket.1 >>= f2 term ticket.0 in
    let a = bind_ok (number_at Short w64 bytes) (λ term. ticket_at term.1 >>= f1 term.0) x e in
    let b = bind_ok (ticket_at a.0.1) (f1 a.0.0) x a.2 in
    let c = bind_ok (number_at Short w64 b.0.1) (f2 a.0.0 b.0.0) x b.2 in
    let d = bind_ok (number_at Short w32 c.0.1) (f3 a.0.0 b.0.0 c.0.0) x c.2 in
    let s = bind_ok (starts_at None d.0.0 d.0.1) (f4 a.0.0 b.0.0 c.0.0) x d.2 in
    let t0 = number_takes Short w64 bytes a.0 fits a.1 in
    let t1 = ticket_takes a.0.1 b.0 t0.0.left b.1 in
    let t2 = number_takes Short w64 b.0.1 c.0 t1.0.left c.1 in
    let t3 = number_takes Short w32 c.0.1 d.0 t2.0.left d.1 in
    let t4 = starts_take d.0.0 None d.0.1 s.0 t3.0.left s.1 in
    let each = flat_map start_spelling s.0.0 in
    let e34 : Takes c.0.1 (starts_spelling s.0.0) s.0.1 = subst (λ (k : ℕ). Takes c.0.1 (to_be_bytes w32 k ++ each) s.0.1) (sym t4.1) (Takes-then c.0.1 (to_be_bytes w32 d.0.0) d.0.1 each s.0.1 t3.0 t4.0) in
    let e24 = Takes-then b.0.1 (to_be_bytes w64 c.0.0) c.0.1 (starts_spelling s.0.0) s.0.1 t2.0 e34 in
    let e14 = Takes-then a.0.1 (ticket_spelling b.0.0) b.0.1 (to_be_bytes w64 c.0.0 ++ starts_spelling s.0.0) s.0.1 t1.0 e24 in
    let e04 = Takes-then bytes (to_be_bytes w64 a.0.0) a.0.1 (ticket_spelling b.0.0 ++ (to_be_bytes w64 c.0.0 ++ starts_spelling s.0.0)) s.0.1 t0.0 e14 in
    let made : Message × List ℕ = (message a.0.0 (Hello b.0.0 c.0.0 s.0.0), s.0.1) in
    let most : length s.0.0 < 2 ^ 32 = omega (arith, t3.1, t4.1) in
    subst (Reads (1 ∷ bytes)) (ok_is made x s.2)
    (Takes-kind 1 bytes (to_be_bytes w64 a.0.0 ++ (ticket_spelling b.0.0 ++ (to_be_bytes w64 c.0.0 ++ starts_spelling s.0.0))) s.0.1 e04, (t0.1, (t1.1, t2.1, record { most = most; each = t4.2; rising = t4.3 })))

resume_takes : (bytes : List ℕ) (x : Message × List ℕ) → AreBytes bytes → resume_at bytes ≡ Ok x → Reads (2 ∷ bytes) x
unfolding resume_at
resume_takes bytes x fits e =
    let f3 = λ (term : ℕ) (ticket : Ticket) (fork : ℕ) (end : ℕ × List ℕ). let r : Result (Message × List ℕ) WireFault = Ok (message term (Resume ticket fork end.0), end.1) in r in
    let f2 = λ (term : ℕ) (ticket : Ticket) (fork : ℕ × List ℕ). number_at Short w64 fork.1 >>= f3 term ticket fork.0 in
    let f1 = λ (term : ℕ) (ticket : Ticket × List ℕ). number_at Short w64 ticket.1 >>= f2 term ticket.0 in
    let a = bind_ok (number_at Short w64 bytes) (λ term. ticket_at term.1 >>= f1 term.0) x e in
    let b = bind_ok (ticket_at a.0.1) (f1 a.0.0) x a.2 in
    let c = bind_ok (number_at Short w64 b.0.1) (f2 a.0.0 b.0.0) x b.2 in
    let d = bind_ok (number_at Short w64 c.0.1) (f3 a.0.0 b.0.0 c.0.0) x c.2 in
    let t0 = number_takes Short w64 bytes a.0 fits a.1 in
    let t1 = ticket_takes a.0.1 b.0 t0.0.left b.1 in
    let t2 = number_takes Short w64 b.0.1 c.0 t1.0.left c.1 in
    let t3 = number_takes Short w64 c.0.1 d.0 t2.0.left d.1 in
    let e23 = Takes-then b.0.1 (to_be_bytes w64 c.0.0) c.0.1 (to_be_bytes w64 d.0.0) d.0.1 t2.0 t3.0 in
    let e13 = Takes-then a.0.1 (ticket_spelling b.0.0) b.0.1 (pair_spelling c.0.0 d.0.0) d.0.1 t1.0 e23 in
    let e03 = Takes-then bytes (to_be_bytes w64 a.0.0) a.0.1 (ticket_spelling b.0.0 ++ pair_spelling c.0.0 d.0.0) d.0.1 t0.0 e13 in
    let made : Message × List ℕ = (message a.0.0 (Resume b.0.0 c.0.0 d.0.0), d.0.1) in
    subst (Reads (2 ∷ bytes)) (ok_is made x d.2) (Takes-kind 2 bytes (to_be_bytes w64 a.0.0 ++ (ticket_spelling b.0.0 ++ pair_spelling c.0.0 d.0.0)) d.0.1 e03, (t0.1, (t1.1, t2.1, t3.1)))

block_takes : (bytes : List ℕ) (x : Message × List ℕ) → AreBytes bytes → block_at bytes ≡ Ok x → Reads (3 ∷ bytes) x
unfolding block_at
block_takes bytes x fits e =
    let f3 = λ (term own first : ℕ) (records : List Record × List ℕ). let r : Result (Message × List ℕ) WireFault = Ok (message term (Block (block first own records.0)), records.1) in r in
    let f2 = λ (term own : ℕ) (first : ℕ × List ℕ). payload_at first.1 >>= f3 term own first.0 in
    let f1 = λ (term : ℕ) (own : ℕ × List ℕ). number_at Short w64 own.1 >>= f2 term own.0 in
    let a = bind_ok (number_at Short w64 bytes) (λ term. number_at Short w64 term.1 >>= f1 term.0) x e in
    let b = bind_ok (number_at Short w64 a.0.1) (f1 a.0.0) x a.2 in
    let c = bind_ok (number_at Short w64 b.0.1) (f2 a.0.0 b.0.0) x b.2 in
    let d = bind_ok (payload_at c.0.1) (f3 a.0.0 b.0.0 c.0.0) x c.2 in
    let t0 = number_takes Short w64 bytes a.0 fits a.1 in
    let t1 = number_takes Short w64 a.0.1 b.0 t0.0.left b.1 in
    let t2 = number_takes Short w64 b.0.1 c.0 t1.0.left c.1 in
    let t3 = payload_takes c.0.1 d.0 t2.0.left d.1 in
    let e12 = Takes-then a.0.1 (to_be_bytes w64 b.0.0) b.0.1 (to_be_bytes w64 c.0.0) c.0.1 t1.0 t2.0 in
    let e13 = Takes-then a.0.1 (pair_spelling b.0.0 c.0.0) c.0.1 (sized d.0.0) d.0.1 e12 t3.0 in
    let own = block c.0.0 b.0.0 d.0.0 in
    let e03 = Takes-then bytes (to_be_bytes w64 a.0.0) a.0.1 (block_spelling own) d.0.1 t0.0 e13 in
    let made : Message × List ℕ = (message a.0.0 (Block own), d.0.1) in
    subst (Reads (3 ∷ bytes)) (ok_is made x d.2) (Takes-kind 3 bytes (to_be_bytes w64 a.0.0 ++ block_spelling own) d.0.1 e03, (t0.1, (t1.1, t2.1, t3.1)))

ack_takes : (bytes : List ℕ) (x : Message × List ℕ) → AreBytes bytes → ack_at bytes ≡ Ok x → Reads (4 ∷ bytes) x
unfolding ack_at
ack_takes bytes x fits e =
    let f2 = λ (term hardened : ℕ) (low : ℕ × List ℕ). let r : Result (Message × List ℕ) WireFault = Ok (message term (Ack hardened low.0), low.1) in r in
    let f1 = λ (term : ℕ) (hardened : ℕ × List ℕ). number_at Short w64 hardened.1 >>= f2 term hardened.0 in
    let a = bind_ok (number_at Short w64 bytes) (λ term. number_at Short w64 term.1 >>= f1 term.0) x e in
    let b = bind_ok (number_at Short w64 a.0.1) (f1 a.0.0) x a.2 in
    let c = bind_ok (number_at Short w64 b.0.1) (f2 a.0.0 b.0.0) x b.2 in
    let t0 = number_takes Short w64 bytes a.0 fits a.1 in
    let t1 = number_takes Short w64 a.0.1 b.0 t0.0.left b.1 in
    let t2 = number_takes Short w64 b.0.1 c.0 t1.0.left c.1 in
    let e12 = Takes-then a.0.1 (to_be_bytes w64 b.0.0) b.0.1 (to_be_bytes w64 c.0.0) c.0.1 t1.0 t2.0 in
    let e02 = Takes-then bytes (to_be_bytes w64 a.0.0) a.0.1 (pair_spelling b.0.0 c.0.0) c.0.1 t0.0 e12 in
    let made : Message × List ℕ = (message a.0.0 (Ack b.0.0 c.0.0), c.0.1) in
    subst (Reads (4 ∷ bytes)) (ok_is made x c.2) (Takes-kind 4 bytes (to_be_bytes w64 a.0.0 ++ pair_spelling b.0.0 c.0.0) c.0.1 e02, (t0.1, (t1.1, t2.1)))

-- a byte that is no kind
no_kind : {A : Type 0} (x : A) → Err BadKind ≡ Ok x → ⊥
no_kind x e = cc

fields_take : (kind : ℕ) (bytes : List ℕ) (x : Message × List ℕ) → AreBytes bytes → fields_at kind bytes ≡ Ok x → Reads (kind ∷ bytes) x
unfolding fields_at
fields_take kind bytes x fits e =
    let is = λ (n : ℕ) (h : eqb kind n ≡ true) (t : Reads (n ∷ bytes) x). subst (λ (k : ℕ). Reads (k ∷ bytes) x) (sym (eqb-true kind n h)) t in
    let e4 = cond (eqb kind 4) (ack_at bytes) (Err BadKind) in
    let e3 = cond (eqb kind 3) (block_at bytes) e4 in
    let e2 = cond (eqb kind 2) (resume_at bytes) e3 in
    elim (chosen (eqb kind 1) (hello_at bytes) e2 x e) [
      | inl p ↦ is 1 p.0 (hello_takes bytes x fits p.1)
      | inr q ↦ elim (chosen (eqb kind 2) (resume_at bytes) e3 x q) [
        | inl p ↦ is 2 p.0 (resume_takes bytes x fits p.1)
        | inr q ↦ elim (chosen (eqb kind 3) (block_at bytes) e4 x q) [
          | inl p ↦ is 3 p.0 (block_takes bytes x fits p.1)
          | inr q ↦ elim (chosen (eqb kind 4) (ack_at bytes) (Err BadKind) x q) [
            | inl p ↦ is 4 p.0 (ack_takes bytes x fits p.1)
            | inr q ↦ absurd (no_kind x q)
          ]
        ]
      ]
    ]

-- what is read is spelled so
message_takes : (bytes : List ℕ) (x : Message × List ℕ) → AreBytes bytes → message_at bytes ≡ Ok x → Reads bytes x
unfolding message_at
message_takes [] x fits e = absurd cc
message_takes (kind ∷ bytes) x fits e = fields_take kind bytes x (AreBytes-rest kind bytes fits) e

-- what is spelled so is read
body_again : (term : ℕ) (body : Body) (rest : List ℕ) → term < 2 ^ 64 → IsBody body → message_at (spelling (message term body) ++ rest) ≡ Ok (message term body, rest)
unfolding message_at fields_at hello_at resume_at block_at ack_at
body_again term (Hello ticket end starts) rest fits h =
    let each = flat_map start_spelling starts in
    let r4 : starts_spelling starts ++ rest ≡ to_be_bytes w32 (length starts) ++ (each ++ rest) = append_assoc (to_be_bytes w32 (length starts)) each rest in
    let r3 : (to_be_bytes w64 end ++ starts_spelling starts) ++ rest ≡ to_be_bytes w64 end ++ (to_be_bytes w32 (length starts) ++ (each ++ rest)) = append_assoc (to_be_bytes w64 end) (starts_spelling starts) rest ∙ ap (λ (z : List ℕ). to_be_bytes w64 end ++ z) r4 in
    let r2 = append_assoc (ticket_spelling ticket) (to_be_bytes w64 end ++ starts_spelling starts) rest ∙ ap (λ (z : List ℕ). ticket_spelling ticket ++ z) r3 in
    let r1 = append_assoc (to_be_bytes w64 term) (ticket_spelling ticket ++ (to_be_bytes w64 end ++ starts_spelling starts)) rest ∙ ap (λ (z : List ℕ). to_be_bytes w64 term ++ z) r2 in
    ap hello_at r1
    ∙ (rw (
      number_again Short w64 term (ticket_spelling ticket ++ (to_be_bytes w64 end ++ (to_be_bytes w32 (length starts) ++ (each ++ rest)))) fits,
      ticket_again ticket (to_be_bytes w64 end ++ (to_be_bytes w32 (length starts) ++ (each ++ rest))) h.0,
      number_again Short w64 end (to_be_bytes w32 (length starts) ++ (each ++ rest)) h.1,
      number_again Short w32 (length starts) (each ++ rest) h.2.most,
      starts_again starts None rest h.2.each h.2.rising,
    ) refl)
body_again term (Resume ticket fork end) rest fits h =
    let r3 = append_assoc (to_be_bytes w64 fork) (to_be_bytes w64 end) rest in
    let r2 = append_assoc (ticket_spelling ticket) (pair_spelling fork end) rest ∙ ap (λ (z : List ℕ). ticket_spelling ticket ++ z) r3 in
    let r1 = append_assoc (to_be_bytes w64 term) (ticket_spelling ticket ++ pair_spelling fork end) rest ∙ ap (λ (z : List ℕ). to_be_bytes w64 term ++ z) r2 in
    ap resume_at r1
    ∙ (rw (
      number_again Short w64 term (ticket_spelling ticket ++ (to_be_bytes w64 fork ++ (to_be_bytes w64 end ++ rest))) fits,
      ticket_again ticket (to_be_bytes w64 fork ++ (to_be_bytes w64 end ++ rest)) h.0,
      number_again Short w64 fork (to_be_bytes w64 end ++ rest) h.1,
      number_again Short w64 end rest h.2,
    ) refl)
body_again term (Block b) rest fits h =
    let r3 = append_assoc (to_be_bytes w64 b.term) (to_be_bytes w64 b.first) (sized b.records ++ rest) in
    let r2 = append_assoc (pair_spelling b.term b.first) (sized b.records) rest ∙ r3 in
    let r1 = append_assoc (to_be_bytes w64 term) (block_spelling b) rest ∙ ap (λ (z : List ℕ). to_be_bytes w64 term ++ z) r2 in
    ap block_at r1
    ∙ (rw (
      number_again Short w64 term (to_be_bytes w64 b.term ++ (to_be_bytes w64 b.first ++ (sized b.records ++ rest))) fits,
      number_again Short w64 b.term (to_be_bytes w64 b.first ++ (sized b.records ++ rest)) h.0,
      number_again Short w64 b.first (sized b.records ++ rest) h.1,
      payload_again b.records rest h.2,
    ) refl)
body_again term (Ack hardened low) rest fits h =
    let r2 = append_assoc (to_be_bytes w64 hardened) (to_be_bytes w64 low) rest in
    let r1 = append_assoc (to_be_bytes w64 term) (pair_spelling hardened low) rest ∙ ap (λ (z : List ℕ). to_be_bytes w64 term ++ z) r2 in
    ap ack_at r1
    ∙ (rw (
      number_again Short w64 term (to_be_bytes w64 hardened ++ (to_be_bytes w64 low ++ rest)) fits,
      number_again Short w64 hardened (to_be_bytes w64 low ++ rest) h.0,
      number_again Short w64 low rest h.1,
    ) refl)
body_again term _ rest fits h = absurd h

pub reading_again : (m : Message) → HasSpelling m → reading (spelling m) ≡ Ok m
reading_again m h = rw (ap message_at (sym (append-nil (spelling m))) ∙ body_again m.term m.body [] h.0 h.1) refl

-- the message that was read
read_message : (bytes : List ℕ) (m : Message) → AreBytes bytes → reading bytes ≡ Ok m → HasSpelling m × (bytes ≡ spelling m)
read_message bytes m fits e =
    let a = bind_ok (message_at bytes) whole m e in
    let x = a.0 in
    let t = message_takes bytes x fits a.1 in
    let g = when_ok (eqb (length x.1) 0) Extra (Ok x.0) m a.2 in
    let none : x.1 ≡ [] = nil_from_length x.1 (eqb-true (length x.1) 0 g.0) in
    subst (λ (n : Message). HasSpelling n × (bytes ≡ spelling n)) (ok_is x.0 m g.1)
    (t.1, t.0.parts ∙ ap (λ (z : List ℕ). spelling x.0 ++ z) none ∙ append-nil (spelling x.0))

-- the same of an answer
pub read_is : (bytes : List ℕ) (r : Result Message WireFault) → AreBytes bytes → Answers r (reading bytes) → IfOk r (λ m. HasSpelling m × (bytes ≡ spelling m))
read_is bytes (Ok m) fits e = read_message bytes m fits e
read_is bytes (Err f) fits e = tt

-- no two messages have the same bytes
pub spelling-once : (m n : Message) → HasSpelling m → HasSpelling n → spelling m ≡ spelling n → m ≡ n
spelling-once m n h k e = ok_is m n (sym (reading_again m h) ∙ ap reading e ∙ reading_again n k)
