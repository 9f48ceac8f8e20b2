-- A message that is taken out of a link of bytes.
use Rattle.std.proofs.Common.{◌≡◌, ℕ, ◌-◌, ◌<◌, List, ◌++◌, length, take, drop, sym, ap, ap₂, ◌∙◌, arith, inl, inr}
use Rattle.std.specs.Prelude.{Result, Ok, Err, IsOk, OnOk, OnErr, ◌↔◌, true, false}
use Rattle.std.proofs.lemmas.Bool.{cases_order}
use Rattle.std.proofs.lemmas.List.{take_all, drop_all, take-map, map-append, append-nil}
use Rattle.std.specs.List.{drop-map}
use Rattle.ag_link.specs.declared.fault.LinkFault.{LinkFault}
use Rattle.ag_link.specs.Numbers.{HasMessage}
use Rattle.ag_group.specs.InFlight.{message_of, messages_of}

-- all messages stay where none has the number
none_taken : (link : List (List ℕ)) (k : ℕ) → length link < k → link ≡ take (k - 1) link ++ drop k link
none_taken link k h = sym (append-nil link) ∙ ap₂ (λ (x y : List (List ℕ)). x ++ y) (sym (take_all (k - 1) link (omega (arith, h)))) (sym (drop_all k link (omega (arith, h))))

-- the messages, where the bytes of one are taken out
bytes_taken : (before after : List (List ℕ)) (k : ℕ) → after ≡ take (k - 1) before ++ drop k before → messages_of after ≡ take (k - 1) (messages_of before) ++ drop k (messages_of before)
bytes_taken before after k is =
    ap messages_of is ∙ map-append message_of (take (k - 1) before) (drop k before)
    ∙ ap₂ (λ x y. x ++ y) (sym (take-map message_of (k - 1) before)) (sym (drop-map message_of k before))

pub taken_out : (before after : List (List ℕ)) (k : ℕ) (r : Result (Unit {0}) LinkFault) → 0 < k → OnOk r (after ≡ take (k - 1) before ++ drop k before) → OnErr r (after ≡ before) → (IsOk r ↔ HasMessage before k)
    → messages_of after ≡ take (k - 1) (messages_of before) ++ drop k (messages_of before)
taken_out before after k (Ok u) some rest same has = bytes_taken before after k rest
taken_out before after k (Err e) some rest same has = elim (cases_order (length before) k) [
  | inl e ↦ absurd (let f : false ≡ true = has.1 (omega (arith, some), omega (arith, e)) in cc)
  | inr (inl l) ↦ bytes_taken before after k (same ∙ none_taken before k l)
  | inr (inr g) ↦ absurd (let f : false ≡ true = has.1 (omega (arith, some), omega (arith, g)) in cc)
]
