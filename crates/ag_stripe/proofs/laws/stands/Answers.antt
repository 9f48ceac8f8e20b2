use Rattle.std.proofs.Common.{◌≡◌, ℕ, ◌+◌, ◌&&◌, Bool, true, false, ap, ◌∙◌, arith, eq-eqb, refl}
use Rattle.std.proofs.lemmas.Bool.{le-leb, lt-ltb}
use Rattle.ag_lists.proofs.Tests.{and_three}
use Rattle.ag_model.specs.Page.{value}
use Rattle.ag_model.specs.Rows.{stripe_of}
use Rattle.ag_model.proofs.Prefixes.{prefix_length, value_prefix}
use Rattle.ag_stripe.specs.Known.{Known, known}
use Rattle.ag_stripe.specs.Known.Known.{Value, NotSound}
use Rattle.ag_stripe.specs.Standing.{value_or_none, is_bad}
use Rattle.ag_stripe.specs.Tables.{is_own}
use Rattle.ag_stripe.proofs.laws.stands.Goals as goal

not-bad : (k : Known) → is_bad k ≡ false → k ≡ NotSound → ⊥
not-bad k off e = (let on : is_bad k ≡ true = ap is_bad e in cc)

pub returns-clause-whole : goal.returns-clause-whole
returns-clause-whole c = λ told t opening applied log end top ahead. record {
  applied = end;
  values = λ page own sound.
      let low = own.low in
      let high = own.high in
      let mine : is_own t page ≡ true = and_three _ _ _ (le-leb 16 page low) (lt-ltb page (16 + t.pages) high) (eq-eqb (stripe_of page) t.number own.stripe) in
      let h = ahead page mine (not-bad (known told t page) sound) in
      let above = h.low in
      let under = h.high in
      let at : h.lsn ≡ applied = omega arith in
      ap value_or_none h.value ∙ ap (λ (n : ℕ). value t.pages log.records n page) at;
}

pub returns-clause-longer : goal.returns-clause-longer
returns-clause-longer c = λ pages applied page k first log prefix h.
    let long = prefix_length first log prefix in
    let high = h.high in
    record { lsn = h.lsn; low = h.low; high = omega arith; value = h.value ∙ ap Value (value_prefix pages page h.lsn first log prefix h.high) }
