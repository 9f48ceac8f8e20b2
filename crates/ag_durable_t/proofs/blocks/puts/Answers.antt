use Rattle.std.proofs.Common.{◌≡◌, ◌+◌, ◌*◌, ◌^◌, ◌<◌, ◌++◌, ◌∷◌, [], ℕ, List, length, replicate, refl, sym, ap, subst, ◌∙◌, arith, length-append}
use Rattle.std.proofs.lemmas.List.Sums.{sum_by-append}
use Rattle.ag_model.specs.declared.record.Record.{Record}
use Rattle.ag_model.specs.declared.record.Record.TheVariants.{Put}
use Rattle.ag_model.specs.Sizes.{record_size, records_size}
use Rattle.ag_record.specs.Spelling.{HaveSpelling, HasSpelling}
use Rattle.ag_logstore.proofs.Fitting.{payload, fit_append}
use Rattle.ag_durable_t.proofs.blocks.puts.Goals as goal

-- a Put of 64 bytes
abbrev long_put : ℕ → Record
long_put key = Put 1 key (record { len = 64; bytes = replicate 64 7 })

long_put_fits : (key : ℕ) → key < 2 ^ 32 → HasSpelling (long_put key)
long_put_fits key lt = (omega arith, lt, record { room = refl; most = omega arith; zeros = refl })

-- one more
record More (now : List Record) (key : ℕ) : Type 0 where
  fit : HaveSpelling now
  long : length now ≡ key + 1
  bytes : records_size now ≡ 79 * (key + 1)

more : (old now : List Record) (key : ℕ) → now ≡ old ++ long_put key ∷ [] → key < 2 ^ 32 → HaveSpelling old → length old ≡ key → records_size old ≡ 79 * key → More now key
more old now key is lt fit long bytes = record {
  fit = subst HaveSpelling (sym is) (fit_append old (long_put key ∷ []) fit (long_put_fits key lt, tt));
  long = ap length is ∙ omega (arith, length-append old (long_put key ∷ []), long);
  bytes = ap records_size is ∙ omega (arith, sum_by-append record_size old (long_put key ∷ []), bytes);
}

pub loop-key-preserved : goal.loop-key-preserved
loop-key-preserved c =
    let m = more c.loop-key.records c.push.new.self c.loop-key.key c.in_ok-push.ensures.ok (omega (arith, c.loop-key-test.true, c.requires.most)) c.loop-key.invariant.fit c.loop-key.invariant.long c.loop-key.invariant.bytes in
    record { fit = m.fit; long = m.long; bytes = m.bytes }

pub returns : goal.returns
returns c = payload c.loop-key.records c.loop-key.invariant.fit (omega (arith, c.loop-key.invariant.long, c.requires.least)) (omega (arith, c.loop-key.invariant.bytes, c.requires.most))
