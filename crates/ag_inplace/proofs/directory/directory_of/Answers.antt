use Rattle.std.proofs.Common.{◌≡◌, ◌∙◌, ◌+◌, ◌<◌, ◌≤◌, sym, subst, refl, length, get_or, arith, ℕ}
use Rattle.ag_model.specs.Sizes.{change_size}
use Rattle.ag_page.specs.Image.{image_bytes}
use Rattle.ag_inplace.specs.Entries.{StandsAt, place_of}
use Rattle.ag_inplace.proofs.Standing.{page-whole, page-few, count-there, stands}
use Rattle.ag_inplace.proofs.Listed.{filled-none, filled-more, no_version}
use Rattle.ag_inplace.proofs.directory.directory_of.Goals as goal

pub u16_in-count-requires-clause-whole : goal.u16_in-count-requires-clause-whole
u16_in-count-requires-clause-whole c = page-whole c.args.i.now c.requires.0 c.requires.1

pub loop-k-init : goal.loop-k-init
loop-k-init c = λ v h. filled-none v.versions _ refl refl

pub size_in-at-requires : goal.size_in-at-requires
size_in-at-requires c =
    let v = c.requires.0 in
    let h = c.requires.1 in
    let count : c.u16_in-count.result ≡ length v.versions = c.u16_in-count.ensures ∙ count-there c.args.i.now v h in
    let lt : c.loop-k.k < length v.versions = omega (arith, c.from-k-end.ensures, c.loop-k-test.true) in
    let w = get_or v.versions c.loop-k.k no_version in
    let place : c.from.result ≡ place_of v.versions c.loop-k.k = c.from.ensures ∙ (c.loop-k.invariant v h).place in
    (w, subst (λ (n : ℕ). StandsAt (image_bytes c.args.i.now) n w) (sym place) (stands c.args.i.now v c.loop-k.k no_version h lt))

pub overflow_add-at : goal.overflow_add-at
overflow_add-at c =
    let v = c.requires.0 in
    let h = c.requires.1 in
    let count : c.u16_in-count.result ≡ length v.versions = c.u16_in-count.ensures ∙ count-there c.args.i.now v h in
    let lt : c.loop-k.k < length v.versions = omega (arith, c.from-k-end.ensures, c.loop-k-test.true) in
    let w = get_or v.versions c.loop-k.k no_version in
    let place : c.from.result ≡ place_of v.versions c.loop-k.k = c.from.ensures ∙ (c.loop-k.invariant v h).place in
    let here = stands c.args.i.now v c.loop-k.k no_version h lt in
    let size = c.size_in-at.ensures w (subst (λ (n : ℕ). StandsAt (image_bytes c.args.i.now) n w) (sym place) here) in
    let room : place_of v.versions c.loop-k.k + change_size w.change ≤ 8176 = here.room in
    omega (arith, size, place, c.from.ensures)

pub bounds-places-k : goal.bounds-places-k
bounds-places-k c =
    let v = c.requires.0 in
    let h = c.requires.1 in
    let count : c.u16_in-count.result ≡ length v.versions = c.u16_in-count.ensures ∙ count-there c.args.i.now v h in
    omega (arith, c.from-k-end.ensures, c.loop-k-test.true, page-few c.args.i.now v h)

pub loop-k-preserved : goal.loop-k-preserved
loop-k-preserved c = λ v h.
    let count : c.u16_in-count.result ≡ length v.versions = c.u16_in-count.ensures ∙ count-there c.args.i.now v h in
    let few = page-few c.args.i.now v h in
    let lt : c.loop-k.k < length v.versions = omega (arith, c.from-k-end.ensures, c.loop-k-test.true) in
    let w = get_or v.versions c.loop-k.k no_version in
    let place : c.from.result ≡ place_of v.versions c.loop-k.k = c.from.ensures ∙ (c.loop-k.invariant v h).place in
    let size = c.size_in-at.ensures w (subst (λ (n : ℕ). StandsAt (image_bytes c.args.i.now) n w) (sym place) (stands c.args.i.now v c.loop-k.k no_version h lt)) in
    filled-more v.versions c.loop-k.k c.loop-k.at _ c.loop-k.places no_version lt (omega arith) (let e : c.loop-k.at + c.size_in-at.result ≡ c.loop-k.at + change_size w.change = omega (arith, size) in e) (c.loop-k.invariant v h)

pub returns : goal.returns
returns c = λ v h.
    let count : c.u16_in-count.result ≡ length v.versions = c.u16_in-count.ensures ∙ count-there c.args.i.now v h in
    record {
      count = count;
      places = λ k le. (c.loop-k.invariant v h).each k (omega (arith, c.from-k-end.ensures, c.loop-k-test.false));
      stands = λ k x lt. stands c.args.i.now v k x h lt;
    }
