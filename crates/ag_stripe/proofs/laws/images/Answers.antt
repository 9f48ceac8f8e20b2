use Rattle.std.proofs.Common.{◌≡◌, ℕ, Bool, true, cond, List, [], replicate, eqb, eq-eqb, false, lit<, refl, sym, ap, ◌∙◌}
use Rattle.std.proofs.lemmas.Bool.{eqb-true}
use Rattle.ag_model.specs.declared.value.PageValue.{PageValue}
use Rattle.ag_page.specs.Image.{image}
use Rattle.ag_page.specs.Reading.{page_at}
use Rattle.ag_page.specs.Spelling.{has_image, page_bytes, IsInRange}
use Rattle.ag_page.proofs.Pages.{page_again, length-page_bytes, page_bytes-zeros}
use Rattle.ag_page.proofs.Sectors.{image_bytes-image}
use Rattle.ag_stripe.specs.Known.{at_place, empty_page, in_image, is_zero_page}
use Rattle.ag_stripe.specs.Known.Known.{Value, NotItsImage}
use Rattle.ag_stripe.proofs.Images.{image-read}
use Rattle.ag_stripe.proofs.laws.images.Goals as goal

read : (page mark : ℕ) (v : PageValue) → has_image v ≡ true → IsInRange v → in_image page (image mark (page_bytes v)) ≡ at_place page v
read page mark v is range = image-read page (image mark (page_bytes v)) v (ap page_at (image_bytes-image mark (page_bytes v) (length-page_bytes v is range)) ∙ page_again v is range)

pub returns-clause-own : goal.returns-clause-own
returns-clause-own c = λ mark v is range. read v.page mark v is range ∙ ap (λ (b : Bool). cond b (Value v) (cond (is_zero_page v) (Value (empty_page v.page)) NotItsImage)) (eq-eqb v.page v.page refl)

zeros-are : page_bytes (record { page = 0; lsn = 0; horizon = 0; versions = [] }) ≡ replicate 8176 0
unfolding page_bytes
zeros-are = page_bytes-zeros 8144 refl

at_zero : (page : ℕ) → at_place page (record { page = 0; lsn = 0; horizon = 0; versions = [] }) ≡ Value (empty_page page)
at_zero page = by_test (eqb 0 page) refl
  where
    by_test : (b : Bool) → eqb 0 page ≡ b → cond b (Value (record { page = 0; lsn = 0; horizon = 0; versions = [] })) (Value (empty_page page)) ≡ Value (empty_page page)
    by_test true e = ap (λ (n : ℕ). Value (empty_page n)) (eqb-true 0 page e)
    by_test false e = refl

pub returns-clause-zeros : goal.returns-clause-zeros
returns-clause-zeros c = λ mark page.
    ap (λ (bytes : List ℕ). in_image page (image mark bytes)) (sym zeros-are)
    ∙ read page mark (record { page = 0; lsn = 0; horizon = 0; versions = [] }) refl (record { page = lit< tt; lsn = lit< tt; horizon = lit< tt; versions = tt })
    ∙ at_zero page
