-- An image that is read is one of a page value.
use Rattle.std.proofs.Common.{◌≡◌, true, List, ℕ, Result, Ok, Err, IfOk}
use Rattle.std.specs.Result.{is_ok}
use Rattle.ag_model.specs.declared.value.PageValue.{PageValue}
use Rattle.ag_page.specs.declared.fault.PageFault.{PageFault}
use Rattle.ag_page.specs.Image.{image_bytes}
use Rattle.ag_page.specs.Spelling.{page_bytes, has_image, IsInRange}
use Rattle.ag_inplace.specs.Spelled.{IsPage}

pub page-read : (r : Result PageValue PageFault) (image : List (List ℕ)) → is_ok r ≡ true → IfOk r (λ v. has_image v ≡ true) → IfOk r (λ v. IsInRange v) → IfOk r (λ v. image_bytes image ≡ page_bytes v) → IsPage image
page-read (Ok v) image e a b c = (v, record { fits = a; range = b; bytes = c })
page-read (Err f) image e a b c = absurd cc
